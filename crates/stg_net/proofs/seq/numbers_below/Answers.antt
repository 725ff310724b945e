use Rattle.std.proofs.Common.{◌∙◌, ◌∷◌, [], ◌++◌, List, ℕ, add-one, ap, sym}
use Rattle.std.specs.List.{range_with_len}
use Rattle.stg_net.proofs.Buckets.{range-push_zero}
use Rattle.stg_net.proofs.seq.numbers_below.Goals as goal

pub loop-k-preserved : goal.loop-k-preserved
loop-k-preserved c = c.in_ok-push.ensures.ok ∙ ap (λ (l : List ℕ). l ++ c.loop-k.k ∷ []) c.loop-k.invariant ∙ sym (ap (range_with_len 0) (add-one c.loop-k.k) ∙ range-push_zero c.loop-k.k)
