use Rattle.std.proofs.Common.{ℕ, ◌∷◌, ◌++◌, [], All, zero-add, subst, sym, ◌∙◌}
use Rattle.std.proofs.lemmas.List.Elements.{All-append, All-cons, All-nil}
use Rattle.std.proofs.lemmas.List.FromFn.{map-range_with_len_more}
use Rattle.stg_net.specs.Net.{NetLists}
use Rattle.astg_write.specs.Writable.{IsWritable}
use Rattle.stg_decomp.specs.Settled.{settled_part}
use Rattle.stg_decomp.proofs.settle.settle_nets.Goals as goal

pub loop-i-preserved : goal.loop-i-preserved
loop-i-preserved c =
    let f : ℕ → NetLists = λ i. (settled_part c.args.parts.now i).net in
    let m = c.in_ok-settle.field-0 in
    let before = c.loop-i.invariant in
    record {
      nets = c.in_ok-push.ensures.ok ∙ (λ k. before.nets k ++ c.in_ok-settle.ensures.value k ∷ []) ∙ sym (map-range_with_len_more f 0 c.loop-i.i c.loop-i.i (zero-add c.loop-i.i));
      writable = subst (All IsWritable) (sym c.in_ok-push.ensures.ok) (All-append IsWritable c.loop-i.nets (m ∷ []) before.writable (All-cons IsWritable m [] c.in_ok-settle.ensures.writable (All-nil IsWritable)));
    }
