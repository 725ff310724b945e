use Rattle.std.proofs.Common.{◌≡◌, ◌+◌, ◌≤◌, map}
use Rattle.std.specs.List.{range_with_len}
use Rattle.astg_write.specs.ComponentText.{component_text}
use Rattle.stg_crew.specs.Parts.{part_at}
use Rattle.desk_http.proofs.making.part_texts.Given as goal

abbrev pub invariant-loop-k : goal.invariant-loop-k
invariant-loop-k l =
    l.all ≡ map (λ k. component_text (part_at l.answer.parts k).net (k + 1)) (range_with_len 0 l.k)
