use Rattle.std.proofs.Common.{ℕ, ◌+◌, ◌∷◌, ◌++◌, [], List, ap, ap₂, zero-add, sym, ◌∙◌}
use Rattle.std.proofs.lemmas.List.FromFn.{map-range_with_len_more}
use Rattle.astg_write.specs.ComponentText.{component_text}
use Rattle.stg_crew.specs.Parts.{part_at}
use Rattle.desk_http.proofs.making.part_texts.Goals as goal

pub loop-k-preserved : goal.loop-k-preserved
loop-k-preserved c =
    let f : ℕ → List ℕ = λ k. component_text (part_at c.args.answer.now.parts k).net (k + 1) in
    c.in_ok-push.ensures.ok
    ∙ ap₂ (λ (xs : List (List ℕ)) (x : List ℕ). xs ++ x ∷ []) c.loop-k.invariant c.in_ok-part_text.ensures.value
    ∙ sym (map-range_with_len_more f 0 c.loop-k.k c.loop-k.k (zero-add c.loop-k.k))
