use Rattle.std.proofs.Common.{◌≡◌, ◌∷◌, ℕ, All, heap_items, refl, subst, ◌∙◌, arith}
use Rattle.std.specs.List.Sorted.{IsPermutation}
use Rattle.stg_redundant.proofs.Searching.{starting}
use Rattle.stg_redundant.proofs.search.start.Goals as goal

pub returns-clause-ok : goal.returns-clause-ok
returns-clause-ok c g p b long live =
    let zeros : All (λ (room : ℕ). room ≡ 0) c.fill.new.self = λ k d low. c.fill.ensures.clones k d (omega (arith, low, c.fill.ensures.len)) refl in
    let entries = heap_items c.push.new.self in
    starting g p c.args.from b c.args.all c.fill.new.self entries zeros (omega (arith, c.requires.from, c.fill.ensures.len)) (c.fill.ensures.len ∙ long) live
    (subst (λ xs. IsPermutation ((c.args.all, c.args.from) ∷ xs) entries) c.clear.ensures.items c.in_ok-push.ensures.permutation)
