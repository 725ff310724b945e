use Rattle.std.proofs.Common.{◌≡◌, ◌≤◌, ◌*◌, length, subst, sym, ap, ◌∙◌}
use Rattle.stg_edit.specs.Replacing.{new_places, new_arcs}
use Rattle.stg_edit.specs.Walks.{taken_places, given_places}
use Rattle.edit_measure.proofs.Rooms.{new_places-le, new_arcs-le}
use Rattle.edit_measure.proofs.measure.room_for.Goals as goal

pub returns-clause-places : goal.returns-clause-places
returns-clause-places c =
    let g = c.args.editor.now.now in
    let t = c.args.t in
    let made : c.in-Some.places ≡ length (taken_places g t) * length (given_places g t) = c.in-Some.ensures.1 ∙ (λ i. c.count_takes-before.ensures i * c.count_gives-after.ensures i) in
    subst (λ n. new_places g t ≤ n) (sym made) (new_places-le g t)

pub returns-clause-arcs : goal.returns-clause-arcs
returns-clause-arcs c =
    let g = c.args.editor.now.now in
    let t = c.args.t in
    let most : c.in-Some-checked_mul.most ≡ length g.trans * 2 = c.in-Some-checked_mul.ensures.1 ∙ ap (λ n. n * 2) c.all_trans.ensures.value in
    let made : c.in-Some-checked_mul-2.arcs ≡ c.in-Some.places * (length g.trans * 2) = c.in-Some-checked_mul-2.ensures.1 ∙ ap (λ n. c.in-Some.places * n) most in
    subst (λ n. new_arcs g t ≤ n) (sym made) (new_arcs-le g t c.in-Some.places (returns-clause-places c))
