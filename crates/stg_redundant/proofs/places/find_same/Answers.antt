use Rattle.std.proofs.Common.{length, ap, sym, subst, ◌∙◌}
use Rattle.stg_redundant.specs.inner.Tests.{first_of, first_in, is_same_place}
use Rattle.stg_redundant.specs.inner.Searches.{IsFirst}
use Rattle.stg_redundant.proofs.FirstSame.{taken-IsFirst, given-IsFirst}
use Rattle.stg_redundant.proofs.places.find_same.Goals as goal

pub returns-in-Some-clause-value : goal.returns-in-Some-clause-value
returns-in-Some-clause-value c =
    let g = c.args.editor.now.now in
    let p = c.args.p in
    let first = sym (c.first_of.ensures ∙ ap first_of c.takers.ensures.value) ∙ c.in-Some.is in
    let found = c.first_same.ensures ∙ ap (first_in (is_same_place g p)) c.takes.ensures.value in
    subst (IsFirst (is_same_place g p) (length g.places)) (sym found)
    (taken-IsFirst g p c.in-Some.t c.takers.ensures.draft.narrow c.requires first)

pub returns-in-Some-first_of-clause-value : goal.returns-in-Some-first_of-clause-value
returns-in-Some-first_of-clause-value c =
    let g = c.args.editor.now.now in
    let p = c.args.p in
    let first = sym (c.first_of-2.ensures ∙ ap first_of c.givers.ensures.value) ∙ c.in-Some-first_of.is in
    let found = c.first_same-in-Some-first_of.ensures ∙ ap (first_in (is_same_place g p)) c.gives.ensures.value in
    subst (IsFirst (is_same_place g p) (length g.places)) (sym found)
    (given-IsFirst g p c.in-Some-first_of.t c.givers.ensures.draft.narrow c.requires first)
