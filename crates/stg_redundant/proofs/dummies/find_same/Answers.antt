use Rattle.std.proofs.Common.{length, ap, sym, subst, ◌∙◌}
use Rattle.stg_redundant.specs.inner.Tests.{first_of, first_in, is_same_dummy}
use Rattle.stg_redundant.specs.inner.Searches.{IsFirst}
use Rattle.stg_redundant.proofs.FirstSame.{takers-IsFirst, givers-IsFirst}
use Rattle.stg_redundant.proofs.dummies.find_same.Goals as goal

pub returns-in-Some : goal.returns-in-Some
returns-in-Some c =
    let g = c.args.editor.now.now in
    let t = c.args.t in
    let first = sym (c.first_of.ensures ∙ ap first_of c.takes.ensures.value) ∙ c.in-Some.is in
    let found = c.first_same.ensures ∙ ap (first_in (is_same_dummy g t)) c.takers.ensures.value in
    subst (IsFirst (is_same_dummy g t) (length g.trans)) (sym found) (takers-IsFirst g t c.in-Some.p c.requires first)

pub returns-in-Some-first_of : goal.returns-in-Some-first_of
returns-in-Some-first_of c =
    let g = c.args.editor.now.now in
    let t = c.args.t in
    let first = sym (c.first_of-2.ensures ∙ ap first_of c.gives.ensures.value) ∙ c.in-Some-first_of.is in
    let found = c.first_same-in-Some-first_of.ensures ∙ ap (first_in (is_same_dummy g t)) c.givers.ensures.value in
    subst (IsFirst (is_same_dummy g t) (length g.trans)) (sym found) (givers-IsFirst g t c.in-Some-first_of.p c.requires first)
