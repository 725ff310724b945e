use Rattle.std.proofs.Common.{length, sym, subst, ◌∙◌}
use Rattle.std.proofs.lemmas.Bool.{false≢true}
use Rattle.stg_laws.specs.RedundantPlaces.{IsSamePlace}
use Rattle.stg_redundant.specs.inner.Tests.{is_same_place}
use Rattle.stg_redundant.specs.inner.Searches.{IsFirst}
use Rattle.stg_redundant.proofs.RuleTests.{same_place_is, same_place_there, loop_place_is, loop_place_there, least_of_first, none_same, not_redundant}
use Rattle.stg_redundant.proofs.places.rule_of.Goals as goal

pub returns-in-Some-clause-value : goal.returns-in-Some-clause-value
returns-in-Some-clause-value c =
    let g = c.args.editor.now.now in
    let p = c.args.p in
    let f = subst (IsFirst (is_same_place g p) (length g.places)) c.in-Some.is c.find_same.ensures.value in
    (same_place_is g p c.in-Some.q c.find_same.ensures.draft.narrow c.requires.live f.1, least_of_first (is_same_place g p) (IsSamePlace g p) (same_place_there g p) c.in-Some.q f.2)

pub returns-then-is_loop-clause-value : goal.returns-then-is_loop-clause-value
returns-then-is_loop-clause-value c =
    let g = c.args.editor.now.now in
    let p = c.args.p in
    (none_same g p (subst (IsFirst (is_same_place g p) (length g.places)) c.in-None.is c.find_same.ensures.value), loop_place_is g p c.find_same.ensures.draft.narrow c.requires.live (sym c.is_loop.ensures ∙ c.if-is_loop.true))

pub returns-then-branch-clause-value : goal.returns-then-branch-clause-value
returns-then-branch-clause-value c =
    let g = c.args.editor.now.now in
    let p = c.args.p in (
      none_same g p (subst (IsFirst (is_same_place g p) (length g.places)) c.in-None.is c.find_same.ensures.value),
      λ l. false≢true (sym (sym c.is_loop.ensures ∙ c.if-is_loop.false) ∙ loop_place_there g p l),
      c.in_ok-is_shortcut.ensures.value.0 c.if-branch.true,
    )

pub returns-clause-value : goal.returns-clause-value
returns-clause-value c =
    let g = c.args.editor.now.now in
    let p = c.args.p in
    not_redundant g p (none_same g p (subst (IsFirst (is_same_place g p) (length g.places)) c.in-None.is c.find_same.ensures.value))
    (λ l. false≢true (sym (sym c.is_loop.ensures ∙ c.if-is_loop.false) ∙ loop_place_there g p l))
    (λ s. false≢true (sym c.if-branch.false ∙ c.in_ok-is_shortcut.ensures.value.1 s))
