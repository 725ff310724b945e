use Rattle.std.proofs.Common.{length, sym, ◌∙◌, subst}
use Rattle.std.proofs.lemmas.Bool.{false≢true}
use Rattle.stg_laws.specs.RedundantDummies.{IsSameDummy}
use Rattle.stg_redundant.specs.inner.Tests.{is_same_dummy}
use Rattle.stg_redundant.specs.inner.Searches.{IsFirst}
use Rattle.stg_redundant.proofs.RuleTests.{loop_dummy_is, loop_dummy_there, same_dummy_is, same_dummy_there, not_redundant_dummy, least_of_first}
use Rattle.stg_redundant.proofs.dummies.rule_of.Goals as goal

pub returns-then-is_loop : goal.returns-then-is_loop
returns-then-is_loop c =
    loop_dummy_is c.args.editor.now.now c.args.t c.requires (sym c.is_loop.ensures ∙ c.if-is_loop.true)

pub returns-in-Some : goal.returns-in-Some
returns-in-Some c =
    let g = c.args.editor.now.now in
    let t = c.args.t in
    let f = subst (IsFirst (is_same_dummy g t) (length g.trans)) c.in-Some.is c.find_same.ensures in (
      λ l. false≢true (sym (sym c.is_loop.ensures ∙ c.if-is_loop.false) ∙ loop_dummy_there g t l),
      same_dummy_is g t c.in-Some.u c.requires f.1,
      least_of_first (is_same_dummy g t) (IsSameDummy g t) (same_dummy_there g t) c.in-Some.u f.2,
    )

pub returns-in-None : goal.returns-in-None
returns-in-None c =
    let g = c.args.editor.now.now in
    let t = c.args.t in
    not_redundant_dummy g t (sym c.is_loop.ensures ∙ c.if-is_loop.false) (subst (IsFirst (is_same_dummy g t) (length g.trans)) c.in-None.is c.find_same.ensures)
