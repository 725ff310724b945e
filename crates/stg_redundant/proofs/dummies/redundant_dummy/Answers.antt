use Rattle.std.proofs.Common.{◌-◌, sym, ◌∙◌, subst, inl, inr, arith}
use Rattle.std.proofs.lemmas.Bool.{cases_order, false≢true}
use Rattle.stg_net.specs.Graph.{IsDummy}
use Rattle.stg_laws.specs.RedundantDummies.{IsRedundantDummy}
use Rattle.stg_redundant.specs.inner.Searches.{IsDummyRuleOf}
use Rattle.stg_redundant.proofs.RuleTests.{dummy_there, redundant_is_dummy}
use Rattle.stg_redundant.proofs.dummies.redundant_dummy.Goals as goal

pub loop-t-preserved-in-None : goal.loop-t-preserved-in-None
loop-t-preserved-in-None c =
    let g = c.args.editor.now.now in
    let t = c.loop-t.t - 1 in
    let none = subst (IsDummyRuleOf g t) c.in-None.is c.rule_of.ensures in
    λ u r. elim (cases_order u t) [
      | inl e ↦ absurd (none (subst (IsRedundantDummy g) e r))
      | inr (inl low) ↦ low
      | inr (inr high) ↦ absurd (omega (arith, high, c.loop-t.invariant u r))
    ]

pub loop-t-preserved : goal.loop-t-preserved
loop-t-preserved c =
    let g = c.args.editor.now.now in
    let t = c.loop-t.t - 1 in
    λ u r. elim (cases_order u t) [
      | inl e ↦ absurd (false≢true (sym (sym c.is_dummy.ensures ∙ c.if-is_dummy.false) ∙ dummy_there g t (subst (IsDummy g) e (redundant_is_dummy g u r))))
      | inr (inl low) ↦ low
      | inr (inr high) ↦ absurd (omega (arith, high, c.loop-t.invariant u r))
    ]

pub returns : goal.returns
returns c = λ t r. omega (arith, c.loop-t.invariant t r, c.loop-t-test.false)
