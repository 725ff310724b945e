use Rattle.std.proofs.Common.{rules, sym, subst}
use Rattle.stg_contract.specs.inner.Weights.{AreTrans}
use Rattle.stg_contract.proofs.WeightLists.{trans_first, trans_later}
use Rattle.stg_contract.proofs.clash.least_between.Goals as goal

pub loop-u-init : goal.loop-u-init
loop-u-init c = record {
  live = subst (AreTrans c.args.editor.now.now) (sym c.into_iter-u-iterator.ensures.into_iter_gives) c.takers-u-items.ensures.live;
  left = search rules;
}

pub least_with-least-requires-clause-others : goal.least_with-least-requires-clause-others
least_with-least-requires-clause-others c = c.takers.ensures.live

pub loop-u-preserved : goal.loop-u-preserved
loop-u-preserved c = record {
  live = trans_later c.args.editor.now.now _ c.loop-u.u-iterator c.next.new.self c.in-Some.ensures.steps c.loop-u.invariant.live;
  left = search rules;
}

pub least_with-least-requires-clause-u : goal.least_with-least-requires-clause-u
least_with-least-requires-clause-u c = trans_first c.args.editor.now.now (c.in-Some.u, c.in-Some.field-0-1) c.loop-u.u-iterator c.next.new.self c.in-Some.ensures.steps c.loop-u.invariant.live
