use Rattle.std.proofs.Common.{rules, sym, subst}
use Rattle.stg_contract.specs.inner.Weights.{ArePlaces}
use Rattle.stg_contract.proofs.WeightLists.{live_later}
use Rattle.stg_contract.proofs.large.is_large_round.Goals as goal

pub loop-p-init : goal.loop-p-init
loop-p-init c = record {
  live = subst (ArePlaces c.args.editor.now.now) (sym c.into_iter-p-iterator.ensures.into_iter_gives) c.takes-p-items.ensures.live;
  left = search rules;
}

pub is_large_after-requires-clause-places : goal.is_large_after-requires-clause-places
is_large_after-requires-clause-places c = c.gives.ensures.live

pub loop-p-preserved : goal.loop-p-preserved
loop-p-preserved c = record {
  live = live_later c.args.editor.now.now _ c.loop-p.p-iterator c.next.new.self c.in-Some.ensures.steps c.loop-p.invariant.live;
  left = search rules;
}
