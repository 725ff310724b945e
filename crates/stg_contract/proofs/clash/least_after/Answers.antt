use Rattle.std.proofs.Common.{rules}
use Rattle.stg_contract.proofs.WeightLists.{live_later}
use Rattle.stg_contract.proofs.clash.least_after.Goals as goal

pub loop-q-preserved : goal.loop-q-preserved
loop-q-preserved c = record {
  live = live_later c.args.editor.now.now _ c.loop-q.q-iterator c.next.new.self c.in-Some.ensures.steps c.loop-q.invariant.live;
  left = search rules;
}
