use Rattle.std.proofs.Common.{rules}
use Rattle.stg_contract.proofs.WeightLists.{live_later}
use Rattle.stg_contract.proofs.secure.is_sole_taker.Goals as goal

pub loop-p-preserved : goal.loop-p-preserved
loop-p-preserved c = record {
  live = live_later c.args.editor.now.now _ c.loop-p.p-iterator c.next.new.self c.in-Some.ensures.steps c.loop-p.invariant.live;
  left = search rules;
}
