use Rattle.std.proofs.Common.{rules}
use Rattle.stg_conflict.proofs.Walks.{places_later}
use Rattle.stg_conflict.proofs.hidden.least_of_trans.Goals as goal

pub loop-p-preserved : goal.loop-p-preserved
loop-p-preserved c = record {
  live = places_later c.args.editor.now.now _ c.loop-p.p-iterator c.next.new.self c.in-Some.ensures.steps c.loop-p.invariant.live;
  left = search rules;
}
