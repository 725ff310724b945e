use Rattle.std.proofs.Common.{rules}
use Rattle.stg_conflict.proofs.Walks.{trans_later}
use Rattle.stg_conflict.proofs.hidden.least_at_place.Goals as goal

pub loop-u-preserved : goal.loop-u-preserved
loop-u-preserved c = record {
  live = trans_later c.args.editor.now.now _ c.loop-u.u-iterator c.next.new.self c.in-Some.ensures.steps c.loop-u.invariant.live;
  left = search rules;
}
