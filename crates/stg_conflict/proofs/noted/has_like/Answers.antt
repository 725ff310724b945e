use Rattle.std.proofs.Common.{rules}
use Rattle.stg_conflict.proofs.Walks.{trans_later}
use Rattle.stg_conflict.proofs.noted.has_like.Goals as goal

pub loop-v-preserved : goal.loop-v-preserved
loop-v-preserved c = record {
  live = trans_later c.args.editor.now.now _ c.loop-v.v-iterator c.next.new.self c.in-Some.ensures.steps c.loop-v.invariant.live;
  left = search rules;
}
