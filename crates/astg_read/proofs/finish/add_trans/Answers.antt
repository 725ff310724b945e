use Rattle.astg_read.proofs.ArcLemmas.{next-other}
use Rattle.astg_read.proofs.finish.add_trans.Goals as goal

pub add_trans-requires-clause-fresh : goal.add_trans-requires-clause-fresh
add_trans-requires-clause-fresh c = next-other c.loop-name.builder.lists.trans c.args.trans.now c.loop-name.name-index _ c.loop-name-test.true c.loop-name.invariant.differ
