use Rattle.stg_arena.proofs.RingRemoval.{smaller, relink_starts, relink_steps, relink_ends, relink_safe}
use Rattle.stg_arena.proofs.links.relink_all.Goals as goal

pub loop-x-init : goal.loop-x-init
loop-x-init c = relink_starts c.args.own.now c.args.other.now c.args.head

pub relink-requires-clause-in_range : goal.relink-requires-clause-in_range
relink-requires-clause-in_range c = (relink_safe c.args.own.now c.args.other.now c.loop-x.other c.args.head c.loop-x.x c.loop-x.invariant c.loop-x-test.true c.loop-x.auto.other c.requires.0 c.requires.1).here

pub relink-requires-clause-prev : goal.relink-requires-clause-prev
relink-requires-clause-prev c = (relink_safe c.args.own.now c.args.other.now c.loop-x.other c.args.head c.loop-x.x c.loop-x.invariant c.loop-x-test.true c.loop-x.auto.other c.requires.0 c.requires.1).prev

pub relink-requires-clause-next : goal.relink-requires-clause-next
relink-requires-clause-next c = (relink_safe c.args.own.now c.args.other.now c.loop-x.other c.args.head c.loop-x.x c.loop-x.invariant c.loop-x-test.true c.loop-x.auto.other c.requires.0 c.requires.1).next

pub loop-x-smaller : goal.loop-x-smaller
loop-x-smaller c = let can = c.requires.1 in smaller c.requires.0 c.args.own.now c.args.head c.loop-x.x can.ring can.own_long (c.loop-x.invariant.at c.requires.0 can) c.loop-x-test.true

pub loop-x-preserved : goal.loop-x-preserved
loop-x-preserved c = relink_steps c.args.own.now c.args.other.now c.loop-x.other c.relink.new.links c.args.head c.loop-x.x c.loop-x.invariant c.loop-x-test.true c.relink.ensures

pub returns : goal.returns
returns c = relink_ends c.args.own.now c.args.other.now c.loop-x.other c.args.head c.loop-x.x c.loop-x.invariant c.loop-x-test.false
