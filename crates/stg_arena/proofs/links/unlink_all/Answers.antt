use Rattle.stg_arena.proofs.RingRemoval.{smaller, unlink_starts, unlink_steps, unlink_ends, unlink_safe}
use Rattle.stg_arena.proofs.links.unlink_all.Goals as goal

pub loop-x-init : goal.loop-x-init
loop-x-init c = unlink_starts c.args.own.now c.args.other.now c.args.head

pub unlink-requires-clause-in_range : goal.unlink-requires-clause-in_range
unlink-requires-clause-in_range c = (unlink_safe c.args.own.now c.args.other.now c.loop-x.other c.args.head c.loop-x.x c.loop-x.invariant c.loop-x-test.true c.loop-x.auto.other c.requires.0 c.requires.1).here

pub unlink-requires-clause-prev : goal.unlink-requires-clause-prev
unlink-requires-clause-prev c = (unlink_safe c.args.own.now c.args.other.now c.loop-x.other c.args.head c.loop-x.x c.loop-x.invariant c.loop-x-test.true c.loop-x.auto.other c.requires.0 c.requires.1).prev

pub unlink-requires-clause-next : goal.unlink-requires-clause-next
unlink-requires-clause-next c = (unlink_safe c.args.own.now c.args.other.now c.loop-x.other c.args.head c.loop-x.x c.loop-x.invariant c.loop-x-test.true c.loop-x.auto.other c.requires.0 c.requires.1).next

pub loop-x-smaller : goal.loop-x-smaller
loop-x-smaller c = let can = c.requires.1 in smaller c.requires.0 c.args.own.now c.args.head c.loop-x.x can.ring can.own_long (c.loop-x.invariant.at c.requires.0 can) c.loop-x-test.true

pub loop-x-preserved : goal.loop-x-preserved
loop-x-preserved c = unlink_steps c.args.own.now c.args.other.now c.loop-x.other c.unlink.new.links c.args.head c.loop-x.x c.loop-x.invariant c.loop-x-test.true c.unlink.ensures

pub returns : goal.returns
returns c = unlink_ends c.args.own.now c.args.other.now c.loop-x.other c.args.head c.loop-x.x c.loop-x.invariant c.loop-x-test.false
