use Rattle.std.proofs.Common.{◌<◌, length, arith}
use Rattle.stg_edit.proofs.PairPlaces.{goes_on, pairing_starts, pairing_can, pairing_on, pairing_ends}
use Rattle.stg_edit.proofs.pair_places.add_after.Goals as goal

pub loop-y-init : goal.loop-y-init
loop-y-init c = pairing_starts c.args.t c.args.p c.args.arena.now c.first-y.result c.requires.can.arena.laid c.requires.can.arena.timed c.requires.in_range c.requires.live c.first-y.ensures.first

pub add_at-requires-clause-can : goal.add_at-requires-clause-can
add_at-requires-clause-can c =
    let j = c.loop-y.invariant in
    let range : c.args.t < length c.loop-y.arena.trans = omega (arith, j.made.appended.later.trans, c.requires.in_range) in
    pairing_can c.args.t c.args.p c.args.arena.now c.loop-y.arena c.loop-y.y c.next-next.result j c.requires.can c.loop-y.invariant.made.arena.laid range c.loop-y-test.true c.next-next.ensures

pub loop-y-smaller : goal.loop-y-smaller
loop-y-smaller c =
    let j = c.loop-y.invariant in
    let range : c.args.t < length c.loop-y.arena.trans = omega (arith, j.made.appended.later.trans, c.requires.in_range) in
    goes_on c.loop-y.arena c.args.t c.loop-y.y c.next-next.result c.loop-y.invariant.made.arena.laid range j.walking c.loop-y-test.true c.next-next.ensures

pub loop-y-preserved : goal.loop-y-preserved
loop-y-preserved c =
    let j = c.loop-y.invariant in
    let range : c.args.t < length c.loop-y.arena.trans = omega (arith, j.made.appended.later.trans, c.requires.in_range) in
    pairing_on c.args.t c.args.p c.args.arena.now c.loop-y.arena c.loop-y.y c.next-next.result j c.requires.can c.loop-y.invariant.made.arena.laid range c.loop-y-test.true c.next-next.ensures c.add_at.new.arena c.add_at.ensures

pub returns : goal.returns
returns c =
    let j = c.loop-y.invariant in
    let range : c.args.t < length c.loop-y.arena.trans = omega (arith, j.made.appended.later.trans, c.requires.in_range) in
    pairing_ends c.args.t c.args.p c.args.arena.now c.loop-y.arena c.loop-y.y j c.loop-y.invariant.made.arena.laid range c.loop-y-test.false
