use Rattle.std.proofs.Common.{◌<◌, length, ◌∙◌, arith}
use Rattle.stg_arena.specs.declared.end.End.TheVariants.{Trans}
use Rattle.stg_edit.proofs.PairPlaces.{goes_on, pairing_all_starts, pairing_all_can, pairing_all_on, pairing_all_ends}
use Rattle.stg_edit.proofs.pair_places.add_pair_places.Goals as goal

pub loop-x-init : goal.loop-x-init
loop-x-init c = pairing_all_starts c.args.t c.args.arena.now c.first-x.result c.requires.can.arena.laid c.requires.can.arena.timed c.requires.in_range c.requires.live c.first-x.ensures.first

pub add_from-requires-clause-live : goal.add_from-requires-clause-live
add_from-requires-clause-live c = c.loop-x.invariant.made.appended.same Trans c.args.t ∙ c.requires.live

pub add_from-requires-clause-can : goal.add_from-requires-clause-can
add_from-requires-clause-can c =
    let j = c.loop-x.invariant in
    let range : c.args.t < length c.loop-x.arena.trans = omega (arith, j.made.appended.later.trans, c.requires.in_range) in
    pairing_all_can c.args.t c.args.arena.now c.loop-x.arena c.loop-x.x c.next-next.result j c.requires.can c.loop-x.invariant.made.arena.laid range c.loop-x-test.true c.next-next.ensures

pub loop-x-smaller : goal.loop-x-smaller
loop-x-smaller c =
    let j = c.loop-x.invariant in
    let range : c.args.t < length c.loop-x.arena.trans = omega (arith, j.made.appended.later.trans, c.requires.in_range) in
    goes_on c.loop-x.arena c.args.t c.loop-x.x c.next-next.result c.loop-x.invariant.made.arena.laid range j.walking c.loop-x-test.true c.next-next.ensures

pub loop-x-preserved : goal.loop-x-preserved
loop-x-preserved c =
    let j = c.loop-x.invariant in
    let range : c.args.t < length c.loop-x.arena.trans = omega (arith, j.made.appended.later.trans, c.requires.in_range) in
    pairing_all_on c.args.t c.args.arena.now c.loop-x.arena c.loop-x.x c.next-next.result j c.requires.can c.loop-x.invariant.made.arena.laid range c.loop-x-test.true c.next-next.ensures c.add_from.new.arena c.add_from.ensures.arena.laid c.add_from.ensures

pub returns : goal.returns
returns c =
    let j = c.loop-x.invariant in
    let range : c.args.t < length c.loop-x.arena.trans = omega (arith, j.made.appended.later.trans, c.requires.in_range) in
    pairing_all_ends c.args.t c.args.arena.now c.loop-x.arena c.loop-x.x j c.loop-x.invariant.made.arena.laid range c.loop-x-test.false
