use Rattle.std.proofs.Common.{◌≡◌, ◌<◌, ◌≤◌, ◌+◌, length, ◌∙◌, arith, ap}
use Rattle.stg_arena.specs.declared.end.End.TheVariants.{Trans}
use Rattle.stg_arena.specs.ArenaView.{none, removed_at}
use Rattle.stg_edit.proofs.PairPlaces.{goes_on}
use Rattle.stg_edit.proofs.PresetRemoval.{removing_starts, at_place, removals_room_for, removing_on, removing_ends}
use Rattle.stg_edit.proofs.round.remove_round.Goals as goal

pub loop-x-init : goal.loop-x-init
loop-x-init c = removing_starts c.args.t c.args.arena.now c.first-x.result c.requires.arena.laid c.requires.arena.timed c.requires.in_range c.requires.live c.first-x.ensures.first

pub remove_at-requires-clause-in_range : goal.remove_at-requires-clause-in_range
remove_at-requires-clause-in_range c =
    let range : c.args.t < length c.loop-x.arena.trans = omega (arith, (c.loop-x.invariant.so_far.fewer.later 0).trans, c.requires.in_range) in
    (at_place c.loop-x.arena c.args.t c.loop-x.x c.loop-x.invariant.so_far.arena.laid c.loop-x.invariant.so_far.arena.timed range c.loop-x.invariant.walking c.loop-x-test.true).there

pub remove_at-requires-clause-inside : goal.remove_at-requires-clause-inside
remove_at-requires-clause-inside c =
    let range : c.args.t < length c.loop-x.arena.trans = omega (arith, (c.loop-x.invariant.so_far.fewer.later 0).trans, c.requires.in_range) in
    (at_place c.loop-x.arena c.args.t c.loop-x.x c.loop-x.invariant.so_far.arena.laid c.loop-x.invariant.so_far.arena.timed range c.loop-x.invariant.walking c.loop-x-test.true).inside

pub remove_at-requires-clause-live : goal.remove_at-requires-clause-live
remove_at-requires-clause-live c =
    let range : c.args.t < length c.loop-x.arena.trans = omega (arith, (c.loop-x.invariant.so_far.fewer.later 0).trans, c.requires.in_range) in
    (at_place c.loop-x.arena c.args.t c.loop-x.x c.loop-x.invariant.so_far.arena.laid c.loop-x.invariant.so_far.arena.timed range c.loop-x.invariant.walking c.loop-x-test.true).live

pub remove_at-requires-clause-room : goal.remove_at-requires-clause-room
remove_at-requires-clause-room c =
    let l = c.loop-x.arena in
    let f = c.loop-x.invariant.so_far.fewer.later 0 in
    let range : c.args.t < length l.trans = omega (arith, f.trans, c.requires.in_range) in
    let long : l.rooms.places + length l.trans ≤ l.rooms.removals = omega (arith, f.trans, ap (λ r. r.places) f.rooms, ap (λ r. r.removals) f.rooms, c.requires.room) in
    removals_room_for l c.loop-x.x c.loop-x.invariant.so_far.arena.timed c.loop-x.invariant.so_far.arena.laid (at_place l c.args.t c.loop-x.x c.loop-x.invariant.so_far.arena.laid c.loop-x.invariant.so_far.arena.timed range c.loop-x.invariant.walking c.loop-x-test.true) long

pub loop-x-smaller : goal.loop-x-smaller
loop-x-smaller c =
    let range : c.args.t < length c.loop-x.arena.trans = omega (arith, (c.loop-x.invariant.so_far.fewer.later 0).trans, c.requires.in_range) in
    goes_on c.loop-x.arena c.args.t c.loop-x.x c.next-next.result c.loop-x.invariant.so_far.arena.laid range c.loop-x.invariant.walking c.loop-x-test.true c.next-next.ensures

pub loop-x-preserved : goal.loop-x-preserved
loop-x-preserved c =
    let j = c.loop-x.invariant in
    let range : c.args.t < length c.loop-x.arena.trans = omega (arith, (j.so_far.fewer.later 0).trans, c.requires.in_range) in
    let live : removed_at c.loop-x.arena Trans c.args.t ≡ none = j.so_far.fewer.trans c.args.t ∙ c.requires.live in
    removing_on c.args.t c.args.arena.now c.loop-x.arena c.loop-x.x c.next-next.result j c.loop-x.invariant.so_far.arena.laid c.loop-x.invariant.so_far.arena.timed range live c.loop-x-test.true c.next-next.ensures c.remove_at.new.arena c.remove_at.ensures.removed c.remove_at.ensures.arena

pub returns : goal.returns
returns c =
    let range : c.args.t < length c.loop-x.arena.trans = omega (arith, (c.loop-x.invariant.so_far.fewer.later 0).trans, c.requires.in_range) in
    removing_ends c.args.t c.args.arena.now c.loop-x.arena c.loop-x.x c.loop-x.invariant c.loop-x.invariant.so_far.arena.laid range c.loop-x-test.false

pub remove_at-requires-clause-arena : goal.remove_at-requires-clause-arena
remove_at-requires-clause-arena c = c.loop-x.invariant.so_far.arena
