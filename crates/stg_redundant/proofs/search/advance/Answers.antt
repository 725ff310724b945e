use Rattle.std.proofs.Common.{◌+◌, heap_items, arith}
use Rattle.stg_contract.proofs.DummyTests.{live_below}
use Rattle.stg_redundant.proofs.Searching.{popped_live, followed_search, stale_search}
use Rattle.stg_redundant.proofs.search.advance.Goals as goal

pub bounds-rooms-t : goal.bounds-rooms-t
bounds-rooms-t c =
    let g = c.args.editor.now.now in
    let live = popped_live g (heap_items c.args.list.now) (heap_items c.pop.new.self) (c.in-Some.room, c.in-Some.t) c.in-Some.ensures.permutation c.requires.search.live in
    omega (arith, live_below g c.in-Some.t live.0, c.requires.search.long)

pub returns-in_ok-follow-in-Some-clause-ok : goal.returns-in_ok-follow-in-Some-clause-ok
returns-in_ok-follow-in-Some-clause-ok c =
    let g = c.args.editor.now.now in
    let s = c.args.sought in
    followed_search g s.place s.giver s.taker (s.tokens + 1) c.args.rooms.now c.follow.new.rooms (heap_items c.args.list.now) (heap_items c.pop.new.self) (heap_items c.follow.new.list) (c.in-Some.room, c.in-Some.t) c.in-Some.ensures.permutation c.in_ok-follow-in-Some.ensures.ok c.requires.search

pub returns-else-room-rooms-clause-ok : goal.returns-else-room-rooms-clause-ok
returns-else-room-rooms-clause-ok c =
    let g = c.args.editor.now.now in
    let s = c.args.sought in
    stale_search g s.place s.giver s.taker (s.tokens + 1) c.args.rooms.now (heap_items c.args.list.now) (heap_items c.pop.new.self) (c.in-Some.room, c.in-Some.t) c.in-Some.ensures.permutation c.if-room-rooms.false c.requires.search
