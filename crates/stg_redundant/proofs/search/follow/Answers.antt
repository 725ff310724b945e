use Rattle.std.proofs.Common.{◌∙◌}
use Rattle.std.specs.BinaryHeap.{heap_items}
use Rattle.stg_redundant.proofs.LinkTables.{among_given}
use Rattle.stg_redundant.proofs.Searching.{following, visited}
use Rattle.stg_redundant.proofs.search.follow.Goals as goal

pub loop-q-init : goal.loop-q-init
loop-q-init c =
    let g = c.args.editor.now.now in
    let left = c.into_iter-q-iterator.result in
    record {
      long = c.requires.rooms;
      followed = following g c.args.sought.place c.args.sought.taker c.args.t left c.args.rooms.now (heap_items c.args.list.now) (among_given g c.args.t left c.gives-q-items.ensures.draft.narrow (c.into_iter-q-iterator.ensures.into_iter_gives ∙ c.gives-q-items.ensures.value));
    }

pub loop-q-preserved : goal.loop-q-preserved
loop-q-preserved c =
    let g = c.args.editor.now.now in
    let draft = c.gives-q-items.ensures.draft in
    record {
      long = c.visit.ensures.len ∙ c.loop-q.invariant.long;
      followed = visited g c.args.sought.place c.args.sought.taker c.args.t (c.in-Some.q, c.in-Some.field-0-1) c.loop-q.q-iterator c.next.new.self c.args.rooms.now c.loop-q.rooms c.visit.new.rooms (heap_items c.args.list.now) (heap_items c.loop-q.list) (heap_items c.visit.new.list) draft.narrow draft.weightless c.loop-q.invariant.long c.in-Some.ensures.steps c.in_ok-visit.ensures.ok c.loop-q.invariant.followed;
    }
