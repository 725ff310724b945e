use Rattle.std.proofs.Common.{◌≡◌, ◌<◌, ◌-◌, ◌∷◌, refl, length, get_or, sym, ap, ◌∙◌, subst, inl, inr, arith}
use Rattle.std.specs.BinaryHeap.{heap_items}
use Rattle.std.specs.List.Sorted.{IsPermutation}
use Rattle.std.proofs.lemmas.List.{get_or-set_same}
use Rattle.stg_redundant.proofs.LinkPaths.{link_is}
use Rattle.stg_redundant.proofs.DeadEnds.{dead_relaxed}
use Rattle.stg_redundant.proofs.LinkTables.{kept_without, kept_enough}
use Rattle.stg_redundant.proofs.search.visit.Goals as goal

pub returns-in-None-clause-ok : goal.returns-in-None-clause-ok
returns-in-None-clause-ok c =
    let g = c.args.editor.now.now in
    let none = sym c.link_at.ensures ∙ c.in-None.is in
    inl (kept_without g c.args.sought.place c.args.sought.taker c.args.q c.args.rooms.now (heap_items c.args.list.now) none)

pub raise-requires-clause-giver : goal.raise-requires-clause-giver
raise-requires-clause-giver c =
    let g = c.args.editor.now.now in
    let some = sym c.link_at.ensures ∙ c.in-Some.is in
    omega (arith, (link_is g c.args.q c.in-Some.link c.requires.draft.narrow some).giver_below, c.requires.rooms)

pub raise-requires-clause-taker : goal.raise-requires-clause-taker
raise-requires-clause-taker c =
    let g = c.args.editor.now.now in
    let some = sym c.link_at.ensures ∙ c.in-Some.is in
    omega (arith, (link_is g c.args.q c.in-Some.link c.requires.draft.narrow some).taker_below, c.requires.rooms)

pub bounds-rooms-link : goal.bounds-rooms-link
bounds-rooms-link c =
    let g = c.args.editor.now.now in
    let some = sym c.link_at.ensures ∙ c.in-Some.is in
    omega (arith, (link_is g c.args.q c.in-Some.link c.requires.draft.narrow some).giver_below, c.requires.rooms)

pub is_dead-requires-clause-taker : goal.is_dead-requires-clause-taker
is_dead-requires-clause-taker c =
    let g = c.args.editor.now.now in
    let some = sym c.link_at.ensures ∙ c.in-Some.is in
    omega (arith, (link_is g c.args.q c.in-Some.link c.requires.draft.narrow some).taker_below, c.requires.levels.long)

pub is_dead-requires-clause-to : goal.is_dead-requires-clause-to
is_dead-requires-clause-to c =
    omega (arith, c.requires.to, c.requires.levels.long)

pub bounds-rooms-link-then-raise : goal.bounds-rooms-link-then-raise
bounds-rooms-link-then-raise c =
    let g = c.args.editor.now.now in
    let some = sym c.link_at.ensures ∙ c.in-Some.is in
    omega (arith, (link_is g c.args.q c.in-Some.link c.requires.draft.narrow some).taker_below, c.requires.rooms, c.raise.ensures.len)

pub returns-then-q-sought-clause-ok : goal.returns-then-q-sought-clause-ok
returns-then-q-sought-clause-ok c =
    inl (record {
      rooms = refl;
      entries = refl;
      relaxed = λ k e other. absurd (other c.if-q-sought.true);
    })

pub returns-then-is_dead-clause-ok : goal.returns-then-is_dead-clause-ok
returns-then-is_dead-clause-ok c =
    let g = c.args.editor.now.now in
    let s = c.args.sought in
    let some = sym c.link_at.ensures ∙ c.in-Some.is in
    inl (record {
      rooms = refl;
      entries = refl;
      relaxed = dead_relaxed g c.args.levels.now s.place s.taker c.args.q c.args.rooms.now c.in-Some.link c.requires.draft.narrow c.requires.levels some (c.is_dead.ensures c.if-is_dead.true);
    })

pub returns-in_ok-push-clause-ok : goal.returns-in_ok-push-clause-ok
returns-in_ok-push-clause-ok c =
    let g = c.args.editor.now.now in
    let l = c.in-Some.link in
    let rooms = c.args.rooms.now in
    let some = sym c.link_at.ensures ∙ c.in-Some.is in
    let v = get_or rooms l.giver 0 - l.tokens in
    let low : l.taker < length rooms = omega (arith, (link_is g c.args.q l c.requires.draft.narrow some).taker_below, c.requires.rooms) in
    let set = c.raise.ensures.set c.if-raise.true in
    let is : get_or c.raise.new.rooms l.taker 0 ≡ v = ap (λ xs. get_or xs l.taker 0) set ∙ get_or-set_same rooms l.taker v 0 low in
    inr (record {
      link = l;
      at = some;
      other = c.if-q-sought.false;
      more = c.raise.ensures.more c.if-raise.true;
      set = set;
      listed = subst (λ r. IsPermutation ((r, l.taker) ∷ heap_items c.args.list.now) (heap_items c.push.new.self)) is c.in_ok-push.ensures.permutation;
    })

pub returns-else-raise-clause-ok : goal.returns-else-raise-clause-ok
returns-else-raise-clause-ok c =
    let g = c.args.editor.now.now in
    let s = c.args.sought in
    let l = c.in-Some.link in
    let some = sym c.link_at.ensures ∙ c.in-Some.is in
    inl (record {
      rooms = c.raise.ensures.kept c.if-raise.false;
      entries = refl;
      relaxed = kept_enough g s.place s.taker c.args.q c.args.rooms.now l some (c.raise.ensures.enough c.if-raise.false);
    })
