-- An arena with more room.
use Rattle.std.proofs.Common.{◌≡◌, ◌<◌, ◌≤◌, ◌⊎◌, ℕ, length, refl, ap, ◌∙◌, arith}
use Rattle.stg_arena.specs.declared.end.End.{End}
use Rattle.stg_arena.specs.declared.end.End.TheVariants.{Place, Trans}
use Rattle.stg_arena.specs.declared.cell.Rooms.{Rooms}
use Rattle.stg_arena.specs.ArenaView.{Layout, none, count_of, removed_at, removal_at, cell_at, end_of, IsHead, IsLaid, IsTimed, IsArena}

-- the same arena with these rooms
abbrev pub with_rooms : Layout → Rooms → Layout
with_rooms l rooms = record l { rooms = rooms }

module _ (l : Layout) (rooms : Rooms) where
  -- the moments of removals stay
  pub removed_at_same : (b : End) (k : ℕ) → removed_at (with_rooms l rooms) b k ≡ removed_at l b k
  removed_at_same Place k = refl
  removed_at_same Trans k = refl

  count_of_same : (b : End) → count_of (with_rooms l rooms) b ≡ count_of l b
  count_of_same Place = refl
  count_of_same Trans = refl

  -- the cells lie as they must
  pub laid_more_room : IsLaid l → length l.cells ≤ rooms.cells → rooms.cells < none → length l.places ≤ rooms.places → rooms.places < none → IsLaid (with_rooms l rooms)
  laid_more_room laid cells_fit most_cells places_fit most_places = record {
    ascending = laid.ascending;
    bounded = bounded;
    heads = heads;
    small = laid.small;
    cells = cells_fit;
    most_cells = most_cells;
    places = places_fit;
    most_places = most_places;
    sizes = λ b. omega (arith, count_of_same b, laid.sizes b);
  }
    where
      bounded : (b : End) (c : ℕ) → c < length l.cells → (end_of b (cell_at l.cells c) ≡ none) ⊎ (end_of b (cell_at l.cells c) < count_of (with_rooms l rooms) b)
      bounded Place c h = laid.bounded Place c h
      bounded Trans c h = laid.bounded Trans c h

      heads : (b : End) (k : ℕ) → k < count_of (with_rooms l rooms) b → IsHead (with_rooms l rooms) b k
      heads Place k h = let x = laid.heads Place k h in record { below = x.below; far = x.far; key = x.key }
      heads Trans k h = let x = laid.heads Trans k h in record { below = x.below; far = x.far; key = x.key }

  -- moments and removals agree
  pub timed_more_room : IsTimed l → length l.removals ≤ rooms.removals → rooms.removals < none → IsTimed (with_rooms l rooms)
  timed_more_room t room small = record {
    in_range = λ s h. omega (arith, count_of_same (removal_at l s).end, t.in_range s h);
    recorded = λ s h. removed_at_same (removal_at l s).end (removal_at l s).node ∙ t.recorded s h;
    node = λ b k h. ap (λ s. (removal_at l s).node) (removed_at_same b k) ∙ t.node b k (omega (arith, removed_at_same b k));
    kind = λ b k h. ap (λ s. (removal_at l s).end) (removed_at_same b k) ∙ t.kind b k (omega (arith, removed_at_same b k));
    alive = λ b k h. removed_at_same b k ∙ t.alive b k (omega (arith, removed_at_same b k));
    cells = t.cells;
    cells_up = t.cells_up;
    room = room;
    small = small;
  }

-- what is true of each arena is true with more room
pub arena_more_room : (l : Layout) (rooms : Rooms) → IsArena l → length l.removals ≤ rooms.removals → length l.cells ≤ rooms.cells → length l.places ≤ rooms.places → rooms.removals < none → rooms.cells < none → rooms.places < none → IsArena (with_rooms l rooms)
arena_more_room l rooms arena removals cells places most_removals most_cells most_places = record {
  laid = laid_more_room l rooms arena.laid cells most_cells places most_places;
  timed = timed_more_room l rooms arena.timed removals most_removals;
}
