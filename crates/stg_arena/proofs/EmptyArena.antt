-- The arena of transitions alone meets what is true of each arena.
use Rattle.std.proofs.Common.{◌≡◌, ◌<◌, ◌≤◌, ◌⊎◌, ◌+◌, ℕ, zero, suc, false, ◌&&◌, List, map, length, get_or, replicate, refl, sym, ap, ◌∙◌, inl, inr, eqb, zero-add, arith}
use Rattle.std.specs.List.{range_with_len}
use Rattle.std.proofs.lemmas.Bool.{cases_lt, cond_both, false≢true}
use Rattle.std.proofs.lemmas.List.{get_or_past, get_or-replicate, length-replicate}
use Rattle.std.proofs.lemmas.List.FromFn.{length-map-range_with_len, get_or-map-range_with_len, sum_by-map-range_with_len_more}
use Rattle.stg_arena.specs.declared.end.End.{End}
use Rattle.stg_arena.specs.declared.end.Way.{Way}
use Rattle.stg_arena.specs.declared.end.Way.TheVariants.{Take, Give}
use Rattle.stg_arena.specs.declared.end.End.TheVariants.{Place, Trans}
use Rattle.stg_arena.specs.declared.end.Way.TheVariants.{Take, Give}
use Rattle.stg_arena.specs.declared.links.Link.{Link}
use Rattle.stg_arena.specs.Ring.{IsNext}
use Rattle.stg_arena.specs.inner.Links.{IsHeld, no_link, lone_link}
use Rattle.stg_arena.specs.LinkHistory.{frame_at, IsOn}
use Rattle.stg_arena.specs.ArenaView.{none, no_cell, cell_at, count_of, removed_at, side, times_of, end_of, IsAfter, IsLaid, IsTimed, IsHead, IsArena}
use Rattle.stg_arena.specs.EmptyArena.{trans_head, empty_arena}
use Rattle.stg_arena.specs.Incidence.{weight}
use Rattle.stg_arena.proofs.Rings.{stop_head}
use Rattle.stg_arena.proofs.RingWeights.{share}

module _ (T P A : ℕ) (small : T + P + A < none) where
  head_at : (c : ℕ) → c < T → cell_at (empty_arena T P A).cells c ≡ trans_head c
  head_at c h = get_or-map-range_with_len trans_head 0 T c c no_cell h (zero-add c)

  cells : length (empty_arena T P A).cells ≡ T
  cells = length-map-range_with_len trans_head 0 T

  count_of_empty : (b : End) → count_of (empty_arena T P A) b ≤ T
  count_of_empty Place = omega arith
  count_of_empty Trans = omega (arith, length-replicate T none)

  -- nothing was removed
  pub removed_at_empty : (b : End) (k : ℕ) → removed_at (empty_arena T P A) b k ≡ none
  removed_at_empty Place k = refl
  removed_at_empty Trans k = elim (cases_lt k T) [
    | inl h ↦ get_or-replicate T k none none h
    | inr h ↦ get_or_past (replicate T none) k none (omega (arith, length-replicate T none))
  ]

  head : (b : End) (k : ℕ) → k < count_of (empty_arena T P A) b → IsHead (empty_arena T P A) b k
  head Place k h = absurd (omega arith)
  head Trans k h =
      let lt : k < T = omega (arith, count_of_empty Trans) in
      record { below = omega (arith, cells); far = ap (end_of Place) (head_at k lt); key = ap (end_of Trans) (head_at k lt) }

  -- its cells lie as they must
  pub laid_empty : IsLaid (empty_arena T P A)
  laid_empty = record {
    ascending = λ b c d low h k. apart b c d low (omega (arith, cells)) k;
    bounded = λ b c h. bound b c (omega (arith, cells));
    heads = head;
    small = omega (arith, cells);
    cells = omega (arith, cells);
    most_cells = small;
    places = omega arith;
    most_places = omega arith;
    sizes = λ b. omega (arith, count_of_empty b);
  }
    where
      apart : (b : End) (c d : ℕ) → c < d → d < T → end_of b (cell_at (empty_arena T P A).cells c) ≡ end_of b (cell_at (empty_arena T P A).cells d) → IsAfter b (cell_at (empty_arena T P A).cells c) (cell_at (empty_arena T P A).cells d)
      apart Place c d low h k = record {
        no_head = λ e. absurd (omega (arith, ap (end_of Trans) (head_at d h), small));
        up = inr (omega (arith, ap (end_of Trans) (head_at c (omega arith)), ap (end_of Trans) (head_at d h)));
      }
      apart Trans c d low h k = absurd (omega (arith, ap (end_of Trans) (head_at c (omega arith)), ap (end_of Trans) (head_at d h)))

      bound : (b : End) (c : ℕ) → c < T → (end_of b (cell_at (empty_arena T P A).cells c) ≡ none) ⊎ (end_of b (cell_at (empty_arena T P A).cells c) < count_of (empty_arena T P A) b)
      bound Place c h = inl (ap (end_of Place) (head_at c h))
      bound Trans c h = inr (omega (arith, ap (end_of Trans) (head_at c h), length-replicate T none))

  -- its moments and removals agree
  pub timed_empty : IsTimed (empty_arena T P A)
  timed_empty = record {
    in_range = λ s h. absurd (omega arith);
    recorded = λ s h. absurd (omega arith);
    node = λ b k h. absurd (omega arith);
    kind = λ b k h. absurd (omega arith);
    alive = λ b k h. removed_at_empty b k;
    cells = λ s h. absurd (omega arith);
    cells_up = λ s r le h. absurd (omega arith);
    room = omega arith;
    small = omega arith;
  }

  -- no cell has a part in a ring of a place
  pub by_place_empty : (links : List Link) → length links ≡ T → IsHeld (side (empty_arena T P A).cells Place) (side (empty_arena T P A).cells Trans) (times_of (empty_arena T P A)) links
  by_place_empty links long = record {
    rings = record {
      forward = λ c l o. absurd (off c (omega (arith, o.below, cells)) o.part);
      back = λ c l o. absurd (off c (omega (arith, o.below, cells)) o.part);
    };
    forward = λ c s l p low until. absurd (omega arith);
    back = λ c s l p low until. absurd (omega arith);
    long = long ∙ sym cells;
  }
    where
      off : (c : ℕ) → c < T → eqb (cell_at (empty_arena T P A).cells c).place none ≡ false → ⊥
      off c h part = false≢true (sym part ∙ ap (λ x. eqb x.place none) (head_at c h))

  -- each transition's head is alone in its ring
  pub by_trans_empty : IsHeld (side (empty_arena T P A).cells Trans) (side (empty_arena T P A).cells Place) (times_of (empty_arena T P A)) (map lone_link (range_with_len 0 T))
  by_trans_empty = record {
    rings = record {
      forward = λ c l o. let h : c < T = omega (arith, o.below, cells) in rw (ap (λ x. x.next) (link c h)) (alone c h o);
      back = λ c l o. let h : c < T = omega (arith, o.below, cells) in rw (ap (λ x. x.prev) (link c h)) (alone c h o);
    };
    forward = λ c s l p low until. absurd (omega arith);
    back = λ c s l p low until. absurd (omega arith);
    long = length-map-range_with_len lone_link 0 T ∙ sym cells;
  }
    where
      link : (c : ℕ) → c < T → get_or (map lone_link (range_with_len 0 T)) c no_link ≡ lone_link c
      link c h = get_or-map-range_with_len lone_link 0 T c c no_link h (zero-add c)

      alone : (c : ℕ) → c < T → IsOn (side (empty_arena T P A).cells Place) (frame_at (side (empty_arena T P A).cells Trans) (side (empty_arena T P A).cells Place) (times_of (empty_arena T P A)) 0) c
          → IsNext (side (empty_arena T P A).cells Trans) (length (empty_arena T P A).cells) (IsOn (side (empty_arena T P A).cells Place) (frame_at (side (empty_arena T P A).cells Trans) (side (empty_arena T P A).cells Place) (times_of (empty_arena T P A)) 0)) c c
      alone c h o = record {
        from = o;
        to = o;
        from_below = omega (arith, cells);
        to_below = omega (arith, cells);
        same = refl;
        order = omega (arith, cells, stop_head (side (empty_arena T P A).cells Trans) (length (empty_arena T P A).cells) c (ap (λ x. eqb x.place none) (head_at c h)));
        gap = λ e low high oe. λ q. absurd (omega (arith, cells, ap (end_of Trans) (head_at c h), ap (end_of Trans) (head_at e (omega (arith, oe.below, cells)))));
      }

  -- it has no weights
  pub weight_empty : (way : Way) (p t : ℕ) → weight (empty_arena T P A).cells way p t ≡ 0
  weight_empty way p t = none_below T
    where
      no_share : (way : Way) (n : ℕ) → 0 + share way p t (trans_head n) ≡ 0
      no_share Take n = zero-add (share Take p t (trans_head n)) ∙ cond_both (eqb none p && eqb n t) 0 0 (λ z. z ≡ 0) (λ e. refl) (λ e. refl)
      no_share Give n = zero-add (share Give p t (trans_head n)) ∙ cond_both (eqb none p && eqb n t) 0 0 (λ z. z ≡ 0) (λ e. refl) (λ e. refl)

      none_below : (n : ℕ) → weight (map trans_head (range_with_len 0 n)) way p t ≡ 0
      none_below zero = refl
      none_below (suc n) = ap (λ m. weight (map trans_head (range_with_len 0 m)) way p t) (let e : suc n ≡ n + 1 = omega arith in e)
          ∙ sum_by-map-range_with_len_more (share way p t) trans_head 0 n n (zero-add n)
          ∙ ap (λ m. m + share way p t (trans_head n)) (none_below n)
          ∙ no_share way n

-- the arena of transitions alone is an arena
pub arena_empty : (T P A : ℕ) → T + P + A < none → IsArena (empty_arena T P A)
arena_empty T P A small = record { laid = laid_empty T P A small; timed = timed_empty T P A small }
