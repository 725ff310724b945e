-- The layout, when a cell is put behind the others, and when it is taken off again.
use Rattle.std.proofs.Common.{◌≡◌, ◌<◌, ◌≤◌, ◌⊎◌, ◌+◌, ◌-◌, ◌∷◌, [], ℕ, min, length, subst, sym, ap, ◌∙◌, refl, inl, inr, eqb, arith, slice_index_or}
use Rattle.std.proofs.lemmas.Bool.{cases_eq}
use Rattle.std.proofs.lemmas.List.{get_or_append_left, get_or-append_right, get_or_default, length-append}
use Rattle.stg_arena.specs.declared.end.End.{End}
use Rattle.stg_arena.specs.declared.end.End.TheVariants.{Place, Trans}
use Rattle.stg_arena.specs.Ends.{other}
use Rattle.stg_arena.specs.declared.cell.Cell.{Cell}
use Rattle.stg_arena.specs.declared.cell.Spot.{Spot}
use Rattle.stg_arena.specs.inner.Links.{HasHeads}
use Rattle.stg_arena.specs.ArenaView.{Layout, none, no_cell, no_spot, cell_at, spot_at, end_of, side, removed_at, count_of, head_of, head_cell, removal_at, times_of, IsHead, IsAfter, IsLaid, IsTimed, IsPushed, IsPushedCell, IsPushedPlace}
use Rattle.stg_arena.proofs.RemovalTimes.{depth_now}
use Rattle.stg_arena.proofs.ArenaInvariant.{crossed_of}
use Rattle.stg_arena.proofs.LinksAppend.{IsMore}

-- there is one cell more
pub push_length : (a : Cell) (l l' : Layout) → IsPushed a l l' → length l'.cells ≡ length l.cells + 1
push_length a l l' p = ap length p.cells ∙ length-append l.cells (a ∷ []) ∙ omega arith

-- the old cells stay
pub push_old : (a : Cell) (l l' : Layout) (c : ℕ) → IsPushed a l l' → c < length l.cells → cell_at l'.cells c ≡ cell_at l.cells c
push_old a l l' c p h = ap (λ xs. cell_at xs c) p.cells ∙ get_or_append_left l.cells (a ∷ []) no_cell c h

-- the new cell stands last
pub push_new : (a : Cell) (l l' : Layout) → IsPushed a l l' → cell_at l'.cells (length l.cells) ≡ a
push_new a l l' p =
    ap (λ xs. cell_at xs (length l.cells)) p.cells
    ∙ get_or-append_right l.cells (a ∷ []) (length l.cells) (length l.cells) no_cell refl (omega arith)
    ∙ ap (λ i. slice_index_or (a ∷ []) i no_cell) (let z : length l.cells - length l.cells ≡ 0 = omega arith in z)

-- the removals stay
pub removal_same : (a : Cell) (l l' : Layout) (s : ℕ) → IsPushed a l l' → s < length l.removals → removal_at l' s ≡ removal_at l s
removal_same a l l' s p h =
    ap (λ xs. slice_index_or xs s (record { end = Place; node = none; cells = length l'.cells })) p.removals
    ∙ get_or_default l.removals s (record { end = Place; node = none; cells = length l'.cells }) (record { end = Place; node = none; cells = length l.cells }) h

-- how the new cell lies among the others
ascending_push : (a : Cell) (l l' : Layout) → IsPushed a l l' → IsLaid l → (b : End) (c d : ℕ) → c < d → d < length l'.cells → end_of b (cell_at l'.cells c) ≡ end_of b (cell_at l'.cells d) → IsAfter b (cell_at l'.cells c) (cell_at l'.cells d)
ascending_push a l l' p laid b c d low ld k =
    let long = push_length a l l' p in
    elim (cases_eq d (length l.cells)) [
      | inl e ↦ let lc : c < length l.cells = omega arith in
          rw e (rw (push_new a l l' p, push_old a l l' c p lc) (p.after b c lc (sym (ap (end_of b) (push_old a l l' c p lc)) ∙ k ∙ ap (λ d. end_of b (cell_at l'.cells d)) e ∙ ap (end_of b) (push_new a l l' p))))
      | inr e ↦ let lc : c < length l.cells = omega arith in
          let ld' : d < length l.cells = omega arith in
          rw (push_old a l l' d p ld', push_old a l l' c p lc) (laid.ascending b c d low ld' (sym (ap (end_of b) (push_old a l l' c p lc)) ∙ k ∙ ap (end_of b) (push_old a l l' d p ld')))
    ]

head_kept : (a : Cell) (l l' : Layout) (b : End) (k : ℕ) → IsPushed a l l' → head_of l' b k ≡ head_of l b k → IsHead l b k → IsHead l' b k
head_kept a l l' b k p head h =
    let e : cell_at l'.cells (head_of l' b k) ≡ cell_at l.cells (head_of l b k) = ap (cell_at l'.cells) head ∙ push_old a l l' (head_of l b k) p h.below in
    record { below = omega (arith, head, h.below, push_length a l l' p); far = ap (end_of (other b)) e ∙ h.far; key = ap (end_of b) e ∙ h.key }

bounded_push : (a : Cell) (l l' : Layout) (b : End) (c : ℕ) → IsPushed a l l' → IsLaid l → count_of l b ≤ count_of l' b → (end_of b a ≡ none) ⊎ (end_of b a < count_of l' b) → c < length l'.cells → (end_of b (cell_at l'.cells c) ≡ none) ⊎ (end_of b (cell_at l'.cells c) < count_of l' b)
bounded_push a l l' b c p laid more new h = elim (cases_eq c (length l.cells)) [
  | inl e ↦ rw e (rw (push_new a l l' p) new)
  | inr e ↦ let lc : c < length l.cells = omega (arith, push_length a l l' p) in rw (push_old a l l' c p lc) (elim (laid.bounded b c lc) [ inl z ↦ inl z | inr z ↦ inr (omega arith) ])
]

-- the cells lie as they must with a new one
pub laid_cell : (a : Cell) (l l' : Layout) → IsPushedCell a l l' → IsLaid l → length l.cells < l.rooms.cells → IsLaid l'
laid_cell a l l' q laid room =
    let p = q.pushed in
    let long = push_length a l l' p in
    record {
      ascending = ascending_push a l l' p laid;
      bounded = λ b c h. bounded_push a l l' b c p laid (omega (arith, many_same b)) (inr (omega (arith, many_same b, q.inside b))) h;
      heads = λ b k h. head_kept a l l' b k p (head_same b k) (laid.heads b k (omega (arith, many_same b)));
      small = omega (arith, laid.most_cells);
      cells = omega (arith, ap (λ r. r.cells) p.rooms);
      most_cells = omega (arith, ap (λ r. r.cells) p.rooms, laid.most_cells);
      places = omega (arith, ap length q.places, ap (λ r. r.places) p.rooms, laid.places);
      most_places = omega (arith, ap (λ r. r.places) p.rooms, laid.most_places);
      sizes = λ b. omega (arith, many_same b, laid.sizes b);
    }
  where
    many_same : (b : End) → count_of l' b ≡ count_of l b
    many_same Place = ap length q.places
    many_same Trans = ap length q.trans

    head_same : (b : End) (k : ℕ) → head_of l' b k ≡ head_of l b k
    head_same Place k = ap (λ xs. (spot_at xs k).head) q.places
    head_same Trans k = refl

-- the cells lie as they must with a new place
pub laid_place : (s : Spot) (l l' : Layout) → IsPushedPlace s l l' → IsLaid l → length l.cells < l.rooms.cells → length l.places < l.rooms.places → IsLaid l'
laid_place s l l' q laid room space =
    let p = q.pushed in
    let long = push_length (head_cell l) l l' p in
    record {
      ascending = ascending_push (head_cell l) l l' p laid;
      bounded = λ b c h. bounded_push (head_cell l) l l' b c p laid (omega (arith, many_more b)) (new b) h;
      heads = λ b k h. head b k h;
      small = omega (arith, laid.most_cells);
      cells = omega (arith, ap (λ r. r.cells) p.rooms);
      most_cells = omega (arith, ap (λ r. r.cells) p.rooms, laid.most_cells);
      places = omega (arith, places_more, ap (λ r. r.places) p.rooms);
      most_places = omega (arith, ap (λ r. r.places) p.rooms, laid.most_places);
      sizes = λ b. small b;
    }
  where
    places_more : length l'.places ≡ length l.places + 1
    places_more = ap length q.places ∙ length-append l.places (s ∷ []) ∙ omega arith

    many_more : (b : End) → count_of l b ≤ count_of l' b
    many_more Place = omega (arith, places_more)
    many_more Trans = omega (arith, ap length q.trans)

    new : (b : End) → (end_of b (head_cell l) ≡ none) ⊎ (end_of b (head_cell l) < count_of l' b)
    new Place = inr (omega (arith, places_more))
    new Trans = inl refl

    small : (b : End) → count_of l' b ≤ none
    small Place = omega (arith, places_more, laid.most_places)
    small Trans = omega (arith, ap length q.trans, laid.sizes Trans)

    head : (b : End) (k : ℕ) → k < count_of l' b → IsHead l' b k
    head Place k h = elim (cases_eq k (length l.places)) [
      | inl e ↦ rw e (let at : (spot_at l'.places (length l.places)).head ≡ length l.cells =
          ap (λ xs. (spot_at xs (length l.places)).head) q.places
          ∙ ap (λ x. x.head) (get_or-append_right l.places (s ∷ []) (length l.places) (length l.places) no_spot refl (omega arith))
          ∙ ap (λ i. (slice_index_or (s ∷ []) i no_spot).head) (let z : length l.places - length l.places ≡ 0 = omega arith in z)
          ∙ q.head in
          let a : cell_at l'.cells (spot_at l'.places (length l.places)).head ≡ head_cell l = ap (cell_at l'.cells) at ∙ push_new (head_cell l) l l' q.pushed in
          record { below = omega (arith, at, push_length (head_cell l) l l' q.pushed); far = ap (λ x. x.trans) a; key = ap (λ x. x.place) a })
      | inr e ↦ let r : k < length l.places = omega (arith, places_more) in
          head_kept (head_cell l) l l' Place k q.pushed (ap (λ xs. (spot_at xs k).head) q.places ∙ ap (λ x. x.head) (get_or_append_left l.places (s ∷ []) no_spot k r)) (laid.heads Place k r)
    ]
    head Trans k h = head_kept (head_cell l) l l' Trans k q.pushed refl (laid.heads Trans k (omega (arith, ap length q.trans)))

-- moments and removals agree with a new cell
pub timed_push : (a : Cell) (l l' : Layout) → IsPushed a l l' → IsTimed l → ((b : End) → count_of l b ≤ count_of l' b) → IsTimed l'
timed_push a l l' p t more =
    let same_removals = ap length p.removals in
    let long = push_length a l l' p in
    record {
      in_range = λ s h. let e = removal_same a l l' s p (omega arith) in omega (arith, ap (λ x. x.node) e, ap (λ x. count_of l' x.end) e, more (removal_at l s).end, t.in_range s (omega arith));
      recorded = λ s h. let e = removal_same a l l' s p (omega arith) in ap (λ x. removed_at l' x.end x.node) e ∙ p.same (removal_at l s).end (removal_at l s).node ∙ t.recorded s (omega arith);
      node = λ b k h. let d = p.same b k in let low : removed_at l b k < length l.removals = omega arith in ap (λ s. (removal_at l' s).node) d ∙ ap (λ x. x.node) (removal_same a l l' (removed_at l b k) p low) ∙ t.node b k low;
      kind = λ b k h. let d = p.same b k in let low : removed_at l b k < length l.removals = omega arith in ap (λ s. (removal_at l' s).end) d ∙ ap (λ x. x.end) (removal_same a l l' (removed_at l b k) p low) ∙ t.kind b k low;
      alive = λ b k h. p.same b k ∙ t.alive b k (omega (arith, p.same b k));
      cells = λ s h. omega (arith, ap (λ x. x.cells) (removal_same a l l' s p (omega arith)), t.cells s (omega arith));
      cells_up = λ s r le h. omega (arith, ap (λ x. x.cells) (removal_same a l l' s p (omega arith)), ap (λ x. x.cells) (removal_same a l l' r p (omega arith)), t.cells_up s r le (omega arith));
      room = omega (arith, ap (λ r. r.removals) p.rooms, t.room);
      small = omega (arith, ap (λ r. r.removals) p.rooms, t.small);
    }

-- what the links of the longer arena have to do with those of the shorter one
pub more_of : (a : Cell) (l l' : Layout) (b : End) → IsPushed a l l' → IsLaid l' → IsTimed l → IsMore (side l.cells b) (side l.cells (other b)) (side l'.cells b) (side l'.cells (other b)) (times_of l) (times_of l') (length l.cells)
more_of a l l' b p laid t =
    let long = push_length a l l' p in
    record {
      size = depth_now l;
      size' = depth_now l' ∙ long;
      depth = ap length p.removals;
      until = λ e h. ap (λ x. min (removed_at l' Place x.place) (removed_at l' Trans x.trans)) (push_old a l l' e p h)
          ∙ ap (λ x. min x (removed_at l' Trans (cell_at l.cells e).trans)) (p.same Place (cell_at l.cells e).place)
          ∙ ap (λ x. min (removed_at l Place (cell_at l.cells e).place) x) (p.same Trans (cell_at l.cells e).trans);
      live = omega (arith, ap (λ x. min (removed_at l' Place x.place) (removed_at l' Trans x.trans)) (push_new a l l' p), p.same Place a.place, p.same Trans a.trans, p.live Place, p.live Trans, t.room, t.small);
      before = λ s h. ap (λ x. x.cells) (removal_same a l l' s p h);
      bound = λ s h. t.cells s h;
      own_key = λ e h. ap (end_of b) (push_old a l l' e p h);
      own_head = λ e h. ap (λ x. eqb (end_of (other b) x) none) (push_old a l l' e p h);
      other_head = λ e h. ap (λ x. eqb (end_of (other (other b)) x) none) (push_old a l l' e p h);
      heads = let P : ℕ → Type 0 = λ n. HasHeads (side l'.cells b) n in subst P long (crossed_of b l' laid).own_heads;
    }

-- past the new place nothing was removed
pub place_more : (s : Spot) (l l' : Layout) → IsPushedPlace s l l' → (b : End) → count_of l b ≤ count_of l' b
place_more s l l' q Place = omega (arith, ap length q.places, length-append l.places (s ∷ []))
place_more s l l' q Trans = omega (arith, ap length q.trans)

-- a new cell stands between nodes that are there
pub cell_more : (a : Cell) (l l' : Layout) → IsPushedCell a l l' → (b : End) → count_of l b ≤ count_of l' b
cell_more a l l' q Place = omega (arith, ap length q.places)
cell_more a l l' q Trans = omega (arith, ap length q.trans)
