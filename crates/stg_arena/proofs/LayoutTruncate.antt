-- The layout and the links, when cells are taken off.
use Rattle.std.proofs.Common.{◌≡◌, ◌≢◌, ◌<◌, ◌≤◌, ◌⊎◌, ◌+◌, ◌-◌, ◌++◌, ◌∷◌, [], ℕ, List, length, leb, sym, ap, ◌∙◌, refl, inl, inr, eqb, eq-eqb, arith, slice_index_or}
use Rattle.std.proofs.lemmas.Bool.{cases_eq, cases_lt, cases_order}
use Rattle.std.proofs.lemmas.List.{get_or_append_left, get_or-append_right, get_or_past, length-append}
use Rattle.stg_arena.specs.declared.end.End.{End}
use Rattle.stg_arena.specs.declared.end.End.TheVariants.{Place, Trans}
use Rattle.stg_arena.specs.Ends.{other}
use Rattle.stg_arena.specs.declared.cell.Cell.{Cell}
use Rattle.stg_arena.specs.declared.cell.Spot.{Spot}
use Rattle.stg_arena.specs.declared.links.Link.{Link}
use Rattle.stg_arena.specs.inner.Links.{IsHeld, IsSameBelow}
use Rattle.stg_arena.specs.ArenaView.{Layout, none, no_cell, no_spot, spot_at, cell_at, end_of, side, removed_at, count_of, head_of, removal_at, times_of, IsHead, IsLaid, IsTimed, IsPushed}
use Rattle.stg_arena.specs.inner.LastCell.{EndsInCell, EndsInPlace, IsPushedHead, IsOneMore}
use Rattle.stg_arena.specs.Extends.{IsExtended}
use Rattle.stg_arena.specs.Truncation.{CanTruncate, IsTruncated}
use Rattle.stg_arena.proofs.LayoutAppend.{push_length, push_old, push_new, removal_same, more_of}
use Rattle.stg_arena.proofs.LinksAppend.{shrunk_head, shrunk_apart}
use Rattle.stg_arena.proofs.Extends.{extended_refl, extended_trans, extended_cell, one_new_cell}

module _ (a : Cell) (s : Spot) (l l' : Layout) (q : IsPushedHead a s l l') where
  more : length l'.places ≡ length l.places + 1
  more = ap length q.places ∙ length-append l.places (s ∷ []) ∙ omega arith

  -- the cells lie as they must without the last place
  pub laid_unplace : IsLaid l' → IsLaid l
  laid_unplace laid =
      let p = q.pushed in
      let long = push_length a l l' p in
      record {
        ascending = λ b c d low h k. let lc : c < length l.cells = omega arith in
            let f = laid.ascending b c d low (omega arith) (ap (end_of b) (push_old a l l' c p lc) ∙ k ∙ sym (ap (end_of b) (push_old a l l' d p h))) in
            rw (← push_old a l l' c p lc, ← push_old a l l' d p h) f;
        bounded = bounded;
        heads = heads;
        small = omega (arith, laid.small);
        cells = omega (arith, ap (λ r. r.cells) p.rooms, laid.cells);
        most_cells = omega (arith, ap (λ r. r.cells) p.rooms, laid.most_cells);
        places = omega (arith, more, ap (λ r. r.places) p.rooms, laid.places);
        most_places = omega (arith, ap (λ r. r.places) p.rooms, laid.most_places);
        sizes = sizes;
      }
    where
      sizes : (b : End) → count_of l b ≤ none
      sizes Place = omega (arith, more, laid.sizes Place)
      sizes Trans = omega (arith, ap length q.trans, laid.sizes Trans)

      bounded : (b : End) (c : ℕ) → c < length l.cells → (end_of b (cell_at l.cells c) ≡ none) ⊎ (end_of b (cell_at l.cells c) < count_of l b)
      bounded Place c h =
          let long = push_length a l l' q.pushed in
          let o = push_old a l l' c q.pushed h in
          elim (laid.bounded Place c (omega arith)) [
            | inl e ↦ inl (sym (ap (λ x. x.place) o) ∙ e)
            | inr e ↦ elim (cases_eq (cell_at l.cells c).place (length l.places)) [
              | inl z ↦ absurd ((laid.ascending Place c (length l.cells) h (omega arith) (ap (λ x. x.place) o ∙ z ∙ sym q.place ∙ sym (ap (λ x. x.place) (push_new a l l' q.pushed)))).no_head (ap (λ x. x.trans) (push_new a l l' q.pushed) ∙ q.head))
              | inr z ↦ inr (omega (arith, ap (λ x. x.place) o, more))
            ]
          ]
      bounded Trans c h =
          let o = push_old a l l' c q.pushed h in
          elim (laid.bounded Trans c (omega (arith, push_length a l l' q.pushed))) [
            | inl e ↦ inl (sym (ap (λ x. x.trans) o) ∙ e)
            | inr e ↦ inr (omega (arith, ap (λ x. x.trans) o, ap length q.trans))
          ]

      kept : (b : End) (k : ℕ) → head_of l' b k ≡ head_of l b k → head_of l b k ≢ length l.cells → IsHead l' b k → IsHead l b k
      kept b k same ne h =
          let low : head_of l b k < length l.cells = omega (arith, h.below, same, push_length a l l' q.pushed) in
          let f : cell_at l'.cells (head_of l' b k) ≡ cell_at l.cells (head_of l b k) = ap (cell_at l'.cells) same ∙ push_old a l l' (head_of l b k) q.pushed low in
          record { below = low; far = sym (ap (end_of (other b)) f) ∙ h.far; key = sym (ap (end_of b) f) ∙ h.key }

      heads : (b : End) (k : ℕ) → k < count_of l b → IsHead l b k
      heads Place k r =
          let h = laid.heads Place k (omega (arith, more)) in
          let same : head_of l' Place k ≡ head_of l Place k = ap (λ xs. (spot_at xs k).head) q.places ∙ ap (λ x. x.head) (get_or_append_left l.places (s ∷ []) no_spot k r) in
          kept Place k same (λ e. absurd (omega (arith, h.key, ap (λ c. (cell_at l'.cells c).place) (same ∙ e), ap (λ x. x.place) (push_new a l l' q.pushed), q.place))) h
      heads Trans k r =
          let h = laid.heads Trans k (omega (arith, ap length q.trans)) in
          kept Trans k refl (λ e. absurd (omega (arith, h.key, ap (λ c. (cell_at l'.cells c).trans) e, ap (λ x. x.trans) (push_new a l l' q.pushed), q.head, laid.sizes Trans, ap length q.trans))) h

  -- moments and removals agree without the last place
  pub timed_unplace : IsTimed l' → ((s : ℕ) → s < length l'.removals → (removal_at l' s).cells < length l'.cells) → IsTimed l
  timed_unplace t late =
      let p = q.pushed in
      let same_removals = ap length p.removals in
      let long = push_length a l l' p in
      record {
        in_range = λ s h. range s h (removal_at l s).end refl;
        recorded = λ s h. let e = removal_same a l l' s p h in sym (p.same (removal_at l s).end (removal_at l s).node) ∙ sym (ap (λ x. removed_at l' x.end x.node) e) ∙ t.recorded s (omega arith);
        node = λ b k h. let d = p.same b k in sym (ap (λ x. x.node) (removal_same a l l' (removed_at l b k) p h)) ∙ sym (ap (λ s. (removal_at l' s).node) d) ∙ t.node b k (omega arith);
        kind = λ b k h. let d = p.same b k in sym (ap (λ x. x.end) (removal_same a l l' (removed_at l b k) p h)) ∙ sym (ap (λ s. (removal_at l' s).end) d) ∙ t.kind b k (omega arith);
        alive = λ b k h. sym (p.same b k) ∙ t.alive b k (omega (arith, p.same b k));
        cells = λ s h. omega (arith, ap (λ x. x.cells) (removal_same a l l' s p h), late s (omega arith));
        cells_up = λ s r le h. omega (arith, ap (λ x. x.cells) (removal_same a l l' s p (omega arith)), ap (λ x. x.cells) (removal_same a l l' r p h), t.cells_up s r le (omega arith));
        room = omega (arith, ap (λ r. r.removals) p.rooms, t.room);
        small = omega (arith, ap (λ r. r.removals) p.rooms, t.small);
      }
    where
      -- the last place wasn't removed
      range : (r : ℕ) → r < length l.removals → (b : End) → (removal_at l r).end ≡ b → (removal_at l r).node < count_of l (removal_at l r).end
      range r h Place e =
          let g = removal_same a l l' r q.pushed h in
          let same_removals = ap length q.pushed.removals in
          let inside : (removal_at l r).node < length l'.places = omega (arith, t.in_range r (omega arith), ap (λ x. x.node) g, ap (λ x. count_of l' x.end) g, ap (count_of l') e) in
          let d : removed_at l Place (removal_at l r).node ≡ r = sym (q.pushed.same Place (removal_at l r).node) ∙ sym (ap (λ b. removed_at l' b (removal_at l r).node) e) ∙ sym (ap (λ x. removed_at l' x.end x.node) g) ∙ t.recorded r (omega arith) in
          elim (cases_eq (removal_at l r).node (length l.places)) [
            | inl z ↦ absurd (omega (arith, d, ap (removed_at l Place) z, ap (λ x. x.removed_at) (get_or_past l.places (length l.places) no_spot (omega arith)), t.room, t.small, same_removals))
            | inr z ↦ omega (arith, more, ap (count_of l) e)
          ]
      range r h Trans e =
          let g = removal_same a l l' r q.pushed h in
          omega (arith, t.in_range r (omega (arith, ap length q.pushed.removals)), ap (λ x. x.node) g, ap (λ x. count_of l' x.end) g, ap (count_of l') e, ap (count_of l) e, ap length q.trans)

  module _ (links new : List Link) (laid : IsLaid l') (t : IsTimed l) where
    pub by_place_unplace : IsHeld (side l'.cells Place) (side l'.cells Trans) (times_of l') links → length new ≡ length l.cells → IsSameBelow (length l.cells) links new → IsHeld (side l.cells Place) (side l.cells Trans) (times_of l) new
    by_place_unplace held long same =
        shrunk_head (side l.cells Place) (side l.cells Trans) (side l'.cells Place) (side l'.cells Trans) (times_of l) (times_of l') (length l.cells) links new
        (more_of a l l' Place q.pushed laid t) held long same
        (ap (λ x. eqb x.trans none) (push_new a l l' q.pushed) ∙ eq-eqb a.trans none q.head)

    pub by_trans_unplace : IsHeld (side l'.cells Trans) (side l'.cells Place) (times_of l') links → length new ≡ length l.cells → IsSameBelow (length l.cells) links new → IsHeld (side l.cells Trans) (side l.cells Place) (times_of l) new
    by_trans_unplace held long same =
        shrunk_apart (side l.cells Trans) (side l.cells Place) (side l'.cells Trans) (side l'.cells Place) (times_of l) (times_of l') (length l.cells) links new
        (more_of a l l' Trans q.pushed laid t) held long same
        (ap (λ x. eqb x.trans none) (push_new a l l' q.pushed) ∙ eq-eqb a.trans none q.head)

  -- the arena with the last place extends the one without it
  pub extended_unplace : (n : ℕ) → IsTimed l → n ≤ a.place → a.place < none → IsExtended n l l'
  extended_unplace n t above is_arc = record {
    more = a ∷ [];
    cells = q.pushed.cells;
    new_cells = one_new_cell n l l' a t q.pushed above is_arc;
    places = omega (arith, more);
    trans = ap length q.trans;
    tokens = λ p h. ap (λ xs. (spot_at xs p).tokens) q.places ∙ ap (λ x. x.tokens) (get_or_append_left l.places (s ∷ []) no_spot p (omega (arith, q.place)));
    live = λ r b k h. ap (leb r) (q.pushed.same b k);
    longer = omega (arith, ap length q.pushed.removals);
    removed = λ r h. removal_same a l l' r q.pushed h;
    rooms = q.pushed.rooms;
  }

-- what a pop of a place comes to
pub popped_place : (a : Cell) (s : Spot) (l l' : Layout) → l'.cells ≡ l.cells ++ a ∷ [] → l'.removals ≡ l.removals → l'.places ≡ l.places ++ s ∷ [] → l'.trans ≡ l.trans → l'.rooms ≡ l.rooms → IsLaid l' → EndsInPlace l' → IsPushedHead a s l l'
popped_place a s l l' cells removals places trans rooms laid can = record {
  pushed = record {
    cells = cells;
    removals = removals;
    rooms = rooms;
    same = same;
    live = live;
    after = λ b c h k.
        let f = laid.ascending b c (length l.cells) h (omega (arith, long)) (ap (end_of b) (old c h) ∙ k ∙ sym (ap (end_of b) last)) in
        record { no_head = λ e. f.no_head (ap (end_of (other b)) last ∙ e); up = elim f.up [ inl e ↦ inl (sym (ap (end_of (other b)) (old c h)) ∙ e) | inr e ↦ inr (omega (arith, ap (end_of (other b)) (old c h), ap (end_of (other b)) last)) ] };
  };
  place = place;
  head = head;
  places = places;
  trans = trans;
}
  where
    long : length l'.cells ≡ length l.cells + 1
    long = ap length cells ∙ length-append l.cells (a ∷ []) ∙ omega arith

    more : length l'.places ≡ length l.places + 1
    more = ap length places ∙ length-append l.places (s ∷ []) ∙ omega arith

    old : (c : ℕ) → c < length l.cells → cell_at l'.cells c ≡ cell_at l.cells c
    old c h = ap (λ xs. cell_at xs c) cells ∙ get_or_append_left l.cells (a ∷ []) no_cell c h

    last : cell_at l'.cells (length l.cells) ≡ a
    last = ap (λ xs. cell_at xs (length l.cells)) cells
        ∙ get_or-append_right l.cells (a ∷ []) (length l.cells) (length l.cells) no_cell refl (omega arith)
        ∙ ap (λ i. slice_index_or (a ∷ []) i no_cell) (let z : length l.cells - length l.cells ≡ 0 = omega arith in z)

    is_head : IsHead l' Place (length l'.places - 1)
    is_head = laid.heads Place (length l'.places - 1) (omega (arith, can.some))

    at_last : cell_at l'.cells (head_of l' Place (length l'.places - 1)) ≡ a
    at_last = ap (cell_at l'.cells) (let z : head_of l' Place (length l'.places - 1) ≡ length l.cells = omega (arith, can.last, long) in z) ∙ last

    place : a.place ≡ length l.places
    place = omega (arith, is_head.key, ap (λ x. x.place) at_last, more)

    head : a.trans ≡ none
    head = sym (ap (λ x. x.trans) at_last) ∙ is_head.far

    past : removed_at l Place (length l.places) ≡ none
    past = ap (λ x. x.removed_at) (get_or_past l.places (length l.places) no_spot (omega arith))

    same : (b : End) (k : ℕ) → removed_at l' b k ≡ removed_at l b k
    same Place k = elim (cases_lt k (length l.places)) [
      | inl low ↦ ap (λ xs. (spot_at xs k).removed_at) places ∙ ap (λ x. x.removed_at) (get_or_append_left l.places (s ∷ []) no_spot k low)
      | inr high ↦ elim (cases_eq k (length l.places)) [
        | inl e ↦ rw e (ap (removed_at l' Place) (let z : length l.places ≡ length l'.places - 1 = omega (arith, more) in z) ∙ can.live ∙ sym past)
        | inr e ↦ ap (λ x. x.removed_at) (get_or_past l'.places k no_spot (omega (arith, more))) ∙ sym (ap (λ x. x.removed_at) (get_or_past l.places k no_spot high))
      ]
    ]
    same Trans k = ap (λ xs. slice_index_or xs k none) trans

    live : (b : End) → removed_at l b (end_of b a) ≡ none
    live Place = ap (removed_at l Place) place ∙ past
    live Trans = ap (removed_at l Trans) head ∙ get_or_past l.trans none none (omega (arith, ap length trans, laid.sizes Trans))

-- links without the last one
pub link_less : (links new : List Link) (x : Link) → links ≡ new ++ x ∷ [] → IsSameBelow (length new) links new
link_less links new x e = record {
  next = λ c h. sym (ap (λ y. y.next) (ap (λ xs. slice_index_or xs c (record { prev = 0; next = 0 })) e ∙ get_or_append_left new (x ∷ []) (record { prev = 0; next = 0 }) c h));
  prev = λ c h. sym (ap (λ y. y.prev) (ap (λ xs. slice_index_or xs c (record { prev = 0; next = 0 })) e ∙ get_or_append_left new (x ∷ []) (record { prev = 0; next = 0 }) c h));
}

-- which the last cell is
module _ (n cells : ℕ) (l : Layout) (laid : IsLaid l) (can : CanTruncate n cells l) (more : cells < length l.cells) where
  -- a last cell that is no head can be taken off
  pub ends_in_cell : (cell_at l.cells (length l.cells - 1)).trans ≢ none → EndsInCell l
  ends_in_cell arc = record {
    some = omega arith;
    inside = λ b. inside b;
    live = λ b. can.live (length l.cells - 1) b (omega arith) (omega arith);
    late = λ s h. omega (arith, can.late s h);
  }
    where
      inside : (b : End) → end_of b (cell_at l.cells (length l.cells - 1)) < count_of l b
      inside Place = elim (laid.bounded Place (length l.cells - 1) (omega arith)) [ inl e ↦ absurd (omega (arith, (can.newer (length l.cells - 1) (omega arith) (omega arith)).1)) | inr e ↦ e ]
      inside Trans = elim (laid.bounded Trans (length l.cells - 1) (omega arith)) [ inl e ↦ absurd (arc e) | inr e ↦ e ]

  -- a last cell that is a head is that of the last place
  pub ends_in_place : (cell_at l.cells (length l.cells - 1)).trans ≡ none → EndsInPlace l
  ends_in_place is_head =
      let x = length l.cells - 1 in
      let inside : (cell_at l.cells x).place < length l.places = elim (laid.bounded Place x (omega arith)) [ inl e ↦ absurd (omega (arith, (can.newer x (omega arith) (omega arith)).1)) | inr e ↦ e ] in
      let h = laid.heads Place (length l.places - 1) (omega arith) in
      let last : head_of l Place (length l.places - 1) ≡ x = elim (cases_order (head_of l Place (length l.places - 1)) x) [
        | inl e ↦ e
        | inr (inl low) ↦ elim (laid.ascending Trans (head_of l Place (length l.places - 1)) x low (omega arith) (h.far ∙ sym is_head)).up [
          | inl e ↦ absurd (omega (arith, h.key, laid.sizes Place))
          | inr e ↦ absurd (omega (arith, h.key))
        ]
        | inr (inr high) ↦ absurd (omega (arith, h.below))
      ] in
      record {
        some = omega arith;
        last = omega arith;
        live = ap (removed_at l Place) (sym (sym (ap (λ c. (cell_at l.cells c).place) last) ∙ h.key)) ∙ can.live x Place (omega arith) (omega arith);
        late = λ s h. omega (arith, can.late s h);
      }

-- one cell less
pub pop_on : (n cells : ℕ) (l l' l'' : Layout) → IsTruncated n cells l l' → cells < length l'.cells → IsTimed l'' → IsOneMore l'' l' → IsTruncated n cells l l''
pop_on n cells l l' l'' w low t one = elim one [
  | inl arc ↦
      let a = arc.0 in
      let q = arc.1 in
      let new = w.can.newer (length l''.cells) (omega (arith, push_length a l'' l' q.pushed)) (omega (arith, push_length a l'' l' q.pushed)) in
      let is = ap (λ x. x.place) (push_new a l'' l' q.pushed) in
      go a q.pushed (extended_cell n a l'' l' t q (omega (arith, new.0, is)) (omega (arith, new.1, is))) (omega (arith, ap length q.places, w.can.few)) (omega (arith, ap length q.places))
  | inr head ↦
      let a = head.0 in
      let q = head.2 in
      let new = w.can.newer (length l''.cells) (omega (arith, push_length a l'' l' q.pushed)) (omega (arith, push_length a l'' l' q.pushed)) in
      let is = ap (λ x. x.place) (push_new a l'' l' q.pushed) in
      go a q.pushed (extended_unplace a head.1 l'' l' q n t (omega (arith, new.0, is)) (omega (arith, new.1, is))) (omega (arith, q.place, new.0, is)) (omega (arith, ap length q.places, length-append l''.places (head.1 ∷ [])))
]
  where
    go : (a : Cell) → IsPushed a l'' l' → IsExtended n l'' l' → n ≤ length l''.places → length l'.places ≤ length l''.places + 1 → IsTruncated n cells l l''
    go a p f few one_less =
        let long = push_length a l'' l' p in
        record {
          later = extended_trans n l'' l' l f w.later;
          can = record {
            kept = omega arith;
            few = few;
            older = λ c h. let e = ap (λ x. x.place) (push_old a l'' l' c p (omega arith)) in elim (w.can.older c h) [ inl z ↦ inl (sym e ∙ z) | inr z ↦ inr (omega (arith, e)) ];
            newer = λ c from h. let e = ap (λ x. x.place) (push_old a l'' l' c p h) in let z = w.can.newer c from (omega arith) in (omega (arith, e, z.0), omega (arith, e, z.1));
            live = λ c b from h. let e = push_old a l'' l' c p h in sym (p.same b (end_of b (cell_at l''.cells c))) ∙ sym (ap (λ x. removed_at l' b (end_of b x)) e) ∙ w.can.live c b from (omega arith);
            late = λ s h. omega (arith, ap (λ x. x.cells) (removal_same a l'' l' s p h), w.can.late s (omega (arith, ap length p.removals)));
          };
          removals = sym p.removals ∙ w.removals;
          slim = omega (arith, w.slim);
        }

-- when all those cells are off, so are the places from n on
pub truncated_places : (n cells : ℕ) (l : Layout) → IsLaid l → CanTruncate n cells l → length l.cells ≡ cells → length l.places ≤ n
truncated_places n cells l laid can all = elim (cases_lt n (length l.places)) [
  | inr few ↦ few
  | inl count_of ↦
      let h = laid.heads Place n count_of in
      elim (can.older (head_of l Place n) (omega (arith, h.below))) [
        | inl e ↦ absurd (omega (arith, h.key, laid.sizes Place))
        | inr e ↦ absurd (omega (arith, h.key))
      ]
]

-- no cell is taken off yet
pub truncation_starts : (n cells : ℕ) (l : Layout) → CanTruncate n cells l → IsTruncated n cells l l
truncation_starts n cells l can = record { later = extended_refl n l; can = can; removals = refl; slim = omega arith }
