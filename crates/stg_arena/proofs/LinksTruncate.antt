-- The layout and the links, when the last cell, which is no head, is taken off.
use Rattle.std.proofs.Common.{◌≡◌, ◌<◌, ◌+◌, ◌-◌, ◌++◌, ◌∷◌, [], ℕ, List, length, subst, sym, ap, ◌∙◌, refl, inl, inr, arith, slice_index_or}
use Rattle.std.proofs.lemmas.Bool.{cases_eq, ne_eqb}
use Rattle.std.proofs.lemmas.List.{get_or_append_left, get_or-append_right, get_or_default, length-append}
use Rattle.stg_arena.specs.declared.end.End.{End}
use Rattle.stg_arena.specs.declared.end.End.TheVariants.{Place, Trans}
use Rattle.stg_arena.specs.Ends.{other}
use Rattle.stg_arena.specs.declared.cell.Cell.{Cell}
use Rattle.stg_arena.specs.declared.links.Link.{Link}
use Rattle.stg_arena.specs.inner.Links.{next_at, prev_at, IsUnlinked, IsHeld, IsSameBelow}
use Rattle.stg_arena.specs.LinkHistory.{IsOn, frame_at}
use Rattle.stg_arena.specs.ArenaView.{Layout, none, no_cell, spot_at, cell_at, end_of, side, removed_at, count_of, head_of, removal_at, times_of, IsHead, IsLaid, IsTimed, IsPushedCell}
use Rattle.stg_arena.specs.inner.LastCell.{EndsInCell}
use Rattle.stg_arena.proofs.RemovalTimes.{depth_now}
use Rattle.stg_arena.proofs.ArenaInvariant.{other_other}
use Rattle.stg_arena.proofs.LayoutAppend.{push_length, push_old, push_new, more_of}
use Rattle.stg_arena.proofs.LinksAppend.{shrunk_cell}

-- the cell that is taken off is the last one
pub last_cell : (a : Cell) (l l' : Layout) → l'.cells ≡ l.cells ++ a ∷ [] → cell_at l'.cells (length l'.cells - 1) ≡ a
last_cell a l l' cells =
    ap (cell_at l'.cells) (let e : length l'.cells - 1 ≡ length l.cells = omega (arith, ap length cells, length-append l.cells (a ∷ [])) in e)
    ∙ ap (λ xs. cell_at xs (length l.cells)) cells
    ∙ get_or-append_right l.cells (a ∷ []) (length l.cells) (length l.cells) no_cell refl (omega arith)
    ∙ ap (λ i. slice_index_or (a ∷ []) i no_cell) (let z : length l.cells - length l.cells ≡ 0 = omega arith in z)

-- what a pop of a cell comes to
pub popped_cell : (a : Cell) (l l' : Layout) → l'.cells ≡ l.cells ++ a ∷ [] → l'.removals ≡ l.removals → l'.places ≡ l.places → l'.trans ≡ l.trans → l'.rooms ≡ l.rooms → IsLaid l' → EndsInCell l' → IsPushedCell a l l'
popped_cell a l l' cells removals places trans rooms laid can = record {
  pushed = record {
    cells = cells;
    removals = removals;
    rooms = rooms;
    same = same;
    live = λ b. sym (same b (end_of b a)) ∙ sym (ap (λ x. removed_at l' b (end_of b x)) last) ∙ can.live b;
    after = λ b c h k. let lc : c < length l'.cells - 1 = omega (arith, long) in
        let f = laid.ascending b c (length l'.cells - 1) lc (omega (arith, can.some)) (ap (end_of b) (old c h) ∙ k ∙ sym (ap (end_of b) last)) in
        record { no_head = λ e. f.no_head (ap (end_of (other b)) last ∙ e); up = elim f.up [ inl e ↦ inl (sym (ap (end_of (other b)) (old c h)) ∙ e) | inr e ↦ inr (omega (arith, ap (end_of (other b)) (old c h), ap (end_of (other b)) last)) ] };
  };
  places = places;
  trans = trans;
  inside = λ b. omega (arith, ap (end_of b) last, can.inside b, as_many b);
}
  where
    long : length l'.cells ≡ length l.cells + 1
    long = ap length cells ∙ length-append l.cells (a ∷ []) ∙ omega arith

    old : (c : ℕ) → c < length l.cells → cell_at l'.cells c ≡ cell_at l.cells c
    old c h = ap (λ xs. cell_at xs c) cells ∙ get_or_append_left l.cells (a ∷ []) no_cell c h

    last : cell_at l'.cells (length l'.cells - 1) ≡ a
    last = ap (cell_at l'.cells) (let e : length l'.cells - 1 ≡ length l.cells = omega (arith, long) in e)
        ∙ ap (λ xs. cell_at xs (length l.cells)) cells
        ∙ get_or-append_right l.cells (a ∷ []) (length l.cells) (length l.cells) no_cell refl (omega arith)
        ∙ ap (λ i. slice_index_or (a ∷ []) i no_cell) (let z : length l.cells - length l.cells ≡ 0 = omega arith in z)

    same : (b : End) (k : ℕ) → removed_at l' b k ≡ removed_at l b k
    same Place k = ap (λ xs. (spot_at xs k).removed_at) places
    same Trans k = ap (λ xs. slice_index_or xs k none) trans

    as_many : (b : End) → count_of l' b ≡ count_of l b
    as_many Place = ap length places
    as_many Trans = ap length trans

-- the cells lie as they must without the last one
pub laid_pop : (a : Cell) (l l' : Layout) → IsPushedCell a l l' → IsLaid l' → IsLaid l
laid_pop a l l' q laid =
    let p = q.pushed in
    let long = push_length a l l' p in
    record {
      ascending = λ b c d low h k. let lc : c < length l.cells = omega arith in
          let f = laid.ascending b c d low (omega arith) (ap (end_of b) (push_old a l l' c p lc) ∙ k ∙ sym (ap (end_of b) (push_old a l l' d p h))) in
          rw (← push_old a l l' c p lc, ← push_old a l l' d p h) f;
      bounded = λ b c h. rw (← push_old a l l' c p h) (elim (laid.bounded b c (omega arith)) [ inl e ↦ inl e | inr e ↦ inr (omega (arith, as_many b)) ]);
      heads = λ b k h. head b k (laid.heads b k (omega (arith, as_many b)));
      small = omega (arith, laid.small);
      cells = omega (arith, ap (λ r. r.cells) p.rooms, laid.cells);
      most_cells = omega (arith, ap (λ r. r.cells) p.rooms, laid.most_cells);
      places = omega (arith, ap length q.places, ap (λ r. r.places) p.rooms, laid.places);
      most_places = omega (arith, ap (λ r. r.places) p.rooms, laid.most_places);
      sizes = λ b. omega (arith, as_many b, laid.sizes b);
    }
  where
    as_many : (b : End) → count_of l' b ≡ count_of l b
    as_many Place = ap length q.places
    as_many Trans = ap length q.trans

    same : (b : End) (k : ℕ) → head_of l' b k ≡ head_of l b k
    same Place k = ap (λ xs. (spot_at xs k).head) q.places
    same Trans k = refl

    -- the last cell is no head
    head : (b : End) (k : ℕ) → IsHead l' b k → IsHead l b k
    head b k h = elim (cases_eq (head_of l b k) (length l.cells)) [
      | inl e ↦ absurd (omega (arith, h.far, ap (λ c. end_of (other b) (cell_at l'.cells c)) (same b k ∙ e), ap (end_of (other b)) (push_new a l l' q.pushed), q.inside (other b), laid.sizes (other b), as_many (other b)))
      | inr e ↦
          let low : head_of l b k < length l.cells = omega (arith, h.below, same b k, push_length a l l' q.pushed) in
          let f : cell_at l'.cells (head_of l' b k) ≡ cell_at l.cells (head_of l b k) = ap (cell_at l'.cells) (same b k) ∙ push_old a l l' (head_of l b k) q.pushed low in
          record { below = low; far = sym (ap (end_of (other b)) f) ∙ h.far; key = sym (ap (end_of b) f) ∙ h.key }
    ]

-- moments and removals agree without the last cell
pub timed_pop : (a : Cell) (l l' : Layout) → IsPushedCell a l l' → IsTimed l' → EndsInCell l' → IsTimed l
timed_pop a l l' q t can =
    let p = q.pushed in
    let same_removals = ap length p.removals in
    let long = push_length a l l' p in
    record {
      in_range = λ s h. let e = removed s h in omega (arith, ap (λ x. x.node) e, ap (λ x. count_of l' x.end) e, as_many (removal_at l s).end, t.in_range s (omega arith));
      recorded = λ s h. let e = removed s h in sym (p.same (removal_at l s).end (removal_at l s).node) ∙ sym (ap (λ x. removed_at l' x.end x.node) e) ∙ t.recorded s (omega arith);
      node = λ b k h. let d = p.same b k in sym (ap (λ x. x.node) (removed (removed_at l b k) h)) ∙ sym (ap (λ s. (removal_at l' s).node) d) ∙ t.node b k (omega arith);
      kind = λ b k h. let d = p.same b k in sym (ap (λ x. x.end) (removed (removed_at l b k) h)) ∙ sym (ap (λ s. (removal_at l' s).end) d) ∙ t.kind b k (omega arith);
      alive = λ b k h. sym (p.same b k) ∙ t.alive b k (omega (arith, p.same b k));
      cells = λ s h. omega (arith, ap (λ x. x.cells) (removed s h), can.late s (omega arith));
      cells_up = λ s r le h. omega (arith, ap (λ x. x.cells) (removed s (omega arith)), ap (λ x. x.cells) (removed r h), t.cells_up s r le (omega arith));
      room = omega (arith, ap (λ r. r.removals) p.rooms, t.room);
      small = omega (arith, ap (λ r. r.removals) p.rooms, t.small);
    }
  where
    as_many : (b : End) → count_of l' b ≡ count_of l b
    as_many Place = ap length q.places
    as_many Trans = ap length q.trans

    removed : (s : ℕ) → s < length l.removals → removal_at l' s ≡ removal_at l s
    removed s h = ap (λ xs. slice_index_or xs s (record { end = Place; node = none; cells = length l'.cells })) q.pushed.removals
        ∙ get_or_default l.removals s (record { end = Place; node = none; cells = length l'.cells }) (record { end = Place; node = none; cells = length l.cells }) h

-- one side's links are right without the last cell
pub pop_side : (a : Cell) (l l' : Layout) (b : End) (links mid new : List Link) → IsPushedCell a l l' → IsLaid l' → IsTimed l → IsHeld (side l'.cells b) (side l'.cells (other b)) (times_of l') links → length new + 1 ≡ length links → IsUnlinked links mid (length links - 1) → IsSameBelow (length links - 1) mid new → IsHeld (side l.cells b) (side l.cells (other b)) (times_of l) new
pop_side a l l' b links mid new q laid t held long u same =
    let n = length l.cells in
    let size : length links - 1 ≡ n = omega (arith, held.long, depth_now l', push_length a l l' q.pushed) in
    let new_at = push_new a l l' q.pushed in
    shrunk_cell (side l.cells b) (side l.cells (other b)) (side l'.cells b) (side l'.cells (other b)) (times_of l) (times_of l') n links mid new
    (more_of a l l' b q.pushed laid t) held (omega arith) (let P : ℕ → Type 0 = λ n. IsSameBelow n mid new in subst P size same)
    (rw new_at (ne_eqb (end_of (other b) a) none (λ e. absurd (omega (arith, q.inside (other b), laid.sizes (other b), as_many (other b))))))
    (rw (new_at, other_other b) (ne_eqb (end_of b a) none (λ e. absurd (omega (arith, q.inside b, laid.sizes b, as_many b)))))
    (let P : ℕ → Type 0 = λ n. IsUnlinked links mid n in subst P size u)
  where
    as_many : (b : End) → count_of l' b ≡ count_of l b
    as_many Place = ap length q.places
    as_many Trans = ap length q.trans

-- the last cell has cells before and after it
pub record IsPopSafe (links : List Link) : Type 0 where
  pub some : 0 < length links
  pub prev : prev_at links (length links - 1) < length links
  pub next : next_at links (length links - 1) < length links

-- the last cell is live, and so in its ring
pub pop_safe : (l' : Layout) (b : End) (links : List Link) → IsLaid l' → IsTimed l' → IsHeld (side l'.cells b) (side l'.cells (other b)) (times_of l') links → EndsInCell l' → IsPopSafe links
pop_safe l' b links laid t held can =
    let size : length links ≡ length l'.cells = held.long ∙ depth_now l' in
    let x = length l'.cells - 1 in
    let on : IsOn (side l'.cells (other b)) (frame_at (side l'.cells b) (side l'.cells (other b)) (times_of l') (length l'.removals)) x = record {
      below = omega (arith, depth_now l', can.some);
      live = omega (arith, can.live Place, can.live Trans, t.room, t.small);
      part = rw (other_other b) (ne_eqb (end_of b (cell_at l'.cells x)) none (λ e. absurd (omega (arith, can.inside b, laid.sizes b))));
    } in
    let e : length links - 1 ≡ x = omega arith in
    record {
      some = omega (arith, can.some);
      prev = omega (arith, ap (prev_at links) e, held.long, (held.rings.back x on.below on).from_below);
      next = omega (arith, ap (next_at links) e, held.long, (held.rings.forward x on.below on).to_below);
    }
