-- The links of one side, when a cell is put behind the others.
use Rattle.std.proofs.Common.{◌≡◌, ◌<◌, ◌+◌, ◌-◌, ◌++◌, ◌∷◌, [], ℕ, List, length, subst, sym, ap, ◌∙◌, refl, inl, inr, eq-eqb, arith, slice_index_or}
use Rattle.std.proofs.lemmas.Bool.{cases_eq, cases_lt, ne_eqb}
use Rattle.std.proofs.lemmas.List.{get_or_append_left, get_or-append_right, get_or_past, length-append}
use Rattle.stg_arena.specs.declared.end.End.{End}
use Rattle.stg_arena.specs.declared.end.End.TheVariants.{Place, Trans}
use Rattle.stg_arena.specs.Ends.{other}
use Rattle.stg_arena.specs.declared.cell.Cell.{Cell}
use Rattle.stg_arena.specs.declared.cell.Spot.{Spot}
use Rattle.stg_arena.specs.declared.links.Link.{Link}
use Rattle.stg_arena.specs.inner.Links.{no_link, prev_at, IsRelinked, IsHeld, IsSameBelow}
use Rattle.stg_arena.specs.LinkHistory.{IsOn, frame_at}
use Rattle.stg_arena.specs.ArenaView.{Layout, none, no_spot, spot_at, cell_at, end_of, side, removed_at, count_of, head_of, head_cell, times_of, IsAfter, IsLaid, IsTimed, IsPushedCell, IsPushedPlace, IsPastAll, IsCellAllowed}
use Rattle.stg_arena.proofs.RemovalTimes.{depth_now}
use Rattle.stg_arena.proofs.ArenaInvariant.{head_until, other_other}
use Rattle.stg_arena.proofs.LayoutAppend.{push_new, more_of}
use Rattle.stg_arena.proofs.LinksAppend.{grown_apart, grown_head, grown_cell}

-- the links before a new one stay
pub link_old : (links : List Link) (x : Link) → IsSameBelow (length links) links (links ++ x ∷ [])
link_old links x = record {
  next = λ c h. ap (λ y. y.next) (get_or_append_left links (x ∷ []) no_link c h);
  prev = λ c h. ap (λ y. y.prev) (get_or_append_left links (x ∷ []) no_link c h);
}

-- the new link stands last
pub link_new : (links : List Link) (x : Link) → slice_index_or (links ++ x ∷ []) (length links) no_link ≡ x
link_new links x =
    get_or-append_right links (x ∷ []) (length links) (length links) no_link refl (omega arith)
    ∙ ap (λ i. slice_index_or (x ∷ []) i no_link) (let z : length links - length links ≡ 0 = omega arith in z)

same_below_at : (n m : ℕ) (old new : List Link) → n ≡ m → IsSameBelow n old new → IsSameBelow m old new
same_below_at n m old new e s = let P : ℕ → Type 0 = λ n. IsSameBelow n old new in subst P e s

-- the head of a live node is on
pub head_on : (b : End) (k : ℕ) (l : Layout) → IsLaid l → IsTimed l → k < count_of l b → removed_at l b k ≡ none → IsOn (side l.cells (other b)) (frame_at (side l.cells b) (side l.cells (other b)) (times_of l) (length l.removals)) (head_of l b k)
head_on b k l laid t range live =
    let h = laid.heads b k range in
    record {
      below = omega (arith, depth_now l, h.below);
      live = head_until b k l laid t range live;
      part = rw (other_other b) (ne_eqb (end_of b (cell_at l.cells (head_of l b k))) none (λ e. absurd (omega (arith, h.key, laid.sizes b))));
    }

-- one side's links are right with a new cell
pub push_side : (a : Cell) (l l' : Layout) (b : End) (old new : List Link) → IsPushedCell a l l' → IsLaid l → IsLaid l' → IsTimed l → IsHeld (side l.cells b) (side l.cells (other b)) (times_of l) old → length new ≡ length old + 1
    → IsRelinked (old ++ record { prev = prev_at old (head_of l b (end_of b a)); next = head_of l b (end_of b a) } ∷ []) new (length old) → IsHeld (side l'.cells b) (side l'.cells (other b)) (times_of l') new
push_side a l l' b old new q laid laid' t held long u =
    let h = head_of l b (end_of b a) in
    let k = end_of b a in
    let long' : length old ≡ length l.cells = held.long ∙ depth_now l in
    let link : Link = record { prev = prev_at old h; next = h } in
    let n = length l.cells in
    let head = laid.heads b k (q.inside b) in
    let new_at = push_new a l l' q.pushed in
    let at_n : slice_index_or (old ++ link ∷ []) n no_link ≡ link = ap (λ i. slice_index_or (old ++ link ∷ []) i no_link) (sym long') ∙ link_new old link in
    grown_cell (side l.cells b) (side l.cells (other b)) (side l'.cells b) (side l'.cells (other b)) (times_of l) (times_of l') n h old (old ++ link ∷ []) new
    (more_of a l l' b q.pushed laid' t) held (omega arith) (same_below_at (length old) n old (old ++ link ∷ []) long' (link_old old link))
    (rw new_at (ne_eqb (end_of (other b) a) none (λ e. absurd (omega (arith, q.inside (other b), laid.sizes (other b))))))
    (rw (new_at, other_other b) (ne_eqb (end_of b a) none (λ e. absurd (omega (arith, q.inside b, laid.sizes b)))))
    (head_on b k l laid t (q.inside b) (q.pushed.live b))
    (eq-eqb (end_of (other b) (cell_at l.cells h)) none head.far)
    (head.key ∙ sym (ap (end_of b) new_at))
    (ap (λ x. x.prev) at_n) (ap (λ x. x.next) at_n)
    (let P : ℕ → Type 0 = λ n. IsRelinked (old ++ link ∷ []) new n in subst P long' u)

-- the head of a ring and the cell before it are there
pub record IsPushSafe (old : List Link) (h : ℕ) : Type 0 where
  pub here : h < length old
  pub prev : prev_at old h < length old

-- a live node has a head with a cell before it
pub push_safe : (l : Layout) (b : End) (k : ℕ) (old : List Link) → IsLaid l → IsTimed l → IsHeld (side l.cells b) (side l.cells (other b)) (times_of l) old → k < count_of l b → removed_at l b k ≡ none → IsPushSafe old (head_of l b k)
push_safe l b k old laid t held range live =
    let on = head_on b k l laid t range live in
    record { here = omega (arith, held.long, on.below); prev = omega (arith, held.long, (held.rings.back (head_of l b k) on.below on).from_below) }

-- the links of the head of a new place
pub push_head : (s : Spot) (l l' : Layout) (old : List Link) → IsPushedPlace s l l' → IsLaid l → IsLaid l' → IsTimed l → IsHeld (side l.cells Place) (side l.cells Trans) (times_of l) old → IsHeld (side l'.cells Place) (side l'.cells Trans) (times_of l') (old ++ record { prev = length old; next = length old } ∷ [])
push_head s l l' old q laid laid' t held =
    let long' : length old ≡ length l.cells = held.long ∙ depth_now l in
    let link : Link = record { prev = length old; next = length old } in
    let n = length l.cells in
    let new_at = push_new (head_cell l) l l' q.pushed in
    let at_n : slice_index_or (old ++ link ∷ []) n no_link ≡ link = ap (λ i. slice_index_or (old ++ link ∷ []) i no_link) (sym long') ∙ link_new old link in
    grown_head (side l.cells Place) (side l.cells Trans) (side l'.cells Place) (side l'.cells Trans) (times_of l) (times_of l') n old (old ++ link ∷ [])
    (more_of (head_cell l) l l' Place q.pushed laid' t) held (length-append old (link ∷ []) ∙ ap (λ x. x + 1) long') (same_below_at (length old) n old (old ++ link ∷ []) long' (link_old old link))
    (rw new_at refl)
    (λ e h z. let k : (cell_at l.cells e).place ≡ length l.places = z ∙ ap (λ x. x.place) new_at in elim (laid.bounded Place e h) [ inl y ↦ absurd (omega (arith, laid.places, laid.most_places)) | inr y ↦ absurd (omega arith) ])
    (ap (λ x. x.next) at_n ∙ long') (ap (λ x. x.prev) at_n ∙ long')

-- the links of the other side are right with a new head
pub push_apart : (s : Spot) (l l' : Layout) (old : List Link) (link : Link) → IsPushedPlace s l l' → IsLaid l → IsLaid l' → IsTimed l → IsHeld (side l.cells Trans) (side l.cells Place) (times_of l) old → IsHeld (side l'.cells Trans) (side l'.cells Place) (times_of l') (old ++ link ∷ [])
push_apart s l l' old link q laid laid' t held =
    let long' : length old ≡ length l.cells = held.long ∙ depth_now l in
    let n = length l.cells in
    grown_apart (side l.cells Trans) (side l.cells Place) (side l'.cells Trans) (side l'.cells Place) (times_of l) (times_of l') n old (old ++ link ∷ [])
    (more_of (head_cell l) l l' Trans q.pushed laid' t) held (length-append old (link ∷ []) ∙ ap (λ x. x + 1) long') (same_below_at (length old) n old (old ++ link ∷ []) long' (link_old old link))
    (rw (push_new (head_cell l) l l' q.pushed) refl)

-- what a push of a cell comes to
pub pushed_cell : (a : Cell) (l l' : Layout) → l'.cells ≡ l.cells ++ a ∷ [] → l'.removals ≡ l.removals → l'.places ≡ l.places → l'.trans ≡ l.trans → l'.rooms ≡ l.rooms → IsLaid l → ((b : End) → end_of b a < count_of l b) → ((b : End) → removed_at l b (end_of b a) ≡ none) → a.place + 1 ≡ length l.places → IsPastAll l a.place a.trans → IsPushedCell a l l'
pushed_cell a l l' cells removals places trans rooms laid inside live last past = record {
  pushed = record {
    cells = cells;
    removals = removals;
    rooms = rooms;
    same = λ b k. same b k;
    live = live;
    after = λ b c h k. after b c h k;
  };
  places = places;
  trans = trans;
  inside = inside;
}
  where
    same : (b : End) (k : ℕ) → removed_at l' b k ≡ removed_at l b k
    same Place k = ap (λ xs. (spot_at xs k).removed_at) places
    same Trans k = ap (λ xs. slice_index_or xs k none) trans

    after : (b : End) (c : ℕ) → c < length l.cells → end_of b (cell_at l.cells c) ≡ end_of b a → IsAfter b (cell_at l.cells c) a
    after Place c h k = record { no_head = λ e. absurd (omega (arith, inside Trans, laid.sizes Trans)); up = past.past c h k }
    after Trans c h k = record {
      no_head = λ e. absurd (omega (arith, inside Place, laid.sizes Place));
      up = elim (laid.bounded Place c h) [
        | inl e ↦ inl e
        | inr lt ↦ inr (elim (cases_eq (cell_at l.cells c).place a.place) [
          | inl same ↦ elim (past.past c h same) [ inl z ↦ absurd (omega (arith, inside Trans, laid.sizes Trans)) | inr z ↦ absurd (omega arith) ]
          | inr other ↦ omega arith
        ])
      ];
    }

-- what a push of a place comes to
pub pushed_place : (s : Spot) (l l' : Layout) → l'.cells ≡ l.cells ++ head_cell l ∷ [] → l'.removals ≡ l.removals → l'.places ≡ l.places ++ s ∷ [] → l'.trans ≡ l.trans → l'.rooms ≡ l.rooms → IsLaid l → s.head ≡ length l.cells → s.removed_at ≡ none → IsPushedPlace s l l'
pushed_place s l l' cells removals places trans rooms laid head moment = record {
  pushed = record {
    cells = cells;
    removals = removals;
    rooms = rooms;
    same = λ b k. same b k;
    live = λ b. live b;
    after = λ b c h k. after b c h k;
  };
  places = places;
  trans = trans;
  head = head;
  removed_at = moment;
}
  where
    same : (b : End) (k : ℕ) → removed_at l' b k ≡ removed_at l b k
    same Place k = ap (λ xs. (spot_at xs k).removed_at) places ∙ elim (cases_lt k (length l.places)) [
      | inl low ↦ ap (λ x. x.removed_at) (get_or_append_left l.places (s ∷ []) no_spot k low)
      | inr high ↦ elim (cases_eq k (length l.places)) [
        | inl e ↦ rw e (ap (λ x. x.removed_at) (get_or-append_right l.places (s ∷ []) (length l.places) (length l.places) no_spot refl (omega arith))
            ∙ ap (λ i. (slice_index_or (s ∷ []) i no_spot).removed_at) (let z : length l.places - length l.places ≡ 0 = omega arith in z)
            ∙ moment ∙ sym (ap (λ x. x.removed_at) (get_or_past l.places (length l.places) no_spot (omega arith))))
        | inr e ↦ ap (λ x. x.removed_at) (get_or_past (l.places ++ s ∷ []) k no_spot (omega (arith, length-append l.places (s ∷ [])))) ∙ sym (ap (λ x. x.removed_at) (get_or_past l.places k no_spot high))
      ]
    ]
    same Trans k = ap (λ xs. slice_index_or xs k none) trans

    live : (b : End) → removed_at l b (end_of b (head_cell l)) ≡ none
    live Place = ap (λ x. x.removed_at) (get_or_past l.places (length l.places) no_spot (omega arith))
    live Trans = get_or_past l.trans none none (laid.sizes Trans)

    after : (b : End) (c : ℕ) → c < length l.cells → end_of b (cell_at l.cells c) ≡ end_of b (head_cell l) → IsAfter b (cell_at l.cells c) (head_cell l)
    after Place c h k = elim (laid.bounded Place c h) [ inl y ↦ absurd (omega (arith, laid.places, laid.most_places)) | inr y ↦ absurd (omega arith) ]
    after Trans c h k = record { no_head = λ e. absurd (omega (arith, laid.places, laid.most_places)); up = laid.bounded Place c h }

-- both ends of an allowed cell are there
pub cell_inside : (l : Layout) (t way give : ℕ) → IsCellAllowed l t → (b : End) → end_of b (record { place = length l.places - 1; trans = t; take = way; give = give }) < count_of l b
cell_inside l t way give ok Place = omega (arith, ok.place)
cell_inside l t way give ok Trans = ok.trans

-- both ends of an allowed cell live
pub cell_live : (l : Layout) (t way give : ℕ) → IsCellAllowed l t → (b : End) → removed_at l b (end_of b (record { place = length l.places - 1; trans = t; take = way; give = give })) ≡ none
cell_live l t way give ok Place = ok.live_place
cell_live l t way give ok Trans = ok.live_trans
