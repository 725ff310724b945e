-- The moments of removals, when a place or a transition is removed, and when it is revived.
use Rattle.std.proofs.Common.{◌≡◌, ◌≢◌, ◌<◌, ◌≤◌, ◌+◌, ◌-◌, ℕ, Bool, true, false, cond, length, set, leb, ltb, sym, ap, ◌∙◌, refl, inl, inr, arith, ◌⊎◌, ◌++◌, ◌∷◌, [], List, min, subst, slice_index_or}
use Rattle.std.proofs.lemmas.Bool.{cases_eq, cases_lt, false≢true, le-leb, lt-ltb, le-ltb}
use Rattle.std.proofs.lemmas.List.{get_or_past, get_or_append_left, get_or-append_right, get_or_default, length-append, get_or-set_same, get_or-set_other, length-set}
use Rattle.std.proofs.Math.Nat.{min_comm}
use Rattle.stg_arena.specs.declared.end.End.{End}
use Rattle.stg_arena.specs.declared.end.End.TheVariants.{Place, Trans}
use Rattle.stg_arena.specs.Ends.{other}
use Rattle.stg_arena.specs.declared.cell.Removal.{Removal}
use Rattle.stg_arena.specs.ArenaView.{Layout, none, spot_at, removed_at, count_of, removal_at, IsTimed, IsRemoved, no_spot, cell_at, end_of, side, head_of, until_of, times_of, IsHead, IsAfter, IsLaid}
use Rattle.stg_arena.proofs.Pigeons.{at_most_below}
use Rattle.stg_arena.specs.declared.cell.Cell.{Cell}
use Rattle.stg_arena.specs.declared.cell.Spot.{Spot}
use Rattle.stg_arena.specs.inner.Removing.{places_removed_at, trans_removed_at}
use Rattle.stg_arena.proofs.Timing.{IsCut}

-- there is one removal more
pub removals_length : (b : End) (k : ℕ) (l l' : Layout) → IsRemoved b k l l' → length l'.removals ≡ length l.removals + 1
removals_length b k l l' g = ap length g.removals ∙ length-append l.removals (record { end = b; node = k; cells = length l.cells } ∷ []) ∙ omega arith

-- the earlier removals stay
pub removal_old : (b : End) (k : ℕ) (l l' : Layout) (s : ℕ) → IsRemoved b k l l' → s < length l.removals → removal_at l' s ≡ removal_at l s
removal_old b k l l' s g h =
    ap (λ xs. slice_index_or xs s (record { end = Place; node = none; cells = length l'.cells })) g.removals
    ∙ get_or_append_left l.removals (record { end = b; node = k; cells = length l.cells } ∷ []) (record { end = Place; node = none; cells = length l'.cells }) s h
    ∙ get_or_default l.removals s (record { end = Place; node = none; cells = length l'.cells }) (record { end = Place; node = none; cells = length l.cells }) h

-- the last removal
pub removal_last : (l l' : Layout) (x : Removal) → l'.removals ≡ l.removals ++ x ∷ [] → removal_at l' (length l.removals) ≡ x
removal_last l l' x removals =
    ap (λ xs. slice_index_or xs (length l.removals) (record { end = Place; node = none; cells = length l'.cells })) removals
    ∙ get_or-append_right l.removals (x ∷ []) (length l.removals) (length l.removals) (record { end = Place; node = none; cells = length l'.cells }) refl (omega arith)
    ∙ ap (λ i. slice_index_or (x ∷ []) i (record { end = Place; node = none; cells = length l'.cells })) (let z : length l.removals - length l.removals ≡ 0 = omega arith in z)

-- a removal that was taken off the list is the one that stood last
pub removal_popped : (l l' : Layout) (x y : Removal) → l'.removals ≡ l.removals ++ x ∷ [] → removal_at l' (length l'.removals - 1) ≡ y → x ≡ y
removal_popped l l' x y removals last = sym (removal_last l l' x removals) ∙ ap (removal_at l') (let e : length l.removals ≡ length l'.removals - 1 = omega (arith, ap length removals ∙ length-append l.removals (x ∷ [])) in e) ∙ last

-- the new removal stands last
pub removal_new : (b : End) (k : ℕ) (l l' : Layout) → IsRemoved b k l l' → removal_at l' (length l.removals) ≡ record { end = b; node = k; cells = length l.cells }
removal_new b k l l' g =
    ap (λ xs. slice_index_or xs (length l.removals) (record { end = Place; node = none; cells = length l'.cells })) g.removals
    ∙ get_or-append_right l.removals (record { end = b; node = k; cells = length l.cells } ∷ []) (length l.removals) (length l.removals) (record { end = Place; node = none; cells = length l'.cells }) refl (omega arith)
    ∙ ap (λ i. slice_index_or (record { end = b; node = k; cells = length l.cells } ∷ []) i (record { end = Place; node = none; cells = length l'.cells })) (let z : length l.removals - length l.removals ≡ 0 = omega arith in z)

-- a cell is live as long as both of its ends, whichever comes first
pub until_by : (b : End) (l : Layout) (c : ℕ) → until_of l c ≡ min (removed_at l b (end_of b (cell_at l.cells c))) (removed_at l (other b) (end_of (other b) (cell_at l.cells c)))
until_by Place l c = refl
until_by Trans l c = min_comm (removed_at l Place (cell_at l.cells c).place) (removed_at l Trans (cell_at l.cells c).trans)

until_new : (b : End) (k : ℕ) (l l' : Layout) (c : ℕ) → IsRemoved b k l l' → until_of l' c ≡ min (removed_at l' b (end_of b (cell_at l.cells c))) (removed_at l' (other b) (end_of (other b) (cell_at l.cells c)))
until_new b k l l' c g = until_by b l' c ∙ ap (λ xs. min (removed_at l' b (end_of b (cell_at xs c))) (removed_at l' (other b) (end_of (other b) (cell_at xs c)))) g.cells

-- whether the end is that of transitions
abbrev is_trans : End → Bool
is_trans Place = false
is_trans Trans = true

-- no end is the other one
not_same : (b : End) → other b ≡ b → ⊥
not_same Place e = false≢true (sym (ap is_trans e))
not_same Trans e = false≢true (ap is_trans e)

-- what holds of both kinds of ends
pub both : (b c : End) (P : End → Type 0) → P b → P (other b) → P c
both Place Place P p q = p
both Place Trans P p q = q
both Trans Place P p q = q
both Trans Trans P p q = p

laid_same : (l l' : Layout) → l'.cells ≡ l.cells → l'.rooms ≡ l.rooms → ((c : End) → count_of l' c ≡ count_of l c) → ((c : End) (j : ℕ) → head_of l' c j ≡ head_of l c j) → IsLaid l → IsLaid l'
laid_same l l' cells rooms as_many heads laid = record {
  ascending = let P : List Cell → Type 0 = λ xs. (b : End) (c d : ℕ) → c < d → d < length xs → end_of b (cell_at xs c) ≡ end_of b (cell_at xs d) → IsAfter b (cell_at xs c) (cell_at xs d) in subst P (sym cells) laid.ascending;
  bounded = λ b c h. let P : List Cell → Type 0 = λ xs. c < length xs → (end_of b (cell_at xs c) ≡ none) ⊎ (end_of b (cell_at xs c) < count_of l' b) in
      subst P (sym cells) (λ h. rw (as_many b) (laid.bounded b c h)) h;
  heads = λ b k h. head_same b k (heads b k) (laid.heads b k (omega (arith, as_many b)));
  small = omega (arith, ap length cells, laid.small);
  cells = omega (arith, ap length cells, ap (λ r. r.cells) rooms, laid.cells);
  most_cells = omega (arith, ap (λ r. r.cells) rooms, laid.most_cells);
  places = omega (arith, as_many Place, ap (λ r. r.places) rooms, laid.places);
  most_places = omega (arith, ap (λ r. r.places) rooms, laid.most_places);
  sizes = λ b. omega (arith, as_many b, laid.sizes b);
}
  where
    head_same : (b : End) (k : ℕ) → head_of l' b k ≡ head_of l b k → IsHead l b k → IsHead l' b k
    head_same b k head h = record {
      below = omega (arith, head, ap length cells, h.below);
      far = ap (λ xs. end_of (other b) (cell_at xs (head_of l' b k))) cells ∙ ap (λ x. end_of (other b) (cell_at l.cells x)) head ∙ h.far;
      key = ap (λ xs. end_of b (cell_at xs (head_of l' b k))) cells ∙ ap (λ x. end_of b (cell_at l.cells x)) head ∙ h.key;
    }

-- the cells lie as they must after a removal
pub laid_on : (b : End) (k : ℕ) (l l' : Layout) → IsRemoved b k l l' → IsLaid l → IsLaid l'
laid_on b k l l' g laid = laid_same l l' g.cells g.rooms g.as_many g.heads laid

-- and before it
pub laid_back : (b : End) (k : ℕ) (l l' : Layout) → IsRemoved b k l l' → IsLaid l' → IsLaid l
laid_back b k l l' g laid = laid_same l' l (sym g.cells) (sym g.rooms) (λ c. sym (g.as_many c)) (λ c j. sym (g.heads c j)) laid

-- the moment that a place gets at its removal
removed_place : (l l' : Layout) (p : ℕ) (s : Spot) → l'.cells ≡ l.cells → l'.trans ≡ l.trans → l'.places ≡ set l.places p s → l'.removals ≡ l.removals ++ record { end = Place; node = p; cells = length l.cells } ∷ [] → l'.rooms ≡ l.rooms → p < length l.places → s.head ≡ head_of l Place p → s.tokens ≡ (spot_at l.places p).tokens → s.removed_at ≡ length l.removals → removed_at l Place p ≡ none → IsRemoved Place p l l'
removed_place l l' p s cells trans places removals rooms range head tokens moment live = record {
  cells = cells;
  removals = removals;
  rooms = rooms;
  was = live;
  here = ap (λ xs. (spot_at xs p).removed_at) places ∙ ap (λ x. x.removed_at) (get_or-set_same l.places p s no_spot range) ∙ moment;
  others = λ j ne. ap (λ xs. (spot_at xs j).removed_at) places ∙ ap (λ x. x.removed_at) (get_or-set_other l.places p j s no_spot ne);
  far = λ j. ap (λ xs. slice_index_or xs j none) trans;
  tokens = λ j. ap (λ xs. (spot_at xs j).tokens) places ∙ same j;
  as_many = λ c. elim c as (λ c. count_of l' c ≡ count_of l c) [ Place ↦ ap length places ∙ length-set l.places p s | Trans ↦ ap length trans ];
  heads = λ c j. elim c as (λ c. head_of l' c j ≡ head_of l c j) [ Place ↦ ap (λ xs. (spot_at xs j).head) places ∙ kept j | Trans ↦ refl ];
  in_range = range;
}
  where
    same : (j : ℕ) → (spot_at (set l.places p s) j).tokens ≡ (spot_at l.places j).tokens
    same j = elim (cases_eq j p) [
      | inl e ↦ rw e (ap (λ x. x.tokens) (get_or-set_same l.places p s no_spot range) ∙ tokens)
      | inr e ↦ ap (λ x. x.tokens) (get_or-set_other l.places p j s no_spot e)
    ]

    kept : (j : ℕ) → (spot_at (set l.places p s) j).head ≡ (spot_at l.places j).head
    kept j = elim (cases_eq j p) [
      | inl e ↦ rw e (ap (λ x. x.head) (get_or-set_same l.places p s no_spot range) ∙ head)
      | inr e ↦ ap (λ x. x.head) (get_or-set_other l.places p j s no_spot e)
    ]

-- the moment that a transition gets at its removal
removed_trans : (l l' : Layout) (t m : ℕ) → l'.cells ≡ l.cells → l'.places ≡ l.places → l'.trans ≡ set l.trans t m → l'.removals ≡ l.removals ++ record { end = Trans; node = t; cells = length l.cells } ∷ [] → l'.rooms ≡ l.rooms → t < length l.trans → m ≡ length l.removals → removed_at l Trans t ≡ none → IsRemoved Trans t l l'
removed_trans l l' t m cells places trans removals rooms range moment live = record {
  cells = cells;
  removals = removals;
  rooms = rooms;
  was = live;
  here = ap (λ xs. slice_index_or xs t none) trans ∙ get_or-set_same l.trans t m none range ∙ moment;
  others = λ j ne. ap (λ xs. slice_index_or xs j none) trans ∙ get_or-set_other l.trans t j m none ne;
  far = λ j. ap (λ xs. (spot_at xs j).removed_at) places;
  tokens = λ j. ap (λ xs. (spot_at xs j).tokens) places;
  as_many = λ c. elim c as (λ c. count_of l' c ≡ count_of l c) [ Place ↦ ap length places | Trans ↦ ap length trans ∙ length-set l.trans t m ];
  heads = λ c j. elim c as (λ c. head_of l' c j ≡ head_of l c j) [ Place ↦ ap (λ xs. (spot_at xs j).head) places | Trans ↦ refl ];
  in_range = range;
}

-- now there are as many cells as there are
pub depth_now : (l : Layout) → (times_of l).count (times_of l).depth ≡ length l.cells
depth_now l = ap (λ x. x.cells) (get_or_past l.removals (length l.removals) (record { end = Place; node = none; cells = length l.cells }) (omega arith))

-- the moment that a place loses when it is revived
revived_place : (l l' : Layout) (p : ℕ) (s : Spot) → l'.cells ≡ l.cells → l'.trans ≡ l.trans → l.places ≡ set l'.places p s → l'.removals ≡ l.removals ++ record { end = Place; node = p; cells = length l.cells } ∷ [] → l'.rooms ≡ l.rooms → s.head ≡ head_of l' Place p → s.tokens ≡ (spot_at l'.places p).tokens → s.removed_at ≡ none → IsTimed l' → IsRemoved Place p l l'
revived_place l l' p s cells trans places removals rooms head tokens moment t =
    let last = removal_last l l' (record { end = Place; node = p; cells = length l.cells }) removals in
    let low : length l.removals < length l'.removals = omega (arith, ap length removals ∙ length-append l.removals (record { end = Place; node = p; cells = length l.cells } ∷ [])) in
    let range : p < length l'.places = omega (arith, t.in_range (length l.removals) low, ap (λ x. x.node) last, ap (λ x. count_of l' x.end) last) in
    record {
      cells = cells;
      removals = removals;
      rooms = rooms;
      was = ap (λ xs. (spot_at xs p).removed_at) places ∙ ap (λ x. x.removed_at) (get_or-set_same l'.places p s no_spot range) ∙ moment;
      here = sym (ap (λ x. removed_at l' x.end x.node) last) ∙ t.recorded (length l.removals) low;
      others = λ j ne. sym (ap (λ xs. (spot_at xs j).removed_at) places ∙ ap (λ x. x.removed_at) (get_or-set_other l'.places p j s no_spot ne));
      far = λ j. ap (λ xs. slice_index_or xs j none) trans;
      tokens = λ j. sym (ap (λ xs. (spot_at xs j).tokens) places ∙ same j range);
      as_many = λ c. elim c as (λ c. count_of l' c ≡ count_of l c) [ Place ↦ sym (ap length places ∙ length-set l'.places p s) | Trans ↦ ap length trans ];
      heads = λ c j. elim c as (λ c. head_of l' c j ≡ head_of l c j) [ Place ↦ sym (ap (λ xs. (spot_at xs j).head) places ∙ kept j range) | Trans ↦ refl ];
      in_range = omega (arith, ap length places, length-set l'.places p s);
    }
  where
    same : (j : ℕ) → p < length l'.places → (spot_at (set l'.places p s) j).tokens ≡ (spot_at l'.places j).tokens
    same j range = elim (cases_eq j p) [
      | inl e ↦ rw e (ap (λ x. x.tokens) (get_or-set_same l'.places p s no_spot range) ∙ tokens)
      | inr e ↦ ap (λ x. x.tokens) (get_or-set_other l'.places p j s no_spot e)
    ]

    kept : (j : ℕ) → p < length l'.places → (spot_at (set l'.places p s) j).head ≡ (spot_at l'.places j).head
    kept j range = elim (cases_eq j p) [
      | inl e ↦ rw e (ap (λ x. x.head) (get_or-set_same l'.places p s no_spot range) ∙ head)
      | inr e ↦ ap (λ x. x.head) (get_or-set_other l'.places p j s no_spot e)
    ]

-- the moment that a transition loses when it is revived
revived_trans : (l l' : Layout) (k : ℕ) → l'.cells ≡ l.cells → l'.places ≡ l.places → l.trans ≡ set l'.trans k none → l'.removals ≡ l.removals ++ record { end = Trans; node = k; cells = length l.cells } ∷ [] → l'.rooms ≡ l.rooms → IsTimed l' → IsRemoved Trans k l l'
revived_trans l l' k cells places trans removals rooms t =
    let last = removal_last l l' (record { end = Trans; node = k; cells = length l.cells }) removals in
    let low : length l.removals < length l'.removals = omega (arith, ap length removals ∙ length-append l.removals (record { end = Trans; node = k; cells = length l.cells } ∷ [])) in
    let range : k < length l'.trans = omega (arith, t.in_range (length l.removals) low, ap (λ x. x.node) last, ap (λ x. count_of l' x.end) last) in
    record {
      cells = cells;
      removals = removals;
      rooms = rooms;
      was = ap (λ xs. slice_index_or xs k none) trans ∙ get_or-set_same l'.trans k none none range;
      here = sym (ap (λ x. removed_at l' x.end x.node) last) ∙ t.recorded (length l.removals) low;
      others = λ j ne. sym (ap (λ xs. slice_index_or xs j none) trans ∙ get_or-set_other l'.trans k j none none ne);
      far = λ j. ap (λ xs. (spot_at xs j).removed_at) places;
      tokens = λ j. ap (λ xs. (spot_at xs j).tokens) places;
      as_many = λ c. elim c as (λ c. count_of l' c ≡ count_of l c) [ Place ↦ ap length places | Trans ↦ sym (ap length trans ∙ length-set l'.trans k none) ];
      heads = λ c j. elim c as (λ c. head_of l' c j ≡ head_of l c j) [ Place ↦ ap (λ xs. (spot_at xs j).head) places | Trans ↦ refl ];
      in_range = omega (arith, ap length trans, length-set l'.trans k none);
    }

-- a node that gets the moment of its removal, and stands last in the list, is removed
pub removed_node : (b : End) (k : ℕ) (l : Layout) (places : List Spot) (trans : List ℕ) (removals : List Removal) → places ≡ places_removed_at b k (length l.removals) l.places → trans ≡ trans_removed_at b k (length l.removals) l.trans → removals ≡ l.removals ++ record { end = b; node = k; cells = length l.cells } ∷ [] → k < count_of l b → removed_at l b k ≡ none → IsRemoved b k l (record l { places = places; trans = trans; removals = removals })
removed_node Place k l places trans removals is_places is_trans is_log range live = removed_place l (record l { places = places; trans = trans; removals = removals }) k (record (spot_at l.places k) { removed_at = length l.removals }) refl is_trans is_places is_log refl range refl refl refl live
removed_node Trans k l places trans removals is_places is_trans is_log range live = removed_trans l (record l { places = places; trans = trans; removals = removals }) k (length l.removals) refl is_places is_trans is_log refl range refl live

-- a node that loses the moment of its removal, and is taken off the list, was removed
pub revived_node : (b : End) (k : ℕ) (l' : Layout) (places : List Spot) (trans : List ℕ) (removals : List Removal) (x : Removal) → l'.removals ≡ removals ++ x ∷ [] → removal_at l' (length l'.removals - 1) ≡ record { end = b; node = k; cells = length l'.cells } → places ≡ places_removed_at b k none l'.places → trans ≡ trans_removed_at b k none l'.trans → IsTimed l' → IsRemoved b k (record l' { places = places; trans = trans; removals = removals }) l'
revived_node Place k l' places trans removals x is_log last is_places is_trans t =
    let l : Layout = record l' { places = places; trans = trans; removals = removals } in
    let y : Removal = record { end = Place; node = k; cells = length l'.cells } in
    revived_place l l' k (record (spot_at l'.places k) { removed_at = none }) refl (sym is_trans) is_places (is_log ∙ ap (λ z. removals ++ z ∷ []) (removal_popped l l' x y is_log last)) refl refl refl refl t
revived_node Trans k l' places trans removals x is_log last is_places is_trans t =
    let l : Layout = record l' { places = places; trans = trans; removals = removals } in
    let y : Removal = record { end = Trans; node = k; cells = length l'.cells } in
    revived_trans l l' k refl (sym is_places) is_trans (is_log ∙ ap (λ z. removals ++ z ∷ []) (removal_popped l l' x y is_log last)) refl t

-- what is live at a moment before is the same
pub live_same : (b : End) (k : ℕ) (l l' : Layout) (s : ℕ) (c : End) (j : ℕ) → IsRemoved b k l l' → length l.removals < none → s ≤ length l.removals → leb s (removed_at l' c j) ≡ leb s (removed_at l c j)
live_same b k l l' s c j g small h = both b c (λ c. leb s (removed_at l' c j) ≡ leb s (removed_at l c j))
    (elim (cases_eq j k) [
      | inl e ↦ rw e (le-leb s (removed_at l' b k) (omega (arith, g.here)) ∙ sym (le-leb s (removed_at l b k) (omega (arith, g.was))))
      | inr e ↦ ap (leb s) (g.others j e)
    ])
    (ap (leb s) (g.far j))

-- no more can have been removed than there are, and k wasn't
pub removals_short : (l : Layout) (b : End) (k : ℕ) → IsTimed l → k < count_of l b → removed_at l b k ≡ none → length l.removals < count_of l Place + count_of l Trans
removals_short l b k t range live = omega (
  arith,
  at_most_below (λ s. code (node s).end (node s).node) (length l.removals + 1) (count_of l Place + count_of l Trans)
      (λ s h. code_below (node s).end (node s).node (inside s h))
      (λ s r low h e. differ s r low h (code_same (node r).end (node s).end (node r).node (node s).node (inside r h) (inside s (omega arith)) e)),
)
  where
    code : End → ℕ → ℕ
    code Place p = p
    code Trans u = length l.places + u

    node : ℕ → Removal
    node s = cond (ltb s (length l.removals)) (removal_at l s) (record { end = b; node = k; cells = 0 })

    code_below : (c : End) (j : ℕ) → j < count_of l c → code c j < count_of l Place + count_of l Trans
    code_below Place j h = omega arith
    code_below Trans j h = omega arith

    -- when it was removed, and the one that wasn't comes last
    code_same : (c d : End) (i j : ℕ) → i < count_of l c → j < count_of l d → code c i ≡ code d j → removed_at l c i ≡ removed_at l d j
    code_same Place Place i j hi hj e = ap (removed_at l Place) e
    code_same Place Trans i j hi hj e = absurd (omega arith)
    code_same Trans Place i j hi hj e = absurd (omega arith)
    code_same Trans Trans i j hi hj e = ap (removed_at l Trans) (omega arith)

    inside : (s : ℕ) → s < length l.removals + 1 → (node s).node < count_of l (node s).end
    inside s h = elim (cases_lt s (length l.removals)) [
      | inl low ↦ rw (lt-ltb s (length l.removals) low) (t.in_range s low)
      | inr high ↦ rw (le-ltb s (length l.removals) high) range
    ]

    removed_then : (s : ℕ) → s < length l.removals → removed_at l (node s).end (node s).node ≡ s
    removed_then s low = rw (lt-ltb s (length l.removals) low) (t.recorded s low)

    stays : (s : ℕ) → length l.removals ≤ s → removed_at l (node s).end (node s).node ≡ none
    stays s high = rw (le-ltb s (length l.removals) high) live

    differ : (s r : ℕ) → s < r → r < length l.removals + 1 → removed_at l (node r).end (node r).node ≢ removed_at l (node s).end (node s).node
    differ s r low h e = elim (cases_lt r (length l.removals)) [
      | inl early ↦ absurd (omega (arith, removed_then s (omega arith), removed_then r early))
      | inr late ↦ absurd (omega (arith, removed_then s (omega arith), stays r late, t.room, t.small))
    ]

-- what has no moment of removal is live now
pub alive : (l : Layout) (b : End) (k : ℕ) → IsTimed l → removed_at l b k ≡ none → leb (length l.removals) (removed_at l b k) ≡ true
alive l b k t live = le-leb (length l.removals) (removed_at l b k) (omega (arith, t.room, t.small))

-- what a removal does to the moments of the cells
pub cut_of : (b : End) (k : ℕ) (l l' : Layout) → IsRemoved b k l l' → IsTimed l → IsCut (side l.cells b) k (times_of l) (times_of l')
cut_of b k l l' g t = record {
  depth = removals_length b k l l' g;
  cut = λ e same live. omega (arith, until_by b l e, until_new b k l l' e g, ap (removed_at l b) same, ap (removed_at l' b) same, g.was, g.here, g.far (end_of (other b) (cell_at l.cells e)), t.room, t.small);
  dead = λ e low. elim (cases_eq (end_of b (cell_at l.cells e)) k) [
    | inl same ↦ omega (arith, until_by b l e, until_new b k l l' e g, ap (removed_at l b) same, ap (removed_at l' b) same, g.was, g.here, g.far (end_of (other b) (cell_at l.cells e)), t.room, t.small)
    | inr apart ↦ omega (arith, until_by b l e, until_new b k l l' e g, g.others (end_of b (cell_at l.cells e)) apart, g.far (end_of (other b) (cell_at l.cells e)))
  ];
  others = λ e apart. omega (arith, until_by b l e, until_new b k l l' e g, g.others (end_of b (cell_at l.cells e)) apart, g.far (end_of (other b) (cell_at l.cells e)));
  later = λ e live. omega (arith, until_by b l e, t.alive b (end_of b (cell_at l.cells e)) (omega (arith, until_by b l e)), t.alive (other b) (end_of (other b) (cell_at l.cells e)) (omega (arith, until_by b l e)), t.room, t.small);
  before = λ s h. elim (cases_eq s (length l.removals)) [
    | inl e ↦ rw e (ap (λ x. x.cells) (removal_new b k l l' g) ∙ sym (ap (λ x. x.cells) (get_or_past l.removals (length l.removals) (record { end = Place; node = none; cells = length l.cells }) (omega arith))))
    | inr e ↦ ap (λ x. x.cells) (removal_old b k l l' s g (omega arith))
  ];
  size = ap (λ x. x.cells) (get_or_past l'.removals (length l'.removals) (record { end = Place; node = none; cells = length l'.cells }) (omega arith))
      ∙ ap length g.cells ∙ sym (ap (λ x. x.cells) (get_or_past l.removals (length l.removals) (record { end = Place; node = none; cells = length l.cells }) (omega arith)));
}

-- moments and removals agree after a removal
pub timed_on : (b : End) (k : ℕ) (l l' : Layout) → IsRemoved b k l l' → IsTimed l → length l.removals < l.rooms.removals → IsTimed l'
timed_on b k l l' g t room =
    let long = removals_length b k l l' g in
    record {
      in_range = λ s h. elim (cases_eq s (length l.removals)) [
        | inl e ↦ rw e (rw (removal_new b k l l' g) (omega (arith, g.in_range, g.as_many b)))
        | inr e ↦ rw (removal_old b k l l' s g (omega arith)) (omega (arith, t.in_range s (omega arith), g.as_many (removal_at l s).end))
      ];
      recorded = λ s h. elim (cases_eq s (length l.removals)) [
        | inl e ↦ rw e (rw (removal_new b k l l' g) g.here)
        | inr e ↦ rw (removal_old b k l l' s g (omega arith)) (kept (removal_at l s).end (removal_at l s).node (omega (arith, t.recorded s (omega arith), t.room, t.small)) ∙ t.recorded s (omega arith))
      ];
      node = λ c j h. node' c j h;
      kind = λ c j h. kind' c j h;
      alive = λ c j h. both b c (λ c. length l'.removals ≤ removed_at l' c j → removed_at l' c j ≡ none)
          (λ h. elim (cases_eq j k) [
            | inl e ↦ absurd (omega (arith, ap (removed_at l' b) e, g.here))
            | inr e ↦ g.others j e ∙ t.alive b j (omega (arith, g.others j e))
          ])
          (λ h. g.far j ∙ t.alive (other b) j (omega (arith, g.far j))) h;
      cells = λ s h. cells' s (omega arith);
      cells_up = λ s r le h. elim (cases_eq r (length l.removals)) [
        | inl e ↦ rw e (omega (arith, cells' s (omega arith), ap (λ x. x.cells) (removal_new b k l l' g), ap length g.cells))
        | inr e ↦ omega (arith, ap (λ x. x.cells) (removal_old b k l l' s g (omega arith)), ap (λ x. x.cells) (removal_old b k l l' r g (omega arith)), t.cells_up s r le (omega arith))
      ];
      room = omega (arith, ap (λ r. r.removals) g.rooms);
      small = omega (arith, ap (λ r. r.removals) g.rooms, t.small);
    }
  where
    cells' : (s : ℕ) → s < length l.removals + 1 → (removal_at l' s).cells ≤ length l'.cells
    cells' s h = elim (cases_eq s (length l.removals)) [
      | inl e ↦ rw e (omega (arith, ap (λ x. x.cells) (removal_new b k l l' g), ap length g.cells))
      | inr e ↦ omega (arith, ap (λ x. x.cells) (removal_old b k l l' s g (omega arith)), t.cells s (omega arith), ap length g.cells)
    ]

    kept : (c : End) (j : ℕ) → removed_at l c j < none → removed_at l' c j ≡ removed_at l c j
    kept c j h = both b c (λ c. removed_at l c j < none → removed_at l' c j ≡ removed_at l c j)
        (λ h. g.others j (λ e. absurd (omega (arith, ap (removed_at l b) e, g.was))))
        (λ h. g.far j) h

    -- what was removed before this moment was removed then
    old : (c : End) (j : ℕ) → removed_at l' c j < length l.removals → removed_at l' c j ≡ removed_at l c j
    old c j h = both b c (λ c. removed_at l' c j < length l.removals → removed_at l' c j ≡ removed_at l c j)
        (λ h. g.others j (λ e. absurd (omega (arith, ap (removed_at l' b) e, g.here))))
        (λ h. g.far j) h

    last : (c : End) (j : ℕ) → removed_at l' c j ≡ length l.removals → (c ≡ b) × (j ≡ k)
    last c j e = both b c (λ c. removed_at l' c j ≡ length l.removals → (c ≡ b) × (j ≡ k))
        (λ e. elim (cases_eq j k) [ inl same ↦ (refl, same) | inr other ↦ absurd (omega (arith, g.others j other, t.alive b j (omega (arith, g.others j other)), t.room, t.small)) ])
        (λ e. absurd (omega (arith, g.far j, t.alive (other b) j (omega (arith, g.far j)), t.room, t.small))) e

    node' : (c : End) (j : ℕ) → removed_at l' c j < length l'.removals → (removal_at l' (removed_at l' c j)).node ≡ j
    node' c j h = elim (cases_eq (removed_at l' c j) (length l.removals)) [
      | inl e ↦ rw e (ap (λ x. x.node) (removal_new b k l l' g) ∙ sym (last c j e).1)
      | inr e ↦ let low : removed_at l' c j < length l.removals = omega (arith, removals_length b k l l' g) in
          ap (λ x. x.node) (removal_old b k l l' (removed_at l' c j) g low) ∙ ap (λ s. (removal_at l s).node) (old c j low) ∙ t.node c j (omega (arith, old c j low))
    ]

    kind' : (c : End) (j : ℕ) → removed_at l' c j < length l'.removals → (removal_at l' (removed_at l' c j)).end ≡ c
    kind' c j h = elim (cases_eq (removed_at l' c j) (length l.removals)) [
      | inl e ↦ rw e (ap (λ x. x.end) (removal_new b k l l' g) ∙ sym (last c j e).0)
      | inr e ↦ let low : removed_at l' c j < length l.removals = omega (arith, removals_length b k l l' g) in
          ap (λ x. x.end) (removal_old b k l l' (removed_at l' c j) g low) ∙ ap (λ s. (removal_at l s).end) (old c j low) ∙ t.kind c j (omega (arith, old c j low))
    ]

-- and before it
pub timed_back : (b : End) (k : ℕ) (l l' : Layout) → IsRemoved b k l l' → IsTimed l' → IsTimed l
timed_back b k l l' g t =
    let long = removals_length b k l l' g in
    record {
      in_range = λ s h. let e = removal_old b k l l' s g h in omega (arith, ap (λ x. x.node) e, ap (λ x. count_of l' x.end) e, g.as_many (removal_at l s).end, t.in_range s (omega arith));
      recorded = λ s h. let e = removal_old b k l l' s g h in
          sym (kept (removal_at l s).end (removal_at l s).node (omega (arith, ap (λ x. removed_at l' x.end x.node) e, t.recorded s (omega arith)))) ∙ sym (ap (λ x. removed_at l' x.end x.node) e) ∙ t.recorded s (omega arith);
      node = λ c j h. let e = same c j h in
          sym (ap (λ x. x.node) (removal_old b k l l' (removed_at l c j) g h)) ∙ sym (ap (λ s. (removal_at l' s).node) e) ∙ t.node c j (omega (arith, e));
      kind = λ c j h. let e = same c j h in
          sym (ap (λ x. x.end) (removal_old b k l l' (removed_at l c j) g h)) ∙ sym (ap (λ s. (removal_at l' s).end) e) ∙ t.kind c j (omega (arith, e));
      alive = λ c j h. both b c (λ c. length l.removals ≤ removed_at l c j → removed_at l c j ≡ none)
          (λ h. elim (cases_eq j k) [
            | inl e ↦ rw e g.was
            | inr e ↦ sym (g.others j e) ∙ t.alive b j (elim (cases_eq (removed_at l' b j) (length l.removals)) [
              | inl now ↦ absurd (e (sym (t.node b j (omega arith)) ∙ ap (λ s. (removal_at l' s).node) now ∙ ap (λ x. x.node) (removal_new b k l l' g)))
              | inr later ↦ omega (arith, g.others j e)
            ])
          ])
          (λ h. sym (g.far j) ∙ t.alive (other b) j (elim (cases_eq (removed_at l' (other b) j) (length l.removals)) [
            | inl now ↦ absurd (not_same b (sym (t.kind (other b) j (omega arith)) ∙ ap (λ s. (removal_at l' s).end) now ∙ ap (λ x. x.end) (removal_new b k l l' g)))
            | inr later ↦ omega (arith, g.far j)
          ])) h;
      cells = λ s h. omega (arith, ap (λ x. x.cells) (removal_old b k l l' s g h), t.cells s (omega arith), ap length g.cells);
      cells_up = λ s r le h. omega (arith, ap (λ x. x.cells) (removal_old b k l l' s g (omega arith)), ap (λ x. x.cells) (removal_old b k l l' r g h), t.cells_up s r le (omega arith));
      room = omega (arith, ap (λ r. r.removals) g.rooms, t.room);
      small = omega (arith, ap (λ r. r.removals) g.rooms, t.small);
    }
  where
    kept : (c : End) (j : ℕ) → removed_at l' c j < length l.removals → removed_at l' c j ≡ removed_at l c j
    kept c j h = both b c (λ c. removed_at l' c j < length l.removals → removed_at l' c j ≡ removed_at l c j)
        (λ h. g.others j (λ e. absurd (omega (arith, ap (removed_at l' b) e, g.here))))
        (λ h. g.far j) h

    same : (c : End) (j : ℕ) → removed_at l c j < length l.removals → removed_at l' c j ≡ removed_at l c j
    same c j h = both b c (λ c. removed_at l c j < length l.removals → removed_at l' c j ≡ removed_at l c j)
        (λ h. g.others j (λ e. absurd (omega (arith, ap (removed_at l b) e, g.was, ap (λ r. r.removals) g.rooms, t.room, t.small))))
        (λ h. g.far j) h
