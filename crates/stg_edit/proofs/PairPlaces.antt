-- The loops that make a place for each pair.
use Rattle.std.proofs.Common.{◌≡◌, ◌≢◌, ◌<◌, ◌≤◌, ◌+◌, ◌-◌, ◌++◌, ◌∷◌, [], ℕ, zero, suc, Bool, List, true, false, cond, flat_map, length, ltb, leb, eqb, eq-eqb, subst, sym, ap, ◌∙◌, refl, inl, inr, arith}
use Rattle.std.proofs.lemmas.Bool.{cases_lt, cases_eq, cond_both, ne_eqb}
use Rattle.std.proofs.lemmas.List.{append-nil, append_assoc}
use Rattle.stg_arena.specs.declared.end.Way.{Way}
use Rattle.stg_arena.specs.declared.end.End.TheVariants.{Place, Trans}
use Rattle.stg_arena.specs.declared.end.Way.TheVariants.{Take, Give}
use Rattle.stg_arena.specs.Ends.{other}
use Rattle.stg_arena.specs.LinkHistory.{IsNextAt}
use Rattle.stg_arena.specs.ArenaView.{Layout, none, cell_at, removed_at, side, times_of, IsLaid, IsTimed}
use Rattle.stg_arena.specs.RingWalk.{cell_weight, items_left, IsWalking}
use Rattle.stg_arena.specs.Incidence.{weight, weight_along}
use Rattle.stg_arena.specs.WalkItems.{weighted_from}
use Rattle.stg_arena.specs.Appends.{IsAppended}
use Rattle.stg_arena.proofs.Rings.{stop_other}
use Rattle.stg_arena.proofs.RemovalTimes.{depth_now}
use Rattle.stg_arena.proofs.ArenaInvariant.{crossed_of}
use Rattle.stg_arena.proofs.RingWeights.{weight_none}
use Rattle.stg_arena.proofs.RingWalk.{items_left_here, walk_on}
use Rattle.stg_arena.proofs.LinksOneSide.{head_on}
use Rattle.stg_arena.proofs.Incidence.{weighted_same, weighted_skip, walk_starts}
use Rattle.stg_arena.proofs.Extends.{extended_weight, extended_old}
use Rattle.stg_arena.proofs.Appends.{items_left_appended, walking_appended}
use Rattle.stg_edit.specs.inner.NewPlaces.{CanMake, IsMade, after_at, before_at, pairs_with, pairs_from, pairs_of_cell, pairs_from_cell}
use Rattle.stg_edit.proofs.NewPlaces.{made_nil, made_append, can_first, can_rest}

-- while p is paired with the places after t: the walk is at y
pub record IsPairingWith (t p : ℕ) (l l' : Layout) (y : ℕ) : Type 0 where
  pub done : List (ℕ × ℕ)
  pub made : IsMade t done l l'
  pub rest : done ++ pairs_with p (items_left l' Trans t Give y) ≡ pairs_with p (after_at l t)
  pub walking : IsWalking l' Trans t y

-- while the places before t are paired with those after it: the walk is at x
pub record IsPairingAll (t : ℕ) (l l' : Layout) (x : ℕ) : Type 0 where
  pub done : List (ℕ × ℕ)
  pub made : IsMade t done l l'
  pub rest : done ++ pairs_from l' t (items_left l' Trans t Take x) ≡ pairs_from l t (before_at l t)
  pub walking : IsWalking l' Trans t x

-- the walk round t begins at its head
pub at_trans : (l : Layout) (t : ℕ) → IsLaid l → IsTimed l → t < length l.trans → removed_at l Trans t ≡ none → IsWalking l Trans t t
at_trans l t laid timed range live = record { live = head_on Trans t l laid timed range live; key = (laid.heads Trans t range).key }

-- a cell of the walk that isn't t is an arc
pub is_arc : (l : Layout) (t y : ℕ) → IsLaid l → t < length l.trans → IsWalking l Trans t y → y ≢ t → (cell_at l.cells y).place ≢ none
is_arc l t y laid range w other = λ e.
    let h = laid.heads Trans t range in
    other ((crossed_of Trans l laid).cross y t (omega (arith, w.live.below, depth_now l)) h.below (w.key ∙ sym h.key) (e ∙ sym h.far))

-- how far the walk has to go
abbrev pub to_go : ℕ → ℕ → ℕ
to_go t y = cond (eqb y t) 0 (none - y)

-- at t nothing is left
nothing_left : (l : Layout) (t : ℕ) (way : Way) → IsLaid l → t < length l.trans → items_left l Trans t way t ≡ []
nothing_left l t way laid range = rw (eq-eqb (cell_at l.cells t).place none (laid.heads Trans t range).far) refl

split_with : (z : Bool) (p q : ℕ) (w : ℕ) (rest : List (ℕ × ℕ)) → pairs_with p (cond z ((q, w) ∷ rest) rest) ≡ cond z ((p, q) ∷ []) [] ++ pairs_with p rest
split_with true p q w rest = refl
split_with false p q w rest = refl

split_of : (l : Layout) (t : ℕ) (z : Bool) (p w : ℕ) (rest : List (ℕ × ℕ)) → pairs_from l t (cond z ((p, w) ∷ rest) rest) ≡ cond z (pairs_with p (after_at l t)) [] ++ pairs_from l t rest
split_of l t true p w rest = refl
split_of l t false p w rest = refl

-- the inner walk
module _ (t p : ℕ) (l l' : Layout) (y z : ℕ) (j : IsPairingWith t p l l' y) (can : CanMake t (pairs_with p (after_at l t)) l) (laid : IsLaid l') (range : t < length l'.trans) (other : y ≢ t)
    (f : IsNextAt (side l'.cells Trans) (side l'.cells Place) (times_of l') (length l'.removals) y z) where
  small : t < none
  small = omega (arith, laid.sizes Trans)

  split : pairs_with p (items_left l' Trans t Give y) ≡ pairs_of_cell l' p y ++ pairs_with p (items_left l' Trans t Give z)
  split = ap (pairs_with p) (items_left_here l' Trans t Give y z j.walking small (is_arc l' t y laid range j.walking other) f)
      ∙ split_with (ltb 0 (cell_weight Give (cell_at l'.cells y))) p (cell_at l'.cells y).place (cell_weight Give (cell_at l'.cells y)) (items_left l' Trans t Give z)

  all : CanMake t (j.done ++ (pairs_of_cell l' p y ++ pairs_with p (items_left l' Trans t Give z))) l
  all = let P : List (ℕ × ℕ) → Type 0 = λ ps. CanMake t ps l in subst P (sym j.rest ∙ ap (λ ps. j.done ++ ps) split) can

  -- the next pair fits
  pub pairing_can : CanMake t (pairs_of_cell l' p y) l'
  pairing_can = can_first t (pairs_of_cell l' p y) (pairs_with p (items_left l' Trans t Give z)) l' (can_rest t j.done (pairs_of_cell l' p y ++ pairs_with p (items_left l' Trans t Give z)) l l' all j.made)

  -- the walk goes on once the pair has its place
  pub pairing_on : (l'' : Layout) → IsMade t (pairs_of_cell l' p y) l' l'' → IsPairingWith t p l l'' z
  pairing_on l'' made =
      let first : CanMake t (j.done ++ pairs_of_cell l' p y) l =
      let P : List (ℕ × ℕ) → Type 0 = λ ps. CanMake t ps l in can_first t (j.done ++ pairs_of_cell l' p y) (pairs_with p (items_left l' Trans t Give z)) l (subst P (sym (append_assoc j.done (pairs_of_cell l' p y) (pairs_with p (items_left l' Trans t Give z)))) all) in
      record {
        done = j.done ++ pairs_of_cell l' p y;
        made = made_append t j.done (pairs_of_cell l' p y) l l' l'' first j.made made;
        rest =
            append_assoc j.done (pairs_of_cell l' p y) (pairs_with p (items_left l'' Trans t Give z))
            ∙ ap (λ xs. j.done ++ (pairs_of_cell l' p y ++ pairs_with p xs)) (items_left_appended t (length l'.places) l' l'' made.appended Give z (omega (arith, f.to_below, depth_now l')))
            ∙ ap (λ ps. j.done ++ ps) (sym split) ∙ j.rest;
        walking = walking_appended t (length l'.places) l' l'' made.appended z (walk_on l' Trans t y z j.walking f);
      }

-- the walk comes nearer to its end
pub goes_on : (l : Layout) (t y z : ℕ) → IsLaid l → t < length l.trans → IsWalking l Trans t y → y ≢ t → IsNextAt (side l.cells Trans) (side l.cells Place) (times_of l) (length l.removals) y z → to_go t z < to_go t y
goes_on l t y z laid range w other f =
    let low : y < none = omega (arith, f.from_below, depth_now l, laid.small) in
    let here : to_go t y ≡ none - y = ap (λ b. cond b 0 (none - y)) (ne_eqb y t other) in
    elim (cases_eq z t) [
      | inl e ↦ omega (arith, here, ap (λ b. cond b 0 (none - z)) (eq-eqb z t e))
      | inr ne ↦
          let arc = is_arc l t z laid range (walk_on l Trans t y z w f) ne in
          omega (arith, here, ap (λ b. cond b 0 (none - z)) (ne_eqb z t ne), f.order, stop_other (side l.cells Trans) ((times_of l).count (length l.removals)) z (ne_eqb (cell_at l.cells z).place none arc))
    ]

-- the walk stands at the first place after t
pub pairing_starts : (t p : ℕ) (l : Layout) (y : ℕ) → IsLaid l → IsTimed l → t < length l.trans → removed_at l Trans t ≡ none → IsNextAt (side l.cells Trans) (side l.cells Place) (times_of l) (length l.removals) t y → IsPairingWith t p l l y
pairing_starts t p l y laid timed range live f = record {
  done = [];
  made = made_nil t l (record { laid = laid; timed = timed });
  rest = ap (pairs_with p) (walk_starts l Trans t Give t y laid timed range live refl f);
  walking = walk_on l Trans t t y (at_trans l t laid timed range live) f;
}

-- at the end p is paired with all places after t
pub pairing_ends : (t p : ℕ) (l l' : Layout) (y : ℕ) → IsPairingWith t p l l' y → IsLaid l' → t < length l'.trans → y ≡ t → IsMade t (pairs_with p (after_at l t)) l l'
pairing_ends t p l l' y j laid range e =
    let P : List (ℕ × ℕ) → Type 0 = λ ps. IsMade t ps l l' in
    subst P (sym (append-nil j.done) ∙ ap (λ xs. j.done ++ pairs_with p xs) (sym (ap (items_left l' Trans t Give) e ∙ nothing_left l' t Give laid range)) ∙ j.rest) j.made

-- numbers without a weight at the end
weighted_end : (w : ℕ → ℕ) (m j k : ℕ) → ((i : ℕ) → j + m ≤ i → i < j + m + k → w i ≡ 0) → weighted_from w j (m + k) ≡ weighted_from w j m
weighted_end w zero j k off = ap (weighted_from w j) (let e : 0 + k ≡ k + 0 = omega arith in e) ∙ weighted_skip w j k 0 (λ i l h. off i (omega arith) (omega arith))
weighted_end w (suc m) j k off =
    ap (weighted_from w j) (let e : suc m + k ≡ suc (m + k) = omega arith in e)
    ∙ ap (λ r. cond (ltb 0 (w j)) ((j, w j) ∷ r) r) (weighted_end w m (j + 1) k (λ i l h. off i (omega arith) (omega arith)))

-- the places after t stay the same
after_same : (t : ℕ) (l l' : Layout) → IsLaid l → IsLaid l' → IsAppended t (length l.places) l l' → after_at l' t ≡ after_at l t
after_same t l l' laid laid' g =
    let k = length l'.places - length l.places in
    ap (weighted_from (weight_along l' Trans Give t) 0) (let e : length l'.places ≡ length l.places + k = omega (arith, g.later.places) in e)
    ∙ weighted_end (weight_along l' Trans Give t) (length l.places) 0 k (λ i low high.
    ap (λ w. cond (leb (length l'.removals) (removed_at l' Place i)) w 0) (weight_none l'.cells Give i t (λ c h e. none_new i c (omega arith) (omega (arith, g.later.places)) h e))
    ∙ cond_both (leb (length l'.removals) (removed_at l' Place i)) 0 0 (λ z. z ≡ 0) (λ e. refl) (λ e. refl))
    ∙ weighted_same (length l.places) (length l.places) (weight_along l' Trans Give t) (weight_along l Trans Give t) refl
    (λ i h. (λ j. cond (leb (length (g.removals j)) (g.same Place i j)) (weight l'.cells Give i t) 0) ∙ ap (λ w. cond (leb (length l.removals) (removed_at l Place i)) w 0) (extended_weight (length l.places) l l' Give i t g.later h))
  where
    none_new : (i c : ℕ) → length l.places ≤ i → i < length l'.places → c < length l'.cells → (cell_at l'.cells c).place ≡ i → (cell_at l'.cells c).trans ≢ t
    none_new i c low high h e = elim (cases_lt c (length l.cells)) [
      | inl old ↦
          let o = ap (λ x. x.place) (extended_old (length l.places) l l' c g.later old) in
          elim (laid.bounded Place c old) [ inl z ↦ absurd (omega (arith, o, e, laid'.sizes Place)) | inr z ↦ absurd (omega (arith, o, e)) ]
      | inr new ↦ g.others c new h
    ]

-- the outer walk
module _ (t : ℕ) (l l' : Layout) (x z : ℕ) (j : IsPairingAll t l l' x) (can : CanMake t (pairs_from l t (before_at l t)) l) (laid : IsLaid l') (range : t < length l'.trans) (other : x ≢ t)
    (f : IsNextAt (side l'.cells Trans) (side l'.cells Place) (times_of l') (length l'.removals) x z) where
  small_all : t < none
  small_all = omega (arith, laid.sizes Trans)

  split_all : pairs_from l' t (items_left l' Trans t Take x) ≡ pairs_from_cell l' t x ++ pairs_from l' t (items_left l' Trans t Take z)
  split_all = ap (pairs_from l' t) (items_left_here l' Trans t Take x z j.walking small_all (is_arc l' t x laid range j.walking other) f)
      ∙ split_of l' t (ltb 0 (cell_weight Take (cell_at l'.cells x))) (cell_at l'.cells x).place (cell_weight Take (cell_at l'.cells x)) (items_left l' Trans t Take z)

  all_pairs : CanMake t (j.done ++ (pairs_from_cell l' t x ++ pairs_from l' t (items_left l' Trans t Take z))) l
  all_pairs = let P : List (ℕ × ℕ) → Type 0 = λ ps. CanMake t ps l in subst P (sym j.rest ∙ ap (λ ps. j.done ++ ps) split_all) can

  -- the next pairs fit
  pub pairing_all_can : CanMake t (pairs_from_cell l' t x) l'
  pairing_all_can = can_first t (pairs_from_cell l' t x) (pairs_from l' t (items_left l' Trans t Take z)) l' (can_rest t j.done (pairs_from_cell l' t x ++ pairs_from l' t (items_left l' Trans t Take z)) l l' all_pairs j.made)

  -- the walk goes on once these pairs have their places
  pub pairing_all_on : (l'' : Layout) → IsLaid l'' → IsMade t (pairs_from_cell l' t x) l' l'' → IsPairingAll t l l'' z
  pairing_all_on l'' laid'' made =
      let first : CanMake t (j.done ++ pairs_from_cell l' t x) l =
      let P : List (ℕ × ℕ) → Type 0 = λ ps. CanMake t ps l in can_first t (j.done ++ pairs_from_cell l' t x) (pairs_from l' t (items_left l' Trans t Take z)) l (subst P (sym (append_assoc j.done (pairs_from_cell l' t x) (pairs_from l' t (items_left l' Trans t Take z)))) all_pairs) in
      let after = after_same t l' l'' laid laid'' made.appended in
      let rest = items_left_appended t (length l'.places) l' l'' made.appended Take z (omega (arith, f.to_below, depth_now l')) in
      let same : pairs_from l'' t (items_left l'' Trans t Take z) ≡ pairs_from l' t (items_left l' Trans t Take z) = λ i. flat_map (λ (x : ℕ × ℕ). pairs_with x.0 (after i)) (rest i) in
      record {
        done = j.done ++ pairs_from_cell l' t x;
        made = made_append t j.done (pairs_from_cell l' t x) l l' l'' first j.made made;
        rest =
            append_assoc j.done (pairs_from_cell l' t x) (pairs_from l'' t (items_left l'' Trans t Take z))
            ∙ ap (λ ps. j.done ++ (pairs_from_cell l' t x ++ ps)) same
            ∙ ap (λ ps. j.done ++ ps) (sym split_all) ∙ j.rest;
        walking = walking_appended t (length l'.places) l' l'' made.appended z (walk_on l' Trans t x z j.walking f);
      }

-- the walk stands at the first place before t
pub pairing_all_starts : (t : ℕ) (l : Layout) (x : ℕ) → IsLaid l → IsTimed l → t < length l.trans → removed_at l Trans t ≡ none → IsNextAt (side l.cells Trans) (side l.cells Place) (times_of l) (length l.removals) t x → IsPairingAll t l l x
pairing_all_starts t l x laid timed range live f = record {
  done = [];
  made = made_nil t l (record { laid = laid; timed = timed });
  rest = ap (pairs_from l t) (walk_starts l Trans t Take t x laid timed range live refl f);
  walking = walk_on l Trans t t x (at_trans l t laid timed range live) f;
}

-- at the end all pairs have their places
pub pairing_all_ends : (t : ℕ) (l l' : Layout) (x : ℕ) → IsPairingAll t l l' x → IsLaid l' → t < length l'.trans → x ≡ t → IsMade t (pairs_from l t (before_at l t)) l l'
pairing_all_ends t l l' x j laid range e =
    let P : List (ℕ × ℕ) → Type 0 = λ ps. IsMade t ps l l' in
    subst P (sym (append-nil j.done) ∙ ap (λ xs. j.done ++ pairs_from l' t xs) (sym (ap (items_left l' Trans t Take) e ∙ nothing_left l' t Take laid range)) ∙ j.rest) j.made
