-- What is counted of an arena, and what of it the draft shows.
use Rattle.std.proofs.Common.{◌≡◌, ◌≢◌, ◌<◌, ◌≤◌, ◌⊎◌, ◌+◌, ◌-◌, ◌*◌, ◌||◌, ◌∷◌, [], ℕ, zero, suc, true, false, cond, min, List, length, sum_by, ltb, refl, sym, ap, ◌∙◌, inl, inr, arith, eq-eqb, subst}
use Rattle.std.specs.List.{range_with_len}
use Rattle.std.proofs.lemmas.Bool.{cases_lt, cases_eq, lt-ltb, le-ltb, lt-leb, le-leb, ne_eqb, cond_both}
use Rattle.std.proofs.lemmas.List.Sums.{sum_by-cons, sum_by-append}
use Rattle.stg_net.specs.declared.limits.TheConstants.Limits.{PART}
use Rattle.stg_arena.specs.declared.end.End.{End}
use Rattle.stg_arena.specs.declared.end.Way.{Way}
use Rattle.stg_arena.specs.declared.end.End.TheVariants.{Place, Trans}
use Rattle.stg_arena.specs.declared.end.Way.TheVariants.{Take, Give}
use Rattle.stg_arena.specs.Ends.{other}
use Rattle.stg_arena.specs.LinkHistory.{IsNextAt}
use Rattle.stg_arena.specs.Incidence.{weight_along, weight}
use Rattle.stg_arena.specs.ArenaView.{Layout, none, cell_at, removed_at, side, times_of, IsLaid, IsTimed, end_of, count_of, head_of}
use Rattle.stg_arena.specs.RingWalk.{IsWalking, items_left, items_left_from, item_of}
use Rattle.stg_arena.proofs.RemovalTimes.{depth_now}
use Rattle.stg_arena.proofs.Rings.{stop_other}
use Rattle.stg_arena.proofs.RingWalk.{walk_on, items_left_here}
use Rattle.stg_arena.proofs.Incidence.{walk_starts}
use Rattle.stg_arena.proofs.LinksOneSide.{head_on}
use Rattle.stg_arena.proofs.RingWeights.{ring_here}
use Rattle.stg_edit.specs.declared.size.Size.{Size}
use Rattle.stg_edit.specs.inner.RemovedPlaces.{weights_at, touch}
use Rattle.stg_edit.specs.inner.Sizes.{arcs_of_node, cell_arcs, size_at, is_round, round_below, size_below, size_round, plus}
use Rattle.stg_edit.proofs.Counted.{range_more, length_more, sum_more, weighted_few}
use Rattle.stg_edit.proofs.PairPlaces.{at_trans, is_arc}
use Rattle.stg_edit.proofs.PresetRemoval.{IsAtPlace, at_place, untouched_between}

-- while the arcs at a node are counted, the walk is at x
pub record IsCountingArcs (l : Layout) (b : End) (k x far count : ℕ) : Type 0 where
  pub walking : IsWalking l b k x
  pub here : far ≡ end_of (other b) (cell_at l.cells x)
  pub counted : count + (length (items_left l b k Take x) + length (items_left l b k Give x)) ≡ arcs_of_node l b k

pub counting_starts : (l : Layout) (b : End) (k h x far : ℕ) → IsLaid l → IsTimed l → k < count_of l b → removed_at l b k ≡ none → h ≡ head_of l b k → IsNextAt (side l.cells b) (side l.cells (other b)) (times_of l) (length l.removals) h x → far ≡ end_of (other b) (cell_at l.cells x) → IsCountingArcs l b k x far 0
counting_starts l b k h x far laid timed range live head f here = record {
  walking = let P : ℕ → Type 0 = λ h. IsNextAt (side l.cells b) (side l.cells (other b)) (times_of l) (length l.removals) h x in
      walk_on l b k (head_of l b k) x (record { live = head_on b k l laid timed range live; key = (laid.heads b k range).key }) (subst P head f);
  here = here;
  counted = omega (arith, ap length (walk_starts l b k Take h x laid timed range live head f), ap length (walk_starts l b k Give h x laid timed range live head f));
}

-- one cell of the walk
counting_step : (z : ℕ) (x : ℕ × ℕ) (xs : List (ℕ × ℕ)) → length (cond (ltb 0 z) (x ∷ xs) xs) ≡ min 1 z + length xs
counting_step z x xs = elim (cases_lt 0 z) [
  | inl some ↦ rw (lt-ltb 0 z some) (omega (arith, some))
  | inr none ↦ rw (le-ltb 0 z none) (omega (arith, none))
]

pub counting_on : (l : Layout) (b : End) (k x far count y far' : ℕ) → IsLaid l → k < count_of l b → IsCountingArcs l b k x far count → far ≢ none → IsNextAt (side l.cells b) (side l.cells (other b)) (times_of l) (length l.removals) x y → far' ≡ end_of (other b) (cell_at l.cells y) → IsCountingArcs l b k y far' (count + cell_arcs l x)
counting_on l b k x far count y far' laid range s arc f here =
    let small : k < none = omega (arith, range, laid.sizes b) in
    let cell = cell_at l.cells x in
    record {
      walking = walk_on l b k x y s.walking f;
      here = here;
      counted = omega (
        arith,
        s.counted,
        ap length (items_left_here l b k Take x y s.walking small (λ e. arc (s.here ∙ e)) f),
        counting_step cell.take (item_of l b Take x) (items_left l b k Take y),
        ap length (items_left_here l b k Give x y s.walking small (λ e. arc (s.here ∙ e)) f),
        counting_step cell.give (item_of l b Give x) (items_left l b k Give y),
      );
    }

pub counting_ends : (l : Layout) (b : End) (k x far count : ℕ) → IsCountingArcs l b k x far count → far ≡ none → count ≡ arcs_of_node l b k
counting_ends l b k x far count s e = omega (arith, s.counted, ap length (nothing Take), ap length (nothing Give))
  where
    nothing : (way : Way) → items_left l b k way x ≡ []
    nothing way = ap (λ z. cond z [] (items_left_from l b k way x)) (eq-eqb (end_of (other b) (cell_at l.cells x)) none (sym s.here ∙ e))

-- what is counted of a node's arcs is small
pub counting_few : (l : Layout) (b : End) (k x far count : ℕ) → IsLaid l → IsCountingArcs l b k x far count → count ≤ 2 * none
counting_few l b k x far count laid s = omega (
  arith,
  s.counted,
  laid.sizes (other b),
  weighted_few (count_of l (other b)) (weight_along l b Take k),
  weighted_few (count_of l (other b)) (weight_along l b Give k),
)

-- a place has at most two arcs with each transition
pub arcs_few : (l : Layout) (p : ℕ) → length l.trans ≤ PART.trans → arcs_of_node l Place p ≤ 2000
arcs_few l p few =
    let most : PART.trans ≡ 1000 = refl in
    omega (arith, few, most, weighted_few (length l.trans) (weight_along l Place Take p), weighted_few (length l.trans) (weight_along l Place Give p))

-- so many places have at most so many arcs
pub sum_few : (f : ℕ → ℕ) (xs : List ℕ) → ((p : ℕ) → f p ≤ 2000) → sum_by f xs ≤ 2000 * length xs
sum_few f [] few = omega arith
sum_few f (x ∷ xs) few = omega (arith, sum_by-cons f x xs, few x, sum_few f xs few)

-- one place more
pub sum_on : (f : ℕ → ℕ) (first n : ℕ) → sum_by f (range_with_len first (n + 1)) ≡ sum_by f (range_with_len first n) + f (first + n)
sum_on f first n =
    ap (sum_by f) (range_more n first (first + n) refl) ∙ sum_by-append f (range_with_len first n) ((first + n) ∷ [])
    ∙ ap (λ k. sum_by f (range_with_len first n) + k) (sum_by-cons f (first + n) [] ∙ omega arith)

-- while the places from `first` on are counted, so far those below p
pub record IsSizedFrom (l : Layout) (first p : ℕ) (size : Size) : Type 0 where
  pub places : size.places ≡ p - first
  pub arcs : size.arcs ≡ sum_by (arcs_of_node l Place) (range_with_len first (p - first))
  pub few : size.arcs ≤ 2000 * (p - first)

pub sized_on : (l : Layout) (first p : ℕ) (size : Size) → length l.trans ≤ PART.trans → first ≤ p → IsSizedFrom l first p size → IsSizedFrom l first (p + 1) (plus size (size_at l Place p))
sized_on l first p size few low s =
    let e : p + 1 - first ≡ p - first + 1 = omega arith in
    record {
      places = omega (arith, s.places);
      arcs = omega (
        arith,
        s.arcs,
        ap (λ n. sum_by (arcs_of_node l Place) (range_with_len first n)) e,
        sum_on (arcs_of_node l Place) first (p - first),
        ap (arcs_of_node l Place) (let e : first + (p - first) ≡ p = omega arith in e),
      );
      few = omega (arith, s.few, arcs_few l p few);
    }

-- a place at which t has no weight isn't round it
not_round : (l : Layout) (t p : ℕ) → IsTimed l → (removed_at l Place p ≡ none → touch l t p ≡ 0) → is_round l t p ≡ false
not_round l t p timed none_there = λ i. ltb 0 (none_along Take i) || ltb 0 (none_along Give i)
  where
    zero_weight : (way : Way) → touch l t p ≡ 0 → weight l.cells way p t ≡ 0
    zero_weight Take e = omega (arith, e)
    zero_weight Give e = omega (arith, e)

    none_along : (way : Way) → weight_along l Trans way t p ≡ 0
    none_along way = elim (cases_lt (removed_at l Place p) (length l.removals)) [
      | inl dead ↦ ap (λ z. cond z (weight l.cells way p t) 0) (lt-leb (length l.removals) (removed_at l Place p) dead)
      | inr late ↦ ap (λ z. cond z (weight l.cells way p t) 0) (le-leb (length l.removals) (removed_at l Place p) late) ∙ zero_weight way (none_there (timed.alive Place p late))
    ]

-- a live place at which it has one is
round : (l : Layout) (t p : ℕ) → IsTimed l → removed_at l Place p ≡ none → 0 < touch l t p → is_round l t p ≡ true
round l t p timed live some = (λ i. ltb 0 (along Take i) || ltb 0 (along Give i)) ∙ elim (cases_lt 0 (weight l.cells Take p t)) [
  | inl taken ↦ ap (λ z. z || ltb 0 (weight l.cells Give p t)) (lt-ltb 0 (weight l.cells Take p t) taken)
  | inr none_taken ↦ (λ i. le-ltb 0 (weight l.cells Take p t) none_taken i || lt-ltb 0 (weight l.cells Give p t) (omega (arith, some, none_taken)) i)
]
  where
    along : (way : Way) → weight_along l Trans way t p ≡ weight l.cells way p t
    along way = ap (λ z. cond z (weight l.cells way p t) 0) (le-leb (length l.removals) (removed_at l Place p) (omega (arith, live, timed.room, timed.small)))

-- places that aren't round t count nothing
size_skip : (l : Layout) (t n k : ℕ) → ((p : ℕ) → n ≤ p → p < n + k → is_round l t p ≡ false) → size_below l t (n + k) ≡ size_below l t n
size_skip l t n zero off = ap (size_below l t) (let e : n + 0 ≡ n = omega arith in e)
size_skip l t n (suc k) off =
    let e : n + suc k ≡ n + k + 1 = omega arith in
    let none_here = off (n + k) (omega arith) (omega arith) in
    let long = length_more (is_round l t) (n + k) ∙ ap {B = ℕ} (λ z. length (round_below l t (n + k)) + cond z 1 0) none_here in
    let whole = sum_more (arcs_of_node l Place) (is_round l t) (n + k) ∙ ap (λ z. sum_by (arcs_of_node l Place) (round_below l t (n + k)) + cond z (arcs_of_node l Place (n + k)) 0) none_here in
    let places : length (round_below l t (n + k + 1)) ≡ length (round_below l t (n + k)) = omega (arith, long) in
    let arcs : sum_by (arcs_of_node l Place) (round_below l t (n + k + 1)) ≡ sum_by (arcs_of_node l Place) (round_below l t (n + k)) = omega (arith, whole) in
    ap (size_below l t) e ∙ (λ i. record { places = places i; arcs = arcs i }) ∙ size_skip l t n k (λ p low high. off p low (omega (arith, high)))

-- no more than n of the places below n are round t
round_few : (l : Layout) (t n : ℕ) → length (round_below l t n) ≤ n
round_few l t zero = omega arith
round_few l t (suc n) = omega (
  arith,
  ap (λ k. length (round_below l t k)) (let e : suc n ≡ n + 1 = omega arith in e),
  length_more (is_round l t) n,
  round_few l t n,
  cond_both (is_round l t n) 1 0 (λ z. z ≤ 1) (λ e. omega arith) (λ e. omega arith),
)

-- how far the count is at the cell x
abbrev pub far_below : Layout → ℕ → ℕ
far_below l x = min (cell_at l.cells x).place (length l.places)

-- while the places round t are counted, the walk is at x
pub record IsSizedRound (t : ℕ) (l : Layout) (x : ℕ) (size : Size) : Type 0 where
  pub walking : IsWalking l Trans t x
  pub counted : size ≡ size_below l t (far_below l x)

module _ (t : ℕ) (l : Layout) (laid : IsLaid l) (timed : IsTimed l) (range : t < length l.trans) (live : removed_at l Trans t ≡ none) where
  -- between two cells of the walk nothing is round t
  gap : (x z p : ℕ) → IsWalking l Trans t x → IsNextAt (side l.cells Trans) (side l.cells Place) (times_of l) (length l.removals) x z → ((cell_at l.cells x).place ≡ none) ⊎ ((cell_at l.cells x).place < p) → p < far_below l z → is_round l t p ≡ false
  gap x z p w f above below = not_round l t p timed (λ there. untouched_between l t x z p laid timed range live w f above (omega (arith, below)) (omega (arith, below, laid.sizes Place)) there)

  pub sizing_starts : (x : ℕ) → IsNextAt (side l.cells Trans) (side l.cells Place) (times_of l) (length l.removals) t x → IsSizedRound t l x (record { places = 0; arcs = 0 })
  sizing_starts x f =
      let at = at_trans l t laid timed range live in
      record {
        walking = walk_on l Trans t t x at f;
        counted = sym (ap (size_below l t) (let e : far_below l x ≡ 0 + far_below l x = omega arith in e) ∙ size_skip l t 0 (far_below l x) (λ p low high. gap t x p at f (inl (laid.heads Trans t range).far) (omega (arith, high))));
      }

  module _ (x : ℕ) (size : Size) (s : IsSizedRound t l x size) (other : x ≢ t) where
    a : IsAtPlace l x
    a = at_place l t x laid timed range s.walking other

    abbrev p : ℕ
    p = (cell_at l.cells x).place

    touch_here : touch l t p ≡ weights_at l x
    touch_here = omega (arith, ring_here l Trans Take t x laid s.walking, ring_here l Trans Give t x laid s.walking)

    before : size ≡ size_below l t p
    before = s.counted ∙ ap (size_below l t) (let e : far_below l x ≡ p = omega (arith, a.inside) in e)

    -- so far the sums are small
    pub sizing_few : length l.trans ≤ PART.trans → (size.places ≤ p) × (size.arcs ≤ 2000 * p)
    sizing_few few =
        let long : length (round_below l t p) ≤ p = round_few l t p in
        (omega (arith, ap (λ (s : Size). s.places) before, long), omega (arith, ap (λ (s : Size). s.arcs) before, long, sum_few (arcs_of_node l Place) (round_below l t p) (λ q. arcs_few l q few)))

    module _ (z : ℕ) (f : IsNextAt (side l.cells Trans) (side l.cells Place) (times_of l) (length l.removals) x z) where
      -- the walk goes up
      up : p < (cell_at l.cells z).place
      up = elim (cases_eq z t) [
        | inl e ↦ omega (arith, a.inside, laid.sizes Place, (laid.heads Trans t range).far, ap (λ c. (cell_at l.cells c).place) e)
        | inr ne ↦
            let arc = is_arc l t z laid range (walk_on l Trans t x z s.walking f) ne in
            let low : x < z = omega (arith, f.order, stop_other (side l.cells Trans) ((times_of l).count (length l.removals)) z (ne_eqb (cell_at l.cells z).place none arc)) in
            elim (laid.ascending Trans x z low (omega (arith, f.to_below, depth_now l)) f.same).up [ inl e ↦ absurd (omega (arith, a.inside, laid.sizes Place)) | inr e ↦ e ]
      ]

      -- past the place at x nothing is counted up to the next cell
      past : size_below l t (far_below l z) ≡ size_below l t (p + 1)
      past =
          ap (size_below l t) (let e : far_below l z ≡ p + 1 + (far_below l z - (p + 1)) = omega (arith, up, a.inside) in e)
          ∙ size_skip l t (p + 1) (far_below l z - (p + 1)) (λ q low high. gap x z q s.walking f (inr (omega arith)) (omega (arith, high, up, a.inside)))

      pub sizing_past : weights_at l x ≡ 0 → IsSizedRound t l z size
      sizing_past none_here = record {
        walking = walk_on l Trans t x z s.walking f;
        counted = before ∙ sym (past ∙ size_skip l t p 1 (λ q low high. ap (is_round l t) (let e : q ≡ p = omega arith in e) ∙ not_round l t p timed (λ there. touch_here ∙ none_here)));
      }

      pub sizing_on : 0 < weights_at l x → IsSizedRound t l z (plus size (size_at l Place p))
      sizing_on some =
          let yes = round l t p timed a.live (omega (arith, some, touch_here)) in
          let long = length_more (is_round l t) p ∙ ap {B = ℕ} (λ z. length (round_below l t p) + cond z 1 0) yes in
          let whole = sum_more (arcs_of_node l Place) (is_round l t) p ∙ ap (λ z. sum_by (arcs_of_node l Place) (round_below l t p) + cond z (arcs_of_node l Place p) 0) yes in
          let places = ap (λ (s : Size). s.places + 1) before ∙ sym long in
          let arcs = ap (λ (s : Size). s.arcs + arcs_of_node l Place p) before ∙ sym whole in
          record {
            walking = walk_on l Trans t x z s.walking f;
            counted = (λ i. record { places = places i; arcs = arcs i }) ∙ sym past;
          }

  pub sizing_ends : (x : ℕ) (size : Size) → IsSizedRound t l x size → x ≡ t → size ≡ size_round l t
  sizing_ends x size s e = s.counted ∙ ap (size_below l t) (let z : far_below l x ≡ length l.places = omega (arith, ap (λ c. (cell_at l.cells c).place) e, (laid.heads Trans t range).far, laid.sizes Place) in z)
