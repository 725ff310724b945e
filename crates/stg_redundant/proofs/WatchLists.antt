-- The ascending list of a watch: a number put in, the last one taken off, and all live places.
use Rattle.std.proofs.Common.{◌≡◌, ◌<◌, ◌≤◌, ◌+◌, ◌-◌, ◌⊎◌, ℕ, zero, suc, List, ◌∷◌, length, get_or, is_some, Contains, take, Some, None, slice_get, sym, ap, ◌∙◌, subst, inl, inr, arith}
use Rattle.std.specs.List.{insert}
use Rattle.std.specs.List.Sorted.{IsStrictlyIncreasing, IsPermutation}
use Rattle.std.proofs.lemmas.Bool.{cases_lt, cases_eq}
use Rattle.std.proofs.lemmas.Option.{get_or_from_slice_get, slice_get-get_or, none-some}
use Rattle.std.proofs.lemmas.List.{get_or-take, length-take}
use Rattle.std.proofs.lemmas.List.Edits.{get_or-insert_at, get_or-insert_below, get_or-insert_above, length-insert}
use Rattle.std.proofs.lemmas.List.FromFn.{get_or-range_with_len, length-range_with_len}
use Rattle.std.proofs.lemmas.List.Kept.{IsStrictlyIncreasing-filter, AllPairs-from_increasing}
use Rattle.std.proofs.lemmas.List.Sorted.{IsPermutation-insert, IsPermutation-sym, Contains-permutation}
use Rattle.stg_net.specs.Graph.{Graph, place_at, place_numbers}
use Rattle.stg_net.proofs.Members.{Contains-range}
use Rattle.stg_laws.specs.RedundantPlaces.{IsRedundantPlace}
use Rattle.stg_laws.proofs.ListMembers.{Contains-filter}
use Rattle.stg_edit.specs.Counted.{live_places}
use Rattle.stg_redundant.specs.Watching.{AreWatched, KeepsRedundant, HasBesides}
use Rattle.stg_redundant.proofs.RuleTests.{redundant_live, place_below}

-- an element is the first one, or one of the others
pub contains_split : (x q : ℕ) (xs : List ℕ) → Contains (x ∷ xs) q → Contains xs q ⊎ (q ≡ x)
contains_split x q xs c = elim c.0 as (λ k. (k < suc (length xs)) → (get_or (x ∷ xs) k q ≡ q) → Contains xs q ⊎ (q ≡ x)) [
  | zero ↦ λ l e. inr (sym e)
  | suc k ↦ λ l e. inl (k, omega (arith, l), e)
] c.1 c.2

-- where a number is put in, the list has it besides
pub insert_has : (xs : List ℕ) (i p : ℕ) → HasBesides (λ q. q ≡ p) xs (insert xs i p)
insert_has xs i p q = (
  λ c. contains_split p q xs (Contains-permutation (insert xs i p) (p ∷ xs) q (IsPermutation-sym (p ∷ xs) (insert xs i p) moved) c),
  λ s. Contains-permutation (p ∷ xs) (insert xs i p) q moved (before s),
)
  where
    moved : IsPermutation (p ∷ xs) (insert xs i p)
    moved = IsPermutation-insert xs i p

    before : Contains xs q ⊎ (q ≡ p) → Contains (p ∷ xs) q
    before (inl c) = (suc c.0, omega (arith, c.1), c.2)
    before (inr e) = (0, omega arith, sym e)

-- between what is less and what is greater, it ascends still
pub insert_ascends : (xs : List ℕ) (i p : ℕ) → IsStrictlyIncreasing xs → i ≤ length xs
    → ((k : ℕ) → k < i → get_or xs k 0 < p)
    → ((k : ℕ) → i ≤ k → k < length xs → p < get_or xs k 0) → IsStrictlyIncreasing (insert xs i p)
insert_ascends xs i p up within less more k low =
    let inside : k < length xs = omega (arith, low, length-insert xs i p within) in
    elim (cases_lt (k + 1) i) [
      | inl below ↦ omega (
        arith,
        get_or-insert_below xs i p 0 k (omega (arith, below)) within,
        get_or-insert_below xs i p 0 (k + 1) below within,
        up k (omega (arith, below, within)),
      )
      | inr past ↦ elim (cases_eq (k + 1) i) [
        | inl e ↦ omega (
          arith,
          get_or-insert_below xs i p 0 k (omega (arith, e)) within,
          ap (λ j. get_or (insert xs i p) j 0) e,
          get_or-insert_at xs i p 0 within,
          less k (omega (arith, e)),
        )
        | inr n ↦
            let from : i ≤ k = elim (cases_lt i (k + 1)) [ inl l ↦ omega (arith, l) | inr h ↦ absurd (n (omega (arith, h, past))) ] in
            let after = get_or-insert_above xs i p 0 k from within in
            elim (cases_eq k i) [
              | inl e ↦ omega (arith, after, ap (λ j. get_or (insert xs i p) j 0) e, get_or-insert_at xs i p 0 within, more k from inside)
              | inr m ↦
                  let above : i + 1 ≤ k = elim (cases_lt i k) [ inl l ↦ omega (arith, l) | inr h ↦ absurd (m (omega (arith, h, from))) ] in
                  let next : k - 1 + 1 ≡ k = omega (arith, above) in
                  omega (
                    arith,
                    after,
                    get_or-insert_above xs i p 0 (k - 1) (omega (arith, above)) within,
                    ap (λ j. get_or (insert xs i p) j 0) next,
                    ap (λ j. get_or xs j 0) next,
                    up (k - 1) (omega (arith, next, inside)),
                  )
            ]
      ]
    ]

-- no number of an ascending list is past a later one
pub not_past : (xs : List ℕ) → IsStrictlyIncreasing xs → (i j : ℕ) → i ≤ j → j < length xs
    → get_or xs i 0 ≤ get_or xs j 0
not_past xs up i j le low = elim (cases_lt i j) [
  | inl l ↦ omega (arith, AllPairs-from_increasing xs up i j 0 l low)
  | inr h ↦ let e : i ≡ j = omega (arith, le, h) in omega (arith, ap (λ k. get_or xs k 0) e)
]

-- the first numbers of an ascending list ascend
pub take_ascends : (n : ℕ) (xs : List ℕ) → IsStrictlyIncreasing xs → IsStrictlyIncreasing (take n xs)
take_ascends n xs up k low =
    let few = length-take n xs in
    omega (
      arith,
      get_or-take n xs k 0 (omega (arith, low, few)),
      get_or-take n xs (k + 1) 0 (omega (arith, low, few)),
      up k (omega (arith, low, few)),
    )

-- what is among the first numbers is in the list
pub take_has : (n : ℕ) (xs : List ℕ) (q : ℕ) → Contains (take n xs) q → Contains xs q
take_has n xs q c =
    let few = length-take n xs in
    (c.0, omega (arith, c.1, few), sym (get_or-take n xs c.0 q (omega (arith, c.1, few))) ∙ c.2)

-- no number is past the last one
pub last_is_greatest : (xs : List ℕ) (p q : ℕ) → IsStrictlyIncreasing xs
    → slice_get xs (length xs - 1) ≡ Some p → Contains xs q → q ≤ p
last_is_greatest xs p q up last c =
    let is = get_or_from_slice_get xs (length xs - 1) p q last in
    elim (cases_lt c.0 (length xs - 1)) [
      | inl l ↦ omega (arith, AllPairs-from_increasing xs up c.0 (length xs - 1) q l (omega (arith, l)), c.2, is)
      | inr h ↦ let e : c.0 ≡ length xs - 1 = omega (arith, h, c.1) in omega (arith, ap (λ k. get_or xs k q) e, c.2, is)
    ]

-- without a last one there is none
pub none_without_last : (xs : List ℕ) (q : ℕ) → slice_get xs (length xs - 1) ≡ None
    → Contains xs q → ⊥
none_without_last xs q none c = none-some (get_or xs (length xs - 1) q) (sym none ∙ slice_get-get_or xs (length xs - 1) q (omega (arith, c.1)))

-- the others are left when the last one is taken off
others_left : (xs : List ℕ) (p q : ℕ) → slice_get xs (length xs - 1) ≡ Some p → Contains xs q
    → Contains (take (length xs - 1) xs) q ⊎ (q ≡ p)
others_left xs p q last c = elim (cases_lt c.0 (length xs - 1)) [
  | inl l ↦ inl (c.0, omega (arith, l, length-take (length xs - 1) xs), get_or-take (length xs - 1) xs c.0 q l ∙ c.2)
  | inr h ↦
      let e : c.0 ≡ length xs - 1 = omega (arith, h, c.1) in
      inr (sym c.2 ∙ ap (λ k. get_or xs k q) e ∙ get_or_from_slice_get xs (length xs - 1) p q last)
]

-- where the last one isn't redundant, what is redundant is kept when it is taken off
pub keeps_without_last : (g : Graph) (first xs : List ℕ) (p : ℕ) → slice_get xs (length xs - 1) ≡ Some p
    → (¬ IsRedundantPlace g p) → KeepsRedundant g first xs
    → KeepsRedundant g first (take (length xs - 1) xs)
keeps_without_last g first xs p last idle kept q c = elim (kept q c) [
  | inr not ↦ inr not
  | inl d ↦ elim (others_left xs p q last d) [
    | inl left ↦ inl left
    | inr e ↦ inr (λ redundant. idle (subst (IsRedundantPlace g) e redundant))
  ]
]

-- what is redundant and was watched is still watched
pub still_watched : (g : Graph) (old new : List ℕ) → KeepsRedundant g old new → AreWatched g old
    → AreWatched g new
still_watched g old new kept watched p redundant = elim (kept p (watched p redundant)) [
  | inl c ↦ c
  | inr not ↦ absurd (not redundant)
]

-- the numbers of live places ascend
pub live_ascend : (g : Graph) → IsStrictlyIncreasing (live_places g)
live_ascend g = IsStrictlyIncreasing-filter (λ p. is_some (place_at g p)) (place_numbers g) (λ k low.
    let n = length g.places in
    let few = length-range_with_len 0 n in
    omega (arith, get_or-range_with_len 0 n k 0 (omega (arith, low, few)), get_or-range_with_len 0 n (k + 1) 0 (omega (arith, low, few))))

-- all redundant places are live
pub live_are_watched : (g : Graph) → AreWatched g (live_places g)
live_are_watched g p redundant =
    let live = redundant_live g p redundant in
    Contains-filter (λ p. is_some (place_at g p)) (place_numbers g) p live (Contains-range (length g.places) p (place_below g p live))
