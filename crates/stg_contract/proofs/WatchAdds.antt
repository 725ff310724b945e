-- What is weighed for a watch stands there while more is weighed.
use Rattle.std.proofs.Common.{◌≡◌, ◌<◌, ◌≤◌, ◌+◌, ◌⊎◌, ◌↔◌, ◌∷◌, ℕ, List, Option, All, Contains, length, get_or, refl, sym, ap, ◌∙◌, subst, inl, inr, arith}
use Rattle.std.proofs.lemmas.Bool.{cases_lt}
use Rattle.std.proofs.lemmas.List.{get_or_default}
use Rattle.std.proofs.lemmas.List.Elements.{All-tail}
use Rattle.stg_net.specs.Graph.{Graph}
use Rattle.stg_arena.specs.WalkItems.{weighted}
use Rattle.stg_contract.specs.WatchedDummies.{WeighsDummies, IsWeighed}
use Rattle.stg_contract.specs.inner.Watches.{HasNumber}
use Rattle.stg_contract.proofs.WeightLists.{one_from}

-- more is weighed
pub weighs-trans : (g : Graph) (old mid new : List (Option ℕ)) → WeighsDummies g old mid → WeighsDummies g mid new → WeighsDummies g old new
weighs-trans g old mid new a b = record {
  as_long = b.as_long ∙ a.as_long;
  kept = λ t. elim (b.kept t) [
    | inr weighed ↦ inr weighed
    | inl same ↦ elim (a.kept t) [
      | inl also ↦ inl (same ∙ also)
      | inr weighed ↦ inr (weighed.0, same ∙ weighed.1)
    ]
  ];
}

-- what was weighed is weighed
pub weighed_later : (g : Graph) (old new : List (Option ℕ)) (u : ℕ) → WeighsDummies g old new → IsWeighed g old u
    → IsWeighed g new u
weighed_later g old new u a weighed d = elim (a.kept u) [
  | inl same ↦ same ∙ weighed d
  | inr now ↦ now.1
]

-- one of the numbers from the i-th on
abbrev pub IsFrom : List ℕ → ℕ → ℕ → Type 0
IsFrom xs i p = (k : ℕ) × (i ≤ k) × (k < length xs) × (get_or xs k p ≡ p)

-- it is the i-th, or one of those after it
pub from_split : (xs : List ℕ) (i x : ℕ) → i < length xs → get_or xs i x ≡ x → (p : ℕ)
    → IsFrom xs i p ↔ ((p ≡ x) ⊎ IsFrom xs (i + 1) p)
from_split xs i x low is p = (to, from)
  where
    at : get_or xs i p ≡ x
    at = get_or_default xs i p x low ∙ is

    to : IsFrom xs i p → (p ≡ x) ⊎ IsFrom xs (i + 1) p
    to h = elim (cases_lt i h.0) [
      | inl l ↦ inr (h.0, omega (arith, l), h.2, h.3)
      | inr past ↦ let e : h.0 ≡ i = omega (arith, past, h.1) in inl (sym h.3 ∙ ap (λ k. get_or xs k p) e ∙ at)
    ]

    from : (p ≡ x) ⊎ IsFrom xs (i + 1) p → IsFrom xs i p
    from (inl e) = (i, omega arith, low, at ∙ sym e)
    from (inr h) = (h.0, omega (arith, h.1), h.2, h.3)

-- at first it is any of them
pub from_all : (xs : List ℕ) (p : ℕ) → IsFrom xs 0 p ↔ Contains xs p
from_all xs p = (λ h. (h.0, h.2, h.3), λ c. (c.0, omega arith, c.1, c.2))

-- a number with a weight is one of the list
pub has_number : (n : ℕ) (w : ℕ → ℕ) (k : ℕ) → k < n → 0 < w k → HasNumber k (weighted n w)
has_number n w k low some =
    one_from (λ (x : ℕ × ℕ). x.0 ≡ k) w n 0 (record { number = k; low = omega arith; high = omega (arith, low); some = some; holds = refl })

-- what is left of a list has what all has
pub rest_have : (P : ℕ × ℕ → Type 0) (x : ℕ × ℕ) (xs rest : List (ℕ × ℕ)) → xs ≡ x ∷ rest → All P xs → All P rest
rest_have P x xs rest e all = All-tail P x rest (subst (All P) e all)
