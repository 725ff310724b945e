-- What stands in the lists that walks give: numbers with weights, whose nodes are live.
use Rattle.std.proofs.Common.{◌≡◌, ◌<◌, ◌+◌, ℕ, zero, suc, true, false, length, is_some, Option, Some, None, All, refl, inl, inr, arith}
use Rattle.std.proofs.lemmas.Bool.{cases_lt, cases_Bool, lt-ltb, le-ltb}
use Rattle.std.proofs.lemmas.List.Elements.{All-nil, All-cons}
use Rattle.stg_net.specs.Graph.{Graph, Place, IsPlace, IsTrans, place_at, full_name_at, taken_by, given_by, takes, gives}
use Rattle.stg_arena.specs.WalkItems.{weighted_from}
use Rattle.stg_edit.specs.Walks.{taken_places, given_places, taking_trans, giving_trans}
use Rattle.stg_edit.specs.Drafts.{IsWeightlessWhereRemoved}

-- what holds of each number with a weight holds of all that a walk gives
each_from : (P : ℕ × ℕ → Type 0) (w : ℕ → ℕ) (m a : ℕ) → ((k : ℕ) → k < a + m → 0 < w k → P (k, w k)) → All P (weighted_from w a m)
each_from P w zero a holds = All-nil P
each_from P w (suc m) a holds =
    let rest = each_from P w m (a + 1) (λ k r. holds k (omega (arith, r))) in
    elim (cases_lt 0 (w a)) [
      | inl some ↦ rw (lt-ltb 0 (w a) some) (All-cons P (a, w a) (weighted_from w (a + 1) m) (holds a (omega arith) some) rest)
      | inr none ↦ rw (le-ltb 0 (w a) none) rest
    ]

-- a place from which something is taken is live
pub taken_is_place : (g : Graph) (t p : ℕ) → 0 < takes g t p → IsPlace g p
taken_is_place g t p = live (place_at g p)
  where
    live : (o : Option Place) → 0 < taken_by t o → is_some o ≡ true
    live None h = absurd (omega (arith, h))
    live (Some x) h = refl

-- a place to which something is given is live
pub given_is_place : (g : Graph) (t p : ℕ) → 0 < gives g t p → IsPlace g p
given_is_place g t p = live (place_at g p)
  where
    live : (o : Option Place) → 0 < given_by t o → is_some o ≡ true
    live None h = absurd (omega (arith, h))
    live (Some x) h = refl

-- the places from which t takes are live
pub taken_live : (g : Graph) (t : ℕ) → All (λ (x : ℕ × ℕ). IsPlace g x.0) (taken_places g t)
taken_live g t = each_from (λ (x : ℕ × ℕ). IsPlace g x.0) (takes g t) (length g.places) 0 (λ k r some. taken_is_place g t k some)

-- the places to which t gives are live
pub given_live : (g : Graph) (t : ℕ) → All (λ (x : ℕ × ℕ). IsPlace g x.0) (given_places g t)
given_live g t = each_from (λ (x : ℕ × ℕ). IsPlace g x.0) (gives g t) (length g.places) 0 (λ k r some. given_is_place g t k some)

-- a transition that has a weight is live, where those that have removed have none
weighs_live : (g : Graph) (u w : ℕ) → 0 < w → (is_some (full_name_at g u) ≡ false → w ≡ 0) → IsTrans g u
weighs_live g u w some none = elim (cases_Bool (is_some (full_name_at g u))) [ inl h ↦ h | inr h ↦ absurd (omega (arith, some, none h)) ]

-- the transitions that take from p are live
pub taking_live : (g : Graph) (p : ℕ) → IsWeightlessWhereRemoved g → All (λ (x : ℕ × ℕ). IsTrans g x.0) (taking_trans g p)
taking_live g p bare = each_from (λ (x : ℕ × ℕ). IsTrans g x.0) (λ t. takes g t p) (length g.trans) 0 (λ k r some. weighs_live g k (takes g k p) some (λ removed. (bare k p (omega (arith, r)) removed).0))

-- the transitions that give to p are live
pub giving_live : (g : Graph) (p : ℕ) → IsWeightlessWhereRemoved g → All (λ (x : ℕ × ℕ). IsTrans g x.0) (giving_trans g p)
giving_live g p bare = each_from (λ (x : ℕ × ℕ). IsTrans g x.0) (λ t. gives g t p) (length g.trans) 0 (λ k r some. weighs_live g k (gives g k p) some (λ removed. (bare k p (omega (arith, r)) removed).1))
