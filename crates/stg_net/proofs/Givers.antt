-- The least giver of each place, found arc by arc.
use Rattle.std.proofs.Common.{◌≡◌, ℕ, zero, suc, ◌<◌, ◌==◌, ◌&&◌, min, Bool, true, false, cond, List, [], ◌∷◌, ◌++◌, length, get_or, refl, sym, ap, subst, arith, eq-eqb, inl, inr, get_or-set_same, get_or-set_other, length-set}
use Rattle.std.proofs.Math.ListN.{set}
use Rattle.std.proofs.lemmas.Bool.{cases_eq, ne_eqb}
use Rattle.stg_net.specs.declared.arc.NetArc.{NetArc}
use Rattle.stg_net.specs.Ordered.{listed_below, numbers_where, numbers_by, least_giver}
use Rattle.stg_net.specs.inner.LeastGivers.{givers_after}

lesser : (b : Bool) (t u x y : ℕ) → x ≡ min t y → cond b (min u x) x ≡ min t (cond b (min u y) y)
lesser true t u x y e = omega (arith, e)
lesser false t u x y e = e

-- one more giver, before or after the others
least_giver-min : (t none p : ℕ) (arcs : List NetArc) → least_giver (min t none) p arcs ≡ min t (least_giver none p arcs)
least_giver-min t none p [] = refl
least_giver-min t none p (a ∷ arcs) =
    lesser (a.into && (a.place == p)) t a.trans (least_giver (min t none) p arcs) (least_giver none p arcs) (least_giver-min t none p arcs)

-- the least so far, after one more arc to the place q
abbrev givers_after_at : Bool → ℕ → ℕ → List ℕ → List ℕ
givers_after_at into t q keys = cond into (set keys q (min t (get_or keys q 0))) keys

length-givers_after_at : (into : Bool) (t q : ℕ) (keys : List ℕ) → length (givers_after_at into t q keys) ≡ length keys
length-givers_after_at true t q keys = length-set keys q (min t (get_or keys q 0))
length-givers_after_at false t q keys = refl

pub length-givers_after : (a : NetArc) (keys : List ℕ) → length (givers_after a keys) ≡ length keys
length-givers_after a keys = length-givers_after_at a.into a.trans a.place keys

givers_after_gives : (into : Bool) (t q : ℕ) (keys : List ℕ) (arcs : List NetArc) (p : ℕ) → q < length keys
    → least_giver (get_or (givers_after_at into t q keys) p 0) p arcs ≡ cond (into && (q == p)) (min t (least_giver (get_or keys p 0) p arcs)) (least_giver (get_or keys p 0) p arcs)
givers_after_gives false t q keys arcs p inside = refl
givers_after_gives true t q keys arcs p inside =
    let least = min t (get_or keys q 0) in
    elim (cases_eq q p) [
      | inl same ↦
          let P : ℕ → Type 0 = λ r. least_giver (get_or (set keys q least) r 0) r arcs ≡ cond (q == r) (min t (least_giver (get_or keys r 0) r arcs)) (least_giver (get_or keys r 0) r arcs) in
          subst P same (rw (get_or-set_same keys q least 0 inside, eq-eqb q q refl) (least_giver-min t (get_or keys q 0) q arcs))
      | inr other ↦ rw (get_or-set_other keys q p least 0 (λ e. other (sym e)), ne_eqb q p other)
    ]

-- what an arc does to the least so far, it does to the least of all that is left
pub givers_more : (a : NetArc) (keys : List ℕ) (arcs : List NetArc) (p : ℕ) → a.place < length keys
    → least_giver (get_or (givers_after a keys) p 0) p arcs ≡ least_giver (get_or keys p 0) p (a ∷ arcs)
givers_more a keys arcs p inside = givers_after_gives a.into a.trans a.place keys arcs p inside

-- tests that agree below the bound pass the same numbers
pub numbers_where-agree : (f g : ℕ → Bool) (n : ℕ) → ((k : ℕ) → k < n → f k ≡ g k) → numbers_where f n ≡ numbers_where g n
numbers_where-agree f g zero same = refl
numbers_where-agree f g (suc n) same =
    (λ j. numbers_where-agree f g n (λ k below. same k (omega arith)) j ++ cond (same n (omega arith) j) (n ∷ []) [])

-- keys that agree give one order
pub listed_by_keys : (f g : ℕ → ℕ) (n m : ℕ) → ((k : ℕ) → k < n → f k ≡ g k) → numbers_by f n m ≡ numbers_by g n m
listed_by_keys f g n m same = λ j. listed_below (λ t. numbers_where-agree (λ k. f k == t) (λ k. g k == t) n (λ k below. ap (λ x. x == t) (same k below)) j) m
