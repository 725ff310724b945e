-- Where the places of a contracted graph come from, and what that says of sums over them.
use Rattle.std.proofs.Common.{◌≡◌, ◌≢◌, ℕ, ◌+◌, ◌-◌, ◌<◌, ◌≤◌, length, refl, arith}
use Rattle.std.specs.Bool.{⊤}
use Rattle.std.proofs.lemmas.List.{get_or_past}
use Rattle.stg_net.specs.Graph.{Graph, IsTrans, full_name_at, tokens_at, takes, gives}
use Rattle.stg_laws.specs.Secure.{IsPureOrdinary}

-- past the last place nothing is taken
pub takes-past : (g : Graph) (u p : ℕ) → length g.places ≤ p → takes g u p ≡ 0
takes-past g u p past = rw get_or_past

-- and nothing given
pub gives-past : (g : Graph) (u p : ℕ) → length g.places ≤ p → gives g u p ≡ 0
gives-past g u p past = rw get_or_past

-- what a place of the contracted graph stands for: nothing, a place that wasn't touched, or a pair of a
-- place before the transition and one after it
pub data Origin : Type 0 where
  NoPlace : Origin
  OldPlace : ℕ → Origin
  PairPlace : ℕ → ℕ → Origin

-- the sum of the numbers of the places for which it stands
abbrev pub sum_over : Origin → (ℕ → ℕ) → ℕ
sum_over NoPlace number = 0
sum_over (OldPlace p) number = number p
sum_over (PairPlace p q) number = number p + number q

-- an old place isn't touched by t, and a pair stands around it
abbrev pub IsOriginAt : Graph → ℕ → Origin → Type 0
IsOriginAt g t NoPlace = ⊤
IsOriginAt g t (OldPlace p) = (takes g t p ≡ 0) × (gives g t p ≡ 0)
IsOriginAt g t (PairPlace p q) = (0 < takes g t p) × (0 < gives g t q)

-- h is g with t contracted, whatever numbers the new places have
pub record IsContraction (g h : Graph) (t : ℕ) : Type 0 where
  pub origin : ℕ → Origin
  pub around : (r : ℕ) → IsOriginAt g t (origin r)
  pub old : (p : ℕ) → p < length g.places → takes g t p ≡ 0 → gives g t p ≡ 0
      → (r : ℕ) × (origin r ≡ OldPlace p)
  pub pair : (p q : ℕ) → 0 < takes g t p → 0 < gives g t q → (r : ℕ) × (origin r ≡ PairPlace p q)
  pub tokens : (r : ℕ) → tokens_at h r ≡ sum_over (origin r) (tokens_at g)
  pub taken : (u r : ℕ) → IsTrans g u → u ≢ t → takes h u r ≡ sum_over (origin r) (takes g u)
  pub given : (u r : ℕ) → IsTrans g u → u ≢ t → gives h u r ≡ sum_over (origin r) (gives g u)
  pub names : (u : ℕ) → u ≢ t → full_name_at h u ≡ full_name_at g u
  pub gone : (u : ℕ) → IsTrans h u → u ≢ t
  pub known : h.known ≡ g.known

-- a sum rises with its numbers
pub sum_over-mono : (o : Origin) (a b : ℕ → ℕ) → ((p : ℕ) → a p ≤ b p) → sum_over o a ≤ sum_over o b
sum_over-mono NoPlace a b less = omega arith
sum_over-mono (OldPlace p) a b less = less p
sum_over-mono (PairPlace p q) a b less = omega (arith, less p, less q)

-- a sum of sums
pub sum_over-add : (o : Origin) (a b : ℕ → ℕ) → sum_over o (λ p. a p + b p) ≡ sum_over o a + sum_over o b
sum_over-add NoPlace a b = refl
sum_over-add (OldPlace p) a b = refl
sum_over-add (PairPlace p q) a b = omega arith

-- firing acts on a sum as on its numbers
pub sum_over-fired : (o : Origin) (m a b : ℕ → ℕ) → ((p : ℕ) → a p ≤ m p)
    → sum_over o (λ p. m p - a p + b p) ≡ sum_over o m - sum_over o a + sum_over o b
sum_over-fired NoPlace m a b enough = refl
sum_over-fired (OldPlace p) m a b enough = refl
sum_over-fired (PairPlace p q) m a b enough = omega (arith, enough p, enough q)

module _ (g : Graph) (t : ℕ) (pure_ordinary : IsPureOrdinary g t) where
  -- where t gives, it takes nothing
  none_taken : (p : ℕ) → 0 < gives g t p → takes g t p ≡ 0
  none_taken p gives_p = none (takes g t p) (gives g t p) (pure_ordinary.pure p) gives_p
    where
      none : (a b : ℕ) → (0 < a → b ≡ 0) → 0 < b → a ≡ 0
      none a b pure there = grind arith

  -- t itself moves tokens within each pair alone
  pub sum_over-silent : (o : Origin) (m : ℕ → ℕ) → IsOriginAt g t o → ((p : ℕ) → takes g t p ≤ m p)
      → sum_over o (λ p. m p - takes g t p + gives g t p) ≡ sum_over o m
  sum_over-silent NoPlace m around enough = refl
  sum_over-silent (OldPlace p) m around enough = omega (arith, around.0, around.1)
  sum_over-silent (PairPlace p q) m around enough =
      omega (
        arith,
        around.0,
        around.1,
        pure_ordinary.pure p around.0,
        none_taken q around.1,
        pure_ordinary.takes_one p,
        pure_ordinary.gives_one q,
        enough p,
        enough q,
      )
