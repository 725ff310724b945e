-- Secure contraction, which adds no run, after W. Vogler and R. Wollowski, Decomposition in
-- Asynchronous Circuit Design (2002).
use Rattle.std.specs.Prelude.{◌≡◌, ◌≢◌, ℕ, ◌<◌, ◌≤◌, ◌⊎◌}
use Rattle.stg_net.specs.Graph.{Graph, IsTrans, tokens_at, takes, gives}

-- t is pure, as it takes from no place to which it gives, and ordinary, as its arcs have weight 1
pub record IsPureOrdinary (g : Graph) (t : ℕ) : Type 0 where
  pub pure : (p : ℕ) → 0 < takes g t p → gives g t p ≡ 0
  pub takes_one : (p : ℕ) → takes g t p ≤ 1
  pub gives_one : (p : ℕ) → gives g t p ≤ 1

-- no other transition takes from a place from which t takes; so it is where t takes from nothing
abbrev pub IsType1 : Graph → ℕ → Type 0
IsType1 g t = (u p : ℕ) → IsTrans g u → u ≢ t → 0 < takes g t p → takes g u p ≡ 0

-- no other transition gives to a place to which t gives, and one of these places is empty at first
pub record IsType2 (g : Graph) (t : ℕ) : Type 0 where
  pub alone : (u q : ℕ) → IsTrans g u → u ≢ t → 0 < gives g t q → gives g u q ≡ 0
  pub empty : ℕ
  pub after : 0 < gives g t empty
  pub no_tokens : tokens_at g empty ≡ 0

-- t is of one of the two types
abbrev pub IsSecure : Graph → ℕ → Type 0
IsSecure g t = IsType1 g t ⊎ IsType2 g t
