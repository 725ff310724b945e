-- How large weights and tokens are once a transition is contracted.
use Rattle.std.specs.Prelude.{◌≡◌, ◌==◌, ◌+◌, ◌||◌, ◌&&◌, ℕ, Bool, true, false, not, nat_lt, List}
use Rattle.std.specs.List.{list_any}
use Rattle.stg_net.specs.declared.limits.TheConstants.Limits.{PART}
use Rattle.stg_net.specs.Graph.{Graph, tokens_at}
use Rattle.stg_edit.specs.Walks.{taken_places, given_places}
use Rattle.stg_contract.specs.inner.Weights.{weight_in, trans_round}
use Rattle.stg_contract.specs.inner.Tests.{is_left}

-- whether the weights of a number but t are together past the limit
abbrev pub is_heavy : ℕ → List (ℕ × ℕ) → ℕ × ℕ → Bool
is_heavy t ys x = not (x.0 == t) && nat_lt PART.weight (x.1 + weight_in x.0 ys)

-- whether that is so of a transition at p, with its weight at q
abbrev pub is_heavy_at : Bool → Graph → ℕ → ℕ → ℕ → Bool
is_heavy_at take g t p q = list_any (is_heavy t (trans_round take g q)) (trans_round take g p)

-- whether the tokens of the two places are together past the limit
abbrev pub has_many_tokens : Graph → ℕ → ℕ → Bool
has_many_tokens g p q = nat_lt PART.weight (tokens_at g p + tokens_at g q)

-- whether tokens or weights of the two places are together past the limit
abbrev pub is_large_pair : Graph → ℕ → ℕ → ℕ → Bool
is_large_pair g t p q =
    has_many_tokens g p q || is_heavy_at true g t p q || is_heavy_at false g t p q

-- whether that is so of p with one of these places
abbrev pub is_large_after : Graph → ℕ → ℕ → List (ℕ × ℕ) → Bool
is_large_after g t p qs = list_any (λ (y : ℕ × ℕ). is_large_pair g t p y.0) qs

-- whether that is so of a pair round t
abbrev pub is_large_round : Graph → ℕ → Bool
is_large_round g t =
    list_any (λ (x : ℕ × ℕ). is_large_after g t x.0 (given_places g t)) (taken_places g t)

-- whether the weight is past the limit
abbrev pub is_past : ℕ × ℕ → Bool
is_past x = nat_lt PART.weight x.1

-- whether a weight of the list is past the limit
abbrev pub has_past : List (ℕ × ℕ) → Bool
has_past xs = list_any is_past xs

-- whether the tokens of p or a weight at it are past the limit
abbrev pub is_large_at : Graph → ℕ → Bool
is_large_at g p =
    nat_lt PART.weight (tokens_at g p) || has_past (trans_round true g p)
    || has_past (trans_round false g p)

-- a place that is left has tokens or a weight past the limit
pub record HasLargePlace (g : Graph) (t : ℕ) : Type 0 where
  pub place : ℕ
  pub left : is_left g t place ≡ true
  pub large : is_large_at g place ≡ true
