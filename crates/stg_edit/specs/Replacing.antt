-- What the contraction of a transition makes, and when it fits.
use Rattle.std.specs.Prelude.{◌<◌, ◌+◌, ◌==◌, ◌^◌, ℕ, if◌then◌else◌, length, sum_by}
use Rattle.stg_net.specs.Graph.{Graph, tokens_at, takes, gives}
use Rattle.stg_net.specs.Contraction.{pairs_round}
use Rattle.stg_edit.specs.Walks.{arcs_below}

-- how many arcs the place has that stands for a pair once t is contracted
abbrev pub arcs_of_pair : Graph → ℕ → ℕ × ℕ → ℕ
arcs_of_pair g t x = arcs_below (λ u. if u == t then 0 else takes g u x.0 + takes g u x.1)
    (λ u. if u == t then 0 else gives g u x.0 + gives g u x.1) (length g.trans)

-- how many places the contraction of t makes
abbrev pub new_places : Graph → ℕ → ℕ
new_places g t = length (pairs_round g t)

-- how many arcs the contraction of t makes
abbrev pub new_arcs : Graph → ℕ → ℕ
new_arcs g t = sum_by (arcs_of_pair g t) (pairs_round g t)

-- the tokens of a pair, and its weights at each transition, together fit 32 bits
pub record IsSmallPair (g : Graph) (x : ℕ × ℕ) : Type 0 where
  pub tokens : tokens_at g x.0 + tokens_at g x.1 < 2 ^ 32
  pub taken : (u : ℕ) → u < length g.trans → takes g u x.0 + takes g u x.1 < 2 ^ 32
  pub given : (u : ℕ) → u < length g.trans → gives g u x.0 + gives g u x.1 < 2 ^ 32
