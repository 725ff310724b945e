-- Levels of transitions, which grow along places but for their tokens.
use Rattle.std.specs.Prelude.{◌≡◌, ◌<◌, ◌≤◌, ◌+◌, ◌*◌, ℕ, List, length, slice_index}
use Rattle.stg_net.specs.Graph.{Graph, tokens_at, takes, gives}

-- a level for each transition, and how it grows
pub record Levelling : Type 0 where
  pub numbers : List ℕ
  pub rise : ℕ
  pub fall : ℕ

-- from each transition that gives to p to each one that takes from it, the level grows by `rise`,
-- less `fall` for each token
abbrev pub GrowsAcross : Graph → Levelling → ℕ → Type 0
GrowsAcross g v p = (u t : ℕ) → 0 < gives g u p → 0 < takes g t p
    → slice_index v.numbers u + v.rise ≤ slice_index v.numbers t + v.fall * tokens_at g p

-- each transition has a level, and they grow across each place
pub record IsLevelled (g : Graph) (v : Levelling) : Type 0 where
  pub long : length v.numbers ≡ length g.trans
  pub grows : (p : ℕ) → GrowsAcross g v p
