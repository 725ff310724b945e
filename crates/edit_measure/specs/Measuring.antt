-- When each contraction of a graph can be made.
use Rattle.std.specs.Prelude.{ℕ}
use Rattle.stg_net.specs.Graph.{Graph}
use Rattle.stg_edit.specs.Replacing.{IsSmallPair}

-- the sums of each two places fit 32 bits
abbrev pub IsLight : Graph → Type 0
IsLight g = (x : ℕ × ℕ) → IsSmallPair g x
