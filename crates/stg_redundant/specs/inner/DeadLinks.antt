-- Links from whose end levels let nothing lead on.
use Rattle.std.specs.Prelude.{◌≢◌, ◌≤◌, ◌<◌, ◌+◌, ◌-◌, ◌*◌, ◌⊎◌, ℕ, List, All, slice_index}
use Rattle.stg_redundant.specs.declared.chains.Link.{Link}
use Rattle.stg_redundant.specs.Levelled.{Levelling}

-- the link leaves no room, or the level at its end is past what the room lets fall to that of b
abbrev pub IsDead : Levelling → Link → ℕ → ℕ → Type 0
IsDead v l b room = (room ≤ l.tokens) ⊎ ((l.taker ≢ b)
    × (v.fall * (room - l.tokens - 1) + slice_index v.numbers b
    < slice_index v.numbers l.taker + v.rise))

-- each level of these transitions, and so much more, is at most so much
abbrev pub AreBelow : List ℕ → ℕ → ℕ → List (ℕ × ℕ) → Type 0
AreBelow numbers rise most trans = All (λ x. slice_index numbers x.0 + rise ≤ most) trans

-- each level of these transitions is at least so much
abbrev pub AreAbove : List ℕ → ℕ → List (ℕ × ℕ) → Type 0
AreAbove numbers least trans = All (λ x. least ≤ slice_index numbers x.0) trans
