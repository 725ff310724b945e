-- New places, one for each of a list of pairs.
use Rattle.std.specs.Prelude.{◌^◌, ◌≡◌, ◌<◌, ◌≤◌, ◌+◌, ◌==◌, [], ◌∷◌, ℕ, nat_lt, List, map, flat_map, length, slice_index_or, sum_by, if◌then◌else◌}
use Rattle.stg_arena.specs.declared.end.Way.{Way}
use Rattle.stg_arena.specs.declared.end.End.TheVariants.{Place, Trans}
use Rattle.stg_arena.specs.declared.end.Way.TheVariants.{Take, Give}
use Rattle.stg_arena.specs.ArenaView.{Layout, none, cell_at, spot_at, removed_at, IsArena}
use Rattle.stg_arena.specs.RingWalk.{cell_weight}
use Rattle.stg_arena.specs.Incidence.{weight, weight_along}
use Rattle.stg_arena.specs.WalkItems.{weighted}
use Rattle.stg_arena.specs.Appends.{IsAppended}
use Rattle.stg_edit.specs.inner.RowMerge.{merged_arcs}

-- the pair of that number
abbrev pub pair_at : List (ℕ × ℕ) → ℕ → ℕ × ℕ
pair_at ps k = slice_index_or ps k (0, 0)

-- how many arcs the place for a pair has
abbrev pub pair_arcs : Layout → ℕ → ℕ × ℕ → ℕ
pair_arcs l t x = merged_arcs l t x.0 x.1 (length l.trans)

-- both places live, and their tokens and weights together fit 32 bits
pub record IsPairFit (l : Layout) (x : ℕ × ℕ) : Type 0 where
  pub first : x.0 < length l.places
  pub second : x.1 < length l.places
  pub live_first : removed_at l Place x.0 ≡ none
  pub live_second : removed_at l Place x.1 ≡ none
  pub tokens : (spot_at l.places x.0).tokens + (spot_at l.places x.1).tokens < 2 ^ 32
  pub sums : (way : Way) (v : ℕ) → v < length l.trans → removed_at l Trans v ≡ none
      → weight l.cells way x.0 v + weight l.cells way x.1 v < 2 ^ 32

-- the pairs fit, and there is room for their places
pub record CanMake (t : ℕ) (ps : List (ℕ × ℕ)) (l : Layout) : Type 0 where
  pub arena : IsArena l
  pub fit : (k : ℕ) → k < length ps → IsPairFit l (pair_at ps k)
  pub places : length l.places + length ps ≤ l.rooms.places
  pub cells : length l.cells + length ps + sum_by (pair_arcs l t) ps ≤ l.rooms.cells

-- the place n of l' stands for a pair of l
pub record IsMadeOf (t : ℕ) (l l' : Layout) (n : ℕ) (x : ℕ × ℕ) : Type 0 where
  pub tokens : (spot_at l'.places n).tokens
      ≡ (spot_at l.places x.0).tokens + (spot_at l.places x.1).tokens
  pub sums : (way : Way) (v : ℕ) → v < none → removed_at l Trans v ≡ none
      → weight l'.cells way n v
      ≡ (if v == t then 0 else weight l.cells way x.0 v + weight l.cells way x.1 v)

-- the new places stand for the pairs, in order
pub record IsMade (t : ℕ) (ps : List (ℕ × ℕ)) (l l' : Layout) : Type 0 where
  pub arena : IsArena l'
  pub appended : IsAppended t (length l.places) l l'
  pub places : length l'.places ≡ length l.places + length ps
  pub each : (k : ℕ) → k < length ps → IsMadeOf t l l' (length l.places + k) (pair_at ps k)
  pub cells : length l'.cells ≤ length l.cells + length ps + sum_by (pair_arcs l t) ps

-- the places after t, with the weights
abbrev pub after_at : Layout → ℕ → List (ℕ × ℕ)
after_at l t = weighted (length l.places) (weight_along l Trans Give t)

-- the places before t, with the weights
abbrev pub before_at : Layout → ℕ → List (ℕ × ℕ)
before_at l t = weighted (length l.places) (weight_along l Trans Take t)

-- p with each of the places
abbrev pub pairs_with : ℕ → List (ℕ × ℕ) → List (ℕ × ℕ)
pairs_with p places = map (λ (x : ℕ × ℕ). (p, x.0)) places

-- each of the places with each place after t
abbrev pub pairs_from : Layout → ℕ → List (ℕ × ℕ) → List (ℕ × ℕ)
pairs_from l t places = flat_map (λ (x : ℕ × ℕ). pairs_with x.0 (after_at l t)) places

-- the pair of p and the place at the cell y, where t gives to it
abbrev pub pairs_of_cell : Layout → ℕ → ℕ → List (ℕ × ℕ)
pairs_of_cell l p y = if nat_lt 0 (cell_weight Give (cell_at l.cells y)) then
    (p, (cell_at l.cells y).place) ∷ [] else []

-- the place at the cell x, where t takes from it, with each place after t
abbrev pub pairs_from_cell : Layout → ℕ → ℕ → List (ℕ × ℕ)
pairs_from_cell l t x = if nat_lt 0 (cell_weight Take (cell_at l.cells x)) then pairs_with
    (cell_at l.cells x).place (after_at l t) else []
