-- The labels of transitions of a graph under work, and whose signal is theirs.
use Rattle.std.specs.Prelude.{ℕ, Bool, false, ◌&&◌, List, [], ◌∷◌, All, Option, Some, None}
use Rattle.std.specs.Str.{bytes_eq}
use Rattle.stg_net.specs.declared.signal.Signal.{Signal}
use Rattle.stg_net.specs.Net.{signal_at, is_edge}
use Rattle.stg_net.specs.Graph.{Graph, FullName, IsPlace, IsTrans, full_name_at, has_signal_of}

-- whether both are there and have one label
abbrev pub are_alike : Option FullName → Option FullName → Bool
are_alike (Some x) (Some y) = bytes_eq x.signal y.signal && is_edge x.edge y.edge
are_alike (Some x) None = false
are_alike None o = false

-- whether t is live and of this signal
abbrev pub is_of_signal : List Signal → ℕ → Graph → ℕ → Bool
is_of_signal signals s g t = has_signal_of ((signal_at signals s).name ∷ []) (full_name_at g t)

-- the walk gives live transitions
abbrev pub WalksTrans : Graph → List (ℕ × ℕ) → Type 0
WalksTrans g walk = All (λ (x : ℕ × ℕ). IsTrans g x.0) walk

-- the walk gives live places
abbrev pub WalksPlaces : Graph → List (ℕ × ℕ) → Type 0
WalksPlaces g walk = All (λ (x : ℕ × ℕ). IsPlace g x.0) walk
