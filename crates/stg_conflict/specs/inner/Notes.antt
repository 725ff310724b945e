-- Notes of the signals that clash at some places.
use Rattle.std.specs.Prelude.{◌≡◌, ◌<◌, ◌-◌, ◌&&◌, ◌==◌, not, ℕ, Bool, List, Option, Some, None, length, slice_index_or, is_some, if◌then◌else◌}
use Rattle.std.specs.List.{list_any, range_with_len}
use Rattle.stg_net.specs.declared.signal.Signal.{Signal}
use Rattle.stg_net.specs.Graph.{Graph, place_at, full_name_at}
use Rattle.stg_edit.specs.Walks.{taking_trans}
use Rattle.stg_conflict.specs.inner.Labels.{are_alike, is_of_signal}

-- whether x is of another transition than u that has the label of u
abbrev pub is_like : Graph → ℕ → ℕ × ℕ → Bool
is_like g u x = not (u == x.0) && are_alike (full_name_at g u) (full_name_at g x.0)

-- whether u is of the signal, and another taker of p has its label
abbrev pub clashes_with : Graph → List Signal → ℕ → ℕ → ℕ → Bool
clashes_with g signals p s u =
    is_of_signal signals s g u && list_any (is_like g u) (taking_trans g p)

-- whether two of these takers of p are of the signal and have one label
abbrev pub clashes_among : Graph → List Signal → ℕ → List (ℕ × ℕ) → ℕ → Bool
clashes_among g signals p takers s =
    list_any (λ (x : ℕ × ℕ). clashes_with g signals p s x.0) takers

-- whether p is live and two of its takers are of the signal and have one label
abbrev pub clashes_at : Graph → List Signal → ℕ → ℕ → Bool
clashes_at g signals s p =
    is_some (place_at g p) && clashes_among g signals p (taking_trans g p) s

-- whether there is such a place from the first number on
abbrev pub clashes_from : Graph → List Signal → ℕ → ℕ → Bool
clashes_from g signals first s =
    list_any (clashes_at g signals s) (range_with_len first (length g.places - first))

-- what is noted of a signal
abbrev pub note_at : List (Option ℕ) → ℕ → Option ℕ
note_at noted s = slice_index_or noted s None

-- a note, or the step where there is none and the test is passed
abbrev pub note_or : Bool → ℕ → Option ℕ → Option ℕ
note_or test step (Some i) = Some i
note_or test step None = if test then Some step else None

-- the notes with the step at each signal that had none and passes the test
abbrev pub AreNotedFurther : (ℕ → Bool) → ℕ → List (Option ℕ) → List (Option ℕ) → Type 0
AreNotedFurther test step old new = (s : ℕ) → s < length old
    → note_at new s ≡ note_or (test s) step (note_at old s)
