-- Slots for parts, by the numbers of their groups.
use Rattle.std.specs.Prelude.{ℕ, Option, None, Some, List, [], ◌∷◌, slice_index_or, slice_set}
use Rattle.stg_derive.specs.declared.part.Part.{Part}
use Rattle.stg_crew.specs.declared.worker.Drawn.{Drawn}

-- what the slot of that number has
abbrev pub slot_at : List (Option Part) → ℕ → Option Part
slot_at slots k = slice_index_or slots k None

-- the slots with each of these parts in that of its group
abbrev pub placed : List (Option Part) → List Drawn → List (Option Part)
placed slots [] = slots
placed slots (d ∷ all) = placed (slice_set slots d.group (Some d.part)) all
