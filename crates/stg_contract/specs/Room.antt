-- What is left of what is spare after a contraction.
use Rattle.std.specs.Prelude.{ℕ}
use Rattle.stg_net.specs.Graph.{Graph}
use Rattle.stg_edit.specs.Editing.{Spare, less}
use Rattle.stg_edit.specs.Replacing.{new_places, new_arcs}

-- one edit less, and as many places and arcs as the contraction of t makes
abbrev pub spare_after : Graph → ℕ → Spare → Spare
spare_after g t spare = less spare 1 (new_places g t) (new_arcs g t)
