use Rattle.std.proofs.Common.{◌-◌, length}
use Rattle.stg_edit.specs.inner.Filling.{IsFillingPlace}
use Rattle.stg_edit.proofs.build.push_place_arcs.Given as goal

abbrev pub invariant-loop-arcs : goal.invariant-loop-arcs
invariant-loop-arcs l = IsFillingPlace l.net l.place l.at l.arena

abbrev pub decreases-loop-arcs : goal.decreases-loop-arcs
decreases-loop-arcs l = length l.arcs - l.at
