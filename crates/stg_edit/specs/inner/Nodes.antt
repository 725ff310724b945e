-- What is so of a place and of a transition alike.
use Rattle.std.specs.Prelude.{ℕ, List}
use Rattle.stg_net.specs.Graph.{Graph, IsPlace, IsTrans}
use Rattle.stg_net.specs.Contraction.{without_place, without_trans}
use Rattle.stg_arena.specs.declared.end.End.{End}
use Rattle.stg_arena.specs.declared.end.End.TheVariants.{Place, Trans}
use Rattle.stg_arena.specs.declared.end.Way.{Way}
use Rattle.stg_arena.specs.declared.end.Way.TheVariants.{Take, Give}
use Rattle.stg_edit.specs.Walks.{taken_places, given_places, taking_trans, giving_trans}

-- the place, or the transition, of that number is live
abbrev pub IsNode : End → Graph → ℕ → Type 0
IsNode Place g p = IsPlace g p
IsNode Trans g t = IsTrans g t

-- the draft without that place, or that transition
abbrev pub without_node : End → Graph → ℕ → Graph
without_node Place g p = without_place g p
without_node Trans g t = without_trans g t

-- the arcs at a place, or at a transition, out of places or into them
abbrev pub walk_arcs : Graph → End → Way → ℕ → List (ℕ × ℕ)
walk_arcs g Place Take p = taking_trans g p
walk_arcs g Place Give p = giving_trans g p
walk_arcs g Trans Take t = taken_places g t
walk_arcs g Trans Give t = given_places g t
