-- The rules of a graph line, one after the other.
use Rattle.std.specs.Prelude.{ℕ, List, not, ◌||◌, Option, None, Some, if◌then◌else◌}
use Rattle.std.specs.List.{list_all, list_any}
use Rattle.astg_read.specs.declared.rule.Rule.{Rule}
use Rattle.astg_read.specs.declared.rule.Rule.TheVariants.{BadName, UnknownSignal, NoEdge, BadArc, RepeatedArc, BadWeight}
use Rattle.astg_read.specs.Lists.{has_repeat}
use Rattle.astg_read.specs.Rows.{Row}
use Rattle.astg_read.specs.Header.{Declared}
use Rattle.astg_read.specs.Nodes.{is_node, is_unknown, is_signal}
use Rattle.astg_read.specs.Targets.{Target, is_good_group}
use Rattle.astg_read.specs.Graphs.{TextArc, same_text_arc, is_between_places, weighs_trans}

-- the rule that the words of a source and its targets break first
abbrev pub name_fault : Declared → Row → Option Rule
name_fault d words =
    if not (list_all (is_node d) words) then Some BadName
    else if list_any (is_unknown d) words then Some UnknownSignal
    else if list_any (is_signal d) words then Some NoEdge
    else None

-- the rule that new text arcs and their targets break first, after these text arcs
abbrev pub text_arc_fault : ℕ → List TextArc → List TextArc → List Target → Option Rule
text_arc_fault most old new targets =
    if list_any is_between_places new then Some BadArc
    else if has_repeat same_text_arc old new then Some RepeatedArc
    else if not (list_all (is_good_group most) targets) || list_any weighs_trans new
    then Some BadWeight
    else None
