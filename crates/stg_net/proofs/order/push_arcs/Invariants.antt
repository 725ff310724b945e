use Rattle.std.proofs.Common.{◌≡◌, ◌++◌, map, take}
use Rattle.stg_net.specs.Ordered.{with_place_number}
use Rattle.stg_net.proofs.order.push_arcs.Given as goal

abbrev pub invariant-loop-arc : goal.invariant-loop-arc
invariant-loop-arc l = l.list ≡ l.initial.list ++ map (with_place_number l.place) (take l.arc-index l.arcs)
