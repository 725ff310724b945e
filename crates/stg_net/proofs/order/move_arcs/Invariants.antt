use Rattle.std.proofs.Common.{◌≡◌}
use Rattle.stg_net.specs.Ordered.{listed_below, arcs_moved}
use Rattle.stg_net.proofs.order.move_arcs.Given as goal

abbrev pub invariant-loop-q : goal.invariant-loop-q
invariant-loop-q l = l.list ≡ listed_below (arcs_moved l.arcs l.order) l.q
