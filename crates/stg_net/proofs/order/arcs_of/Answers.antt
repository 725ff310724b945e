use Rattle.std.proofs.Common.{ℕ, leb, rules}
use Rattle.std.proofs.Math.Dec.{ltb}
use Rattle.std.proofs.lemmas.List.{take_rest}
use Rattle.std.proofs.lemmas.List.Sorted.{IsPartitionPoint-from_clause, IsPartitionedBy-leb, IsPartitionedBy-ltb, IsNonDecreasingBy-drop, IsNonDecreasingBy-take}
use Rattle.stg_net.specs.declared.arc.NetArc.{NetArc}
use Rattle.stg_net.proofs.Together.{places_rise, arcs_together}
use Rattle.stg_net.proofs.order.arcs_of.Goals as goal

pub returns : goal.returns
returns c =
    let p = c.args.place in
    let start = c.partition_point-start.result in
    let place : NetArc → ℕ = λ a. a.place in
    let rise = places_rise c.args.arcs.now c.requires in
    let first = IsPartitionPoint-from_clause (λ a. ltb (place a) p) _ _ c.partition_point-start.ensures.partitioned (IsPartitionedBy-ltb place _ p rise) (λ a r q k. search rules) in
    let rest = IsNonDecreasingBy-take place _ _ (IsNonDecreasingBy-drop place start _ rise) in
    let last = IsPartitionPoint-from_clause (λ a. leb (place a) p) _ _ c.partition_point.ensures.partitioned (IsPartitionedBy-leb place _ p rest) (λ a r q k. search rules) in
    arcs_together c.args.arcs.now _ p start _ c.partition_point-start.ensures.bound (take_rest c.args.arcs.now start) first c.partition_point.ensures.bound last
