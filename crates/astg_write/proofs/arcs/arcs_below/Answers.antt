use Rattle.std.proofs.Common.{ltb, ltb-true, rules}
use Rattle.std.proofs.lemmas.Bool.{ltb-false}
use Rattle.std.proofs.lemmas.List.Sorted.{IsPartitionPoint-from_clause, IsPartitionedBy-ltb}
use Rattle.stg_net.specs.declared.arc.NetArc.{NetArc}
use Rattle.stg_net.proofs.Together.{places_rise}
use Rattle.astg_write.proofs.arcs.arcs_below.Goals as goal

pub returns-clause-point : goal.returns-clause-point
returns-clause-point c =
    let parted = IsPartitionedBy-ltb (λ (a : NetArc). a.place) _ c.args.place (places_rise _ c.requires) in
    let point = IsPartitionPoint-from_clause (λ (a : NetArc). ltb a.place c.args.place) _ _ c.partition_point.ensures.partitioned parted (λ a r q k. search rules) in
    (λ k d l h. ltb-true _ _ (point.0 k d l h), λ k d l h. ltb-false _ _ (point.1 k d l h))
