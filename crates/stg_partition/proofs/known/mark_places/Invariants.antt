use Rattle.std.proofs.Common.{◌≡◌, length, take}
use Rattle.std.specs.List.{list_any}
use Rattle.stg_partition.specs.inner.Marked.{takes_by_arc, AreMarkedFurther}
use Rattle.stg_partition.proofs.known.mark_places.Given as goal

-- the marks of the arcs so far
abbrev pub invariant-loop-arc : goal.invariant-loop-arc
invariant-loop-arc l = record {
  long : length l.marks ≡ length l.initial.marks;
  marked : AreMarkedFurther (λ p. list_any (takes_by_arc l.net l.own p) (take l.arc-index l.arc-items)) l.initial.marks l.marks;
}
