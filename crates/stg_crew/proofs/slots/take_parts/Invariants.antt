use Rattle.std.proofs.Common.{◌≡◌, ◌++◌, Some, IsSome, All, map}
use Rattle.std.specs.Vec.Iter.{into_iter_items}
use Rattle.stg_derive.specs.declared.part.Part.{Part}
use Rattle.stg_crew.proofs.slots.take_parts.Given as goal

abbrev pub invariant-loop-slot : goal.invariant-loop-slot
invariant-loop-slot l = record {
  parts : map (λ (part : Part). Some part) l.parts ++ into_iter_items l.slot-iterator ≡ into_iter_items l.initial.slot-iterator;
  full : All IsSome (into_iter_items l.slot-iterator);
}
