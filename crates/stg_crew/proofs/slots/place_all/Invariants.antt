use Rattle.std.proofs.Common.{◌≡◌, ◌<◌, All, length}
use Rattle.std.specs.Vec.Iter.{into_iter_items}
use Rattle.stg_crew.specs.declared.worker.Drawn.{Drawn}
use Rattle.stg_crew.specs.inner.Slots.{placed}
use Rattle.stg_crew.proofs.slots.place_all.Given as goal

abbrev pub invariant-loop-drawn : goal.invariant-loop-drawn
invariant-loop-drawn l = record {
  placed : placed l.slots.items (into_iter_items l.drawn-iterator) ≡ placed l.initial.slots.items (into_iter_items l.initial.drawn-iterator);
  there : All (λ (d : Drawn). d.group < length l.slots.items) (into_iter_items l.drawn-iterator);
}
