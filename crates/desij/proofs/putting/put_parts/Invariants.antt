use Rattle.std.proofs.Common.{◌≤◌}
use Rattle.stg_net.specs.Ordered.{listed_below}
use Rattle.stg_decomp.specs.Parts.{nets_of}
use Rattle.desij.specs.Files.{PutsAll, logs_of, part_files}
use Rattle.desij.proofs.putting.put_parts.Given as goal

abbrev pub invariant-loop-k : goal.invariant-loop-k
invariant-loop-k g l = record {
  files : PutsAll (listed_below (part_files (nets_of l.made.answer.parts) (logs_of l.made.spec.net l.steps l.made.answer.parts)) l.k) (g.F.Shelf.seen l.initial.shelf) (g.F.Shelf.seen l.shelf);
  later : (g.F.Shelf.seen l.initial.shelf).faults ≤ (g.F.Shelf.seen l.shelf).faults;
}
