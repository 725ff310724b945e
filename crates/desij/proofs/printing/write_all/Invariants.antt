use Rattle.std.proofs.Common.{◌≡◌, ◌≤◌, ◌-◌, length, take}
use Rattle.std.specs.Io.KnownBytes.{append_known}
use Rattle.desij.proofs.printing.write_all.Given as goal

abbrev pub invariant-loop-at : goal.invariant-loop-at
invariant-loop-at g l = record {
  written : (g.K.Sink.seen l.sink).written ≡ append_known (g.K.Sink.seen l.initial.sink).written (take l.at l.bytes);
  inside : l.at ≤ length l.bytes;
  later : (g.K.Sink.seen l.initial.sink).faults ≤ (g.K.Sink.seen l.sink).faults;
}

abbrev pub decreases-loop-at : goal.decreases-loop-at
decreases-loop-at g l = length l.bytes - l.at
