use Rattle.std.proofs.Common.{◌≡◌, ◌≤◌, ◌-◌, length, take}
use Rattle.std.specs.Io.KnownBytes.{append_known}
use Rattle.desk_http.proofs.writing.write_all.Given as goal

abbrev pub invariant-loop-at : goal.invariant-loop-at
invariant-loop-at g l = record {
  written : (g.L.Link.seen l.link).written ≡ append_known (g.L.Link.seen l.initial.link).written (take l.at l.bytes);
  inside : l.at ≤ length l.bytes;
  later : (g.L.Link.seen l.initial.link).faults ≤ (g.L.Link.seen l.link).faults;
  broken : (g.L.Link.seen l.link).broken ≡ (g.L.Link.seen l.initial.link).broken;
}

abbrev pub decreases-loop-at : goal.decreases-loop-at
decreases-loop-at g l = length l.bytes - l.at
