use Rattle.std.proofs.Common.{◌≡◌, ◌≤◌, ◌-◌, length, take}
use Rattle.desk_http.specs.inner.Wire.{HasRead}
use Rattle.desk_http.proofs.head.read_head.Given as goal

abbrev pub invariant-loop-spans : goal.invariant-loop-spans
invariant-loop-spans g l = record {
  read : HasRead (take l.len l.buf) (g.L.Link.seen l.initial.link).left (g.L.Link.seen l.link).left;
  inside : l.len ≤ length l.buf;
  written : (g.L.Link.seen l.link).written ≡ (g.L.Link.seen l.initial.link).written;
  broken : (g.L.Link.seen l.link).broken ≡ (g.L.Link.seen l.initial.link).broken;
  later : (g.L.Link.seen l.initial.link).faults ≤ (g.L.Link.seen l.link).faults;
}

abbrev pub decreases-loop-spans : goal.decreases-loop-spans
decreases-loop-spans g l = length l.buf - l.len
