use Rattle.std.proofs.Common.{◌≡◌, ◌≤◌, ◌-◌, length}
use Rattle.desk_http.specs.inner.Wire.{Gathers}
use Rattle.desk_http.proofs.body.read_body.Given as goal

abbrev pub invariant-loop-text : goal.invariant-loop-text
invariant-loop-text g l = record {
  gathers : Gathers l.initial.text l.text (g.L.Link.seen l.initial.link).left (g.L.Link.seen l.link).left;
  short : length l.text ≤ l.count;
  written : (g.L.Link.seen l.link).written ≡ (g.L.Link.seen l.initial.link).written;
  broken : (g.L.Link.seen l.link).broken ≡ (g.L.Link.seen l.initial.link).broken;
  later : (g.L.Link.seen l.initial.link).faults ≤ (g.L.Link.seen l.link).faults;
}

abbrev pub decreases-loop-text : goal.decreases-loop-text
decreases-loop-text g l = l.count - length l.text
