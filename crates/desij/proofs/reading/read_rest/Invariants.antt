use Rattle.std.proofs.Common.{◌≡◌, ◌≤◌, ◌-◌, length}
use Rattle.std.specs.Io.KnownBytes.{prepend_known}
use Rattle.desij.specs.Reading.{most_read}
use Rattle.desij.proofs.reading.read_rest.Given as goal

abbrev pub invariant-loop-piece : goal.invariant-loop-piece
invariant-loop-piece g l = record {
  told : (g.S.Source.seen l.initial.source).left ≡ prepend_known l.text (g.S.Source.seen l.source).left;
  at_most : length l.text ≤ most_read;
  later : (g.S.Source.seen l.initial.source).faults ≤ (g.S.Source.seen l.source).faults;
  selects : (g.S.Source.seen l.source).selects ≡ (g.S.Source.seen l.initial.source).selects;
  kept : (g.S.Source.seen l.source).texts ≡ (g.S.Source.seen l.initial.source).texts;
}

abbrev pub decreases-loop-piece : goal.decreases-loop-piece
decreases-loop-piece g l = most_read - length l.text
