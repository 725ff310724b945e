use Rattle.std.proofs.Common.{length}
use Rattle.astg_lex.specs.Lexing.{text_left}
use Rattle.astg_read.specs.inner.LineResult.{IsFaultless, IsSettledIn, said_of}
use Rattle.astg_read.proofs.ReadLemmas.{Reached}
use Rattle.astg_read.proofs.read.read_lines.Given as goal

abbrev pub invariant-loop-line : goal.invariant-loop-line
invariant-loop-line l = record {
  reached : Reached l.limits l.text l.lines (said_of l.reader);
  faultless : IsFaultless l.limits (said_of l.reader);
  settled : IsSettledIn l.limits.weight l.reader;
}

abbrev pub decreases-loop-line : goal.decreases-loop-line
decreases-loop-line l = length (text_left l.lines)
