use Rattle.std.proofs.Common.{length}
use Rattle.astg_lex.specs.Lexing.{text_left}
use Rattle.stg_partition.specs.inner.WordTexts.{all_texts}
use Rattle.stg_partition.proofs.ReadRows.{Reached}
use Rattle.stg_partition.proofs.reading.read_lines.Given as goal

abbrev pub invariant-loop-line : goal.invariant-loop-line
invariant-loop-line l = Reached l.net.signals l.text l.lines (all_texts l.rows)

abbrev pub decreases-loop-line : goal.decreases-loop-line
decreases-loop-line l = length (text_left l.lines)
