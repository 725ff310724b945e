use Rattle.std.proofs.Common.{◌≡◌, ◌+◌, ◌++◌, drop}
use Rattle.desij.specs.Printing.{part_lines}
use Rattle.desij.proofs.printing.printed_text.Given as goal

abbrev pub invariant-loop-k : goal.invariant-loop-k
invariant-loop-k l = l.text ++ part_lines (l.k + 1) (drop l.k l.answer.parts) ≡ part_lines 1 l.answer.parts
