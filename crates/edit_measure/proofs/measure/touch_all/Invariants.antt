use Rattle.edit_measure.specs.Measuring.{IsLight}
use Rattle.edit_measure.proofs.measure.touch_all.Given as goal

abbrev pub invariant-loop-t : goal.invariant-loop-t
invariant-loop-t l = IsLight l.editor.now
