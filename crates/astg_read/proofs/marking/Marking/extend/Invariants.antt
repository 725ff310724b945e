use Rattle.std.proofs.Common.{◌≡◌, ◌++◌, drop}
use Rattle.astg_read.specs.inner.Views.{texts}
use Rattle.astg_read.proofs.marking.Marking.extend.Given as goal

abbrev pub invariant-loop-word : goal.invariant-loop-word
invariant-loop-word l = l.self ++ texts (drop l.word-index l.words) ≡ l.initial.self ++ texts l.words
