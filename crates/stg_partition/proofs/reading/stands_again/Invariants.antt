use Rattle.std.proofs.Common.{◌≡◌, ◌++◌, take, drop}
use Rattle.stg_partition.specs.PartitionText.{stands_again, words_of_rows}
use Rattle.stg_partition.specs.inner.WordTexts.{texts_of, all_texts}
use Rattle.stg_partition.proofs.reading.stands_again.Given as goal

-- no word so far stood before, so what is left tells
abbrev pub invariant-loop-i : goal.invariant-loop-i
invariant-loop-i l = stands_again (words_of_rows (all_texts l.rows) ++ texts_of (take l.i l.words)) (texts_of (drop l.i l.words)) ≡ stands_again (words_of_rows (all_texts l.rows)) (texts_of l.words)
