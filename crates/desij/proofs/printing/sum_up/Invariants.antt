use Rattle.std.proofs.Common.{◌≡◌, ◌≤◌, ◌+◌, ◌*◌, ◌^◌, drop}
use Rattle.desij.specs.Printing.{all_places, all_restored, all_trans}
use Rattle.desij.proofs.printing.sum_up.Given as goal

abbrev pub invariant-loop-part : goal.invariant-loop-part
invariant-loop-part l = record {
  trans : l.sums.trans + all_trans (drop l.part-index l.parts) ≡ all_trans l.parts;
  places : l.sums.places + all_places (drop l.part-index l.parts) ≡ all_places l.parts;
  restored : l.sums.restored + all_restored (drop l.part-index l.parts) ≡ all_restored l.parts;
  few_trans : l.sums.trans ≤ l.part-index * 2 ^ 64;
  few_places : l.sums.places ≤ l.part-index * 2 ^ 64;
  few_restored : l.sums.restored ≤ l.part-index * 2 ^ 64;
}
