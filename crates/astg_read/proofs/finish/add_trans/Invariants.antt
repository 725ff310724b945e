use Rattle.std.proofs.Common.{◌≡◌, ◌+◌, ◌-◌, ◌≤◌, true, false, drop, length}
use Rattle.std.specs.List.{list_all}
use Rattle.astg_read.specs.inner.Construction.{with_all_trans}
use Rattle.astg_read.specs.Lists.{has_repeat}
use Rattle.astg_read.specs.Nodes.{same_trans}
use Rattle.astg_read.specs.inner.WellFormed.{is_trans_in}
use Rattle.astg_read.proofs.finish.add_trans.Given as goal

abbrev pub invariant-loop-name : goal.invariant-loop-name
invariant-loop-name l = record {
  there : list_all (is_trans_in (length l.builder.lists.signals)) (drop l.name-index l.trans) ≡ true;
  differ : has_repeat same_trans l.builder.lists.trans (drop l.name-index l.trans) ≡ false;
  room : length l.builder.lists.trans + (length l.trans - l.name-index) ≤ l.builder.limits.trans;
  so_far : with_all_trans l.builder (drop l.name-index l.trans) ≡ with_all_trans l.initial.builder l.trans;
}
