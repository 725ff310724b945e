use Rattle.std.proofs.Common.{◌≡◌, ◌+◌, ◌≤◌, length, false, map}
use Rattle.astg_read.specs.inner.Construction.{with_all_signals}
use Rattle.astg_read.specs.Header.{same_name}
use Rattle.astg_read.specs.Lists.{has_repeat}
use Rattle.astg_read.specs.inner.Views.{signal_view}
use Rattle.astg_read.proofs.signals.Signals.add_to.Given as goal

abbrev pub invariant-loop-name : goal.invariant-loop-name
invariant-loop-name l = record {
  differ : has_repeat same_name l.builder.lists.signals (map signal_view l.name-iterator) ≡ false;
  room : length l.builder.lists.signals + length (map signal_view l.name-iterator) ≤ l.builder.limits.signals;
  so_far : with_all_signals l.builder (map signal_view l.name-iterator) ≡ with_all_signals l.initial.builder (map signal_view l.initial.name-iterator);
}
