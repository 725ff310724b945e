use Rattle.std.proofs.Common.{◌≡◌, ◌++◌, drop}
use Rattle.astg_read.specs.Header.{same_name, signals_of}
use Rattle.astg_read.specs.Lists.{has_repeat}
use Rattle.astg_read.specs.inner.Views.{texts}
use Rattle.astg_read.proofs.signals.add_names.Given as goal

abbrev pub invariant-loop-name : goal.invariant-loop-name
invariant-loop-name l = record {
  again : has_repeat same_name l.signals (signals_of l.kind (texts (drop l.name-index l.names))) ≡ has_repeat same_name l.initial.signals (signals_of l.kind (texts l.names));
  so_far : l.signals ++ signals_of l.kind (texts (drop l.name-index l.names)) ≡ l.initial.signals ++ signals_of l.kind (texts l.names);
}
