use Rattle.std.proofs.Common.{◌≡◌, ◌<◌, Some, All, length, map, take}
use Rattle.stg_net.specs.declared.trans.TransName.{TransName}
use Rattle.stg_net.specs.Graph.{full_name_at}
use Rattle.stg_edit.specs.Editing.{full_name_in}
use Rattle.stg_edit.proofs.compact.list_names.Given as goal

abbrev pub invariant-loop-t : goal.invariant-loop-t
invariant-loop-t l = record {
  names : map (λ x. Some (full_name_in l.signals x)) l.list ≡ map (full_name_at l.editor.now) (take l.t-index l.trans);
  there : All (λ (x : TransName). x.signal < length l.signals) l.list;
}
