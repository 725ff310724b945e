use Rattle.std.proofs.Common.{◌≡◌, ◌++◌, slice_index}
use Rattle.stg_net.specs.Ordered.{listed_below}
use Rattle.stg_edit.specs.inner.Packing.{numbered_arcs}
use Rattle.stg_edit.proofs.compact.push_place_arcs.Given as goal

abbrev pub invariant-loop-u : goal.invariant-loop-u
invariant-loop-u l = l.list ≡ l.initial.list ++ listed_below (λ u. numbered_arcs l.editor.now l.p (slice_index l.trans u) l.q u) l.u
