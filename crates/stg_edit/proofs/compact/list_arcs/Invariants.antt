use Rattle.std.proofs.Common.{◌≡◌, slice_index}
use Rattle.stg_net.specs.Ordered.{listed_below}
use Rattle.stg_edit.specs.inner.Packing.{place_arcs}
use Rattle.stg_edit.proofs.compact.list_arcs.Given as goal

abbrev pub invariant-loop-q : goal.invariant-loop-q
invariant-loop-q l = l.list ≡ listed_below (λ q. place_arcs l.editor.now l.trans (slice_index l.places q) q) l.q
