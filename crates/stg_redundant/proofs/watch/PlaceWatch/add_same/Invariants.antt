use Rattle.std.proofs.Common.{◌≡◌, true}
use Rattle.stg_redundant.specs.inner.Chains.{IsAmong}
use Rattle.stg_redundant.specs.inner.Tests.{has_arcs_of}
use Rattle.stg_redundant.specs.Watching.{HasNoneBesides}
use Rattle.stg_redundant.proofs.Besides.{HasBesidesButLeft}
use Rattle.stg_redundant.proofs.watch.PlaceWatch.add_same.Given as goal

abbrev pub invariant-loop-q : goal.invariant-loop-q
invariant-loop-q l = record {
  kept : HasNoneBesides l.self l.fn.self;
  left : HasBesidesButLeft (λ q. IsAmong q l.fn.places × (has_arcs_of l.editor.now l.p q ≡ true)) (λ q. IsAmong q l.q-iterator × (has_arcs_of l.editor.now l.p q ≡ true)) l.fn.self l.self;
}
