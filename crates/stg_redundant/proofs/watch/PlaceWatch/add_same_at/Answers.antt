use Rattle.std.proofs.Common.{◌≡◌, ℕ, true, sym, ◌∙◌}
use Rattle.stg_redundant.specs.inner.Tests.{has_arcs_of}
use Rattle.stg_redundant.specs.Watching.{HasBesides}
use Rattle.stg_redundant.proofs.Besides.{on_ok, besides_where}
use Rattle.stg_redundant.proofs.watch.PlaceWatch.add_same_at.Goals as goal

pub returns-then-has_arcs_of-clause-ok : goal.returns-then-has_arcs_of-clause-ok
returns-then-has_arcs_of-clause-ok c =
    let Passes : ℕ → Type 0 = λ r. has_arcs_of c.args.editor.now.now c.args.p r ≡ true in
    let q = c.args.q in
    let old = c.args.self.now in
    let new = c.add.new.self in
    on_ok (HasBesides (λ r. r ≡ q) old new) (HasBesides (λ r. (r ≡ q) × Passes r) old new) (besides_where Passes q old new (sym c.has_arcs_of.ensures ∙ c.if-has_arcs_of.true)) c.add.result c.add.ensures.ok
