use Rattle.std.proofs.Common.{[], ◌∷◌, ◌++◌, List, not, map, ap, sym, ◌∙◌}
use Rattle.stg_net.specs.declared.signal.Signal.{Signal}
use Rattle.astg_read.specs.Header.{same_name}
use Rattle.astg_read.specs.inner.Views.{signal_view}
use Rattle.astg_read.proofs.Keyed.{entries-new, with_new-found, with_new-new}
use Rattle.astg_read.proofs.SignalLemmas.{found-signal, missing-signal}
use Rattle.astg_read.proofs.signals.Signals.add.Goals as goal

pub returns-in-Some-clause-fresh : goal.returns-in-Some-clause-fresh
returns-in-Some-clause-fresh c =
    ap not (sym (found-signal c.args.name.now c.args.kind c.self.inside.kinds.entries c.args.self.now c.in-Some.field-0 c.self.view_is c.in-Some.ensures.index))

pub returns-in-Some-clause-ok : goal.returns-in-Some-clause-ok
returns-in-Some-clause-ok c =
    with_new-found same_name c.args.self.now (record { name = c.args.name.now; kind = c.args.kind })
    (found-signal c.args.name.now c.args.kind c.self.inside.kinds.entries c.args.self.now c.in-Some.field-0 c.self.view_is c.in-Some.ensures.index)

pub returns-in_ok-insert-in-None-clause-fresh : goal.returns-in_ok-insert-in-None-clause-fresh
returns-in_ok-insert-in-None-clause-fresh c =
    ap not (sym (missing-signal c.args.name.now c.args.kind c.self.inside.kinds.entries c.args.self.now c.self.view_is c.in-None.ensures.index))

pub returns-in_ok-insert-in-None-clause-ok : goal.returns-in_ok-insert-in-None-clause-ok
returns-in_ok-insert-in-None-clause-ok c =
    ap (map signal_view) c.in_ok-insert-in-None.ensures.entries
    ∙ entries-new _ signal_view c.self.inside.kinds c.args.name c.args.kind (sym c.in-None.ensures.index)
    ∙ ap (λ (ss : List Signal). ss ++ record { name = c.args.name.now; kind = c.args.kind } ∷ []) c.self.view_is
    ∙ with_new-new same_name c.args.self.now (record { name = c.args.name.now; kind = c.args.kind })
    (missing-signal c.args.name.now c.args.kind c.self.inside.kinds.entries c.args.self.now c.self.view_is c.in-None.ensures.index)
