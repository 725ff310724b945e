use Rattle.std.proofs.Common.{◌≡◌, ℕ, List, Some, ap, sym, subst, ◌∙◌, arith}
use Rattle.stg_net.specs.Ordered.{new_number}
use Rattle.stg_edit.specs.Compacted.{known_signals}
use Rattle.stg_edit.specs.Editing.{full_name_in}
use Rattle.stg_edit.specs.inner.Packing.{HaveNamesOf}
use Rattle.stg_edit.proofs.Compacting.{new_there, renamed}
use Rattle.stg_edit.proofs.compact.rename.Goals as goal

pub overflow_cast-signal : goal.overflow_cast-signal
overflow_cast-signal c =
    let e = c.args.editor.now in
    let is = subst (λ (xs : List ℕ). HaveNamesOf e.signals xs c.args.signals.now) c.requires.kept c.requires.names in
    omega (arith, c.renumber-signal.ensures.value, ap (λ xs. new_number xs c.name-name.result.signal) c.requires.kept, new_there e.signals e.now c.args.signals.now c.name-name.result c.args.t is c.name-name.ensures.signal c.name-name.ensures.name c.requires.known, c.requires.bounded)

pub returns-clause-name : goal.returns-clause-name
returns-clause-name c =
    let e = c.args.editor.now in
    let name = c.name-name.result in
    let is = subst (λ (xs : List ℕ). HaveNamesOf e.signals xs c.args.signals.now) c.requires.kept c.requires.names in
    let number : c.renumber-signal.result ≡ new_number (known_signals e.signals e.now) name.signal = c.renumber-signal.ensures.value ∙ ap (λ xs. new_number xs name.signal) c.requires.kept in
    renamed e.signals e.now c.args.signals.now name c.args.t is c.name-name.ensures.signal c.name-name.ensures.name c.requires.known
    ∙ (λ i. Some (full_name_in c.args.signals.now (record { signal = sym number i; edge = name.edge; index = name.index })))

pub returns-clause-signal : goal.returns-clause-signal
returns-clause-signal c =
    let e = c.args.editor.now in
    let is = subst (λ (xs : List ℕ). HaveNamesOf e.signals xs c.args.signals.now) c.requires.kept c.requires.names in
    omega (arith, c.renumber-signal.ensures.value, ap (λ xs. new_number xs c.name-name.result.signal) c.requires.kept, new_there e.signals e.now c.args.signals.now c.name-name.result c.args.t is c.name-name.ensures.signal c.name-name.ensures.name c.requires.known)
