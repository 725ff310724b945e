use Rattle.std.proofs.Common.{◌≡◌, ◌<◌, length, get_or, List, Some, sym, subst, ap, ◌∙◌, option_map, arith}
use Rattle.std.proofs.lemmas.Option.{slice_get-map, slice_get-get_or}
use Rattle.stg_net.specs.declared.trans.Edge.TheVariants.{Rise}
use Rattle.stg_net.specs.declared.trans.TransName.{TransName}
use Rattle.stg_net.specs.Graph.{IsTrans, full_name_at}
use Rattle.stg_edit.specs.Editing.{Editing, full_name_in}
use Rattle.stg_edit.specs.inner.View.{base}
use Rattle.stg_edit.proofs.DraftChanges.{trans_lives}
use Rattle.stg_edit.proofs.DraftOfLive.{name_now}
use Rattle.stg_edit.proofs.editor.Editor.name.Goals as goal

pub bounds-as_slice-t : goal.bounds-as_slice-t
bounds-as_slice-t c =
    let P : Editing → Type 0 = λ v. IsTrans v.now c.args.t in
    let live = trans_lives (base c.self.inside) c.args.t c.self.inside.arena c.self.invariant.arena.timed (subst P (sym c.self.view_is) c.requires) in
    omega (arith, live.0, c.self.invariant.names_long, ap length c.as_slice.ensures)

pub returns-clause-name : goal.returns-clause-name
returns-clause-name c =
    let d : TransName = record { signal = 0; edge = Rise; index = 0 } in
    let l = c.self.inside.arena in
    let t = c.args.t in
    let names = c.self.inside.names in
    let signals = c.self.inside.signals in
    let P : Editing → Type 0 = λ v. IsTrans v.now t in
    let live = trans_lives (base c.self.inside) t l c.self.invariant.arena.timed (subst P (sym c.self.view_is) c.requires) in
    let range : t < length names = omega (arith, live.0, c.self.invariant.names_long) in
    let Q : Editing → Type 0 = λ v. full_name_at v.now t ≡ Some (full_name_in v.signals (get_or c.as_slice.result.now t d)) in
    subst Q c.self.view_is
    (name_now (base c.self.inside) l t c.self.invariant.arena.timed live.0 live.1
    ∙ slice_get-map (full_name_in signals) names t
    ∙ ap (option_map (full_name_in signals)) (slice_get-get_or names t d range)
    ∙ ap (λ ns. Some (full_name_in signals (get_or ns t d))) (sym c.as_slice.ensures))

pub returns-clause-signal : goal.returns-clause-signal
returns-clause-signal c =
    let d : TransName = record { signal = 0; edge = Rise; index = 0 } in
    let t = c.args.t in
    let P : Editing → Type 0 = λ v. IsTrans v.now t in
    let live = trans_lives (base c.self.inside) t c.self.inside.arena c.self.invariant.arena.timed (subst P (sym c.self.view_is) c.requires) in
    let range : t < length c.self.inside.names = omega (arith, live.0, c.self.invariant.names_long) in
    omega (arith, c.self.invariant.named.in_range t d range, ap (λ (ns : List TransName). (get_or ns t d).signal) c.as_slice.ensures, ap (λ v. length v.signals) c.self.view_is)
