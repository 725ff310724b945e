use Rattle.std.proofs.Common.{◌≡◌, ◌==◌, ◌<◌, false, length, sym, subst, ap, ◌∙◌, arith}
use Rattle.std.specs.List.{list_any}
use Rattle.std.proofs.lemmas.List.{get_or_default}
use Rattle.stg_net.specs.Net.{signal_at}
use Rattle.stg_net.specs.Graph.{is_among}
use Rattle.stg_edit.specs.Editing.{Editing}
use Rattle.stg_edit.proofs.DraftOfLive.{among_known}
use Rattle.stg_edit.proofs.editor.Editor.is_known.Goals as goal

pub index-requires : goal.index-requires
index-requires c = omega (arith, c.requires, ap (λ v. length v.signals) c.self.view_is, c.self.invariant.named.flags_long)

pub returns : goal.returns
returns c =
    let e = c.self.inside in
    let b = c.index.result.now in
    let s = c.args.s in
    let there : s < length e.signals = omega (arith, c.requires, ap (λ v. length v.signals) c.self.view_is) in
    let is : b ≡ list_any (λ k. k == s) e.known.items = c.index.ensures ∙ get_or_default e.is_known.items s b false (omega (arith, c.self.invariant.named.flags_long)) ∙ c.self.invariant.named.flagged s in
    let P : Editing → Type 0 = λ v. b ≡ is_among v.now.known (signal_at v.signals s).name in
    subst P c.self.view_is (is ∙ sym (among_known e.signals e.known.items s c.self.invariant.named.names_differ c.self.invariant.named.known_there there))
