use Rattle.std.proofs.Common.{◌≡◌, ◌==◌, ◌<◌, false, length, sym, subst, ap, ◌∙◌, arith}
use Rattle.std.specs.List.{list_any}
use Rattle.std.proofs.lemmas.Bool.{not-true, not_from_false}
use Rattle.std.proofs.lemmas.List.{get_or_default}
use Rattle.stg_net.specs.Net.{signal_at}
use Rattle.stg_net.specs.Graph.{is_among}
use Rattle.stg_edit.specs.Editing.{Editing, full_name_in}
use Rattle.stg_edit.proofs.DraftOfLive.{among_known, dummy_now}
use Rattle.stg_edit.proofs.editor.Editor.is_dummy.Goals as goal

pub index-requires : goal.index-requires
index-requires c = omega (arith, c.name-name.ensures.signal, ap (λ v. length v.signals) c.self.view_is, c.self.invariant.named.flags_long)

pub returns : goal.returns
returns c =
    let e = c.self.inside in
    let b = c.index.result.now in
    let s = c.name-name.result.signal in
    let there : s < length e.signals = omega (arith, c.name-name.ensures.signal, ap (λ v. length v.signals) c.self.view_is) in
    let is : b ≡ list_any (λ k. k == s) e.known.items = c.index.ensures ∙ get_or_default e.is_known.items s b false (omega (arith, c.self.invariant.named.flags_long)) ∙ c.self.invariant.named.flagged s in
    let P : Editing → Type 0 = λ v. is_among v.now.known (signal_at v.signals s).name ≡ b in
    let known = subst P c.self.view_is (among_known e.signals e.known.items s c.self.invariant.named.names_differ c.self.invariant.named.known_there there ∙ sym is) in
    let dummy = dummy_now c.args.self.now.now c.args.t (full_name_in c.args.self.now.signals c.name-name.result) c.name-name.ensures.name in
    (λ hidden. dummy.0 (known ∙ not-true b hidden), λ is_dummy. not_from_false b (sym known ∙ dummy.1 is_dummy))
