use Rattle.std.proofs.Common.{◌↔◌, Bool, IsTrue, ap, sym, ◌∙◌}
use Rattle.std.proofs.lemmas.Result.{IfOk-weaker}
use Rattle.stg_laws.specs.RedundantPlaces.{IsShortcut}
use Rattle.std.proofs.lemmas.Bool.{false≢true}
use Rattle.stg_redundant.specs.inner.Chains.{link_at, HasPath}
use Rattle.stg_redundant.proofs.LinkPaths.{link_place, loop_no_shortcut, shortcut_is, shortcut_there, no_link_no_shortcut}
use Rattle.stg_redundant.proofs.places.is_shortcut.Goals as goal

pub returns-in-None-clause-value : goal.returns-in-None-clause-value
returns-in-None-clause-value c =
    let g = c.args.editor.now.now in
    let none = sym c.link_at.ensures ∙ c.in-None.is in
    (λ f. absurd (false≢true f), λ s. absurd (no_link_no_shortcut g c.args.p c.requires.draft.narrow none s))

pub returns-then-link-clause-value : goal.returns-then-link-clause-value
returns-then-link-clause-value c =
    let g = c.args.editor.now.now in
    let some = sym c.link_at.ensures ∙ c.in-Some.is in
    (λ f. absurd (false≢true f), λ s. absurd (loop_no_shortcut g c.args.p c.in-Some.link c.requires.draft.narrow some c.if-link.true s))

pub has_chain-requires-clause-sought : goal.has_chain-requires-clause-sought
has_chain-requires-clause-sought c =
    let g = c.args.editor.now.now in
    let l = c.in-Some.link in
    let some = sym c.link_at.ensures ∙ c.in-Some.is in
    ap (link_at g) (link_place g c.args.p l some) ∙ some

pub returns-else-link-clause-value : goal.returns-else-link-clause-value
returns-else-link-clause-value c =
    let g = c.args.editor.now.now in
    let l = c.in-Some.link in
    let some = sym c.link_at.ensures ∙ c.in-Some.is in
    let P : Bool → Type 0 = λ found. IsTrue found ↔ HasPath g l.place l.giver l.taker l.tokens 0 in
    let Q : Bool → Type 0 = λ found. IsTrue found ↔ IsShortcut g c.args.p in
    IfOk-weaker c.has_chain.result P Q (λ found w. (λ yes. shortcut_is g c.args.p l c.requires.draft.narrow some c.if-link.false (w.0 yes), λ s. w.1 (shortcut_there g c.args.p l c.requires.draft.narrow some s))) c.has_chain.ensures.value
