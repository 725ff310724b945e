use Rattle.std.proofs.Common.{◌≡◌, ◌∙◌, ℕ, Contains, IsTrue, refl, sym, ap, subst, inr, arith}
use Rattle.stg_net.specs.Graph.{Graph}
use Rattle.stg_net.specs.Contraction.{contracted}
use Rattle.stg_edit.specs.Editing.{Editing}
use Rattle.stg_edit.specs.Replacing.{new_places, new_arcs}
use Rattle.stg_contract.specs.Neighbours.{AreNeighbours}
use Rattle.stg_contract.specs.WatchedDummies.{WeighsDummies, IsWeighed}
use Rattle.stg_redundant.specs.FlaggedDummies.{IsFlaggedWithSame}
use Rattle.stg_redundant.specs.Watching.{IsNewPlace, IsInReach, HasLinkAmong, HasBesides}
use Rattle.stg_derive.proofs.Choosing.{told_places, told_arcs}
use Rattle.stg_derive.proofs.StillWatching.{watching-contracted}
use Rattle.stg_derive.proofs.watches.contract_dummy.Goals as goal

pub contract-requires-clause-places : goal.contract-requires-clause-places
contract-requires-clause-places c =
    let g = c.args.editor.now.now in
    let t = c.args.t in
    let same : c.reserve.new.self.now ≡ g = ap (λ (e : Editing). e.now) c.reserve.ensures.kept in
    omega (arith, ap (λ h. new_places h t) same, told_places g t c.requires.first c.requires.candidate, c.cost-cost.ensures.places, c.in_ok-reserve.ensures.ok.places)

pub contract-requires-clause-arcs : goal.contract-requires-clause-arcs
contract-requires-clause-arcs c =
    let g = c.args.editor.now.now in
    let t = c.args.t in
    let same : c.reserve.new.self.now ≡ g = ap (λ (e : Editing). e.now) c.reserve.ensures.kept in
    omega (arith, ap (λ h. new_arcs h t) same, told_arcs g t c.requires.candidate, c.cost-cost.ensures.arcs, c.in_ok-reserve.ensures.ok.arcs)

pub returns-clause-watching : goal.returns-clause-watching
returns-clause-watching c =
    let g = c.args.editor.now.now in
    let t = c.args.t in
    let first = c.next_place-first.result in
    let other = c.has_other_near-had_other.result in
    let draft = c.next_place-first.ensures.draft in
    let old = c.args.watches.now.places in
    let new = c.add_after_contraction.new.self in
    let same : c.contract.new.editor.now ≡ contracted g t = c.contract.ensures.now ∙ ap (λ (e : Editing). contracted e.now t) c.reserve.ensures.kept in
    let P : Graph → Type 0 = λ h. HasBesides (IsInReach h (IsNewPlace first) (HasLinkAmong h (IsNewPlace first) × IsTrue other)) old new in
    let flags = c.add_each.new.self in
    let flagged : (u : ℕ) → AreNeighbours g t u → IsFlaggedWithSame (contracted g t) flags u = λ u near.
    subst (λ h. IsFlaggedWithSame h flags u) same
    (c.in_ok-add_each.ensures.added u (subst (λ ns. Contains ns u) (sym c.deref.ensures.value) ((c.in_ok-list_trans_round.ensures u).1 (inr near)))) in
    let dummies = c.add_each-2.new.self in
    let weighed : (u : ℕ) → AreNeighbours g t u → IsWeighed (contracted g t) dummies u = λ u near.
    subst (λ h. IsWeighed h dummies u) same
    (c.in_ok-add_each-2.ensures.weighed u (subst (λ ns. Contains ns u) (sym c.deref-2.ensures.value) ((c.in_ok-list_trans_round.ensures u).1 (inr near)))) in
    let weighs : WeighsDummies (contracted g t) c.args.watches.now.dummies dummies = subst (λ h. WeighsDummies h c.args.watches.now.dummies dummies) same c.add_each-2.ensures.kept in
    watching-contracted g t first other c.args.watches.now _ draft.narrow draft.weightless c.requires.candidate c.requires.no_redundant_place c.requires.calm c.requires.watching refl c.next_place-first.ensures.value c.has_other_near-had_other.ensures.1
    c.add_each.ensures.kept flagged (subst P same c.in_ok-add_after_contraction.ensures.ok) weighs weighed
