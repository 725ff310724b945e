use Rattle.std.proofs.Common.{◌≡◌, ◌∙◌, List, ℕ, Contains, refl, sym, ap, subst, inr}
use Rattle.stg_net.specs.Graph.{Graph}
use Rattle.stg_net.specs.Contraction.{without_trans}
use Rattle.stg_edit.specs.Editing.{Editing}
use Rattle.stg_contract.specs.Neighbours.{AreNeighbours}
use Rattle.stg_contract.specs.WatchedDummies.{WeighsDummies, IsWeighed}
use Rattle.stg_redundant.specs.Watching.{IsInReach, HasLinkAmong, HasBesides}
use Rattle.stg_derive.proofs.StillWatching.{watching-without_trans}
use Rattle.stg_derive.proofs.watches.drop_dummy.Goals as goal

pub returns-clause-watching : goal.returns-clause-watching
returns-clause-watching c =
    let g = c.args.editor.now.now in
    let t = c.args.t in
    let near : List ℕ = c.deref-2.result.now in
    let old = c.args.watches.now.places in
    let new = c.add_after_deletion.new.self in
    let same : c.drop_dummy.new.self.now ≡ without_trans g t = c.drop_dummy.ensures.now ∙ ap (λ (e : Editing). without_trans e.now t) c.reserve.ensures.kept in
    let P : Graph → Type 0 = λ h. HasBesides (IsInReach h (Contains near) (HasLinkAmong h (Contains near))) old new in
    let dummies = c.add_each.new.self in
    let weighed : (u : ℕ) → AreNeighbours g t u → IsWeighed (without_trans g t) dummies u = λ u close.
    subst (λ h. IsWeighed h dummies u) same
    (c.in_ok-add_each.ensures.weighed u (subst (λ ns. Contains ns u) (sym c.deref.ensures.value) ((c.in_ok-list_trans_round.ensures u).1 (inr close)))) in
    let weighs : WeighsDummies (without_trans g t) c.args.watches.now.dummies dummies = subst (λ h. WeighsDummies h c.args.watches.now.dummies dummies) same c.add_each.ensures.kept in
    watching-without_trans g t near c.args.watches.now _ c.requires.no_redundant_place c.requires.calm c.requires.watching refl refl (λ p n. subst (λ ns. Contains ns p) (sym c.deref-2.ensures.value) ((c.in_ok-near.ensures p).1 n))
    (subst P same c.in_ok-add_after_deletion.ensures.ok) weighs weighed
