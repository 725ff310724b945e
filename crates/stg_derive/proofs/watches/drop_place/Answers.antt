use Rattle.std.proofs.Common.{◌≡◌, ◌∙◌, ℕ, Contains, refl, sym, ap, subst, inr}
use Rattle.stg_net.specs.Contraction.{without_place}
use Rattle.stg_edit.specs.Editing.{Editing}
use Rattle.stg_contract.specs.Neighbours.{HasArc}
use Rattle.stg_contract.specs.WatchedDummies.{WeighsDummies, IsWeighed}
use Rattle.stg_redundant.specs.FlaggedDummies.{IsFlaggedWithSame}
use Rattle.stg_derive.proofs.StillWatching.{watching-without_place}
use Rattle.stg_derive.proofs.watches.drop_place.Goals as goal

pub returns-clause-watching : goal.returns-clause-watching
returns-clause-watching c =
    let g = c.args.editor.now.now in
    let p = c.args.p in
    let new = c.add_each.new.self in
    let same : c.drop_place.new.self.now ≡ without_place g p = c.drop_place.ensures.now ∙ ap (λ (e : Editing). without_place e.now p) c.reserve.ensures.kept in
    let flagged : (u : ℕ) → HasArc g u p → IsFlaggedWithSame (without_place g p) new u = λ u arc.
    subst (λ h. IsFlaggedWithSame h new u) same
    (c.in_ok-add_each.ensures.added u (subst (λ ns. Contains ns u) (sym c.deref.ensures.value) ((c.in_ok-list_trans_at.ensures u).1 (inr arc)))) in
    let dummies = c.add_each-2.new.self in
    let weighed : (u : ℕ) → HasArc g u p → IsWeighed (without_place g p) dummies u = λ u arc.
    subst (λ h. IsWeighed h dummies u) same
    (c.in_ok-add_each-2.ensures.weighed u (subst (λ ns. Contains ns u) (sym c.deref-2.ensures.value) ((c.in_ok-list_trans_at.ensures u).1 (inr arc)))) in
    let weighs : WeighsDummies (without_place g p) c.args.watches.now.dummies dummies = subst (λ h. WeighsDummies h c.args.watches.now.dummies dummies) same c.add_each-2.ensures.kept in
    watching-without_place g p c.args.watches.now _ c.requires.calm c.requires.watching refl refl
    c.add_each.ensures.kept flagged weighs weighed
