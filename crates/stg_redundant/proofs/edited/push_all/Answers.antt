use Rattle.std.proofs.Common.{◌≡◌, ℕ, sym, subst}
use Rattle.stg_redundant.specs.inner.Chains.{IsAmong}
use Rattle.stg_redundant.specs.Watching.{HasBesides}
use Rattle.stg_redundant.proofs.Besides.{step_added, none_left, push_has, among_split}
use Rattle.stg_redundant.proofs.edited.push_all.Goals as goal

pub loop-p-preserved : goal.loop-p-preserved
loop-p-preserved c =
    let p = c.in-Some.p in
    let x : ℕ × ℕ = (p, c.in-Some.field-0-1) in
    let whole = c.loop-p.p-iterator in
    let left = c.next.new.self in
    let now = c.loop-p.list.items in
    let added = subst (HasBesides (λ q. q ≡ p) now) (sym c.in_ok-push.ensures.items) (push_has now p) in
    step_added (λ q. IsAmong q c.args.places) (λ q. q ≡ p) (λ q. IsAmong q whole) (λ q. IsAmong q left) c.args.list.now.items now c.push.new.self.items (among_split x whole left c.in-Some.ensures.steps) added c.loop-p.invariant

pub returns : goal.returns
returns c =
    let left = c.loop-p.p-iterator in
    none_left (λ q. IsAmong q c.args.places) (λ q. IsAmong q left) c.args.list.now.items c.loop-p.list.items (λ q h. subst (IsAmong q) c.in-None.ensures.steps.0 h) c.loop-p.invariant
