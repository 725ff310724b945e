use Rattle.std.proofs.Common.{ℕ, subst}
use Rattle.stg_net.specs.Graph.{IsPlace}
use Rattle.stg_contract.specs.Neighbours.{HasArc}
use Rattle.stg_contract.proofs.WatchAdds.{rest_have}
use Rattle.stg_redundant.specs.inner.Chains.{IsAmong}
use Rattle.stg_redundant.specs.inner.Flagging.{HasArcAmong}
use Rattle.stg_redundant.proofs.Besides.{step_added, none_left}
use Rattle.stg_redundant.proofs.NearTrans.{arcs_split}
use Rattle.stg_redundant.proofs.near.list_at_each.Goals as goal

pub loop-p-preserved : goal.loop-p-preserved
loop-p-preserved c =
    let g = c.args.editor.now.now in
    let i = c.loop-p.invariant in
    let x : ℕ × ℕ = (c.in-Some.p, c.in-Some.field-0-1) in
    let whole = c.loop-p.p-iterator in
    let left = c.next.new.self in
    record {
      live = rest_have (λ (x : ℕ × ℕ). IsPlace g x.0) x whole left c.in-Some.ensures.steps i.live;
      left = step_added (HasArcAmong g c.args.places) (λ u. HasArc g u x.0) (HasArcAmong g whole) (HasArcAmong g left) c.args.list.now.items c.loop-p.list.items c.list_trans_at.new.list.items (arcs_split g x whole left c.in-Some.ensures.steps) c.in_ok-list_trans_at.ensures i.left;
    }

pub returns : goal.returns
returns c =
    let g = c.args.editor.now.now in
    let left = c.loop-p.p-iterator in
    none_left (HasArcAmong g c.args.places) (HasArcAmong g left) c.args.list.now.items c.loop-p.list.items (λ u h. subst (IsAmong h.place) c.in-None.ensures.steps.0 h.among) c.loop-p.invariant.left
