use Rattle.std.proofs.Common.{◌⊎◌, ℕ, List, subst}
use Rattle.stg_edit.specs.Walks.{taken_places, given_places}
use Rattle.stg_contract.specs.Neighbours.{AreNeighbours}
use Rattle.stg_redundant.specs.inner.Flagging.{HasArcAmong}
use Rattle.stg_redundant.specs.Watching.{HasBesides}
use Rattle.stg_redundant.proofs.Besides.{besides_both, besides_same}
use Rattle.stg_redundant.proofs.NearTrans.{round_is}
use Rattle.stg_redundant.proofs.near.list_trans_round.Goals as goal

pub returns : goal.returns
returns c =
    let g = c.args.editor.now.now in
    let t = c.args.t in
    let IsTaken = HasArcAmong g (taken_places g t) in
    let IsGiven = HasArcAmong g (given_places g t) in
    let old = c.args.list.now.items in
    let mid = c.list_at_each.new.list.items in
    let now = c.list_at_each-2.new.list.items in
    let first = subst (λ (xs : List (ℕ × ℕ)). HasBesides (HasArcAmong g xs) old mid) c.takes.ensures.value c.in_ok-list_at_each.ensures in
    let later = subst (λ (xs : List (ℕ × ℕ)). HasBesides (HasArcAmong g xs) mid now) c.gives.ensures.value c.in_ok-list_at_each-2.ensures in
    besides_same (λ u. IsTaken u ⊎ IsGiven u) (AreNeighbours g t) old now (round_is g t) (besides_both IsTaken IsGiven old mid now first later)
