use Rattle.std.proofs.Common.{◌⊎◌, ℕ, List, subst}
use Rattle.stg_edit.specs.Walks.{taking_trans, giving_trans}
use Rattle.stg_contract.specs.Neighbours.{HasArc}
use Rattle.stg_redundant.specs.inner.Chains.{IsAmong}
use Rattle.stg_redundant.specs.Watching.{HasBesides}
use Rattle.stg_redundant.proofs.Besides.{besides_both, besides_same}
use Rattle.stg_redundant.proofs.NearTrans.{trans_at_is}
use Rattle.stg_redundant.proofs.near.list_trans_at.Goals as goal

pub returns : goal.returns
returns c =
    let g = c.args.editor.now.now in
    let p = c.args.p in
    let IsTaker : ℕ → Type 0 = λ u. IsAmong u (taking_trans g p) in
    let IsGiver : ℕ → Type 0 = λ u. IsAmong u (giving_trans g p) in
    let old = c.args.list.now.items in
    let mid = c.push_all.new.list.items in
    let now = c.push_all-2.new.list.items in
    let first = subst (λ (xs : List (ℕ × ℕ)). HasBesides (λ u. IsAmong u xs) old mid) c.takers.ensures.value c.in_ok-push_all.ensures in
    let later = subst (λ (xs : List (ℕ × ℕ)). HasBesides (λ u. IsAmong u xs) mid now) c.givers.ensures.value c.in_ok-push_all-2.ensures in
    besides_same (λ u. IsTaker u ⊎ IsGiver u) (λ u. HasArc g u p) old now (λ u. trans_at_is g p u c.takers.ensures.draft.narrow) (besides_both IsTaker IsGiver old mid now first later)
