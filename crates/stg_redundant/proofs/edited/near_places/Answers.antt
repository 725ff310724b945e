use Rattle.std.proofs.Common.{ℕ, List, [], subst, inl, inr, arith}
use Rattle.stg_edit.specs.Walks.{taken_places, given_places}
use Rattle.stg_redundant.specs.inner.Chains.{IsAmong}
use Rattle.stg_redundant.specs.Watching.{HasBesides}
use Rattle.stg_redundant.proofs.Besides.{besides_both}
use Rattle.stg_redundant.proofs.Reaching.{near_is}
use Rattle.stg_redundant.proofs.edited.near_places.Goals as goal

pub returns : goal.returns
returns c p =
    let g = c.args.editor.now.now in
    let t = c.args.t in
    let IsTaken : ℕ → Type 0 = λ q. IsAmong q (taken_places g t) in
    let IsGiven : ℕ → Type 0 = λ q. IsAmong q (given_places g t) in
    let mid = c.push_all.new.list.items in
    let now = c.push_all-2.new.list.items in
    let taken = subst (λ (xs : List (ℕ × ℕ)). HasBesides (λ q. IsAmong q xs) c.new-near.result.items mid) c.takes.ensures.value c.in_ok-push_all.ensures in
    let first = subst (λ (xs : List ℕ). HasBesides IsTaken xs mid) c.new-near.ensures.items taken in
    let later = subst (λ (xs : List (ℕ × ℕ)). HasBesides (λ q. IsAmong q xs) mid now) c.gives.ensures.value c.in_ok-push_all-2.ensures in
    let both = besides_both IsTaken IsGiven [] mid now first later p in (
      λ h. elim (both.0 h) [
        | inl none ↦ absurd (omega (arith, none.1))
        | inr near ↦ (near_is g t p).0 near
      ],
      λ near. both.1 (inr ((near_is g t p).1 near)),
    )
