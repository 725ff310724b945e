use Rattle.std.proofs.Common.{◌≡◌, ℕ, List, true, sym, ap, ◌∙◌, subst}
use Rattle.stg_edit.specs.Walks.{taken_places, given_places}
use Rattle.stg_redundant.specs.inner.Chains.{IsAmong}
use Rattle.stg_redundant.specs.inner.Tests.{first_of, has_arcs_of}
use Rattle.stg_redundant.specs.Watching.{IsInReach, HasBesides}
use Rattle.stg_redundant.proofs.Besides.{on_ok, besides_same, besides_both}
use Rattle.stg_redundant.proofs.Reaching.{IsOneOrSame, no_arc, reach_by_taker, reach_by_giver, reach_alone}
use Rattle.stg_redundant.proofs.watch.PlaceWatch.add_near.Goals as goal

pub returns-in-Some-clause-ok : goal.returns-in-Some-clause-ok
returns-in-Some-clause-ok c =
    let g = c.args.editor.now.now in
    let p = c.args.p in
    let t = c.in-Some.t in
    let old = c.args.self.now in
    let mid = c.add.new.self in
    let new = c.add_same.new.self in
    let live = c.is_place.ensures.value.0 c.if-not-is_place.false in
    let first = sym (c.first_of.ensures ∙ ap first_of c.takers.ensures.value) ∙ c.in-Some.is in
    let IsSame : List (ℕ × ℕ) → ℕ → Type 0 = λ places q. IsAmong q places × (has_arcs_of g p q ≡ true) in
    let Reached : ℕ → Type 0 = IsInReach g (λ r. r ≡ p) ⊥ in
    on_ok (HasBesides (IsSame c.takes.result) mid new) (HasBesides Reached old new) (λ later.
    let among = subst (λ (places : List (ℕ × ℕ)). HasBesides (IsSame places) mid new) c.takes.ensures.value later in
    let both = besides_both (λ q. q ≡ p) (IsSame (taken_places g t)) old mid new c.in_ok-add.ensures.ok among in
    besides_same (IsOneOrSame g p (taken_places g t)) Reached old new (λ q. let same = reach_by_taker g p c.is_place.ensures.draft.narrow live t first q in (same.1, same.0)) both) c.add_same.result c.add_same.ensures.ok

pub returns-in-Some-first_of-clause-ok : goal.returns-in-Some-first_of-clause-ok
returns-in-Some-first_of-clause-ok c =
    let g = c.args.editor.now.now in
    let p = c.args.p in
    let t = c.in-Some-first_of.t in
    let old = c.args.self.now in
    let mid = c.add.new.self in
    let new = c.add_same-in-Some-first_of.new.self in
    let live = c.is_place.ensures.value.0 c.if-not-is_place.false in
    let first = sym (c.first_of-2.ensures ∙ ap first_of c.givers.ensures.value) ∙ c.in-Some-first_of.is in
    let IsSame : List (ℕ × ℕ) → ℕ → Type 0 = λ places q. IsAmong q places × (has_arcs_of g p q ≡ true) in
    let Reached : ℕ → Type 0 = IsInReach g (λ r. r ≡ p) ⊥ in
    on_ok (HasBesides (IsSame c.gives.result) mid new) (HasBesides Reached old new) (λ later.
    let among = subst (λ (places : List (ℕ × ℕ)). HasBesides (IsSame places) mid new) c.gives.ensures.value later in
    let both = besides_both (λ q. q ≡ p) (IsSame (given_places g t)) old mid new c.in_ok-add.ensures.ok among in
    besides_same (IsOneOrSame g p (given_places g t)) Reached old new (λ q. let same = reach_by_giver g p c.is_place.ensures.draft.narrow live t first q in (same.1, same.0)) both) c.add_same-in-Some-first_of.result c.add_same-in-Some-first_of.ensures.ok

pub returns-in-None-first_of-clause-ok : goal.returns-in-None-first_of-clause-ok
returns-in-None-first_of-clause-ok c =
    let g = c.args.editor.now.now in
    let p = c.args.p in
    let live = c.is_place.ensures.value.0 c.if-not-is_place.false in
    let no_taker = sym (c.first_of.ensures ∙ ap first_of c.takers.ensures.value) ∙ c.in-None.is in
    let no_giver = sym (c.first_of-2.ensures ∙ ap first_of c.givers.ensures.value) ∙ c.in-None-first_of.is in
    let narrow = c.is_place.ensures.draft.narrow in
    besides_same (λ q. q ≡ p) (IsInReach g (λ r. r ≡ p) ⊥) c.args.self.now c.add.new.self (λ q. let same = reach_alone g p narrow live (no_arc g p narrow no_taker no_giver) q in (same.1, same.0)) c.in_ok-add.ensures.ok
