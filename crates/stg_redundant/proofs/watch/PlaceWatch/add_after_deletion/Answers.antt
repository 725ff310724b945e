use Rattle.std.proofs.Common.{◌⊎◌, ℕ, Contains, sym, ◌∙◌}
use Rattle.std.proofs.lemmas.Bool.{false≢true}
use Rattle.stg_redundant.specs.Watching.{IsLinkPlace, IsInReach, HasLinkAmong, HasBesides}
use Rattle.stg_redundant.proofs.Besides.{on_ok, besides_same, besides_both}
use Rattle.stg_redundant.proofs.Reaching.{reach_counting, reach_not_counting}
use Rattle.stg_redundant.proofs.watch.PlaceWatch.add_after_deletion.Goals as goal

pub returns-then-has_link-clause-ok : goal.returns-then-has_link-clause-ok
returns-then-has_link-clause-ok c =
    let g = c.args.editor.now.now in
    let IsOne : ℕ → Type 0 = Contains c.args.near.now in
    let Count : Type 0 = HasLinkAmong g IsOne in
    let old = c.args.self.now in
    let mid = c.add_each.new.self in
    let new = c.add_links.new.self in
    on_ok (HasBesides (IsLinkPlace g) mid new) (HasBesides (IsInReach g IsOne Count) old new) (λ later.
    besides_same (λ q. IsInReach g IsOne ⊥ q ⊎ IsLinkPlace g q) (IsInReach g IsOne Count) old new (reach_counting g IsOne Count (c.has_link.ensures.0 c.if-has_link.true)) (besides_both (IsInReach g IsOne ⊥) (IsLinkPlace g) old mid new c.in_ok-add_each.ensures.ok later)) c.add_links.result c.add_links.ensures.ok

pub returns-clause-ok : goal.returns-clause-ok
returns-clause-ok c =
    let g = c.args.editor.now.now in
    let IsOne : ℕ → Type 0 = Contains c.args.near.now in
    let Count : Type 0 = HasLinkAmong g IsOne in
    besides_same (IsInReach g IsOne ⊥) (IsInReach g IsOne Count) c.args.self.now c.add_each.new.self (reach_not_counting g IsOne Count (λ count. false≢true (sym c.if-has_link.false ∙ c.has_link.ensures.1 count))) c.in_ok-add_each.ensures.ok
