use Rattle.std.proofs.Common.{◌⊎◌, ℕ, IsTrue, sym, ◌∙◌}
use Rattle.std.proofs.lemmas.Bool.{false≢true}
use Rattle.stg_redundant.specs.Watching.{IsLinkPlace, IsNewPlace, IsInReach, HasLinkAmong, HasBesides}
use Rattle.stg_redundant.proofs.Besides.{on_ok, besides_same, besides_both}
use Rattle.stg_redundant.proofs.Reaching.{reach_counting, reach_not_counting}
use Rattle.stg_redundant.proofs.watch.PlaceWatch.add_after_contraction.Goals as goal

pub returns-then-do_links_count-clause-ok : goal.returns-then-do_links_count-clause-ok
returns-then-do_links_count-clause-ok c =
    let g = c.args.editor.now.now in
    let IsOne : ℕ → Type 0 = IsNewPlace c.args.first in
    let Count : Type 0 = HasLinkAmong g IsOne × IsTrue c.args.had_other in
    let old = c.args.self.now in
    let mid = c.add_new.new.self in
    let new = c.add_links.new.self in
    on_ok (HasBesides (IsLinkPlace g) mid new) (HasBesides (IsInReach g IsOne Count) old new) (λ later.
    besides_same (λ q. IsInReach g IsOne ⊥ q ⊎ IsLinkPlace g q) (IsInReach g IsOne Count) old new (reach_counting g IsOne Count (c.do_links_count.ensures.0 c.if-do_links_count.true)) (besides_both (IsInReach g IsOne ⊥) (IsLinkPlace g) old mid new c.in_ok-add_new.ensures.ok later)) c.add_links.result c.add_links.ensures.ok

pub returns-clause-ok : goal.returns-clause-ok
returns-clause-ok c =
    let g = c.args.editor.now.now in
    let IsOne : ℕ → Type 0 = IsNewPlace c.args.first in
    let Count : Type 0 = HasLinkAmong g IsOne × IsTrue c.args.had_other in
    besides_same (IsInReach g IsOne ⊥) (IsInReach g IsOne Count) c.args.self.now c.add_new.new.self (reach_not_counting g IsOne Count (λ count. false≢true (sym c.if-do_links_count.false ∙ c.do_links_count.ensures.1 count))) c.in_ok-add_new.ensures.ok
