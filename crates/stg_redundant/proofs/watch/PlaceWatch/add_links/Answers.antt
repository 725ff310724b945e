use Rattle.std.proofs.Common.{◌≡◌, ◌≤◌, ◌+◌, ◌⊎◌, ◌↔◌, ℕ, inl, inr, arith}
use Rattle.std.proofs.lemmas.Bool.{cases_lt}
use Rattle.stg_redundant.specs.Watching.{IsLinkPlace}
use Rattle.stg_redundant.proofs.EditedPlaces.{link_live}
use Rattle.stg_redundant.proofs.RuleTests.{place_below}
use Rattle.stg_redundant.proofs.Besides.{step_added, none_left}
use Rattle.stg_redundant.proofs.watch.PlaceWatch.add_links.Goals as goal

-- a number from k on for which P holds is k or one from the next on
split_from : (P : ℕ → Type 0) (k p : ℕ) → ((k ≤ p) × P p) ↔ (((p ≡ k) × P p) ⊎ ((k + 1 ≤ p) × P p))
split_from P k p = (λ h. elim (cases_lt k p) [ inl l ↦ inr (omega (arith, l), h.1) | inr past ↦ inl (omega (arith, past, h.0), h.1) ], from)
  where
    from : ((p ≡ k) × P p) ⊎ ((k + 1 ≤ p) × P p) → (k ≤ p) × P p
    from (inl h) = (omega (arith, h.0), h.1)
    from (inr h) = (omega (arith, h.0), h.1)

pub loop-p-preserved : goal.loop-p-preserved
loop-p-preserved c =
    let g = c.args.editor.now.now in
    let k = c.loop-p.p in
    record {
      kept = λ q h. c.in_ok-add_link_at.ensures.kept q (c.loop-p.invariant.kept q h);
      left = step_added (IsLinkPlace g) (λ q. (q ≡ k) × IsLinkPlace g q) (λ q. (k ≤ q) × IsLinkPlace g q) (λ q. (k + 1 ≤ q) × IsLinkPlace g q) c.args.self.now c.loop-p.self c.add_link_at.new.self (split_from (IsLinkPlace g) k) c.in_ok-add_link_at.ensures.ok c.loop-p.invariant.left;
    }

pub returns-clause-ok : goal.returns-clause-ok
returns-clause-ok c =
    let g = c.args.editor.now.now in
    let k = c.loop-p.p in
    none_left (IsLinkPlace g) (λ q. (k ≤ q) × IsLinkPlace g q) c.args.self.now c.loop-p.self (λ q h.
    let below = place_below g q (link_live g g q h.1.giver h.1.taker h.1.link) in
    omega (arith, below, h.0, c.loop-p-test.false, c.next_place-p-end.ensures.value)) c.loop-p.invariant.left
