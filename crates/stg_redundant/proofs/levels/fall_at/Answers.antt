use Rattle.std.proofs.Common.{◌≡◌, ◌<◌, ℕ, subst, inl, inr, arith}
use Rattle.std.proofs.lemmas.Bool.{cases_lt}
use Rattle.stg_net.specs.Graph.{tokens_at}
use Rattle.stg_redundant.specs.inner.DeadLinks.{AreBelow, AreAbove}
use Rattle.stg_redundant.proofs.LevelBounds.{falls_across, fall_enough}
use Rattle.stg_redundant.proofs.levels.fall_at.Goals as goal
use Rattle.stg_redundant.proofs.levels.fall_at.Goals.{else-lack-gt0-via-then-lack-gt0+else-tokens-eq0, else-lack-gt0-via-else-lack-gt0}

some_token : (n k : ℕ) → n ≡ k → (n ≡ 0 → ⊥) → 0 < k
some_token n k e some = elim (cases_lt 0 k) [ inl l ↦ l | inr none ↦ absurd (some (omega (arith, e, none))) ]

pub returns-clause-grows : goal.returns-clause-grows
returns-clause-grows c =
    let g = c.args.editor.now.now in
    let numbers = c.args.numbers.now in
    let most = c.most_of-most.result in
    let least = c.least_of.result in
    let lack = c.saturating_sub-lack.result in
    let below = subst (AreBelow numbers c.args.rise most) c.givers.ensures.value c.most_of-most.ensures in
    let above = subst (AreAbove numbers least) c.takers.ensures.value c.least_of.ensures in
    falls_across g (record { numbers = numbers; rise = c.args.rise; fall = c.max.result }) c.args.p most least c.givers.ensures.draft.narrow below above (elim c.else-lack-gt0.branch [
      | else-lack-gt0-via-then-lack-gt0+else-tokens-eq0 w ↦ fall_enough most least c.max.result (tokens_at g c.args.p) lack c.saturating_sub-lack.ensures (omega (arith, c.max.ensures)) (some_token w.tokens.result (tokens_at g c.args.p) w.tokens.ensures w.if-tokens-eq0.false)
      | else-lack-gt0-via-else-lack-gt0 w ↦ omega (arith, c.saturating_sub-lack.ensures, w.if-lack-gt0.false)
    ])
