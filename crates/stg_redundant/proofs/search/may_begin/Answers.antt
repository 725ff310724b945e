use Rattle.std.proofs.Common.{◌≡◌, ◌+◌, Bool, true, false, not, sym, ◌∙◌, subst, refl, arith}
use Rattle.stg_redundant.specs.inner.Chains.{HasPath}
use Rattle.stg_redundant.proofs.LinkPaths.{none_some, one_link, link_is}
use Rattle.stg_redundant.proofs.DeadEnds.{dead_end}
use Rattle.stg_redundant.proofs.search.may_begin.Goals as goal

pub is_dead-requires-clause-taker : goal.is_dead-requires-clause-taker
is_dead-requires-clause-taker c =
    let g = c.args.editor.now.now in
    let some = sym c.link_at.ensures ∙ c.in-Some.is in
    omega (arith, (link_is g c.args.q c.in-Some.link c.requires.draft.narrow some).taker_below, c.requires.levels.long)

pub is_dead-requires-clause-to : goal.is_dead-requires-clause-to
is_dead-requires-clause-to c = omega (arith, c.requires.to, c.requires.levels.long)

pub returns-then-q-sought : goal.returns-then-q-sought
returns-then-q-sought c shut l at other =
    let g = c.args.editor.now.now in
    let s = c.args.sought in
    let k = c.in-Some.link in
    let some = sym c.link_at.ensures ∙ c.in-Some.is in
    subst (λ x. HasPath g s.place x.taker s.taker (s.tokens + 1) (x.tokens + 1) → ⊥) (one_link g c.args.q k l some at)
    (dead_end g c.args.levels.now s.place s.taker (s.tokens + 1) k c.requires.draft.narrow c.requires.levels (c.is_dead.ensures (is_true c.is_dead.result shut)))
  where
    is_true : (b : Bool) → not b ≡ false → b ≡ true
    is_true true e = refl
    is_true false e = sym e

pub returns-in-None : goal.returns-in-None
returns-in-None c shut l at other =
    let g = c.args.editor.now.now in
    let none = sym c.link_at.ensures ∙ c.in-None.is in
    absurd (none_some l (sym none ∙ at))
