use Rattle.std.proofs.Common.{rules, ◌≡◌, ◌≢◌, ◌∷◌, ℕ, subst, sym, ◌∙◌}
use Rattle.stg_arena.specs.Ends.{other}
use Rattle.stg_arena.specs.ArenaView.{none, end_of, cell_at}
use Rattle.stg_arena.specs.RingWalk.{IsPassing, items_left}
use Rattle.stg_arena.proofs.RingWalk.{walk_first}
use Rattle.stg_arena.proofs.walk.WalkIterator.next.Goals as goal

pub returns-clause-steps : goal.returns-clause-steps
returns-clause-steps c =
    let w = c.self.inside in
    let l = w.arena.now in
    let P : ℕ → Type 0 = λ k. IsPassing l w.end k w.way w.at c.seek-at.result (end_of (other w.end) (cell_at l.cells c.seek-at.result)) in
    let p = subst P c.self.invariant.0.key c.seek-at.ensures.passed in
    let arc : end_of (other w.end) (cell_at l.cells c.seek-at.result) ≢ none = λ e. c.if-far.false (c.far-far.ensures ∙ e) in
    let first = walk_first l w.end w.node w.way w.at c.seek-at.result (end_of (other w.end) (cell_at l.cells c.seek-at.result)) c.next-self-inside.result p arc (c.seek-at.ensures.some arc) c.self.invariant.1 c.next-self-inside.ensures in
    sym c.self.view_is ∙ first ∙ (λ i. (sym c.far-far.ensures i, sym c.weight-weight.ensures i) ∷ items_left l w.end w.node w.way c.next-self-inside.result)

pub returns-clause-goes : goal.returns-clause-goes
returns-clause-goes c =
    let w = c.self.inside in
    let l = w.arena.now in
    let P : ℕ → Type 0 = λ k. IsPassing l w.end k w.way w.at c.seek-at.result (end_of (other w.end) (cell_at l.cells c.seek-at.result)) in
    let p = subst P c.self.invariant.0.key c.seek-at.ensures.passed in
    let arc : end_of (other w.end) (cell_at l.cells c.seek-at.result) ≢ none = λ e. c.if-far.false (c.far-far.ensures ∙ e) in
    let first = walk_first l w.end w.node w.way w.at c.seek-at.result (end_of (other w.end) (cell_at l.cells c.seek-at.result)) c.next-self-inside.result p arc (c.seek-at.ensures.some arc) c.self.invariant.1 c.next-self-inside.ensures in
    let e : c.args.self.now ≡ (c.far-far.result, c.weight-weight.result) ∷ items_left l w.end w.node w.way c.next-self-inside.result = sym c.self.view_is ∙ first ∙ (λ i. (sym c.far-far.ensures i, sym c.weight-weight.ensures i) ∷ items_left l w.end w.node w.way c.next-self-inside.result) in
    rw e (search rules)
