use Rattle.std.proofs.Common.{ℕ, subst, sym, arith}
use Rattle.stg_arena.specs.ArenaView.{head_of}
use Rattle.stg_arena.specs.inner.Links.{next_at}
use Rattle.stg_arena.specs.RingWalk.{IsNextCell}
use Rattle.stg_arena.proofs.LinksOneSide.{head_on}
use Rattle.stg_arena.proofs.RingWalk.{next_cell, link_there}
use Rattle.stg_arena.proofs.arena.Arena.first.Goals as goal

pub bounds-links-head : goal.bounds-links-head
bounds-links-head c =
    let l = c.args.self.now in
    let end = c.args.end in
    let arena = c.links.ensures.arena in
    omega (arith, c.head-head.ensures, link_there l end c.links.result.now (head_of l end c.args.node) c.links.ensures.held (head_on end c.args.node l arena.laid arena.timed c.requires.in_range c.requires.live))

pub returns-clause-first : goal.returns-clause-first
returns-clause-first c =
    let l = c.args.self.now in
    let end = c.args.end in
    let links = c.links.result.now in
    let arena = c.links.ensures.arena in
    let P : ℕ → Type 0 = λ x. IsNextCell l end (head_of l end c.args.node) (next_at links x) in
    subst P (sym c.head-head.ensures) (next_cell l end links (head_of l end c.args.node) c.links.ensures.held (head_on end c.args.node l arena.laid arena.timed c.requires.in_range c.requires.live))
