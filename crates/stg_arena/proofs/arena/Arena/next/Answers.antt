use Rattle.stg_arena.proofs.RingWalk.{next_cell, link_there}
use Rattle.stg_arena.proofs.arena.Arena.next.Goals as goal

pub bounds-links-c : goal.bounds-links-c
bounds-links-c c = link_there c.args.self.now c.args.end c.links.result.now c.args.c c.links.ensures.held c.requires

pub returns : goal.returns
returns c = next_cell c.args.self.now c.args.end c.links.result.now c.args.c c.links.ensures.held c.requires
