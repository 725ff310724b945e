use Rattle.std.proofs.Common.{refl}
use Rattle.stg_arena.specs.ArenaView.{head_of}
use Rattle.stg_arena.proofs.Incidence.{walk_starts}
use Rattle.stg_arena.proofs.walk.Walk.of.Goals as goal

pub returns : goal.returns
returns c = walk_starts c.args.arena.now c.args.end c.args.node c.args.way (head_of c.args.arena.now c.args.end c.args.node) c.first-at.result c.first-at.ensures.arena.laid c.first-at.ensures.arena.timed c.requires.in_range c.requires.live refl c.first-at.ensures.first
