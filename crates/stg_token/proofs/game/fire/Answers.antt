use Rattle.std.proofs.Common.{◌∙◌, arith}
use Rattle.stg_token.proofs.Passes.{arcs_inside, enabled_held, fired_at}
use Rattle.stg_token.proofs.game.fire.Goals as goal

pub take_all-requires-clause-places : goal.take_all-requires-clause-places
take_all-requires-clause-places c = arcs_inside c.args.net.now c.arcs-arcs.result.now c.args.m.now c.arcs-arcs.ensures.arcs c.arcs-arcs.ensures.net c.requires.marking

pub take_all-requires-clause-held : goal.take_all-requires-clause-held
take_all-requires-clause-held c = enabled_held c.args.net.now c.arcs-arcs.result.now c.args.m.now c.args.t c.arcs-arcs.ensures.arcs c.arcs-arcs.ensures.net c.requires.enabled

pub give_all-requires-clause-places : goal.give_all-requires-clause-places
give_all-requires-clause-places c = arcs_inside c.args.net.now c.arcs-arcs.result.now c.take_all.new.m c.arcs-arcs.ensures.arcs c.arcs-arcs.ensures.net (c.take_all.ensures.kept ∙ c.requires.marking)

pub give_all-requires-clause-bounded : goal.give_all-requires-clause-bounded
give_all-requires-clause-bounded c p = omega (arith, c.requires.bounded p, c.take_all.ensures.tokens p, fired_at c.args.net.now c.arcs-arcs.result.now c.args.m.now c.args.t p c.arcs-arcs.ensures.arcs c.arcs-arcs.ensures.net)

pub returns-clause-marking : goal.returns-clause-marking
returns-clause-marking c p = omega (arith, c.take_all.ensures.tokens p, c.give_all.ensures.tokens p, fired_at c.args.net.now c.arcs-arcs.result.now c.args.m.now c.args.t p c.arcs-arcs.ensures.arcs c.arcs-arcs.ensures.net)
