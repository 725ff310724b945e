use Rattle.std.proofs.Common.{arith}
use Rattle.stg_net.specs.declared.limits.TheConstants.Limits.{SPEC}
use Rattle.stg_token.proofs.Passes.{fits_within}
use Rattle.stg_token.proofs.tests.fire_small.Goals as goal

pub fire-requires-clause-bounded : goal.fire-requires-clause-bounded
fire-requires-clause-bounded c p = omega (arith, fits_within SPEC c.args.net.now c.args.m.now c.args.t 1000 c.tokens-places.ensures.net c.requires.within (c.is_small.ensures.0 c.if-not-is_small.false) p)
