use Rattle.std.proofs.Common.{rules, tests}
use Rattle.std.proofs.lemmas.Iterator.{YieldsList-from_slice}
use Rattle.std.proofs.lemmas.Iterator.Search.{all_from_yields_List}
use Rattle.stg_token.specs.inner.Pass.{is_held}
use Rattle.stg_token.proofs.Passes.{enabled_by_all}
use Rattle.stg_token.proofs.game.enabled.Goals as goal

pub returns : goal.returns
returns c =
    enabled_by_all c.args.net.now c.arcs.result.now c.args.m.now c.args.t c.all.result c.arcs.ensures.arcs c.arcs.ensures.net c.requires.in_range
    (all_from_yields_List (is_held c.args.m.now c.args.t) _ _ c.all.result c.all.ensures.ran (YieldsList-from_slice c.arcs.result.now cc) (λ x b q k. search (rules, tests)))
