use Rattle.astg_read.specs.inner.PlaceTokens.{tokens_for}
use Rattle.astg_read.specs.inner.Views.{place_tokens_views}
use Rattle.astg_read.proofs.ConstructionLemmas.{spec-from}
use Rattle.astg_read.proofs.finish.build.Goals as goal

pub new-requires : goal.new-requires
new-requires c =
    let l = c.args.limits.now in
    spec-from l l.weight c.args.signals c.args.graph (tokens_for (place_tokens_views c.args.place_tokens.now)) _ _ c.requires.limits c.requires.faultless.well_formed c.in_ok-net.ensures.within c.in_ok-net.ensures.built
