use Rattle.std.proofs.Common.{rules, ◌<◌, [], ◌∷◌, ◌++◌, sym, ◌∙◌, length}
use Rattle.std.proofs.lemmas.List.{map_more}
use Rattle.stg_net.specs.declared.spec.PlaceName.TheVariants.{Named}
use Rattle.stg_derive.specs.inner.Derivable.{unnamed}
use Rattle.stg_derive.proofs.worked.make_place_names.Goals as goal

pub loop-k-preserved : goal.loop-k-preserved
loop-k-preserved c =
    let below : c.loop-k._k-index < length c.args.tokens.now = search rules in
    c.in_ok-push.ensures.ok ∙ (λ j. c.loop-k.invariant j ++ Named (c.new.ensures j) ∷ [])
    ∙ sym (map_more unnamed c.args.tokens.now c.loop-k._k-index 0 below)
