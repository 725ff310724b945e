use Rattle.std.proofs.Common.{◌<◌, arith, length, ap, ◌∙◌, List, ℕ, [], ◌∷◌}
use Rattle.stg_net.specs.Ordered.{listed_below}
use Rattle.stg_net.specs.declared.trans.TransName.{TransName}
use Rattle.stg_steps.specs.LogText.{word_at}
use Rattle.stg_steps.specs.inner.Reading.{place_in}
use Rattle.stg_steps.proofs.TransPlaces.{place_in-new}
use Rattle.stg_steps.proofs.words.trans_words.Goals as goal

pub push-requires : goal.push-requires
push-requires c =
    let n = c.args.net.now in
    let t = c.loop-t.t in
    let long = ap (λ (ts : List TransName). length ts) c.trans.ensures.trans in
    let there : t < length n.trans = omega (arith, long, c.loop-t-test.true) in
    ap (λ (ws : List (List ℕ)). place_in ws c.in_ok-trans_text.field-0) c.loop-t.invariant
    ∙ ap (λ (w : List ℕ). place_in (listed_below (λ u. word_at n u ∷ []) t) w) c.in_ok-trans_text.ensures.value
    ∙ place_in-new n c.trans.ensures.net c.requires t there
