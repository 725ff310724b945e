use Rattle.std.proofs.Common.{◌≡◌, ◌∙◌, length, ap, arith}
use Rattle.stg_steps.specs.LogText.{LogRow}
use Rattle.stg_steps.proofs.ReadSteps.{length-words}
use Rattle.stg_steps.proofs.read.take_line.Goals as goal

pub take_row-requires-clause-long : goal.take_row-requires-clause-long
take_row-requires-clause-long c = ap (λ (ws : LogRow). length ws) c.requires.words ∙ length-words c.args.net.now

pub take_row-requires-clause-few : goal.take_row-requires-clause-few
take_row-requires-clause-few c =
    let long : length c.args.words.now ≡ length c.args.net.now.trans = ap (λ (ws : LogRow). length ws) c.requires.words ∙ length-words c.args.net.now in
    omega (arith, long, c.requires.few)
