use Rattle.std.proofs.Common.{arith}
use Rattle.std.proofs.lemmas.Option.{unwrap_or-slice_get}
use Rattle.stg_token.proofs.game.tokens.Goals as goal

pub returns : goal.returns
returns c = grind (arith, unwrap_or-slice_get, c.unwrap_or.ensures, c.copied.ensures, c.get.ensures.value)
