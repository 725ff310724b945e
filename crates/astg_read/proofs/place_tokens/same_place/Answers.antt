use Rattle.std.proofs.Common.{◌∙◌}
use Rattle.astg_read.proofs.SameLemmas.{places-same}
use Rattle.astg_read.proofs.place_tokens.same_place.Goals as goal

pub returns : goal.returns
returns c = c.eq.ensures ∙ places-same c.args.a.now c.args.b.now
