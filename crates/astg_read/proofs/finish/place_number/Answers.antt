use Rattle.std.proofs.Common.{ap, ◌∙◌, unwrap_or}
use Rattle.astg_read.proofs.GraphLemmas.{position-places}
use Rattle.astg_read.proofs.finish.place_number.Goals as goal

pub returns-in-Some : goal.returns-in-Some
returns-in-Some c = ap (λ o. unwrap_or o 0) (c.in-Some.ensures.index ∙ position-places c.args.places.now.keys c.args.place.now)

pub returns-in-None : goal.returns-in-None
returns-in-None c = ap (λ o. unwrap_or o 0) (c.in-None.ensures.index ∙ position-places c.args.places.now.keys c.args.place.now)
