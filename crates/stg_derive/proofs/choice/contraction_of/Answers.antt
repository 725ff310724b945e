use Rattle.std.proofs.Common.{◌∙◌}
use Rattle.stg_derive.proofs.Choosing.{told_places}
use Rattle.stg_derive.proofs.choice.contraction_of.Goals as goal

pub returns : goal.returns
returns c = record {
  no_redundant_place = c.requires.no_redundant_place;
  no_redundant_dummy = c.requires.no_redundant_dummy;
  cheapest = c.requires.cheapest;
  secure_by = c.secure_of.ensures;
  places_are = c.new_places.ensures ∙ told_places c.args.editor.now.now c.args.t c.requires.first c.requires.cheapest.candidate;
}
