use Rattle.std.proofs.Common.{◌∙◌}
use Rattle.stg_partition.proofs.WordTexts.{outputs_texts}
use Rattle.stg_partition.proofs.reading.are_outputs.Goals as goal

pub returns : goal.returns
returns c = c.all_name_outputs.ensures ∙ outputs_texts c.args.signals.now c.args.words.now
