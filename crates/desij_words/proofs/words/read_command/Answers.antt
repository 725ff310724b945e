use Rattle.std.proofs.Common.{◌∙◌, sym, ap, Some, None}
use Rattle.std.specs.Option.{option_map}
use Rattle.clap.specs.Words.{found_of}
use Rattle.desij_words.specs.declared.words.form.Action.TheVariants as action
use Rattle.desij_words.specs.Words.{command_of}
use Rattle.desij_words.specs.Commands.{command_told}
use Rattle.desij_words.specs.Matches.{HasValues, IsDecompose, IsMeasure}
use Rattle.desij_words.proofs.CommandLemmas.{found-asked, read-as, some-asked, told-within}
use Rattle.desij_words.proofs.words.read_command.Goals as goal

pub decompose_matches-requires : goal.decompose_matches-requires
decompose_matches-requires c =
    found-asked c.args.words.now c.action_of.result (Some action.Decompose) c.action_of.ensures (c.in-Some-Decompose.is ∙ ap Some c.in-Some-Decompose.field-0-is)

pub measure_matches-requires : goal.measure_matches-requires
measure_matches-requires c =
    found-asked c.args.words.now c.action_of.result (Some action.Measure) c.action_of.ensures (c.in-Some-Measure.is ∙ ap Some c.in-Some-Measure.field-0-is)

pub returns-in-None-clause-value : goal.returns-in-None-clause-value
returns-in-None-clause-value c = sym (found-asked c.args.words.now c.action_of.result None c.action_of.ensures c.in-None.is)

pub returns-in-Ok-clause-value : goal.returns-in-Ok-clause-value
returns-in-Ok-clause-value c =
    read-as (command_of c.args.words.now) (option_map command_told c.decompose_command.result) IsDecompose (HasValues (found_of c.in-Ok.matches))
    (found-asked c.args.words.now c.action_of.result (Some action.Decompose) c.action_of.ensures (c.in-Some-Decompose.is ∙ ap Some c.in-Some-Decompose.field-0-is))
    c.in-Ok.ensures.values c.decompose_command.ensures

pub returns-in-Ok-clause-within : goal.returns-in-Ok-clause-within
returns-in-Ok-clause-within c = told-within c.args.words.now c.decompose_command.result (returns-in-Ok-clause-value c)

pub returns-in-Ok-measure_matches-clause-value : goal.returns-in-Ok-measure_matches-clause-value
returns-in-Ok-measure_matches-clause-value c =
    read-as (command_of c.args.words.now) (option_map command_told c.measure_command.result) IsMeasure (HasValues (found_of c.in-Ok-measure_matches.matches))
    (found-asked c.args.words.now c.action_of.result (Some action.Measure) c.action_of.ensures (c.in-Some-Measure.is ∙ ap Some c.in-Some-Measure.field-0-is))
    c.in-Ok-measure_matches.ensures.values c.measure_command.ensures

pub returns-in-Ok-measure_matches-clause-within : goal.returns-in-Ok-measure_matches-clause-within
returns-in-Ok-measure_matches-clause-within c = told-within c.args.words.now c.measure_command.result (returns-in-Ok-measure_matches-clause-value c)

pub returns-in-Err-clause-no_memory : goal.returns-in-Err-clause-no_memory
returns-in-Err-clause-no_memory c =
    some-asked (command_of c.args.words.now) IsDecompose
    (found-asked c.args.words.now c.action_of.result (Some action.Decompose) c.action_of.ensures (c.in-Some-Decompose.is ∙ ap Some c.in-Some-Decompose.field-0-is))

pub returns-in-Err-measure_matches-clause-no_memory : goal.returns-in-Err-measure_matches-clause-no_memory
returns-in-Err-measure_matches-clause-no_memory c =
    some-asked (command_of c.args.words.now) IsMeasure
    (found-asked c.args.words.now c.action_of.result (Some action.Measure) c.action_of.ensures (c.in-Some-Measure.is ∙ ap Some c.in-Some-Measure.field-0-is))
