use Rattle.std.proofs.Common.{◌≡◌, ◌∙◌, Option, None, Some, ap, refl, sym}
use Rattle.std.specs.Option.{option_copied, option_map}
use Rattle.desij_words.specs.declared.words.Command.{Command as Told}
use Rattle.desij_words.specs.Commands.{command_told}
use Rattle.desij_words.specs.Words.{Command, Decompose, Measure, command_of}
use Rattle.desij.specs.Run.{seen}
use Rattle.desij.specs.declared.status.Status.TheVariants.{Done, BadWords, Refused, ReadFault, WriteFault, PrintFault, NoMemory, ServeFault}
use Rattle.desij.proofs.EndLemmas.{measure_ends}
use Rattle.desij.proofs.RunLemmas.{ends_with, completes, done_means, missing_ends, refuses}
use Rattle.desij.proofs.run.run.Goals as goal

pub returns-in-Ok-Some-Decompose-clause-status : goal.returns-in-Ok-Some-Decompose-clause-status
returns-in-Ok-Some-Decompose-clause-status g c =
    let words = c.in-Ok-Some-Decompose in
    let asked : Command = Decompose words.spec.now words.workers (option_copied words.partition) words.steps in
    let named : Some asked ≡ command_of c.args.words.now = sym (ap (λ (o : Option Told). option_map command_told o) (words.field-0-is ∙ ap Some words.field-0-0-is)) ∙ words.ensures.value in
    let ends = rw named at c.decompose.ensures.ends in
    record {
      done = ends_with _ _ Done _ _ ends;
      components = done_means _ _ _ _ ends;
      bad_words = ends_with _ _ BadWords _ _ ends;
      refused = ends_with _ _ Refused _ _ ends;
      read_fault = ends_with _ _ ReadFault _ _ ends;
      write_fault = ends_with _ _ WriteFault _ _ ends;
      print_fault = ends_with _ _ PrintFault _ _ ends;
      no_memory = ends_with _ _ NoMemory _ _ ends;
      serve_fault = ends_with _ _ ServeFault _ _ ends;
      without_form = λ none. let never : Some asked ≡ None = named ∙ none in cc;
      not_accepted = refuses _ _ _ _ ends;
      missing = missing_ends _ _ _ _ ends;
      accepted = completes _ _ _ _ ends;
    }

pub returns-in-Ok-Some-Measure-clause-status : goal.returns-in-Ok-Some-Measure-clause-status
returns-in-Ok-Some-Measure-clause-status g c =
    let words = c.in-Ok-Some-Measure in
    let asked : Command = Measure words.count words.workers in
    let named : Some asked ≡ command_of c.args.words.now = sym (ap (λ (o : Option Told). option_map command_told o) (words.field-0-is ∙ ap Some words.field-0-0-is)) ∙ words.ensures.value in
    let old = seen (g.S.Source.seen c.args.source.now) (g.F.Shelf.seen c.args.shelf.now) (g.K.Sink.seen c.args.sink.now) in
    let new = seen (g.S.Source.seen c.args.source.now) (g.F.Shelf.seen c.args.shelf.now) (g.K.Sink.seen c.measure.new.sink) in
    let ended = measure_ends words.count words.workers c.measure.result old new (record { source = refl; shelf = refl }) c.measure.ensures in
    let ends = rw named at ended in
    record {
      done = ends_with _ _ Done _ _ ends;
      components = done_means _ _ _ _ ends;
      bad_words = ends_with _ _ BadWords _ _ ends;
      refused = ends_with _ _ Refused _ _ ends;
      read_fault = ends_with _ _ ReadFault _ _ ends;
      write_fault = ends_with _ _ WriteFault _ _ ends;
      print_fault = ends_with _ _ PrintFault _ _ ends;
      no_memory = ends_with _ _ NoMemory _ _ ends;
      serve_fault = ends_with _ _ ServeFault _ _ ends;
      without_form = λ none. let never : Some asked ≡ None = named ∙ none in cc;
      not_accepted = refuses _ _ _ _ ends;
      missing = missing_ends _ _ _ _ ends;
      accepted = completes _ _ _ _ ends;
    }
