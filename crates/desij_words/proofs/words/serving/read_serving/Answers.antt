use Rattle.std.proofs.Common.{◌∙◌, sym}
use Rattle.std.specs.Option.{option_map}
use Rattle.clap.specs.Words.{found_of}
use Rattle.desij_words.specs.Serving.{FindsServing, serving_of, serving_told}
use Rattle.desij_words.proofs.ServingLemmas.{is_none, of-some, read-found}
use Rattle.desij_words.proofs.words.serving.read_serving.Goals as goal

pub returns-then-not-is_serving-clause-value : goal.returns-then-not-is_serving-clause-value
returns-then-not-is_serving-clause-value c =
    is_none (serving_of c.args.words.now) (of-some c.args.words.now ∙ sym c.is_serving.ensures ∙ c.if-not-is_serving.true)

pub serving_matches-requires : goal.serving_matches-requires
serving_matches-requires c = of-some c.args.words.now ∙ sym c.is_serving.ensures ∙ c.if-not-is_serving.false

pub returns-in-Ok-clause-value : goal.returns-in-Ok-clause-value
returns-in-Ok-clause-value c =
    read-found (serving_of c.args.words.now) (option_map serving_told c.serving_found.result) (FindsServing (found_of c.in-Ok.matches)) c.in-Ok.ensures.values c.serving_found.ensures

pub returns-in-Err-clause-no_memory : goal.returns-in-Err-clause-no_memory
returns-in-Err-clause-no_memory c = of-some c.args.words.now ∙ sym c.is_serving.ensures ∙ c.if-not-is_serving.false
