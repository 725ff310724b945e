use Rattle.std.proofs.Common.{rules, ap, ap₂, ◌≡◌, ◌∙◌, List, map, codes}
use Rattle.std.specs.String.{string_bytes}
use Rattle.std.proofs.lemmas.Result.{IfErr-weaker, IfOk-weaker}
use Rattle.clap.specs.Words.{app_of, found_of, is_simple, matches_of, new_rule, rule_of, takes, with_rule}
use Rattle.desij_words.specs.declared.words.form.Action.TheVariants as action
use Rattle.desij_words.specs.Words.{Text, command_of}
use Rattle.desij_words.proofs.ClapWalks.{app, is_simple-app, workers_rule}
use Rattle.desij_words.proofs.ClapMatches.{measure-asks, measure-has, measure-takes}
use Rattle.desij_words.proofs.words.matches.measure_matches.Goals as goal

pub returns : goal.returns
unfolding command_of
returns c =
    let texts : List Text = map (λ w. string_bytes w) c.args.words.now in
    let asks = measure-asks texts c.requires in
    let count_is : rule_of c.new-count.result ≡ new_rule (codes "count") = search rules in
    let workers_is : rule_of c.long-workers.result ≡ workers_rule = search rules in
    let one = c.in_ok-arg.ensures.shape (search rules) ∙ ap₂ with_rule c.new-2.ensures.app count_is in
    let command_is : app_of c.in_ok-command.command ≡ app action.Measure = c.in_ok-command.ensures.shape (search rules) ∙ ap₂ with_rule one workers_is in
    let parse = c.try_get_matches_from in
    record {
      values = IfOk-weaker parse.result _ _ (λ m h. measure-has texts (found_of m) asks ((h (ap is_simple command_is ∙ is_simple-app action.Measure)).0 ∙ ap (λ a. matches_of a texts) command_is)) parse.ensures.matches;
      no_memory = IfErr-weaker parse.result _ _ (λ e h. h (ap (λ a. takes a texts) command_is ∙ measure-takes texts asks)) parse.ensures.passes;
    }
