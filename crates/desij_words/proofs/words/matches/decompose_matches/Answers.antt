use Rattle.std.proofs.Common.{rules, ap, ap₂, ◌≡◌, ◌∙◌, List, map, codes}
use Rattle.std.specs.String.{string_bytes}
use Rattle.std.proofs.lemmas.Result.{IfErr-weaker, IfOk-weaker}
use Rattle.clap.specs.Words.{app_of, found_of, is_simple, matches_of, new_rule, rule_of, takes, with_rule}
use Rattle.desij_words.specs.declared.words.form.Action.TheVariants as action
use Rattle.desij_words.specs.Words.{Text, command_of}
use Rattle.desij_words.proofs.ClapWalks.{app, is_simple-app, partition_rule, steps_rule, workers_rule}
use Rattle.desij_words.proofs.ClapMatches.{decompose-asks, decompose-has, decompose-takes}
use Rattle.desij_words.proofs.words.matches.decompose_matches.Goals as goal

pub returns : goal.returns
unfolding command_of
returns c =
    let texts : List Text = map (λ w. string_bytes w) c.args.words.now in
    let asks = decompose-asks texts c.requires in
    let spec_is : rule_of c.new-spec.result ≡ new_rule (codes "spec") = search rules in
    let workers_is : rule_of c.long-workers.result ≡ workers_rule = search rules in
    let partition_is : rule_of c.long-partition.result ≡ partition_rule = search rules in
    let steps_is : rule_of c.action-steps.result ≡ steps_rule = search rules in
    let one = c.in_ok-arg.ensures.shape (search rules) ∙ ap₂ with_rule c.new-4.ensures.app spec_is in
    let two = c.in_ok-arg-2.ensures.shape (search rules) ∙ ap₂ with_rule one workers_is in
    let three = c.in_ok-arg-3.ensures.shape (search rules) ∙ ap₂ with_rule two partition_is in
    let command_is : app_of c.in_ok-command.command ≡ app action.Decompose = c.in_ok-command.ensures.shape (search rules) ∙ ap₂ with_rule three steps_is in
    let parse = c.try_get_matches_from in
    record {
      values = IfOk-weaker parse.result _ _ (λ m h. decompose-has texts (found_of m) asks ((h (ap is_simple command_is ∙ is_simple-app action.Decompose)).0 ∙ ap (λ a. matches_of a texts) command_is)) parse.ensures.matches;
      no_memory = IfErr-weaker parse.result _ _ (λ e h. h (ap (λ a. takes a texts) command_is ∙ decompose-takes texts asks)) parse.ensures.passes;
    }
