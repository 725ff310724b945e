use Rattle.std.proofs.Common.{rules, ap, ap₂, ◌≡◌, ◌∙◌, List, map, codes}
use Rattle.std.specs.String.{string_bytes}
use Rattle.std.proofs.lemmas.Result.{IfErr-weaker, IfOk-weaker}
use Rattle.clap.specs.Words.{app_of, found_of, is_simple, matches_of, new_rule, rule_of, takes, with_rule}
use Rattle.desij_words.specs.Words.{Text}
use Rattle.desij_words.specs.Serving.{serving_of}
use Rattle.desij_words.proofs.ClapServing.{database_rule, is_simple-serve, serve-has, serve-takes, serve_app}
use Rattle.desij_words.proofs.words.matches.serving_matches.Goals as goal

pub returns : goal.returns
unfolding serving_of
returns c =
    let texts : List Text = map (λ w. string_bytes w) c.args.words.now in
    let addr_is : rule_of c.new-addr.result ≡ new_rule (codes "addr") = search rules in
    let count_is : rule_of c.new-count.result ≡ new_rule (codes "count") = search rules in
    let database_is : rule_of c.long-database.result ≡ database_rule = search rules in
    let one = c.in_ok-arg.ensures.shape (search rules) ∙ ap₂ with_rule c.new-2.ensures.app addr_is in
    let two = c.in_ok-arg-2.ensures.shape (search rules) ∙ ap₂ with_rule one count_is in
    let command_is : app_of c.in_ok-command.command ≡ serve_app = c.in_ok-command.ensures.shape (search rules) ∙ ap₂ with_rule two database_is in
    let parse = c.try_get_matches_from in
    record {
      values = IfOk-weaker parse.result _ _ (λ m h. serve-has texts (found_of m) c.requires ((h (ap is_simple command_is ∙ is_simple-serve)).0 ∙ ap (λ a. matches_of a texts) command_is)) parse.ensures.matches;
      no_memory = IfErr-weaker parse.result _ _ (λ e h. h (ap (λ a. takes a texts) command_is ∙ serve-takes texts c.requires)) parse.ensures.passes;
    }
