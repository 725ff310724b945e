use Rattle.std.proofs.Common.{◌∙◌, ℕ, List, ap, sym, rules, tests}
use Rattle.std.proofs.lemmas.Iterator.{YieldsList-from_slice}
use Rattle.std.proofs.lemmas.Iterator.Consumers.{YieldsList-from_filter_map}
use Rattle.std.proofs.lemmas.Iterator.Search.{any_from_yields_List}
use Rattle.std.specs.Borrow.{Bor}
use Rattle.std.specs.List.{list_any}
use Rattle.stg_net.proofs.Maps.{list_any-map}
use Rattle.astg_read.specs.declared.targets.Target.{Target}
use Rattle.astg_read.specs.Nodes.{is_signal}
use Rattle.astg_read.specs.inner.NoDummies.{without_dummies}
use Rattle.astg_read.proofs.TargetLemmas.{given_words, words_in-views}
use Rattle.astg_read.proofs.targets.have_signal.Goals as goal

pub returns : goal.returns
returns c =
    let ts = c.args.targets.now in
    any_from_yields_List (λ (w : Bor (List ℕ)). is_signal (without_dummies c.args.signals.now) w.now) _ _ c.any.result c.any.ensures.ran
    (YieldsList-from_filter_map _ (λ (t : Target). t.word) (YieldsList-from_slice ts cc) (cc) (λ x r q k. search (rules, tests))) (λ x b q k. search (rules, tests))
    ∙ sym (list_any-map (λ (w : Bor (List ℕ)). w.now) (is_signal (without_dummies c.args.signals.now)) (given_words ts)) ∙ ap (list_any (is_signal (without_dummies c.args.signals.now))) (sym (words_in-views ts))
