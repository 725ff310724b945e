use Rattle.std.proofs.Common.{◌∙◌, ℕ, List, [], ap, sym, rules, tests}
use Rattle.std.proofs.lemmas.Iterator.{YieldsList-from_slice}
use Rattle.std.proofs.lemmas.Iterator.Consumers.{YieldsList-from_filter_map}
use Rattle.std.proofs.lemmas.Iterator.Search.{all_from_yields_List}
use Rattle.std.specs.Borrow.{Bor}
use Rattle.std.specs.List.{list_all}
use Rattle.std.proofs.lemmas.List.Folds.{list_all-map}
use Rattle.astg_read.specs.declared.targets.Target.{Target}
use Rattle.astg_read.specs.Nodes.{is_node}
use Rattle.astg_read.specs.inner.NoDummies.{without_dummies}
use Rattle.astg_read.proofs.TargetLemmas.{given_words, words_in-views}
use Rattle.astg_read.proofs.targets.are_nodes.Goals as goal

pub returns : goal.returns
returns c =
    let ts = c.args.targets.now in
    all_from_yields_List (λ (w : Bor (List ℕ)). is_node (without_dummies []) w.now) _ _ c.all.result c.all.ensures.ran
    (YieldsList-from_filter_map _ (λ (t : Target). t.word) (YieldsList-from_slice ts cc) (cc) (λ x r q k. search (rules, tests))) (λ x b q k. search (rules, tests))
    ∙ sym (list_all-map (is_node (without_dummies [])) (λ (w : Bor (List ℕ)). w.now) (given_words ts)) ∙ ap (list_all (is_node (without_dummies []))) (sym (words_in-views ts))
