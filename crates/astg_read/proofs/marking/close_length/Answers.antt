use Rattle.std.proofs.Common.{◌∙◌, ℕ, List, Bool, not, sym, rules, tests}
use Rattle.std.proofs.lemmas.Iterator.{YieldsList-from_slice}
use Rattle.std.proofs.lemmas.Iterator.Consumers.{count_from_yields_List}
use Rattle.std.proofs.lemmas.Iterator.Search.{YieldsList-from_take_while}
use Rattle.std.proofs.lemmas.List.Folds.{length-prefix_len}
use Rattle.std.specs.Borrow.{Bor}
use Rattle.astg_lex.proofs.FirstLemmas.{first-map}
use Rattle.astg_read.specs.Markings.{is_closing}
use Rattle.astg_read.proofs.marking.close_length.Goals as goal

pub returns-clause-value : goal.returns-clause-value
returns-clause-value c =
    let words = c.args.words.now in
    let test : Bor (List ℕ) → Bool = λ w. not (is_closing w.now) in
    count_from_yields_List c.take_while.result c.count.result c.count.ensures.ran
    (YieldsList-from_take_while _ test (YieldsList-from_slice words cc) (cc) (cc) (λ x b q k. search (rules, tests)))
    ∙ length-prefix_len test words ∙ sym (first-map is_closing (λ (w : Bor (List ℕ)). w.now) words)
