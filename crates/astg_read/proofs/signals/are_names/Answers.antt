use Rattle.std.proofs.Common.{◌∙◌, sym, rules, tests}
use Rattle.std.proofs.lemmas.List.Folds.{list_all-map}
use Rattle.std.proofs.lemmas.Iterator.{YieldsList-from_slice}
use Rattle.std.proofs.lemmas.Iterator.Search.{all_from_yields_List}
use Rattle.astg_lex.specs.declared.words.Word.{Word}
use Rattle.stg_net.specs.Names.{is_name}
use Rattle.astg_read.proofs.signals.are_names.Goals as goal

pub returns : goal.returns
returns c =
    all_from_yields_List (λ (w : Word). is_name (w.text.now)) _ _ c.all.result c.all.ensures.ran (YieldsList-from_slice c.args.words.now cc) (λ x b q k. search (rules, tests))
    ∙ sym (list_all-map is_name (λ (w : Word). w.text.now) c.args.words.now)
