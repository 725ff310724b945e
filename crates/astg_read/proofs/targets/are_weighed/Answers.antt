use Rattle.std.proofs.Common.{◌∙◌, sym, rules, tests}
use Rattle.std.proofs.lemmas.List.Folds.{list_all-map}
use Rattle.std.proofs.lemmas.Iterator.{YieldsList-from_slice}
use Rattle.std.proofs.lemmas.Iterator.Search.{all_from_yields_List}
use Rattle.astg_read.specs.declared.targets.Target.{Target}
use Rattle.astg_read.specs.Targets.{is_good_group}
use Rattle.astg_read.specs.inner.Views.{target_view}
use Rattle.astg_read.proofs.targets.are_weighed.Goals as goal

pub returns : goal.returns
returns c =
    all_from_yields_List (λ (t : Target). (is_good_group c.args.most) (target_view t)) _ _ c.all.result c.all.ensures.ran (YieldsList-from_slice c.args.targets.now cc) (λ x b q k. search (rules, tests))
    ∙ sym (list_all-map (is_good_group c.args.most) target_view c.args.targets.now)
