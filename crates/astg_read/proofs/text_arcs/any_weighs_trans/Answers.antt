use Rattle.std.proofs.Common.{◌∙◌, sym, rules, tests}
use Rattle.stg_net.proofs.Maps.{list_any-map}
use Rattle.std.proofs.lemmas.Iterator.{YieldsList-from_slice}
use Rattle.std.proofs.lemmas.Iterator.Search.{any_from_yields_List}
use Rattle.astg_read.specs.declared.text_arcs.TextArc.{TextArc}
use Rattle.astg_read.specs.Graphs.{weighs_trans}
use Rattle.astg_read.specs.inner.Views.{text_arc_view}
use Rattle.astg_read.proofs.text_arcs.any_weighs_trans.Goals as goal

pub returns : goal.returns
returns c =
    any_from_yields_List (λ (a : TextArc). weighs_trans (text_arc_view a)) _ _ c.any.result c.any.ensures.ran (YieldsList-from_slice c.args.text_arcs.now cc) (λ x b q k. search (rules, tests))
    ∙ sym (list_any-map text_arc_view weighs_trans c.args.text_arcs.now)
