use Rattle.std.proofs.Common.{◌∙◌, sym, rules, tests}
use Rattle.stg_net.proofs.Maps.{list_any-map}
use Rattle.std.proofs.lemmas.Iterator.{YieldsList-from_slice}
use Rattle.std.proofs.lemmas.Iterator.Search.{any_from_yields_List}
use Rattle.astg_read.specs.declared.text_arcs.TextArc.{TextArc}
use Rattle.astg_read.specs.Graphs.{is_between_places}
use Rattle.astg_read.specs.inner.Views.{text_arc_view}
use Rattle.astg_read.proofs.text_arcs.any_between_places.Goals as goal

pub returns : goal.returns
returns c =
    any_from_yields_List (λ (a : TextArc). is_between_places (text_arc_view a)) _ _ c.any.result c.any.ensures.ran (YieldsList-from_slice c.args.text_arcs.now cc) (λ x b q k. search (rules, tests))
    ∙ sym (list_any-map text_arc_view is_between_places c.args.text_arcs.now)
