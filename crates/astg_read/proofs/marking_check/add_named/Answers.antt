use Rattle.std.proofs.Common.{ap, sym, ◌∙◌, map, option_map}
use Rattle.std.specs.Option.{option_map_or}
use Rattle.astg_read.specs.Lists.{with_new}
use Rattle.astg_read.specs.Graphs.{same_place}
use Rattle.astg_read.specs.inner.Views.{place_view}
use Rattle.astg_read.proofs.GraphLemmas.{places-with_new}
use Rattle.astg_read.proofs.marking_check.add_named.Goals as goal

pub returns-in_ok-insert : goal.returns-in_ok-insert
returns-in_ok-insert c =
    let named = map place_view c.args.named.now.keys in
    ap (map place_view) c.in_ok-insert.ensures.keys ∙ places-with_new c.args.named.now.keys c.in-Some.place
    ∙ ap (λ o. option_map_or (with_new same_place named) o named) (ap (option_map place_view) (sym c.in-Some.is) ∙ c.named_place.ensures)
