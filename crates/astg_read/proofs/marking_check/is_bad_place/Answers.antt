use Rattle.std.proofs.Common.{ap, sym, ◌∙◌, ◌||◌, not, false, map, option_map}
use Rattle.std.specs.List.{list_any}
use Rattle.std.specs.Option.{option_map_or}
use Rattle.astg_read.specs.Graphs.{same_place}
use Rattle.astg_read.specs.inner.Views.{place_view}
use Rattle.astg_read.proofs.GraphLemmas.{place-among}
use Rattle.astg_read.proofs.marking_check.is_bad_place.Goals as goal

pub returns-else-not-has_place : goal.returns-else-not-has_place
returns-else-not-has_place c =
    let named = map place_view c.args.named.now.keys in
    c.contains.ensures ∙ place-among c.args.named.now.keys c.in-Some.place
    ∙ sym (ap (λ b. not b || list_any (same_place (place_view c.in-Some.place)) named) (sym c.has_place.ensures ∙ c.if-not-has_place.false))
    ∙ ap (λ o. not (option_map_or (λ p. list_any (same_place p) c.args.graph.now.places) o false) || option_map_or (λ p. list_any (same_place p) named) o false)
    (ap (option_map place_view) (sym c.in-Some.is) ∙ c.named_place.ensures)
