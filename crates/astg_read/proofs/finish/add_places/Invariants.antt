use Rattle.std.proofs.Common.{◌≡◌, ◌+◌, ◌-◌, ◌≤◌, length, map, drop}
use Rattle.astg_read.specs.inner.Construction.{with_all_tokens}
use Rattle.astg_read.specs.inner.PlaceTokens.{tokens_for}
use Rattle.astg_read.specs.inner.Views.{place_tokens_views, place_view}
use Rattle.astg_read.proofs.finish.add_places.Given as goal

abbrev pub invariant-loop-place : goal.invariant-loop-place
invariant-loop-place l = record {
  limits : l.builder.limits ≡ l.initial.builder.limits;
  room : length l.builder.lists.tokens + (length l.places - l.place-index) ≤ l.builder.limits.places;
  so_far : with_all_tokens l.builder (map (tokens_for (place_tokens_views l.place_tokens)) (map place_view (drop l.place-index l.places))) ≡ with_all_tokens l.initial.builder (map (tokens_for (place_tokens_views l.place_tokens)) (map place_view l.places));
}
