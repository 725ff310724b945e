use Rattle.std.proofs.Common.{◌≡◌, drop}
use Rattle.astg_read.specs.inner.PlaceTokens.{tokens_for}
use Rattle.astg_read.specs.inner.Views.{place_tokens_views, place_view}
use Rattle.astg_read.proofs.place_tokens.tokens_for.Given as goal

abbrev pub invariant-loop-one : goal.invariant-loop-one
invariant-loop-one l = tokens_for (place_tokens_views (drop l.one-index l.place_tokens)) (place_view l.place) ≡ tokens_for (place_tokens_views l.place_tokens) (place_view l.place)
