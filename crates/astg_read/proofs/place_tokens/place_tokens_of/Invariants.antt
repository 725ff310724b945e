use Rattle.std.proofs.Common.{◌≡◌, ◌++◌, drop}
use Rattle.astg_read.specs.inner.NoDummies.{without_dummies}
use Rattle.astg_read.specs.inner.PlaceTokens.{place_tokens_of}
use Rattle.astg_read.specs.inner.Views.{entry_views, place_tokens_views}
use Rattle.astg_read.proofs.place_tokens.place_tokens_of.Given as goal

abbrev pub invariant-loop-entry : goal.invariant-loop-entry
invariant-loop-entry l = place_tokens_views l.place_tokens ++ place_tokens_of (without_dummies l.signals) (entry_views (drop l.entry-index l.entries)) ≡ place_tokens_of (without_dummies l.signals) (entry_views l.entries)
