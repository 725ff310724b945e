use Rattle.std.proofs.Common.{◌∙◌, ap, sym}
use Rattle.astg_read.specs.inner.NoDummies.{without_dummies}
use Rattle.astg_read.specs.Markings.{entries_of}
use Rattle.astg_read.specs.inner.PlaceTokens.{tokens_for}
use Rattle.astg_read.specs.Reading.{tokens_by}
use Rattle.astg_read.proofs.PlaceTokensLemmas.{tokens-place_tokens}
use Rattle.astg_read.proofs.finish.place_tokens_in.Goals as goal

pub returns-in_ok-place_tokens-in-Some : goal.returns-in_ok-place_tokens-in-Some
returns-in_ok-place_tokens-in-Some c = λ p.
    ap (λ ms. tokens_for ms p) c.in_ok-place_tokens-in-Some.ensures
    ∙ tokens-place_tokens (without_dummies c.args.signals.now) (entries_of c.in-Some.marking) p
    ∙ ap (λ o. tokens_by (without_dummies c.args.signals.now) o p) (sym c.in-Some.is)
