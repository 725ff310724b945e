use Rattle.std.proofs.Common.{◌∙◌, ◌≤◌, ap, sym, refl, subst, ℕ}
use Rattle.astg_read.specs.inner.PlaceTokens.{tokens_for}
use Rattle.astg_read.specs.inner.Views.{place_tokens_views}
use Rattle.astg_read.specs.inner.LineResult.{said_of}
use Rattle.astg_read.proofs.FinishLemmas.{faultless-by, tokens-good, spec-of}
use Rattle.astg_read.proofs.finish.finish.Goals as goal

pub build-requires-clause-faultless : goal.build-requires-clause-faultless
build-requires-clause-faultless c = faultless-by c.args.limits.now c.args.reader c.requires.faultless

pub build-requires-clause-tokens : goal.build-requires-clause-tokens
build-requires-clause-tokens c = λ p.
    subst (λ (n : ℕ). n ≤ c.args.limits.now.weight) (sym (ap (λ ms. tokens_for (place_tokens_views ms) p) c.as_slice.ensures ∙ c.in_ok-place_tokens.ensures p))
    (tokens-good c.args.limits.now.weight (said_of c.args.reader) p c.args.reader.marking refl c.requires.faultless.good)

pub returns-clause-spec : goal.returns-clause-spec
returns-clause-spec c =
    spec-of c.args.reader (tokens_for (place_tokens_views c.as_slice.result.now)) c.in_ok-spec.spec
    (λ p. ap (λ ms. tokens_for (place_tokens_views ms) p) c.as_slice.ensures ∙ c.in_ok-place_tokens.ensures p) c.in_ok-spec.ensures.value
