use Rattle.std.proofs.Common.{◌∙◌, ap, List, ℕ}
use Rattle.stg_steps.specs.inner.Reading.{place_in}
use Rattle.stg_steps.proofs.KeyPlaces.{position-words}
use Rattle.stg_steps.proofs.words.TransWords.find.Goals as goal

pub returns-in-Some-clause-value : goal.returns-in-Some-clause-value
returns-in-Some-clause-value c =
    c.in-Some.ensures.index ∙ position-words c.args.word.now c.self.inside.words.entries
    ∙ ap (λ (ws : List (List ℕ)). place_in ws c.args.word.now) c.self.view_is

pub returns-in-None-clause-value : goal.returns-in-None-clause-value
returns-in-None-clause-value c =
    c.in-None.ensures.index ∙ position-words c.args.word.now c.self.inside.words.entries
    ∙ ap (λ (ws : List (List ℕ)). place_in ws c.args.word.now) c.self.view_is
