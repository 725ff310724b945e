use Rattle.std.proofs.Common.{◌≡◌, [], ◌∷◌, ◌++◌, None, List, ℕ, map, ap, ◌∙◌}
use Rattle.stg_steps.specs.inner.Reading.{place_in}
use Rattle.stg_steps.specs.inner.TransKeys.{entry_word}
use Rattle.stg_steps.proofs.KeyPlaces.{inserted-words}
use Rattle.stg_steps.proofs.words.TransWords.push.Goals as goal

pub returns : goal.returns
returns c =
    let key = c.into_vec.result in
    let none : place_in (map entry_word c.self.inside.words.entries) key.items ≡ None =
    ap (λ (w : List ℕ). place_in (map entry_word c.self.inside.words.entries) w) c.into_vec.ensures
    ∙ ap (λ (ws : List (List ℕ)). place_in ws c.args.word) c.self.view_is ∙ c.requires in
    ap (map entry_word) c.in_ok-insert.ensures.entries ∙ inserted-words c.self.inside.words key none
    ∙ ap (λ (ws : List (List ℕ)). ws ++ key.items ∷ []) c.self.view_is
    ∙ ap (λ (w : List ℕ). c.args.self.now ++ w ∷ []) c.into_vec.ensures
