-- The row of a record or a step is read as it, and its words have neither a space nor LF.
use Rattle.std.proofs.Common.{◌≡◌, ℕ, ◌<◌, Bool, true, cond, List, [], ◌∷◌, codes, length, Some, None, option_map, refl, sym, ap, ◌∙◌, arith}
use Rattle.std.proofs.lemmas.Bool.{and_from}
use Rattle.std.proofs.lemmas.Slice.Eq.{bytes_eq-Decides}
use Rattle.std.specs.List.{list_all}
use Rattle.std.specs.Prelude.{decimal}
use Rattle.stg_net.specs.Names.{is_in_name, IsWellNamed}
use Rattle.stg_net.specs.Net.{NetLists, IsNet, signal_at, trans_at}
use Rattle.stg_contract.specs.declared.verdict.Verdict.{Verdict}
use Rattle.stg_contract.specs.declared.verdict.Verdict.TheVariants as verdict
use Rattle.stg_redundant.specs.declared.found.PlaceRule.{PlaceRule}
use Rattle.stg_redundant.specs.declared.found.PlaceRule.TheVariants as place_rule
use Rattle.stg_redundant.specs.declared.found.DummyRule.{DummyRule}
use Rattle.stg_redundant.specs.declared.found.DummyRule.TheVariants as dummy_rule
use Rattle.stg_derive.specs.Loggable.{IsLoggableVerdict, IsLoggableRecord, IsLoggablePlaceRule, IsLoggableDummyRule, IsLoggableStep}
use Rattle.stg_derive.specs.declared.step.Secure.{Secure}
use Rattle.stg_derive.specs.declared.step.Secure.TheVariants as secure
use Rattle.stg_derive.specs.declared.step.Step.{Step}
use Rattle.stg_derive.specs.declared.step.Step.TheVariants.{Contract, DropPlace, DropDummy}
use Rattle.stg_derive.specs.declared.part.Restore.{Restore}
use Rattle.stg_steps.specs.LogText.{LogRow, word_at, verdict_words, restore_words, secure_word, place_rule_words, dummy_rule_words, step_words}
use Rattle.stg_steps.specs.inner.Reading.{trans_words, clash_of, verdict_in, restore_of, restore_in, secure_in, contract_of, same_place_of, place_rule_in, drop_place_of, same_dummy_of, dummy_rule_in, drop_dummy_of, step_in}
use Rattle.stg_steps.proofs.Gaps.{lacks, IsGap, lacks-plain, lacks-decimal, lacks-word, signal-bytes}
use Rattle.stg_steps.proofs.TransPlaces.{place_in-word}
use Rattle.stg_steps.proofs.WrittenNumbers.{number_in-decimal}

module _ (n : NetLists) (net : IsNet n) (named : IsWellNamed n) where
  abbrev words : LogRow
  words = trans_words n

  verdict_in-words : (v : Verdict) → IsLoggableVerdict (length n.trans) v → verdict_in words (verdict_words n v) ≡ Some v
  verdict_in-words verdict.Type1 h = absurd h
  verdict_in-words verdict.Type2 h = absurd h
  verdict_in-words verdict.Loop h = refl
  verdict_in-words verdict.Weight h = refl
  verdict_in-words verdict.Insecure h = refl
  verdict_in-words (verdict.Clash t u) h = (λ j. clash_of (place_in-word n net named t h.0 j) (place_in-word n net named u h.1 j))
  verdict_in-words (verdict.Places k) h = ap (option_map (λ p. verdict.Places p)) (number_in-decimal k h)
  verdict_in-words verdict.Large h = refl

  -- a record is read back from its words
  pub restore_in-words : (r : Restore) → IsLoggableRecord n r → restore_in n words ((signal_at n.signals r.signal).name ∷ word_at n r.trans ∷ verdict_words n r.verdict) ≡ Some r
  restore_in-words r h =
      let name = (signal_at n.signals r.signal).name in
      let signal = (trans_at n.trans r.trans).signal in
      (λ j. restore_of n name (place_in-word n net named r.trans h.there j) (verdict_in-words r.verdict h.verdict j))
      ∙ ap (λ b. cond b (Some (record { signal = signal; trans = r.trans; verdict = r.verdict })) None)
      ((bytes_eq-Decides name (signal_at n.signals signal).name).1 (ap (λ s. (signal_at n.signals s).name) h.signal_is))
      ∙ ap (λ s. Some (record { signal = s; trans = r.trans; verdict = r.verdict })) (sym h.signal_is)

  secure_in-word : (s : Secure) → secure_in (secure_word s) ≡ Some s
  secure_in-word secure.Type1 = refl
  secure_in-word secure.Type2 = refl

  place_rule_in-words : (rule : PlaceRule) → IsLoggablePlaceRule rule → place_rule_in (place_rule_words rule) ≡ Some rule
  place_rule_in-words (place_rule.Same q) h = ap same_place_of (number_in-decimal q h)
  place_rule_in-words place_rule.Loop h = refl
  place_rule_in-words place_rule.Shortcut h = refl

  dummy_rule_in-words : (rule : DummyRule) → IsLoggableDummyRule (length n.trans) rule → dummy_rule_in words (dummy_rule_words n rule) ≡ Some rule
  dummy_rule_in-words dummy_rule.Loop h = refl
  dummy_rule_in-words (dummy_rule.Same u) h = ap same_dummy_of (place_in-word n net named u h)

  -- a step is read back from its words
  pub step_in-words : (s : Step) → IsLoggableStep (length n.trans) s → step_in words (step_words n s) ≡ Some s
  step_in-words (Contract t secure k) h = (λ j. contract_of (place_in-word n net named t h.0 j) (secure_in-word secure j) (number_in-decimal k h.1 j))
  step_in-words (DropPlace found) h = (λ j. drop_place_of (number_in-decimal found.place h.0 j) (place_rule_in-words found.rule h.1 j))
  step_in-words (DropDummy found) h = (λ j. drop_dummy_of (place_in-word n net named found.trans h.0 j) (dummy_rule_in-words found.rule h.1 j))

  -- no word of a line has a gap's byte
  module _ (c : ℕ) (gap : IsGap c) where
    abbrev lack : LogRow → Bool
    lack row = list_all (lacks c) row

    plain : (w : List ℕ) → list_all is_in_name w ≡ true → (row : LogRow) → lack row ≡ true → lack (w ∷ row) ≡ true
    plain w h row k = and_from (lacks c w) (lack row) (lacks-plain c gap w h) k

    number : (k : ℕ) → k < 1000000000 → (row : LogRow) → lack row ≡ true → lack (decimal k ∷ row) ≡ true
    number k h row r = and_from (lacks c (decimal k)) (lack row) (lacks-decimal c gap k (omega (arith, h))) r

    trans : (t : ℕ) → t < length n.trans → (row : LogRow) → lack row ≡ true → lack (word_at n t ∷ row) ≡ true
    trans t h row k = and_from (lacks c (word_at n t)) (lack row) (lacks-word n net named c gap t h) k

    lack-verdict : (v : Verdict) → IsLoggableVerdict (length n.trans) v → lack (verdict_words n v) ≡ true
    lack-verdict verdict.Type1 h = absurd h
    lack-verdict verdict.Type2 h = absurd h
    lack-verdict verdict.Loop h = plain (codes "loop") refl [] refl
    lack-verdict verdict.Weight h = plain (codes "weight") refl [] refl
    lack-verdict verdict.Insecure h = plain (codes "insecure") refl [] refl
    lack-verdict (verdict.Clash t u) h = plain (codes "clash") refl (word_at n t ∷ word_at n u ∷ []) (trans t h.0 (word_at n u ∷ []) (trans u h.1 [] refl))
    lack-verdict (verdict.Places k) h = plain (codes "places") refl (decimal k ∷ []) (number k h [] refl)
    lack-verdict verdict.Large h = plain (codes "large") refl [] refl

    pub lack-restore : (r : Restore) → IsLoggableRecord n r → lack (restore_words n r) ≡ true
    lack-restore r h =
        let rest = verdict_words n r.verdict in
        let name = (signal_at n.signals r.signal).name in
        plain (codes "restore") refl (name ∷ word_at n r.trans ∷ rest)
        (plain name (signal-bytes n net named r.signal h.signal_there) (word_at n r.trans ∷ rest) (trans r.trans h.there rest (lack-verdict r.verdict h.verdict)))

    lack-secure : (s : Secure) → (row : LogRow) → lack row ≡ true → lack (secure_word s ∷ row) ≡ true
    lack-secure secure.Type1 row k = plain (codes "type1") refl row k
    lack-secure secure.Type2 row k = plain (codes "type2") refl row k

    lack-place_rule : (rule : PlaceRule) → IsLoggablePlaceRule rule → lack (place_rule_words rule) ≡ true
    lack-place_rule (place_rule.Same q) h = plain (codes "same") refl (decimal q ∷ []) (number q h [] refl)
    lack-place_rule place_rule.Loop h = plain (codes "loop") refl [] refl
    lack-place_rule place_rule.Shortcut h = plain (codes "shortcut") refl [] refl

    lack-dummy_rule : (rule : DummyRule) → IsLoggableDummyRule (length n.trans) rule → lack (dummy_rule_words n rule) ≡ true
    lack-dummy_rule dummy_rule.Loop h = plain (codes "loop") refl [] refl
    lack-dummy_rule (dummy_rule.Same u) h = plain (codes "same") refl (word_at n u ∷ []) (trans u h [] refl)

    pub lack-step : (s : Step) → IsLoggableStep (length n.trans) s → lack (step_words n s) ≡ true
    lack-step (Contract t secure k) h =
        plain (codes "contract") refl (word_at n t ∷ secure_word secure ∷ codes "places" ∷ decimal k ∷ [])
        (trans t h.0 (secure_word secure ∷ codes "places" ∷ decimal k ∷ []) (lack-secure secure (codes "places" ∷ decimal k ∷ []) (plain (codes "places") refl (decimal k ∷ []) (number k h.1 [] refl))))
    lack-step (DropPlace found) h =
        let rule = place_rule_words found.rule in
        plain (codes "drop") refl (codes "place" ∷ decimal found.place ∷ rule)
        (plain (codes "place") refl (decimal found.place ∷ rule) (number found.place h.0 rule (lack-place_rule found.rule h.1)))
    lack-step (DropDummy found) h =
        let rule = dummy_rule_words n found.rule in
        plain (codes "drop") refl (codes "dummy" ∷ word_at n found.trans ∷ rule)
        (plain (codes "dummy") refl (word_at n found.trans ∷ rule) (trans found.trans h.0 rule (lack-dummy_rule found.rule h.1)))
