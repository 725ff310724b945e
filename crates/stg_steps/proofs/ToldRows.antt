-- A row that is read is the row of what it tells, and that can be logged.
use Rattle.std.proofs.Common.{◌≡◌, ◌⊎◌, ℕ, Bool, true, false, cond, List, [], ◌∷◌, codes, length, Option, Some, None, option_map, refl, subst, inl, inr}
use Rattle.std.proofs.lemmas.Slice.Eq.{bytes_eq-Decides}
use Rattle.std.specs.Str.{bytes_eq}
use Rattle.stg_net.specs.Net.{NetLists, IsNet, signal_at, trans_at}
use Rattle.stg_contract.specs.declared.verdict.Verdict.{Verdict}
use Rattle.stg_contract.specs.declared.verdict.Verdict.TheVariants as verdict
use Rattle.stg_redundant.specs.declared.found.PlaceRule.{PlaceRule}
use Rattle.stg_redundant.specs.declared.found.PlaceRule.TheVariants as place_rule
use Rattle.stg_redundant.specs.declared.found.DummyRule.{DummyRule}
use Rattle.stg_redundant.specs.declared.found.DummyRule.TheVariants as dummy_rule
use Rattle.stg_derive.specs.Loggable.{IsLoggableVerdict, IsLoggableRecord, IsLoggablePlaceRule, IsLoggableDummyRule, IsLoggableStep}
use Rattle.stg_derive.specs.declared.step.Secure.{Secure}
use Rattle.stg_derive.specs.declared.step.Secure.TheVariants as secure
use Rattle.stg_derive.specs.declared.step.Step.{Step}
use Rattle.stg_derive.specs.declared.step.Step.TheVariants.{Contract, DropPlace, DropDummy}
use Rattle.stg_derive.specs.declared.part.Restore.{Restore}
use Rattle.stg_steps.specs.LogText.{LogRow, verdict_words, restore_words, secure_word, place_rule_words, dummy_rule_words, step_words}
use Rattle.stg_steps.specs.inner.Reading.{trans_words, place_in, number_in, lone_verdict, places_verdict, clash_of, verdict_in, restore_of, restore_in, secure_in, contract_of, contract_in, same_place_of, place_rule_in, drop_place_of, same_dummy_of, dummy_rule_in, drop_dummy_of, drop_in, step_in}
use Rattle.stg_steps.proofs.Gaps.{no_trans}
use Rattle.stg_steps.proofs.TransPlaces.{place_in-told}
use Rattle.stg_steps.proofs.WrittenNumbers.{number_in-told}

pub same_some : {X : Type 0} (P : X → Type 0) (a x : X) → Some a ≡ Some x → P a → P x
same_some {X} P a x e p = subst P (the_same a x e) p
  where
    the_same : (a x : X) → Some a ≡ Some x → a ≡ x
    the_same a x e = cc

pub never : {X : Type 0} (x : X) → None ≡ Some x → ⊥
never x e = cc

-- what a test leaves
pub by_test : {X : Type 0} (b : Bool) (o p : Option X) (x : X) → cond b o p ≡ Some x → ((b ≡ true) × (o ≡ Some x)) ⊎ ((b ≡ false) × (p ≡ Some x))
by_test true o p x e = inl (refl, e)
by_test false o p x e = inr (refl, e)

pub is_word : (w c : List ℕ) → bytes_eq w c ≡ true → w ≡ c
is_word w c h = (bytes_eq-Decides w c).0 h

module _ (n : NetLists) where
  abbrev count : ℕ
  count = length n.trans

  abbrev ToldVerdict : LogRow → Verdict → Type 0
  ToldVerdict row v = (row ≡ verdict_words n v) × IsLoggableVerdict count v

  told-lone : (w : List ℕ) (v : Verdict) → lone_verdict w ≡ Some v → ToldVerdict (w ∷ []) v
  told-lone w v e = elim (by_test (bytes_eq w (codes "loop")) (Some verdict.Loop) _ v e) [
    | inl a ↦ same_some (ToldVerdict (w ∷ [])) verdict.Loop v a.1 ((λ j. is_word w (codes "loop") a.0 j ∷ []), tt)
    | inr b ↦ elim (by_test (bytes_eq w (codes "weight")) (Some verdict.Weight) _ v b.1) [
      | inl a ↦ same_some (ToldVerdict (w ∷ [])) verdict.Weight v a.1 ((λ j. is_word w (codes "weight") a.0 j ∷ []), tt)
      | inr c ↦ elim (by_test (bytes_eq w (codes "insecure")) (Some verdict.Insecure) _ v c.1) [
        | inl a ↦ same_some (ToldVerdict (w ∷ [])) verdict.Insecure v a.1 ((λ j. is_word w (codes "insecure") a.0 j ∷ []), tt)
        | inr d ↦ elim (by_test (bytes_eq w (codes "large")) (Some verdict.Large) None v d.1) [
          | inl a ↦ same_some (ToldVerdict (w ∷ [])) verdict.Large v a.1 ((λ j. is_word w (codes "large") a.0 j ∷ []), tt)
          | inr f ↦ absurd (never v f.1)
        ]
      ]
    ]
  ]

  told-places : (w k : List ℕ) (v : Verdict) → w ≡ codes "places" → places_verdict k ≡ Some v → ToldVerdict (w ∷ k ∷ []) v
  told-places w k v is e = by (number_in k) refl e
    where
      by : (o : Option ℕ) → number_in k ≡ o → option_map (λ p. verdict.Places p) o ≡ Some v → ToldVerdict (w ∷ k ∷ []) v
      by None at h = absurd (never v h)
      by (Some p) at h =
          let told = number_in-told k p at in
          same_some (ToldVerdict (w ∷ k ∷ [])) (verdict.Places p) v h ((λ j. is j ∷ told.1 j ∷ []), told.0)

  told-clash : (w t u : List ℕ) (v : Verdict) → w ≡ codes "clash" → clash_of (place_in (trans_words n) t) (place_in (trans_words n) u) ≡ Some v → ToldVerdict (w ∷ t ∷ u ∷ []) v
  told-clash w t u v is e = by (place_in (trans_words n) t) (place_in (trans_words n) u) refl refl e
    where
      by : (o p : Option ℕ) → place_in (trans_words n) t ≡ o → place_in (trans_words n) u ≡ p → clash_of o p ≡ Some v → ToldVerdict (w ∷ t ∷ u ∷ []) v
      by None p at too h = absurd (never v h)
      by (Some a) None at too h = absurd (never v h)
      by (Some a) (Some b) at too h =
          let first = place_in-told n t a at in
          let second = place_in-told n u b too in
          same_some (ToldVerdict (w ∷ t ∷ u ∷ [])) (verdict.Clash a b) v h ((λ j. is j ∷ first.1 j ∷ second.1 j ∷ []), (first.0, second.0))

  told-verdict : (row : LogRow) (v : Verdict) → verdict_in (trans_words n) row ≡ Some v → ToldVerdict row v
  told-verdict [] v e = absurd (never v e)
  told-verdict (w ∷ []) v e = told-lone w v e
  told-verdict (w ∷ k ∷ []) v e = elim (by_test (bytes_eq w (codes "places")) (places_verdict k) None v e) [
    | inl a ↦ told-places w k v (is_word w (codes "places") a.0) a.1
    | inr b ↦ absurd (never v b.1)
  ]
  told-verdict (w ∷ t ∷ u ∷ []) v e = elim (by_test (bytes_eq w (codes "clash")) (clash_of (place_in (trans_words n) t) (place_in (trans_words n) u)) None v e) [
    | inl a ↦ told-clash w t u v (is_word w (codes "clash") a.0) a.1
    | inr b ↦ absurd (never v b.1)
  ]
  told-verdict (w ∷ t ∷ u ∷ x ∷ row) v e = absurd (never v e)

  -- a record
  abbrev pub ToldRecord : LogRow → Restore → Type 0
  ToldRecord row r = (row ≡ restore_words n r) × IsLoggableRecord n r

  pub told-record : IsNet n → (w : List ℕ) (row : LogRow) (r : Restore) → w ≡ codes "restore" → restore_in n (trans_words n) row ≡ Some r → ToldRecord (w ∷ row) r
  told-record net w [] r is e = absurd (never r e)
  told-record net w (name ∷ []) r is e = absurd (never r e)
  told-record net w (name ∷ t ∷ rest) r is e = by (place_in (trans_words n) t) (verdict_in (trans_words n) rest) refl refl e
    where
      by : (o : Option ℕ) (p : Option Verdict) → place_in (trans_words n) t ≡ o → verdict_in (trans_words n) rest ≡ p → restore_of n name o p ≡ Some r → ToldRecord (w ∷ name ∷ t ∷ rest) r
      by None p at too h = absurd (never r h)
      by (Some a) None at too h = absurd (never r h)
      by (Some a) (Some v) at too h =
          let trans = place_in-told n t a at in
          let verdict = told-verdict rest v too in
          let signal = (trans_at n.trans a).signal in
          elim (by_test (bytes_eq name (signal_at n.signals signal).name) (Some (record { signal = signal; trans = a; verdict = v })) None r h) [
            | inl y ↦ same_some (ToldRecord (w ∷ name ∷ t ∷ rest)) (record { signal = signal; trans = a; verdict = v }) r y.1 (
              (λ j. is j ∷ is_word name (signal_at n.signals signal).name y.0 j ∷ trans.1 j ∷ verdict.0 j),
              record { there = trans.0; signal_there = net.trans_signals a no_trans trans.0; signal_is = refl; verdict = verdict.1 },
            )
            | inr z ↦ absurd (never r z.1)
          ]

  -- a step
  abbrev pub ToldStep : LogRow → Step → Type 0
  ToldStep row s = (row ≡ step_words n s) × IsLoggableStep count s

  told-secure : (w : List ℕ) (s : Secure) → secure_in w ≡ Some s → w ≡ secure_word s
  told-secure w s e = elim (by_test (bytes_eq w (codes "type1")) (Some secure.Type1) _ s e) [
    | inl a ↦ same_some (λ x. w ≡ secure_word x) secure.Type1 s a.1 (is_word w (codes "type1") a.0)
    | inr b ↦ elim (by_test (bytes_eq w (codes "type2")) (Some secure.Type2) None s b.1) [
      | inl a ↦ same_some (λ x. w ≡ secure_word x) secure.Type2 s a.1 (is_word w (codes "type2") a.0)
      | inr c ↦ absurd (never s c.1)
    ]
  ]

  told-contract : (w : List ℕ) (row : LogRow) (s : Step) → w ≡ codes "contract" → contract_in (trans_words n) row ≡ Some s → ToldStep (w ∷ row) s
  told-contract w [] s is e = absurd (never s e)
  told-contract w (t ∷ []) s is e = absurd (never s e)
  told-contract w (t ∷ kind ∷ []) s is e = absurd (never s e)
  told-contract w (t ∷ kind ∷ p ∷ []) s is e = absurd (never s e)
  told-contract w (t ∷ kind ∷ p ∷ k ∷ []) s is e = elim (by_test (bytes_eq p (codes "places")) (contract_of (place_in (trans_words n) t) (secure_in kind) (number_in k)) None s e) [
    | inl y ↦ by (place_in (trans_words n) t) (secure_in kind) (number_in k) (is_word p (codes "places") y.0) refl refl refl y.1
    | inr z ↦ absurd (never s z.1)
  ]
    where
      by : (a : Option ℕ) (b : Option Secure) (d : Option ℕ) → p ≡ codes "places" → place_in (trans_words n) t ≡ a → secure_in kind ≡ b → number_in k ≡ d → contract_of a b d ≡ Some s → ToldStep (w ∷ t ∷ kind ∷ p ∷ k ∷ []) s
      by None b d places at_t at_kind at_k h = absurd (never s h)
      by (Some a) None d places at_t at_kind at_k h = absurd (never s h)
      by (Some a) (Some b) None places at_t at_kind at_k h = absurd (never s h)
      by (Some a) (Some b) (Some d) places at_t at_kind at_k h =
          let trans = place_in-told n t a at_t in
          let number = number_in-told k d at_k in
          same_some (ToldStep (w ∷ t ∷ kind ∷ p ∷ k ∷ [])) (Contract a b d) s h
          ((λ j. is j ∷ trans.1 j ∷ told-secure kind b at_kind j ∷ places j ∷ number.1 j ∷ []), (trans.0, number.0))
  told-contract w (t ∷ kind ∷ p ∷ k ∷ x ∷ row) s is e = absurd (never s e)

  abbrev ToldPlaceRule : LogRow → PlaceRule → Type 0
  ToldPlaceRule row rule = (row ≡ place_rule_words rule) × IsLoggablePlaceRule rule

  told-same_place : (w q : List ℕ) (rule : PlaceRule) → w ≡ codes "same" → same_place_of (number_in q) ≡ Some rule → ToldPlaceRule (w ∷ q ∷ []) rule
  told-same_place w q rule is e = by (number_in q) refl e
    where
      by : (o : Option ℕ) → number_in q ≡ o → same_place_of o ≡ Some rule → ToldPlaceRule (w ∷ q ∷ []) rule
      by None at h = absurd (never rule h)
      by (Some a) at h =
          let told = number_in-told q a at in
          same_some (ToldPlaceRule (w ∷ q ∷ [])) (place_rule.Same a) rule h ((λ j. is j ∷ told.1 j ∷ []), told.0)

  told-place_rule : (row : LogRow) (rule : PlaceRule) → place_rule_in row ≡ Some rule → ToldPlaceRule row rule
  told-place_rule [] rule e = absurd (never rule e)
  told-place_rule (w ∷ []) rule e = elim (by_test (bytes_eq w (codes "loop")) (Some place_rule.Loop) _ rule e) [
    | inl a ↦ same_some (ToldPlaceRule (w ∷ [])) place_rule.Loop rule a.1 ((λ j. is_word w (codes "loop") a.0 j ∷ []), tt)
    | inr b ↦ elim (by_test (bytes_eq w (codes "shortcut")) (Some place_rule.Shortcut) None rule b.1) [
      | inl a ↦ same_some (ToldPlaceRule (w ∷ [])) place_rule.Shortcut rule a.1 ((λ j. is_word w (codes "shortcut") a.0 j ∷ []), tt)
      | inr c ↦ absurd (never rule c.1)
    ]
  ]
  told-place_rule (w ∷ q ∷ []) rule e = elim (by_test (bytes_eq w (codes "same")) (same_place_of (number_in q)) None rule e) [
    | inl a ↦ told-same_place w q rule (is_word w (codes "same") a.0) a.1
    | inr b ↦ absurd (never rule b.1)
  ]
  told-place_rule (w ∷ q ∷ x ∷ row) rule e = absurd (never rule e)

  abbrev ToldDummyRule : LogRow → DummyRule → Type 0
  ToldDummyRule row rule = (row ≡ dummy_rule_words n rule) × IsLoggableDummyRule count rule

  told-same_dummy : (w u : List ℕ) (rule : DummyRule) → w ≡ codes "same" → same_dummy_of (place_in (trans_words n) u) ≡ Some rule → ToldDummyRule (w ∷ u ∷ []) rule
  told-same_dummy w u rule is e = by (place_in (trans_words n) u) refl e
    where
      by : (o : Option ℕ) → place_in (trans_words n) u ≡ o → same_dummy_of o ≡ Some rule → ToldDummyRule (w ∷ u ∷ []) rule
      by None at h = absurd (never rule h)
      by (Some a) at h =
          let told = place_in-told n u a at in
          same_some (ToldDummyRule (w ∷ u ∷ [])) (dummy_rule.Same a) rule h ((λ j. is j ∷ told.1 j ∷ []), told.0)

  told-dummy_rule : (row : LogRow) (rule : DummyRule) → dummy_rule_in (trans_words n) row ≡ Some rule → ToldDummyRule row rule
  told-dummy_rule [] rule e = absurd (never rule e)
  told-dummy_rule (w ∷ []) rule e = elim (by_test (bytes_eq w (codes "loop")) (Some dummy_rule.Loop) None rule e) [
    | inl a ↦ same_some (ToldDummyRule (w ∷ [])) dummy_rule.Loop rule a.1 ((λ j. is_word w (codes "loop") a.0 j ∷ []), tt)
    | inr b ↦ absurd (never rule b.1)
  ]
  told-dummy_rule (w ∷ u ∷ []) rule e = elim (by_test (bytes_eq w (codes "same")) (same_dummy_of (place_in (trans_words n) u)) None rule e) [
    | inl a ↦ told-same_dummy w u rule (is_word w (codes "same") a.0) a.1
    | inr b ↦ absurd (never rule b.1)
  ]
  told-dummy_rule (w ∷ u ∷ x ∷ row) rule e = absurd (never rule e)

  told-drop_place : (w what which : List ℕ) (row : LogRow) (s : Step) → w ≡ codes "drop" → what ≡ codes "place" → drop_place_of (number_in which) (place_rule_in row) ≡ Some s → ToldStep (w ∷ what ∷ which ∷ row) s
  told-drop_place w what which row s is kind e = by (number_in which) (place_rule_in row) refl refl e
    where
      by : (o : Option ℕ) (p : Option PlaceRule) → number_in which ≡ o → place_rule_in row ≡ p → drop_place_of o p ≡ Some s → ToldStep (w ∷ what ∷ which ∷ row) s
      by None p at too h = absurd (never s h)
      by (Some a) None at too h = absurd (never s h)
      by (Some a) (Some rule) at too h =
          let number = number_in-told which a at in
          let told = told-place_rule row rule too in
          same_some (ToldStep (w ∷ what ∷ which ∷ row)) (DropPlace (record { place = a; rule = rule })) s h
          ((λ j. is j ∷ kind j ∷ number.1 j ∷ told.0 j), (number.0, told.1))

  told-drop_dummy : (w what which : List ℕ) (row : LogRow) (s : Step) → w ≡ codes "drop" → what ≡ codes "dummy" → drop_dummy_of (place_in (trans_words n) which) (dummy_rule_in (trans_words n) row) ≡ Some s → ToldStep (w ∷ what ∷ which ∷ row) s
  told-drop_dummy w what which row s is kind e = by (place_in (trans_words n) which) (dummy_rule_in (trans_words n) row) refl refl e
    where
      by : (o : Option ℕ) (p : Option DummyRule) → place_in (trans_words n) which ≡ o → dummy_rule_in (trans_words n) row ≡ p → drop_dummy_of o p ≡ Some s → ToldStep (w ∷ what ∷ which ∷ row) s
      by None p at too h = absurd (never s h)
      by (Some a) None at too h = absurd (never s h)
      by (Some a) (Some rule) at too h =
          let trans = place_in-told n which a at in
          let told = told-dummy_rule row rule too in
          same_some (ToldStep (w ∷ what ∷ which ∷ row)) (DropDummy (record { trans = a; rule = rule })) s h
          ((λ j. is j ∷ kind j ∷ trans.1 j ∷ told.0 j), (trans.0, told.1))

  told-drop : (w : List ℕ) (row : LogRow) (s : Step) → w ≡ codes "drop" → drop_in (trans_words n) row ≡ Some s → ToldStep (w ∷ row) s
  told-drop w [] s is e = absurd (never s e)
  told-drop w (what ∷ []) s is e = absurd (never s e)
  told-drop w (what ∷ which ∷ row) s is e = elim (by_test (bytes_eq what (codes "place")) (drop_place_of (number_in which) (place_rule_in row)) _ s e) [
    | inl a ↦ told-drop_place w what which row s is (is_word what (codes "place") a.0) a.1
    | inr b ↦ elim (by_test (bytes_eq what (codes "dummy")) (drop_dummy_of (place_in (trans_words n) which) (dummy_rule_in (trans_words n) row)) None s b.1) [
      | inl a ↦ told-drop_dummy w what which row s is (is_word what (codes "dummy") a.0) a.1
      | inr c ↦ absurd (never s c.1)
    ]
  ]

  pub told-step : (row : LogRow) (s : Step) → step_in (trans_words n) row ≡ Some s → ToldStep row s
  told-step [] s e = absurd (never s e)
  told-step (w ∷ row) s e = elim (by_test (bytes_eq w (codes "contract")) (contract_in (trans_words n) row) _ s e) [
    | inl a ↦ told-contract w row s (is_word w (codes "contract") a.0) a.1
    | inr b ↦ elim (by_test (bytes_eq w (codes "drop")) (drop_in (trans_words n) row) None s b.1) [
      | inl a ↦ told-drop w row s (is_word w (codes "drop") a.0) a.1
      | inr c ↦ absurd (never s c.1)
    ]
  ]
