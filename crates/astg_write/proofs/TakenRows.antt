-- Rows that break no rule, one after the other.
use Rattle.std.proofs.Common.{◌≡◌, ◌+◌, ◌&&◌, ℕ, List, [], ◌∷◌, ◌++◌, Bool, true, false, cond, not, length, map, refl, sym, ap, subst, ◌∙◌, Some, None, append_assoc, append-nil}
use Rattle.std.proofs.lemmas.Bool.{and_left, and_right}
use Rattle.std.specs.Prelude.{codes, Result, Ok}
use Rattle.stg_net.specs.declared.limits.Limits.{Limits}
use Rattle.astg_read.specs.declared.rule.Rule.{Rule}
use Rattle.astg_read.specs.declared.rule.Rule.TheVariants.{TooMany, HasDummy}
use Rattle.astg_read.specs.Rows.{Row, begins}
use Rattle.astg_read.specs.Said.{Said, said}
use Rattle.astg_read.specs.Markings.{is_unfinished}
use Rattle.astg_read.specs.Rules.{Line, rules, first_broken, line_rules, has_too_many, has_dummy, ends_text}
use Rattle.astg_read.specs.Reading.{Meaning, Fault, meaning_of, or_fault, reading_after}
use Rattle.astg_read.specs.inner.Growth.{after_row}
use Rattle.astg_read.specs.inner.LineResult.{line_fault, verdict}
use Rattle.astg_read.proofs.GrowthLemmas.{said-after}
use Rattle.astg_read.proofs.Verdicts.{verdict-outside}
use Rattle.astg_write.proofs.WrittenWords.{good_line}

-- the row breaks no rule and isn't the last
pub record IsTaken (limits : Limits) (k : Said) (row : Row) : Type 0 where
  pub good : verdict limits k row ≡ None
  pub goes_on : begins (codes ".end") row ≡ false

-- the rows break no rule, and this is what they say with what was said
abbrev pub Takes : Limits → Said → List Row → Said → Type 0
Takes limits k [] after = k ≡ after
Takes limits k (row ∷ rows) after = IsTaken limits k row × Takes limits (after_row k row) rows after

pub Takes-append : (limits : Limits) (k m after : Said) (r s : List Row) → Takes limits k r m → Takes limits m s after → Takes limits k (r ++ s) after
Takes-append limits k m after [] s h q = subst (λ x. Takes limits x s after) (sym h) q
Takes-append limits k m after (row ∷ r) s h q = (h.0, Takes-append limits (after_row k row) m after r s h.1 q)

pub Takes-one : (limits : Limits) (k after : Said) (row : Row) → IsTaken limits k row → after_row k row ≡ after → Takes limits k (row ∷ []) after
Takes-one limits k after row h e = (h, e)

step : (limits : Limits) (last : ℕ) (before : List Row) (row : Row) (ls : List Line) → IsTaken limits (said before) row
    → reading_after false limits last before (good_line row ∷ ls) ≡ reading_after false limits last (before ++ row ∷ []) ls
step limits last before row ls h =
    let later : Result Meaning Fault = cond (ends_text (said before) row) (Ok (meaning_of (said before))) (reading_after false limits last (before ++ row ∷ []) ls) in
    ap (λ m. or_fault (length before + 1) (first_broken (rules false limits (said before) m (good_line row))) later) (said-after before row)
    ∙ ap (λ f. or_fault (length before + 1) f later) h.good
    ∙ ap (λ b. cond b (Ok (meaning_of (said before))) (reading_after false limits last (before ++ row ∷ []) ls)) (and_left (begins (codes ".end") row) (not (is_unfinished (said before).marking)) h.goes_on)

-- rows that break no rule are gone over
pub reading-taken : (limits : Limits) (last : ℕ) (before rows : List Row) (ls : List Line) (after : Said) → Takes limits (said before) rows after
    → (reading_after false limits last before (map good_line rows ++ ls) ≡ reading_after false limits last (before ++ rows) ls) × (said (before ++ rows) ≡ after)
reading-taken limits last before [] ls after h =
    (ap (λ b. reading_after false limits last b ls) (sym (append-nil before)), ap said (append-nil before) ∙ h)
reading-taken limits last before (row ∷ rows) ls after h =
    let more = reading-taken limits last (before ++ row ∷ []) rows ls after (subst (λ k. Takes limits k rows after) (sym (said-after before row)) h.1) in
    let same : (before ++ row ∷ []) ++ rows ≡ before ++ row ∷ rows = append_assoc before (row ∷ []) rows in
    (step limits last before row (map good_line rows ++ ls) h.0 ∙ more.0 ∙ ap (λ b. reading_after false limits last b ls) same, ap said (sym same) ∙ more.1)

-- the last row ends it
pub reading-end : (limits : Limits) (last : ℕ) (before : List Row) (k : Said) (ls : List Line) → said before ≡ k → is_unfinished k.marking ≡ false → verdict limits k (codes ".end" ∷ []) ≡ None
    → reading_after false limits last before (good_line (codes ".end" ∷ []) ∷ ls) ≡ Ok (meaning_of k)
reading-end limits last before k ls e u h =
    let row = codes ".end" ∷ [] in
    let later = λ (m : Said). cond (not (is_unfinished m.marking)) (Ok (meaning_of m)) (reading_after false limits last (before ++ row ∷ []) ls) in
    ap (λ m. or_fault (length before + 1) (first_broken (rules false limits (said before) m (good_line row))) (later (said before))) (said-after before row)
    ∙ ap (λ m. or_fault (length before + 1) (verdict limits m row) (later m)) e
    ∙ ap (λ f. or_fault (length before + 1) f (later k)) h
    ∙ ap (λ b. cond (not b) (Ok (meaning_of k)) (reading_after false limits last (before ++ row ∷ []) ls)) u

first-append : (rs : List (Bool × Rule)) (ss : List (Bool × Rule)) → first_broken rs ≡ None → first_broken (rs ++ ss) ≡ first_broken ss
first-append [] ss h = refl
first-append (r ∷ rs) ss h = by_case r.0 h (first-append rs ss)
  where
    by_case : (b : Bool) → cond b (Some r.1) (first_broken rs) ≡ None → (first_broken rs ≡ None → first_broken (rs ++ ss) ≡ first_broken ss) → cond b (Some r.1) (first_broken (rs ++ ss)) ≡ first_broken ss
    by_case true e more = cc
    by_case false e more = more e

-- outside a marking: what the row says breaks no rule, it is within the limits, and no dummy is declared
pub verdict-good : (limits : Limits) (k : Said) (row : Row) → is_unfinished k.marking ≡ false → line_fault limits.weight k row ≡ None
    → has_too_many limits (after_row k row) ≡ false → has_dummy row ≡ false → verdict limits k row ≡ None
verdict-good limits k row u f m d =
    verdict-outside limits k row u
    ∙ first-append (line_rules limits.weight k row) ((not (begins (codes ".dummy") row) && has_too_many limits (after_row k row), TooMany) ∷ (has_dummy row, HasDummy) ∷ []) f
    ∙ ap (λ b. cond b (Some TooMany) (cond (has_dummy row) (Some HasDummy) None)) (and_right (not (begins (codes ".dummy") row)) (has_too_many limits (after_row k row)) m)
    ∙ ap (λ b. cond b (Some HasDummy) None) d
