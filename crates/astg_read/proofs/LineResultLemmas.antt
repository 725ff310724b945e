-- What comes of a line, by what it says and by the counts after it.
use Rattle.std.proofs.Common.{◌≡◌, List, [], ◌∷◌, ◌++◌, Bool, true, false, cond, not, drop, ◌⊎◌, ◌&&◌, length, nat_lt, refl, sym, ap, subst, ◌∙◌, inl, inr, Some, None, Option, Result, Ok, Err, append-nil}
use Rattle.std.proofs.Math.Bool.{and-true, and-false}
use Rattle.std.proofs.lemmas.Bool.{cases_Bool, and_parts, false≢true}
use Rattle.std.proofs.lemmas.Slice.Eq.{bytes_eq-Decides}
use Rattle.std.specs.Prelude.{codes}
use Rattle.stg_net.specs.declared.limits.Limits.{Limits}
use Rattle.stg_net.specs.declared.signal.Kind.{Kind}
use Rattle.stg_net.specs.declared.signal.Kind.TheVariants.{Input, Output, Internal}
use Rattle.stg_net.specs.declared.signal.Signal.{Signal}
use Rattle.astg_read.specs.declared.rule.Rule.{Rule}
use Rattle.astg_read.specs.declared.rule.Rule.TheVariants.{TooMany, HasDummy, UnknownDirective}
use Rattle.astg_read.specs.declared.line_error.LineError.{LineError}
use Rattle.astg_read.specs.declared.line_error.LineError.TheVariants.{Broken, NoMemory}
use Rattle.astg_read.specs.Rows.{Word, Row, begins, begins_with_dot, other_words}
use Rattle.astg_read.specs.Markings.{is_unfinished}
use Rattle.astg_read.specs.Said.{Said}
use Rattle.astg_read.specs.Rules.{first_broken, line_rules, outside_rules, has_too_many, has_dummy, breaks_directive, ends_text}
use Rattle.astg_read.specs.inner.Growth.{after_row, after_graph, with_header}
use Rattle.astg_read.specs.inner.LineResult.{line_fault, Says, Takes, verdict, said_up_to, with_count, directive}
use Rattle.astg_read.proofs.Verdicts.{or_later, past, stop, verdict-outside}

-- the rules before and the rules after
pub first_broken-append : (xs ys : List (Bool × Rule)) → first_broken (xs ++ ys) ≡ or_later (first_broken xs) (first_broken ys)
first_broken-append [] ys = refl
first_broken-append (x ∷ xs) ys = elim (cases_Bool x.0) [
  | inl k ↦ stop x.0 (Some x.1) (first_broken (xs ++ ys)) k ∙ sym (ap (λ b. or_later (cond b (Some x.1) (first_broken xs)) (first_broken ys)) k)
  | inr k ↦ past x.0 (Some x.1) (first_broken (xs ++ ys)) k ∙ first_broken-append xs ys ∙ sym (ap (λ b. or_later (cond b (Some x.1) (first_broken xs)) (first_broken ys)) k)
]

-- a line outside a marking that declares no dummies
pub verdict-said : (limits : Limits) (k : Said) (row : Row) → is_unfinished k.marking ≡ false → begins (codes ".dummy") row ≡ false
    → verdict limits k row ≡ or_later (line_fault limits.weight k row) (cond (has_too_many limits (after_row k row)) (Some TooMany) None)
verdict-said limits k row h e =
    verdict-outside limits k row h
    ∙ first_broken-append (line_rules limits.weight k row) ((not (begins (codes ".dummy") row) && has_too_many limits (after_row k row), TooMany) ∷ (has_dummy row, HasDummy) ∷ [])
    ∙ (λ j. or_later (line_fault limits.weight k row) (cond (not (e j) && has_too_many limits (after_row k row)) (Some TooMany) (cond (e j && nat_lt 0 (length (other_words row))) (Some HasDummy) None)))

-- a line that declares dummies
pub verdict-dummies : (limits : Limits) (k : Said) (names : Row) → is_unfinished k.marking ≡ false
    → verdict limits k (codes ".dummy" ∷ names) ≡ or_later (line_fault limits.weight k (codes ".dummy" ∷ names)) (cond (nat_lt 0 (length names)) (Some HasDummy) None)
verdict-dummies limits k names h =
    verdict-outside limits k (codes ".dummy" ∷ names) h
    ∙ first_broken-append (line_rules limits.weight k (codes ".dummy" ∷ names)) ((false, TooMany) ∷ (has_dummy (codes ".dummy" ∷ names), HasDummy) ∷ [])

-- a line that begins with .end
pub end-row : (row : Row) → begins (codes ".end") row ≡ true → row ≡ codes ".end" ∷ other_words row
end-row [] h = absurd (false≢true h)
end-row (w ∷ ws) h = ap (λ v. v ∷ ws) ((bytes_eq-Decides w (codes ".end")).0 h)

-- a line that begins with .dummy
pub dummy-row : (row : Row) → begins (codes ".dummy") row ≡ true → row ≡ codes ".dummy" ∷ other_words row
dummy-row [] h = absurd (false≢true h)
dummy-row (w ∷ ws) h = ap (λ v. v ∷ ws) ((bytes_eq-Decides w (codes ".dummy")).0 h)

-- where neither has a rule
pub or_later-none : (f g : Option Rule) → or_later f g ≡ None → (f ≡ None) × (g ≡ None)
or_later-none None g h = (refl, h)
or_later-none (Some r) g h = cc

-- it changes no count
after-end : (limits : Limits) (k : Said) (ws : Row) → has_too_many limits (after_row k (codes ".end" ∷ ws)) ≡ has_too_many limits k
after-end limits k ws = elim (cases_Bool k.has_graph) [
  | inl h ↦ ap (λ b. has_too_many limits (cond b (after_graph k k.marking (codes ".end" ∷ ws)) (with_header k (codes ".end" ∷ ws)))) h ∙ by_marking k.marking
  | inr h ↦ ap (λ b. has_too_many limits (cond b (after_graph k k.marking (codes ".end" ∷ ws)) (with_header k (codes ".end" ∷ ws)))) h
      ∙ ap (λ (ss : List Signal). has_too_many limits (record k { declared = record { signals = ss; dummies = k.declared.dummies } })) (append-nil k.declared.signals)
]
  where
    by_marking : (m : Option Row) → has_too_many limits (after_graph k m (codes ".end" ∷ ws)) ≡ has_too_many limits k
    by_marking None = refl
    by_marking (Some words) = refl

-- outside a marking .end ends the text, and inside nothing does
pub ends-outside : (k : Said) (row : Row) → is_unfinished k.marking ≡ false → ends_text k row ≡ begins (codes ".end") row
ends-outside k row h = ap (λ u. begins (codes ".end") row && not u) h ∙ and-true (begins (codes ".end") row)

pub ends-inside : (k : Said) (row : Row) → is_unfinished k.marking ≡ true → ends_text k row ≡ false
ends-inside k row h = ap (λ u. begins (codes ".end") row && not u) h ∙ and-false (begins (codes ".end") row)

pub too-said_up_to : (limits : Limits) (k : Said) (row : Row) → has_too_many limits (after_row k row) ≡ has_too_many limits (said_up_to k row)
too-said_up_to limits k row = elim (cases_Bool (ends_text k row)) [
  | inl h ↦ ap (λ r. has_too_many limits (after_row k r)) (end-row row (and_parts (begins (codes ".end") row) (not (is_unfinished k.marking)) h).0) ∙ after-end limits k (other_words row) ∙ sym (ap (has_too_many limits) (stop (ends_text k row) k (after_row k row) h))
  | inr h ↦ sym (ap (has_too_many limits) (past (ends_text k row) k (after_row k row) h))
]

-- what was said and counted is what comes of the line
pub says-with_count : (limits : Limits) (k new : Said) (row : Row) (said result : Result (Unit {0}) LineError) → is_unfinished k.marking ≡ false → begins (codes ".dummy") row ≡ false
    → Says limits.weight k row said new → result ≡ with_count (has_too_many limits new) said → Takes limits k row result new
says-with_count limits k new row (Ok done) result h e s r =
    let f : verdict limits k row ≡ cond (has_too_many limits new) (Some TooMany) None =
    verdict-said limits k row h e ∙ ap (λ f. or_later f (cond (has_too_many limits (after_row k row)) (Some TooMany) None)) s.0
    ∙ ap (λ b. cond b (Some TooMany) None) (too-said_up_to limits k row ∙ ap (has_too_many limits) (sym s.1)) in
    elim (cases_Bool (has_too_many limits new)) [
      | inl t ↦ subst (λ x. Takes limits k row x new) (sym (r ∙ stop (has_too_many limits new) (Err (Broken TooMany)) (Ok done) t)) (f ∙ stop (has_too_many limits new) (Some TooMany) None t)
      | inr t ↦ subst (λ x. Takes limits k row x new) (sym (r ∙ past (has_too_many limits new) (Err (Broken TooMany)) (Ok done) t)) (f ∙ past (has_too_many limits new) (Some TooMany) None t, s.1)
    ]
says-with_count limits k new row (Err (Broken rule)) result h e s r =
    subst (λ x. Takes limits k row x new) (sym r) (verdict-said limits k row h e ∙ ap (λ f. or_later f (cond (has_too_many limits (after_row k row)) (Some TooMany) None)) s)
says-with_count limits k new row (Err NoMemory) result h e s r = subst (λ x. Takes limits k row x new) (sym r) tt

-- what a line says where the graph has begun
pub after-begun : (k : Said) (m : Option Row) (row : Row) → k.has_graph ≡ true → k.marking ≡ m → after_row k row ≡ after_graph k m row
after-begun k m row h e = ap (λ b. cond b (after_graph k k.marking row) (with_header k row)) h ∙ ap (λ o. after_graph k o row) e

pub after-before : (k : Said) (row : Row) → k.has_graph ≡ false → after_row k row ≡ with_header k row
after-before k row h = ap (λ b. cond b (after_graph k k.marking row) (with_header k row)) h

-- where no rule is broken each test fails
pub broken-head : (r : Bool × Rule) (rs : List (Bool × Rule)) → first_broken (r ∷ rs) ≡ None → (r.0 ≡ false) × (first_broken rs ≡ None)
broken-head r rs h = elim (cases_Bool r.0) [
  | inl k ↦ absurd (some_none (sym (stop r.0 (Some r.1) (first_broken rs) k) ∙ h))
  | inr k ↦ (k, sym (past r.0 (Some r.1) (first_broken rs) k) ∙ h)
]
  where
    some_none : Some r.1 ≡ None → ⊥
    some_none e = cc

-- lines of these kinds declare no dummies
pub titles-no_dummies : (w : Word) (ws : Row) → (w ≡ codes ".model") ⊎ (w ≡ codes ".name") → begins (codes ".dummy") (w ∷ ws) ≡ false
titles-no_dummies w ws (inl e) = ap (λ v. begins (codes ".dummy") (v ∷ ws)) e
titles-no_dummies w ws (inr e) = ap (λ v. begins (codes ".dummy") (v ∷ ws)) e

pub kinds-no_dummies : (kind : Kind) (ws : Row) → begins (codes ".dummy") (directive kind ∷ ws) ≡ false
kinds-no_dummies Input ws = refl
kinds-no_dummies Output ws = refl
kinds-no_dummies Internal ws = refl

pub nodes-no_dummies : (w : Word) (ws : Row) → begins_with_dot w ≡ false → begins (codes ".dummy") (w ∷ ws) ≡ false
nodes-no_dummies [] ws h = refl
nodes-no_dummies (c ∷ cs) ws h = rw h refl

-- an unknown directive
pub verdict-unknown : (limits : Limits) (k : Said) (row : Row) → is_unfinished k.marking ≡ false → breaks_directive row ≡ true → verdict limits k row ≡ Some UnknownDirective
verdict-unknown limits k row h u =
    verdict-outside limits k row h ∙ stop (breaks_directive row) (Some UnknownDirective) (first_broken (drop 1 (outside_rules false limits k (after_row k row) row))) u
