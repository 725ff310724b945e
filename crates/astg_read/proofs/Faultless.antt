-- What each line that is taken keeps.
use Rattle.std.proofs.Common.{◌≡◌, ℕ, ◌≤◌, List, [], ◌∷◌, ◌++◌, Bool, true, false, cond, not, drop, unwrap_or, ◌||◌, ◌&&◌, length, nat_lt, refl, sym, ap, subst, ◌∙◌, inl, inr, Some, None, Option, is_some, MatchOption, append-nil, arith}
use Rattle.std.proofs.Math.Bool.{and-true}
use Rattle.std.proofs.lemmas.Bool.{cases_Bool, cases_lt, lt-ltb, le-ltb, or_parts, true≢false, false≢true}
use Rattle.std.proofs.lemmas.Slice.Eq.{bytes_eq-Decides}
use Rattle.std.specs.Prelude.{codes, ⊤}
use Rattle.stg_net.specs.declared.limits.Limits.{Limits}
use Rattle.stg_net.specs.declared.signal.Signal.{Signal}
use Rattle.astg_read.specs.declared.rule.Rule.{Rule}
use Rattle.astg_read.specs.declared.rule.Rule.TheVariants.{BadMarking, TooMany, HasDummy, UnknownDirective, OutOfOrder}
use Rattle.astg_read.specs.Rows.{Word, Row, begins, other_words, is_header, is_directive, is_graph_row}
use Rattle.astg_read.specs.Markings.{before_close, is_bad_marking, is_unfinished}
use Rattle.astg_read.specs.Said.{Said, arcs_in}
use Rattle.astg_read.specs.Rules.{line_rules, has_too_many, breaks_directive, breaks_order, breaks_marking, marking_with, ends_text}
use Rattle.astg_read.specs.inner.Growth.{after_row, after_graph, with_names, with_graph_row}
use Rattle.astg_read.specs.inner.WellFormed.{IsWellFormed}
use Rattle.astg_read.specs.declared.reader.Reader.{Reader}
use Rattle.astg_read.specs.inner.NoDummies.{without_dummies}
use Rattle.astg_read.specs.inner.MarkingCheck.{IsSettled}
use Rattle.astg_read.specs.inner.LineResult.{line_fault, verdict, said_up_to, nothing, said_of, IsGood, IsFaultless, IsSettledIn}
use Rattle.astg_read.proofs.Verdicts.{past, stop, verdict-inside}
use Rattle.astg_read.proofs.LineResultLemmas.{verdict-said, verdict-dummies, too-said_up_to, ends-outside, ends-inside, broken-head, dummy-row, or_later-none, after-begun, after-before}
use Rattle.astg_read.proofs.WellFormedLemmas.{well_formed-after, well_formed-marking}

-- a marking with words has the graph before it, and is good
pub good-some : (most : ℕ) (k : Said) (words : Row) → k.marking ≡ Some words → IsGood most k → (k.has_graph ≡ true) × (is_bad_marking most k.declared k.places words ≡ false)
good-some most k words e g = subst (λ m. MatchOption m ⊤ (λ ws. (k.has_graph ≡ true) × (is_bad_marking most k.declared k.places ws ≡ false))) e g

said_up_to-end : (k : Said) (row : Row) → ends_text k row ≡ true → said_up_to k row ≡ k
said_up_to-end k row h = stop (ends_text k row) k (after_row k row) h

said_up_to-else : (k : Said) (row : Row) → ends_text k row ≡ false → said_up_to k row ≡ after_row k row
said_up_to-else k row h = past (ends_text k row) k (after_row k row) h

-- the marking begins on this line
marking-row : (row : Row) → begins (codes ".marking") row ≡ true → row ≡ codes ".marking" ∷ other_words row
marking-row [] h = absurd (false≢true h)
marking-row (w ∷ ws) h = ap (λ v. v ∷ ws) ((bytes_eq-Decides w (codes ".marking")).0 h)

-- the tests of a line that breaks no rule
module _ (most : ℕ) (k : Said) (row : Row) (none : line_fault most k row ≡ None) where
  directive-false : breaks_directive row ≡ false
  directive-false = (broken-head (breaks_directive row, UnknownDirective) (drop 1 (line_rules most k row)) none).0

  order-false : breaks_order k row ≡ false
  order-false = (broken-head (breaks_order k row, OutOfOrder) (drop 2 (line_rules most k row)) (broken-head (breaks_directive row, UnknownDirective) (drop 1 (line_rules most k row)) none).1).0

-- after a closed marking only an empty line or .end is taken
closed-row : (most : ℕ) (k : Said) (words : Row) (w : Word) (ws : Row) → k.has_graph ≡ true → k.marking ≡ Some words → line_fault most k (w ∷ ws) ≡ None → begins (codes ".end") (w ∷ ws) ≡ false → ⊥
closed-row most k words w ws h m none e =
    let o : ((is_header (w ∷ ws) || begins (codes ".graph") (w ∷ ws)) || (is_graph_row (w ∷ ws) || begins (codes ".marking") (w ∷ ws))) ≡ false =
    sym (ap (λ b. (b && k.has_graph) || ((is_graph_row (w ∷ ws) || begins (codes ".marking") (w ∷ ws)) && (not k.has_graph || is_some k.marking))) refl
    ∙ (λ j. ((is_header (w ∷ ws) || begins (codes ".graph") (w ∷ ws)) && h j) || ((is_graph_row (w ∷ ws) || begins (codes ".marking") (w ∷ ws)) && (not (h j) || is_some (m j))))
    ∙ (λ j. and-true (is_header (w ∷ ws) || begins (codes ".graph") (w ∷ ws)) j || and-true (is_graph_row (w ∷ ws) || begins (codes ".marking") (w ∷ ws)) j))
    ∙ order-false most k (w ∷ ws) none in
    let p = or_parts (is_header (w ∷ ws) || begins (codes ".graph") (w ∷ ws)) (is_graph_row (w ∷ ws) || begins (codes ".marking") (w ∷ ws)) o in
    let q = or_parts (is_graph_row (w ∷ ws)) (begins (codes ".marking") (w ∷ ws)) p.1 in
    let d : is_directive (w ∷ ws) ≡ false =
    sym (and-true (is_directive (w ∷ ws)))
    ∙ sym (λ j. is_directive (w ∷ ws) && not ((p.0 j || q.1 j) || e j))
    ∙ directive-false most k (w ∷ ws) none in
    true≢false (sym (ap not d) ∙ q.0)

-- a test that decides between a rule and none
test-false : (b : Bool) (r : Rule) → cond b (Some r) None ≡ None → b ≡ false
test-false true r h = cc
test-false false r h = refl

marking-with : (k : Said) (m : Option Row) (row : Row) → k.marking ≡ m → marking_with k row ≡ cond (is_some m) (unwrap_or m [] ++ row) (other_words row)
marking-with k m row e = ap (λ o. cond (is_some o) (unwrap_or o [] ++ row) (other_words row)) e

-- inside a marking
faultless-inside : (limits : Limits) (k : Said) (words row : Row) → k.marking ≡ Some words → is_unfinished k.marking ≡ true → IsFaultless limits k → verdict limits k row ≡ None → IsFaultless limits (said_up_to k row)
faultless-inside limits k words row e inside kept v =
    let P : Said → Type 0 = λ q. IsFaultless limits q in
    let g = good-some limits.weight k words e kept.good in
    let bad = test-false (breaks_marking limits.weight k row) BadMarking (sym (verdict-inside limits k row inside) ∙ v) in
    subst P (sym (said_up_to-else k row (ends-inside k row inside) ∙ after-begun k (Some words) row g.0 e))
    (record { few = kept.few; counts = kept.counts; good = (g.0, sym (ap (is_bad_marking limits.weight k.declared k.places) (marking-with k (Some words) row e)) ∙ bad); well_formed = well_formed-marking limits.weight k (Some (words ++ row)) kept.well_formed })

-- the counts after a line of another kind
few-after : (limits : Limits) (k : Said) (row : Row) → has_too_many limits (said_up_to k row) ≡ false → length (said_up_to k row).declared.signals ≤ limits.signals
few-after limits k row h = elim (cases_lt limits.signals (length (said_up_to k row).declared.signals)) [
  | inl p ↦ absurd (true≢false (sym (lt-ltb limits.signals (length (said_up_to k row).declared.signals) p) ∙ first))
  | inr q ↦ q
]
  where
    first : nat_lt limits.signals (length (said_up_to k row).declared.signals) ≡ false
    first = (or_parts (nat_lt limits.signals (length (said_up_to k row).declared.signals)) (nat_lt limits.trans (length (said_up_to k row).trans))
        (or_parts (nat_lt limits.signals (length (said_up_to k row).declared.signals) || nat_lt limits.trans (length (said_up_to k row).trans)) (nat_lt limits.places (length (said_up_to k row).places))
        (or_parts (nat_lt limits.signals (length (said_up_to k row).declared.signals) || nat_lt limits.trans (length (said_up_to k row).trans) || nat_lt limits.places (length (said_up_to k row).places)) (nat_lt limits.arcs (length (arcs_in (said_up_to k row)))) h).0).0).0

-- .marking where it may stand
begun-marking : (most : ℕ) (k : Said) (ws : Row) → k.has_graph ≡ true → k.marking ≡ None → line_fault most k (codes ".marking" ∷ ws) ≡ cond (breaks_marking most k (codes ".marking" ∷ ws)) (Some BadMarking) None
begun-marking most k ws h e = (λ j. cond (not (h j) || is_some (e j)) (Some OutOfOrder) (cond (breaks_marking most k (codes ".marking" ∷ ws)) (Some BadMarking) None))

-- the marking after a line that breaks no rule
good-after : (most : ℕ) (k : Said) (row : Row) (m : Option Row) → k.marking ≡ m → IsGood most k → line_fault most k row ≡ None → begins (codes ".end") row ≡ false → (b : Bool) → k.has_graph ≡ b → IsGood most (after_row k row)
good-after most k row (Some words) e g none n false h = absurd (true≢false (sym (good-some most k words e g).0 ∙ h))
good-after most k [] (Some words) e g none n true h =
    let s = good-some most k words e g in
    let P : Said → Type 0 = λ q. IsGood most q in
    subst P (sym (after-begun k (Some words) [] h e)) (h, ap (is_bad_marking most k.declared k.places) (append-nil words) ∙ s.1)
good-after most k (w ∷ ws) (Some words) e g none n true h = absurd (closed-row most k words w ws h e none n)
good-after most k row None e g none n false h =
    let P : Said → Type 0 = λ q. IsGood most q in
    subst P (sym (after-before k row h)) (by_start (begins (codes ".graph") row))
  where
    by_start : (b : Bool) → IsGood most (cond b (record k { has_graph = true }) (record k { declared = with_names k.declared row }))
    by_start true = subst (λ o. MatchOption o ⊤ (λ ws. (true ≡ true) × (is_bad_marking most k.declared k.places ws ≡ false))) (sym e) tt
    by_start false = subst (λ o. MatchOption o ⊤ (λ ws. (k.has_graph ≡ true) × (is_bad_marking most (with_names k.declared row) k.places ws ≡ false))) (sym e) tt
good-after most k row None e g none n true h =
    let P : Said → Type 0 = λ q. IsGood most q in
    subst P (sym (after-begun k None row h e)) (elim (cases_Bool (begins (codes ".marking") row)) [
      | inl b ↦ subst P (sym (stop (begins (codes ".marking") row) (record k { marking = Some (other_words row) }) (cond (is_graph_row row) (with_graph_row k row) k) b)) (h, bad b)
      | inr b ↦ subst P (sym (past (begins (codes ".marking") row) (record k { marking = Some (other_words row) }) (cond (is_graph_row row) (with_graph_row k row) k) b)) (by_kind (is_graph_row row))
    ])
  where
    bad : begins (codes ".marking") row ≡ true → is_bad_marking most k.declared k.places (other_words row) ≡ false
    bad b =
        let f : cond (breaks_marking most k (codes ".marking" ∷ other_words row)) (Some BadMarking) None ≡ None =
        sym (begun-marking most k (other_words row) h e) ∙ ap (line_fault most k) (sym (marking-row row b)) ∙ none in
        sym (ap (is_bad_marking most k.declared k.places) (marking-with k None (codes ".marking" ∷ other_words row) e)) ∙ test-false (breaks_marking most k (codes ".marking" ∷ other_words row)) BadMarking f

    by_kind : (b : Bool) → IsGood most (cond b (with_graph_row k row) k)
    by_kind true = subst (λ o. MatchOption o ⊤ (λ ws. (k.has_graph ≡ true) × (is_bad_marking most k.declared (with_graph_row k row).places ws ≡ false))) (sym e) tt
    by_kind false = subst (λ o. MatchOption o ⊤ (λ ws. (k.has_graph ≡ true) × (is_bad_marking most k.declared k.places ws ≡ false))) (sym e) tt

-- outside a marking
faultless-outside : (limits : Limits) (k : Said) (row : Row) → is_unfinished k.marking ≡ false → IsFaultless limits k → verdict limits k row ≡ None → IsFaultless limits (said_up_to k row)
faultless-outside limits k row outside kept v =
    let P : Said → Type 0 = λ q. IsFaultless limits q in
    elim (cases_Bool (ends_text k row)) [
      | inl h ↦ subst P (sym (said_up_to-end k row h)) kept
      | inr h ↦ elim (cases_Bool (begins (codes ".dummy") row)) [
        | inl d ↦
            let row_is = dummy-row row d in
            let w : verdict limits k (codes ".dummy" ∷ other_words row) ≡ None = ap (verdict limits k) (sym row_is) ∙ v in
            let parts = or_later-none (line_fault limits.weight k (codes ".dummy" ∷ other_words row)) (cond (nat_lt 0 (length (other_words row))) (Some HasDummy) None) (sym (verdict-dummies limits k (other_words row) outside) ∙ w) in
            let empty : other_words row ≡ [] = no_words (other_words row) (test-false (nat_lt 0 (length (other_words row))) HasDummy parts.1) in
            let whole : row ≡ codes ".dummy" ∷ [] = row_is ∙ ap (λ ws. codes ".dummy" ∷ ws) empty in
            let good = good-after limits.weight k (codes ".dummy" ∷ other_words row) k.marking refl kept.good parts.0 refl k.has_graph refl in
            subst P (sym (said_up_to-else k row h)) (record { few = few-dummy row whole; counts = counts-dummy row whole; good = subst (λ r. IsGood limits.weight (after_row k r)) (sym row_is) good; well_formed = subst (λ r. IsWellFormed limits.weight (after_row k r)) (sym row_is) (well_formed-after limits.weight k (codes ".dummy" ∷ other_words row) parts.0 kept.well_formed) })
        | inr d ↦
            let parts = or_later-none (line_fault limits.weight k row) (cond (has_too_many limits (after_row k row)) (Some TooMany) None) (sym (verdict-said limits k row outside d) ∙ v) in
            let few : has_too_many limits (said_up_to k row) ≡ false = sym (too-said_up_to limits k row) ∙ test-false (has_too_many limits (after_row k row)) TooMany parts.1 in
            (record {
              few = few-after limits k row few;
              counts = few;
              good = subst (λ q. IsGood limits.weight q) (sym (said_up_to-else k row h)) (good-after limits.weight k row k.marking refl kept.good parts.0 (sym (ends-outside k row outside) ∙ h) k.has_graph refl);
              well_formed = subst (λ q. IsWellFormed limits.weight q) (sym (said_up_to-else k row h)) (well_formed-after limits.weight k row parts.0 kept.well_formed);
            })
      ]
    ]
  where
    no_words : (ws : Row) → nat_lt 0 (length ws) ≡ false → ws ≡ []
    no_words [] e = refl
    no_words (w ∷ ws) e = absurd (true≢false (sym (lt-ltb 0 (length (w ∷ ws)) (omega arith)) ∙ e))

    few-empty : (b : Bool) → k.has_graph ≡ b → length (after_row k (codes ".dummy" ∷ [])).declared.signals ≤ limits.signals
    few-empty false e = subst (λ q. length q.declared.signals ≤ limits.signals) (sym (after-before k (codes ".dummy" ∷ []) e)) (subst (λ (ss : List Signal). length ss ≤ limits.signals) (sym (append-nil k.declared.signals)) kept.few)
    few-empty true e = subst (λ q. length q.declared.signals ≤ limits.signals) (sym (after-begun k k.marking (codes ".dummy" ∷ []) e refl)) (by_marking k.marking)
      where
        by_marking : (m : Option Row) → length (after_graph k m (codes ".dummy" ∷ [])).declared.signals ≤ limits.signals
        by_marking None = kept.few
        by_marking (Some ws) = kept.few

    counts-empty : (b : Bool) → k.has_graph ≡ b → has_too_many limits (after_row k (codes ".dummy" ∷ [])) ≡ false
    counts-empty false e = ap (has_too_many limits) (after-before k (codes ".dummy" ∷ []) e)
        ∙ ap (λ (ss : List Signal). has_too_many limits (record k { declared = record { signals = ss; dummies = k.declared.dummies } })) (append-nil k.declared.signals) ∙ kept.counts
    counts-empty true e = ap (has_too_many limits) (after-begun k k.marking (codes ".dummy" ∷ []) e refl) ∙ by_marking k.marking
      where
        by_marking : (m : Option Row) → has_too_many limits (after_graph k m (codes ".dummy" ∷ [])) ≡ false
        by_marking None = kept.counts
        by_marking (Some ws) = kept.counts

    counts-dummy : (r : Row) → r ≡ codes ".dummy" ∷ [] → has_too_many limits (after_row k r) ≡ false
    counts-dummy r e = ap (λ x. has_too_many limits (after_row k x)) e ∙ counts-empty k.has_graph refl

    few-dummy : (r : Row) → r ≡ codes ".dummy" ∷ [] → length (after_row k r).declared.signals ≤ limits.signals
    few-dummy r e = subst (λ x. length (after_row k x).declared.signals ≤ limits.signals) (sym e) (few-empty k.has_graph refl)

-- a line that breaks no rule keeps both
pub faultless-after : (limits : Limits) (k : Said) (row : Row) → IsFaultless limits k → verdict limits k row ≡ None → IsFaultless limits (said_up_to k row)
faultless-after limits k row kept v = by_marking k.marking refl
  where
    by_marking : (m : Option Row) → k.marking ≡ m → IsFaultless limits (said_up_to k row)
    by_marking None e = faultless-outside limits k row (ap is_unfinished e) kept v
    by_marking (Some words) e = elim (cases_Bool (is_unfinished k.marking)) [
      | inl h ↦ faultless-inside limits k words row e h kept v
      | inr h ↦ faultless-outside limits k row h kept v
    ]

-- before the first line
pub faultless-nothing : (limits : Limits) → IsFaultless limits nothing
faultless-nothing limits = record {
  few = omega arith;
  counts = (λ j. none limits.signals j || none limits.trans j || none limits.places j || none limits.arcs j);
  good = tt;
  well_formed = record { named = refl; names_differ = refl; trans_differ = refl; trans_there = refl; places_there = refl; weighed = refl; text_arcs_there = tt; text_arcs_differ = refl };
}
  where
    none : (n : ℕ) → nat_lt n 0 ≡ false
    none n = le-ltb n 0 (omega arith)

-- before the first line nothing is settled
pub settled-none : (most : ℕ) (r : Reader) → said_of r ≡ nothing → IsSettledIn most r
settled-none most r start = subst (λ m. MatchOption m ⊤ (λ words. IsSettled most (without_dummies r.signals) r.graph.places r.settled (before_close (drop 1 words)))) (sym (ap (λ (k : Said). k.marking) start)) tt
