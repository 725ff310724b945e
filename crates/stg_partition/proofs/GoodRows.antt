-- The rows of a text whose lines are good: each names output or internal signals, and none stands twice.
use Rattle.std.proofs.Common.{◌≡◌, ◌<◌, ◌+◌, ◌||◌, ℕ, Bool, true, false, nat_lt, List, [], ◌∷◌, ◌++◌, length, get_or, zero, suc, All, AllPairs, Result, Ok, Err, refl, sym, ap, ◌∙◌, subst, arith, inl, inr}
use Rattle.std.specs.List.{list_all}
use Rattle.std.specs.Str.{bytes_eq}
use Rattle.std.proofs.lemmas.Bool.{cases_Bool, or_parts, false≢true}
use Rattle.std.proofs.lemmas.List.Elements.{All-nil, All-push}
use Rattle.std.proofs.lemmas.List.Quantifiers.{all_pairs_push}
use Rattle.std.proofs.lemmas.Slice.Eq.{bytes_eq-Decides}
use Rattle.stg_net.specs.declared.signal.Signal.{Signal}
use Rattle.stg_net.specs.Graph.{is_among}
use Rattle.astg_lex.specs.Lines.{has_bad_byte, lines_of}
use Rattle.stg_partition.specs.declared.error.GroupError.{GroupError}
use Rattle.stg_partition.specs.declared.error.GroupError.TheVariants as errors
use Rattle.stg_partition.specs.PartitionText.{GroupRow, row_of, names_output, stands_again, words_of_rows, row_tested, line_tested, or_refused, with_group_row, rows_after, most_bytes, rows_of}
use Rattle.stg_partition.proofs.WordTexts.{among_append}

-- no word of the one stands in the other
abbrev pub AreApart : GroupRow → GroupRow → Type 0
AreApart row other = (w : List ℕ) → is_among row w ≡ true → is_among other w ≡ true → ⊥

-- each row has a word, all words name outputs or internal signals, and no two rows have a word in common
pub record AreGoodRows (signals : List Signal) (rows : List GroupRow) : Type 0 where
  pub has_one : All (λ (row : GroupRow). 0 < length row) rows
  pub outputs : All (λ (row : GroupRow). list_all (names_output signals) row ≡ true) rows
  pub apart : AllPairs AreApart rows

-- where the first of two tests fails, the second one passes
pub or_second : (b c : Bool) → (b || c) ≡ true → b ≡ false → c ≡ true
or_second true c e f = absurd (false≢true (sym f))
or_second false c e f = e

-- a word that doesn't stand again doesn't stand before
not_before : (before ws : GroupRow) (w : List ℕ) → stands_again before ws ≡ false → is_among ws w ≡ true → is_among before w ≡ false
not_before before [] w none here = absurd (false≢true here)
not_before before (v ∷ ws) w none here =
    let parts = or_parts (is_among before v) (stands_again (before ++ v ∷ []) ws) none in
    elim (cases_Bool (bytes_eq v w)) [
      | inl e ↦ ap (is_among before) (sym ((bytes_eq-Decides v w).0 e)) ∙ parts.0
      | inr e ↦
          let later = not_before (before ++ v ∷ []) ws w parts.1 (or_second (bytes_eq v w) (is_among ws w) here e) in
          (or_parts (is_among before w) (is_among (v ∷ []) w) (sym (among_append before (v ∷ []) w) ∙ later)).0
    ]

-- a word of a row is one of all words
among_all : (rows : List GroupRow) (k : ℕ) (d : GroupRow) (w : List ℕ) → k < length rows → is_among (get_or rows k d) w ≡ true → is_among (words_of_rows rows) w ≡ true
among_all [] k d w inside e = absurd (omega arith)
among_all (row ∷ rows) zero d w inside e = among_append row (words_of_rows rows) w ∙ ap (λ b. b || is_among (words_of_rows rows) w) e
among_all (row ∷ rows) (suc k) d w inside e = among_append row (words_of_rows rows) w ∙ or_last (is_among row w) (is_among (words_of_rows rows) w) (among_all rows k d w (omega arith) e)
  where
    or_last : (b c : Bool) → c ≡ true → (b || c) ≡ true
    or_last true c f = refl
    or_last false c f = f

good_none : (signals : List Signal) → AreGoodRows signals []
good_none signals = record { has_one = All-nil (λ (row : GroupRow). 0 < length row); outputs = All-nil (λ (row : GroupRow). list_all (names_output signals) row ≡ true); apart = λ i j d up inside. absurd (omega arith) }

-- a further row whose words name outputs that didn't stand before
good_more : (signals : List Signal) (rows : List GroupRow) (row : GroupRow) → AreGoodRows signals rows → list_all (names_output signals) row ≡ true → stands_again (words_of_rows rows) row ≡ false → AreGoodRows signals (with_group_row rows row)
good_more signals rows [] good outputs again = good
good_more signals rows (w ∷ ws) good outputs again = record {
  has_one = All-push (λ (row : GroupRow). 0 < length row) rows (w ∷ ws) good.has_one (omega arith);
  outputs = All-push (λ (row : GroupRow). list_all (names_output signals) row ≡ true) rows (w ∷ ws) good.outputs outputs;
  apart = all_pairs_push AreApart rows (w ∷ ws) good.apart (λ k d inside v mine theirs. false≢true (sym (not_before (words_of_rows rows) (w ∷ ws) v again theirs) ∙ among_all rows k d v inside mine));
}

-- what a line's test shows
pub record RowPasses (signals : List Signal) (before : List GroupRow) (line : List ℕ) : Type 0 where
  pub outputs : list_all (names_output signals) (row_of line) ≡ true
  pub again : stands_again (words_of_rows before) (row_of line) ≡ false

no_error : {A : Type 0} (e : GroupError) → ◌≡◌ {A = Result (Unit {0}) GroupError} (Err e) (Ok tt) → A
no_error e f = absurd (cc)

row_passes : (signals : List Signal) (number : ℕ) (before : List GroupRow) (line : List ℕ) → line_tested signals number before line ≡ Ok tt → RowPasses signals before line
row_passes signals number before line e = elim (cases_Bool (has_bad_byte line)) [
  | inl bad ↦ no_error (errors.BadLine number) (rw bad at e)
  | inr good ↦ words (rw good at e)
]
  where
    words : row_tested signals number before (row_of line) ≡ Ok tt → RowPasses signals before line
    words f = elim (cases_Bool (list_all (names_output signals) (row_of line))) [
      | inr bad ↦ no_error (errors.UnknownOutput number) (rw bad at f)
      | inl outputs ↦ elim (cases_Bool (stands_again (words_of_rows before) (row_of line))) [
        | inl bad ↦ no_error (errors.OutputTwice number) (rw bad at (rw outputs at f))
        | inr again ↦ record { outputs = outputs; again = again }
      ]
    ]

-- the error is one of a line
abbrev pub IsOfLine : GroupError → Type 0
IsOfLine (errors.BadLine line) = Unit {0}
IsOfLine (errors.UnknownOutput line) = Unit {0}
IsOfLine (errors.OutputTwice line) = Unit {0}
IsOfLine (errors.OutputMissing s) = ⊥
IsOfLine (errors.SplitConflict x y place) = ⊥
IsOfLine errors.NoMemory = ⊥

of_line : (f e : GroupError) → IsOfLine f → ◌≡◌ {A = Result (Unit {0}) GroupError} (Err f) (Err e) → IsOfLine e
of_line f e is same = subst IsOfLine (cc) is

not_ok : {A : Type 0} (e : GroupError) → ◌≡◌ {A = Result (Unit {0}) GroupError} (Ok tt) (Err e) → A
not_ok e f = absurd (cc)

tested_of_line : (signals : List Signal) (number : ℕ) (before : List GroupRow) (line : List ℕ) (e : GroupError) → line_tested signals number before line ≡ Err e → IsOfLine e
tested_of_line signals number before line e f = elim (cases_Bool (has_bad_byte line)) [
  | inl bad ↦ of_line (errors.BadLine number) e tt (rw bad at f)
  | inr good ↦ words (rw good at f)
]
  where
    words : row_tested signals number before (row_of line) ≡ Err e → IsOfLine e
    words g = elim (cases_Bool (list_all (names_output signals) (row_of line))) [
      | inr bad ↦ of_line (errors.UnknownOutput number) e tt (rw bad at g)
      | inl outputs ↦ elim (cases_Bool (stands_again (words_of_rows before) (row_of line))) [
        | inl bad ↦ of_line (errors.OutputTwice number) e tt (rw bad at (rw outputs at g))
        | inr again ↦ not_ok e (rw again at (rw outputs at g))
      ]
    ]

-- what rows are, or why a line is refused
abbrev IsRead : List Signal → Result (List GroupRow) GroupError → Type 0
IsRead signals (Ok rows) = AreGoodRows signals rows
IsRead signals (Err e) = IsOfLine e

read_after : (signals : List Signal) (number : ℕ) (before : List GroupRow) (lines : List (List ℕ)) → AreGoodRows signals before → IsRead signals (rows_after signals number before lines)
read_after signals number before [] good = good
read_after signals number before (line ∷ lines) good =
    go (line_tested signals number before line) refl (λ passes. read_after signals (number + 1) (with_group_row before (row_of line)) lines (good_more signals before (row_of line) good passes.outputs passes.again))
  where
    go : (t : Result (Unit {0}) GroupError) → line_tested signals number before line ≡ t → (RowPasses signals before line → IsRead signals (rows_after signals (number + 1) (with_group_row before (row_of line)) lines))
        → IsRead signals (or_refused (line_tested signals number before line) (rows_after signals (number + 1) (with_group_row before (row_of line)) lines))
    go (Ok tt) e deeper =
        let P : Result (Unit {0}) GroupError → Type 0 = λ t. IsRead signals (or_refused t (rows_after signals (number + 1) (with_group_row before (row_of line)) lines)) in
        subst P (sym e) (deeper (row_passes signals number before line e))
    go (Err f) e deeper =
        let P : Result (Unit {0}) GroupError → Type 0 = λ t. IsRead signals (or_refused t (rows_after signals (number + 1) (with_group_row before (row_of line)) lines)) in
        subst P (sym e) (tested_of_line signals number before line f e)

is_read : (signals : List Signal) (text : List ℕ) → IsRead signals (rows_of signals text)
is_read signals text = elim (cases_Bool (nat_lt most_bytes (length text))) [
  | inl long ↦ rw long tt
  | inr short ↦ rw short (read_after signals 1 [] (lines_of text) (good_none signals))
]

-- rows that are read are good, and an error is one of a line
pub read_good : (signals : List Signal) (text : List ℕ) (rows : List GroupRow) → rows_of signals text ≡ Ok rows → AreGoodRows signals rows
read_good signals text rows e = subst (IsRead signals) e (is_read signals text)

pub refused_line : (signals : List Signal) (text : List ℕ) (e : GroupError) → rows_of signals text ≡ Err e → IsOfLine e
refused_line signals text e f = subst (IsRead signals) f (is_read signals text)
