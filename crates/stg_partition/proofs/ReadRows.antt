-- The rows of a text, read line by line.
use Rattle.std.proofs.Common.{◌≡◌, ◌≢◌, ◌+◌, ℕ, true, List, [], ◌∷◌, map, cond, drop, Result, Ok, Err, refl, sym, ap, ◌∙◌}
use Rattle.stg_net.specs.declared.signal.Signal.{Signal}
use Rattle.astg_lex.specs.declared.words.Word.{Word}
use Rattle.astg_lex.specs.Lines.{lines_of, line_length, code_of, has_bad_byte}
use Rattle.astg_lex.specs.Words.{WordAt}
use Rattle.astg_lex.specs.Lexing.{Lexing, Advances, text_left, lines_left, this_line, word_views, start_of}
use Rattle.astg_lex.proofs.LineLemmas.{lines_of-some}
use Rattle.stg_partition.specs.declared.error.GroupError.{GroupError}
use Rattle.stg_partition.specs.declared.error.GroupError.TheVariants as errors
use Rattle.stg_partition.specs.PartitionText.{GroupRow, row_of, row_tested, or_refused, with_group_row, rows_after}
use Rattle.stg_partition.specs.inner.WordTexts.{texts_of}
use Rattle.stg_partition.proofs.Runs.{AreNamed, lexed, lexed-at, lexed-tested, lexed-passed}

-- the lines taken so far gave these rows
pub record Reached (signals : List Signal) (text : List ℕ) (l : Lexing) (rows : List GroupRow) : Type 0 where
  pub same : rows_after signals (l.number + 1) rows (lines_left l) ≡ rows_after signals 1 [] (lines_of text)

pub reached_start : (signals : List Signal) (text : List ℕ) (l : Lexing) → l ≡ start_of text → Reached signals text l []
reached_start signals text l e = record { same = ap (λ (x : Lexing). rows_after signals (x.number + 1) [] (lines_left x)) e }

texts-views : (words : List Word) → texts_of words ≡ map (λ (w : WordAt). w.text) (word_views words)
texts-views [] = refl
texts-views (w ∷ words) = ap (λ ws. w.text.now ∷ ws) (texts-views words)

texts-lexed : (old new : Lexing) (number : ℕ) (words : List Word) → Advances old new number words → texts_of words ≡ lexed (code_of (this_line old))
texts-lexed old new number words a = texts-views words ∙ ap (map (λ (w : WordAt). w.text)) a.words_are ∙ lexed-at old.at (code_of (this_line old))

module _ (signals : List Signal) (text : List ℕ) (old new : Lexing) (number : ℕ) (words : List Word) (rows : List GroupRow) (named : AreNamed signals) (r : Reached signals text old rows) (a : Advances old new number words) where
  abbrev code : List ℕ
  code = code_of (this_line old)

  abbrev row : GroupRow
  row = row_of (this_line old)

  abbrev later : List GroupRow → Result (List GroupRow) GroupError
  later more = rows_after signals (old.number + 1 + 1) more (lines_left new)

  next : rows_after signals 1 [] (lines_of text) ≡ or_refused (row_tested signals (old.number + 1) rows row) (later (with_group_row rows row))
  next = sym r.same ∙ ap (rows_after signals (old.number + 1) rows) a.first
      ∙ ap (λ b. or_refused (cond b (Err (errors.BadLine (old.number + 1))) (row_tested signals (old.number + 1) rows row)) (later (with_group_row rows row))) a.good

  -- the test of the words that were read is that of the line
  same_test : row_tested signals number rows (texts_of words) ≡ row_tested signals (old.number + 1) rows row
  same_test = ap (λ k. row_tested signals k rows (texts_of words)) a.numbered ∙ ap (row_tested signals (old.number + 1) rows) (texts-lexed old new number words a) ∙ lexed-tested signals (old.number + 1) rows code named

  pub row-refused : (e : GroupError) → row_tested signals number rows (texts_of words) ≡ Err e → rows_after signals 1 [] (lines_of text) ≡ Err e
  row-refused e h = next ∙ ap (λ t. or_refused t (later (with_group_row rows row))) (sym same_test ∙ h)

  pub row-taken : row_tested signals number rows (texts_of words) ≡ Ok tt → Reached signals text new (with_group_row rows (texts_of words))
  row-taken h =
      let good : row_tested signals (old.number + 1) rows (lexed code) ≡ Ok tt = lexed-tested signals (old.number + 1) rows code named ∙ sym same_test ∙ h in
      let same_row : texts_of words ≡ row = texts-lexed old new number words a ∙ lexed-passed signals (old.number + 1) rows code named good in
      record {
        same = ap (λ k. rows_after signals (k + 1) (with_group_row rows (texts_of words)) (lines_left new)) a.next_number
            ∙ ap (λ ws. later (with_group_row rows ws)) same_row
            ∙ sym (next ∙ ap (λ t. or_refused t (later (with_group_row rows row))) (sym same_test ∙ h));
      }

-- a line with a byte that may not stand
pub row-bad : (signals : List Signal) (text : List ℕ) (l : Lexing) (rows : List GroupRow) → Reached signals text l rows → lines_left l ≢ [] → has_bad_byte (this_line l) ≡ true
    → rows_after signals 1 [] (lines_of text) ≡ Err (errors.BadLine (l.number + 1))
row-bad signals text l rows r some bad =
    sym r.same ∙ ap (rows_after signals (l.number + 1) rows) (lines_of-some (text_left l) some)
    ∙ ap (λ b. or_refused (cond b (Err (errors.BadLine (l.number + 1))) (row_tested signals (l.number + 1) rows (row_of (this_line l)))) (rows_after signals (l.number + 1 + 1) (with_group_row rows (row_of (this_line l))) (lines_of (drop (line_length (text_left l) + 1) (text_left l))))) bad

-- the end of the text
pub rows-end : (signals : List Signal) (text : List ℕ) (l : Lexing) (rows : List GroupRow) → Reached signals text l rows → lines_left l ≡ [] → rows_after signals 1 [] (lines_of text) ≡ Ok rows
rows-end signals text l rows r none = sym r.same ∙ ap (rows_after signals (l.number + 1) rows) none
