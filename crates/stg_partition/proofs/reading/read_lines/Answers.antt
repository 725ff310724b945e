use Rattle.std.proofs.Common.{◌≡◌, ◌∙◌, ℕ, Ok, Err, IfSome, sym, ap, subst, inl, inr}
use Rattle.astg_lex.specs.declared.line.Line.{Line}
use Rattle.astg_lex.specs.declared.line.LexError.{LexError}
use Rattle.astg_lex.specs.declared.line.LexError.TheVariants as lex_errors
use Rattle.astg_lex.specs.Lexing.{Advances}
use Rattle.stg_partition.specs.declared.error.GroupError.TheVariants as errors
use Rattle.stg_partition.specs.PartitionText.{row_tested}
use Rattle.stg_partition.specs.inner.WordTexts.{texts_of, all_texts}
use Rattle.stg_partition.proofs.ReadRows.{Reached, row-refused, row-taken, row-bad}
use Rattle.stg_partition.proofs.reading.read_lines.Goals as goal

abbrev line_of : LexError → ℕ
line_of (lex_errors.BadByte n) = n
line_of lex_errors.NoMemory = 0

abbrev is_no_byte : LexError → Type 0
is_no_byte (lex_errors.BadByte n) = ⊥
is_no_byte lex_errors.NoMemory = Unit {0}

pub returns-in-Err-clause-refused : goal.returns-in-Err-clause-refused
returns-in-Err-clause-refused c =
    let signals = c.args.net.now.signals in
    let text = c.args.text.now in
    let number = c.in-Ok-Some.line.number in
    let words = c.in-Ok-Some.line.words in
    let rows = all_texts c.loop-line.rows in
    let a = subst (λ o. IfSome o (λ (line : Line). Advances c.loop-line.lines c.next_line.new.self line.number line.words)) c.in-Ok-Some.field-0-is c.in-Ok-Some.ensures.line in
    let h : row_tested signals number rows (texts_of words) ≡ Err c.in-Err.error =
    ap (λ ws. row_tested signals number rows (texts_of ws)) (sym c.as_slice-in-Ok-Some.ensures)
    ∙ ap (λ rs. row_tested signals number (all_texts rs) (texts_of c.as_slice-in-Ok-Some.result.now)) (sym c.as_slice.ensures)
    ∙ sym c.test_row.ensures ∙ c.in-Err.is in
    inr (row-refused signals text c.loop-line.lines c.next_line.new.self number words rows c.requires.named.names c.loop-line.invariant a c.in-Err.error h)

pub loop-line-preserved : goal.loop-line-preserved
loop-line-preserved c =
    let signals = c.args.net.now.signals in
    let text = c.args.text.now in
    let number = c.in-Ok-Some.line.number in
    let words = c.in-Ok-Some.line.words in
    let rows = all_texts c.loop-line.rows in
    let a = subst (λ o. IfSome o (λ (line : Line). Advances c.loop-line.lines c.next_line.new.self line.number line.words)) c.in-Ok-Some.field-0-is c.in-Ok-Some.ensures.line in
    let h : row_tested signals number rows (texts_of words) ≡ Ok tt =
    ap (λ ws. row_tested signals number rows (texts_of ws)) (sym c.as_slice-in-Ok-Some.ensures)
    ∙ ap (λ rs. row_tested signals number (all_texts rs) (texts_of c.as_slice-in-Ok-Some.result.now)) (sym c.as_slice.ensures)
    ∙ sym c.test_row.ensures ∙ c.in-Ok.is in
    subst (Reached signals text c.next_line.new.self) (sym c.in_ok-push_row-in-Ok-Some.ensures)
    (row-taken signals text c.loop-line.lines c.next_line.new.self number words rows c.requires.named.names c.loop-line.invariant a h)

pub returns-in-Err-BadByte-clause-refused : goal.returns-in-Err-BadByte-clause-refused
returns-in-Err-BadByte-clause-refused c =
    elim c.in-Err-BadByte.ensures.only [
      | inl q ↦ let bad = c.in-Err-BadByte.ensures.bad_byte.0 (ap Err q) in
          inr (row-bad c.args.net.now.signals c.args.text.now c.loop-line.lines (all_texts c.loop-line.rows) c.loop-line.invariant bad.0 bad.1
          ∙ ap (λ n. Err (errors.BadLine n)) (ap line_of (sym q ∙ c.in-Err-BadByte.field-0-is) ∙ sym c.in-Err-BadByte.line-is))
      | inr n ↦ absurd (subst is_no_byte (sym n ∙ c.in-Err-BadByte.field-0-is) tt)
    ]
