use Rattle.std.proofs.Common.{◌≡◌, ◌∙◌, ◌+◌, sym, ap, subst, inl, inr, ℕ, Some, None, Ok, Err, cond, IfSome, true, false, [], map}
use Rattle.astg_lex.specs.declared.line.Line.{Line}
use Rattle.astg_lex.specs.declared.line.LexError.{LexError}
use Rattle.astg_lex.specs.declared.line.LexError.TheVariants as lex_errors
use Rattle.astg_lex.specs.Lexing.{Lexing, Advances, lines_left}
use Rattle.astg_lex.specs.Lines.{line_ends}
use Rattle.astg_read.specs.declared.rule.Rule.TheVariants.{BadByte}
use Rattle.astg_read.specs.Said.{Said}
use Rattle.astg_read.specs.Reading.{meaning_of, reading_after}
use Rattle.astg_read.specs.Rules.{ends_text, seen_line}
use Rattle.astg_read.specs.inner.Views.{texts}
use Rattle.astg_read.specs.inner.Growth.{after_row}
use Rattle.astg_read.specs.inner.LineResult.{IsFaultless, Takes, said_of, verdict, said_up_to}
use Rattle.astg_read.proofs.Faultless.{faultless-after, faultless-nothing, settled-none}
use Rattle.astg_read.proofs.ReadLemmas.{Reached, step-broken, step-end, step-more, step-bad, reading-within}
use Rattle.astg_read.proofs.read.read_lines.Goals as goal

abbrev line_of : LexError → ℕ
line_of (lex_errors.BadByte n) = n
line_of lex_errors.NoMemory = 0

abbrev is_no_byte : LexError → Type 0
is_no_byte (lex_errors.BadByte n) = ⊥
is_no_byte lex_errors.NoMemory = Unit {0}

pub returns-then-ends-clause-gives : goal.returns-then-ends-clause-gives
returns-then-ends-clause-gives c =
    let limits = c.args.limits.now in let k = said_of c.loop-line.reader in
    let ends : ends_text k (texts c.in-Ok-Some.line.words) ≡ true = ap (λ ws. ends_text k (texts ws)) (sym c.as_slice.ensures) ∙ sym c.ends_text-ends.ensures ∙ c.if-ends.true in
    reading-within limits c.args.text.now c.requires.within
    ∙ step-end limits c.args.text.now c.loop-line.lines c.next_line.new.self c.in-Ok-Some.line.number c.in-Ok-Some.line.words k c.loop-line.invariant.reached (subst (λ o. IfSome o (λ (line : Line). Advances c.loop-line.lines c.next_line.new.self line.number line.words)) c.in-Ok-Some.field-0-is c.in-Ok-Some.ensures.line)
    (ap (λ ws. verdict limits k (texts ws)) (sym c.as_slice-in-Ok-Some.ensures) ∙ c.in-Ok.ensures.takes.0) ends
    ∙ ap (λ q. Ok (meaning_of q)) (sym (c.in-Ok.ensures.takes.1 ∙ ap (λ ws. said_up_to k (texts ws)) c.as_slice-in-Ok-Some.ensures ∙ ap (λ b. cond b k (after_row k (texts c.in-Ok-Some.line.words))) ends))

pub returns-then-ends-clause-faultless : goal.returns-then-ends-clause-faultless
returns-then-ends-clause-faultless c =
    let limits = c.args.limits.now in let k = said_of c.loop-line.reader in
    let row = texts c.in-Ok-Some.line.words in
    let none : verdict limits k row ≡ None = ap (λ ws. verdict limits k (texts ws)) (sym c.as_slice-in-Ok-Some.ensures) ∙ c.in-Ok.ensures.takes.0 in
    let took : said_of c.take_line.new.self ≡ said_up_to k row = c.in-Ok.ensures.takes.1 ∙ ap (λ ws. said_up_to k (texts ws)) c.as_slice-in-Ok-Some.ensures in
    let Q : Said → Type 0 = λ q. IsFaultless limits q in
    subst Q (sym took) (faultless-after limits k row c.loop-line.invariant.faultless none)

pub loop-line-init : goal.loop-line-init
loop-line-init c =
    let limits = c.args.limits.now in
    record {
      reached = record {
        rows = [];
        said_is = c.requires.start;
        number_is = ap (λ (l : Lexing). l.number) c.lines-lines.ensures;
        same = ap (λ l. reading_after false limits (line_ends c.args.text.now + 1) [] (map seen_line (lines_left l))) c.lines-lines.ensures;
      };
      faultless = subst (λ (q : Said). IsFaultless limits q) (sym c.requires.start) (faultless-nothing limits);
      settled = settled-none limits.weight c.args.reader.now c.requires.start;
    }

pub returns-in-Err-Broken-clause-gives : goal.returns-in-Err-Broken-clause-gives
returns-in-Err-Broken-clause-gives c =
    let limits = c.args.limits.now in let k = said_of c.loop-line.reader in
    let broken : verdict limits k (texts c.as_slice-in-Ok-Some.result.now) ≡ Some c.in-Err-Broken.rule = subst (λ e. Takes limits k (texts c.as_slice-in-Ok-Some.result.now) (Err e) (said_of c.take_line.new.self)) c.in-Err-Broken.field-0-is c.in-Err-Broken.ensures.takes in
    reading-within limits c.args.text.now c.requires.within
    ∙ step-broken limits c.args.text.now c.loop-line.lines c.next_line.new.self c.in-Ok-Some.line.number c.in-Ok-Some.line.words k c.loop-line.invariant.reached (subst (λ o. IfSome o (λ (line : Line). Advances c.loop-line.lines c.next_line.new.self line.number line.words)) c.in-Ok-Some.field-0-is c.in-Ok-Some.ensures.line)
    c.in-Err-Broken.rule (ap (λ ws. verdict limits k (texts ws)) (sym c.as_slice-in-Ok-Some.ensures) ∙ broken)
    ∙ ap (λ r. Err (record { rule = r; line = c.in-Ok-Some.line.number })) (sym c.in-Err-Broken.rule-is)

pub loop-line-preserved : goal.loop-line-preserved
loop-line-preserved c =
    let limits = c.args.limits.now in let k = said_of c.loop-line.reader in
    let row = texts c.in-Ok-Some.line.words in
    let none : verdict limits k row ≡ None = ap (λ ws. verdict limits k (texts ws)) (sym c.as_slice-in-Ok-Some.ensures) ∙ c.in-Ok.ensures.takes.0 in
    let goes : ends_text k row ≡ false = ap (λ ws. ends_text k (texts ws)) (sym c.as_slice.ensures) ∙ sym c.ends_text-ends.ensures ∙ c.if-ends.false in
    let took : said_of c.take_line.new.self ≡ said_up_to k row = c.in-Ok.ensures.takes.1 ∙ ap (λ ws. said_up_to k (texts ws)) c.as_slice-in-Ok-Some.ensures in
    let more = step-more limits c.args.text.now c.loop-line.lines c.next_line.new.self c.in-Ok-Some.line.number c.in-Ok-Some.line.words k c.loop-line.invariant.reached (subst (λ o. IfSome o (λ (line : Line). Advances c.loop-line.lines c.next_line.new.self line.number line.words)) c.in-Ok-Some.field-0-is c.in-Ok-Some.ensures.line) none goes in
    let P : Said → Type 0 = λ q. Reached limits c.args.text.now c.next_line.new.self q in
    let Q : Said → Type 0 = λ q. IsFaultless limits q in
    record {
      reached = subst P (sym (took ∙ ap (λ b. cond b k (after_row k row)) goes)) more;
      faultless = subst Q (sym took) (faultless-after limits k row c.loop-line.invariant.faultless none);
      settled = c.in-Ok.ensures.settled;
    }

pub returns-in-Err-BadByte-clause-gives : goal.returns-in-Err-BadByte-clause-gives
returns-in-Err-BadByte-clause-gives c =
    let limits = c.args.limits.now in let k = said_of c.loop-line.reader in
    elim c.in-Err-BadByte.ensures.only [
      | inl q ↦ let bad = c.in-Err-BadByte.ensures.bad_byte.0 (ap Err q) in
          reading-within limits c.args.text.now c.requires.within
          ∙ step-bad limits c.args.text.now c.loop-line.lines k c.loop-line.invariant.reached bad.0 bad.1
          ∙ ap (λ n. Err (record { rule = BadByte; line = n })) (ap line_of (sym q ∙ c.in-Err-BadByte.field-0-is) ∙ sym c.in-Err-BadByte.line-is)
      | inr n ↦ absurd (subst is_no_byte (sym n ∙ c.in-Err-BadByte.field-0-is) tt)
    ]
