-- The line that is told is the bad line.
use Rattle.std.proofs.Common.{◌≡◌, ℕ, zero, suc, ◌+◌, ◌-◌, ◌<◌, ◌≤◌, Bool, true, false, cond, List, [], ◌∷◌, ◌++◌, codes, append_assoc, append-nil, Option, Some, None, Result, Ok, Err, refl, sym, ap, subst, ◌∙◌, arith}
use Rattle.std.proofs.lemmas.Bool.{and_parts}
use Rattle.std.specs.List.{list_all}
use Rattle.std.specs.Prelude.{unwrap_or}
use Rattle.std.specs.Str.{bytes_eq}
use Rattle.astg_lex.specs.Lines.{line_ends}
use Rattle.stg_net.specs.Names.{IsWellNamed}
use Rattle.stg_net.specs.Net.{NetLists, IsNet}
use Rattle.stg_steps.specs.declared.log.Log.{Log}
use Rattle.stg_steps.specs.LogText.{LogRow}
use Rattle.stg_steps.specs.Logs.{BeginsLog, first_lines, IsBadLine}
use Rattle.stg_steps.specs.inner.Reading.{pieces, trans_words, with_row, is_over, or_bad, log_after, log_in}
use Rattle.stg_steps.proofs.FirstLines.{line_ends-none, line_ends-line, first_lines-zero, first_lines-line}
use Rattle.stg_steps.proofs.Gaps.{lacks}
use Rattle.stg_steps.proofs.Pieces.{parted, has_front, pieces_front, parted-pieces, pieces-more, lacks-pieces}
use Rattle.stg_steps.proofs.ReadSteps.{not_over-more}
use Rattle.stg_steps.proofs.ToldRows.{is_word}
use Rattle.stg_steps.proofs.WholeLogs.{begun, CanBeLogged, nothing, nothing-logged, after_line, adds-line, read_log}

err_same : {A B : Type 0} (a b : B) → ◌≡◌ {A = Result A B} (Err a) (Err b) → a ≡ b
err_same a b e = cc

ok_err : {A B : Type 0} (a : A) (b : B) → ◌≡◌ {A = Result A B} (Ok a) (Err b) → ⊥
ok_err a b e = cc

-- a log so far begins a log's text
begins-so_far : (n : NetLists) (log : Log) → CanBeLogged n log → BeginsLog n (begun n log)
begins-so_far n log can = (log, codes "end\n", record { records = can.records; steps = can.steps; written = refl })

-- and its whole text does
begins-whole : (n : NetLists) (log : Log) → CanBeLogged n log → BeginsLog n (begun n log ++ codes "end\n")
begins-whole n log can = (log, [], record { records = can.records; steps = can.steps; written = append-nil (begun n log ++ codes "end\n") })

module _ (n : NetLists) (net : IsNet n) where
  -- The line, counted from the first piece's number on. Those before it begin a log, and where it is whole, any text that begins with it is refused there too.
  record Refused (number : ℕ) (log : Log) (ps : LogRow) (line : ℕ) : Type 0 where
    behind : ℕ
    counted : line ≡ number + behind
    within : behind ≤ line_ends (parted 10 ps)
    begins : BeginsLog n (begun n log ++ first_lines behind (parted 10 ps))
    always : behind < line_ends (parted 10 ps) → (more : List ℕ) → log_after n number log (pieces 10 (first_lines (suc behind) (parted 10 ps) ++ more)) ≡ Err line

  begins-none : (log : Log) (text : List ℕ) → CanBeLogged n log → BeginsLog n (begun n log ++ first_lines zero text)
  begins-none log text can = subst (λ l. BeginsLog n l) (sym (ap (λ l. begun n log ++ l) (first_lines-zero text) ∙ append-nil (begun n log))) (begins-so_far n log can)

  -- the first piece is no whole line
  refused-last : (number : ℕ) (log : Log) (w : List ℕ) (line : ℕ) → lacks 10 w ≡ true → CanBeLogged n log → number ≡ line → Refused number log (w ∷ []) line
  refused-last number log w line lack can e =
      let none : line_ends (w ++ []) ≡ 0 = ap line_ends (append-nil w) ∙ line_ends-none w lack in
      record {
        behind = zero;
        counted = omega (arith, e);
        within = omega arith;
        begins = begins-none log (w ++ []) can;
        always = λ below more. absurd (omega (arith, below, none));
      }

  module _ (number : ℕ) (log : Log) (w next : List ℕ) (tail : LogRow) (line : ℕ) (lack : lacks 10 w ≡ true) (lack_next : lacks 10 next ≡ true) (can : CanBeLogged n log) where
    abbrev rest : List ℕ
    rest = parted 10 (next ∷ tail)

    abbrev told : Option Log
    told = with_row n (trans_words n) log (pieces 32 w)

    ends_one : line_ends (w ++ 10 ∷ rest) ≡ line_ends rest + 1
    ends_one = line_ends-line w rest lack

    -- a text that begins with the first piece as a line
    pieces-of_lines : (k : ℕ) (more : List ℕ) → pieces 10 (first_lines (suc k) (w ++ 10 ∷ rest) ++ more) ≡ w ∷ pieces 10 (first_lines k rest ++ more)
    pieces-of_lines k more =
        ap (λ l. pieces 10 (l ++ more)) (first_lines-line k w rest lack) ∙ ap (pieces 10) (append_assoc w (10 ∷ first_lines k rest) more)
        ∙ pieces-more 10 w (first_lines k rest ++ more) lack

    reads : (k : ℕ) (more : List ℕ) → log_after n number log (pieces 10 (first_lines (suc k) (w ++ 10 ∷ rest) ++ more))
        ≡ cond (bytes_eq w (codes "end")) (cond (is_over (pieces 10 (first_lines k rest ++ more))) (Ok log) (Err (number + 1)))
        (or_bad number told (log_after n (number + 1) (unwrap_or told log) (pieces 10 (first_lines k rest ++ more))))
    reads k more = ap (log_after n number log) (pieces-of_lines k more) ∙ after_line n number log w (pieces 10 (first_lines k rest ++ more)) (pieces_front 10 (first_lines k rest ++ more))

    -- the first piece tells nothing
    refused-here : bytes_eq w (codes "end") ≡ false → told ≡ None → number ≡ line → Refused number log (w ∷ next ∷ tail) line
    refused-here other none e = record {
      behind = zero;
      counted = omega (arith, e);
      within = omega arith;
      begins = begins-none log (w ++ 10 ∷ rest) can;
      always = λ below more.
          reads zero more
          ∙ (λ j. let ps = pieces 10 (first_lines zero rest ++ more) in cond (other j) (cond (is_over ps) (Ok log) (Err (number + 1))) (or_bad number (none j) (log_after n (number + 1) (unwrap_or (none j) log) ps)))
          ∙ ap Err e;
    }

    -- something stands behind the last line
    behind_whole : (tail : LogRow) → 0 < line_ends (parted 10 (next ∷ tail)) → (more : List ℕ) → is_over (pieces 10 (first_lines 1 (parted 10 (next ∷ tail)) ++ more)) ≡ false
    behind_whole [] some more = absurd (omega (arith, some, ap line_ends (append-nil next) ∙ line_ends-none next lack_next))
    behind_whole (v ∷ vs) some more =
        let after = parted 10 (v ∷ vs) in
        ap (λ l. is_over (pieces 10 (l ++ more))) (first_lines-line zero next after lack_next ∙ ap (λ l. next ++ 10 ∷ l) (first_lines-zero after))
        ∙ ap (λ l. is_over (pieces 10 l)) (append_assoc next (10 ∷ []) more)
        ∙ ap is_over (pieces-more 10 next more lack_next)
        ∙ two next (pieces 10 more) (pieces_front 10 more)
      where
        two : (x : List ℕ) (ps : LogRow) → has_front ps ≡ true → is_over (x ∷ ps) ≡ false
        two [] ps h = not_over-more ps h
        two (b ∷ bs) ps h = refl

    refused-behind : bytes_eq w (codes "end") ≡ true → number + 1 ≡ line → Refused number log (w ∷ next ∷ tail) line
    refused-behind is e = record {
      behind = 1;
      counted = omega (arith, e);
      within = omega (arith, ends_one);
      begins = subst (λ l. BeginsLog n l) (sym (ap (λ l. begun n log ++ l) (first_lines-line zero w rest lack ∙ (λ j. is_word w (codes "end") is j ++ 10 ∷ first_lines-zero rest j)))) (begins-whole n log can);
      always = λ below more.
          let over = behind_whole tail (omega (arith, below, ends_one)) more in
          reads 1 more
          ∙ (λ j. cond (is j) (cond (over j) (Ok log) (Err (number + 1))) (or_bad number told (log_after n (number + 1) (unwrap_or told log) (pieces 10 (first_lines 1 rest ++ more)))))
          ∙ ap Err e;
    }

    -- a later line is refused
    refused-later : (new : Log) → bytes_eq w (codes "end") ≡ false → told ≡ Some new → Refused (number + 1) new (next ∷ tail) line → Refused number log (w ∷ next ∷ tail) line
    refused-later new other some later =
        let more_text = (adds-line n net log w new can some).1 in
        record {
          behind = suc later.behind;
          counted = (let c = later.counted in omega (arith, c));
          within = (let l = later.within in omega (arith, l, ends_one));
          begins = subst (λ l. BeginsLog n l)
              (ap (λ l. l ++ first_lines later.behind rest) more_text ∙ append_assoc (begun n log) (w ++ 10 ∷ []) (first_lines later.behind rest)
              ∙ ap (λ l. begun n log ++ l) (append_assoc w (10 ∷ []) (first_lines later.behind rest) ∙ sym (first_lines-line later.behind w rest lack))) later.begins;
          always = λ below more.
              reads (suc later.behind) more
              ∙ (λ j. let ps = pieces 10 (first_lines (suc later.behind) rest ++ more) in cond (other j) (cond (is_over ps) (Ok log) (Err (number + 1))) (or_bad number (some j) (log_after n (number + 1) (unwrap_or (some j) log) ps)))
              ∙ later.always (omega (arith, below, ends_one)) more;
        }

  refused : (ps : LogRow) (number : ℕ) (log : Log) (line : ℕ) → has_front ps ≡ true → list_all (lacks 10) ps ≡ true → CanBeLogged n log → log_after n number log ps ≡ Err line → Refused number log ps line
  refused [] number log line front lack can e = absurd (front_none front)
    where
      front_none : has_front [] ≡ true → ⊥
      front_none h = cc
  refused (w ∷ []) number log line front lack can e = refused-last number log w line (and_parts (lacks 10 w) true lack).0 can (err_same number line e)
  refused (w ∷ next ∷ tail) number log line front lack can e = by_end (bytes_eq w (codes "end")) refl (λ new can_too h. refused (next ∷ tail) (number + 1) new line refl lacks_tail can_too h) e
    where
      lack_here : lacks 10 w ≡ true
      lack_here = (and_parts (lacks 10 w) (list_all (lacks 10) (next ∷ tail)) lack).0

      lacks_tail : list_all (lacks 10) (next ∷ tail) ≡ true
      lacks_tail = (and_parts (lacks 10 w) (list_all (lacks 10) (next ∷ tail)) lack).1

      lack_next : lacks 10 next ≡ true
      lack_next = (and_parts (lacks 10 next) (list_all (lacks 10) tail) lacks_tail).0

      at_end : (b : Bool) → bytes_eq w (codes "end") ≡ true → cond b (Ok log) (Err (number + 1)) ≡ Err line → Refused number log (w ∷ next ∷ tail) line
      at_end true is h = absurd (ok_err log line h)
      at_end false is h = refused-behind number log w next tail line lack_here lack_next can is (err_same (number + 1) line h)

      by_row : (o : Option Log) → with_row n (trans_words n) log (pieces 32 w) ≡ o → bytes_eq w (codes "end") ≡ false
          → ((new : Log) → CanBeLogged n new → log_after n (number + 1) new (next ∷ tail) ≡ Err line → Refused (number + 1) new (next ∷ tail) line)
          → or_bad number o (log_after n (number + 1) (unwrap_or o log) (next ∷ tail)) ≡ Err line → Refused number log (w ∷ next ∷ tail) line
      by_row None at other later h = refused-here number log w next tail line lack_here lack_next can other at (err_same number line h)
      by_row (Some new) at other later h = refused-later number log w next tail line lack_here lack_next can new other at (later new (adds-line n net log w new can at).0 h)

      by_end : (b : Bool) → bytes_eq w (codes "end") ≡ b
          → ((new : Log) → CanBeLogged n new → log_after n (number + 1) new (next ∷ tail) ≡ Err line → Refused (number + 1) new (next ∷ tail) line)
          → cond b (cond (is_over (next ∷ tail)) (Ok log) (Err (number + 1)))
          (or_bad number (with_row n (trans_words n) log (pieces 32 w)) (log_after n (number + 1) (unwrap_or (with_row n (trans_words n) log (pieces 32 w)) log) (next ∷ tail))) ≡ Err line
          → Refused number log (w ∷ next ∷ tail) line
      by_end true is later h = at_end (is_over (next ∷ tail)) is h
      by_end false is later h = by_row (with_row n (trans_words n) log (pieces 32 w)) refl is later h

  pub refused_line : (text : List ℕ) (line : ℕ) → IsWellNamed n → log_in n text ≡ Err line → IsBadLine n text line
  refused_line text line named e = at r.behind r.counted r.within r.begins r.always
    where
      r : Refused 1 nothing (pieces 10 text) line
      r = refused (pieces 10 text) 1 nothing line (pieces_front 10 text) (lacks-pieces 10 text) (nothing-logged n) e

      whole : parted 10 (pieces 10 text) ≡ text
      whole = parted-pieces 10 text

      at : (behind : ℕ) → line ≡ 1 + behind → behind ≤ line_ends (parted 10 (pieces 10 text)) → BeginsLog n ([] ++ first_lines behind (parted 10 (pieces 10 text)))
          → (behind < line_ends (parted 10 (pieces 10 text)) → (more : List ℕ) → log_in n (first_lines (suc behind) (parted 10 (pieces 10 text)) ++ more) ≡ Err line)
          → IsBadLine n text line
      at behind counted within begins always =
          let ends = ap line_ends whole in
          let before : behind ≡ line - 1 = omega (arith, counted) in
          let here : suc behind ≡ line = omega (arith, counted) in
          record {
            no_log = λ log is. ok_err log line (sym (read_log n net named text log is) ∙ e);
            positive = omega (arith, counted);
            within = omega (arith, counted, within, ends);
            begins = subst (λ l. BeginsLog n l) (λ j. first_lines (before j) (whole j)) begins;
            ends = λ below begun_too.
                ok_err begun_too.0 line
                (sym (read_log n net named (first_lines line text ++ begun_too.1) begun_too.0 begun_too.2)
                ∙ sym (λ j. log_in n (first_lines (here j) (whole j) ++ begun_too.1))
                ∙ always (omega (arith, counted, below, ends)) begun_too.1);
          }
