-- A log's text is read as this log, and a text that is read as a log is its text.
use Rattle.std.proofs.Common.{◌≡◌, ℕ, ◌+◌, ◌<◌, nat_le, Bool, true, false, cond, List, [], ◌∷◌, ◌++◌, codes, length, All, append_assoc, append-nil, Option, Some, None, Result, Ok, Err, refl, sym, ap, subst, ◌∙◌, arith, inl, inr}
use Rattle.std.proofs.lemmas.Bool.{false≢true, leb-false}
use Rattle.std.proofs.lemmas.List.Concat.{flat_map-append}
use Rattle.std.proofs.lemmas.List.Elements.{All-nil, All-head, All-tail, All-push}
use Rattle.std.specs.List.{list_all}
use Rattle.std.specs.Prelude.{flat_map, unwrap_or}
use Rattle.std.specs.Str.{bytes_eq}
use Rattle.stg_net.specs.Names.{IsWellNamed}
use Rattle.stg_net.specs.Net.{NetLists, IsNet}
use Rattle.stg_derive.specs.Loggable.{IsLoggableRecord, IsLoggableStep}
use Rattle.stg_derive.specs.declared.step.Step.{Step}
use Rattle.stg_derive.specs.declared.step.Step.TheVariants.{Contract, DropPlace, DropDummy}
use Rattle.stg_derive.specs.declared.part.Restore.{Restore}
use Rattle.stg_steps.specs.declared.log.Log.{Log}
use Rattle.stg_steps.specs.LogText.{LogRow, restore_words, step_words, line_of, restore_lines, step_lines}
use Rattle.stg_steps.specs.Logs.{IsLogOf}
use Rattle.stg_steps.specs.inner.Reading.{pieces, trans_words, restore_in, step_in, with_restore, with_step, with_row, is_over, or_bad, log_after, log_in}
use Rattle.stg_steps.proofs.Gaps.{lacks, space, line_feed}
use Rattle.stg_steps.proofs.Pieces.{parted, has_front, pieces_front, parted-pieces, pieces-more, pieces-parted, lacks-parted, line-parted}
use Rattle.stg_steps.proofs.ToldRows.{same_some, never, by_test, is_word, told-record, told-step}
use Rattle.stg_steps.proofs.WrittenRows.{restore_in-words, step_in-words, lack-restore, lack-step}

-- the lines of the records and steps so far
abbrev pub begun : NetLists → Log → List ℕ
begun n log = restore_lines n log.restored ++ step_lines n log.steps

-- these can be logged
pub record CanBeLogged (n : NetLists) (log : Log) : Type 0 where
  pub records : All (IsLoggableRecord n) log.restored
  pub steps : All (IsLoggableStep (length n.trans)) log.steps

abbrev pub nothing : Log
nothing = record { restored = []; steps = [] }

pub nothing-logged : (n : NetLists) → CanBeLogged n nothing
nothing-logged n = record { records = All-nil (IsLoggableRecord n); steps = All-nil (IsLoggableStep (length n.trans)) }

lines-push : {X : Type 0} (f : X → List ℕ) (xs : List X) (x : X) → flat_map f (xs ++ x ∷ []) ≡ flat_map f xs ++ f x
lines-push f xs x = flat_map-append f xs (x ∷ []) ∙ ap (λ l. flat_map f xs ++ l) (append-nil (f x))

none_left : {X : Type 0} (xs : List X) → length xs < 1 → xs ≡ []
none_left [] h = refl
none_left (x ∷ xs) h = absurd (omega (arith, h))

-- a line is its pieces between spaces, and LF
line-front : (ws : LogRow) → has_front ws ≡ true → line_of ws ≡ parted 32 ws ++ 10 ∷ []
line-front [] h = absurd (false≢true h)
line-front (w ∷ ws) h = line-parted w ws

pub line-pieces : (line : List ℕ) → line_of (pieces 32 line) ≡ line ++ 10 ∷ []
line-pieces line = line-front (pieces 32 line) (pieces_front 32 line) ∙ ap (λ l. l ++ 10 ∷ []) (parted-pieces 32 line)

pub over_is : (ps : LogRow) → is_over ps ≡ true → ps ≡ [] ∷ []
over_is [] h = absurd (false≢true h)
over_is ([] ∷ []) h = refl
over_is ([] ∷ w ∷ ws) h = absurd (false≢true h)
over_is ((b ∷ bs) ∷ ws) h = absurd (false≢true h)

pub err_ok : {A B : Type 0} (a : A) (b : B) → ◌≡◌ {A = Result A B} (Err b) (Ok a) → ⊥
err_ok a b e = cc

ok_same : {A B : Type 0} (a b : A) → ◌≡◌ {A = Result A B} (Ok a) (Ok b) → a ≡ b
ok_same a b e = cc

-- what comes of a whole line
pub after_line : (n : NetLists) (number : ℕ) (log : Log) (line : List ℕ) (ps : LogRow) → has_front ps ≡ true
    → log_after n number log (line ∷ ps)
    ≡ cond (bytes_eq line (codes "end")) (cond (is_over ps) (Ok log) (Err (number + 1)))
    (or_bad number (with_row n (trans_words n) log (pieces 32 line)) (log_after n (number + 1) (unwrap_or (with_row n (trans_words n) log (pieces 32 line)) log) ps))
after_line n number log line [] h = absurd (false≢true h)
after_line n number log line (w ∷ ps) h = refl

-- a row that is read adds its line
module _ (n : NetLists) (net : IsNet n) where
  abbrev pub Adds : Log → LogRow → Log → Type 0
  Adds log row new = CanBeLogged n new × (begun n new ≡ begun n log ++ line_of row)

  adds-record : (log : Log) (row : LogRow) (r : Restore) → log.steps ≡ [] → CanBeLogged n log → row ≡ restore_words n r → IsLoggableRecord n r → Adds log row (record log { restored = log.restored ++ r ∷ [] })
  adds-record log row r none can is h =
      let lines = restore_lines n log.restored in
      let line = line_of (restore_words n r) in
      let no_steps : step_lines n log.steps ≡ [] = ap (step_lines n) none in (
        record { records = All-push (IsLoggableRecord n) log.restored r can.records h; steps = can.steps },
        ap (λ l. l ++ step_lines n log.steps) (lines-push (λ q. line_of (restore_words n q)) log.restored r)
            ∙ ap (λ l. (lines ++ line) ++ l) no_steps ∙ append-nil (lines ++ line)
            ∙ sym (ap (λ l. (lines ++ l) ++ line) no_steps ∙ ap (λ l. l ++ line) (append-nil lines))
            ∙ ap (λ w. begun n log ++ line_of w) (sym is),
      )

  adds-step : (log : Log) (row : LogRow) (s : Step) → CanBeLogged n log → row ≡ step_words n s → IsLoggableStep (length n.trans) s → Adds log row (record log { steps = log.steps ++ s ∷ [] })
  adds-step log row s can is h =
      let lines = restore_lines n log.restored in
      let line = line_of (step_words n s) in (
        record { records = can.records; steps = All-push (IsLoggableStep (length n.trans)) log.steps s can.steps h },
        ap (λ l. lines ++ l) (lines-push (λ q. line_of (step_words n q)) log.steps s)
            ∙ sym (append_assoc lines (step_lines n log.steps) line)
            ∙ ap (λ w. begun n log ++ line_of w) (sym is),
      )

  adds-restored : (log : Log) (w : List ℕ) (rest : LogRow) (new : Log) → CanBeLogged n log → w ≡ codes "restore" → with_restore log (restore_in n (trans_words n) rest) ≡ Some new → Adds log (w ∷ rest) new
  adds-restored log w rest new can is e = by (restore_in n (trans_words n) rest) refl e
    where
      by : (o : Option Restore) → restore_in n (trans_words n) rest ≡ o → with_restore log o ≡ Some new → Adds log (w ∷ rest) new
      by None at h = absurd (never new h)
      by (Some r) at h =
          let told = told-record n net w rest r is at in
          elim (by_test (nat_le 1 (length log.steps)) None (Some (record log { restored = log.restored ++ r ∷ [] })) new h) [
            | inl y ↦ absurd (never new y.1)
            | inr z ↦ same_some (Adds log (w ∷ rest)) (record log { restored = log.restored ++ r ∷ [] }) new z.1 (adds-record log (w ∷ rest) r (none_left log.steps (leb-false 1 (length log.steps) z.0)) can told.0 told.1)
          ]

  adds-stepped : (log : Log) (row : LogRow) (new : Log) → CanBeLogged n log → with_step log (step_in (trans_words n) row) ≡ Some new → Adds log row new
  adds-stepped log row new can e = by (step_in (trans_words n) row) refl e
    where
      by : (o : Option Step) → step_in (trans_words n) row ≡ o → with_step log o ≡ Some new → Adds log row new
      by None at h = absurd (never new h)
      by (Some s) at h =
          let told = told-step n row s at in
          same_some (Adds log row) (record log { steps = log.steps ++ s ∷ [] }) new h (adds-step log row s can told.0 told.1)

  pub adds-row : (log : Log) (row : LogRow) (new : Log) → CanBeLogged n log → with_row n (trans_words n) log row ≡ Some new → Adds log row new
  adds-row log [] new can e = absurd (never new e)
  adds-row log (w ∷ rest) new can e = elim (by_test (bytes_eq w (codes "restore")) (with_restore log (restore_in n (trans_words n) rest)) (with_step log (step_in (trans_words n) (w ∷ rest))) new e) [
    | inl y ↦ adds-restored log w rest new can (is_word w (codes "restore") y.0) y.1
    | inr z ↦ adds-stepped log (w ∷ rest) new can z.1
  ]

  -- the line that it adds is the bytes that were read
  pub adds-line : (log : Log) (line : List ℕ) (new : Log) → CanBeLogged n log → with_row n (trans_words n) log (pieces 32 line) ≡ Some new → CanBeLogged n new × (begun n new ≡ begun n log ++ (line ++ 10 ∷ []))
  adds-line log line new can e = let a = adds-row log (pieces 32 line) new can e in (a.0, a.1 ∙ ap (λ l. begun n log ++ l) (line-pieces line))

  abbrev Told : Log → LogRow → Log → Type 0
  Told log ps found = CanBeLogged n found × (begun n log ++ parted 10 ps ≡ begun n found ++ codes "end\n")

  told_later : (log : Log) (line : List ℕ) (ps : LogRow) (new found : Log) → begun n new ≡ begun n log ++ (line ++ 10 ∷ []) → Told new ps found → CanBeLogged n found × (begun n log ++ (line ++ 10 ∷ parted 10 ps) ≡ begun n found ++ codes "end\n")
  told_later log line ps new found more told =
      (told.0, sym (ap (λ l. l ++ parted 10 ps) more ∙ append_assoc (begun n log) (line ++ 10 ∷ []) (parted 10 ps) ∙ ap (λ l. begun n log ++ l) (append_assoc line (10 ∷ []) (parted 10 ps))) ∙ told.1)

  -- pieces that are read as a log make up its text
  told_pieces : (ps : LogRow) (number : ℕ) (log found : Log) → log_after n number log ps ≡ Ok found → CanBeLogged n log → Told log ps found
  told_pieces [] number log found e can = absurd (err_ok found number e)
  told_pieces (line ∷ []) number log found e can = absurd (err_ok found number e)
  told_pieces (line ∷ next ∷ more) number log found e can = by_end (bytes_eq line (codes "end")) refl (λ new. told_pieces (next ∷ more) (number + 1) new found) e
    where
      at_end : (b : Bool) → is_over (next ∷ more) ≡ b → line ≡ codes "end" → cond b (Ok log) (Err (number + 1)) ≡ Ok found → Told log (line ∷ next ∷ more) found
      at_end false over is h = absurd (err_ok found (number + 1) h)
      at_end true over is h =
          let same = ok_same log found h in
          let rest = over_is (next ∷ more) over in
          subst (λ l. CanBeLogged n l × (begun n log ++ parted 10 (line ∷ next ∷ more) ≡ begun n l ++ codes "end\n")) same
          (can, (λ j. begun n log ++ parted 10 (is j ∷ rest j)))

      by_row : (o : Option Log) → with_row n (trans_words n) log (pieces 32 line) ≡ o
          → ((new : Log) → log_after n (number + 1) new (next ∷ more) ≡ Ok found → CanBeLogged n new → Told new (next ∷ more) found)
          → or_bad number o (log_after n (number + 1) (unwrap_or o log) (next ∷ more)) ≡ Ok found → Told log (line ∷ next ∷ more) found
      by_row None at later h = absurd (err_ok found number h)
      by_row (Some new) at later h =
          let a = adds-line log line new can at in
          told_later log line (next ∷ more) new found a.1 (later new h a.0)

      by_end : (b : Bool) → bytes_eq line (codes "end") ≡ b
          → ((new : Log) → log_after n (number + 1) new (next ∷ more) ≡ Ok found → CanBeLogged n new → Told new (next ∷ more) found)
          → cond b (cond (is_over (next ∷ more)) (Ok log) (Err (number + 1)))
          (or_bad number (with_row n (trans_words n) log (pieces 32 line)) (log_after n (number + 1) (unwrap_or (with_row n (trans_words n) log (pieces 32 line)) log) (next ∷ more))) ≡ Ok found
          → Told log (line ∷ next ∷ more) found
      by_end true is later h = at_end (is_over (next ∷ more)) refl (is_word line (codes "end") is) h
      by_end false is later h = by_row (with_row n (trans_words n) log (pieces 32 line)) refl later h

  -- an accepted text is that of its log
  pub told_log : (text : List ℕ) (log : Log) → log_in n text ≡ Ok log → IsLogOf n text log
  told_log text log e =
      let told = told_pieces (pieces 10 text) 1 nothing log e (nothing-logged n) in
      record { records = told.0.records; steps = told.0.steps; written = sym (parted-pieces 10 text) ∙ told.1 }

-- a written row is taken
module _ (n : NetLists) (net : IsNet n) (named : IsWellNamed n) where
  row-restore : (log : Log) (r : Restore) → log.steps ≡ [] → IsLoggableRecord n r → with_row n (trans_words n) log (restore_words n r) ≡ Some (record log { restored = log.restored ++ r ∷ [] })
  row-restore log r none h =
      ap (with_restore log) (restore_in-words n net named r h)
      ∙ ap (λ (ss : List Step). cond (nat_le 1 (length ss)) None (Some (record log { restored = log.restored ++ r ∷ [] }))) none

  row-step-parts : (log : Log) (s : Step) → with_row n (trans_words n) log (step_words n s) ≡ with_step log (step_in (trans_words n) (step_words n s))
  row-step-parts log (Contract t secure k) = refl
  row-step-parts log (DropPlace found) = refl
  row-step-parts log (DropDummy found) = refl

  row-step : (log : Log) (s : Step) → IsLoggableStep (length n.trans) s → with_row n (trans_words n) log (step_words n s) ≡ Some (record log { steps = log.steps ++ s ∷ [] })
  row-step log s h = row-step-parts log s ∙ ap (with_step log) (step_in-words n net named s h)

  step-not_end : (s : Step) → bytes_eq (parted 32 (step_words n s)) (codes "end") ≡ false
  step-not_end (Contract t secure k) = refl
  step-not_end (DropPlace found) = refl
  step-not_end (DropDummy found) = refl

  step-front : (s : Step) → has_front (step_words n s) ≡ true
  step-front (Contract t secure k) = refl
  step-front (DropPlace found) = refl
  step-front (DropDummy found) = refl

  pieces-line : (row : LogRow) (rest : List ℕ) → has_front row ≡ true → list_all (lacks 10) row ≡ true → pieces 10 (line_of row ++ rest) ≡ parted 32 row ∷ pieces 10 rest
  pieces-line row rest front lack =
      ap (λ l. pieces 10 (l ++ rest)) (line-front row front) ∙ ap (pieces 10) (append_assoc (parted 32 row) (10 ∷ []) rest)
      ∙ pieces-more 10 (parted 32 row) rest (lacks-parted 32 10 row refl lack)

  pieces-row : (row : LogRow) → has_front row ≡ true → list_all (lacks 32) row ≡ true → pieces 32 (parted 32 row) ≡ row
  pieces-row [] front lack = absurd (false≢true front)
  pieces-row (w ∷ ws) front lack = pieces-parted 32 w ws lack

  -- the line of a row that adds to the log
  line_taken : (row : LogRow) (number : ℕ) (log new : Log) (rest : List ℕ) → has_front row ≡ true → list_all (lacks 32) row ≡ true → list_all (lacks 10) row ≡ true
      → bytes_eq (parted 32 row) (codes "end") ≡ false → with_row n (trans_words n) log row ≡ Some new
      → log_after n number log (pieces 10 (line_of row ++ rest)) ≡ log_after n (number + 1) new (pieces 10 rest)
  line_taken row number log new rest front spaces lines other taken =
      let ps = pieces 10 rest in
      let end = cond (is_over ps) (Ok log) (Err (number + 1)) in
      let told : with_row n (trans_words n) log (pieces 32 (parted 32 row)) ≡ Some new = ap (with_row n (trans_words n) log) (pieces-row row front spaces) ∙ taken in
      ap (log_after n number log) (pieces-line row rest front lines)
      ∙ after_line n number log (parted 32 row) ps (pieces_front 10 rest)
      ∙ (λ j. cond (other j) end (or_bad number (told j) (log_after n (number + 1) (unwrap_or (told j) log) ps)))

  written_steps : (ss : List Step) (number : ℕ) (log : Log) → All (IsLoggableStep (length n.trans)) ss → log_after n number log (pieces 10 (step_lines n ss ++ codes "end\n")) ≡ Ok (record log { steps = log.steps ++ ss })
  written_steps [] number log all = ap (λ steps. Ok (record log { steps = steps })) (sym (append-nil log.steps))
  written_steps (s ∷ ss) number log all =
      let h = All-head (IsLoggableStep (length n.trans)) s ss all in
      let new : Log = record log { steps = log.steps ++ s ∷ [] } in
      ap (λ l. log_after n number log (pieces 10 l)) (append_assoc (line_of (step_words n s)) (step_lines n ss) (codes "end\n"))
      ∙ line_taken (step_words n s) number log new (step_lines n ss ++ codes "end\n") (step-front s) (lack-step n net named 32 space s h) (lack-step n net named 10 line_feed s h) (step-not_end s) (row-step log s h)
      ∙ written_steps ss (number + 1) new (All-tail (IsLoggableStep (length n.trans)) s ss all)
      ∙ ap (λ steps. Ok (record log { steps = steps })) (append_assoc log.steps (s ∷ []) ss)

  written_records : (rs : List Restore) (number : ℕ) (log found : Log) (rest : List ℕ) → All (IsLoggableRecord n) rs → log.steps ≡ []
      → ((m : ℕ) → log_after n m (record log { restored = log.restored ++ rs }) (pieces 10 rest) ≡ Ok found)
      → log_after n number log (pieces 10 (restore_lines n rs ++ rest)) ≡ Ok found
  written_records [] number log found rest all none later =
      ap (λ restored. log_after n number (record log { restored = restored }) (pieces 10 rest)) (sym (append-nil log.restored)) ∙ later number
  written_records (r ∷ rs) number log found rest all none later =
      let h = All-head (IsLoggableRecord n) r rs all in
      let new : Log = record log { restored = log.restored ++ r ∷ [] } in
      ap (λ l. log_after n number log (pieces 10 l)) (append_assoc (line_of (restore_words n r)) (restore_lines n rs) rest)
      ∙ line_taken (restore_words n r) number log new (restore_lines n rs ++ rest) refl (lack-restore n net named 32 space r h) (lack-restore n net named 10 line_feed r h) refl (row-restore log r none h)
      ∙ written_records rs (number + 1) new found rest (All-tail (IsLoggableRecord n) r rs all) none
      (λ m. ap (λ restored. log_after n m (record log { restored = restored }) (pieces 10 rest)) (append_assoc log.restored (r ∷ []) rs) ∙ later m)

  -- a log's text is read as this log
  pub read_log : (text : List ℕ) (log : Log) → IsLogOf n text log → log_in n text ≡ Ok log
  read_log text log is =
      ap (log_in n) (is.written ∙ append_assoc (restore_lines n log.restored) (step_lines n log.steps) (codes "end\n"))
      ∙ written_records log.restored 1 nothing log (step_lines n log.steps ++ codes "end\n") is.records refl
      (λ m. written_steps log.steps m (record { restored = log.restored; steps = [] }) is.steps)
