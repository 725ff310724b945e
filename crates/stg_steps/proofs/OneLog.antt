-- Each text is that of one log or has one bad line, and not both.
use Rattle.std.proofs.Common.{◌≡◌, ◌⊎◌, ℕ, ◌-◌, ◌<◌, ◌≤◌, List, ◌++◌, append_assoc, Result, Ok, Err, IfOk, IfErr, refl, sym, ap, subst, ◌∙◌, arith, inl, inr}
use Rattle.std.proofs.lemmas.Bool.{cases_order}
use Rattle.stg_net.specs.Names.{IsWellNamed}
use Rattle.stg_net.specs.Net.{NetLists, IsNet}
use Rattle.stg_steps.specs.declared.log.Log.{Log}
use Rattle.stg_steps.specs.declared.log.StepError.{StepError}
use Rattle.stg_steps.specs.declared.log.StepError.TheVariants.{BadLine, NoMemory}
use Rattle.stg_steps.specs.Logs.{IsLogOf, BeginsLog, first_lines, IsBadLine, IsFaultOf, IsRead, IsLineTold}
use Rattle.stg_steps.specs.Laws.{LogIsOne, BadLineIsOne, TextIsTold}
use Rattle.stg_steps.specs.inner.Reading.{log_in}
use Rattle.stg_steps.specs.inner.Taking.{IsErrorOf}
use Rattle.stg_steps.proofs.BadLines.{refused_line}
use Rattle.stg_steps.proofs.FirstLines.{first_lines-fewer}
use Rattle.stg_steps.proofs.WholeLogs.{told_log, read_log}

ok_same : {A B : Type 0} (a b : A) → ◌≡◌ {A = Result A B} (Ok a) (Ok b) → a ≡ b
ok_same a b e = cc

pub log_is_one : LogIsOne
log_is_one n text log other net named is too = ok_same log other (sym (read_log n net named text log is) ∙ read_log n net named text other too)

-- the first lines of a beginning are a beginning
begins-fewer : (n : NetLists) (text : List ℕ) (j k : ℕ) → j ≤ k → BeginsLog n (first_lines k text) → BeginsLog n (first_lines j text)
begins-fewer n text j k le begins =
    let front = first_lines-fewer text j k le in
    (begins.0, front.0 ++ begins.1, subst (λ l. IsLogOf n l begins.0) (ap (λ l. l ++ begins.1) front.1 ∙ append_assoc (first_lines j text) front.0 begins.1) begins.2)

-- no line before a bad one is bad
not_before : (n : NetLists) (text : List ℕ) (line other : ℕ) → IsBadLine n text line → IsBadLine n text other → line < other → ⊥
not_before n text line other bad too less =
    let within = too.within in
    bad.ends (omega (arith, less, within)) (begins-fewer n text line (other - 1) (omega (arith, less)) too.begins)

pub bad_line_is_one : BadLineIsOne
bad_line_is_one n text line other bad too = elim (cases_order line other) [
  | inl same ↦ same
  | inr apart ↦ elim apart [
    | inl less ↦ absurd (not_before n text line other bad too less)
    | inr more ↦ absurd (not_before n text other line too bad more)
  ]
]

pub text_is_told : TextIsTold
text_is_told n text net named = by (log_in n text) refl
  where
    by : (r : Result Log ℕ) → log_in n text ≡ r → ((log : Log) × IsLogOf n text log) ⊎ ((line : ℕ) × IsBadLine n text line)
    by (Ok log) e = inl (log, told_log n net text log e)
    by (Err line) e = inr (line, refused_line n net text line named e)

-- what was read of a text, line by line, says what its log or its bad line is
module _ (n : NetLists) (text : List ℕ) (net : IsNet n) (named : IsWellNamed n) where
  fault_of : (e : StepError) → IsErrorOf e (log_in n text) → IsFaultOf n text e
  fault_of (BadLine line) h = refused_line n net text line named h
  fault_of NoMemory h = tt

  is_no_fault : (log : Log) (e : StepError) → IsLogOf n text log → IsErrorOf e (log_in n text) → IsRead log (Err e)
  is_no_fault log (BadLine line) is h = (refused_line n net text line named h).no_log log is
  is_no_fault log NoMemory is h = tt

  is_refused : (line : ℕ) (e : StepError) → IsBadLine n text line → IsErrorOf e (log_in n text) → IsLineTold line (Err e)
  is_refused line (BadLine told) bad h = bad_line_is_one n text told line (refused_line n net text told named h) bad
  is_refused line NoMemory bad h = tt

  -- the same of a net that is this one
  module _ (m : NetLists) (same : m ≡ n) where
    pub read_ok : (r : Result Log StepError) → IfOk r (λ log. log_in m text ≡ Ok log) → IfOk r (λ log. IsLogOf n text log)
    read_ok (Ok log) h = told_log n net text log (ap (λ k. log_in k text) (sym same) ∙ h)
    read_ok (Err e) h = tt

    pub read_fault : (r : Result Log StepError) → IfErr r (λ e. IsErrorOf e (log_in m text)) → IfErr r (λ e. IsFaultOf n text e)
    read_fault (Ok log) h = tt
    read_fault (Err e) h = fault_of e (subst (λ k. IsErrorOf e (log_in k text)) same h)

    pub read_all : (r : Result Log StepError) → IfOk r (λ log. log_in m text ≡ Ok log) → IfErr r (λ e. IsErrorOf e (log_in m text)) → (log : Log) → IsLogOf n text log → IsRead log r
    read_all (Ok found) h k log is = ok_same found log (sym h ∙ ap (λ j. log_in j text) same ∙ read_log n net named text log is)
    read_all (Err e) h k log is = is_no_fault log e is (subst (λ j. IsErrorOf e (log_in j text)) same k)

    pub refused_all : (r : Result Log StepError) → IfOk r (λ log. log_in m text ≡ Ok log) → IfErr r (λ e. IsErrorOf e (log_in m text)) → (line : ℕ) → IsBadLine n text line → IsLineTold line r
    refused_all (Ok found) h k line bad = bad.no_log found (told_log n net text found (ap (λ j. log_in j text) (sym same) ∙ h))
    refused_all (Err e) h k line bad = is_refused line e bad (subst (λ j. IsErrorOf e (log_in j text)) same k)
