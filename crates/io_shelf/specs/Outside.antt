-- The outside as contracts see it: contents where a form tells them, and counts of the calls that
-- failed.
use Rattle.std.specs.Prelude.{◌≡◌, ℕ, ◌+◌, ◌-◌, ◌^◌, ◌≤◌, min, List, Option, None, IsSome, Result, OnErr, IsErrOf}
use Rattle.std.specs.Option.{option_map, option_and_then}
use Rattle.std.specs.Ordering.{nat_cmp}
use Rattle.std.specs.Cmp.Lexicographic.{slice_cmp}
use Rattle.std.specs.FinMap.{FinMap, get, insert, remove}
use Rattle.io_shelf.specs.declared.outside.PutError.{PutError}
use Rattle.io_shelf.specs.declared.outside.PutError.TheVariants as put_error

-- a finite map from names to bytes
abbrev pub Files : Type 0
Files = FinMap (slice_cmp nat_cmp) (List ℕ)

-- a source: its texts and what is left of the one selected last, where told, and how many calls
-- selected and failed
pub record SeenSource : Type 0 where
  pub texts : Option Files
  pub left : Option (List ℕ)
  pub selects : ℕ
  pub faults : ℕ

-- a shelf: its files, where told, and how many calls failed
pub record SeenShelf : Type 0 where
  pub files : Option Files
  pub faults : ℕ

-- a sink: the bytes written, where told, and how many calls failed
pub record SeenSink : Type 0 where
  pub written : Option (List ℕ)
  pub faults : ℕ

-- one more, kept in 64 bits: the last number stays
abbrev pub one_more : ℕ → ℕ
one_more n = min (n + 1) (2 ^ 64 - 1)

-- a count rose, or stands at its last value
abbrev pub Rose : ℕ → ℕ → Type 0
Rose before now = one_more before ≤ now

-- a count of faults never falls, and a call fails only where it rose
pub record HasCause {T E : Type 0} (before now : ℕ) (result : Result T E) : Type 0 where
  pub later : before ≤ now
  pub failed : OnErr result (Rose before now)

-- a count of faults never falls, and a put fails, but for want of memory, only where it rose
pub record HasPutCause {T : Type 0} (before now : ℕ) (result : Result T PutError) : Type 0 where
  pub later : before ≤ now
  pub failed : IsErrOf result put_error.Failed → Rose before now

-- the bytes of that name, where the files are told and one has it
abbrev pub named : Option Files → List ℕ → Option (List ℕ)
named files name = option_and_then (λ (m : Files). get m name) files

-- the texts are told, and none has that name
pub record IsMissing (name : List ℕ) (seen : SeenSource) : Type 0 where
  pub told : IsSome seen.texts
  pub unnamed : named seen.texts name ≡ None

-- the files, where told, with these bytes under that name
abbrev pub with_file : Option Files → List ℕ → List ℕ → Option Files
with_file files name bytes = option_map (λ (m : Files). insert m name bytes) files

-- the files, where told, without that name
abbrev pub without_file : Option Files → List ℕ → Option Files
without_file files name = option_map (λ (m : Files). remove m name) files
