-- Heads that are read piece by piece.
use Rattle.std.specs.Prelude.{◌≡◌, ℕ, ◌≤◌, List, length, take, Option, None, Some, Result, Ok, Err, IsTrue, ⊤}
use Rattle.httparse.specs.Grammar.{HasNoRequest}
use Rattle.httparse.specs.Spans.{IsRequestOf, IsRequestWithin, RequestOverflows}
use Rattle.httparse.specs.declared.spans.HeaderSpan.{HeaderSpan}
use Rattle.httparse.specs.declared.spans.RequestSpans.{RequestSpans}
use Rattle.io_shelf.specs.declared.outside.Failed.{Failed}
use Rattle.job_keeper.specs.Projects.{is_project_name}
use Rattle.desk_http.specs.Answering.{NamesProject}
use Rattle.desk_http.specs.Requests.{HasNoHead}
use Rattle.desk_http.specs.inner.Wire.{HasRead}
use Rattle.desk_http.specs.declared.asked.Wanted.{Wanted}
use Rattle.desk_http.specs.declared.asked.Wanted.TheVariants as wanted
use Rattle.desk_http.specs.declared.head.Front.{Front}
use Rattle.desk_http.specs.declared.head.Parsed.{Parsed}
use Rattle.desk_http.specs.declared.head.Parsed.TheVariants as parsed
use Rattle.desk_http.specs.declared.path.Path.{Path}
use Rattle.desk_http.specs.declared.path.Path.TheVariants as paths

-- the spans are those of a head in the bytes
pub record IsRequestHead (bytes : List ℕ) (headers : List HeaderSpan) (spans : RequestSpans) : Type 0 where
  pub of : IsRequestOf bytes headers spans
  pub within : IsRequestWithin bytes headers spans

-- what some bytes are
abbrev pub Parses : List ℕ → List HeaderSpan → Parsed → Type 0
Parses bytes headers (parsed.Whole spans) = IsRequestHead bytes headers spans
Parses bytes headers parsed.Partly = HasNoRequest bytes
Parses bytes headers parsed.Never = RequestOverflows (length headers) bytes

-- a head was read, or the bytes that were left have none
abbrev pub FindsHead : List ℕ → List HeaderSpan → Option (List ℕ) → Option (List ℕ) → Result (Option Front) Failed → Type 0
FindsHead buf headers old new (Ok (Some f)) =
    (f.len ≤ length buf) × IsRequestHead (take f.len buf) headers f.spans × HasRead (take f.len buf) old new
FindsHead buf headers old new (Ok None) = (input : List ℕ) → old ≡ Some input → HasNoHead input
FindsHead buf headers old new (Err e) = ⊤

-- the name in the path is one
abbrev pub IsNamedPath : Option Path → Type 0
IsNamedPath None = ⊤
IsNamedPath (Some paths.Projects) = ⊤
IsNamedPath (Some (paths.Project name)) = IsTrue (is_project_name name)
IsNamedPath (Some (paths.Part name k)) = IsTrue (is_project_name name)

-- the name that is wanted is one
abbrev pub IsNamedWant : Wanted → Type 0
IsNamedWant (wanted.Now a) = NamesProject a
IsNamedWant (wanted.Body name n) = IsTrue (is_project_name name)
