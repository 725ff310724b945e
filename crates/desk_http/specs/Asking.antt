-- What the bytes of a request ask for. They alone decide it.
use Rattle.std.specs.Prelude.{ℕ, nat_lt, List, length, take, Option, None, Some, codes, if◌then◌else◌}
use Rattle.std.specs.Str.{bytes_eq}
use Rattle.desk_http.specs.Fields.{body_length}
use Rattle.desk_http.specs.Paths.{path_of}
use Rattle.desk_http.specs.Requests.{Request, IsRequest, HasNoHead}
use Rattle.desk_http.specs.declared.routes.Kind.TheVariants as kinds
use Rattle.desk_http.specs.declared.path.Path.{Path}
use Rattle.desk_http.specs.declared.path.Path.TheVariants as paths
use Rattle.desk_http.specs.declared.asked.Asked.{Asked}
use Rattle.desk_http.specs.declared.asked.Asked.TheVariants as asked
use Rattle.desk_http.specs.declared.asked.Wanted.{Wanted}
use Rattle.desk_http.specs.declared.asked.Wanted.TheVariants as wanted

-- the most bytes that a body may have
abbrev pub most_body : ℕ
most_body = 1048576

-- what a PUT of that name wants, by the length of its body
abbrev pub put_of : List ℕ → Option (Option ℕ) → Wanted
put_of name None = wanted.Now asked.BadRequest
put_of name (Some None) = wanted.Now asked.NoLength
put_of name (Some (Some n)) =
    if nat_lt most_body n then wanted.Now asked.TooLarge else wanted.Body name n

-- what is wanted of the path of a project
abbrev pub of_project : List ℕ → List ℕ → Option (Option ℕ) → Wanted
of_project method name len =
    if bytes_eq method (codes "GET") then wanted.Now (asked.Get name)
    else (if bytes_eq method (codes "PUT") then put_of name len
    else (if bytes_eq method (codes "DELETE") then wanted.Now (asked.Delete name)
    else wanted.Now (asked.NoMethod kinds.Project)))

-- what is wanted of a path, by the method and the length of the body
abbrev pub wanted_at : List ℕ → Option Path → Option (Option ℕ) → Wanted
wanted_at method None len = wanted.Now asked.NoPath
wanted_at method (Some paths.Projects) len =
    if bytes_eq method (codes "GET") then wanted.Now asked.List
    else wanted.Now (asked.NoMethod kinds.Projects)
wanted_at method (Some (paths.Project name)) len = of_project method name len
wanted_at method (Some (paths.Part name k)) len =
    if bytes_eq method (codes "GET") then wanted.Now (asked.Part name k)
    else wanted.Now (asked.NoMethod kinds.Part)

-- what is asked for, with what follows the head: the first bytes of it are the body
abbrev pub with_rest : List ℕ → Wanted → Asked
with_rest rest (wanted.Now a) = a
with_rest rest (wanted.Body name n) =
    if nat_lt (length rest) n then asked.BadRequest else asked.Put name (take n rest)

-- what a request asks for
abbrev pub asked_of : Request → Asked
asked_of r = with_rest r.rest (wanted_at r.method (path_of r.target) (body_length r.fields))

-- what bytes ask for
pub data Asks (bytes : List ℕ) : Asked → Type 0 where
  no_head : HasNoHead bytes → Asks bytes asked.BadRequest
  has_head : (r : Request) → IsRequest bytes r → Asks bytes (asked_of r)
