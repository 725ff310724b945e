-- Lists of names with their bytes.
use Rattle.std.specs.Prelude.{ℕ, List, [], ◌∷◌, Option, None, Some, slice_get, if◌then◌else◌}
use Rattle.std.specs.Option.{option_map_or}
use Rattle.std.specs.FinMap.{from_entries}
use Rattle.std.specs.Str.{bytes_eq}
use Rattle.io_shelf.specs.Outside.{Files}

-- a name with its bytes
abbrev pub NamedBytes : Type 0
NamedBytes = List ℕ × List ℕ

-- the entries as a map, where the first entry of a name stands
abbrev pub files_of : List NamedBytes → Files
files_of es = from_entries es

-- the bytes of the first entry of that name
abbrev pub bytes_of : List ℕ → List NamedBytes → Option (List ℕ)
bytes_of name [] = None
bytes_of name (e ∷ es) = if bytes_eq name e.0 then Some e.1 else bytes_of name es

-- the entries with these bytes under that name: in the place of its first entry, or last
abbrev pub put_entry : List ℕ → List ℕ → List NamedBytes → List NamedBytes
put_entry name bytes [] = (name, bytes) ∷ []
put_entry name bytes (e ∷ es) =
    if bytes_eq name e.0 then (name, bytes) ∷ es else e ∷ put_entry name bytes es

-- the bytes of the entry at a place, none past the end
abbrev pub bytes_at : List NamedBytes → ℕ → List ℕ
bytes_at es i = option_map_or (λ (e : NamedBytes). e.1) (slice_get es i) []
