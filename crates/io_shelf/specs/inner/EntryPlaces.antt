-- The place of a name in a list of entries.
use Rattle.std.specs.Prelude.{ℕ, List, [], ◌∷◌, ◌++◌, Option, None, Some, slice_set, ◌≡◌, ◌<◌, length, MatchOption, slice_get}
use Rattle.io_shelf.specs.Entries.{NamedBytes, bytes_of}
use Rattle.std.specs.Option.{option_map}

-- the entries with this one at a place, or last
abbrev pub put_at : Option ℕ → NamedBytes → List NamedBytes → List NamedBytes
put_at None e es = es ++ e ∷ []
put_at (Some i) e es = slice_set es i e

-- the place of the first entry of that name
abbrev pub IsPlaceOf : List ℕ → List NamedBytes → Option ℕ → Type 0
IsPlaceOf name es place = MatchOption place (bytes_of name es ≡ None) (λ i.
    (i < length es)
    × (bytes_of name es ≡ option_map (λ (e : NamedBytes). e.1) (slice_get es i)))
