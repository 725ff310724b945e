-- The three kinds of targets, and what the desk's router answers.
use Rattle.std.specs.Prelude.{◌≡◌, ℕ, Bool, true, false, ◌==◌, if◌then◌else◌, List, [], ◌∷◌, Option, Some, None, codes}
use Rattle.std.specs.Option.{option_map, option_and_then}
use Rattle.matchit.specs.Rows.{RowsOf}
use Rattle.matchit.specs.Router.{RouteOf}
use Rattle.matchit.specs.Seek.{first, has_slash}
use Rattle.desk_http.specs.declared.routes.Kind.{Kind}
use Rattle.desk_http.specs.declared.routes.Kind.TheVariants as kinds

-- what follows a prefix
abbrev pub past_prefix : List ℕ → List ℕ → Option (List ℕ)
past_prefix [] text = Some text
past_prefix (c ∷ cs) [] = None
past_prefix (c ∷ cs) (x ∷ text) = if c == x then past_prefix cs text else None

-- a text from its first slash (47) on
abbrev pub from_slash : List ℕ → List ℕ
from_slash [] = []
from_slash (c ∷ cs) = if c == 47 then c ∷ cs else from_slash cs

-- one of three values, by the form of a target
module _ {K : Type 0} where
  -- a last piece: some bytes without a slash
  abbrev pub last_piece : K → List ℕ → Option K
  last_piece part [] = None
  last_piece part (c ∷ cs) = if has_slash (c ∷ cs) then None else Some part

  -- what follows `/projects/`: a piece alone, or a piece, `/parts/` and a last piece
  abbrev pub below : K → K → List ℕ → Option K
  below part project [] = None
  below part project (c ∷ cs) =
      if c == 47 then None
      else (if has_slash cs
      then option_and_then (last_piece part) (past_prefix (codes "/parts/") (from_slash cs))
      else Some project)

  -- what follows `/projects`
  abbrev pub at_root : K → K → K → List ℕ → Option K
  at_root part project projects [] = Some projects
  at_root part project projects (c ∷ cs) = if 47 == c then below part project cs else None

  -- the one of the target
  abbrev pub chosen : K → K → K → List ℕ → Option K
  chosen part project projects target =
      option_and_then (at_root part project projects) (past_prefix (codes "/projects") target)

-- the kind of a target
abbrev pub kind_of : List ℕ → Option Kind
kind_of target = chosen kinds.Part kinds.Project kinds.Projects target

-- the kind that a router finds
abbrev pub kind_at : RowsOf (RouteOf Kind) → List ℕ → Option Kind
kind_at rows target = option_map (λ (r : RouteOf Kind). r.value) (first rows target)

-- no token of a pattern but bytes
abbrev pub is_plain : List ℕ → Bool
is_plain [] = true
is_plain (c ∷ cs) = if c == 256 then false else (if c == 257 then false else is_plain cs)

-- the router finds for each text its kind
abbrev pub IsRoutes : RowsOf (RouteOf Kind) → Type 0
IsRoutes rows = (target : List ℕ) → is_plain target ≡ true → kind_at rows target ≡ kind_of target
