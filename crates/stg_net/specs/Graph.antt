-- A graph: places with their tokens, transitions with their full names, and
-- the weights of the arcs between them.
use Rattle.std.specs.Prelude.{◌≡◌, ℕ, Bool, false, List, Option, Some, None, IsSome, IsTrue, length, slice_index, slice_index_or}
use Rattle.std.specs.List.{list_any, range_with_len}
use Rattle.std.specs.Str.{bytes_eq}
use Rattle.stg_net.specs.declared.trans.Edge.{Edge}

-- the full name of a transition: its signal's name, its edge and its index
pub record FullName : Type 0 where
  pub signal : List ℕ
  pub edge : Edge
  pub index : ℕ

-- a place: its tokens, what each transition takes from it, and what each gives to it
pub record Place : Type 0 where
  pub tokens : ℕ
  pub taken : List ℕ
  pub given : List ℕ

-- Places and transitions stand at their numbers, with `None` where one has gone. The next new
-- place gets the number `length places`.
-- In the graphs that nets and edits make, each place has one number for each
-- transition, and 0 for one that has gone.
-- `first_places` is the number of places that the graph began with, and stays through all edits.
pub record Graph : Type 0 where
  pub places : List (Option Place)
  pub trans : List (Option FullName)
  pub known : List (List ℕ)
  pub first_places : ℕ

-- the place with this number, where it is live
abbrev pub place_at : Graph → ℕ → Option Place
place_at g p = slice_index_or g.places p None

-- the full name of the transition with this number, where it is live
abbrev pub full_name_at : Graph → ℕ → Option FullName
full_name_at g t = slice_index_or g.trans t None

-- the place with this number is live
abbrev pub IsPlace : Graph → ℕ → Type 0
IsPlace g p = IsSome (place_at g p)

-- the transition with this number is live
abbrev pub IsTrans : Graph → ℕ → Type 0
IsTrans g t = IsSome (full_name_at g t)

-- the tokens of a place; 0 where it has gone
abbrev pub tokens_in : Option Place → ℕ
tokens_in None = 0
tokens_in (Some x) = x.tokens

-- what t takes from a place; 0 where it has gone
abbrev pub taken_by : ℕ → Option Place → ℕ
taken_by t None = 0
taken_by t (Some x) = slice_index x.taken t

-- what t gives to a place; 0 where it has gone
abbrev pub given_by : ℕ → Option Place → ℕ
given_by t None = 0
given_by t (Some x) = slice_index x.given t

-- the tokens that p has at first; 0 where p has gone
abbrev pub tokens_at : Graph → ℕ → ℕ
tokens_at g p = tokens_in (place_at g p)

-- the weight of the arc from p to t; 0 where there is none
abbrev pub takes : Graph → ℕ → ℕ → ℕ
takes g t p = taken_by t (place_at g p)

-- the weight of the arc from t to p; 0 where there is none
abbrev pub gives : Graph → ℕ → ℕ → ℕ
gives g t p = given_by t (place_at g p)

-- whether the signal of this name is one of the signals
abbrev pub is_among : List (List ℕ) → List ℕ → Bool
is_among signals s = list_any (λ known. bytes_eq known s) signals

-- whether a transition is live and its signal is one of the signals
abbrev pub has_signal_of : List (List ℕ) → Option FullName → Bool
has_signal_of signals None = false
has_signal_of signals (Some name) = is_among signals name.signal

-- t is live, and its signal is known
abbrev pub IsKnown : Graph → ℕ → Type 0
IsKnown g t = IsTrue (has_signal_of g.known (full_name_at g t))

-- t is live, and its signal isn't known
pub record IsDummy (g : Graph) (t : ℕ) : Type 0 where
  pub live : IsTrans g t
  pub hidden : has_signal_of g.known (full_name_at g t) ≡ false

-- the numbers of all places so far, also of those that have gone, in ascending order
abbrev pub place_numbers : Graph → List ℕ
place_numbers g = range_with_len 0 (length g.places)
