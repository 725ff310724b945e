-- How the places of a component are named.
use Rattle.std.specs.Prelude.{ℕ, ◌+◌, Bool, ◌==◌, not, nat_eq, List, ◌++◌, length, codes, decimal, if◌then◌else◌}
use Rattle.std.specs.List.{list_any, position_or_len, range_with_len, starts_with}
use Rattle.stg_net.specs.declared.signal.Signal.{Signal}

-- the prefix of that number: p, p1_, p2_ and so on
abbrev pub prefix_text : ℕ → List ℕ
prefix_text k = if k == 0 then codes "p" else codes "p" ++ decimal k ++ codes "_"

-- whether the signal's name begins with the prefix
abbrev pub begins_with : List ℕ → Signal → Bool
begins_with prefix s = starts_with nat_eq s.name prefix

-- whether no signal begins with it
abbrev pub is_free : List Signal → List ℕ → Bool
is_free signals prefix = not (list_any (begins_with prefix) signals)

-- the number of the first free prefix; n signals leave one of the first n + 2 free
abbrev pub prefix_number : List Signal → ℕ
prefix_number signals =
    position_or_len (λ k. is_free signals (prefix_text k)) (range_with_len 0 (length signals + 2))

-- the first free prefix
abbrev pub place_prefix : List Signal → List ℕ
place_prefix signals = prefix_text (prefix_number signals)

-- places are numbered from 1
abbrev pub numbered_name : List ℕ → ℕ → List ℕ
numbered_name prefix p = prefix ++ decimal (p + 1)
