-- The search for the least clash of one signal, from the first transition on.
use Rattle.std.specs.Prelude.{ℕ, zero, suc, ◌&&◌, nat_lt, List, [], ◌∷◌, Option, Some, None, length, if◌then◌else◌}
use Rattle.stg_net.specs.declared.signal.Signal.{Signal}
use Rattle.stg_net.specs.Graph.{Graph, full_name_at}
use Rattle.stg_edit.specs.Walks.{taken_places, taking_trans}
use Rattle.stg_conflict.specs.declared.clash.Clash.{Clash}
use Rattle.stg_conflict.specs.inner.Labels.{are_alike, is_of_signal}
use Rattle.stg_conflict.specs.inner.Search.{lesser}

-- what is so far, once it went through each number of a walk
abbrev pub walked : (ℕ → Option Clash → Option Clash) → Option Clash → List (ℕ × ℕ) → Option Clash
walked step least [] = least
walked step least (x ∷ walk) = walked step (step x.0 least) walk

-- the clash of t with a later transition of its label, where both take from p
abbrev pub later_clash : Graph → ℕ → ℕ → ℕ → Option Clash
later_clash g t p u =
    if nat_lt t u && are_alike (full_name_at g t) (full_name_at g u)
    then Some (record { t1 = t; t2 = u; place = p })
    else None

-- the lesser of the one so far and that of t with u
abbrev pub least_with_taker : Graph → ℕ → ℕ → ℕ → Option Clash → Option Clash
least_with_taker g t p u least = lesser (later_clash g t p u) least

-- the least of the one so far and those of t with the takers of p
abbrev pub least_at_place : Graph → ℕ → ℕ → Option Clash → Option Clash
least_at_place g t p least = walked (least_with_taker g t p) least (taking_trans g p)

-- the least of the one so far and those of t
abbrev pub least_of_trans : Graph → ℕ → Option Clash → Option Clash
least_of_trans g t least = walked (least_at_place g t) least (taken_places g t)

-- the least of those of the signal's transitions below n
abbrev pub least_below : List Signal → ℕ → Graph → ℕ → Option Clash
least_below signals s g zero = None
least_below signals s g (suc n) =
    let below = least_below signals s g n in
    if is_of_signal signals s g n then least_of_trans g n below else below

-- the least of the signal
abbrev pub least_of_signal : List Signal → ℕ → Graph → Option Clash
least_of_signal signals s g = least_below signals s g (length g.trans)
