-- The numbers of the groups in which signals stand.
use Rattle.std.specs.Prelude.{◌≡◌, ℕ, ◌<◌, Bool, false, ◌&&◌, ◌==◌, List, length, position, slice_index_or, Option, Some, None, is_none, IsTrue}
use Rattle.stg_net.specs.Net.{NetLists}
use Rattle.stg_net.specs.Component.{is_one_of}
use Rattle.stg_laws.specs.Groups.{is_driven_at}
use Rattle.stg_laws.specs.PlainGroups.{Group}

-- the number of the first group in which the signal stands
abbrev pub group_number : List Group → ℕ → Option ℕ
group_number groups s = position (λ (group : Group). is_one_of group.own s) groups

-- the number at that signal
abbrev pub number_at : List (Option ℕ) → ℕ → Option ℕ
number_at numbers s = slice_index_or numbers s None

-- the numbers are those of the groups in which the signals stand
pub record AreNumbers (n : NetLists) (groups : List Group)
    (numbers : List (Option ℕ)) : Type 0 where
  pub long : length numbers ≡ length n.signals
  pub each : (s : ℕ) → s < length n.signals → number_at numbers s ≡ group_number groups s

-- whether the signal is an output or internal one that has no number
abbrev pub is_unnumbered : NetLists → List (Option ℕ) → ℕ → Bool
is_unnumbered n numbers s = is_driven_at n.signals s && is_none (number_at numbers s)

-- the signal is one, and no lesser one is
pub record IsFirstUnnumbered (n : NetLists) (numbers : List (Option ℕ)) (s : ℕ) : Type 0 where
  pub unnumbered : IsTrue (is_unnumbered n numbers s)
  pub there : s < length n.signals
  pub first : (r : ℕ) → r < s → is_unnumbered n numbers r ≡ false

-- no signal is one
abbrev pub AreAllNumbered : NetLists → List (Option ℕ) → Type 0
AreAllNumbered n numbers = (r : ℕ) → r < length n.signals → is_unnumbered n numbers r ≡ false

-- whether both are the same number
abbrev pub are_same_numbers : Option ℕ → Option ℕ → Bool
are_same_numbers (Some j) (Some k) = j == k
are_same_numbers (Some j) None = false
are_same_numbers None k = is_none k
