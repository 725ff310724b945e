-- Groups of a net's signals: which are in conflict, which stand together, and what a group knows.
use Rattle.std.specs.Prelude.{◌≡◌, ◌↔◌, ℕ, Bool, not, ◌&&◌, ◌||◌, ◌==◌, List, [], ◌∷◌, Contains, length, map, slice_index, IsTrue}
use Rattle.std.specs.List.{list_any, range_with_len}
use Rattle.std.specs.List.Sorted.{IsStrictlyIncreasing}
use Rattle.stg_net.specs.declared.signal.Signal.{Signal}
use Rattle.stg_net.specs.declared.arc.NetArc.{NetArc}
use Rattle.stg_net.specs.Net.{NetLists, signal_at, trans_at}
use Rattle.stg_net.specs.Component.{is_one_of}
use Rattle.stg_net.specs.Ordered.{numbers_where}
use Rattle.stg_laws.specs.Stgs.{is_driven}

-- the number of the signal of an arc's transition
abbrev pub signal_of : NetLists → NetArc → ℕ
signal_of n a = (trans_at n.trans a.trans).signal

-- whether the signal of that number is an output or an internal signal
abbrev pub is_driven_at : List Signal → ℕ → Bool
is_driven_at signals s = is_driven (signal_at signals s).kind

-- whether a transition of the signal takes from the place
abbrev pub takes_from : NetLists → ℕ → ℕ → Bool
takes_from n s p =
    list_any (λ (a : NetArc). not a.into && (a.place == p) && (signal_of n a == s)) n.arcs

-- whether a transition of the signal takes from the place or gives to it
abbrev pub is_at : NetLists → ℕ → ℕ → Bool
is_at n s p = list_any (λ (a : NetArc). (a.place == p) && (signal_of n a == s)) n.arcs

-- whether transitions of both take from one place
abbrev pub share_place : NetLists → ℕ → ℕ → Bool
share_place n x y =
    list_any (λ p. takes_from n x p && takes_from n y p) (range_with_len 0 (length n.tokens))

-- whether both are outputs or internal signals, and transitions of both take from one place
abbrev pub in_conflict : NetLists → ℕ → ℕ → Bool
in_conflict n x y = is_driven_at n.signals x && is_driven_at n.signals y && share_place n x y

-- the list leads from x to y: each signal is in conflict with the next
abbrev pub LeadsTo : NetLists → ℕ → List ℕ → ℕ → Type 0
LeadsTo n x [] y = x ≡ y
LeadsTo n x (z ∷ path) y = IsTrue (in_conflict n x z) × LeadsTo n z path y

-- a list of signals leads from x to y
pub record AreJoined (n : NetLists) (x y : ℕ) : Type 0 where
  pub path : List ℕ
  pub leads : LeadsTo n x path y

-- the least signal of a group, whose signals ascend
abbrev pub least_own : List ℕ → ℕ
least_own own = slice_index own 0

-- an output or internal signal and all signals to which a list leads from it, in ascending order
pub record IsPlainGroup (n : NetLists) (own : List ℕ) : Type 0 where
  pub driven : IsTrue (is_driven_at n.signals (least_own own))
  pub ascends : IsStrictlyIncreasing own
  pub joined : (s : ℕ) → Contains own s ↔ AreJoined n (least_own own) s

-- whether a transition of an own signal takes from the place
abbrev pub own_take_from : NetLists → List ℕ → ℕ → Bool
own_take_from n own p = list_any (λ s. takes_from n s p) own

-- whether the signal is an own one, or a transition of it takes from or gives to a
-- place from which an own transition takes
abbrev pub is_known_to : NetLists → List ℕ → ℕ → Bool
is_known_to n own s =
    is_one_of own s
    || list_any (λ p. own_take_from n own p && is_at n s p) (range_with_len 0 (length n.tokens))

-- the signals that a group knows, in ascending order
abbrev pub known_to : NetLists → List ℕ → List ℕ
known_to n own = numbers_where (is_known_to n own) (length n.signals)

-- the names of the signals of these numbers
abbrev pub names_at : NetLists → List ℕ → List (List ℕ)
names_at n signals = map (λ s. (signal_at n.signals s).name) signals
