-- The order in which a net is written: the same net with other numbers.
use Rattle.std.specs.Prelude.{ℕ, ◌+◌, min, zero, suc, Bool, ◌&&◌, ◌==◌, List, [], ◌∷◌, ◌++◌, length, map, filter, slice_index, if◌then◌else◌}
use Rattle.std.specs.List.{position_or_len}
use Rattle.stg_net.specs.declared.signal.Kind.{Kind}
use Rattle.stg_net.specs.declared.signal.Kind.TheVariants.{Input, Output, Internal}
use Rattle.stg_net.specs.declared.signal.Signal.{Signal}
use Rattle.stg_net.specs.declared.trans.TransName.{TransName}
use Rattle.stg_net.specs.declared.arc.NetArc.{NetArc}
use Rattle.stg_net.specs.Net.{NetLists, signal_at, is_kind}

-- what is listed for each number below n, one after the other
abbrev pub listed_below : {X : Type 0} → (ℕ → List X) → ℕ → List X
listed_below f zero = []
listed_below f (suc n) = listed_below f n ++ f n

-- the number alone where it passes the test, and nothing otherwise
abbrev pub only_where : (ℕ → Bool) → ℕ → List ℕ
only_where test k = if test k then k ∷ [] else []

-- the numbers below n that pass the test, in ascending order
abbrev pub numbers_where : (ℕ → Bool) → ℕ → List ℕ
numbers_where test n = listed_below (only_where test) n

-- the numbers below n that have the key t
abbrev pub numbers_with : (ℕ → ℕ) → ℕ → ℕ → List ℕ
numbers_with key n t = numbers_where (λ k. key k == t) n

-- the numbers below n in the order of their keys, which are below m, and by number among equals
abbrev pub numbers_by : (ℕ → ℕ) → ℕ → ℕ → List ℕ
numbers_by key n m = listed_below (numbers_with key n) m

-- whether the signal of that number has the kind
abbrev pub has_kind : List Signal → Kind → ℕ → Bool
has_kind signals kind s = is_kind kind (signal_at signals s).kind

-- the numbers of the signals of a kind, in ascending order
abbrev pub signals_of_kind : List Signal → Kind → List ℕ
signals_of_kind signals kind = numbers_where (has_kind signals kind) (length signals)

-- the old numbers of the signals: inputs, then outputs, then internals, each kind in its old order
abbrev pub signal_order : List Signal → List ℕ
signal_order signals =
    signals_of_kind signals Input ++ signals_of_kind signals Output
    ++ signals_of_kind signals Internal

-- the least number of a transition that gives to the place; none where no transition does
abbrev pub least_giver : ℕ → ℕ → List NetArc → ℕ
least_giver none p [] = none
least_giver none p (a ∷ arcs) =
    if a.into && (a.place == p) then min a.trans (least_giver none p arcs)
    else least_giver none p arcs

-- the first transition that gives to the place, or the number of transitions where none does
abbrev pub first_giver : NetLists → ℕ → ℕ
first_giver n p = least_giver (length n.trans) p n.arcs

-- the old numbers of the places: by their first giver, and by their old number among equals
abbrev pub place_order : NetLists → List ℕ
place_order n = numbers_by (first_giver n) (length n.tokens) (length n.trans + 1)

-- where the old number stands in the order
abbrev pub new_number : List ℕ → ℕ → ℕ
new_number order old = position_or_len (λ k. k == old) order

-- the name with the new number of its signal
abbrev pub with_signal_number : List ℕ → TransName → TransName
with_signal_number order t = record t { signal = new_number order t.signal }

-- the arc with another number of its place
abbrev pub with_place_number : ℕ → NetArc → NetArc
with_place_number q a = record a { place = q }

-- the arcs of the place p
abbrev pub arcs_at : List NetArc → ℕ → List NetArc
arcs_at arcs p = filter (λ (a : NetArc). a.place == p) arcs

-- the arcs of the place that stands at q in the order
abbrev pub arcs_moved : List NetArc → List ℕ → ℕ → List NetArc
arcs_moved arcs order q = map (with_place_number q) (arcs_at arcs (slice_index order q))

-- the net with its signals and places in order; transitions keep their numbers
abbrev pub ordered : NetLists → NetLists
ordered n = record {
  signals = map (signal_at n.signals) (signal_order n.signals);
  trans = map (with_signal_number (signal_order n.signals)) n.trans;
  tokens = map (slice_index n.tokens) (place_order n);
  arcs = listed_below (arcs_moved n.arcs (place_order n)) (length (place_order n));
}
