-- The names that a net's graph knows.
use Rattle.std.proofs.Common.{◌≡◌, ℕ, List, [], map, length, get_or, sym}
use Rattle.std.proofs.lemmas.List.{length-map}
use Rattle.std.proofs.lemmas.List.FromFn.{fill_by_all}
use Rattle.std.proofs.Math.ListN.{get_or-map}
use Rattle.stg_net.specs.declared.signal.Kind.TheVariants.{Input}
use Rattle.stg_net.specs.declared.signal.Signal.{Signal}
use Rattle.stg_net.specs.Net.{NetLists, signal_at}
use Rattle.stg_net.specs.Initial.{graph_of}

-- the names of the signals, in order
abbrev pub signal_names : List Signal → List (List ℕ)
signal_names signals = map (λ (s : Signal). s.name) signals

abbrev pub no_signal : Signal
no_signal = record { name = []; kind = Input }

pub signal_name-at : (signals : List Signal) (s : ℕ) → (signal_at signals s).name ≡ get_or (signal_names signals) s []
signal_name-at signals s = sym (get_or-map (λ (x : Signal). x.name) signals s no_signal)

-- a net's graph knows its signals by their names
pub graph_of-known : (n : NetLists) → (graph_of n).known ≡ signal_names n.signals
graph_of-known n =
    sym (fill_by_all (λ s. (signal_at n.signals s).name) (signal_names n.signals) (length n.signals) [] (length-map n.signals (λ (x : Signal). x.name)) (λ s below. sym (signal_name-at n.signals s)))
