-- The net of a draft: its known signals, and its live places and transitions with new numbers.
use Rattle.std.specs.Prelude.{◌≡◌, ℕ, List, Option, Some, None, filter, map, length, is_some, slice_index, []}
use Rattle.std.specs.List.{range_with_len}
use Rattle.stg_net.specs.declared.signal.Signal.{Signal}
use Rattle.stg_net.specs.Net.{NetLists, signal_at}
use Rattle.stg_net.specs.Component.{component_signal}
use Rattle.stg_net.specs.Graph.{Graph, Place, is_among, place_at, full_name_at}
use Rattle.stg_net.specs.Initial.{graph_of}
use Rattle.stg_edit.specs.Counted.{live_places}

-- the numbers of the live transitions, in ascending order
abbrev pub live_trans : Graph → List ℕ
live_trans g = filter (λ t. is_some (full_name_at g t)) (range_with_len 0 (length g.trans))

-- the place with the weights at these transitions alone
abbrev pub packed : List ℕ → Option Place → Option Place
packed trans None = None
packed trans (Some x) = Some
    (record {
      tokens = x.tokens;
      taken = map (slice_index x.taken) trans;
      given = map (slice_index x.given) trans;
    })

-- the live places and transitions in ascending order, with the numbers from 0 on
abbrev pub compacted : Graph → Graph
compacted g = record g {
  places = map (λ p. packed (live_trans g) (place_at g p)) (live_places g);
  trans = map (full_name_at g) (live_trans g);
}

-- the numbers of the signals that are known, in ascending order
abbrev pub known_signals : List Signal → Graph → List ℕ
known_signals signals g = filter (λ s. is_among g.known (signal_at signals s).name)
    (range_with_len 0 (length signals))

-- the signal of that number: an own one keeps its kind, and every other one is an input
abbrev pub net_signal : List Signal → List ℕ → ℕ → Signal
net_signal signals own s = component_signal own [] (s, signal_at signals s)

-- the net of a graph of a net with these signals: the known ones in their order, and the live
-- places and transitions
pub record IsNetOf (all : List Signal) (g : Graph) (own : List ℕ) (n : NetLists) : Type 0 where
  pub signals : n.signals ≡ map (net_signal all own) (known_signals all g)
  pub places : (graph_of n).places ≡ (compacted g).places
  pub trans : (graph_of n).trans ≡ (compacted g).trans
