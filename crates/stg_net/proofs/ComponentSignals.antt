-- A component's net is a net.
use Rattle.std.proofs.Common.{◌≡◌, ◌≢◌, ℕ, ◌+◌, List, [], ◌∷◌, length, map, All, AllPairs, IsTrue, refl, sym, ap, ◌∙◌, subst}
use Rattle.std.specs.List.{enumerate_from}
use Rattle.std.proofs.lemmas.List.{length-map}
use Rattle.std.proofs.lemmas.List.FromFn.{length-enumerate_from}
use Rattle.std.proofs.lemmas.List.Elements.{All-map}
use Rattle.stg_net.specs.declared.signal.Signal.{Signal}
use Rattle.stg_net.specs.declared.limits.Limits.{Limits}
use Rattle.stg_net.specs.Net.{NetLists, IsNet, IsWithin}
use Rattle.stg_net.specs.Names.{is_name, IsWellNamed}
use Rattle.stg_net.specs.Component.{component_signal, component}
use Rattle.stg_net.proofs.Maps.{All-from_map, AllPairs-from_map, AllPairs-map}

abbrev name_of : Signal → List ℕ
name_of s = s.name

-- the signals that a component sees
abbrev pub component_signals_from : List ℕ → List ℕ → ℕ → List Signal → List Signal
component_signals_from own shared k signals = map (component_signal own shared) (enumerate_from k signals)

-- a component sees the same names
pub names-component_signals : (own shared : List ℕ) (k : ℕ) (signals : List Signal) → map name_of (component_signals_from own shared k signals) ≡ map name_of signals
names-component_signals own shared k [] = refl
names-component_signals own shared k (s ∷ signals) = ap (λ ns. s.name ∷ ns) (names-component_signals own shared (k + 1) signals)

pub length-component_signals : (own shared : List ℕ) (k : ℕ) (signals : List Signal) → length (component_signals_from own shared k signals) ≡ length signals
length-component_signals own shared k signals = length-map (enumerate_from k signals) (component_signal own shared) ∙ length-enumerate_from k signals

pub component-IsNet : (own shared : List ℕ) (n : NetLists) → IsNet n → IsNet (component own shared n)
component-IsNet own shared n net = record {
  signal_names =
      AllPairs-from_map name_of (λ (s t : List ℕ). s ≢ t) (component_signals_from own shared 0 n.signals)
      (subst (AllPairs (λ (s t : List ℕ). s ≢ t)) (sym (names-component_signals own shared 0 n.signals)) (AllPairs-map name_of (λ (s t : List ℕ). s ≢ t) n.signals net.signal_names));
  trans_names = net.trans_names;
  trans_signals = rw length-component_signals net.trans_signals;
  arcs = net.arcs;
  ordered = net.ordered;
  signals_fit = rw length-component_signals net.signals_fit;
  trans_fit = net.trans_fit;
  places_fit = net.places_fit;
}

pub component-within : (own shared : List ℕ) (n : NetLists) (l : Limits) → IsWithin l n → IsWithin l (component own shared n)
component-within own shared n l within = record {
  signals = rw length-component_signals within.signals;
  trans = within.trans;
  places = within.places;
  arcs = within.arcs;
  tokens = within.tokens;
  weights = within.weights;
}

pub component-named : (own shared : List ℕ) (n : NetLists) → IsWellNamed n → IsWellNamed (component own shared n)
component-named own shared n named = record {
  names =
      All-from_map name_of (λ (s : List ℕ). IsTrue (is_name s)) (component_signals_from own shared 0 n.signals)
      (subst (All (λ (s : List ℕ). IsTrue (is_name s))) (sym (names-component_signals own shared 0 n.signals)) (All-map (λ (s : List ℕ). IsTrue (is_name s)) name_of n.signals named.names));
  indices = named.indices;
}
