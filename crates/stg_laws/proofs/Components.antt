-- Nets as components: full names tell their transitions apart, and which signals a component and a net in order declare.
use Rattle.std.proofs.Common.{◌≡◌, ◌↔◌, ℕ, zero-add, ◌<◌, List, [], map, length, get_or, Bool, true, false, cond, Some, IsTrue, refl, sym, ◌∙◌, ap, arith}
use Rattle.std.specs.List.{range_with_len, enumerate_from}
use Rattle.std.proofs.lemmas.Bool.{false≢true}
use Rattle.std.proofs.lemmas.List.{length-map, get_or-map as get_or-map_in}
use Rattle.std.proofs.lemmas.List.FromFn.{length-enumerate_from, get_or-enumerate_from}
use Rattle.stg_net.specs.declared.signal.Kind.{Kind}
use Rattle.stg_net.specs.declared.signal.Kind.TheVariants.{Input, Output, Internal}
use Rattle.stg_net.specs.declared.signal.Signal.{Signal}
use Rattle.stg_net.specs.declared.trans.TransName.{TransName}
use Rattle.stg_net.specs.Net.{NetLists, IsNet, signal_at, trans_at, is_kind}
use Rattle.stg_net.specs.Graph.{FullName, is_among}
use Rattle.stg_net.specs.Initial.{place_of, full_name, graph_of}
use Rattle.stg_net.specs.Component.{shared_kind, component_kind, component_signal, component}
use Rattle.stg_net.specs.Ordered.{signal_order, new_number, ordered}
use Rattle.stg_net.proofs.Orders.{signal_order-IsOrder, order_below, new_number-below}
use Rattle.stg_net.proofs.Pairs.{same_place}
use Rattle.stg_net.proofs.Signals.{one_signal}
use Rattle.stg_net.proofs.Weights.{full_name_at-graph_of, live_below}
use Rattle.stg_net.proofs.ComponentSignals.{length-component_signals, names-component_signals}
use Rattle.stg_laws.specs.Laws.{DriveTheSame}
use Rattle.stg_laws.specs.Stgs.{HasDistinctNames, IsStg, stg_of, is_driven, names_where}
use Rattle.stg_laws.proofs.Cuts.{AllKnown}
use Rattle.stg_laws.proofs.Declaring.{Declares, declared, found}
use Rattle.stg_laws.proofs.Nets.{no_signal, signal_name-at}
use Rattle.stg_laws.proofs.Ordering.{same_signal}
use Rattle.stg_laws.proofs.Wiring.{net_knows}

module _ (n : NetLists) (net : IsNet n) where
  pub net_distinct : HasDistinctNames (graph_of n)
  net_distinct t u name a b =
      let first = live_below n t (rw a refl) in
      let second = live_below n u (rw b refl) in
      let x = trans_at n.trans t in
      let y = trans_at n.trans u in
      let f : Some (full_name n x) ≡ Some name = sym (full_name_at-graph_of n t first) ∙ a in
      let h : Some (full_name n y) ≡ Some name = sym (full_name_at-graph_of n u second) ∙ b in
      let same : full_name n x ≡ full_name n y = cc in
      let signal = one_signal n x.signal y.signal net (net.trans_signals t (trans_at [] t) first) (net.trans_signals u (trans_at [] u) second) (ap (λ (m : FullName). m.signal) same) in
      same_place (λ (s : TransName). s) n.trans net.trans_names (trans_at [] t) t u first second (λ i. record { signal = signal i; edge = (same i).edge; index = (same i).index })

  pub net_all_known : AllKnown (graph_of n)
  net_all_known t live =
      let below = live_below n t live in
      let x = trans_at n.trans t in
      rw (full_name_at-graph_of n t below) (net_knows n (full_name n x).signal x.signal (record { there = net.trans_signals t (trans_at [] t) below; passes = refl; named = refl }))

  pub net_is_stg : IsStg (stg_of n)
  net_is_stg = record {
    distinct = net_distinct;
    driven_known = λ s drive. let d = declared is_driven n.signals s drive in net_knows n s d.0 (record { there = d.1.there; passes = refl; named = d.1.named });
  }

module _ (own shared : List ℕ) (n : NetLists) where
  -- a component has each signal under its name
  component_signal-name : (s : ℕ) → (signal_at (component own shared n).signals s).name ≡ (signal_at n.signals s).name
  component_signal-name s = signal_name-at (component own shared n).signals s ∙ ap (λ names. get_or names s []) (names-component_signals own shared 0 n.signals) ∙ sym (signal_name-at n.signals s)

  -- kinds aren't read by graphs
  pub component-graph : graph_of (component own shared n) ≡ graph_of n
  component-graph = λ i. record {
    places = map (place_of n) (range_with_len 0 (length n.tokens));
    trans = map (λ (t : TransName). Some (let x : FullName = record { signal = component_signal-name t.signal i; edge = t.edge; index = t.index } in x)) n.trans;
    known = map (λ s. component_signal-name s i) (range_with_len 0 (length-component_signals own shared 0 n.signals i));
    first_places = length n.tokens;
  }

-- a signal in order is declared at its old number, and the other way round
pub in_old_order : (n : NetLists) (test : Kind → Bool) (s : List ℕ) (r : ℕ) → Declares (ordered n).signals test s r → (k : ℕ) × Declares n.signals test s k
in_old_order n test s r d =
    let order = signal_order n.signals in
    let is = signal_order-IsOrder n.signals in
    let there : r < length order = omega (arith, d.there, length-map order (signal_at n.signals)) in
    let same = get_or-map_in (signal_at n.signals) order r 0 no_signal there in
    (get_or order r 0, record { there = order_below (length n.signals) order is r 0 there; passes = rw same at d.passes; named = rw same at d.named })

pub in_new_order : (n : NetLists) (test : Kind → Bool) (s : List ℕ) (k : ℕ) → IsNet n → Declares n.signals test s k → Declares (ordered n).signals test s (new_number (signal_order n.signals) k)
in_new_order n test s k net d =
    let order = signal_order n.signals in
    let same = same_signal n net k d.there in
    record {
      there = omega (arith, new_number-below (length n.signals) order (signal_order-IsOrder n.signals) k d.there, length-map order (signal_at n.signals));
      passes = ap (λ (x : Signal). test x.kind) same ∙ d.passes;
      named = ap (λ (x : Signal). x.name) same ∙ d.named;
    }

-- a net in order declares the same names
same_declared : (n : NetLists) → IsNet n → (test : Kind → Bool) (s : List ℕ) → IsTrue (is_among (names_where test n.signals) s) ↔ IsTrue (is_among (names_where test (ordered n).signals) s)
same_declared n net test s = (
  λ here. let d = declared test n.signals s here in found test (ordered n).signals s (new_number (signal_order n.signals) d.0) (in_new_order n test s d.0 net d.1),
  λ there. let d = declared test (ordered n).signals s there in let o = in_old_order n test s d.0 d.1 in found test n.signals s o.0 o.1,
)

pub order_drives_the_same : (n : NetLists) → IsNet n → DriveTheSame (stg_of n) (stg_of (ordered n))
order_drives_the_same n net = record { driven = same_declared n net is_driven; internals = same_declared n net (is_kind Internal) }

module _ (own shared : List ℕ) (n : NetLists) where
  component_signal-at : (k : ℕ) → k < length n.signals → signal_at (component own shared n).signals k ≡ component_signal own shared (k, signal_at n.signals k)
  component_signal-at k there =
      get_or-map_in (component_signal own shared) (enumerate_from 0 n.signals) k (0, no_signal) no_signal (omega (arith, there, length-enumerate_from 0 n.signals))
      ∙ ap (component_signal own shared) (get_or-enumerate_from 0 n.signals k (0, no_signal) there)
      ∙ ap (λ j. component_signal own shared (j, signal_at n.signals k)) (zero-add k)

  pub declares-component_kind : (test : Kind → Bool) (s : List ℕ) (k : ℕ) → Declares (component own shared n).signals test s k → Declares n.signals (λ kind. test (component_kind own shared k kind)) s k
  declares-component_kind test s k d =
      let there : k < length n.signals = omega (arith, d.there, length-component_signals own shared 0 n.signals) in
      record { there = there; passes = ap (λ (x : Signal). test x.kind) (sym (component_signal-at k there)) ∙ d.passes; named = sym (component_signal-name own shared n k) ∙ d.named }

  pub kind_given : (test : Kind → Bool) (s : List ℕ) (k : ℕ) → Declares n.signals (λ kind. test (component_kind own shared k kind)) s k → Declares (component own shared n).signals test s k
  kind_given test s k d = record {
    there = omega (arith, d.there, length-component_signals own shared 0 n.signals);
    passes = ap (λ (x : Signal). test x.kind) (component_signal-at k d.there) ∙ d.passes;
    named = component_signal-name own shared n k ∙ d.named;
  }

-- what passes as driven is own and driven, and the other way round
pub driven_own : (a b : Bool) (kind : Kind) → is_driven (cond a (cond b (shared_kind kind) kind) Input) ≡ true → (a ≡ true) × (is_driven kind ≡ true)
driven_own false b kind e = absurd (false≢true e)
driven_own true false kind e = (refl, e)
driven_own true true Input e = absurd (false≢true e)
driven_own true true Output e = (refl, refl)
driven_own true true Internal e = (refl, refl)

pub own_driven : (a b : Bool) (kind : Kind) → a ≡ true → is_driven kind ≡ true → is_driven (cond a (cond b (shared_kind kind) kind) Input) ≡ true
own_driven false b kind e d = absurd (false≢true e)
own_driven true false kind e d = d
own_driven true true Input e d = absurd (false≢true d)
own_driven true true Output e d = refl
own_driven true true Internal e d = refl
