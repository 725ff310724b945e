-- The settled parts of plain groups are faithful components, and a correct decomposition where the specification is deterministic.
use Rattle.std.proofs.Common.{◌≡◌, ◌≢◌, ℕ, ◌<◌, Bool, true, not, ◌&&◌, ◌||◌, ◌==◌, List, [], ◌∷◌, map, length, get_or, All, refl, sym, ap, ◌∙◌, subst, arith}
use Rattle.std.specs.List.{range_with_len, list_any}
use Rattle.std.specs.Str.{bytes_eq}
use Rattle.stg_net.specs.declared.signal.Signal.{Signal}
use Rattle.std.proofs.lemmas.Bool.{ne_eqb}
use Rattle.std.proofs.lemmas.List.{length-map, get_or-map as get_or-map_in}
use Rattle.std.proofs.lemmas.List.Elements.{All-map}
use Rattle.std.proofs.lemmas.List.Folds.{list_any_at}
use Rattle.std.proofs.lemmas.List.FromFn.{length-range_with_len, length-map-range_with_len, get_or-map-range_with_len, get_or-range_with_len}
use Rattle.stg_net.specs.Component.{is_one_of, component}
use Rattle.stg_net.specs.Graph.{is_among}
use Rattle.stg_net.specs.Initial.{graph_of}
use Rattle.stg_net.specs.Net.{NetLists, IsNet, signal_at}
use Rattle.stg_net.specs.Ordered.{ordered, numbers_where}
use Rattle.stg_net.proofs.Members.{one_of-contained}
use Rattle.stg_net.proofs.Moved.{ordered-IsNet}
use Rattle.stg_net.proofs.ComponentSignals.{component-IsNet}
use Rattle.stg_laws.specs.Closed.{IsClosed}
use Rattle.stg_laws.specs.Deterministic.{HasNoDummy, IsDeterministic}
use Rattle.stg_laws.specs.Faithful.{IsFaithful, AreComponents}
use Rattle.stg_laws.specs.Groups.{names_at}
use Rattle.stg_laws.specs.Stgs.{Stg, IsStg, stg_of, stg_at, no_stg, is_driven}
use Rattle.stg_laws.specs.Correct.{AreWired, IsCorrect}
use Rattle.stg_laws.proofs.Components.{net_is_stg, component-graph, net_distinct, net_all_known}
use Rattle.stg_laws.proofs.Correctness.{faithful_parts_are_correct}
use Rattle.stg_laws.proofs.Declaring.{Declares}
use Rattle.stg_laws.proofs.Deriving.{derivation_is_faithful, with_known}
use Rattle.stg_laws.proofs.Keeping.{Keeps}
use Rattle.stg_laws.proofs.Nets.{graph_of-known}
use Rattle.stg_laws.proofs.Ordering.{order_renumbers}
use Rattle.stg_laws.proofs.Renumbering.{renumbered_keeps, renumbered_no_dummy}
use Rattle.stg_derive.proofs.Keeping.{keeps_trans}
use Rattle.stg_laws.proofs.Wiring.{is_any, net_knows, IsGroupComponent, AreGroups, group_components_are_wired}
use Rattle.stg_laws.proofs.KnownSignals.{passing_contained}
use Rattle.stg_decomp.specs.Settled.{settled, has_name}
use Rattle.stg_decomp.proofs.SettledSignals.{settled_is_group_component, HasSignalsOf, named_numbers}

-- a name that the net's graph knows is one of its signals'
names_any : (name : List ℕ) (signals : List Signal) → is_among (map (λ (s : Signal). s.name) signals) name ≡ list_any (λ (s : Signal). bytes_eq s.name name) signals
names_any name [] = refl
names_any name (s ∷ signals) = ap (λ b. bytes_eq s.name name || b) (names_any name signals)

-- settling keeps the graph but for its numbers
pub settled_keeps : (m : NetLists) → IsNet m → (shared : List ℕ) → Keeps (graph_of m) (graph_of (settled shared m))
settled_keeps m net shared =
    let all = range_with_len 0 (length m.signals) in
    let seen = component all shared m in
    let h = graph_of (ordered seen) in
    subst (λ g. Keeps g h) (component-graph all shared m) (renumbered_keeps (graph_of seen) h (order_renumbers seen (component-IsNet all shared m net)))

pub settled_no_dummy : (m : NetLists) → IsNet m → (shared : List ℕ) → HasNoDummy (graph_of m) → HasNoDummy (graph_of (settled shared m))
settled_no_dummy m net shared none =
    let all = range_with_len 0 (length m.signals) in
    let seen = component all shared m in
    renumbered_no_dummy (graph_of seen) (graph_of (ordered seen)) (order_renumbers seen (component-IsNet all shared m net)) (subst HasNoDummy (sym (component-graph all shared m)) none)

pub settled_is_net : (m : NetLists) → IsNet m → (shared : List ℕ) → IsNet (settled shared m)
settled_is_net m net shared = let all = range_with_len 0 (length m.signals) in ordered-IsNet (component all shared m) (component-IsNet all shared m net)

-- what is needed of each derived net: it is a net, keeps the specification with its known signals, and signals_of its group
pub record IsDerivedNet (n : NetLists) (own known : List ℕ) (m : NetLists) : Type 0 where
  pub is_net : IsNet m
  pub keeps : Keeps (with_known (graph_of n) (names_at n known)) (graph_of m)
  pub no_dummy : HasNoDummy (graph_of m)
  pub signals_of : HasSignalsOf n own known m
  pub own_known : (k : ℕ) → is_one_of own k ≡ true → is_one_of known k ≡ true
  pub closed : (mine : List (List ℕ)) → ((s : List ℕ) → is_among mine s ≡ true → is_among (names_at n own) s ≡ true) → IsClosed (graph_of n) mine (names_at n known)
  pub known_there : (k : ℕ) → is_one_of known k ≡ true → k < length n.signals
  pub own_named : (k : ℕ) → is_one_of own k ≡ true → is_among (names_at n own) (signal_at n.signals k).name ≡ true

-- whether a net other than the i-th has a signal of the name
abbrev pub others_name : ℕ → (ℕ → NetLists) → ℕ → List ℕ → Bool
others_name many nets i name = list_any (λ j. not (j == i) && has_name name (nets j)) (range_with_len 0 many)

module _ (n : NetLists) (net : IsNet n) (many : ℕ) (own known : ℕ → List ℕ) (nets : ℕ → NetLists)
    (derived : (i : ℕ) → i < many → IsDerivedNet n (own i) (known i) (nets i))
    (apart : (i j k : ℕ) → i < many → j < many → is_one_of (own i) k ≡ true → is_one_of (own j) k ≡ true → i ≡ j)
    (covered : (s : List ℕ) (k : ℕ) → Declares n.signals is_driven s k → (i : ℕ) × (i < many) × (is_one_of (own i) k ≡ true)) where
  shared : ℕ → List ℕ
  shared i = numbers_where (λ s. others_name many nets i (signal_at (nets i).signals s).name) (length (nets i).signals)

  final : ℕ → NetLists
  final i = settled (shared i) (nets i)

  finals : List NetLists
  finals = map final (range_with_len 0 many)

  components : List Stg
  components = map stg_of finals

  many_components : length components ≡ many
  unfolding components finals
  many_components = length-map finals stg_of ∙ length-map-range_with_len final 0 many

  component_at : (i : ℕ) → i < many → stg_at components i ≡ stg_of (final i)
  unfolding components finals
  component_at i below =
      let nothing : NetLists = record { signals = []; trans = []; tokens = []; arcs = [] } in
      get_or-map_in stg_of finals i nothing no_stg (omega (arith, below, length-map-range_with_len final 0 many))
      ∙ ap stg_of (get_or-map-range_with_len final 0 many i i nothing below (omega arith))

  group_component_here : (i : ℕ) → i < length components → IsGroupComponent n (own i) (known i) (named_numbers n (others_name many nets i)) (stg_at components i)
  unfolding final shared
  group_component_here i there =
      let below : i < many = omega (arith, there, many_components) in
      let g = derived i below in
      let P : Stg → Type 0 = λ x. IsGroupComponent n (own i) (known i) (named_numbers n (others_name many nets i)) x in
      subst P (sym (component_at i below)) (settled_is_group_component n (own i) (known i) (nets i) g.is_net g.signals_of g.own_known (others_name many nets i))

  is_faithful : (i : ℕ) → i < many → IsFaithful (graph_of n) (stg_of (final i))
  unfolding final shared
  is_faithful i below =
      let g = derived i below in
      let x = stg_of (settled (shared i) (nets i)) in
      derivation_is_faithful (graph_of n) (names_at n (known i)) x (record {
        distinct = net_distinct n net;
        known = net_all_known n net;
        closed = g.closed x.driven (λ s e.
            let signals_of = settled_is_group_component n (own i) (known i) (nets i) g.is_net g.signals_of g.own_known (others_name many nets i) in
            let d = signals_of.driven s e in
            subst (λ y. is_among (names_at n (own i)) y ≡ true) d.1.named (g.own_named d.0 d.2));
        keeps = keeps_trans (with_known (graph_of n) (names_at n (known i))) (graph_of (nets i)) x.graph g.keeps (settled_keeps (nets i) g.is_net (shared i));
        no_dummy = settled_no_dummy (nets i) g.is_net (shared i) g.no_dummy;
      })

  others_share : (i j k : ℕ) → i < length components → j < length components → i ≢ j → is_one_of (own i) k ≡ true → is_one_of (known j) k ≡ true → is_one_of (named_numbers n (others_name many nets i)) k ≡ true
  others_share i j k hi hj other mine theirs =
      let below : j < many = omega (arith, hj, many_components) in
      let g = derived j below in
      let there = g.known_there k theirs in
      let name = (signal_at n.signals k).name in
      let d = g.signals_of.here is_any name k (record { there = there; passes = refl; named = refl }) theirs in
      let knows_it : has_name name (nets j) ≡ true = sym (names_any name (nets j).signals) ∙ ap (λ known. is_among known name) (sym (graph_of-known (nets j))) ∙ net_knows (nets j) name d.0 d.1 in
      let test : ℕ → Bool = λ l. not (l == i) && has_name name (nets l) in
      let passes : test j ≡ true = rw (ne_eqb j i (λ e. other (sym e))) knows_it in
      let in_range : j < length (range_with_len 0 many) = omega (arith, below, length-range_with_len 0 many) in
      let at : get_or (range_with_len 0 many) j 0 ≡ j = omega (arith, get_or-range_with_len 0 many j 0 below) in
      let any = list_any_at test (range_with_len 0 many) j 0 in_range (ap test at ∙ passes) in
      one_of-contained (named_numbers n (others_name many nets i)) k (passing_contained (λ l. others_name many nets i (signal_at n.signals l).name) (length n.signals) k there any)

  are_groups : AreGroups n (length components) own known (λ i. named_numbers n (others_name many nets i))
  are_groups = record {
    apart = λ i j k hi hj a b. apart i j k (omega (arith, hi, many_components)) (omega (arith, hj, many_components)) a b;
    covered = λ s k d. let c = covered s k d in (c.0, omega (arith, c.1, many_components), c.2);
    shares = others_share;
  }

  are_wired : AreWired (stg_of n) components
  are_wired = group_components_are_wired n net components own known (λ i. named_numbers n (others_name many nets i)) are_groups group_component_here

  faithful_at : (i : ℕ) → i < length components → IsFaithful (graph_of n) (stg_at components i)
  faithful_at i there = let below : i < many = omega (arith, there, many_components) in subst (IsFaithful (graph_of n)) (sym (component_at i below)) (is_faithful i below)

  is_net_at : (i : ℕ) → i < many → IsNet (final i)
  unfolding final
  is_net_at i below = settled_is_net (nets i) (derived i below).is_net (shared i)

  is_stg_at : (i : ℕ) → i < length components → IsStg (stg_at components i)
  is_stg_at i there = let below : i < many = omega (arith, there, many_components) in subst IsStg (sym (component_at i below)) (net_is_stg (final i) (is_net_at i below))

  are_correct : IsDeterministic (graph_of n) → IsCorrect (stg_of n) components
  are_correct deterministic = faithful_parts_are_correct (stg_of n) components deterministic are_wired is_stg_at faithful_at

  all_finals : (P : NetLists → Type 0) → ((i : ℕ) → i < many → P (final i)) → All P finals
  unfolding finals
  all_finals P each = All-map P final (range_with_len 0 many) (λ k d below.
      let there : k < many = omega (arith, below, length-range_with_len 0 many) in
      let at : k ≡ get_or (range_with_len 0 many) k d = omega (arith, get_or-range_with_len 0 many k d there) in
      subst (λ i. P (final i)) at (each k there))

  pub derived_nets_are_components : AreComponents n (map (λ i. settled (numbers_where (λ s. others_name many nets i (signal_at (nets i).signals s).name) (length (nets i).signals)) (nets i)) (range_with_len 0 many))
  unfolding components finals final shared
  derived_nets_are_components = record {
    are_nets = all_finals IsNet is_net_at;
    wired = are_wired;
    faithful = all_finals (λ m. IsFaithful (graph_of n) (stg_of m)) is_faithful;
    correct = are_correct;
  }
