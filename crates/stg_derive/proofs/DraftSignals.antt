-- The signals of a draft's net: the known ones, under their names.
use Rattle.std.proofs.Common.{◌≡◌, ℕ, ◌<◌, Bool, true, false, List, [], map, filter, length, get_or, All, refl, sym, ap, ◌∙◌, subst, arith}
use Rattle.std.specs.List.{range_with_len}
use Rattle.std.proofs.lemmas.Bool.{false≢true}
use Rattle.std.proofs.lemmas.List.{length-map, get_or-map as get_or-map_in}
use Rattle.stg_net.specs.declared.signal.Kind.{Kind}
use Rattle.stg_net.specs.declared.signal.Signal.{Signal}
use Rattle.stg_net.specs.Component.{is_one_of, component_kind}
use Rattle.stg_net.specs.Graph.{Graph, is_among}
use Rattle.stg_net.specs.Initial.{graph_of}
use Rattle.stg_net.specs.Net.{NetLists, IsNet, signal_at}
use Rattle.stg_net.specs.Ordered.{new_number}
use Rattle.stg_net.proofs.Members.{one_of-contained, contained-one_of}
use Rattle.stg_net.proofs.Signals.{one_signal}
use Rattle.stg_laws.specs.Groups.{names_at}
use Rattle.stg_laws.proofs.Declaring.{Declares}
use Rattle.stg_laws.proofs.Nets.{no_signal}
use Rattle.stg_laws.proofs.Wiring.{is_any, net_knows, net_known}
use Rattle.stg_edit.specs.Compacted.{known_signals, net_signal}
use Rattle.stg_edit.proofs.Compacting.{kept_below, kept_pass, kept_number, kept_at}
use Rattle.stg_laws.proofs.KnownSignals.{among_named, named_among}

-- two answers of which each follows from the other are one
pub same_bool : (a b : Bool) → (a ≡ true → b ≡ true) → (b ≡ true → a ≡ true) → a ≡ b
same_bool true b f g = sym (f refl)
same_bool false true f g = absurd (false≢true (g refl))
same_bool false false f g = refl

-- the signals known to a draft of n, and the net's signals
module _ (n : NetLists) (net : IsNet n) (known own : List ℕ) (range : All (λ s. s < length n.signals) known) (g : Graph) (g_known : g.known ≡ names_at n known) (m : NetLists) (signals : m.signals ≡ map (net_signal n.signals own) (known_signals n.signals g)) where
  is_kept : ℕ → Bool
  is_kept s = is_among g.known (signal_at n.signals s).name

  kept : List ℕ
  kept = filter is_kept (range_with_len 0 (length n.signals))

  signals_are : m.signals ≡ map (net_signal n.signals own) kept
  unfolding kept is_kept
  signals_are = signals

  known_from : (s : ℕ) → s < length n.signals → is_kept s ≡ true → is_one_of known s ≡ true
  unfolding is_kept
  known_from s below e =
      let c = among_named n known (signal_at n.signals s).name (ap (λ names. is_among names (signal_at n.signals s).name) (sym g_known) ∙ e) in
      let in_range : c.signal < length n.signals = subst (λ k. k < length n.signals) c.listed.2 (range c.listed.0 c.signal c.listed.1) in
      let same : c.signal ≡ s = one_signal n c.signal s net in_range below c.name_is in
      subst (λ k. is_one_of known k ≡ true) same (one_of-contained known c.signal c.listed)

  known_to : (s : ℕ) → is_one_of known s ≡ true → is_kept s ≡ true
  unfolding is_kept
  known_to s e = ap (λ names. is_among names (signal_at n.signals s).name) g_known ∙ named_among n known s (contained-one_of known s e)

  signal_is : (j : ℕ) → j < length kept → signal_at m.signals j ≡ net_signal n.signals own (get_or kept j 0)
  signal_is j below = ap (λ xs. signal_at xs j) signals_are ∙ get_or-map_in (net_signal n.signals own) kept j 0 no_signal below

  as_many : length m.signals ≡ length kept
  as_many = ap length signals_are ∙ length-map kept (net_signal n.signals own)

  -- a signal of the net is a known one of n
  pub declared_there : (test : Kind → Bool) (s : List ℕ) (j : ℕ) → Declares m.signals test s j
      → (k : ℕ) × Declares n.signals (λ kind. test (component_kind own [] k kind)) s k × (is_one_of known k ≡ true)
  unfolding kept
  declared_there test s j d =
      let there : j < length kept = omega (arith, d.there, as_many) in
      let k = get_or kept j 0 in
      let below : k < length n.signals = kept_below is_kept (length n.signals) j 0 there in
      let pass : is_kept k ≡ true = kept_pass is_kept (length n.signals) j 0 there in
      let same = signal_is j there in
      (k, record { there = below; passes = ap (λ (x : Signal). test x.kind) (sym same) ∙ d.passes; named = ap (λ (x : Signal). x.name) (sym same) ∙ d.named }, known_from k below pass)

  -- and a known one of n is a signal of the net
  pub declared_here : (test : Kind → Bool) (s : List ℕ) (k : ℕ) → Declares n.signals (λ kind. test (component_kind own [] k kind)) s k → is_one_of known k ≡ true
      → (j : ℕ) × Declares m.signals test s j
  unfolding kept
  declared_here test s k d e =
      let j = new_number kept k in
      let pass = known_to k e in
      let there = kept_number is_kept (length n.signals) k d.there pass in
      let back = kept_at is_kept (length n.signals) k 0 d.there pass in
      let same : signal_at m.signals j ≡ net_signal n.signals own k = signal_is j there ∙ ap (net_signal n.signals own) back in
      (j, record { there = omega (arith, there, as_many); passes = ap (λ (x : Signal). test x.kind) same ∙ d.passes; named = ap (λ (x : Signal). x.name) same ∙ d.named })

  -- so the net Knows what the draft Knows
  pub net_knows_same : (s : List ℕ) → is_among (graph_of m).known s ≡ is_among g.known s
  net_knows_same s = same_bool (is_among (graph_of m).known s) (is_among g.known s)
      (λ e.
      let d = net_known m s e in
      let c = declared_there is_any s d.0 d.1 in
      subst (λ x. is_among g.known x ≡ true) c.1.named (ap (λ names. is_among names (signal_at n.signals c.0).name) g_known ∙ named_among n known c.0 (contained-one_of known c.0 c.2)))
      (λ e.
      let c = among_named n known s (ap (λ names. is_among names s) (sym g_known) ∙ e) in
      let in_range : c.signal < length n.signals = subst (λ k. k < length n.signals) c.listed.2 (range c.listed.0 c.signal c.listed.1) in
      let d = declared_here is_any s c.signal (record { there = in_range; passes = refl; named = c.name_is }) (one_of-contained known c.signal c.listed) in
      net_knows m s d.0 d.1)
