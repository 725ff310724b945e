-- The net of a calm draft is within the limits of a component, and its names have their form.
use Rattle.std.proofs.Common.{◌≡◌, ℕ, ◌<◌, ◌≤◌, Bool, true, false, List, [], length, get_or, All, Some, IsTrue, is_some, refl, sym, ap, ◌∙◌, subst, arith}
use Rattle.std.specs.List.{range_with_len}
use Rattle.std.proofs.lemmas.List.{length-map, get_or_default}
use Rattle.std.proofs.lemmas.List.Elements.{All-map}
use Rattle.std.proofs.lemmas.List.FromFn.{length-map-range_with_len}
use Rattle.stg_net.specs.declared.limits.TheConstants.Limits.{SPEC, PART}
use Rattle.stg_net.specs.declared.arc.NetArc.{NetArc}
use Rattle.stg_net.specs.declared.signal.Signal.{Signal}
use Rattle.stg_net.specs.declared.trans.TransName.{TransName}
use Rattle.stg_net.specs.Names.{IsWellNamed, is_name}
use Rattle.stg_net.specs.Net.{NetLists, IsNet, IsWithin, signal_at, trans_at}
use Rattle.stg_net.specs.Graph.{Graph, FullName, IsTrans, place_at, full_name_at, is_among}
use Rattle.stg_net.specs.Initial.{graph_of, place_of, full_name, weight_of}
use Rattle.stg_net.proofs.Weights.{connects_whole, weight_of-arc, takes-graph_of, gives-graph_of, tokens_at-initial, full_name_at-graph_of}
use Rattle.stg_laws.specs.Renumbered.{IsRenumbered}
use Rattle.stg_edit.specs.Counted.{live_places, count_arcs}
use Rattle.stg_edit.specs.Compacted.{IsNetOf, live_trans, known_signals, net_signal, packed}
use Rattle.stg_edit.proofs.Compacting.{few_kept, kept_below}
use Rattle.stg_contract.specs.Verdicts.{IsWithinLimits}
use Rattle.stg_derive.specs.inner.Drafts.{HasFewPlaces}
use Rattle.stg_derive.proofs.StepEffects.{live_trans_below}

module _ (n : NetLists) (g : Graph) (own : List ℕ) (m : NetLists) (is : IsNetOf n.signals g own m) (r : IsRenumbered g (graph_of m)) (m_net : IsNet m) where
  trans_here : (t : ℕ) → t < length m.trans → IsTrans (graph_of m) t
  trans_here t below = ap is_some (full_name_at-graph_of m t below)

  token_small : IsWithinLimits g → (p d : ℕ) → p < length m.tokens → get_or m.tokens p d ≤ 1000000
  token_small small p d below =
      omega (arith, get_or_default m.tokens p d 0 below, tokens_at-initial m (range_with_len 0 (length m.signals)) p, r.tokens p, small.tokens (r.place p))

  weight_small : IsWithinLimits g → (b : Bool) (a : NetArc) → a.into ≡ b → a.trans < length m.trans → weight_of m.arcs b a.trans a.place ≡ a.weight → a.weight ≤ 1000000
  weight_small small false a e below w =
      omega (arith, w, takes-graph_of m a.trans a.place m_net, r.taken a.trans a.place (trans_here a.trans below), small.taken (r.trans a.trans) (r.place a.place))
  weight_small small true a e below w =
      omega (arith, w, gives-graph_of m a.trans a.place m_net, r.given a.trans a.place (trans_here a.trans below), small.given (r.trans a.trans) (r.place a.place))

  arc_small : IsWithinLimits g → (i : ℕ) (d : NetArc) → i < length m.arcs → (get_or m.arcs i d).weight ≤ 1000000
  arc_small small i d below =
      let a = get_or m.arcs i d in
      let whole = connects_whole a.into a.trans a.place a (record { trans_is = refl; place_is = refl; goes_is = refl }) in
      weight_small small a.into a refl (m_net.arcs i d below).trans_there (weight_of-arc a.into a.trans a.place m.arcs i d m_net.ordered below whole)

  pub draft_is_within : IsWithinLimits g → HasFewPlaces g → g.first_places ≡ length n.tokens → length g.trans ≡ length n.trans → IsWithin SPEC n → length m.arcs ≡ count_arcs g → IsWithin PART m
  draft_is_within small few first long within arcs = record {
    signals = omega (arith, ap length is.signals, length-map (known_signals n.signals g) (net_signal n.signals own), few_kept (λ s. is_among g.known (signal_at n.signals s).name) (length n.signals), within.signals);
    trans = omega (arith, length-map m.trans (λ t. Some (full_name m t)), ap length is.trans, length-map (live_trans g) (full_name_at g), few_kept (λ t. is_some (full_name_at g t)) (length g.trans), long, within.trans);
    places = omega (arith, length-map-range_with_len (place_of m) 0 (length m.tokens), ap length is.places, length-map (live_places g) (λ p. packed (live_trans g) (place_at g p)), few, first, within.places);
    arcs = omega (arith, arcs, small.arcs);
    tokens = λ p d below. token_small small p d below;
    weights = λ i d below. arc_small small i d below;
  }

  one_index : (x : TransName) (y : TransName) → Some (full_name m x) ≡ Some (full_name n y) → x.index ≡ y.index
  one_index x y e = let same : full_name m x ≡ full_name n y = cc in ap (λ (f : FullName). f.index) same

  pub draft_is_named : ((t : ℕ) → IsTrans g t → full_name_at g t ≡ full_name_at (graph_of n) t) → length g.trans ≡ length n.trans → IsWellNamed n → IsWellNamed m
  draft_is_named names long named = record {
    names =
        let P : Signal → Type 0 = λ s. IsTrue (is_name s.name) in
        let kept = known_signals n.signals g in
        let each : All (λ s. P (net_signal n.signals own s)) kept = λ k d below.
        named.names (get_or kept k d) (signal_at [] 0) (kept_below (λ s. is_among g.known (signal_at n.signals s).name) (length n.signals) k d below) in
        subst (All P) (sym is.signals) (All-map P (net_signal n.signals own) kept each);
    indices = λ k d below.
        let x = trans_at m.trans k in
        let live = trans_here k below in
        let t = r.trans k in
        let there : IsTrans g t = ap is_some (r.names k live) ∙ live in
        let t_below : t < length n.trans = omega (arith, live_trans_below g t there, long) in
        let e : Some (full_name m x) ≡ Some (full_name n (trans_at n.trans t)) = sym (full_name_at-graph_of m k below) ∙ sym (r.names k live) ∙ names t there ∙ full_name_at-graph_of n t t_below in
        omega (arith, ap (λ (y : TransName). y.index) (get_or_default m.trans k d (trans_at [] k) below), one_index x (trans_at n.trans t) e, named.indices t (trans_at [] t) t_below);
  }
