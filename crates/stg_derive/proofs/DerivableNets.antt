-- The nets of the tests are those of specifications without structural auto-conflicts.
use Rattle.std.proofs.Common.{◌≡◌, ◌<◌, ◌&&◌, ◌||◌, ◌==◌, ℕ, Bool, true, false, not, nat_lt, nat_le, List, [], map, length, get_or, All, IsTrue, sym, ap, ◌∙◌, subst, eq-eqb, arith}
use Rattle.std.specs.List.{list_all}
use Rattle.std.proofs.lemmas.Bool.{and_parts, ltb-true, leb-true, ne_eqb, true≢false}
use Rattle.std.proofs.lemmas.List.{length-map}
use Rattle.std.proofs.lemmas.List.Elements.{All-map}
use Rattle.std.proofs.lemmas.Option.{same_Some}
use Rattle.std.proofs.lemmas.List.Sums.{AllPass-from_list_all}
use Rattle.stg_net.specs.declared.limits.TheConstants.Limits.{SPEC}
use Rattle.stg_net.specs.declared.arc.NetArc.{NetArc}
use Rattle.stg_net.specs.declared.signal.Signal.{Signal}
use Rattle.stg_net.specs.declared.trans.Edge.{Edge}
use Rattle.stg_net.specs.declared.trans.TransName.{TransName}
use Rattle.stg_net.specs.declared.spec.PlaceName.{PlaceName}
use Rattle.stg_net.specs.Spec.{IsPlaceNameOf, IsSpec}
use Rattle.stg_net.specs.Initial.{graph_of, full_name}
use Rattle.stg_net.specs.Names.{is_name, IsWellNamed}
use Rattle.stg_net.specs.Net.{NetLists, IsNet, IsWithin, trans_at, is_edge}
use Rattle.stg_net.proofs.Edges.{is_edge-itself}
use Rattle.stg_net.proofs.Signals.{one_signal}
use Rattle.stg_net.proofs.Weights.{takes-connecting, full_name_at-graph_of}
use Rattle.stg_laws.specs.Conflict.{HasNoAutoConflict}
use Rattle.stg_laws.specs.Cuts.{Label, label_of}
use Rattle.stg_laws.specs.Deterministic.{AreRivals}
use Rattle.stg_laws.specs.Closed.{IsClosed}
use Rattle.stg_laws.specs.Groups.{is_known_to, known_to, names_at}
use Rattle.stg_laws.proofs.KnownSignals.{known_closes}
use Rattle.stg_contract.specs.inner.Worked.{input, named_trans, arc, net, are_labels, are_arcs}
use Rattle.stg_contract.proofs.WorkedNets.{net-IsNet, net-IsWithin}
use Rattle.stg_partition.proofs.Numbers.{numbers_pass}
use Rattle.stg_derive.specs.inner.Derivable.{unnamed, are_well_named, are_small, are_apart, are_all_apart, is_derivable}

-- what passes everywhere passes at each number
at_each : {X : Type 0} (test : X → Bool) (xs : List X) (i : ℕ) (d : X) → list_all test xs ≡ true → i < length xs
    → test (get_or xs i d) ≡ true
at_each test xs i d all below = AllPass-from_list_all test xs all i d below

-- two arcs that are apart aren't arcs out of one place of two transitions with one label
clashing_fails : (a b c d e f : Bool) → (a || (b || (not c || (d || (not e || not f))))) ≡ true
    → a ≡ false → b ≡ false → c ≡ true → d ≡ false → e ≡ true → f ≡ true → ⊥
clashing_fails a b c d e f met h1 h2 h3 h4 h5 h6 =
    true≢false (sym met ∙ (λ k. h1 k || (h2 k || (not (h3 k) || (h4 k || (not (h5 k) || not (h6 k)))))))

-- two transitions of one label
record HaveOneLabel (x y : TransName) : Type 0 where
  signal : x.signal ≡ y.signal
  edge : x.edge ≡ y.edge

rivals_labels : (n : NetLists) (t u : ℕ) → IsNet n → t < length n.trans → u < length n.trans
    → AreRivals (graph_of n) t u → HaveOneLabel (trans_at n.trans t) (trans_at n.trans u)
rivals_labels n t u net there also r =
    let x = trans_at n.trans t in
    let y = trans_at n.trans u in
    let x_is : r.t_name ≡ full_name n x = same_Some r.t_name (full_name n x) (sym r.t_has ∙ full_name_at-graph_of n t there) in
    let y_is : r.u_name ≡ full_name n y = same_Some r.u_name (full_name n y) (sym r.u_has ∙ full_name_at-graph_of n u also) in
    let same : label_of (full_name n x) ≡ label_of (full_name n y) = sym (ap label_of x_is) ∙ r.same ∙ ap label_of y_is in
    record {
      signal = one_signal n x.signal y.signal net (net.trans_signals t (trans_at [] t) there) (net.trans_signals u (trans_at [] u) also) (ap (λ (l : Label). l.signal) same);
      edge = ap (λ (l : Label). l.edge) same;
    }

-- a net whose arcs are all apart has no structural auto-conflict
apart_no_conflict : (n : NetLists) → IsNet n → are_all_apart n ≡ true → HasNoAutoConflict (graph_of n)
apart_no_conflict n net all t u p c =
    let j = takes-connecting n t p net c.t_takes in
    let k = takes-connecting n u p net c.u_takes in
    let row : list_all (are_apart n j.arc) n.arcs ≡ true =
    subst (λ a. list_all (are_apart n a) n.arcs ≡ true) (j.arc_is j.arc) (at_each (λ a. list_all (are_apart n a) n.arcs) n.arcs j.at j.arc all j.inside) in
    let pair : are_apart n j.arc k.arc ≡ true =
    subst (λ b. are_apart n j.arc b ≡ true) (k.arc_is k.arc) (at_each (are_apart n j.arc) n.arcs k.at k.arc row k.inside) in
    let a = j.connects_both in
    let b = k.connects_both in
    let a_there : j.arc.trans < length n.trans = subst (λ x. x.trans < length n.trans) (j.arc_is j.arc) (net.arcs j.at j.arc j.inside).trans_there in
    let b_there : k.arc.trans < length n.trans = subst (λ x. x.trans < length n.trans) (k.arc_is k.arc) (net.arcs k.at k.arc k.inside).trans_there in
    let t_there : t < length n.trans = omega (arith, a_there, a.trans_is) in
    let u_there : u < length n.trans = omega (arith, b_there, b.trans_is) in
    let l = rivals_labels n t u net t_there u_there c.rivals in
    let x = trans_at n.trans j.arc.trans in
    let y = trans_at n.trans k.arc.trans in
    let x_is : x ≡ trans_at n.trans t = ap (trans_at n.trans) a.trans_is in
    let y_is : y ≡ trans_at n.trans u = ap (trans_at n.trans) b.trans_is in
    let signals : x.signal ≡ y.signal = ap (λ (z : TransName). z.signal) x_is ∙ l.signal ∙ sym (ap (λ (z : TransName). z.signal) y_is) in
    let edges : x.edge ≡ y.edge = ap (λ (z : TransName). z.edge) x_is ∙ l.edge ∙ sym (ap (λ (z : TransName). z.edge) y_is) in
    clashing_fails j.arc.into k.arc.into (j.arc.place == k.arc.place) (j.arc.trans == k.arc.trans) (x.signal == y.signal) (is_edge x.edge y.edge) pair
    a.goes_is b.goes_is (eq-eqb j.arc.place k.arc.place (a.place_is ∙ sym b.place_is)) (ne_eqb j.arc.trans k.arc.trans (λ e. c.rivals.differ (sym a.trans_is ∙ e ∙ b.trans_is)))
    (eq-eqb x.signal y.signal signals) (ap (is_edge x.edge) (sym edges) ∙ is_edge-itself x.edge)

module _ (names : List (List ℕ)) (trans : List (ℕ × Edge × ℕ)) (tokens : List ℕ) (arcs : List (ℕ × ℕ × Bool × ℕ)) (met : is_derivable names trans tokens arcs ≡ true) where
  abbrev n : NetLists
  n = net names trans tokens arcs

  named : are_well_named names trans ≡ true
  named = (and_parts (are_well_named names trans) (are_small names trans tokens arcs && are_all_apart n) met).0

  rest : (are_small names trans tokens arcs && are_all_apart n) ≡ true
  rest = (and_parts (are_well_named names trans) (are_small names trans tokens arcs && are_all_apart n) met).1

  small : are_small names trans tokens arcs ≡ true
  small = (and_parts (are_small names trans tokens arcs) (are_all_apart n) rest).0

  -- its arcs are apart
  net_apart : are_all_apart n ≡ true
  net_apart = (and_parts (are_small names trans tokens arcs) (are_all_apart n) rest).1

  -- its names have their form
  net_named : IsWellNamed n
  net_named =
      let nine = list_all (λ (t : ℕ × Edge × ℕ). nat_lt t.2 1000000000) trans in
      let parts = and_parts (list_all is_name names) nine named in
      record {
        names = All-map (λ (s : Signal). IsTrue (is_name s.name)) input names (AllPass-from_list_all is_name names parts.0);
        indices = All-map (λ (t : TransName). t.index < 1000000000) named_trans trans
            (λ i d below. ltb-true (get_or trans i d).2 1000000000 (at_each (λ (t : ℕ × Edge × ℕ). nat_lt t.2 1000000000) trans i d parts.1 below));
      }

  -- it is within the limits of specifications
  net_within : IsWithin SPEC n
  net_within =
      let tokens_fit = list_all (λ k. nat_le k SPEC.weight) tokens in
      let weights_fit = list_all (λ (a : NetArc). nat_le a.weight SPEC.weight) (map arc arcs) in
      let s1 = and_parts (nat_le (length names) SPEC.signals) (nat_le (length trans) SPEC.trans && (nat_le (length tokens) SPEC.places && (nat_le (length arcs) SPEC.arcs && (tokens_fit && weights_fit)))) small in
      let s2 = and_parts (nat_le (length trans) SPEC.trans) (nat_le (length tokens) SPEC.places && (nat_le (length arcs) SPEC.arcs && (tokens_fit && weights_fit))) s1.1 in
      let s3 = and_parts (nat_le (length tokens) SPEC.places) (nat_le (length arcs) SPEC.arcs && (tokens_fit && weights_fit)) s2.1 in
      let s4 = and_parts (nat_le (length arcs) SPEC.arcs) (tokens_fit && weights_fit) s3.1 in
      let s5 = and_parts tokens_fit weights_fit s4.1 in
      record {
        signals = omega (arith, length-map names input, leb-true (length names) SPEC.signals s1.0);
        trans = omega (arith, length-map trans named_trans, leb-true (length trans) SPEC.trans s2.0);
        places = leb-true (length tokens) SPEC.places s3.0;
        arcs = omega (arith, length-map arcs arc, leb-true (length arcs) SPEC.arcs s4.0);
        tokens = λ i d below. leb-true (get_or tokens i d) SPEC.weight (at_each (λ k. nat_le k SPEC.weight) tokens i d s5.0 below);
        weights = λ i d below. leb-true (get_or (map arc arcs) i d).weight SPEC.weight (at_each (λ (a : NetArc). nat_le a.weight SPEC.weight) (map arc arcs) i d s5.1 below);
      }

-- what a derivation asks of a net and of a group in it
pub record IsReady (n : NetLists) (own known : List ℕ) : Type 0 where
  pub within : IsWithin SPEC n
  pub in_range : All (λ s. s < length n.signals) known
  pub closed : IsClosed (graph_of n) (names_at n own) (names_at n known)
  pub no_conflict : HasNoAutoConflict (graph_of n)

module _ (names : List (List ℕ)) (trans : List (ℕ × Edge × ℕ)) (tokens : List ℕ) (arcs : List (ℕ × ℕ × Bool × ℕ)) (labels : are_labels names trans ≡ true) (listed : are_arcs (length trans) tokens arcs ≡ true) (met : is_derivable names trans tokens arcs ≡ true) where
  abbrev tabled : NetLists
  tabled = net names trans tokens arcs

  -- tables that pass the tests are those of a specification
  pub tables_are_spec : (m : NetLists) (place_names : List PlaceName) → m ≡ net names trans tokens arcs
      → place_names ≡ map unnamed tokens → IsSpec (record { net = m; place_names = place_names })
  tables_are_spec m place_names m_is names_are =
      let P : NetLists → Type 0 = λ x. IsSpec (record { net = x; place_names = place_names }) in
      let Q : List PlaceName → Type 0 = λ xs. IsSpec (record { net = tabled; place_names = xs }) in
      subst P (sym m_is) (subst Q (sym names_are) (record {
        is_net = net-IsNet names trans tokens arcs labels listed;
        within = net-IsWithin names trans tokens arcs labels listed;
        well_named = net_named names trans tokens arcs met;
        each_named = length-map tokens unnamed;
        in_range = All-map (IsPlaceNameOf (length tabled.trans)) unnamed tokens (λ i d below. tt);
      }))

  -- a group that knows what it has to know is ready there
  pub tables_are_ready : (m : NetLists) (own mine known : List ℕ) → m ≡ net names trans tokens arcs
      → All (λ s. s < length names) own → mine ≡ own → known ≡ known_to (net names trans tokens arcs) own
      → IsReady m mine known
  tables_are_ready m own mine known m_is range mine_is known_is =
      let is_net = net-IsNet names trans tokens arcs labels listed in
      let long : length tabled.signals ≡ length names = length-map names input in
      let own_range : All (λ s. s < length tabled.signals) own = subst (λ k. All (λ s. s < k) own) (sym long) range in
      let needed = known_to tabled own in
      let P : NetLists → Type 0 = λ x. IsReady x mine known in
      let Q : List ℕ → Type 0 = λ xs. IsReady tabled mine xs in
      let R : List ℕ → Type 0 = λ xs. IsReady tabled xs needed in
      subst P (sym m_is) (subst Q (sym known_is) (subst R (sym mine_is) (record {
        within = net_within names trans tokens arcs met;
        in_range = λ k d below. (numbers_pass (is_known_to tabled own) (length tabled.signals) k d below).below;
        closed = known_closes tabled own is_net own_range;
        no_conflict = apart_no_conflict tabled is_net (net_apart names trans tokens arcs met);
      })))
