-- The nets of the tests are nets within the limits of a component.
use Rattle.std.proofs.Common.{◌≡◌, ◌≢◌, ◌<◌, ◌≤◌, ◌⊎◌, ◌&&◌, ◌||◌, ◌==◌, ℕ, Bool, true, false, not, nat_lt, nat_le, List, [], ◌∷◌, map, length, All, AllPairs, sym, ap, ◌∙◌, subst, arith}
use Rattle.std.specs.List.{list_all}
use Rattle.std.proofs.lemmas.Bool.{and_parts, ltb-true, leb-true, true≢false}
use Rattle.std.proofs.lemmas.Bool.Decides.{nat_tests}
use Rattle.std.proofs.lemmas.List.{length-map}
use Rattle.std.proofs.lemmas.List.Elements.{All-nil, All-cons}
use Rattle.std.proofs.lemmas.List.Kept.{AllPairs-cons}
use Rattle.std.proofs.lemmas.Slice.Eq.{bytes_eq-Decides}
use Rattle.stg_net.specs.declared.limits.TheConstants.Limits.{PART}
use Rattle.stg_net.specs.declared.signal.Signal.{Signal}
use Rattle.stg_net.specs.declared.trans.Edge.{Edge}
use Rattle.stg_net.specs.declared.trans.TransName.{TransName}
use Rattle.stg_net.specs.declared.arc.NetArc.{NetArc}
use Rattle.stg_net.specs.Net.{NetLists, IsNet, IsWithin, IsBefore, IsArcOf, is_edge}
use Rattle.stg_net.proofs.Edges.{is_edge-itself}
use Rattle.stg_contract.specs.inner.Worked.{input, named_trans, arc, net, all_pairs, names_differ, trans_differ, is_arc, stands_before, are_labels, are_arcs}

-- what a test finds of each holds of each
each : {X : Type 0} (P : X → Type 0) (test : X → Bool) → ((x : X) → test x ≡ true → P x) → (xs : List X)
    → list_all test xs ≡ true → All P xs
each P test sound [] met = All-nil _
each P test sound (x ∷ xs) met =
    let parts = and_parts (test x) (list_all test xs) met in
    All-cons P x xs (sound x parts.0) (each P test sound xs parts.1)

-- what a test finds of each, of what is made of it
each_made : {X Y : Type 0} (P : Y → Type 0) (f : X → Y) (test : X → Bool)
    → ((x : X) → test x ≡ true → P (f x)) → (xs : List X) → list_all test xs ≡ true → All P (map f xs)
each_made P f test sound [] met = All-nil _
each_made P f test sound (x ∷ xs) met =
    let parts = and_parts (test x) (list_all test xs) met in
    All-cons P (f x) (map f xs) (sound x parts.0) (each_made P f test sound xs parts.1)

each_pair : {X Y : Type 0} (R : Y → Y → Type 0) (f : X → Y) (test : X → X → Bool)
    → ((x y : X) → test x y ≡ true → R (f x) (f y)) → (xs : List X) → all_pairs test xs ≡ true
    → AllPairs R (map f xs)
each_pair R f test sound [] met = λ i j d lt below. absurd (omega arith)
each_pair R f test sound (x ∷ xs) met =
    let parts = and_parts (list_all (test x) xs) (all_pairs test xs) met in
    AllPairs-cons R (f x) (map f xs) (each_made (R (f x)) f (test x) (sound x) xs parts.0) (each_pair R f test sound xs parts.1)

same_pairs : (R : NetArc → NetArc → Type 0) (test : NetArc → NetArc → Bool)
    → ((a b : NetArc) → test a b ≡ true → R a b) → (xs : List NetArc) → all_pairs test xs ≡ true
    → AllPairs R xs
same_pairs R test sound [] met = λ i j d lt below. absurd (omega arith)
same_pairs R test sound (x ∷ xs) met =
    let parts = and_parts (list_all (test x) xs) (all_pairs test xs) met in
    AllPairs-cons R x xs (each (R x) (test x) (sound x) xs parts.0) (same_pairs R test sound xs parts.1)

names_apart : (s t : List ℕ) → names_differ s t ≡ true → s ≢ t
names_apart s t met same = true≢false (sym met ∙ ap not ((bytes_eq-Decides s t).1 same))

trans_apart : (s t : ℕ × Edge × ℕ) → trans_differ s t ≡ true → named_trans s ≢ named_trans t
trans_apart (s, e, i) (t, f, j) met same =
    let signals : s ≡ t = ap (λ (x : TransName). x.signal) same in
    let edges : e ≡ f = ap (λ (x : TransName). x.edge) same in
    let indices : i ≡ j = ap (λ (x : TransName). x.index) same in
    differ (s == t) (is_edge e f) (i == j) met (grind (arith, nat_tests)) (ap (is_edge e) (sym edges) ∙ is_edge-itself e) (grind (arith, nat_tests))
  where
    differ : (a b c : Bool) → (not a || (not b || not c)) ≡ true → a ≡ true → b ≡ true → c ≡ true → ⊥
    differ a b c met x y z = true≢false (sym met ∙ (λ k. not (x k) || (not (y k) || not (z k))))

arcs_before : (a b : NetArc) → stands_before a b ≡ true → IsBefore a b
arcs_before a b met = in_order a.place b.place a.trans b.trans a.into b.into met
  where
    in_order : (p q t u : ℕ) (a b : Bool)
        → (nat_lt p q || ((p == q) && (nat_lt t u || ((t == u) && (not a && b))))) ≡ true
        → (p < q) ⊎ ((p ≡ q) × ((t < u) ⊎ ((t ≡ u) × ((a ≡ false) × (b ≡ true)))))
    in_order p q t u true true met = grind (arith, nat_tests)
    in_order p q t u true false met = grind (arith, nat_tests)
    in_order p q t u false true met = grind (arith, nat_tests)
    in_order p q t u false false met = grind (arith, nat_tests)

is_arc_of : (places trans : ℕ) (a : NetArc) → is_arc places trans a ≡ true → IsArcOf places trans a
is_arc_of places trans a met = record { place_there = grind (arith, nat_tests); trans_there = grind (arith, nat_tests); positive = grind (arith, nat_tests) }

weight_within : (places trans : ℕ) (a : NetArc) → is_arc places trans a ≡ true → a.weight ≤ PART.weight
weight_within places trans a met = grind (arith, nat_tests)

module _ (names : List (List ℕ)) (trans : List (ℕ × Edge × ℕ)) (tokens : List ℕ) (arcs : List (ℕ × ℕ × Bool × ℕ)) (labels : are_labels names trans ≡ true) (listed : are_arcs (length trans) tokens arcs ≡ true) where
  -- what the two tests find
  record IsWorked : Type 0 where
    signals : nat_le (length names) PART.signals ≡ true
    count_trans : nat_le (length trans) PART.trans ≡ true
    names_differ : all_pairs names_differ names ≡ true
    trans_differ : all_pairs trans_differ trans ≡ true
    trans_signals : list_all (λ (t : ℕ × Edge × ℕ). nat_lt t.0 (length names)) trans ≡ true
    places : nat_le (length tokens) PART.places ≡ true
    count_arcs : nat_le (length arcs) PART.arcs ≡ true
    numbers : list_all (λ k. nat_le k PART.weight) tokens ≡ true
    each_arc : list_all (is_arc (length tokens) (length trans)) (map arc arcs) ≡ true
    order : all_pairs stands_before (map arc arcs) ≡ true

  is_worked : IsWorked
  is_worked =
      let differ = all_pairs trans_differ trans in
      let there = list_all (λ (t : ℕ × Edge × ℕ). nat_lt t.0 (length names)) trans in
      let l1 = and_parts (nat_le (length names) PART.signals) (nat_le (length trans) PART.trans && (all_pairs names_differ names && (differ && there))) labels in
      let l2 = and_parts (nat_le (length trans) PART.trans) (all_pairs names_differ names && (differ && there)) l1.1 in
      let l3 = and_parts (all_pairs names_differ names) (differ && there) l2.1 in
      let l4 = and_parts differ there l3.1 in
      let numbers = list_all (λ k. nat_le k PART.weight) tokens in
      let each_arc = list_all (is_arc (length tokens) (length trans)) (map arc arcs) in
      let order = all_pairs stands_before (map arc arcs) in
      let a1 = and_parts (nat_le (length tokens) PART.places) (nat_le (length arcs) PART.arcs && (numbers && (each_arc && order))) listed in
      let a2 = and_parts (nat_le (length arcs) PART.arcs) (numbers && (each_arc && order)) a1.1 in
      let a3 = and_parts numbers (each_arc && order) a2.1 in
      let a4 = and_parts each_arc order a3.1 in
      record {
        signals = l1.0;
        count_trans = l2.0;
        names_differ = l3.0;
        trans_differ = l4.0;
        trans_signals = l4.1;
        places = a1.0;
        count_arcs = a2.0;
        numbers = a3.0;
        each_arc = a4.0;
        order = a4.1;
      }

  -- tables that pass the tests are those of a net
  pub net-IsNet : IsNet (net names trans tokens arcs)
  net-IsNet =
      let w = is_worked in
      let few = leb-true (length names) PART.signals w.signals in
      let many : length (map input names) ≡ length names = length-map names input in
      let long : length (map named_trans trans) ≡ length trans = length-map trans named_trans in
      record {
        signal_names = each_pair (λ (s t : Signal). s.name ≢ t.name) input names_differ names_apart names w.names_differ;
        trans_names = each_pair (λ (s t : TransName). s ≢ t) named_trans trans_differ trans_apart trans w.trans_differ;
        trans_signals = each_made (λ (t : TransName). t.signal < length (map input names)) named_trans (λ (t : ℕ × Edge × ℕ). nat_lt t.0 (length names)) (λ t found. omega (arith, many, ltb-true t.0 (length names) found)) trans w.trans_signals;
        arcs = subst (λ n. All (IsArcOf (length tokens) n) (map arc arcs)) (sym long) (each (IsArcOf (length tokens) (length trans)) (is_arc (length tokens) (length trans)) (is_arc_of (length tokens) (length trans)) (map arc arcs) w.each_arc);
        ordered = same_pairs IsBefore stands_before arcs_before (map arc arcs) w.order;
        signals_fit = omega (arith, many, few);
        trans_fit = omega (arith, long, leb-true (length trans) PART.trans w.count_trans);
        places_fit = omega (arith, leb-true (length tokens) PART.places w.places);
      }

  -- and it is within the limits
  pub net-IsWithin : IsWithin PART (net names trans tokens arcs)
  net-IsWithin = let w = is_worked in record {
    signals = omega (arith, length-map names input, leb-true (length names) PART.signals w.signals);
    trans = omega (arith, length-map trans named_trans, leb-true (length trans) PART.trans w.count_trans);
    places = leb-true (length tokens) PART.places w.places;
    arcs = omega (arith, leb-true (length arcs) PART.arcs w.count_arcs, length-map arcs arc);
    tokens = each (λ k. k ≤ PART.weight) (λ k. nat_le k PART.weight) (λ k found. leb-true k PART.weight found) tokens w.numbers;
    weights = each (λ (a : NetArc). a.weight ≤ PART.weight) (is_arc (length tokens) (length trans)) (weight_within (length tokens) (length trans)) (map arc arcs) w.each_arc;
  }

-- nets with equal lists are equal
pub same_net : (a b : NetLists) → a.signals ≡ b.signals → a.trans ≡ b.trans → a.tokens ≡ b.tokens
    → a.arcs ≡ b.arcs → a ≡ b
same_net a b signals trans tokens arcs = λ i. record { signals = signals i; trans = trans i; tokens = tokens i; arcs = arcs i }

-- the known signals are there
pub below : (n : ℕ) (xs : List ℕ) → list_all (λ k. nat_lt k n) xs ≡ true → All (λ k. k < n) xs
below n xs met = each (λ k. k < n) (λ k. nat_lt k n) (λ k found. ltb-true k n found) xs met
