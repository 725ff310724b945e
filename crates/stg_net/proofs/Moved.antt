-- A net in order is a net, within the same limits and with the same form of names.
use Rattle.std.proofs.Common.{◌≡◌, ◌≢◌, ℕ, zero, suc, ◌+◌, ◌-◌, ◌<◌, ◌≤◌, ◌^◌, ◌==◌, inl, inr, true, List, [], ◌++◌, length, length-append, map, get_or, All, AllPairs, IsTrue, refl, sym, ap, ◌∙◌, subst, arith}
use Rattle.std.specs.List.{range_with_len, sum_by}
use Rattle.std.specs.List.Sorted.{IsPermutation}
use Rattle.std.proofs.lemmas.Bool.{cases_lt, eqb-true}
use Rattle.std.proofs.lemmas.List.{length-map, get_or_append_left, get_or-append_right}
use Rattle.std.proofs.lemmas.List.Elements.{All-map, All-filter, All-weaker, filter_passes}
use Rattle.std.proofs.lemmas.List.FromFn.{fill_by_all}
use Rattle.std.proofs.lemmas.List.Folds.{fold-map}
use Rattle.std.proofs.lemmas.List.Kept.{AllPairs-filter}
use Rattle.std.proofs.lemmas.List.Sorted.{All-permutation, length_permutation, sum_by-IsPermutation}
use Rattle.stg_net.specs.declared.signal.Kind.TheVariants.{Input}
use Rattle.stg_net.specs.declared.signal.Signal.{Signal}
use Rattle.stg_net.specs.declared.trans.TransName.{TransName}
use Rattle.stg_net.specs.declared.arc.NetArc.{NetArc}
use Rattle.stg_net.specs.declared.limits.Limits.{Limits}
use Rattle.stg_net.specs.Net.{NetLists, IsNet, IsWithin, IsBefore, signal_at}
use Rattle.stg_net.specs.Names.{is_name, IsWellNamed}
use Rattle.stg_net.specs.Ordered.{listed_below, signal_order, place_order, with_signal_number, with_place_number, arcs_at, arcs_moved, ordered}
use Rattle.stg_net.proofs.Buckets.{All-listed_below, length-listed_below, IsPermutation-buckets}
use Rattle.stg_net.proofs.Maps.{AllPairs-map}
use Rattle.stg_net.proofs.Orders.{IsOrder, signal_order-IsOrder, place_order-IsOrder, new_number-below, new_number-apart, picked}
use Rattle.stg_net.proofs.Pairs.{AllPairs-permutation}

module _ {X : Type 0} (R : X → X → Type 0) where
  pub AllPairs-append : (xs ys : List X) → AllPairs R xs → AllPairs R ys → ((i j : ℕ) (d : X) → i < length xs → j < length ys → R (get_or xs i d) (get_or ys j d)) → AllPairs R (xs ++ ys)
  AllPairs-append xs ys first second across i j d lt below =
      let long = length-append xs ys in
      elim (cases_lt j (length xs)) [
        | inl inside ↦
            let before : i < length xs = omega arith in
            rw (get_or_append_left xs ys d i before, get_or_append_left xs ys d j inside) (first i j d lt inside)
        | inr past ↦
            let rest : j - length xs < length ys = omega arith in
            elim (cases_lt i (length xs)) [
              | inl before ↦ rw (get_or_append_left xs ys d i before, get_or-append_right xs ys (length xs) j d refl past) (across i (j - length xs) d before rest)
              | inr after ↦
                  rw (get_or-append_right xs ys (length xs) i d refl after, get_or-append_right xs ys (length xs) j d refl past)
                  (second (i - length xs) (j - length xs) d (omega arith) rest)
            ]
      ]

-- the same signals in their order
pub signals-moved : (n : NetLists) → IsPermutation n.signals (ordered n).signals
signals-moved n = picked n.signals (signal_order n.signals) (signal_order-IsOrder n.signals) (record { name = []; kind = Input })

-- the same tokens in the order of the places
pub tokens-moved : (n : NetLists) → IsPermutation n.tokens (ordered n).tokens
tokens-moved n = picked n.tokens (place_order n) (place_order-IsOrder n) 0

pub length-signals_moved : (n : NetLists) → length (ordered n).signals ≡ length n.signals
length-signals_moved n = length_permutation n.signals (ordered n).signals (signals-moved n)

pub length-tokens_moved : (n : NetLists) → length (ordered n).tokens ≡ length n.tokens
length-tokens_moved n = length_permutation n.tokens (ordered n).tokens (tokens-moved n)

module _ (order : List ℕ) (size : ℕ) (is : IsOrder size order) where
  trans_apart : (trans : List TransName) → All (λ (t : TransName). t.signal < size) trans → AllPairs (λ (s t : TransName). s ≢ t) trans → AllPairs (λ (s t : TransName). s ≢ t) (map (with_signal_number order) trans)
  trans_apart trans there apart =
      AllPairs-map (with_signal_number order) (λ (s t : TransName). s ≢ t) trans
      (λ i j d lt below same.
      let a = get_or trans i d in
      let b = get_or trans j d in
      let numbers = new_number-apart size order is a.signal b.signal (there i d (omega arith)) (there j d below) (ap (λ (t : TransName). t.signal) same) in
      apart i j d lt below (λ k. record { signal = numbers k; edge = (same k).edge; index = (same k).index }))

  trans_there : (trans : List TransName) → All (λ (t : TransName). t.signal < size) trans → All (λ (t : TransName). t.signal < length order) (map (with_signal_number order) trans)
  trans_there trans there =
      All-map (λ (t : TransName). t.signal < length order) (with_signal_number order) trans
      (λ k d below. new_number-below size order is (get_or trans k d).signal (there k d below))

-- of two arcs of one place, the first stays before the second with another number of the place
still_before : (p q : ℕ) (a b : NetArc) → a.place ≡ p → b.place ≡ p → IsBefore a b → IsBefore (with_place_number q a) (with_place_number q b)
still_before p q a b first second before =
    elim before [
      | inl lower ↦ absurd (omega arith)
      | inr same ↦ inr (refl, same.1)
    ]

module _ (arcs : List NetArc) (order : List ℕ) where
  moved_places : (q : ℕ) → All (λ (a : NetArc). a.place ≡ q) (arcs_moved arcs order q)
  moved_places q = All-map (λ (a : NetArc). a.place ≡ q) (with_place_number q) (arcs_at arcs (get_or order q 0)) (λ k d below. refl)

  places_at : (p : ℕ) → All (λ (a : NetArc). a.place ≡ p) (arcs_at arcs p)
  places_at p =
      All-weaker (λ (a : NetArc). (a.place == p) ≡ true) (λ (a : NetArc). a.place ≡ p) (λ a same. eqb-true a.place p same) (arcs_at arcs p)
      (filter_passes (λ (a : NetArc). a.place == p) arcs)

  moved_order : AllPairs IsBefore arcs → (q : ℕ) → AllPairs IsBefore (arcs_moved arcs order q)
  moved_order ascend q =
      let p = get_or order q 0 in
      let here = places_at p in
      AllPairs-map (with_place_number q) IsBefore (arcs_at arcs p)
      (λ i j d lt below.
      still_before p q (get_or (arcs_at arcs p) i d) (get_or (arcs_at arcs p) j d) (here i d (omega arith)) (here j d below)
      (AllPairs-filter IsBefore (λ (a : NetArc). a.place == p) arcs ascend i j d lt below))

  -- what holds of each arc, whatever its place, holds of each moved arc
  All-arcs_moved : (P : NetArc → Type 0) → ((a : NetArc) (q : ℕ) → P a → P (with_place_number q a)) → All P arcs → (m : ℕ) → All P (listed_below (arcs_moved arcs order) m)
  All-arcs_moved P kept all m =
      All-listed_below P (arcs_moved arcs order) m
      (λ q below.
      All-map P (with_place_number q) (arcs_at arcs (get_or order q 0))
      (All-weaker P (λ a. P (with_place_number q a)) (λ a holds. kept a q holds) (arcs_at arcs (get_or order q 0)) (All-filter (λ (a : NetArc). a.place == get_or order q 0) P arcs all)))

  All-places_moved : (m : ℕ) → All (λ (a : NetArc). a.place < m) (listed_below (arcs_moved arcs order) m)
  All-places_moved m =
      All-listed_below (λ (a : NetArc). a.place < m) (arcs_moved arcs order) m
      (λ q below. All-weaker (λ (a : NetArc). a.place ≡ q) (λ (a : NetArc). a.place < m) (λ a same. omega (arith, same, below)) (arcs_moved arcs order q) (moved_places q))

  ascending_below : AllPairs IsBefore arcs → (m : ℕ) → AllPairs IsBefore (listed_below (arcs_moved arcs order) m)
  ascending_below ascend zero = λ i j d lt below. absurd (omega arith)
  ascending_below ascend (suc m) =
      AllPairs-append IsBefore (listed_below (arcs_moved arcs order) m) (arcs_moved arcs order m) (ascending_below ascend m) (moved_order ascend m)
      (λ i j d first second.
      let lower = All-places_moved m i d first in
      let here = moved_places m j d second in
      inl (omega (arith, lower, here)))

  count_moved : (size : ℕ) → IsOrder size order → All (λ (a : NetArc). a.place < size) arcs → length (listed_below (arcs_moved arcs order) (length order)) ≡ length arcs
  count_moved size is below =
      let count : ℕ → ℕ = λ p. length (arcs_at arcs p) in
      let at : ℕ → ℕ = λ q. get_or order q 0 in
      let positions = range_with_len 0 (length order) in
      length-listed_below (arcs_moved arcs order) (length order)
      ∙ ap (λ (f : ℕ → ℕ). sum_by f positions) (λ j q. length-map (arcs_at arcs (at q)) (with_place_number q) j)
      ∙ sym (fold-map (λ s p. s + count p) at 0 positions)
      ∙ ap (sum_by count) (sym (fill_by_all at order (length order) 0 refl (λ k inside. refl)))
      ∙ sum_by-IsPermutation count (range_with_len 0 size) order is
      ∙ sym (length-listed_below (arcs_at arcs) size)
      ∙ length_permutation arcs (listed_below (arcs_at arcs) size) (IsPermutation-buckets (λ (a : NetArc). a.place) arcs size below)

-- a net in order is a net
pub ordered-IsNet : (n : NetLists) → IsNet n → IsNet (ordered n)
ordered-IsNet n net =
    let s_order = signal_order n.signals in
    let p_order = place_order n in
    let s_is = signal_order-IsOrder n.signals in
    let long : length s_order ≡ length (ordered n).signals = sym (length-map s_order (signal_at n.signals)) in
    let wide : length p_order ≡ length (ordered n).tokens = sym (length-map p_order (λ p. get_or n.tokens p 0)) in
    let thin : length n.trans ≡ length (ordered n).trans = sym (length-map n.trans (with_signal_number s_order)) in
    let trans_in : All (λ (a : NetArc). (a.trans < length n.trans) × (1 ≤ a.weight)) (ordered n).arcs =
    All-arcs_moved n.arcs p_order (λ (a : NetArc). (a.trans < length n.trans) × (1 ≤ a.weight)) (λ a q holds. holds) (λ k d below. let h = net.arcs k d below in (h.trans_there, h.positive)) (length p_order) in
    record {
      signal_names =
          AllPairs-permutation (λ (s t : Signal). s.name ≢ t.name) (λ s t apart same. apart (sym same)) n.signals (ordered n).signals (signals-moved n) net.signal_names;
      trans_names = trans_apart s_order (length n.signals) s_is n.trans net.trans_signals net.trans_names;
      trans_signals = subst (λ k. All (λ (t : TransName). t.signal < k) (ordered n).trans) long (trans_there s_order (length n.signals) s_is n.trans net.trans_signals);
      arcs =
          (λ k d below.
          let h = trans_in k d below in
          record {
            place_there = subst (λ m. (get_or (ordered n).arcs k d).place < m) wide (All-places_moved n.arcs p_order (length p_order) k d below);
            trans_there = subst (λ m. (get_or (ordered n).arcs k d).trans < m) thin h.0;
            positive = h.1;
          });
      ordered = ascending_below n.arcs p_order net.ordered (length p_order);
      signals_fit = rw (length-signals_moved n) net.signals_fit;
      trans_fit = subst (λ k. k < 2 ^ 32) thin net.trans_fit;
      places_fit = rw (length-tokens_moved n) net.places_fit;
    }

-- a net in order has as many of each kind
pub ordered-within : (n : NetLists) → IsNet n → (l : Limits) → IsWithin l n → IsWithin l (ordered n)
ordered-within n net l within = record {
  signals = rw (length-signals_moved n) within.signals;
  trans = rw (length-map n.trans (with_signal_number (signal_order n.signals))) within.trans;
  places = rw (length-tokens_moved n) within.places;
  arcs = rw (count_moved n.arcs (place_order n) (length n.tokens) (place_order-IsOrder n) (λ k d below. (net.arcs k d below).place_there)) within.arcs;
  tokens = All-permutation (λ k. k ≤ l.weight) n.tokens (ordered n).tokens (tokens-moved n) within.tokens;
  weights = All-arcs_moved n.arcs (place_order n) (λ (a : NetArc). a.weight ≤ l.weight) (λ a q holds. holds) within.weights (length (place_order n));
}

-- a net in order has the same names
pub ordered-named : (n : NetLists) → IsWellNamed n → IsWellNamed (ordered n)
ordered-named n named = record {
  names = All-permutation (λ (s : Signal). IsTrue (is_name s.name)) n.signals (ordered n).signals (signals-moved n) named.names;
  indices = All-map (λ (t : TransName). t.index < 1000000000) (with_signal_number (signal_order n.signals)) n.trans named.indices;
}
