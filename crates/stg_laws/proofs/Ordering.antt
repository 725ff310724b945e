-- A net in order is the same graph with other numbers.
use Rattle.std.proofs.Common.{◌≡◌, ℕ, zero, suc, ◌<◌, ◌≤◌, ◌==◌, ◌&&◌, List, [], ◌∷◌, map, length, get_or, AllPairs, ◌≢◌, Bool, true, false, cond, Some, slice_index, refl, sym, ◌∙◌, ap, subst, inl, inr, eq-eqb, arith}
use Rattle.std.specs.List.{range_with_len}
use Rattle.std.specs.Str.{bytes_eq}
use Rattle.std.proofs.lemmas.Bool.{cases_lt, cases_eq, ne_eqb, eqb-true}
use Rattle.std.proofs.lemmas.List.{get_or_past, get_or_default, get_or-map as get_or-map_in, length-map}
use Rattle.std.proofs.lemmas.List.Sorted.{IsPermutation-map, list_any-IsPermutation}
use Rattle.std.proofs.lemmas.List.Sums.{sum_by-append}
use Rattle.stg_net.specs.declared.signal.Signal.{Signal}
use Rattle.stg_net.specs.declared.trans.TransName.{TransName}
use Rattle.stg_net.specs.declared.arc.NetArc.{NetArc}
use Rattle.stg_net.specs.Net.{NetLists, IsNet, signal_at, trans_at}
use Rattle.stg_net.specs.Graph.{IsPlace, IsTrans, is_among, full_name_at, place_at, tokens_in, taken_by, given_by, tokens_at, takes, gives}
use Rattle.stg_net.specs.Initial.{weight_of, goes, full_name, graph_of}
use Rattle.stg_net.specs.Ordered.{listed_below, signal_order, place_order, new_number, with_signal_number, with_place_number, arcs_at, arcs_moved, ordered}
use Rattle.std.proofs.lemmas.List.FromFn.{length-range_with_len, get_or-range_with_len}
use Rattle.stg_net.proofs.Pairs.{AllPairs-permutation, same_place}
use Rattle.stg_net.proofs.Orders.{IsOrder, signal_order-IsOrder, place_order-IsOrder, length-order, order_below, new_number-below, get_or-new_number}
use Rattle.stg_net.proofs.Moved.{signals-moved, length-tokens_moved, ordered-IsNet}
use Rattle.stg_net.proofs.Weights.{share, weight_of-cons, place_at-initial, place_at-past, tokens_at-initial, takes-graph_of, gives-graph_of, full_name_at-graph_of, live_below, place_below}
use Rattle.stg_laws.specs.Renumbered.{IsRenumbered}
use Rattle.stg_laws.proofs.Nets.{signal_names, no_signal, graph_of-known}

moved_same : (into : Bool) (t q : ℕ) (a : NetArc) → share into t q (with_place_number q a) ≡ share into t a.place a
moved_same into t q a = ap (λ b. cond ((a.trans == t) && b && goes into a.into) a.weight 0) (eq-eqb q q refl ∙ sym (eq-eqb a.place a.place refl))

moved_other : (into : Bool) (t q r : ℕ) (a : NetArc) → (q == r) ≡ false → share into t r (with_place_number q a) ≡ 0
moved_other into t q r a other = none (a.trans == t)
  where
    none : (b : Bool) → cond (b && (q == r) && goes into a.into) a.weight 0 ≡ 0
    none true = rw other refl
    none false = refl

other_place : (into : Bool) (t p : ℕ) (a : NetArc) → (a.place == p) ≡ false → share into t p a ≡ 0
other_place into t p a other = none (a.trans == t)
  where
    none : (b : Bool) → cond (b && (a.place == p) && goes into a.into) a.weight 0 ≡ 0
    none true = rw other refl
    none false = refl

-- arcs that were moved to q have the weights at q that they had at p
weight-moved : (into : Bool) (t p q : ℕ) (arcs : List NetArc) → weight_of (map (with_place_number q) (arcs_at arcs p)) into t q ≡ weight_of arcs into t p
weight-moved into t p q [] = refl
weight-moved into t p q (a ∷ arcs) = go (a.place == p) refl (weight-moved into t p q arcs)
  where
    go : (b : Bool) → (a.place == p) ≡ b → weight_of (map (with_place_number q) (arcs_at arcs p)) into t q ≡ weight_of arcs into t p
        → weight_of (map (with_place_number q) (cond b (a ∷ arcs_at arcs p) (arcs_at arcs p))) into t q ≡ weight_of (a ∷ arcs) into t p
    go true e rest =
        let here : share into t q (with_place_number q a) ≡ share into t p a = moved_same into t q a ∙ ap (λ r. share into t r a) (eqb-true a.place p e) in
        let first = weight_of-cons into t q (with_place_number q a) (map (with_place_number q) (arcs_at arcs p)) in
        let second = weight_of-cons into t p a arcs in
        omega (arith, here, rest, first, second)
    go false e rest =
        let none = other_place into t p a e in
        let second = weight_of-cons into t p a arcs in
        omega (arith, none, rest, second)

-- and none at any other place
weight-moved_other : (into : Bool) (t q r : ℕ) → (q == r) ≡ false → (arcs : List NetArc) → weight_of (map (with_place_number q) arcs) into t r ≡ 0
weight-moved_other into t q r other [] = refl
weight-moved_other into t q r other (a ∷ arcs) =
    omega (arith, weight_of-cons into t r (with_place_number q a) (map (with_place_number q) arcs), moved_other into t q r a other, weight-moved_other into t q r other arcs)

weight-listed_past : (into : Bool) (t r : ℕ) (arcs : List NetArc) (order : List ℕ) (m : ℕ) → m ≤ r → weight_of (listed_below (arcs_moved arcs order) m) into t r ≡ 0
weight-listed_past into t r arcs order zero past = refl
weight-listed_past into t r arcs order (suc m) past =
    let last = weight-moved_other into t m r (ne_eqb m r (λ e. omega arith)) (arcs_at arcs (get_or order m 0)) in
    let before = weight-listed_past into t r arcs order m (omega arith) in
    omega (arith, sum_by-append (share into t r) (listed_below (arcs_moved arcs order) m) (arcs_moved arcs order m), last, before)

-- the place that stands at r in the order has at r the weights that it had
weight-listed : (into : Bool) (t r : ℕ) (arcs : List NetArc) (order : List ℕ) (m : ℕ) → r < m → weight_of (listed_below (arcs_moved arcs order) m) into t r ≡ weight_of arcs into t (get_or order r 0)
weight-listed into t r arcs order zero below = absurd (omega arith)
weight-listed into t r arcs order (suc m) below =
    let both = sum_by-append (share into t r) (listed_below (arcs_moved arcs order) m) (arcs_moved arcs order m) in
    elim (cases_eq m r) [
      | inl same ↦
          let P : ℕ → Type 0 = λ q. weight_of (arcs_moved arcs order q) into t r ≡ weight_of arcs into t (get_or order r 0) in
          let last : P m = subst P (sym same) (weight-moved into t (get_or order r 0) r arcs) in
          omega (arith, both, last, weight-listed_past into t r arcs order m (omega arith))
      | inr other ↦
          let last = weight-moved_other into t m r (ne_eqb m r other) (arcs_at arcs (get_or order m 0)) in
          omega (arith, both, last, weight-listed into t r arcs order m (omega arith))
    ]

range_apart : (n : ℕ) → AllPairs (λ (j k : ℕ). j ≢ k) (range_with_len 0 n)
range_apart n i j d less below same =
    let second : j < n = omega (arith, below, length-range_with_len 0 n) in
    omega (arith, same, get_or-range_with_len 0 n i d (omega arith), get_or-range_with_len 0 n j d second)

-- each number stands once in an order
order_apart : (n : ℕ) (order : List ℕ) → IsOrder n order → (d q r : ℕ) → q < length order → r < length order → get_or order q d ≡ get_or order r d → q ≡ r
order_apart n order is d q r first second same =
    let apart = AllPairs-permutation (λ (j k : ℕ). j ≢ k) (λ j k differ e. differ (sym e)) (range_with_len 0 n) order is (range_apart n) in
    same_place (λ (k : ℕ). k) order apart d q r first second same

-- the numbers of the signals
abbrev numbers : NetLists → List ℕ
numbers n = range_with_len 0 (length n.signals)

module _ (n : NetLists) (net : IsNet n) where
  -- the old number of the place that stands at r; the number of places where none does
  old_place : ℕ → ℕ
  old_place r = get_or (place_order n) r (length n.tokens)

  many_places : length (place_order n) ≡ length n.tokens
  many_places = length-order (length n.tokens) (place_order n) (place_order-IsOrder n)

  old_below : (r : ℕ) → r < length n.tokens → old_place r < length n.tokens
  unfolding old_place
  old_below r below = order_below (length n.tokens) (place_order n) (place_order-IsOrder n) r (length n.tokens) (omega (arith, below, many_places))

  old_past : (r : ℕ) → length n.tokens ≤ r → old_place r ≡ length n.tokens
  unfolding old_place
  old_past r past = get_or_past (place_order n) r (length n.tokens) (omega (arith, past, many_places))

  -- a place below the number of places is live
  live_place : (m : NetLists) (p : ℕ) → p < length m.tokens → IsPlace (graph_of m) p
  live_place m p below = rw (place_at-initial m (numbers m) p below) refl

  old_live : (r : ℕ) → IsPlace (graph_of (ordered n)) r → IsPlace (graph_of n) (old_place r)
  old_live r live = live_place n (old_place r) (old_below r (omega (arith, place_below (ordered n) r live, length-tokens_moved n)))

  old_there : (p : ℕ) → IsPlace (graph_of n) p → (r : ℕ) × IsPlace (graph_of (ordered n)) r × (old_place r ≡ p)
  unfolding old_place
  old_there p live =
      let below = place_below n p live in
      let is = place_order-IsOrder n in
      let new = new_number (place_order n) p in
      let here : new < length (ordered n).tokens = omega (arith, new_number-below (length n.tokens) (place_order n) is p below, many_places, length-tokens_moved n) in
      (new, live_place (ordered n) new here, get_or-new_number (length n.tokens) (place_order n) is p (length n.tokens) below)

  -- each number stands once in the order
  old_differ : (q r : ℕ) → IsPlace (graph_of (ordered n)) q → IsPlace (graph_of (ordered n)) r → old_place q ≡ old_place r → q ≡ r
  unfolding old_place
  old_differ q r a b same =
      let first : q < length (place_order n) = omega (arith, place_below (ordered n) q a, many_places, length-tokens_moved n) in
      let second : r < length (place_order n) = omega (arith, place_below (ordered n) r b, many_places, length-tokens_moved n) in
      order_apart (length n.tokens) (place_order n) (place_order-IsOrder n) (length n.tokens) q r first second same

  -- a place in order is nothing where the old one is nothing
  past_same : (r : ℕ) → length n.tokens ≤ r → place_at (graph_of (ordered n)) r ≡ place_at (graph_of n) (old_place r)
  past_same r past =
      place_at-past (ordered n) (numbers (ordered n)) r (omega (arith, past, length-tokens_moved n)) ∙ sym (place_at-past n (numbers n) (old_place r) (omega (arith, old_past r past)))

  same_tokens : (r : ℕ) → tokens_at (graph_of (ordered n)) r ≡ tokens_at (graph_of n) (old_place r)
  unfolding old_place
  same_tokens r = elim (cases_lt r (length n.tokens)) [
    | inl below ↦
        tokens_at-initial (ordered n) (numbers (ordered n)) r
        ∙ get_or-map_in (slice_index n.tokens) (place_order n) r (length n.tokens) 0 (omega (arith, below, many_places))
        ∙ sym (tokens_at-initial n (numbers n) (old_place r))
    | inr past ↦ ap tokens_in (past_same r past)
  ]

  same_weight : (into : Bool) (t r : ℕ) → r < length n.tokens → weight_of (ordered n).arcs into t r ≡ weight_of n.arcs into t (old_place r)
  unfolding old_place
  same_weight into t r below =
      weight-listed into t r n.arcs (place_order n) (length (place_order n)) (omega (arith, below, many_places))
      ∙ ap (weight_of n.arcs into t) (get_or_default (place_order n) r 0 (length n.tokens) (omega (arith, below, many_places)))

  trans_below : (u : ℕ) → IsTrans (graph_of (ordered n)) u → u < length n.trans
  trans_below u live = omega (arith, live_below (ordered n) u live, length-map n.trans (with_signal_number (signal_order n.signals)))

  same_takes : (u r : ℕ) → IsTrans (graph_of (ordered n)) u → takes (graph_of (ordered n)) u r ≡ takes (graph_of n) u (old_place r)
  same_takes u r live = elim (cases_lt r (length n.tokens)) [
    | inl below ↦ takes-graph_of (ordered n) u r (ordered-IsNet n net) ∙ same_weight false u r below ∙ sym (takes-graph_of n u (old_place r) net)
    | inr past ↦ ap (taken_by u) (past_same r past)
  ]

  same_gives : (u r : ℕ) → IsTrans (graph_of (ordered n)) u → gives (graph_of (ordered n)) u r ≡ gives (graph_of n) u (old_place r)
  same_gives u r live = elim (cases_lt r (length n.tokens)) [
    | inl below ↦ gives-graph_of (ordered n) u r (ordered-IsNet n net) ∙ same_weight true u r below ∙ sym (gives-graph_of n u (old_place r) net)
    | inr past ↦ ap (given_by u) (past_same r past)
  ]

  -- a signal keeps its name at its new number
  pub same_signal : (s : ℕ) → s < length n.signals → signal_at (ordered n).signals (new_number (signal_order n.signals) s) ≡ signal_at n.signals s
  same_signal s below =
      let order = signal_order n.signals in
      let is = signal_order-IsOrder n.signals in
      get_or-map_in (signal_at n.signals) order (new_number order s) 0 no_signal (new_number-below (length n.signals) order is s below)
      ∙ ap (signal_at n.signals) (get_or-new_number (length n.signals) order is s 0 below)

  same_full_name : (x : TransName) → x.signal < length n.signals → full_name (ordered n) (with_signal_number (signal_order n.signals) x) ≡ full_name n x
  same_full_name x below = λ i. record { signal = (same_signal x.signal below i).name; edge = x.edge; index = x.index }

  same_names : (u : ℕ) → IsTrans (graph_of (ordered n)) u → full_name_at (graph_of n) u ≡ full_name_at (graph_of (ordered n)) u
  same_names u live =
      let below = trans_below u live in
      let moved = get_or-map_in (with_signal_number (signal_order n.signals)) n.trans u (trans_at n.trans u) (trans_at [] u) below in
      let kept = get_or_default n.trans u (trans_at n.trans u) (trans_at [] u) below in
      full_name_at-graph_of n u below
      ∙ ap Some (sym (same_full_name (trans_at n.trans u) (net.trans_signals u (trans_at [] u) below)))
      ∙ ap (λ x. Some (full_name (ordered n) x)) (sym (moved ∙ ap (with_signal_number (signal_order n.signals)) kept))
      ∙ sym (full_name_at-graph_of (ordered n) u (live_below (ordered n) u live))

  same_known : (s : List ℕ) → is_among (graph_of (ordered n)).known s ≡ is_among (graph_of n).known s
  same_known s =
      let moved = IsPermutation-map (λ (x : Signal). x.name) n.signals (ordered n).signals (signals-moved n) in
      ap (λ known. is_among known s) (graph_of-known (ordered n))
      ∙ sym (list_any-IsPermutation (λ k. bytes_eq k s) (signal_names n.signals) (signal_names (ordered n).signals) moved)
      ∙ ap (λ known. is_among known s) (sym (graph_of-known n))

  live_there : (t : ℕ) → IsTrans (graph_of n) t → IsTrans (graph_of (ordered n)) t
  live_there t live =
      let below : t < length (ordered n).trans = omega (arith, live_below n t live, length-map n.trans (with_signal_number (signal_order n.signals))) in
      rw (full_name_at-graph_of (ordered n) t below) refl

  pub order_renumbers : IsRenumbered (graph_of n) (graph_of (ordered n))
  order_renumbers = record {
    place = old_place;
    trans = λ u. u;
    place_there = old_live;
    place_from = old_there;
    place_differ = old_differ;
    trans_from = λ t live. (t, live_there t live, refl);
    trans_differ = λ u v a b e. e;
    names = same_names;
    tokens = same_tokens;
    taken = same_takes;
    given = same_gives;
    known = same_known;
  }
