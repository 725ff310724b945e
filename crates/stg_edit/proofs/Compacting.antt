-- The listed signals, names, tokens and arcs are the net of the draft.
use Rattle.std.proofs.Common.{◌≡◌, ◌≢◌, ℕ, zero, suc, ◌+◌, ◌<◌, ◌≤◌, ◌^◌, ◌==◌, ◌∷◌, [], Bool, true, false, List, length, map, filter, get_or, slice_index, All, AllPairs, Option, Some, None, is_some, refl, sym, ap, ◌∙◌, subst, inl, inr, arith, eq-eqb, min, cond, length-append}
use Rattle.std.specs.List.{range_with_len, sum_by}
use Rattle.std.specs.List.Sorted.{IsStrictlyIncreasing}
use Rattle.std.proofs.lemmas.Bool.{cases_lt, cases_order, cases_Bool, lt-ltb, le-ltb, eqb-true, false≢true}
use Rattle.std.proofs.lemmas.List.{get_or-map, length-map}
use Rattle.std.proofs.lemmas.List.Elements.{All-filter, All-weaker, filter_passes}
use Rattle.std.proofs.lemmas.List.FromFn.{length-range_with_len, get_or-range_with_len, fill_by_all}
use Rattle.std.proofs.lemmas.List.Kept.{IsStrictlyIncreasing-filter, AllPairs-from_increasing}
use Rattle.std.proofs.lemmas.List.Sums.{fails_before_first, passes_at_first, sum_by-cons}
use Rattle.stg_net.specs.declared.signal.Kind.TheVariants.{Input}
use Rattle.stg_net.specs.declared.signal.Signal.{Signal}
use Rattle.stg_net.specs.declared.trans.TransName.{TransName}
use Rattle.stg_net.specs.declared.arc.NetArc.{NetArc}
use Rattle.stg_net.specs.Net.{NetLists, IsNet, IsArcOf, signal_at}
use Rattle.stg_net.specs.Graph.{Graph, Place, FullName, IsPlace, IsTrans, IsDummy, is_among, has_signal_of, place_at, full_name_at, tokens_at, tokens_in, takes, gives, taken_by, given_by}
use Rattle.stg_net.specs.Initial.{weight_of, weight_list, place_of, graph_of}
use Rattle.stg_net.specs.Ordered.{new_number, numbers_where}
use Rattle.stg_net.proofs.Buckets.{numbers_where-filter, length-listed_below}
use Rattle.stg_net.proofs.Maps.{AllPairs-map}
use Rattle.stg_arena.specs.WalkItems.{weighted}
use Rattle.stg_arena.proofs.Appends.{weighted_more}
use Rattle.stg_edit.specs.Editing.{Editing, full_name_in}
use Rattle.stg_edit.specs.Counted.{live_places, count_arcs_at, count_arcs}
use Rattle.stg_edit.proofs.Counted.{sum_more}
use Rattle.stg_edit.specs.Compacted.{live_trans, packed, known_signals, net_signal, IsNetOf}
use Rattle.stg_edit.specs.inner.Packing.{weighted_arc, numbered_arcs, place_arcs, HaveNamesOf, all_arcs}
use Rattle.stg_edit.specs.Drafts.{IsWeightlessWhereRemoved, HasOwnNames, IsDraft}
use Rattle.stg_edit.proofs.Lists.{Contains-filter, Contains-range, map-after}
use Rattle.stg_edit.proofs.Packing.{listed_taken, listed_given, listed_ascend, listed_there, below_range}

-- numbers of a range that pass a test: below its end, and in ascending order
module _ (q : ℕ → Bool) (n : ℕ) where
  -- the numbers that pass are in range
  pub kept_below : All (λ k. k < n) (filter q (range_with_len 0 n))
  kept_below = All-filter q (λ k. k < n) (range_with_len 0 n) (below_range n)

  -- they pass
  pub kept_pass : All (λ k. q k ≡ true) (filter q (range_with_len 0 n))
  kept_pass = filter_passes q (range_with_len 0 n)

  range_increases : IsStrictlyIncreasing (range_with_len 0 n)
  range_increases k l =
      let m : k + 1 < n = rw (← length-range_with_len 0 n) l in
      omega (arith, get_or-range_with_len 0 n k 0 (omega arith), get_or-range_with_len 0 n (k + 1) 0 m)

  -- they ascend
  pub kept_ascend : AllPairs (λ x y. x < y) (filter q (range_with_len 0 n))
  kept_ascend = AllPairs-from_increasing (filter q (range_with_len 0 n)) (IsStrictlyIncreasing-filter q (range_with_len 0 n) range_increases)

  -- a number that passes stands where its new number says
  pub kept_number : (k : ℕ) → k < n → q k ≡ true → new_number (filter q (range_with_len 0 n)) k < length (filter q (range_with_len 0 n))
  kept_number k below pass =
      let order = filter q (range_with_len 0 n) in
      let at = Contains-filter q (range_with_len 0 n) k pass (Contains-range n k below) in
      elim (cases_lt (new_number order k) (length order)) [
        | inl inside ↦ inside
        | inr past ↦ absurd (false≢true (sym (fails_before_first (λ o. o == k) order at.0 k (omega (arith, at.1))) ∙ eq-eqb (get_or order at.0 k) k at.2))
      ]

  -- each stands at its new number
  pub kept_at : (k d : ℕ) → k < n → q k ≡ true → get_or (filter q (range_with_len 0 n)) (new_number (filter q (range_with_len 0 n)) k) d ≡ k
  kept_at k d below pass =
      let order = filter q (range_with_len 0 n) in
      eqb-true (get_or order (new_number order k) d) k (passes_at_first (λ o. o == k) order d (kept_number k below pass))

-- no more pass than there are
pub few_kept : (q : ℕ → Bool) (n : ℕ) → length (filter q (range_with_len 0 n)) ≤ n
few_kept q n = few q (range_with_len 0 n) n (length-range_with_len 0 n)
  where
    few : (q : ℕ → Bool) (xs : List ℕ) (n : ℕ) → length xs ≡ n → length (filter q xs) ≤ n
    few q [] n e = omega arith
    few q (x ∷ xs) zero e = absurd (omega arith)
    few q (x ∷ xs) (suc n) e = let r = few q xs n (omega arith) in elim (cases_Bool (q x)) [ inl t ↦ rw t (omega (arith, r)) | inr f ↦ rw f (omega (arith, r)) ]

-- the name of a signal of the net
pub net_signal-name : (signals of_net : List Signal) (kept : List ℕ) (j : ℕ) → HaveNamesOf signals kept of_net → j < length of_net → (signal_at of_net j).name ≡ (signal_at signals (get_or kept j 0)).name
net_signal-name signals of_net kept j same below =
    let long : length kept ≡ length of_net = sym (length-map kept (λ s. (signal_at signals s).name)) ∙ sym (ap length same) ∙ length-map of_net (λ (s : Signal). s.name) in
    sym (get_or-map (λ (s : Signal). s.name) of_net j (record { name = []; kind = Input }) [] below)
    ∙ ap (λ xs. get_or xs j []) same
    ∙ get_or-map (λ s. (signal_at signals s).name) kept j 0 [] (omega (arith, long))

-- the net has as many signals as are kept
pub net_signals-length : (signals of_net : List Signal) (kept : List ℕ) → HaveNamesOf signals kept of_net → length of_net ≡ length kept
net_signals-length signals of_net kept same = sym (length-map of_net (λ (s : Signal). s.name)) ∙ ap length same ∙ length-map kept (λ s. (signal_at signals s).name)

module _ (signals : List Signal) (g : Graph) (of_net : List Signal) (name : TransName) (t : ℕ) (is : HaveNamesOf signals (known_signals signals g) of_net) (there : name.signal < length signals) (named : full_name_at g t ≡ Some (full_name_in signals name)) (known : has_signal_of g.known (full_name_at g t) ≡ true) where
  is_kept : is_among g.known (signal_at signals name.signal).name ≡ true
  is_kept = rw named at known

  -- the new number of a known signal is in range
  pub new_there : new_number (known_signals signals g) name.signal < length of_net
  new_there = omega (arith, net_signals-length signals of_net (known_signals signals g) is, kept_number (λ s. is_among g.known (signal_at signals s).name) (length signals) name.signal there is_kept)

  -- a name with the new number of its signal is the same full name
  pub renamed : full_name_at g t ≡ Some (full_name_in of_net (record name { signal = new_number (known_signals signals g) name.signal }))
  renamed =
      let e = net_signal-name signals of_net (known_signals signals g) (new_number (known_signals signals g) name.signal) is new_there in
      let f = kept_at (λ s. is_among g.known (signal_at signals s).name) (length signals) name.signal 0 there is_kept in
      let h : (signal_at of_net (new_number (known_signals signals g) name.signal)).name ≡ (signal_at signals name.signal).name = e ∙ ap (λ s. (signal_at signals s).name) f in
      named ∙ (λ i. Some (record { signal = sym h i; edge = name.edge; index = name.index }))

-- the signals of the net have their names, which differ
pub names_of_kept : (signals : List Signal) (own kept : List ℕ) → HaveNamesOf signals kept (map (net_signal signals own) kept)
names_of_kept signals own kept = sym (map-after (λ s. (signal_at signals s).name) (λ (s : Signal). s.name) (net_signal signals own) (λ s. refl) kept)

-- the signals of the net differ in name
pub net_signals-differ : (signals : List Signal) (own : List ℕ) (q : ℕ → Bool) → AllPairs (λ (s t : Signal). s.name ≢ t.name) signals → AllPairs (λ (s t : Signal). s.name ≢ t.name) (map (net_signal signals own) (filter q (range_with_len 0 (length signals))))
net_signals-differ signals own q differ =
    let kept = filter q (range_with_len 0 (length signals)) in
    AllPairs-map (net_signal signals own) (λ (s t : Signal). s.name ≢ t.name) kept
    (λ i j d lt below. differ (get_or kept i d) (get_or kept j d) (record { name = []; kind = Input }) (kept_ascend q (length signals) i j d lt below) (kept_below q (length signals) j d below))

-- names of live transitions that are listed differ
pub listed_differ : (g : Graph) (of_net : List Signal) (names : List TransName) (trans : List ℕ) → HasOwnNames g → All (λ t. IsTrans g t) trans → AllPairs (λ x y. x < y) trans → map (λ x. Some (full_name_in of_net x)) names ≡ map (full_name_at g) trans → AllPairs (λ (s t : TransName). s ≢ t) names
listed_differ g of_net names trans own live ascend same i j d lt below e =
    let long : length names ≡ length trans = sym (length-map names (λ x. Some (full_name_in of_net x))) ∙ ap length same ∙ length-map trans (full_name_at g) in
    let first : i < length names = omega arith in
    let at : (k : ℕ) → k < length names → Some (full_name_in of_net (get_or names k d)) ≡ full_name_at g (get_or trans k 0) =
    λ k low. sym (get_or-map (λ x. Some (full_name_in of_net x)) names k d None low) ∙ ap (λ xs. get_or xs k None) same ∙ get_or-map (full_name_at g) trans k 0 None (omega (arith, long)) in
    let equal = own (get_or trans i 0) (get_or trans j 0) (live i 0 (omega (arith, long))) (sym (at i first) ∙ ap (λ x. Some (full_name_in of_net x)) e ∙ at j below) in
    omega (arith, equal, ascend i j 0 lt (omega (arith, long)))

-- the place with its weights, read off the lists
place_same : (g : Graph) (n : NetLists) (places trans : List ℕ) (q : ℕ) (o : Option Place) → n.tokens ≡ map (tokens_at g) places → length n.trans ≡ length trans → n.arcs ≡ all_arcs g places trans → q < length places → place_at g (get_or places q 0) ≡ o → is_some o ≡ true → packed trans o ≡ place_of n q
place_same g n places trans q None tokens long arcs low here live = absurd (false≢true live)
place_same g n places trans q (Some x) tokens long arcs low here live =
    let p = get_or places q 0 in
    let count : x.tokens ≡ slice_index n.tokens q = sym (ap (λ xs. get_or xs q 0) tokens ∙ get_or-map (tokens_at g) places q 0 0 low ∙ ap tokens_in here) in
    let weights : (into : Bool) (xs : List ℕ) → ((u : ℕ) → u < length trans → weight_of (all_arcs g places trans) into u q ≡ slice_index xs (slice_index trans u)) → map (slice_index xs) trans ≡ weight_list (length n.trans) (λ t. weight_of n.arcs into t q) =
    λ into xs same. fill_by_all (λ t. weight_of n.arcs into t q) (map (slice_index xs) trans) (length n.trans) 0 (length-map trans (slice_index xs) ∙ sym long)
    (λ u below. get_or-map (slice_index xs) trans u 0 0 (omega (arith, long)) ∙ sym (same u (omega (arith, long))) ∙ ap (λ list. weight_of list into u q) (sym arcs)) in
    let taken = weights false x.taken (λ u below. listed_taken g places trans u q below low ∙ ap (taken_by (slice_index trans u)) here) in
    let given = weights true x.given (λ u below. listed_given g places trans u q below low ∙ ap (given_by (slice_index trans u)) here) in
    λ i. Some (record { tokens = count i; taken = taken i; given = given i })

module _ (g : Graph) (n : NetLists) (places trans : List ℕ) (live : All (λ p. IsPlace g p) places) (tokens : n.tokens ≡ map (tokens_at g) places) (names : map (λ x. Some (full_name_in n.signals x)) n.trans ≡ map (full_name_at g) trans) (arcs : n.arcs ≡ all_arcs g places trans) where
  as_many : length n.trans ≡ length trans
  as_many = sym (length-map n.trans (λ x. Some (full_name_in n.signals x))) ∙ ap length names ∙ length-map trans (full_name_at g)

  as_many_places : length n.tokens ≡ length places
  as_many_places = ap length tokens ∙ length-map places (tokens_at g)

  -- the places of the listed net as a graph
  pub listed_places : (graph_of n).places ≡ map (λ p. packed trans (place_at g p)) places
  listed_places = sym (fill_by_all (place_of n) (map (λ p. packed trans (place_at g p)) places) (length n.tokens) None (length-map places (λ p. packed trans (place_at g p)) ∙ sym as_many_places)
      (λ q below.
      let low : q < length places = omega (arith, as_many_places) in
      get_or-map (λ p. packed trans (place_at g p)) places q 0 None low ∙ place_same g n places trans q (place_at g (get_or places q 0)) tokens as_many arcs low refl (live q 0 low)))

  -- the listed net is a net
  pub listed_net : HasOwnNames g → AllPairs (λ (s t : Signal). s.name ≢ t.name) n.signals → All (λ t. IsTrans g t) trans → AllPairs (λ x y. x < y) trans → All (λ (x : TransName). x.signal < length n.signals) n.trans → length n.signals < 2 ^ 32 → length trans < 2 ^ 32 → length places < 2 ^ 32 → IsNet n
  listed_net own differ live_t ascend there few_s few_t few_p = record {
    signal_names = differ;
    trans_names = listed_differ g n.signals n.trans trans own live_t ascend names;
    trans_signals = there;
    arcs =
        λ k d below.
        let x = subst (All (λ (a : NetArc). (a.place < length places) × (a.trans < length trans) × (1 ≤ a.weight))) (sym arcs)
        (All-weaker (IsArcOf (length places) (length trans)) (λ (a : NetArc). (a.place < length places) × (a.trans < length trans) × (1 ≤ a.weight)) (λ a h. (h.place_there, h.trans_there, h.positive)) (all_arcs g places trans) (listed_there g places trans)) k d below in
        record { place_there = omega (arith, x.0, as_many_places); trans_there = omega (arith, x.1, as_many); positive = x.2 };
    ordered = rw arcs (listed_ascend g places trans);
    signals_fit = few_s;
    trans_fit = rw as_many few_t;
    places_fit = rw as_many_places few_p;
  }

-- where no dummy is live, each live transition's signal is known
pub none_hidden : (g : Graph) → ((t : ℕ) → IsDummy g t → ⊥) → All (λ t. has_signal_of g.known (full_name_at g t) ≡ true) (live_trans g)
none_hidden g none =
    All-weaker (λ t. is_some (full_name_at g t) ≡ true) (λ t. has_signal_of g.known (full_name_at g t) ≡ true)
    (λ t live. elim (cases_Bool (has_signal_of g.known (full_name_at g t))) [
      | inl is ↦ is
      | inr hidden ↦ absurd (none t (record { live = live; hidden = hidden }))
    ])
    (live_trans g) (kept_pass (λ t. is_some (full_name_at g t)) (length g.trans))

-- the listed places live
pub places_live : (g : Graph) → All (λ p. IsPlace g p) (live_places g)
places_live g = kept_pass (λ p. is_some (place_at g p)) (length g.places)

-- the listed transitions live
pub trans_live : (g : Graph) → All (λ t. IsTrans g t) (live_trans g)
trans_live g = kept_pass (λ t. is_some (full_name_at g t)) (length g.trans)

-- the listed transitions are in range
pub trans_below : (g : Graph) → All (λ t. t < length g.trans) (live_trans g)
trans_below g = kept_below (λ t. is_some (full_name_at g t)) (length g.trans)

-- the listed transitions fit 32 bits
pub few_trans : (g : Graph) → length g.trans < 2 ^ 32 → length (live_trans g) < 2 ^ 32
few_trans g fit = omega (arith, few_kept (λ t. is_some (full_name_at g t)) (length g.trans))

-- the listed places fit 32 bits
pub few_places : (g : Graph) → length g.places < 2 ^ 32 → length (live_places g) < 2 ^ 32
few_places g fit = omega (arith, few_kept (λ p. is_some (place_at g p)) (length g.places))

-- the listed signals fit 32 bits
pub few_signals : (signals : List Signal) (own : List ℕ) (g : Graph) → length signals < 2 ^ 32 → length (map (net_signal signals own) (known_signals signals g)) < 2 ^ 32
few_signals signals own g fit = omega (arith, length-map (known_signals signals g) (net_signal signals own), few_kept (λ s. is_among g.known (signal_at signals s).name) (length signals))

-- the lists that are listed for a draft
pub record IsListed (e : Editing) (own : List ℕ) (n : NetLists) : Type 0 where
  pub signals_are : n.signals ≡ map (net_signal e.signals own) (known_signals e.signals e.now)
  pub names_are : map (λ x. Some (full_name_in n.signals x)) n.trans ≡ map (full_name_at e.now) (live_trans e.now)
  pub there : All (λ (x : TransName). x.signal < length n.signals) n.trans
  pub tokens_are : n.tokens ≡ map (tokens_at e.now) (live_places e.now)
  pub arcs_are : n.arcs ≡ all_arcs e.now (live_places e.now) (live_trans e.now)

-- the listed net is that of the draft
pub listed_is_net_of : (e : Editing) (own : List ℕ) (n : NetLists) → IsListed e own n → IsNetOf e.signals e.now own n
listed_is_net_of e own n l = record {
  signals = l.signals_are;
  places = listed_places e.now n (live_places e.now) (live_trans e.now) (places_live e.now) l.tokens_are l.names_are l.arcs_are;
  trans = l.names_are;
}

-- the listed net is a net
pub listed_is_net : (e : Editing) (own : List ℕ) (n : NetLists) → IsDraft e → IsListed e own n → IsNet n
listed_is_net e own n fit l =
    listed_net e.now n (live_places e.now) (live_trans e.now) (places_live e.now) l.tokens_are l.names_are l.arcs_are fit.trans_differ
    (rw l.signals_are (net_signals-differ e.signals own (λ s. is_among e.now.known (signal_at e.signals s).name) fit.names_differ))
    (trans_live e.now) (kept_ascend (λ t. is_some (full_name_at e.now t)) (length e.now.trans)) l.there
    (rw l.signals_are (few_signals e.signals own e.now fit.signals_fit)) (few_trans e.now fit.trans_fit) (few_places e.now fit.places_fit)

-- the full name that is there
abbrev full_name_in_it : FullName → Option FullName → FullName
full_name_in_it d None = d
full_name_in_it d (Some x) = x

-- full names that are equal are those of one transition
pub same_names : (signals : List Signal) (names : List TransName) (i j : ℕ) (d : TransName) → AllPairs (λ (s t : Signal). s.name ≢ t.name) signals → AllPairs (λ (s t : TransName). s ≢ t) names → All (λ (t : TransName). t.signal < length signals) names → i < length names → j < length names → Some (full_name_in signals (get_or names i d)) ≡ Some (full_name_in signals (get_or names j d)) → i ≡ j
same_names signals names i j d apart differ there low high e =
    let x = get_or names i d in
    let y = get_or names j d in
    let f : full_name_in signals x ≡ full_name_in signals y = ap (full_name_in_it (full_name_in signals x)) e in
    let none : Signal = record { name = []; kind = Input } in
    let number : x.signal ≡ y.signal = elim (cases_order x.signal y.signal) [
      | inl same ↦ same
      | inr other ↦ elim other [
        | inl lt ↦ absurd (apart x.signal y.signal none lt (there j d high) (λ k. (f k).signal))
        | inr lt ↦ absurd (apart y.signal x.signal none lt (there i d low) (λ k. (sym f k).signal))
      ]
    ] in
    let one : x ≡ y = λ k. record { signal = number k; edge = (f k).edge; index = (f k).index } in
    elim (cases_order i j) [
      | inl same ↦ same
      | inr other ↦ elim other [
        | inl lt ↦ absurd (differ i j d lt high one)
        | inr lt ↦ absurd (differ j i d lt low (sym one))
      ]
    ]

-- the known signals are listed
pub known_listed : (signals : List Signal) (g : Graph) → numbers_where (λ s. is_among g.known (signal_at signals s).name) (length signals) ≡ known_signals signals g
known_listed signals g = numbers_where-filter (λ s. is_among g.known (signal_at signals s).name) (length signals)

-- the live places are listed
pub places_listed : (g : Graph) → numbers_where (λ p. is_some (place_at g p)) (length g.places) ≡ live_places g
places_listed g = numbers_where-filter (λ p. is_some (place_at g p)) (length g.places)

-- the live transitions are listed
pub trans_listed : (g : Graph) → numbers_where (λ t. is_some (full_name_at g t)) (length g.trans) ≡ live_trans g
trans_listed g = numbers_where-filter (λ t. is_some (full_name_at g t)) (length g.trans)

-- what holds of each element of a list holds of those of an equal one
pub all_of : (P : ℕ → Type 0) (xs ys : List ℕ) → xs ≡ ys → All P ys → All P xs
all_of P xs ys same all = subst (All P) (sym same) all

-- the lists, as the calls give them
pub listed_from : (e : Editing) (own : List ℕ) (n : NetLists) (of_net : List Signal) (kept trans places places_is trans_is : List ℕ) → kept ≡ known_signals e.signals e.now → trans ≡ live_trans e.now → places ≡ live_places e.now → places_is ≡ live_places e.now → trans_is ≡ live_trans e.now → n.signals ≡ map (net_signal e.signals own) kept → of_net ≡ n.signals → map (λ x. Some (full_name_in of_net x)) n.trans ≡ map (full_name_at e.now) trans → All (λ (x : TransName). x.signal < length of_net) n.trans → n.tokens ≡ map (tokens_at e.now) places → n.arcs ≡ all_arcs e.now places_is trans_is → IsListed e own n
listed_from e own n of_net kept trans places places_is trans_is k t p r c signals same names there tokens arcs = record {
  signals_are = signals ∙ ap (map (net_signal e.signals own)) k;
  names_are = (λ i. map (λ x. Some (full_name_in (sym same i) x)) n.trans) ∙ names ∙ ap (map (full_name_at e.now)) t;
  there = subst (λ (xs : List Signal). All (λ (x : TransName). x.signal < length xs) n.trans) same there;
  tokens_are = tokens ∙ ap (map (tokens_at e.now)) p;
  arcs_are = arcs ∙ (λ i. all_arcs e.now (r i) (c i));
}

-- how many arcs the lists have
module _ (g : Graph) where
  between_count : (p t q u : ℕ) → length (numbered_arcs g p t q u) ≡ min 1 (takes g t p) + min 1 (gives g t p)
  between_count p t q u =
      let out : NetArc = record { place = q; trans = u; into = false; weight = takes g t p } in
      let back : NetArc = record { place = q; trans = u; into = true; weight = gives g t p } in
      length-append (weighted_arc out) (weighted_arc back) ∙ (λ i. one out i + one back i)
    where
      one : (a : NetArc) → length (weighted_arc a) ≡ min 1 a.weight
      one a = elim (cases_lt 0 a.weight) [
        | inl some ↦ rw (lt-ltb 0 a.weight some) (let e : 1 ≡ min 1 a.weight = omega arith in e)
        | inr none ↦ rw (le-ltb 0 a.weight none) (let e : 0 ≡ min 1 a.weight = omega arith in e)
      ]

-- a sum over the numbers of a list is one over its elements
sum_at : (h : ℕ → ℕ) (xs : List ℕ) → sum_by (λ k. h (get_or xs k 0)) (range_with_len 0 (length xs)) ≡ sum_by h xs
sum_at h xs =
    let all : xs ≡ map (λ k. get_or xs k 0) (range_with_len 0 (length xs)) = fill_by_all (λ k. get_or xs k 0) xs (length xs) 0 refl (λ k below. refl) in
    sym (ap (sum_by h) all ∙ sum_map h (λ k. get_or xs k 0) (range_with_len 0 (length xs)))
  where
    sum_map : (h f : ℕ → ℕ) (ys : List ℕ) → sum_by h (map f ys) ≡ sum_by (λ k. h (f k)) ys
    sum_map h f [] = refl
    sum_map h f (y ∷ ys) = omega (arith, sum_by-cons h (f y) (map f ys), sum_by-cons (λ k. h (f k)) y ys, sum_map h f ys)

-- the weights that aren't 0 are those of the numbers that pass, where the others are 0
count_live : (f h : ℕ → ℕ) (q : ℕ → Bool) (n : ℕ) → ((t : ℕ) → t < n → q t ≡ false → (f t ≡ 0) × (h t ≡ 0)) → length (weighted n f) + length (weighted n h) ≡ sum_by (λ t. min 1 (f t) + min 1 (h t)) (filter q (range_with_len 0 n))
count_live f h q zero dead = refl
count_live f h q (suc n) dead =
    let one : suc n ≡ n + 1 = omega arith in
    let rest = count_live f h q n (λ t low. dead t (omega arith)) in
    let more = sum_more (λ t. min 1 (f t) + min 1 (h t)) q n in
    let last : cond (q n) (min 1 (f n) + min 1 (h n)) 0 ≡ min 1 (f n) + min 1 (h n) = elim (cases_Bool (q n)) [
      | inl is ↦ rw is refl
      | inr not_is ↦ let d = dead n (omega arith) not_is in rw not_is (let e : 0 ≡ min 1 (f n) + min 1 (h n) = omega (arith, d.0, d.1) in e)
    ] in
    (let a : length (weighted (n + 1) f) + length (weighted (n + 1) h) ≡ sum_by (λ t. min 1 (f t) + min 1 (h t)) (filter q (range_with_len 0 (n + 1))) = omega (arith, weighted_more n f, weighted_more n h, rest, more, last) in
    subst (λ k. length (weighted k f) + length (weighted k h) ≡ sum_by (λ t. min 1 (f t) + min 1 (h t)) (filter q (range_with_len 0 k))) (sym one) a)

-- the listed arcs are as many as those of the draft
pub count_listed : (g : Graph) → IsWeightlessWhereRemoved g → length (all_arcs g (live_places g) (live_trans g)) ≡ count_arcs g
count_listed g weightless =
    let h : ℕ → ℕ → ℕ = λ p t. min 1 (takes g t p) + min 1 (gives g t p) in
    let in_row : (p q : ℕ) → length (place_arcs g (live_trans g) p q) ≡ count_arcs_at g p =
    λ p q.
    length-listed_below (λ u. numbered_arcs g p (slice_index (live_trans g) u) q u) (length (live_trans g))
    ∙ (λ i. sum_by (λ u. between_count g p (slice_index (live_trans g) u) q u i) (range_with_len 0 (length (live_trans g))))
    ∙ sum_at (h p) (live_trans g)
    ∙ sym (count_live (λ t. takes g t p) (λ t. gives g t p) (λ t. is_some (full_name_at g t)) (length g.trans) (λ t low removed. weightless t p low removed)) in
    length-listed_below (λ q. place_arcs g (live_trans g) (slice_index (live_places g) q) q) (length (live_places g))
    ∙ (λ i. sum_by (λ q. in_row (slice_index (live_places g) q) q i) (range_with_len 0 (length (live_places g))))
    ∙ sum_at (count_arcs_at g) (live_places g)

-- the listed net has as many arcs as the draft
pub listed_count : (e : Editing) (own : List ℕ) (n : NetLists) → IsDraft e → IsListed e own n → length n.arcs ≡ count_arcs e.now
listed_count e own n fit l = ap length l.arcs_are ∙ count_listed e.now fit.weightless
