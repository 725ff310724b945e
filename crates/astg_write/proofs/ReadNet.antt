-- The rows of a component, read in order: they break no rule, and what they say is the net.
use Rattle.std.proofs.Common.{◌≡◌, ◌<◌, ◌≤◌, ◌==◌, ◌||◌, nat_le, ℕ, zero, suc, List, [], ◌∷◌, ◌++◌, Bool, true, false, cond, not, length, map, filter, flat_map, get_or, refl, sym, ap, subst, ◌∙◌, arith, inl, inr, All, AllPairs, Some, None, unwrap_or}
use Rattle.std.proofs.lemmas.Bool.{and_parts, not-true, cases_Bool, cases_eq, eqb-true, eqb-false, leb-true, eq-eqb}
use Rattle.std.proofs.lemmas.List.{take_all, map-append}
use Rattle.std.proofs.lemmas.List.Elements.{All-head, All-tail, All-filter, All-get_or, filter_passes, filter-append}
use Rattle.std.proofs.lemmas.List.Concat.{flat_map-append}
use Rattle.std.specs.List.{list_any}
use Rattle.std.specs.List.Sorted.{IsPermutation}
use Rattle.std.specs.Prelude.{codes, slice_index}
use Rattle.stg_net.specs.declared.limits.TheConstants.Limits.{PART}
use Rattle.stg_net.specs.declared.trans.TransName.{TransName}
use Rattle.stg_net.specs.declared.trans.Edge.TheVariants.{Rise}
use Rattle.stg_net.specs.declared.arc.NetArc.{NetArc}
use Rattle.stg_net.specs.Net.{NetLists, IsArcOf}
use Rattle.stg_net.specs.Ordered.{listed_below, first_giver}
use Rattle.astg_read.specs.Rows.{Row}
use Rattle.astg_read.specs.inner.NoDummies.{without_dummies}
use Rattle.astg_read.specs.Nodes.{same_trans, Trans, Place}
use Rattle.astg_read.specs.Graphs.{PlaceAt, same_place, trans_number, place_number, arcs_of, arcs}
use Rattle.astg_read.specs.Said.{Said}
use Rattle.astg_read.specs.Markings.{entry_tokens, is_closing, entries_of, is_unfinished}
use Rattle.astg_read.specs.Rules.{has_too_many, breaks_marking}
use Rattle.astg_read.specs.Reading.{tokens_by}
use Rattle.astg_read.specs.inner.LineResult.{verdict}
use Rattle.astg_read.specs.declared.rule.Rule.TheVariants.{OutOfOrder, BadMarking}
use Rattle.astg_read.proofs.NumberLemmas.{same_trans-refl}
use Rattle.astg_read.proofs.Verdicts.{fault-marking, fault-end, two}
use Rattle.astg_write.specs.PlaceNames.{numbered_name}
use Rattle.astg_write.specs.ComponentText.{comes_from, goes_out_of}
use Rattle.astg_write.proofs.WrittenRows.{entry_words, marking_row, header_rows, graph_rows, model_row, trans_row, place_rows}
use Rattle.astg_write.proofs.TakenRows.{Takes, Takes-append, Takes-one, verdict-good}
use Rattle.astg_write.proofs.TakenGraphRows.{given_weight}
use Rattle.stg_net.proofs.Listed.{get-listed, length-listed, position-listed}
use Rattle.astg_write.proofs.Listed.{any-append_right, any-append_left, any-listed, listed-all, listed-agree}
use Rattle.astg_write.proofs.Appearing.{cut-most, cut-first}
use Rattle.astg_write.proofs.WrittenArcs.{arcs_given, arcs_taken, written-arcs, AllPairs-filter, AllPairs-with}
use Rattle.astg_write.proofs.Readable.{IsReadable, trans_at, trans-apart}
use Rattle.astg_write.proofs.TakenNet.{in_graph_of, text_arc_from, place_node, trans_node, named, trans_to, places_to, given_text_arcs, taken_text_arcs, text_arcs_at, at_trans, at_place, reached, place-apart, place-same, few-places, takes-transitions, takes-places, at-places}
use Rattle.astg_write.proofs.TakenHeader.{heads, takes-model, takes-header, takes-graph}
use Rattle.astg_write.proofs.TakenMarking.{numbers, places_with_tokens, has_tokens, IsGood, marking-good, entry_for, tokens-found}

map-listed : {X Y : Type 0} (f : X → Y) (g : ℕ → X) (m : ℕ) → map f (listed_below (λ k. g k ∷ []) m) ≡ listed_below (λ k. f (g k) ∷ []) m
map-listed f g zero = refl
map-listed f g (suc m) = map-append f (listed_below (λ k. g k ∷ []) m) (g m ∷ []) ∙ ap (λ l. l ++ f (g m) ∷ []) (map-listed f g m)

flat-listed : {X Y : Type 0} (f : X → List Y) (g : ℕ → List X) (m : ℕ) → flat_map f (listed_below g m) ≡ listed_below (λ k. flat_map f (g k)) m
flat-listed f g zero = refl
flat-listed f g (suc m) = flat_map-append f (listed_below g m) (g m) ∙ ap (λ l. l ++ flat_map f (g m)) (flat-listed f g m)

numbers-below : (m : ℕ) → All (λ k. k < m) (numbers m)
numbers-below m k d b = let l : k < m = omega (arith, length-listed (λ i. i) m, b) in omega (arith, get-listed (λ i. i) m k d l, l)

numbers-rise : (m : ℕ) → AllPairs (λ i j. i < j) (numbers m)
numbers-rise m i j d l b = let h : j < m = omega (arith, length-listed (λ i. i) m, b) in
    omega (arith, get-listed (λ i. i) m i d (omega (arith, l, h)), get-listed (λ i. i) m j d h, l)

-- a place with tokens is among those with tokens
places_with_tokens-there : (prefix : List ℕ) (tokens : List ℕ) (m p : ℕ) → p < m → has_tokens prefix tokens p ≡ true → list_any (λ q. q == p) (places_with_tokens prefix tokens m) ≡ true
places_with_tokens-there prefix tokens zero p b h = absurd (omega (arith, b))
places_with_tokens-there prefix tokens (suc m) p b h =
    ap (list_any (λ q. q == p)) (filter-append (has_tokens prefix tokens) (numbers m) (m ∷ []))
    ∙ elim (cases_eq p m) [
      | inl e ↦ any-append_right (λ q. q == p) (places_with_tokens prefix tokens m) (filter (has_tokens prefix tokens) (m ∷ []))
          (ap (λ x. list_any (λ q. q == p) (cond x (m ∷ []) [])) (ap (has_tokens prefix tokens) (sym e) ∙ h) ∙ ap (λ x. x || false) (eq-eqb m p (sym e)))
      | inr d ↦ any-append_left (λ q. q == p) (places_with_tokens prefix tokens m) (filter (has_tokens prefix tokens) (m ∷ [])) (places_with_tokens-there prefix tokens m p (omega (arith, b, d)) h)
    ]

none_or : (b : Bool) (x : ℕ) → x ≡ 0 → cond b x 0 ≡ x
none_or true x e = refl
none_or false x e = sym e

weight-back : (w : ℕ) → 1 ≤ w → unwrap_or (given_weight w) 1 ≡ w
weight-back w h = elim (cases_Bool (nat_le w 1)) [
  | inl k ↦ ap (λ b. unwrap_or (cond b None (Some w)) 1) k ∙ (let e : 1 ≡ w = omega (arith, h, leb-true w 1 k) in e)
  | inr k ↦ ap (λ b. unwrap_or (cond b None (Some w)) 1) k
]

module _ (prefix : List ℕ) (n : NetLists) (r : IsReadable prefix n) where
  abbrev most_places : ℕ
  most_places = length n.tokens

  abbrev all_with_tokens : List ℕ
  all_with_tokens = places_with_tokens prefix n.tokens most_places

  inside : All (λ q. q < most_places) all_with_tokens
  inside = All-filter (has_tokens prefix n.tokens) (λ q. q < most_places) (numbers most_places) (numbers-below most_places)

  good-places_with_tokens : All (IsGood prefix n.tokens 1000000) all_with_tokens
  good-places_with_tokens k d b =
      let q = get_or all_with_tokens k d in
      let h : q < most_places = inside k d b in
      record {
        name = r.formed.places q h;
        short = All-get_or (λ x. x < 1000000000) n.tokens q 0 h r.formed.tokens;
        within = All-get_or (λ x. x ≤ 1000000) n.tokens q 0 h r.within.tokens;
      }

  some-places_with_tokens : All (λ q. 1 ≤ slice_index n.tokens q) all_with_tokens
  some-places_with_tokens k d b =
      let q = get_or all_with_tokens k d in
      let h = eqb-false (slice_index n.tokens q) 0 (not-true (slice_index n.tokens q == 0) (filter_passes (has_tokens prefix n.tokens) (numbers most_places) k d b)) in
      positive (slice_index n.tokens q) h
    where
      positive : (c : ℕ) → (c ≡ 0 → ⊥) → 1 ≤ c
      positive zero h = absurd (h refl)
      positive (suc c) h = omega arith

  reached-all : reached prefix n r most_places ≡ most_places
  reached-all = omega (arith, cut-most (first_giver n) (length n.trans) (length n.tokens))

  there-places_with_tokens : All (λ p. list_any (same_place (named prefix n r p)) (places_to prefix n r (reached prefix n r most_places)) ≡ true) all_with_tokens
  there-places_with_tokens k d b =
      let q = get_or all_with_tokens k d in
      any-listed (same_place (named prefix n r q)) (named prefix n r) (reached prefix n r most_places) q (omega (arith, inside k d b, reached-all)) (place-same prefix n r q (inside k d b))

  apart-places_with_tokens : AllPairs (λ p q. same_place (named prefix n r q) (named prefix n r p) ≡ false) all_with_tokens
  apart-places_with_tokens = AllPairs-with (λ q. q < most_places) (λ p q. p < q) (λ p q. same_place (named prefix n r q) (named prefix n r p) ≡ false)
      (λ p q a b l. place-apart prefix n r q p b a (λ e. absurd (omega (arith, e, l)))) all_with_tokens inside
      (AllPairs-filter (λ p q. p < q) (has_tokens prefix n.tokens) (numbers most_places) (numbers-rise most_places))

  abbrev pub marking_words : Row
  marking_words = codes "{" ∷ (listed_below (entry_words prefix n.tokens) most_places ++ codes "}" ∷ [])

  marking-facts : (entries_of marking_words ≡ map (entry_for prefix n.tokens) all_with_tokens) × (breaks_marking 1000000 (at_place prefix n r most_places) (codes ".marking" ∷ marking_words) ≡ false)
  marking-facts = marking-good prefix n.tokens 1000000 (without_dummies n.signals) (places_to prefix n r (reached prefix n r most_places)) most_places good-places_with_tokens some-places_with_tokens there-places_with_tokens apart-places_with_tokens

  -- what the lines before the last say
  abbrev pub at_end : Said
  at_end = record {
    has_graph = true;
    declared = without_dummies n.signals;
    trans = trans_to prefix n r (length n.trans);
    places = places_to prefix n r (reached prefix n r most_places);
    text_arcs = text_arcs_at prefix n r most_places;
    marking = Some marking_words;
  }

  few : has_too_many PART at_end ≡ false
  few = few-places prefix n r most_places (omega arith)

  takes-marking : Takes PART (at_place prefix n r most_places) (marking_row prefix n.tokens ∷ []) at_end
  takes-marking = Takes-one PART (at_place prefix n r most_places) at_end (marking_row prefix n.tokens)
      (record {
        good = verdict-good PART (at_place prefix n r most_places) (marking_row prefix n.tokens) refl
            (fault-marking 1000000 (at_place prefix n r most_places) marking_words ∙ ap (λ b. two false OutOfOrder b BadMarking) marking-facts.1) few refl;
        goes_on = refl;
      }) refl

  pub finished : is_unfinished at_end.marking ≡ false
  finished = ap not (any-append_right is_closing (codes "{" ∷ listed_below (entry_words prefix n.tokens) most_places) (codes "}" ∷ []) refl)

  -- the last row breaks no rule
  pub ends-good : verdict PART at_end (codes ".end" ∷ []) ≡ None
  ends-good = verdict-good PART at_end (codes ".end" ∷ []) finished (fault-end 1000000 at_end []) few refl

  graph-start : in_graph_of n.signals [] [] [] ≡ at_trans prefix n r 0
  graph-start = (λ j. in_graph_of n.signals [] (places_to prefix n r (sym (cut-first (first_giver n) (length n.tokens)) j)) [])

  -- the rows but the last
  pub takes-rows : (part : ℕ) → Takes PART (heads []) (model_row part ∷ (header_rows n.signals ++ graph_rows prefix n ++ marking_row prefix n.tokens ∷ [])) at_end
  takes-rows part =
      let trans_all = listed_below (λ t. trans_row prefix n t ∷ []) (length n.trans) in
      let places_all = listed_below (place_rows prefix n) (length n.tokens) in
      let start : Takes PART (heads n.signals) ((codes ".graph" ∷ []) ∷ []) (at_trans prefix n r 0) = subst (Takes PART (heads n.signals) ((codes ".graph" ∷ []) ∷ [])) graph-start (takes-graph prefix n r) in
      let transitions : Takes PART (at_trans prefix n r 0) trans_all (at_place prefix n r 0) = subst (Takes PART (at_trans prefix n r 0) trans_all) (at-places prefix n r) (takes-transitions prefix n r (length n.trans) (omega arith)) in
      let graph : Takes PART (heads n.signals) (graph_rows prefix n) (at_place prefix n r most_places) =
      Takes-append PART (heads n.signals) (at_place prefix n r 0) (at_place prefix n r most_places) ((codes ".graph" ∷ []) ∷ [] ++ trans_all) places_all
      (Takes-append PART (heads n.signals) (at_trans prefix n r 0) (at_place prefix n r 0) ((codes ".graph" ∷ []) ∷ []) trans_all start transitions)
      (takes-places prefix n r most_places (omega arith)) in
      let all : Takes PART (heads []) (header_rows n.signals ++ graph_rows prefix n ++ marking_row prefix n.tokens ∷ []) at_end =
      Takes-append PART (heads []) (at_place prefix n r most_places) at_end (header_rows n.signals ++ graph_rows prefix n) (marking_row prefix n.tokens ∷ [])
      (Takes-append PART (heads []) (heads n.signals) (at_place prefix n r most_places) (header_rows n.signals) (graph_rows prefix n) (takes-header prefix n r) graph)
      takes-marking in
      Takes-append PART (heads []) (heads []) at_end (model_row part ∷ []) (header_rows n.signals ++ graph_rows prefix n ++ marking_row prefix n.tokens ∷ []) (takes-model part) all

  -- the transitions are the net's
  pub same-trans : trans_to prefix n r (length n.trans) ≡ n.trans
  same-trans = listed-all n.trans (record { signal = 0; edge = Rise; index = 0 }) (length n.trans) (omega arith) ∙ take_all (length n.trans) n.trans (omega arith)

  tokens-at : (p : ℕ) → p < most_places → tokens_by (without_dummies n.signals) (Some marking_words) (named prefix n r p) ≡ get_or n.tokens p 0
  tokens-at p b =
      ap (λ es. entry_tokens (without_dummies n.signals) es (named prefix n r p)) marking-facts.0
      ∙ tokens-found prefix n.tokens 1000000 (without_dummies n.signals) p all_with_tokens good-places_with_tokens some-places_with_tokens
      (λ k d c e. place-apart prefix n r p (get_or all_with_tokens k d) b (inside k d c) (λ s. e (sym s)))
      (place-same prefix n r p b)
      ∙ by_case
    where
      by_case : cond (list_any (λ q. q == p) all_with_tokens) (slice_index n.tokens p) 0 ≡ get_or n.tokens p 0
      by_case = elim (cases_Bool (slice_index n.tokens p == 0)) [
        | inl z ↦ (let e : slice_index n.tokens p ≡ 0 = eqb-true (slice_index n.tokens p) 0 z in
            none_or (list_any (λ q. q == p) all_with_tokens) (slice_index n.tokens p) e)
        | inr s ↦ ap (λ b. cond b (slice_index n.tokens p) 0) (places_with_tokens-there prefix n.tokens most_places p b (ap not s))
      ]

  -- the tokens are the net's
  pub same-tokens : map (tokens_by (without_dummies n.signals) (Some marking_words)) (places_to prefix n r (reached prefix n r most_places)) ≡ n.tokens
  same-tokens =
      let f = tokens_by (without_dummies n.signals) (Some marking_words) in
      ap (λ m. map f (places_to prefix n r m)) reached-all
      ∙ map-listed f (named prefix n r) most_places
      ∙ listed-agree (λ q. f (named prefix n r q) ∷ []) (λ q. get_or n.tokens q 0 ∷ []) most_places (λ q b. ap (λ x. x ∷ []) (tokens-at q b))
      ∙ listed-all n.tokens 0 most_places (omega arith) ∙ take_all most_places n.tokens (omega arith)

  abbrev all_trans : List TransName
  all_trans = trans_to prefix n r (length n.trans)

  abbrev all_places : List PlaceAt
  all_places = places_to prefix n r (reached prefix n r most_places)

  place-number : (p : ℕ) → p < most_places → place_number all_places (named prefix n r p) ≡ p
  place-number p b = ap (λ o. unwrap_or o 0)
      (position-listed (named prefix n r) (same_place (named prefix n r p)) (reached prefix n r most_places) p (omega (arith, b, reached-all)) (place-same prefix n r p b)
      (λ j l. place-apart prefix n r p j b (omega (arith, l, b)) (λ e. absurd (omega (arith, e, l)))))

  trans-number : (t : ℕ) → t < length n.trans → trans_number all_trans (trans_at n t) ≡ t
  trans-number t b = ap (λ o. unwrap_or o 0)
      (position-listed (trans_at n) (same_trans (trans_at n t)) (length n.trans) t b (same_trans-refl (trans_at n t))
      (λ j l. trans-apart prefix n r t j b (omega (arith, l, b)) (λ e. absurd (omega (arith, e, l)))))

  abbrev IsGiven : ℕ → NetArc → Type 0
  IsGiven t a = (a.place < most_places) × (a.trans < length n.trans) × (1 ≤ a.weight) × (comes_from t a ≡ true)

  abbrev IsTakenFrom : ℕ → NetArc → Type 0
  IsTakenFrom p a = (a.place < most_places) × (a.trans < length n.trans) × (1 ≤ a.weight) × (goes_out_of p a ≡ true)

  given-back : (t : ℕ) (xs : List NetArc) → All (IsGiven t) xs → flat_map (arcs_of all_trans all_places) (map (text_arc_from (Trans (trans_at n t)) (place_node prefix n r)) xs) ≡ xs
  given-back t [] h = refl
  given-back t (a ∷ xs) h =
      let g = All-head (IsGiven t) a xs h in
      let c = and_parts a.into (a.trans == t) g.3 in
      let e = eqb-true a.trans t c.1 in
      let number : trans_number all_trans (trans_at n t) ≡ a.trans = trans-number t (omega (arith, e, g.1)) ∙ sym e in
      (λ j. record { place = place-number a.place g.0 j; trans = number j; into = sym c.0 j; weight = weight-back a.weight g.2 j } ∷ given-back t xs (All-tail (IsGiven t) a xs h) j)

  taken-back : (p : ℕ) (xs : List NetArc) → All (IsTakenFrom p) xs → flat_map (arcs_of all_trans all_places) (map (text_arc_from (Place (numbered_name prefix p)) (trans_node prefix n r)) xs) ≡ xs
  taken-back p [] h = refl
  taken-back p (a ∷ xs) h =
      let g = All-head (IsTakenFrom p) a xs h in
      let c = and_parts (not a.into) (a.place == p) g.3 in
      let e = eqb-true a.place p c.1 in
      let number : place_number all_places (named prefix n r p) ≡ a.place = place-number p (omega (arith, e, g.0)) ∙ sym e in
      (λ j. record { place = number j; trans = trans-number a.trans g.1 j; into = sym (not-true a.into c.0) j; weight = weight-back a.weight g.2 j } ∷ taken-back p xs (All-tail (IsTakenFrom p) a xs h) j)

  all-given : (t : ℕ) → All (IsGiven t) (arcs_given n.arcs t)
  all-given t k d b =
      let h = All-filter (comes_from t) (λ (a : NetArc). IsArcOf most_places (length n.trans) a) n.arcs r.is_net.arcs k d b in
      (h.place_there, h.trans_there, h.positive, filter_passes (comes_from t) n.arcs k d b)

  all-taken : (p : ℕ) → All (IsTakenFrom p) (arcs_taken n.arcs p)
  all-taken p k d b =
      let h = All-filter (goes_out_of p) (λ (a : NetArc). IsArcOf most_places (length n.trans) a) n.arcs r.is_net.arcs k d b in
      (h.place_there, h.trans_there, h.positive, filter_passes (goes_out_of p) n.arcs k d b)

  -- the arcs are the net's, in the order of the text
  pub same-arcs : arcs all_trans all_places (text_arcs_at prefix n r most_places) ≡ listed_below (arcs_given n.arcs) (length n.trans) ++ listed_below (arcs_taken n.arcs) most_places
  same-arcs =
      let f = arcs_of all_trans all_places in
      flat_map-append f (listed_below (given_text_arcs prefix n r) (length n.trans)) (listed_below (taken_text_arcs prefix n r) most_places)
      ∙ (λ j. flat-listed f (given_text_arcs prefix n r) (length n.trans) j ++ flat-listed f (taken_text_arcs prefix n r) most_places j)
      ∙ (λ j. listed-agree (λ t. flat_map f (given_text_arcs prefix n r t)) (arcs_given n.arcs) (length n.trans) (λ t b. given-back t (arcs_given n.arcs t) (all-given t)) j
      ++ listed-agree (λ p. flat_map f (taken_text_arcs prefix n r p)) (arcs_taken n.arcs) most_places (λ p b. taken-back p (arcs_taken n.arcs p) (all-taken p)) j)

  pub moved-arcs : IsPermutation n.arcs (arcs all_trans all_places (text_arcs_at prefix n r most_places))
  moved-arcs = subst (IsPermutation n.arcs) (sym same-arcs) (written-arcs (length n.trans) most_places n.arcs r.is_net.arcs)
