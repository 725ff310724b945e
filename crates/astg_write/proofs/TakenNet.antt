-- The rows of transitions and places break no rule, and say the net's transitions, places and arcs.
use Rattle.std.proofs.Common.{◌≡◌, ◌≢◌, ◌<◌, ◌≤◌, ◌==◌, ◌&&◌, ◌||◌, nat_lt, max, ℕ, zero, suc, List, [], ◌∷◌, ◌++◌, Bool, true, false, cond, not, length, map, filter, flat_map, get_or, refl, sym, ap, subst, ◌∙◌, arith, inl, inr, All, None, append_assoc, append-nil, length-append, unwrap_or}
use Rattle.std.proofs.lemmas.Bool.{and_parts, and_left, and_right, not-true, or_parts, or_cases, or_left, or_right, or_from, cases_Bool, cases_lt, true≢false, false≢true, eqb-true, le-ltb}
use Rattle.std.proofs.lemmas.List.Elements.{All-append, All-head, All-tail, All-filter, All-map, filter_passes}
use Rattle.std.proofs.lemmas.Slice.Eq.{bytes_eq-Decides}
use Rattle.std.proofs.lemmas.List.Folds.{list_any_none}
use Rattle.std.specs.List.{list_any}
use Rattle.std.specs.Str.{bytes_eq}
use Rattle.stg_net.specs.declared.limits.TheConstants.Limits.{PART}
use Rattle.stg_net.specs.declared.signal.Signal.{Signal}
use Rattle.stg_net.specs.declared.trans.TransName.{TransName}
use Rattle.stg_net.specs.declared.arc.NetArc.{NetArc}
use Rattle.stg_net.specs.Net.{NetLists, IsArcOf}
use Rattle.stg_net.specs.Words.{trans_word}
use Rattle.stg_net.specs.Ordered.{listed_below, first_giver}
use Rattle.stg_net.proofs.Buckets.{All-listed_below}
use Rattle.astg_read.specs.Lists.{has_repeat, with_new, firsts}
use Rattle.astg_read.specs.Rows.{Word}
use Rattle.astg_read.specs.inner.NoDummies.{without_dummies}
use Rattle.astg_read.specs.Nodes.{Node, Trans, Place, same_trans, same_node, is_place_node}
use Rattle.astg_read.specs.Graphs.{TextArc, PlaceAt, Named, same_text_arc, same_place, node_trans as trans_of_node, node_place, place_between, node_arcs, arcs_of, arcs}
use Rattle.astg_read.specs.Said.{Said, arcs_in}
use Rattle.astg_read.specs.Rules.{has_too_many}
use Rattle.astg_read.proofs.NumberLemmas.{same_trans-refl}
use Rattle.astg_write.specs.PlaceNames.{numbered_name}
use Rattle.astg_write.specs.ComponentText.{comes_from, goes_into, goes_out_of, is_only_given}
use Rattle.astg_write.proofs.WrittenRows.{trans_row, place_row, place_rows}
use Rattle.astg_write.proofs.TakenRows.{Takes, Takes-append, Takes-one}
use Rattle.astg_write.proofs.TakenGraphRows.{given_weight, IsAimOf, with_text_arcs_of, after-graph_row, graph_row-taken}
use Rattle.stg_net.proofs.Listed.{length-listed}
use Rattle.astg_write.proofs.Listed.{any-append_none, any-listed, any-listed_none, length-listed-le, length-listed-map, again-none}
use Rattle.astg_write.proofs.Appearing.{cut, cut-most, cut-below, cut-above, cut-rises, firsts-rising, with_new-old, with_new-new, giver-there, giver-least, giver-none}
use Rattle.astg_write.proofs.WrittenArcs.{arcs_given, arcs_taken, written-length, AllPairs-mapped, AllPairs-with}
use Rattle.astg_write.proofs.Readable.{IsReadable, trans_at, place-word, trans-word, trans-apart, given-rise, taken-rise}

-- what the lines say within the graph
abbrev pub in_graph_of : List Signal → List TransName → List PlaceAt → List TextArc → Said
in_graph_of ss ts ps qs = record { has_graph = true; declared = without_dummies ss; trans = ts; places = ps; text_arcs = qs; marking = None }

-- the text arc of an arc from a source to a node
abbrev pub text_arc_from : Node → (NetArc → Node) → NetArc → TextArc
text_arc_from m node a = record { source = m; target = node a; weight = given_weight a.weight }

-- the text arc has a place at an end
abbrev pub HasPlace : TextArc → Type 0
HasPlace q = (is_place_node q.source || is_place_node q.target) ≡ true

one-arc : (ts : List TransName) (ps : List PlaceAt) (w : ℕ) (m o : Node) → (is_place_node m || is_place_node o) ≡ true → length (node_arcs ts ps w m o) ≤ 1
one-arc ts ps w (Trans t) (Place p) h = omega arith
one-arc ts ps w (Place p) (Trans t) h = omega arith
one-arc ts ps w (Trans t) (Trans u) h = absurd (false≢true h)
one-arc ts ps w (Place p) (Place q) h = omega arith

pub arcs-few : (ts : List TransName) (ps : List PlaceAt) (qs : List TextArc) → All HasPlace qs → length (arcs ts ps qs) ≤ length qs
arcs-few ts ps [] h = omega arith
arcs-few ts ps (q ∷ qs) h =
    let a = length-append (arcs_of ts ps q) (arcs ts ps qs) in
    let b = arcs-few ts ps qs (All-tail HasPlace q qs h) in
    let c : length (arcs_of ts ps q) ≤ 1 = one-arc ts ps (unwrap_or q.weight 1) q.source q.target (All-head HasPlace q qs h) in
    omega (arith, a, b, c)

-- within the limits
pub few-enough : (k : Said) → length k.declared.signals ≤ 250 → length k.trans ≤ 1000 → length k.places ≤ 4064 → length (arcs_in k) ≤ 100000 → has_too_many PART k ≡ false
few-enough k a b c d =
    or_from (nat_lt 250 (length k.declared.signals) || nat_lt 1000 (length k.trans) || nat_lt 4064 (length k.places)) (nat_lt 100000 (length (arcs_in k)))
    (or_from (nat_lt 250 (length k.declared.signals) || nat_lt 1000 (length k.trans)) (nat_lt 4064 (length k.places))
    (or_from (nat_lt 250 (length k.declared.signals)) (nat_lt 1000 (length k.trans)) (le-ltb 250 (length k.declared.signals) a) (le-ltb 1000 (length k.trans) b))
    (le-ltb 4064 (length k.places) c))
    (le-ltb 100000 (length (arcs_in k)) d)

-- ones that are there change nothing
pub firsts-there : {X : Type 0} (same : X → X → Bool) (seen xs : List X) → All (λ x. list_any (same x) seen ≡ true) xs → firsts same seen xs ≡ seen
firsts-there same seen [] h = refl
firsts-there {X} same seen (x ∷ xs) h =
    let P : X → Type 0 = λ y. list_any (same y) seen ≡ true in
    ap (λ s. firsts same s xs) (ap (λ b. cond b seen (seen ++ x ∷ [])) (All-head P x xs h)) ∙ firsts-there same seen xs (All-tail P x xs h)

pub filter-none : {X : Type 0} (f : X → Bool) (xs : List X) → list_any f xs ≡ false → filter f xs ≡ []
filter-none f [] h = refl
filter-none f (x ∷ xs) h = let p = or_parts (f x) (list_any f xs) h in ap (λ b. cond b (x ∷ filter f xs) (filter f xs)) p.0 ∙ filter-none f xs p.1

-- what targets that are places say
trans-of_places : (m : Node) (name : NetArc → Word) (xs : List NetArc) → flat_map (λ (p : TextArc). trans_of_node p.target) (map (text_arc_from m (λ a. Place (name a))) xs) ≡ []
trans-of_places m name [] = refl
trans-of_places m name (a ∷ xs) = trans-of_places m name xs

places-of_places : (t : TransName) (name : NetArc → Word) (xs : List NetArc) → flat_map (λ (p : TextArc). node_place p.target ++ place_between p.source p.target) (map (text_arc_from (Trans t) (λ a. Place (name a))) xs) ≡ map (λ a. Named (name a)) xs
places-of_places t name [] = refl
places-of_places t name (a ∷ xs) = ap (λ l. Named (name a) ∷ l) (places-of_places t name xs)

any-given : (t p : ℕ) (xs : List NetArc) → list_any (λ (a : NetArc). (a.into && (a.trans == t)) && (a.place == p)) xs ≡ true → list_any (λ q. q == p) (map (λ (a : NetArc). a.place) (arcs_given xs t)) ≡ true
any-given t p [] h = h
any-given t p (a ∷ xs) h = by_case (comes_from t a) (any-given t p xs) h
  where
    by_case : (b : Bool) → (list_any (λ (a : NetArc). (a.into && (a.trans == t)) && (a.place == p)) xs ≡ true → list_any (λ q. q == p) (map (λ (a : NetArc). a.place) (arcs_given xs t)) ≡ true)
        → (b && (a.place == p) || list_any (λ (a : NetArc). (a.into && (a.trans == t)) && (a.place == p)) xs) ≡ true → list_any (λ q. q == p) (map (λ (a : NetArc). a.place) (cond b (a ∷ arcs_given xs t) (arcs_given xs t))) ≡ true
    by_case true more k = elim (or_cases (a.place == p) (list_any (λ (a : NetArc). (a.into && (a.trans == t)) && (a.place == p)) xs) k) [
      | inl e ↦ or_left (a.place == p) (list_any (λ q. q == p) (map (λ (a : NetArc). a.place) (arcs_given xs t))) e
      | inr e ↦ or_right (a.place == p) (list_any (λ q. q == p) (map (λ (a : NetArc). a.place) (arcs_given xs t))) (more e)
    ]
    by_case false more k = more k

-- what targets that are transitions say
trans-of_trans : (m : Node) (trans : NetArc → TransName) (xs : List NetArc) → flat_map (λ (p : TextArc). trans_of_node p.target) (map (text_arc_from m (λ a. Trans (trans a))) xs) ≡ map trans xs
trans-of_trans m trans [] = refl
trans-of_trans m trans (a ∷ xs) = ap (λ l. trans a ∷ l) (trans-of_trans m trans xs)

places-of_trans : (w : Word) (trans : NetArc → TransName) (xs : List NetArc) → flat_map (λ (p : TextArc). node_place p.target ++ place_between p.source p.target) (map (text_arc_from (Place w) (λ a. Trans (trans a))) xs) ≡ []
places-of_trans w trans [] = refl
places-of_trans w trans (a ∷ xs) = places-of_trans w trans xs

module _ (prefix : List ℕ) (n : NetLists) (r : IsReadable prefix n) where
  abbrev pub place_node : NetArc → Node
  place_node a = Place (numbered_name prefix a.place)

  abbrev pub trans_node : NetArc → Node
  trans_node a = Trans (trans_at n a.trans)

  abbrev pub named : ℕ → PlaceAt
  named p = Named (numbered_name prefix p)

  abbrev pub trans_to : ℕ → List TransName
  trans_to t = listed_below (λ u. trans_at n u ∷ []) t

  abbrev pub places_to : ℕ → List PlaceAt
  places_to p = listed_below (λ q. named q ∷ []) p

  abbrev pub given_text_arcs : ℕ → List TextArc
  given_text_arcs t = map (text_arc_from (Trans (trans_at n t)) place_node) (arcs_given n.arcs t)

  abbrev pub taken_text_arcs : ℕ → List TextArc
  taken_text_arcs p = map (text_arc_from (Place (numbered_name prefix p)) trans_node) (arcs_taken n.arcs p)

  -- how many places have appeared before the row of transition t
  abbrev pub given_before : ℕ → ℕ
  given_before t = cut (first_giver n) t (length n.tokens)

  abbrev pub at_trans : ℕ → Said
  at_trans t = in_graph_of n.signals (trans_to t) (places_to (given_before t)) (listed_below given_text_arcs t)

  named-twice : (xs : List NetArc) → map (λ a. Named (numbered_name prefix a.place)) xs ≡ map named (map (λ (a : NetArc). a.place) xs)
  named-twice [] = refl
  named-twice (a ∷ xs) = ap (λ l. named a.place ∷ l) (named-twice xs)

  pub place-same : (i : ℕ) → i < length n.tokens → same_place (named i) (named i) ≡ true
  place-same i b = (bytes_eq-Decides (numbered_name prefix i) (numbered_name prefix i)).1 refl

  pub place-apart : (i j : ℕ) → i < length n.tokens → j < length n.tokens → i ≢ j → same_place (named i) (named j) ≡ false
  place-apart i j a b d = r.places_apart i j a b d

  there : All (IsArcOf (length n.tokens) (length n.trans)) n.arcs
  there = r.is_net.arcs

  -- the arcs of the rows of transitions up to t
  given-most : (t : ℕ) → t ≤ length n.trans → length (listed_below given_text_arcs t) ≤ 100000
  given-most t b =
      let e = length-listed-map (λ u. text_arc_from (Trans (trans_at n u)) place_node) (arcs_given n.arcs) t in
      let f = length-listed-le (arcs_given n.arcs) t (length n.trans) b in
      let g = written-length (length n.trans) (length n.tokens) n.arcs there in
      omega (arith, e, f, g, r.within.arcs)

  given-places : (t : ℕ) → All HasPlace (listed_below given_text_arcs t)
  given-places t = All-listed_below HasPlace given_text_arcs t (λ u b. All-map HasPlace (text_arc_from (Trans (trans_at n u)) place_node) (arcs_given n.arcs u) (λ k d c. refl))

  module _ (t : ℕ) (below : t < length n.trans) where
    m : Node
    m = Trans (trans_at n t)

    comes : (a : NetArc) → comes_from t a ≡ true → (a.into ≡ true) × (a.trans ≡ t)
    comes a h = let p = and_parts a.into (a.trans == t) h in (p.0, eqb-true a.trans t p.1)

    good-arcs : All (IsAimOf PART (without_dummies n.signals) (Trans (trans_at n t)) (λ a. numbered_name prefix a.place) place_node) (arcs_given n.arcs t)
    good-arcs = All-filter (comes_from t) (IsAimOf PART (without_dummies n.signals) (Trans (trans_at n t)) (λ a. numbered_name prefix a.place) place_node) n.arcs
        (λ k d b. let a = get_or n.arcs k d in let h = there k d b in record {
          stands = place-word prefix n r a.place h.place_there;
          meets = refl;
          joins = refl;
          least = h.positive;
          most = r.within.weights k d b;
        })

    -- the text arcs of the row are new
    new-text_arcs : has_repeat same_text_arc (listed_below given_text_arcs t) (given_text_arcs t) ≡ false
    new-text_arcs = again-none same_text_arc (listed_below given_text_arcs t) (given_text_arcs t)
        (All-map (λ x. list_any (same_text_arc x) (listed_below given_text_arcs t) ≡ false) (text_arc_from (Trans (trans_at n t)) place_node) (arcs_given n.arcs t)
        (λ k d b. let x = text_arc_from (Trans (trans_at n t)) place_node (get_or (arcs_given n.arcs t) k d) in
        list_any_none (same_text_arc x) (listed_below given_text_arcs t)
        (All-listed_below (λ y. same_text_arc x y ≡ false) given_text_arcs t (λ u c.
        All-map (λ y. same_text_arc x y ≡ false) (text_arc_from (Trans (trans_at n u)) place_node) (arcs_given n.arcs u)
        (λ i e f. and_left (same_trans (trans_at n t) (trans_at n u)) (same_node x.target (place_node (get_or (arcs_given n.arcs u) i e)))
        (trans-apart prefix n r t u below (omega (arith, c, below)) (λ s. absurd (omega (arith, s, c)))))))))
        (AllPairs-mapped (λ (a b : NetArc). bytes_eq (numbered_name prefix b.place) (numbered_name prefix a.place) ≡ false) (λ x y. same_text_arc y x ≡ false) (text_arc_from (Trans (trans_at n t)) place_node)
        (λ a b h. and_right (same_trans (trans_at n t) (trans_at n t)) (bytes_eq (numbered_name prefix b.place) (numbered_name prefix a.place)) h)
        (arcs_given n.arcs t)
        (AllPairs-with (λ (a : NetArc). a.place < length n.tokens) (λ (a b : NetArc). a.place < b.place) (λ (a b : NetArc). bytes_eq (numbered_name prefix b.place) (numbered_name prefix a.place) ≡ false)
        (λ a b h k l. r.places_apart b.place a.place k h (λ s. absurd (omega (arith, s, l))))
        (arcs_given n.arcs t)
        (All-filter (comes_from t) (λ (a : NetArc). a.place < length n.tokens) n.arcs (λ k d b. (there k d b).place_there))
        (given-rise prefix n r t)))

    -- its transition is new
    new-trans : firsts same_trans (trans_to t) ((trans_at n t ∷ [] ++ []) ++ flat_map (λ (p : TextArc). trans_of_node p.target) (given_text_arcs t)) ≡ trans_to (suc t)
    new-trans =
        ap (λ l. firsts same_trans (trans_to t) (trans_at n t ∷ l)) (trans-of_places (Trans (trans_at n t)) (λ a. numbered_name prefix a.place) (arcs_given n.arcs t))
        ∙ ap (λ b. cond b (trans_to t) (trans_to t ++ trans_at n t ∷ []))
        (any-listed_none (same_trans (trans_at n t)) (trans_at n) t (λ u c. trans-apart prefix n r t u below (omega (arith, c, below)) (λ s. absurd (omega (arith, s, c)))))

    -- its places appear in order
    new-places : firsts same_place (places_to (given_before t)) (flat_map (λ (p : TextArc). node_place p.target ++ place_between p.source p.target) (given_text_arcs t)) ≡ places_to (given_before (suc t))
    new-places =
        ap (firsts same_place (places_to (given_before t))) (places-of_places (trans_at n t) (λ a. numbered_name prefix a.place) (arcs_given n.arcs t) ∙ named-twice (arcs_given n.arcs t))
        ∙ firsts-rising same_place named (length n.tokens) place-same place-apart (given_before t) (given_before (suc t)) (map (λ (a : NetArc). a.place) (arcs_given n.arcs t))
        (cut-rises (first_giver n) t (suc t) (length n.tokens) (omega arith)) (cut-most (first_giver n) (suc t) (length n.tokens))
        (AllPairs-mapped (λ (a b : NetArc). a.place < b.place) (λ a b. a < b) (λ (a : NetArc). a.place) (λ a b h. h) (arcs_given n.arcs t) (given-rise prefix n r t))
        (All-map (λ q. q < given_before (suc t)) (λ (a : NetArc). a.place) (arcs_given n.arcs t) low)
        appear
      where
        low : All (λ (a : NetArc). a.place < given_before (suc t)) (arcs_given n.arcs t)
        low k d b =
            let Q : NetArc → Type 0 = λ x. (x.place < length n.tokens) × (x.into ≡ true → first_giver n x.place ≤ x.trans) in
            let a = get_or (arcs_given n.arcs t) k d in
            let q = All-filter (comes_from t) Q n.arcs (λ i e c. ((there i e c).place_there, λ h. giver-least (length n.trans) (get_or n.arcs i e).place n.arcs i e c h refl)) k d b in
            let h = comes a (filter_passes (comes_from t) n.arcs k d b) in
            cut-below (first_giver n) (suc t) (length n.tokens) a.place q.0 (omega (arith, q.1 h.0, h.1))

        appear : (p : ℕ) → given_before t ≤ p → p < given_before (suc t) → list_any (λ q. q == p) (map (λ (a : NetArc). a.place) (arcs_given n.arcs t)) ≡ true
        appear p a b =
            let inside : p < length n.tokens = omega (arith, b, cut-most (first_giver n) (suc t) (length n.tokens)) in
            let most = cut-above (first_giver n) (suc t) (length n.tokens) p r.rising b in
            let least : t ≤ first_giver n p = elim (cases_lt (first_giver n p) t) [
              | inl k ↦ absurd (omega (arith, cut-below (first_giver n) t (length n.tokens) p inside k, a))
              | inr k ↦ k
            ] in
            any-given t p n.arcs (giver-there (length n.trans) p t n.arcs below (omega (arith, most, least)))

    at-next : with_text_arcs_of (at_trans t) (Trans (trans_at n t)) (given_text_arcs t) ≡ at_trans (suc t)
    at-next = (λ j. in_graph_of n.signals (new-trans j) (new-places j) (listed_below given_text_arcs (suc t)))

    few : has_too_many PART (at_trans (suc t)) ≡ false
    few = few-enough (at_trans (suc t)) r.within.signals
        (omega (arith, length-listed (trans_at n) (suc t), r.within.trans, below))
        (omega (arith, length-listed named (given_before (suc t)), cut-most (first_giver n) (suc t) (length n.tokens), r.within.places))
        (omega (arith, arcs-few (trans_to (suc t)) (places_to (given_before (suc t))) (listed_below given_text_arcs (suc t)) (given-places (suc t)), given-most (suc t) (omega (arith, below))))

    takes-trans : Takes PART (at_trans t) (trans_row prefix n t ∷ []) (at_trans (suc t))
    takes-trans = Takes-one PART (at_trans t) (at_trans (suc t)) (trans_row prefix n t)
        (graph_row-taken PART (omega arith) (without_dummies n.signals) (Trans (trans_at n t)) (λ a. numbered_name prefix a.place) place_node (at_trans t) refl refl refl
        (trans_word n.signals n.trans t) (trans-word prefix n r t below) (arcs_given n.arcs t) good-arcs new-text_arcs (ap (has_too_many PART) at-next ∙ few))
        (after-graph_row PART (omega arith) (without_dummies n.signals) (Trans (trans_at n t)) (λ a. numbered_name prefix a.place) place_node (at_trans t) refl refl refl
        (trans_word n.signals n.trans t) (trans-word prefix n r t below) (arcs_given n.arcs t) good-arcs ∙ at-next)

  -- the rows of the transitions
  pub takes-transitions : (t : ℕ) → t ≤ length n.trans → Takes PART (at_trans 0) (listed_below (λ u. trans_row prefix n u ∷ []) t) (at_trans t)
  takes-transitions zero h = refl
  takes-transitions (suc t) h = Takes-append PART (at_trans 0) (at_trans t) (at_trans (suc t)) (listed_below (λ u. trans_row prefix n u ∷ []) t) (trans_row prefix n t ∷ [])
      (takes-transitions t (omega (arith, h))) (takes-trans t (omega (arith, h)))

  -- before the row of a place
  abbrev pub reached : ℕ → ℕ
  reached p = max (given_before (length n.trans)) p

  abbrev pub text_arcs_at : ℕ → List TextArc
  text_arcs_at p = listed_below given_text_arcs (length n.trans) ++ listed_below taken_text_arcs p

  abbrev pub at_place : ℕ → Said
  at_place p = in_graph_of n.signals (trans_to (length n.trans)) (places_to (reached p)) (text_arcs_at p)

  text_arcs-places : (p : ℕ) → All HasPlace (text_arcs_at p)
  text_arcs-places p = All-append HasPlace (listed_below given_text_arcs (length n.trans)) (listed_below taken_text_arcs p) (given-places (length n.trans))
      (All-listed_below HasPlace taken_text_arcs p (λ q b. All-map HasPlace (text_arc_from (Place (numbered_name prefix q)) trans_node) (arcs_taken n.arcs q) (λ k d c. refl)))

  text_arcs-most : (p : ℕ) → p ≤ length n.tokens → length (text_arcs_at p) ≤ 100000
  text_arcs-most p b =
      let a = length-append (listed_below given_text_arcs (length n.trans)) (listed_below taken_text_arcs p) in
      let e = length-listed-map (λ u. text_arc_from (Trans (trans_at n u)) place_node) (arcs_given n.arcs) (length n.trans) in
      let f = length-listed-map (λ q. text_arc_from (Place (numbered_name prefix q)) trans_node) (arcs_taken n.arcs) p in
      let h = length-listed-le (arcs_taken n.arcs) p (length n.tokens) b in
      let g = written-length (length n.trans) (length n.tokens) n.arcs there in
      omega (arith, a, e, f, g, h, r.within.arcs)

  pub few-places : (p : ℕ) → p ≤ length n.tokens → has_too_many PART (at_place p) ≡ false
  few-places p b = few-enough (at_place p) r.within.signals
      (omega (arith, length-listed (trans_at n) (length n.trans), r.within.trans))
      (omega (arith, length-listed named (reached p), cut-most (first_giver n) (length n.trans) (length n.tokens), r.within.places, b))
      (omega (arith, arcs-few (trans_to (length n.trans)) (places_to (reached p)) (text_arcs_at p) (text_arcs-places p), text_arcs-most p b))

  module _ (p : ℕ) (inside : p < length n.tokens) where
    leaves : (a : NetArc) → goes_out_of p a ≡ true → (a.into ≡ false) × (a.place ≡ p)
    leaves a h = let q = and_parts (not a.into) (a.place == p) h in (not-true a.into q.0, eqb-true a.place p q.1)

    good-takers : All (IsAimOf PART (without_dummies n.signals) (Place (numbered_name prefix p)) (λ a. trans_word n.signals n.trans a.trans) trans_node) (arcs_taken n.arcs p)
    good-takers = All-filter (goes_out_of p) (IsAimOf PART (without_dummies n.signals) (Place (numbered_name prefix p)) (λ a. trans_word n.signals n.trans a.trans) trans_node) n.arcs
        (λ k d b. let a = get_or n.arcs k d in let h = there k d b in record {
          stands = trans-word prefix n r a.trans h.trans_there;
          meets = refl;
          joins = refl;
          least = h.positive;
          most = r.within.weights k d b;
        })

    text_arcs-new : has_repeat same_text_arc (text_arcs_at p) (taken_text_arcs p) ≡ false
    text_arcs-new = again-none same_text_arc (text_arcs_at p) (taken_text_arcs p)
        (All-map (λ x. list_any (same_text_arc x) (text_arcs_at p) ≡ false) (text_arc_from (Place (numbered_name prefix p)) trans_node) (arcs_taken n.arcs p)
        (λ k d b. let x = text_arc_from (Place (numbered_name prefix p)) trans_node (get_or (arcs_taken n.arcs p) k d) in
        any-append_none (same_text_arc x) (listed_below given_text_arcs (length n.trans)) (listed_below taken_text_arcs p)
        (list_any_none (same_text_arc x) (listed_below given_text_arcs (length n.trans))
        (All-listed_below (λ y. same_text_arc x y ≡ false) given_text_arcs (length n.trans) (λ u c.
        All-map (λ y. same_text_arc x y ≡ false) (text_arc_from (Trans (trans_at n u)) place_node) (arcs_given n.arcs u) (λ i e f. refl))))
        (list_any_none (same_text_arc x) (listed_below taken_text_arcs p)
        (All-listed_below (λ y. same_text_arc x y ≡ false) taken_text_arcs p (λ q c.
        All-map (λ y. same_text_arc x y ≡ false) (text_arc_from (Place (numbered_name prefix q)) trans_node) (arcs_taken n.arcs q)
        (λ i e f. and_left (bytes_eq (numbered_name prefix p) (numbered_name prefix q)) (same_node x.target (trans_node (get_or (arcs_taken n.arcs q) i e)))
        (r.places_apart p q inside (omega (arith, c, inside)) (λ s. absurd (omega (arith, s, c))))))))))
        (AllPairs-mapped (λ (a b : NetArc). same_trans (trans_at n b.trans) (trans_at n a.trans) ≡ false) (λ x y. same_text_arc y x ≡ false) (text_arc_from (Place (numbered_name prefix p)) trans_node)
        (λ a b h. and_right (bytes_eq (numbered_name prefix p) (numbered_name prefix p)) (same_trans (trans_at n b.trans) (trans_at n a.trans)) h)
        (arcs_taken n.arcs p)
        (AllPairs-with (λ (a : NetArc). a.trans < length n.trans) (λ (a b : NetArc). a.trans < b.trans) (λ (a b : NetArc). same_trans (trans_at n b.trans) (trans_at n a.trans) ≡ false)
        (λ a b h k l. trans-apart prefix n r b.trans a.trans k h (λ s. absurd (omega (arith, s, l))))
        (arcs_taken n.arcs p)
        (All-filter (goes_out_of p) (λ (a : NetArc). a.trans < length n.trans) n.arcs (λ k d b. (there k d b).trans_there))
        (taken-rise prefix n r p)))

    old-trans : firsts same_trans (trans_to (length n.trans)) (flat_map (λ (q : TextArc). trans_of_node q.target) (taken_text_arcs p)) ≡ trans_to (length n.trans)
    old-trans =
        ap (firsts same_trans (trans_to (length n.trans))) (trans-of_trans (Place (numbered_name prefix p)) (λ a. trans_at n a.trans) (arcs_taken n.arcs p))
        ∙ firsts-there same_trans (trans_to (length n.trans)) (map (λ (a : NetArc). trans_at n a.trans) (arcs_taken n.arcs p))
        (All-map (λ x. list_any (same_trans x) (trans_to (length n.trans)) ≡ true) (λ (a : NetArc). trans_at n a.trans) (arcs_taken n.arcs p)
        (All-filter (goes_out_of p) (λ (a : NetArc). list_any (same_trans (trans_at n a.trans)) (trans_to (length n.trans)) ≡ true) n.arcs
        (λ k d b. let a = get_or n.arcs k d in any-listed (same_trans (trans_at n a.trans)) (trans_at n) (length n.trans) a.trans (there k d b).trans_there (same_trans-refl (trans_at n a.trans)))))

    next-place : with_new same_place (places_to (reached p)) (named p) ≡ places_to (reached (suc p))
    next-place = elim (cases_lt p (given_before (length n.trans))) [
      | inl k ↦ (let e : reached p ≡ reached (suc p) = omega (arith, k) in
          with_new-old same_place named (length n.tokens) place-same place-apart (reached p) p (omega (arith, cut-most (first_giver n) (length n.trans) (length n.tokens), inside)) (omega (arith, k)) ∙ ap places_to e)
      | inr k ↦ (let e : reached p ≡ p = omega (arith, k) in let f : suc p ≡ reached (suc p) = omega (arith, k) in
          ap (λ c. with_new same_place (places_to c) (named p)) e ∙ with_new-new same_place named (length n.tokens) place-same place-apart p inside ∙ ap places_to f)
    ]

    next-places : firsts same_place (places_to (reached p)) ((named p ∷ [] ++ []) ++ flat_map (λ (q : TextArc). node_place q.target ++ place_between q.source q.target) (taken_text_arcs p)) ≡ places_to (reached (suc p))
    next-places =
        ap (λ l. firsts same_place (places_to (reached p)) (named p ∷ l)) (places-of_trans (numbered_name prefix p) (λ a. trans_at n a.trans) (arcs_taken n.arcs p))
        ∙ next-place

    place-next : with_text_arcs_of (at_place p) (Place (numbered_name prefix p)) (taken_text_arcs p) ≡ at_place (suc p)
    place-next = (λ j. in_graph_of n.signals (old-trans j) (next-places j) (append_assoc (listed_below given_text_arcs (length n.trans)) (listed_below taken_text_arcs p) (taken_text_arcs p) j))

    takes-row : Takes PART (at_place p) (place_row prefix n p ∷ []) (at_place (suc p))
    takes-row = Takes-one PART (at_place p) (at_place (suc p)) (place_row prefix n p)
        (graph_row-taken PART (omega arith) (without_dummies n.signals) (Place (numbered_name prefix p)) (λ a. trans_word n.signals n.trans a.trans) trans_node (at_place p) refl refl refl
        (numbered_name prefix p) (place-word prefix n r p inside) (arcs_taken n.arcs p) good-takers text_arcs-new (ap (has_too_many PART) place-next ∙ few-places (suc p) (omega (arith, inside))))
        (after-graph_row PART (omega arith) (without_dummies n.signals) (Place (numbered_name prefix p)) (λ a. trans_word n.signals n.trans a.trans) trans_node (at_place p) refl refl refl
        (numbered_name prefix p) (place-word prefix n r p inside) (arcs_taken n.arcs p) good-takers ∙ place-next)

    -- a place that has no row has appeared, and nothing takes from it
    takes-none : is_only_given n.arcs p ≡ true → at_place p ≡ at_place (suc p)
    takes-none h =
        let q = and_parts (list_any (goes_into p) n.arcs) (not (list_any (goes_out_of p) n.arcs)) h in
        let empty : taken_text_arcs p ≡ [] = ap (map (text_arc_from (Place (numbered_name prefix p)) trans_node)) (filter-none (goes_out_of p) n.arcs (not-true (list_any (goes_out_of p) n.arcs) q.1)) in
        let given : first_giver n p < length n.trans = elim (cases_lt (first_giver n p) (length n.trans)) [
          | inl k ↦ k
          | inr k ↦ absurd (true≢false (sym q.0 ∙ giver-none (length n.trans) p n.arcs (λ i d b. (there i d b).trans_there) k))
        ] in
        let beneath = cut-below (first_giver n) (length n.trans) (length n.tokens) p inside given in
        let e : reached p ≡ reached (suc p) = omega (arith, beneath) in
        (λ j. in_graph_of n.signals (trans_to (length n.trans)) (places_to (e j)) (listed_below given_text_arcs (length n.trans) ++ sym (append-nil (listed_below taken_text_arcs p)) j))
        ∙ (λ j. in_graph_of n.signals (trans_to (length n.trans)) (places_to (reached (suc p))) (listed_below given_text_arcs (length n.trans) ++ (listed_below taken_text_arcs p ++ sym empty j)))

    takes-place : Takes PART (at_place p) (place_rows prefix n p) (at_place (suc p))
    takes-place = elim (cases_Bool (is_only_given n.arcs p)) [
      | inl k ↦ subst (λ b. Takes PART (at_place p) (cond b [] (place_row prefix n p ∷ [])) (at_place (suc p))) (sym k) (takes-none k)
      | inr k ↦ subst (λ b. Takes PART (at_place p) (cond b [] (place_row prefix n p ∷ [])) (at_place (suc p))) (sym k) takes-row
    ]

  -- the rows of the places
  pub takes-places : (p : ℕ) → p ≤ length n.tokens → Takes PART (at_place 0) (listed_below (place_rows prefix n) p) (at_place p)
  takes-places zero h = refl
  takes-places (suc p) h = Takes-append PART (at_place 0) (at_place p) (at_place (suc p)) (listed_below (place_rows prefix n) p) (place_rows prefix n p)
      (takes-places p (omega (arith, h))) (takes-place p (omega (arith, h)))

  -- the first place follows the last transition
  pub at-places : at_trans (length n.trans) ≡ at_place 0
  at-places =
      let e : given_before (length n.trans) ≡ reached 0 = omega arith in
      (λ j. in_graph_of n.signals (trans_to (length n.trans)) (places_to (e j)) (sym (append-nil (listed_below given_text_arcs (length n.trans))) j))
