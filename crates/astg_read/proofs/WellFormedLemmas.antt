-- Lines without a fault make well-formed lists.
use Rattle.std.proofs.Common.{◌≡◌, ℕ, ◌≤◌, zero, List, [], ◌∷◌, ◌++◌, Bool, true, false, cond, not, drop, ◌||◌, ◌&&◌, nat_lt, length, inl, inr, refl, sym, ap, subst, ◌∙◌, Some, None, Option, append-nil, arith, length-append}
use Rattle.astg_lex.proofs.ListLemmas.{all-append}
use Rattle.std.proofs.lemmas.Bool.{cases_Bool, or_parts, and_parts, and_from, not-false, true≢false, ltb-true, lt-ltb}
use Rattle.std.specs.Prelude.{codes}
use Rattle.std.specs.List.{list_any, list_all}
use Rattle.stg_net.specs.declared.signal.Kind.{Kind}
use Rattle.stg_net.specs.declared.signal.Kind.TheVariants.{Input, Output, Internal}
use Rattle.stg_net.specs.declared.trans.TransName.{TransName}
use Rattle.stg_net.specs.Names.{is_name}
use Rattle.astg_read.specs.declared.rule.Rule.TheVariants.{UnknownDirective, OutOfOrder, BadName, DeclaredTwice, UnknownSignal, NoEdge, BadArc, RepeatedArc, BadWeight}
use Rattle.astg_read.specs.Rows.{Word, Row, begins, other_words, declares, is_graph_row}
use Rattle.astg_read.specs.Header.{same_name, signals_of, signals_on}
use Rattle.astg_read.specs.Lists.{has_repeat, firsts}
use Rattle.astg_read.specs.Nodes.{is_node, node_of, same_trans}
use Rattle.astg_read.specs.Targets.{node_words, targets_after, targets_of, is_good_group}
use Rattle.astg_read.specs.Graphs.{same_text_arc, same_place, node_trans, node_place, text_arcs_on, trans_on, places_on, weighs_trans}
use Rattle.astg_read.specs.Said.{Said}
use Rattle.astg_read.specs.Rules.{first_broken, line_rules, breaks_directive, breaks_order, breaks_names, declares_twice, has_unknown, has_no_edge, has_bad_arc, repeats_arc, has_bad_weight}
use Rattle.astg_read.specs.inner.Growth.{after_row, after_graph, in_graph, with_names, with_graph_row, trans_in, places_in}
use Rattle.astg_read.specs.inner.WellFormed.{is_named, is_trans_in, is_place_in, is_weighed, IsWellFormed, AreTextArcsIn}
use Rattle.astg_read.specs.inner.LineResult.{line_fault}
use Rattle.astg_read.proofs.Repeats.{again-more, again-firsts, all-firsts}
use Rattle.astg_read.proofs.WellFormedGraph.{line-there, line-weighed, line-good, text_arcs-more, text_arcs-append, places-wider, line-places}
use Rattle.astg_read.proofs.GrowthLemmas.{firsts-append}
use Rattle.astg_read.proofs.LineResultLemmas.{broken-head, after-begun, after-before}

-- the names of signals
named-of : (kind : Kind) (ns : Row) → list_all is_name ns ≡ true → list_all is_named (signals_of kind ns) ≡ true
named-of kind [] h = refl
named-of kind (n ∷ ns) h = let q = and_parts (is_name n) (list_all is_name ns) h in and_from (is_name n) (list_all is_named (signals_of kind ns)) q.0 (named-of kind ns q.1)

named-on : (b c d e : Bool) (ns : Row) → ((b || c || d || e) && not (list_all is_name ns)) ≡ false
    → list_all is_named (cond b (signals_of Input ns) (cond c (signals_of Output ns) (cond d (signals_of Internal ns) (cond e (signals_of Internal ns) [])))) ≡ true
named-on true c d e ns h = named-of Input ns (not-false (list_all is_name ns) h)
named-on false true d e ns h = named-of Output ns (not-false (list_all is_name ns) h)
named-on false false true e ns h = named-of Internal ns (not-false (list_all is_name ns) h)
named-on false false false true ns h = named-of Internal ns (not-false (list_all is_name ns) h)
named-on false false false false ns h = refl

-- more signals are there
wider : (n m : ℕ) (ts : List TransName) → n ≤ m → list_all (is_trans_in n) ts ≡ true → list_all (is_trans_in m) ts ≡ true
wider n m [] h k = refl
wider n m (t ∷ ts) h k =
    let q = and_parts (is_trans_in n t) (list_all (is_trans_in n) ts) k in
    let r = and_parts (nat_lt t.signal n) (nat_lt t.index 1000000000) q.0 in
    and_from (is_trans_in m t) (list_all (is_trans_in m) ts)
    (and_from (nat_lt t.signal m) (nat_lt t.index 1000000000) (lt-ltb t.signal m (omega (arith, h, ltb-true t.signal n r.0))) r.1)
    (wider n m ts h q.1)

-- the tests of a line that breaks no rule
module _ (most : ℕ) (k : Said) (row : Row) (none : line_fault most k row ≡ None) where
  order : (breaks_order k row ≡ false) × (first_broken (drop 2 (line_rules most k row)) ≡ None)
  order = broken-head (breaks_order k row, OutOfOrder) (drop 2 (line_rules most k row)) ((broken-head (breaks_directive row, UnknownDirective) (drop 1 (line_rules most k row)) none).1)

  names : (breaks_names k row ≡ false) × (first_broken (drop 3 (line_rules most k row)) ≡ None)
  names = broken-head (breaks_names k row, BadName) (drop 3 (line_rules most k row)) order.1

  twice : (declares_twice k row ≡ false) × (first_broken (drop 4 (line_rules most k row)) ≡ None)
  twice = broken-head (declares_twice k row, DeclaredTwice) (drop 4 (line_rules most k row)) names.1

  unknown : (has_unknown k row ≡ false) × (first_broken (drop 5 (line_rules most k row)) ≡ None)
  unknown = broken-head (has_unknown k row, UnknownSignal) (drop 5 (line_rules most k row)) twice.1

  edge : (has_no_edge k row ≡ false) × (first_broken (drop 6 (line_rules most k row)) ≡ None)
  edge = broken-head (has_no_edge k row, NoEdge) (drop 6 (line_rules most k row)) unknown.1

  joined : (has_bad_arc k row ≡ false) × (first_broken (drop 7 (line_rules most k row)) ≡ None)
  joined = broken-head (has_bad_arc k row, BadArc) (drop 7 (line_rules most k row)) edge.1

  repeated : (repeats_arc k row ≡ false) × (first_broken (drop 8 (line_rules most k row)) ≡ None)
  repeated = broken-head (repeats_arc k row, RepeatedArc) (drop 8 (line_rules most k row)) joined.1

  weights : (has_bad_weight most k row ≡ false) × (first_broken (drop 9 (line_rules most k row)) ≡ None)
  weights = broken-head (has_bad_weight most k row, BadWeight) (drop 9 (line_rules most k row)) repeated.1

-- a line of the header
well_formed-header : (most : ℕ) (k : Said) (row : Row) → line_fault most k row ≡ None → IsWellFormed most k → IsWellFormed most (record k { declared = with_names k.declared row })
well_formed-header most k row none s =
    let ns = other_words row in
    let n = (or_parts ((declares row && not (list_all is_name ns)) || (begins (codes ".graph") row && nat_lt 0 (length ns))) (is_graph_row row && not (list_all (is_node k.declared) (node_words row))) (names most k row none).0).0 in
    let m = (or_parts (declares row && not (list_all is_name ns)) (begins (codes ".graph") row && nat_lt 0 (length ns)) n).0 in
    record {
      named = all-append is_named k.declared.signals (signals_on row) s.named (named-on (begins (codes ".inputs") row) (begins (codes ".outputs") row) (begins (codes ".internal") row) (begins (codes ".dummy") row) ns m);
      names_differ = again-more same_name k.declared.signals (signals_on row) s.names_differ (twice most k row none).0;
      trans_differ = s.trans_differ;
      trans_there = wider (length k.declared.signals) (length (k.declared.signals ++ signals_on row)) k.trans (omega (arith, length-append k.declared.signals (signals_on row))) s.trans_there;
      places_there = s.places_there;
      weighed = s.weighed;
      text_arcs_there = s.text_arcs_there;
      text_arcs_differ = s.text_arcs_differ;
    }

and_first : (a b : Bool) → a ≡ true → (a && b) ≡ false → b ≡ false
and_first a b h e = sym (ap (λ x. x && b) h) ∙ e

-- a line of the graph
well_formed-graph : (most : ℕ) (k : Said) (w : Word) (ws : Row) → is_graph_row (w ∷ ws) ≡ true → line_fault most k (w ∷ ws) ≡ None → IsWellFormed most k → IsWellFormed most (with_graph_row k (w ∷ ws))
well_formed-graph most k w ws g none s =
    let d = k.declared in
    let ps = text_arcs_on d (w ∷ ws) in
    let goods = (or_parts (not (list_all (is_good_group most) (targets_of (w ∷ ws)))) (list_any weighs_trans ps) (and_first (is_graph_row (w ∷ ws)) (not (list_all (is_good_group most) (targets_of (w ∷ ws))) || list_any weighs_trans ps) g (weights most k (w ∷ ws) none).0)).0 in
    let t : firsts same_trans k.trans (trans_on d (w ∷ ws)) ≡ firsts same_trans (firsts same_trans k.trans (node_trans (node_of d w))) (trans_in ps) =
    firsts-append same_trans k.trans (node_trans (node_of d w) ++ []) (trans_in ps) ∙ ap (λ xs. firsts same_trans (firsts same_trans k.trans xs) (trans_in ps)) (append-nil (node_trans (node_of d w))) in
    let q : firsts same_place k.places (places_on d (w ∷ ws)) ≡ firsts same_place (firsts same_place k.places (node_place (node_of d w))) (places_in ps) =
    firsts-append same_place k.places (node_place (node_of d w) ++ []) (places_in ps) ∙ ap (λ xs. firsts same_place (firsts same_place k.places xs) (places_in ps)) (append-nil (node_place (node_of d w))) in
    let new : AreTextArcsIn (firsts same_trans k.trans (trans_on d (w ∷ ws))) (firsts same_place k.places (places_on d (w ∷ ws))) ps =
    subst (λ a. AreTextArcsIn a (firsts same_place k.places (places_on d (w ∷ ws))) ps) (sym t)
    (subst (λ b. AreTextArcsIn (firsts same_trans (firsts same_trans k.trans (node_trans (node_of d w))) (trans_in ps)) b ps) (sym q) (line-there d w ws k.trans k.places)) in
    record {
      named = s.named;
      names_differ = s.names_differ;
      trans_differ = again-firsts same_trans k.trans (trans_on d (w ∷ ws)) s.trans_differ;
      trans_there = all-firsts same_trans (is_trans_in (length d.signals)) k.trans (trans_on d (w ∷ ws)) s.trans_there (line-good d w ws);
      places_there = all-firsts same_place (is_place_in (firsts same_trans k.trans (trans_on d (w ∷ ws)))) k.places (places_on d (w ∷ ws)) (places-wider k.trans (trans_on d (w ∷ ws)) k.places s.places_there)
          (line-places d w ws (firsts same_trans k.trans (trans_on d (w ∷ ws))) (firsts same_place k.places (places_on d (w ∷ ws))) new);
      weighed = all-append (is_weighed most) k.text_arcs ps s.weighed (line-weighed most d w (targets_after zero ws) (not-false (list_all (is_good_group most) (targets_after zero ws)) goods));
      text_arcs_there = text_arcs-append (firsts same_trans k.trans (trans_on d (w ∷ ws))) (firsts same_place k.places (places_on d (w ∷ ws))) k.text_arcs ps (text_arcs-more k.trans (trans_on d (w ∷ ws)) k.places (places_on d (w ∷ ws)) k.text_arcs s.text_arcs_there) new;
      text_arcs_differ = again-more same_text_arc k.text_arcs ps s.text_arcs_differ (and_first (is_graph_row (w ∷ ws)) (has_repeat same_text_arc k.text_arcs ps) g (repeated most k (w ∷ ws) none).0);
    }

-- nothing of it speaks of the marking
pub well_formed-marking : (most : ℕ) (k : Said) (m : Option Row) → IsWellFormed most k → IsWellFormed most (record k { marking = m })
well_formed-marking most k m s = record { named = s.named; names_differ = s.names_differ; trans_differ = s.trans_differ; trans_there = s.trans_there; places_there = s.places_there; weighed = s.weighed; text_arcs_there = s.text_arcs_there; text_arcs_differ = s.text_arcs_differ }

-- nor of whether .graph stood
well_formed-begun : (most : ℕ) (k : Said) (b : Bool) → IsWellFormed most k → IsWellFormed most (record k { has_graph = b })
well_formed-begun most k b s = record { named = s.named; names_differ = s.names_differ; trans_differ = s.trans_differ; trans_there = s.trans_there; places_there = s.places_there; weighed = s.weighed; text_arcs_there = s.text_arcs_there; text_arcs_differ = s.text_arcs_differ }

well_formed-in_graph : (most : ℕ) (k : Said) (row : Row) → line_fault most k row ≡ None → IsWellFormed most k → (a b : Bool) → begins (codes ".marking") row ≡ a → is_graph_row row ≡ b → IsWellFormed most (in_graph k row)
well_formed-in_graph most k row none s true b e f = subst (λ (x : Bool). IsWellFormed most (cond x (record k { marking = Some (other_words row) }) (cond (is_graph_row row) (with_graph_row k row) k))) (sym e) (well_formed-marking most k (Some (other_words row)) s)
well_formed-in_graph most k row none s false false e f =
    subst (λ (x : Bool). IsWellFormed most (cond x (record k { marking = Some (other_words row) }) (cond (is_graph_row row) (with_graph_row k row) k))) (sym e)
    (subst (λ (x : Bool). IsWellFormed most (cond x (with_graph_row k row) k)) (sym f) s)
well_formed-in_graph most k [] none s false true e f = absurd (true≢false (sym f))
well_formed-in_graph most k (w ∷ ws) none s false true e f =
    subst (λ (x : Bool). IsWellFormed most (cond x (record k { marking = Some (other_words (w ∷ ws)) }) (cond (is_graph_row (w ∷ ws)) (with_graph_row k (w ∷ ws)) k))) (sym e)
    (subst (λ (x : Bool). IsWellFormed most (cond x (with_graph_row k (w ∷ ws)) k)) (sym f) (well_formed-graph most k w ws f none s))

-- a line outside a marking
pub well_formed-after : (most : ℕ) (k : Said) (row : Row) → line_fault most k row ≡ None → IsWellFormed most k → IsWellFormed most (after_row k row)
well_formed-after most k row none s = elim (cases_Bool k.has_graph) [
  | inl h ↦ subst (IsWellFormed most) (sym (after-begun k k.marking row h refl)) (by_marking k.marking)
  | inr h ↦ subst (IsWellFormed most) (sym (after-before k row h)) (by_start (begins (codes ".graph") row))
]
  where
    by_marking : (m : Option Row) → IsWellFormed most (after_graph k m row)
    by_marking None = well_formed-in_graph most k row none s (begins (codes ".marking") row) (is_graph_row row) refl refl
    by_marking (Some words) = well_formed-marking most k (Some (words ++ row)) s

    by_start : (b : Bool) → IsWellFormed most (cond b (record k { has_graph = true }) (record k { declared = with_names k.declared row }))
    by_start true = well_formed-begun most k true s
    by_start false = well_formed-header most k row none s
