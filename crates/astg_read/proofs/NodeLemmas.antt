-- A line of the graph, by the tests of its words and text arcs.
use Rattle.std.proofs.Common.{◌≡◌, ℕ, zero, List, [], ◌∷◌, ◌++◌, true, false, cond, not, ◌||◌, ◌&&◌, refl, sym, ap, ◌∙◌, Some, None, Option, is_some, append-nil, filter_map}
use Rattle.std.proofs.lemmas.Bool.{true≢false}
use Rattle.std.specs.Prelude.{codes}
use Rattle.astg_read.specs.declared.rule.Rule.{Rule}
use Rattle.astg_read.specs.declared.rule.Rule.TheVariants.{OutOfOrder}
use Rattle.astg_read.specs.Lists.{firsts}
use Rattle.astg_read.specs.Rows.{Word, Row, begins, begins_with_dot}
use Rattle.astg_read.specs.Nodes.{Node, node_of, same_trans}
use Rattle.astg_read.specs.Targets.{Target, targets_after, words_in}
use Rattle.astg_read.specs.Graphs.{TextArc, text_arc_of, text_arcs_on, same_place, node_trans, node_place}
use Rattle.astg_read.specs.Said.{Said}
use Rattle.astg_read.specs.inner.Growth.{GraphLists, with_graph_row, in_graph, after_graph, with_header, after_row, with_node, with_targets, with_text_arcs, trans_in, places_in}
use Rattle.astg_read.specs.Markings.{is_unfinished}
use Rattle.astg_read.specs.inner.GraphRules.{name_fault, text_arc_fault}
use Rattle.astg_read.specs.inner.LineResult.{line_fault, said_up_to}
use Rattle.astg_read.proofs.GrowthLemmas.{firsts-append}
use Rattle.astg_read.proofs.Verdicts.{or_later, past, fault-nodes}

-- what isn't there
pub none-from : {A : Type 0} (o : Option A) → is_some o ≡ false → o ≡ None
none-from None h = refl
none-from (Some x) h = absurd (true≢false h)

module _ (most : ℕ) (k : Said) (w : Word) (ws : Row) (targets : List Target) (nodes : begins_with_dot w ≡ false) (in_place : (not k.has_graph || is_some k.marking) ≡ false) (cut : targets ≡ targets_after zero ws) where
  abbrev tested : Option Rule → Option Rule → Option Rule
  tested names text_arcs = cond (not k.has_graph || is_some k.marking) (Some OutOfOrder) (or_later names text_arcs)

  by_tests : line_fault most k (w ∷ ws) ≡ or_later (name_fault k.declared (w ∷ words_in targets)) (text_arc_fault most k.text_arcs (text_arcs_on k.declared (w ∷ ws)) targets)
  by_tests = fault-nodes most k w ws nodes
      ∙ ap (λ ts. tested (name_fault k.declared (w ∷ words_in ts)) (text_arc_fault most k.text_arcs (text_arcs_on k.declared (w ∷ ws)) ts)) (sym cut)
      ∙ past (not k.has_graph || is_some k.marking) (Some OutOfOrder) (or_later (name_fault k.declared (w ∷ words_in targets)) (text_arc_fault most k.text_arcs (text_arcs_on k.declared (w ∷ ws)) targets)) in_place

  -- the words break a rule
  pub fault-by_names : (rule : Rule) → name_fault k.declared (w ∷ words_in targets) ≡ Some rule → line_fault most k (w ∷ ws) ≡ Some rule
  fault-by_names rule e = by_tests ∙ ap (λ f. or_later f (text_arc_fault most k.text_arcs (text_arcs_on k.declared (w ∷ ws)) targets)) e

  -- the words break none
  pub fault-by_text_arcs : (ps : List TextArc) (f : Option Rule) → name_fault k.declared (w ∷ words_in targets) ≡ None → ps ≡ filter_map (text_arc_of k.declared w) targets → f ≡ text_arc_fault most k.text_arcs ps targets → line_fault most k (w ∷ ws) ≡ f
  fault-by_text_arcs ps f e p h = by_tests ∙ ap (λ f. or_later f (text_arc_fault most k.text_arcs (text_arcs_on k.declared (w ∷ ws)) targets)) e
      ∙ ap (λ qs. text_arc_fault most k.text_arcs qs targets) (sym (p ∙ ap (filter_map (text_arc_of k.declared w)) cut)) ∙ sym h

-- what the graph is after a line of it
pub graph-said_up_to : (k : Said) (w : Word) (ws : Row) (ps : List TextArc) (n : Node) (g : GraphLists) → ps ≡ text_arcs_on k.declared (w ∷ ws) → n ≡ node_of k.declared w
    → g ≡ with_targets (with_node (with_text_arcs (record { trans = k.trans; places = k.places; text_arcs = k.text_arcs }) ps) n) ps
    → record k { trans = g.trans; places = g.places; text_arcs = g.text_arcs } ≡ with_graph_row k (w ∷ ws)
graph-said_up_to k w ws ps n g p q h =
    let t = sym (firsts-append same_trans k.trans (node_trans n ++ []) (trans_in ps) ∙ ap (λ xs. firsts same_trans (firsts same_trans k.trans xs) (trans_in ps)) (append-nil (node_trans n))) in
    let r = sym (firsts-append same_place k.places (node_place n ++ []) (places_in ps) ∙ ap (λ xs. firsts same_place (firsts same_place k.places xs) (places_in ps)) (append-nil (node_place n))) in
    ap (λ (v : GraphLists). record k { trans = v.trans; places = v.places; text_arcs = v.text_arcs }) h
    ∙ (λ j. record k { trans = t j; places = r j; text_arcs = k.text_arcs ++ ps })
    ∙ (λ j. record k { trans = firsts same_trans k.trans ((node_trans (q j) ++ []) ++ trans_in (p j)); places = firsts same_place k.places ((node_place (q j) ++ []) ++ places_in (p j)); text_arcs = k.text_arcs ++ p j })

-- a line of the graph says what it says
pub after-nodes : (k : Said) (w : Word) (ws : Row) → begins_with_dot w ≡ false → k.has_graph ≡ true → k.marking ≡ None → after_row k (w ∷ ws) ≡ with_graph_row k (w ∷ ws)
after-nodes k w ws n h m =
    ap (λ b. cond b (after_graph k k.marking (w ∷ ws)) (with_header k (w ∷ ws))) h ∙ ap (λ o. after_graph k o (w ∷ ws)) m ∙ by_word w n
  where
    by_word : (v : Word) → begins_with_dot v ≡ false → in_graph k (v ∷ ws) ≡ with_graph_row k (v ∷ ws)
    by_word [] e = refl
    by_word (c ∷ cs) e = rw e refl

pub said_up_to-nodes : (k : Said) (w : Word) (ws : Row) → begins_with_dot w ≡ false → k.has_graph ≡ true → k.marking ≡ None → said_up_to k (w ∷ ws) ≡ with_graph_row k (w ∷ ws)
said_up_to-nodes k w ws n h m = ap (λ b. cond (b && not (is_unfinished k.marking)) k (after_row k (w ∷ ws))) (by_word w n) ∙ after-nodes k w ws n h m
  where
    by_word : (v : Word) → begins_with_dot v ≡ false → begins (codes ".end") (v ∷ ws) ≡ false
    by_word [] e = refl
    by_word (c ∷ cs) e = rw e refl
