use Rattle.std.proofs.Common.{◌≡◌, ◌∙◌, ◌||◌, ◌∷◌, sym, ap, not, false, is_some, None, Some, filter_map}
use Rattle.astg_read.specs.inner.NoDummies.{without_dummies}
use Rattle.astg_read.specs.inner.GraphRules.{name_fault, text_arc_fault}
use Rattle.astg_read.specs.Said.{Said}
use Rattle.astg_read.specs.inner.Growth.{GraphLists, with_node, with_targets, with_text_arcs}
use Rattle.astg_read.specs.Graphs.{text_arc_of}
use Rattle.astg_read.specs.inner.Views.{texts, target_views, text_arc_views, node_view}
use Rattle.astg_read.specs.Targets.{words_in}
use Rattle.astg_read.specs.inner.LineResult.{said_of}
use Rattle.astg_read.proofs.NodeLemmas.{none-from, fault-by_names, fault-by_text_arcs, graph-said_up_to, said_up_to-nodes}
use Rattle.astg_read.proofs.reader.Reader.take_nodes.Goals as goal

pub returns-in-Some : goal.returns-in-Some
returns-in-Some c =
    let r = c.args.self.now in
    fault-by_names c.args.most (said_of r) c.args.source.now (texts c.args.words.now) (target_views c.in_ok-targets.targets) c.requires.nodes
    (λ j. (not (c.if-not-self.false j) || (sym c.is_some.ensures ∙ c.if-is_some.false) j))
    c.in_ok-targets.ensures
    c.in-Some.rule
    (ap (λ ts. name_fault (without_dummies r.signals) (c.args.source.now ∷ words_in (target_views ts))) (sym c.as_slice.ensures) ∙ sym c.name_fault.ensures ∙ c.in-Some.is)

pub returns-in-Some-2 : goal.returns-in-Some-2
returns-in-Some-2 c =
    let r = c.args.self.now in
    fault-by_text_arcs c.args.most (said_of r) c.args.source.now (texts c.args.words.now) (target_views c.in_ok-targets.targets) c.requires.nodes
    (λ j. (not (c.if-not-self.false j) || (sym c.is_some.ensures ∙ c.if-is_some.false) j))
    c.in_ok-targets.ensures
    (text_arc_views c.in_ok-text_arcs.text_arcs) (Some c.in-Some-2.rule)
    (ap (λ ts. name_fault (without_dummies r.signals) (c.args.source.now ∷ words_in (target_views ts))) (sym c.as_slice.ensures) ∙ sym c.name_fault.ensures ∙ c.in_default.is)
    (c.in_ok-text_arcs.ensures ∙ ap (λ ts. filter_map (text_arc_of (without_dummies r.signals) c.args.source.now) (target_views ts)) c.as_slice-2.ensures)
    (sym c.in-Some-2.is ∙ c.in_ok-rule.ensures.fault ∙ (λ j. text_arc_fault c.args.most r.graph.text_arcs (text_arc_views (c.as_slice-4.ensures j)) (target_views (c.as_slice-3.ensures j))))

pub returns : goal.returns
returns c =
    let r = c.args.self.now in
    let k : Said = said_of r in
    let order : (not r.has_graph || is_some r.marking) ≡ false = (λ j. (not (c.if-not-self.false j) || (sym c.is_some.ensures ∙ c.if-is_some.false) j)) in
    let ps = text_arc_views c.in_ok-text_arcs.text_arcs in
    let text_arc_found : ps ≡ filter_map (text_arc_of (without_dummies r.signals) c.args.source.now) (target_views c.in_ok-targets.targets) = c.in_ok-text_arcs.ensures ∙ ap (λ ts. filter_map (text_arc_of (without_dummies r.signals) c.args.source.now) (target_views ts)) c.as_slice-2.ensures in (
      fault-by_text_arcs c.args.most k c.args.source.now (texts c.args.words.now) (target_views c.in_ok-targets.targets) c.requires.nodes order
          c.in_ok-targets.ensures ps None
          (ap (λ ts. name_fault (without_dummies r.signals) (c.args.source.now ∷ words_in (target_views ts))) (sym c.as_slice.ensures) ∙ sym c.name_fault.ensures ∙ c.in_default.is)
          text_arc_found
          (sym c.in_default-2.is ∙ c.in_ok-rule.ensures.fault ∙ (λ j. text_arc_fault c.args.most r.graph.text_arcs (text_arc_views (c.as_slice-4.ensures j)) (target_views (c.as_slice-3.ensures j)))),
      graph-said_up_to k c.args.source.now (texts c.args.words.now) ps (node_view c.node_of.result) c.add_targets.new.self
          (text_arc_found ∙ ap (filter_map (text_arc_of (without_dummies r.signals) c.args.source.now)) c.in_ok-targets.ensures)
          c.node_of.ensures
          (c.in_ok-add_targets.ensures ∙ (λ j. with_targets (c.in_ok-add_node.ensures j) (text_arc_views (c.as_slice-5.ensures j)))
          ∙ ap (λ (g : GraphLists). with_targets (with_node g (node_view c.node_of.result)) ps) (c.in_ok-rule.ensures.ok c.in_default-2.is ∙ ap (λ qs. with_text_arcs r.graph (text_arc_views qs)) c.as_slice-4.ensures))
          ∙ sym (said_up_to-nodes k c.args.source.now (texts c.args.words.now) c.requires.nodes c.if-not-self.false (none-from r.marking (sym c.is_some.ensures ∙ c.if-is_some.false))),
    )
