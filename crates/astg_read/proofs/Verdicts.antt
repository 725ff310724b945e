-- The first rule that a line breaks, by the kind of the line.
use Rattle.std.proofs.Common.{◌≡◌, ℕ, [], ◌∷◌, Bool, true, false, cond, not, ◌||◌, length, nat_lt, refl, ap, ◌∙◌, Some, None, Option, is_some}
use Rattle.std.proofs.Math.Bool.{or-false}
use Rattle.std.specs.Prelude.{codes}
use Rattle.std.specs.List.{list_all, list_any}
use Rattle.stg_net.specs.declared.limits.Limits.{Limits}
use Rattle.stg_net.specs.declared.signal.Kind.{Kind}
use Rattle.stg_net.specs.declared.signal.Kind.TheVariants.{Input, Output, Internal}
use Rattle.stg_net.specs.Names.{is_name}
use Rattle.astg_read.specs.declared.rule.Rule.{Rule}
use Rattle.astg_read.specs.declared.rule.Rule.TheVariants.{OutOfOrder, BadName, DeclaredTwice, UnknownSignal, NoEdge, BadMarking, NoGraph}
use Rattle.astg_read.specs.Lists.{has_repeat}
use Rattle.astg_read.specs.Rows.{Word, Row, begins_with_dot}
use Rattle.astg_read.specs.Header.{same_name, signals_of}
use Rattle.astg_read.specs.Markings.{is_unfinished}
use Rattle.astg_read.specs.Nodes.{is_node, is_unknown, is_signal}
use Rattle.astg_read.specs.Targets.{node_words, targets_of}
use Rattle.astg_read.specs.Graphs.{text_arcs_on}
use Rattle.astg_read.specs.Said.{Said}
use Rattle.astg_read.specs.Rules.{first_broken, outside_rules, breaks_marking}
use Rattle.astg_read.specs.inner.Growth.{after_row}
use Rattle.astg_read.specs.inner.LineResult.{line_fault, directive, verdict}
use Rattle.astg_read.specs.inner.GraphRules.{name_fault, text_arc_fault}

-- the first of two, where there is one
abbrev pub or_later : Option Rule → Option Rule → Option Rule
or_later None later = later
or_later (Some rule) later = Some rule

-- the rule that a graph line breaks first
abbrev pub graph_fault : ℕ → Said → Row → Option Rule
graph_fault most k row =
    cond (not k.has_graph || is_some k.marking) (Some OutOfOrder)
    (or_later (name_fault k.declared (node_words row)) (text_arc_fault most k.text_arcs (text_arcs_on k.declared row) (targets_of row)))

-- a test that fails, and one that holds
pub past : {A : Type 0} (b : Bool) (x y : A) → b ≡ false → cond b x y ≡ y
past b x y h = ap (λ t. cond t x y) h

pub stop : {A : Type 0} (b : Bool) (x y : A) → b ≡ true → cond b x y ≡ x
stop b x y h = ap (λ t. cond t x y) h

-- two or three tests, one after the other
abbrev pub two : Bool → Rule → Bool → Rule → Option Rule
two a r b s = cond a (Some r) (cond b (Some s) None)

abbrev pub three : Bool → Rule → Bool → Rule → Bool → Rule → Option Rule
three a r b s c t = cond a (Some r) (cond b (Some s) (cond c (Some t) None))

-- a line of declarations
pub fault-names : (most : ℕ) (k : Said) (kind : Kind) (names : Row) → line_fault most k (directive kind ∷ names)
    ≡ three k.has_graph OutOfOrder (not (list_all is_name names)) BadName (has_repeat same_name k.declared.signals (signals_of kind names)) DeclaredTwice
fault-names most k Input names = (λ j. three (or-false k.has_graph j) OutOfOrder ((or-false (not (list_all is_name names) || false) ∙ or-false (not (list_all is_name names))) j) BadName (has_repeat same_name k.declared.signals (signals_of Input names)) DeclaredTwice)
fault-names most k Output names = (λ j. three (or-false k.has_graph j) OutOfOrder ((or-false (not (list_all is_name names) || false) ∙ or-false (not (list_all is_name names))) j) BadName (has_repeat same_name k.declared.signals (signals_of Output names)) DeclaredTwice)
fault-names most k Internal names = (λ j. three (or-false k.has_graph j) OutOfOrder ((or-false (not (list_all is_name names) || false) ∙ or-false (not (list_all is_name names))) j) BadName (has_repeat same_name k.declared.signals (signals_of Internal names)) DeclaredTwice)

-- a title
pub fault-model : (most : ℕ) (k : Said) (words : Row) → line_fault most k (codes ".model" ∷ words) ≡ cond k.has_graph (Some OutOfOrder) None
fault-model most k words = (λ j. cond (or-false k.has_graph j) (Some OutOfOrder) None)

-- .graph
pub fault-graph : (most : ℕ) (k : Said) (words : Row) → line_fault most k (codes ".graph" ∷ words) ≡ two k.has_graph OutOfOrder (nat_lt 0 (length words)) BadName
fault-graph most k words = (λ j. two (or-false k.has_graph j) OutOfOrder (or-false (nat_lt 0 (length words)) j) BadName)

-- .end
pub fault-end : (most : ℕ) (k : Said) (words : Row) → line_fault most k (codes ".end" ∷ words) ≡ cond (not k.has_graph) (Some NoGraph) None
fault-end most k words = refl

-- .marking
pub fault-marking : (most : ℕ) (k : Said) (words : Row) → line_fault most k (codes ".marking" ∷ words) ≡ two (not k.has_graph || is_some k.marking) OutOfOrder (breaks_marking most k (codes ".marking" ∷ words)) BadMarking
fault-marking most k words = refl

-- three tests and what comes after them
or_later-three : (a b c : Bool) (r s t : Rule) (later : Option Rule) → cond a (Some r) (cond b (Some s) (cond c (Some t) later)) ≡ or_later (three a r b s c t) later
or_later-three true b c r s t later = refl
or_later-three false true c r s t later = refl
or_later-three false false true r s t later = refl
or_later-three false false false r s t later = refl

in_order : (most : ℕ) (k : Said) (row : Row)
    → cond (not k.has_graph || is_some k.marking) (Some OutOfOrder)
    (cond (not (list_all (is_node k.declared) (node_words row))) (Some BadName)
    (cond (list_any (is_unknown k.declared) (node_words row)) (Some UnknownSignal)
    (cond (list_any (is_signal k.declared) (node_words row)) (Some NoEdge) (text_arc_fault most k.text_arcs (text_arcs_on k.declared row) (targets_of row))))) ≡ graph_fault most k row
in_order most k row = ap (λ later. cond (not k.has_graph || is_some k.marking) (Some OutOfOrder) later)
    (or_later-three (not (list_all (is_node k.declared) (node_words row))) (list_any (is_unknown k.declared) (node_words row)) (list_any (is_signal k.declared) (node_words row)) BadName UnknownSignal NoEdge (text_arc_fault most k.text_arcs (text_arcs_on k.declared row) (targets_of row)))

-- a line of the graph
pub fault-nodes : (most : ℕ) (k : Said) (w : Word) (ws : Row) → begins_with_dot w ≡ false → line_fault most k (w ∷ ws) ≡ graph_fault most k (w ∷ ws)
fault-nodes most k [] ws n = in_order most k ([] ∷ ws)
fault-nodes most k (c ∷ cs) ws n = by_tests ∙ in_order most k ((c ∷ cs) ∷ ws)
  where
    by_tests : line_fault most k ((c ∷ cs) ∷ ws) ≡ cond (not k.has_graph || is_some k.marking) (Some OutOfOrder)
        (cond (not (list_all (is_node k.declared) (node_words ((c ∷ cs) ∷ ws)))) (Some BadName)
        (cond (list_any (is_unknown k.declared) (node_words ((c ∷ cs) ∷ ws))) (Some UnknownSignal)
        (cond (list_any (is_signal k.declared) (node_words ((c ∷ cs) ∷ ws))) (Some NoEdge) (text_arc_fault most k.text_arcs (text_arcs_on k.declared ((c ∷ cs) ∷ ws)) (targets_of ((c ∷ cs) ∷ ws))))))
    by_tests = rw n refl

-- outside a marking
pub verdict-outside : (limits : Limits) (k : Said) (row : Row) → is_unfinished k.marking ≡ false
    → verdict limits k row ≡ first_broken (outside_rules false limits k (after_row k row) row)
verdict-outside limits k row h = ap (λ b. first_broken (cond b ((breaks_marking limits.weight k row, BadMarking) ∷ []) (outside_rules false limits k (after_row k row) row))) h

-- inside a marking
pub verdict-inside : (limits : Limits) (k : Said) (row : Row) → is_unfinished k.marking ≡ true → verdict limits k row ≡ cond (breaks_marking limits.weight k row) (Some BadMarking) None
verdict-inside limits k row h = ap (λ b. first_broken (cond b ((breaks_marking limits.weight k row, BadMarking) ∷ []) (outside_rules false limits k (after_row k row) row))) h
