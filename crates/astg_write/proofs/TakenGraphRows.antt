-- A row of the graph, as it is written for a transition or a place, breaks no rule; and what it says.
use Rattle.std.proofs.Common.{◌≡◌, ◌<◌, ◌≤◌, ◌&&◌, ◌||◌, nat_le, nat_lt, ℕ, zero, List, [], ◌∷◌, ◌++◌, Bool, true, false, cond, not, length, map, filter_map, flat_map, take, refl, sym, ap, ◌∙◌, arith, Option, Some, None, is_some, All}
use Rattle.std.proofs.lemmas.Bool.{and_right, and_from, or_from, le-leb}
use Rattle.std.proofs.lemmas.List.Elements.{All-head, All-tail}
use Rattle.std.specs.List.{list_all, list_any}
use Rattle.std.specs.Prelude.{codes, decimal}
use Rattle.std.specs.Str.{bytes_eq}
use Rattle.stg_net.specs.declared.limits.Limits.{Limits}
use Rattle.stg_net.specs.declared.arc.NetArc.{NetArc}
use Rattle.astg_read.specs.declared.rule.Rule.TheVariants.{BadName, UnknownSignal, NoEdge, BadArc, RepeatedArc, BadWeight}
use Rattle.astg_read.specs.Lists.{has_repeat, firsts}
use Rattle.astg_read.specs.Rows.{Word, Row, begins, begins_with_dot}
use Rattle.astg_read.specs.Header.{Declared}
use Rattle.astg_read.specs.Nodes.{Node, node_of, is_node, is_unknown, is_signal, is_place_node, same_trans}
use Rattle.astg_read.specs.Targets.{Target, group_at, targets_after, words_in, group_weight, is_weight, is_good_group}
use Rattle.astg_read.specs.Graphs.{TextArc, text_arc_of, text_arcs_on, same_text_arc, same_place, is_between_places, weighs_trans, node_trans, node_place, place_between}
use Rattle.astg_read.specs.Said.{Said}
use Rattle.astg_read.specs.Markings.{is_unfinished}
use Rattle.astg_read.specs.Rules.{has_too_many, has_dummy}
use Rattle.astg_read.specs.inner.GraphRules.{name_fault, text_arc_fault}
use Rattle.astg_read.specs.inner.Growth.{after_row}
use Rattle.astg_read.proofs.NodeLemmas.{fault-by_text_arcs, after-nodes}
use Rattle.astg_lex.proofs.DecimalLemmas.{number-decimal}
use Rattle.astg_write.proofs.WrittenRows.{Aim, aim_words, weight_words}
use Rattle.astg_write.proofs.TakenRows.{IsTaken, verdict-good}
use Rattle.astg_write.proofs.NodeForms.{IsWordOf}

-- the weight as a text arc has it
abbrev pub given_weight : ℕ → Option ℕ
given_weight w = cond (nat_le w 1) None (Some w)

-- the arc's target stands for its node, and its weight is in range
pub record IsAimOf (limits : Limits) (d : Declared) (m : Node) (word : NetArc → Word) (node : NetArc → Node) (a : NetArc) : Type 0 where
  pub stands : IsWordOf d (word a) (node a)
  pub meets : (is_place_node m || is_place_node (node a)) ≡ true
  pub joins : (is_place_node m && is_place_node (node a)) ≡ false
  pub least : 1 ≤ a.weight
  pub most : a.weight ≤ limits.weight

-- the graph after a row
abbrev pub with_text_arcs_of : Said → Node → List TextArc → Said
with_text_arcs_of k m ps = record k {
  trans = firsts same_trans k.trans ((node_trans m ++ []) ++ flat_map (λ (p : TextArc). node_trans p.target) ps);
  places = firsts same_place k.places ((node_place m ++ []) ++ flat_map (λ (p : TextArc). node_place p.target ++ place_between p.source p.target) ps);
  text_arcs = k.text_arcs ++ ps;
}

take-none : (ws : Row) → take 0 ws ≡ []
take-none [] = refl
take-none (w ∷ ws) = refl

weight-read : (w : ℕ) → w < 1000000000 → group_weight (weight_words w) ≡ given_weight w
weight-read w h = by_case (nat_le w 1)
  where
    by_case : (b : Bool) → group_weight (cond b [] (codes "(" ∷ decimal w ∷ codes ")" ∷ [])) ≡ cond b None (Some w)
    by_case true = refl
    by_case false = number-decimal w h

module _ (limits : Limits) (fits : limits.weight < 1000000000) (d : Declared) (m : Node) (word : NetArc → Word) (node : NetArc → Node) where
  abbrev IsGood : NetArc → Type 0
  IsGood a = IsAimOf limits d m word node a

  abbrev pub aim_of : NetArc → Aim
  aim_of a = (word a, a.weight)

  abbrev pub target_of : NetArc → Target
  target_of a = record { word = Some (word a); group = weight_words a.weight }

  abbrev pub text_arc_to : NetArc → TextArc
  text_arc_to a = record { source = m; target = node a; weight = given_weight a.weight }

  abbrev rest_of : List NetArc → Row
  rest_of xs = aim_words (map aim_of xs)

  group-none : (xs : List NetArc) → All IsGood xs → group_at (rest_of xs) ≡ []
  group-none [] h = refl
  group-none (a ∷ xs) h = let g = All-head IsGood a xs h in
      ap (λ b. cond b (take 3 (word a ∷ (weight_words a.weight ++ rest_of xs))) []) g.stands.opens

  abbrev cut_by : Bool → Word → Row → List Target
  cut_by b w ws = cond b (record { word = None; group = take 3 (w ∷ ws) }) (record { word = Some w; group = group_at ws }) ∷ targets_after (cond b 2 (length (group_at ws))) ws

  cut-one : (a : NetArc) (xs : List NetArc) → All IsGood xs → targets_after zero (rest_of xs) ≡ map target_of xs → (b : Bool)
      → cut_by false (word a) (cond b [] (codes "(" ∷ decimal a.weight ∷ codes ")" ∷ []) ++ rest_of xs)
      ≡ record { word = Some (word a); group = cond b [] (codes "(" ∷ decimal a.weight ∷ codes ")" ∷ []) } ∷ map target_of xs
  cut-one a xs h e true = (λ j. record { word = Some (word a); group = group-none xs h j } ∷ targets_after (length (group-none xs h j)) (rest_of xs)) ∙ ap (λ ts. record { word = Some (word a); group = [] } ∷ ts) e
  cut-one a xs h e false =
      (λ j. record { word = Some (word a); group = codes "(" ∷ decimal a.weight ∷ codes ")" ∷ take-none (rest_of xs) j } ∷ targets_after (length (codes "(" ∷ decimal a.weight ∷ codes ")" ∷ take-none (rest_of xs) j)) (codes "(" ∷ decimal a.weight ∷ codes ")" ∷ rest_of xs))
      ∙ ap (λ ts. record { word = Some (word a); group = codes "(" ∷ decimal a.weight ∷ codes ")" ∷ [] } ∷ ts) e

  -- the targets of written words
  pub targets-cut : (xs : List NetArc) → All IsGood xs → targets_after zero (rest_of xs) ≡ map target_of xs
  targets-cut [] h = refl
  targets-cut (a ∷ xs) h =
      let g = All-head IsGood a xs h in
      let t = All-tail IsGood a xs h in
      ap (λ b. cut_by b (word a) (weight_words a.weight ++ rest_of xs)) g.stands.opens
      ∙ cut-one a xs t (targets-cut xs t) (nat_le a.weight 1)

  words-cut : (xs : List NetArc) → words_in (map target_of xs) ≡ map word xs
  words-cut [] = refl
  words-cut (a ∷ xs) = ap (λ ws. word a ∷ ws) (words-cut xs)

  text_arcs-cut : (source : Word) → node_of d source ≡ m → (xs : List NetArc) → All IsGood xs → filter_map (text_arc_of d source) (map target_of xs) ≡ map text_arc_to xs
  text_arcs-cut source e [] h = refl
  text_arcs-cut source e (a ∷ xs) h =
      let g = All-head IsGood a xs h in
      let rest = text_arcs-cut source e xs (All-tail IsGood a xs h) in
      let weight = weight-read a.weight (omega (arith, g.most, fits)) in
      (λ j. record { source = e j; target = g.stands.node j; weight = weight j } ∷ rest j)

  all-nodes : (xs : List NetArc) → All IsGood xs → list_all (is_node d) (map word xs) ≡ true
  all-nodes [] h = refl
  all-nodes (a ∷ xs) h = let g = All-head IsGood a xs h in and_from (is_node d (word a)) (list_all (is_node d) (map word xs)) g.stands.formed (all-nodes xs (All-tail IsGood a xs h))

  no-unknown : (xs : List NetArc) → All IsGood xs → list_any (is_unknown d) (map word xs) ≡ false
  no-unknown [] h = refl
  no-unknown (a ∷ xs) h = let g = All-head IsGood a xs h in or_from (is_unknown d (word a)) (list_any (is_unknown d) (map word xs)) g.stands.declared_there (no-unknown xs (All-tail IsGood a xs h))

  no-signal : (xs : List NetArc) → All IsGood xs → list_any (is_signal d) (map word xs) ≡ false
  no-signal [] h = refl
  no-signal (a ∷ xs) h = let g = All-head IsGood a xs h in or_from (is_signal d (word a)) (list_any (is_signal d) (map word xs)) g.stands.apart (no-signal xs (All-tail IsGood a xs h))

  no-joins : (xs : List NetArc) → All IsGood xs → list_any is_between_places (map text_arc_to xs) ≡ false
  no-joins [] h = refl
  no-joins (a ∷ xs) h = let g = All-head IsGood a xs h in or_from (is_place_node m && is_place_node (node a)) (list_any is_between_places (map text_arc_to xs)) g.joins (no-joins xs (All-tail IsGood a xs h))

  no-weighed : (xs : List NetArc) → All IsGood xs → list_any weighs_trans (map text_arc_to xs) ≡ false
  no-weighed [] h = refl
  no-weighed (a ∷ xs) h = let g = All-head IsGood a xs h in
      or_from (weighs_trans (text_arc_to a)) (list_any weighs_trans (map text_arc_to xs)) (and_right (is_some (given_weight a.weight)) (not (is_place_node m || is_place_node (node a))) (ap not g.meets)) (no-weighed xs (All-tail IsGood a xs h))

  group-good : (a : NetArc) → IsGood a → is_good_group limits.weight (target_of a) ≡ true
  group-good a g = by_case (nat_le a.weight 1)
    where
      by_case : (b : Bool) → is_good_group limits.weight (record { word = Some (word a); group = cond b [] (codes "(" ∷ decimal a.weight ∷ codes ")" ∷ []) }) ≡ true
      by_case true = refl
      by_case false = ap (is_weight limits.weight) (number-decimal a.weight (omega (arith, g.most, fits)))
          ∙ and_from (nat_le 1 a.weight) (nat_le a.weight limits.weight) (le-leb 1 a.weight g.least) (le-leb a.weight limits.weight g.most)

  all-good : (xs : List NetArc) → All IsGood xs → list_all (is_good_group limits.weight) (map target_of xs) ≡ true
  all-good [] h = refl
  all-good (a ∷ xs) h = and_from (is_good_group limits.weight (target_of a)) (list_all (is_good_group limits.weight) (map target_of xs)) (group-good a (All-head IsGood a xs h)) (all-good xs (All-tail IsGood a xs h))

  no-names : (source : Word) → IsWordOf d source m → (xs : List NetArc) → All IsGood xs → name_fault d (source ∷ words_in (map target_of xs)) ≡ None
  no-names source s xs h =
      let a = and_from (is_node d source) (list_all (is_node d) (map word xs)) s.formed (all-nodes xs h) in
      let b = or_from (is_unknown d source) (list_any (is_unknown d) (map word xs)) s.declared_there (no-unknown xs h) in
      let c = or_from (is_signal d source) (list_any (is_signal d) (map word xs)) s.apart (no-signal xs h) in
      ap (λ ws. name_fault d (source ∷ ws)) (words-cut xs)
      ∙ (λ j. cond (not (a j)) (Some BadName) (cond (b j) (Some UnknownSignal) (cond (c j) (Some NoEdge) None)))

  no-text_arcs : (old : List TextArc) (xs : List NetArc) → All IsGood xs → has_repeat same_text_arc old (map text_arc_to xs) ≡ false → text_arc_fault limits.weight old (map text_arc_to xs) (map target_of xs) ≡ None
  no-text_arcs old xs h again =
      let a = no-joins xs h in
      let b = or_from (not (list_all (is_good_group limits.weight) (map target_of xs))) (list_any weighs_trans (map text_arc_to xs)) (ap not (all-good xs h)) (no-weighed xs h) in
      (λ j. cond (a j) (Some BadArc) (cond (again j) (Some RepeatedArc) (cond (b j) (Some BadWeight) None)))

  module _ (k : Said) (declared_is : k.declared ≡ d) (stood : k.has_graph ≡ true) (no_marking : k.marking ≡ None) (source : Word) (s : IsWordOf d source m) (xs : List NetArc) (h : All IsGood xs) where
    text_arcs-are : text_arcs_on d (source ∷ rest_of xs) ≡ map text_arc_to xs
    text_arcs-are = ap (filter_map (text_arc_of d source)) (targets-cut xs h) ∙ text_arcs-cut source s.node xs h

    -- what the row says
    pub after-graph_row : after_row k (source ∷ rest_of xs) ≡ with_text_arcs_of k m (map text_arc_to xs)
    after-graph_row =
        after-nodes k source (rest_of xs) s.dot stood no_marking
        ∙ ap (λ x. record k {
          trans = firsts same_trans k.trans ((node_trans (node_of x source) ++ []) ++ flat_map (λ (p : TextArc). node_trans p.target) (text_arcs_on x (source ∷ rest_of xs)));
          places = firsts same_place k.places ((node_place (node_of x source) ++ []) ++ flat_map (λ (p : TextArc). node_place p.target ++ place_between p.source p.target) (text_arcs_on x (source ∷ rest_of xs)));
          text_arcs = k.text_arcs ++ text_arcs_on x (source ∷ rest_of xs);
        }) declared_is
        ∙ (λ j. record k {
          trans = firsts same_trans k.trans ((node_trans (s.node j) ++ []) ++ flat_map (λ (p : TextArc). node_trans p.target) (text_arcs-are j));
          places = firsts same_place k.places ((node_place (s.node j) ++ []) ++ flat_map (λ (p : TextArc). node_place p.target ++ place_between p.source p.target) (text_arcs-are j));
          text_arcs = k.text_arcs ++ text_arcs-are j;
        })

    -- the row breaks no rule
    pub graph_row-taken : has_repeat same_text_arc k.text_arcs (map text_arc_to xs) ≡ false → has_too_many limits (with_text_arcs_of k m (map text_arc_to xs)) ≡ false → IsTaken limits k (source ∷ rest_of xs)
    graph_row-taken again few = record {
      good = verdict-good limits k (source ∷ rest_of xs) (ap is_unfinished no_marking)
          (fault-by_text_arcs limits.weight k source (rest_of xs) (map target_of xs) s.dot
          (λ j. not (stood j) || is_some (no_marking j))
          (sym (targets-cut xs h)) (map text_arc_to xs) None
          (ap (λ x. name_fault x (source ∷ words_in (map target_of xs))) declared_is ∙ no-names source s xs h)
          (sym (text_arcs-cut source s.node xs h) ∙ ap (λ x. filter_map (text_arc_of x source) (map target_of xs)) (sym declared_is))
          (sym (no-text_arcs k.text_arcs xs h again)))
          (ap (has_too_many limits) after-graph_row ∙ few)
          (no-dummy source s.dot);
      goes_on = no-end source s.dot;
    }
      where
        no-end : (w : Word) → begins_with_dot w ≡ false → begins (codes ".end") (w ∷ rest_of xs) ≡ false
        no-end [] e = refl
        no-end (c ∷ cs) e = ap (λ b. b && bytes_eq cs (codes "end")) e

        no-dummy : (w : Word) → begins_with_dot w ≡ false → has_dummy (w ∷ rest_of xs) ≡ false
        no-dummy [] e = refl
        no-dummy (c ∷ cs) e = ap (λ b. (b && bytes_eq cs (codes "dummy")) && nat_lt 0 (length (rest_of xs))) e
