-- What the lines say grows by what each further line says.
use Rattle.std.proofs.Common.{◌≡◌, List, [], ◌∷◌, ◌++◌, Bool, true, false, cond, ◌||◌, inl, inr, filter, flat_map, refl, sym, ap, ◌∙◌, None, Some, Option, append_assoc, append-nil}
use Rattle.std.proofs.Math.Bool.{or-false}
use Rattle.std.proofs.lemmas.List.Folds.{list_any-append}
use Rattle.std.specs.List.{list_any}
use Rattle.astg_lex.proofs.FirstLemmas.{before-found, after-found, before-missing, after-missing, before-none, after-none, before-one, after-one}
use Rattle.std.proofs.lemmas.List.Concat.{flat_map-append}
use Rattle.std.proofs.lemmas.List.Elements.{filter-append}
use Rattle.std.proofs.lemmas.Bool.{cases_Bool}
use Rattle.std.proofs.Common.{option_map}
use Rattle.std.specs.Prelude.{codes}
use Rattle.astg_read.specs.Lists.{firsts, with_new}
use Rattle.astg_read.specs.Rows.{Row, begins, other_words, has_graph, header_rows, rows_after_graph, before_marking, words_of_marking, marking_words, graph_rows, is_graph_row}
use Rattle.astg_read.specs.Header.{Declared, declared_in, signals_on, dummies_on}
use Rattle.astg_read.specs.Nodes.{same_trans}
use Rattle.astg_read.specs.Graphs.{same_place, trans_on, places_on, text_arcs_on, transitions, places, text_arcs}
use Rattle.astg_read.specs.Said.{Said, said}
use Rattle.astg_read.specs.inner.Growth.{with_names, with_header, with_graph_row, after_graph, after_row}

-- the first new ones, and then the other ones
pub firsts-append : {X : Type 0} (same : X → X → Bool) (seen xs ys : List X) → firsts same seen (xs ++ ys) ≡ firsts same (firsts same seen xs) ys
firsts-append same seen [] ys = refl
firsts-append same seen (x ∷ xs) ys = firsts-append same (with_new same seen x) xs ys

none_some : {x : Row} → None ≡ Some x → ⊥
none_some e = cc

abbrev is_start : Row → Bool
is_start row = begins (codes ".graph") row

-- one more line may be .graph
graph-append : (rows : List Row) (row : Row) → has_graph (rows ++ row ∷ []) ≡ (has_graph rows || is_start row)
graph-append rows row = list_any-append is_start rows (row ∷ []) ∙ ap (λ b. has_graph rows || b) (or-false (is_start row))

-- where .graph stood, nothing is added to the lines before it
header-after : (rows : List Row) (row : Row) → has_graph rows ≡ true → header_rows (rows ++ row ∷ []) ≡ header_rows rows
header-after rows row h = before-found is_start rows (row ∷ []) h

after-after : (rows : List Row) (row : Row) → has_graph rows ≡ true → rows_after_graph (rows ++ row ∷ []) ≡ rows_after_graph rows ++ row ∷ []
after-after rows row h = after-found is_start rows (row ∷ []) h

-- where it didn't, the line joins the lines before it or is .graph itself
header-before : (rows : List Row) (row : Row) → has_graph rows ≡ false → header_rows (rows ++ row ∷ []) ≡ rows ++ cond (is_start row) [] (row ∷ [])
header-before rows row h = before-missing is_start rows (row ∷ []) h ∙ ap (λ rs. rows ++ rs) (before-one is_start row)

after-before : (rows : List Row) (row : Row) → has_graph rows ≡ false → rows_after_graph (rows ++ row ∷ []) ≡ []
after-before rows row h = after-missing is_start rows (row ∷ []) h ∙ after-one is_start row

abbrev is_marking : Row → Bool
is_marking row = begins (codes ".marking") row

-- the marking has begun exactly where .marking stood
marking-missing : (rows : List Row) → words_of_marking rows ≡ None → list_any is_marking rows ≡ false
marking-missing [] h = refl
marking-missing (r ∷ rows) h = elim (cases_Bool (is_marking r)) [
  | inl k ↦ absurd (none_some (sym h ∙ ap (λ b. cond b (Some (other_words r ++ flat_map (λ x. x) rows)) (words_of_marking rows)) k))
  | inr k ↦ ap (λ b. b || list_any is_marking rows) k ∙ marking-missing rows (sym (ap (λ b. cond b (Some (other_words r ++ flat_map (λ x. x) rows)) (words_of_marking rows)) k) ∙ h)
]

marking-found : (rows : List Row) (words : Row) → words_of_marking rows ≡ Some words → list_any is_marking rows ≡ true
marking-found [] words h = absurd (none_some h)
marking-found (r ∷ rows) words h = elim (cases_Bool (is_marking r)) [
  | inl k ↦ ap (λ b. b || list_any is_marking rows) k
  | inr k ↦ ap (λ b. b || list_any is_marking rows) k ∙ marking-found rows words (sym (ap (λ b. cond b (Some (other_words r ++ flat_map (λ x. x) rows)) (words_of_marking rows)) k) ∙ h)
]

-- before the marking
marking-before : (rows : List Row) (row : Row) → words_of_marking rows ≡ None → before_marking (rows ++ row ∷ []) ≡ before_marking rows ++ cond (is_marking row) [] (row ∷ [])
marking-before rows row h =
    let none = marking-missing rows h in
    before-missing is_marking rows (row ∷ []) none ∙ ap (λ rs. rows ++ rs) (before-one is_marking row) ∙ ap (λ rs. rs ++ cond (is_marking row) [] (row ∷ [])) (sym (before-none is_marking rows none))

words-before : (rows : List Row) (row : Row) → words_of_marking rows ≡ None → words_of_marking (rows ++ row ∷ []) ≡ cond (is_marking row) (Some (other_words row)) None
words-before [] row h = ap (λ ws. cond (is_marking row) (Some ws) None) (append-nil (other_words row))
words-before (r ∷ rows) row h = elim (cases_Bool (is_marking r)) [
  | inl k ↦ absurd (none_some (sym h ∙ ap (λ b. cond b (Some (other_words r ++ flat_map (λ x. x) rows)) (words_of_marking rows)) k))
  | inr k ↦ ap (λ b. cond b (Some (other_words r ++ flat_map (λ x. x) (rows ++ row ∷ []))) (words_of_marking (rows ++ row ∷ []))) k ∙ words-before rows row (sym (ap (λ b. cond b (Some (other_words r ++ flat_map (λ x. x) rows)) (words_of_marking rows)) k) ∙ h)
]

-- in the marking
marking-after : (rows : List Row) (row : Row) (words : Row) → words_of_marking rows ≡ Some words → before_marking (rows ++ row ∷ []) ≡ before_marking rows
marking-after rows row words h = before-found is_marking rows (row ∷ []) (marking-found rows words h)

join-more : (rows : List Row) (row : Row) → flat_map (λ x. x) (rows ++ row ∷ []) ≡ flat_map (λ x. x) rows ++ row
join-more [] row = append-nil row
join-more (r ∷ rows) row = ap (λ ws. r ++ ws) (join-more rows row) ∙ sym (append_assoc r (flat_map (λ x. x) rows) row)

words-after : (rows : List Row) (row : Row) (words : Row) → words_of_marking rows ≡ Some words → words_of_marking (rows ++ row ∷ []) ≡ Some (words ++ row)
words-after [] row words h = absurd (none_some h)
words-after (r ∷ rows) row words h = elim (cases_Bool (is_marking r)) [
  | inl k ↦ ap (λ b. cond b (Some (other_words r ++ flat_map (λ x. x) (rows ++ row ∷ []))) (words_of_marking (rows ++ row ∷ []))) k
      ∙ ap (λ ws. Some (other_words r ++ ws)) (join-more rows row) ∙ ap Some (sym (append_assoc (other_words r) (flat_map (λ x. x) rows) row))
      ∙ ap (option_map (λ ws. ws ++ row)) (sym (ap (λ b. cond b (Some (other_words r ++ flat_map (λ x. x) rows)) (words_of_marking rows)) k) ∙ h)
  | inr k ↦ ap (λ b. cond b (Some (other_words r ++ flat_map (λ x. x) (rows ++ row ∷ []))) (words_of_marking (rows ++ row ∷ []))) k ∙ words-after rows row words (sym (ap (λ b. cond b (Some (other_words r ++ flat_map (λ x. x) rows)) (words_of_marking rows)) k) ∙ h)
]

-- what holds of these four
abbrev known_by : Bool → Declared → List Row → Option Row → Said
known_by graph_stood d graph words = record {
  has_graph = graph_stood;
  declared = d;
  trans = transitions d graph;
  places = places d graph;
  text_arcs = text_arcs d graph;
  marking = words;
}

same_said : (b c : Bool) (ss ts : Declared) (rs qs : List Row) (v w : Option Row) → b ≡ c → ss ≡ ts → rs ≡ qs → v ≡ w → known_by b ss rs v ≡ known_by c ts qs w
same_said b c ss ts rs qs v w p q r s = λ j. known_by (p j) (q j) (r j) (s j)

-- what these lines declare
abbrev by_rows : List Row → Declared
by_rows rows = record { signals = flat_map signals_on rows; dummies = flat_map dummies_on rows }

-- what is declared grows by one line
by_rows-after : (rows : List Row) (row : Row) → by_rows (rows ++ row ∷ []) ≡ with_names (by_rows rows) row
by_rows-after rows row =
    let s = flat_map-append signals_on rows (row ∷ []) ∙ ap (λ ss. flat_map signals_on rows ++ ss) (append-nil (signals_on row)) in
    let t = flat_map-append dummies_on rows (row ∷ []) ∙ ap (λ ss. flat_map dummies_on rows ++ ss) (append-nil (dummies_on row)) in
    (λ j. record { signals = s j; dummies = t j })

abbrev Grows : List Row → Row → Type 0
Grows rows row = said (rows ++ row ∷ []) ≡ after_row (said rows) row

grows-header : (rows : List Row) (row : Row) → has_graph rows ≡ false → Grows rows row
grows-header rows row h =
    let graph : graph_rows (rows ++ row ∷ []) ≡ graph_rows rows = ap (λ rs. filter is_graph_row (before_marking rs)) (after-before rows row h ∙ sym (after-none is_start rows h)) in
    let words : marking_words (rows ++ row ∷ []) ≡ marking_words rows = ap words_of_marking (after-before rows row h ∙ sym (after-none is_start rows h)) in
    let names : declared_in rows ≡ by_rows rows = ap by_rows (before-none is_start rows h) in
    let whole = ap (λ b. cond b (after_graph (said rows) (marking_words rows) row) (with_header (said rows) row)) h in
    elim (cases_Bool (is_start row)) [
      | inl k ↦ same_said (has_graph (rows ++ row ∷ [])) true (declared_in (rows ++ row ∷ [])) (declared_in rows) (graph_rows (rows ++ row ∷ [])) (graph_rows rows) (marking_words (rows ++ row ∷ [])) (marking_words rows)
          (graph-append rows row ∙ ap (λ b. b || is_start row) h ∙ k)
          (ap by_rows (header-before rows row h) ∙ ap (λ b. by_rows (rows ++ cond b [] (row ∷ []))) k ∙ ap by_rows (append-nil rows) ∙ sym names)
          graph words
          ∙ sym (whole ∙ ap (λ b. cond b (record (said rows) { has_graph = true }) (record (said rows) { declared = with_names (declared_in rows) row })) k)
      | inr k ↦
          let none : graph_rows rows ≡ [] = ap (λ rs. filter is_graph_row (before_marking rs)) (after-none is_start rows h) in
          same_said (has_graph (rows ++ row ∷ [])) (has_graph rows) (declared_in (rows ++ row ∷ [])) (with_names (declared_in rows) row) (graph_rows (rows ++ row ∷ [])) [] (marking_words (rows ++ row ∷ [])) (marking_words rows)
          (graph-append rows row ∙ ap (λ b. b || is_start row) h ∙ k ∙ sym h)
          (ap by_rows (header-before rows row h) ∙ ap (λ b. by_rows (rows ++ cond b [] (row ∷ []))) k ∙ by_rows-after rows row ∙ ap (λ d. with_names d row) (sym names))
          (graph ∙ none) words
          ∙ ap (λ g. record (known_by (has_graph rows) (declared_in rows) g (marking_words rows)) { declared = with_names (declared_in rows) row }) (sym none)
          ∙ sym (whole ∙ ap (λ b. cond b (record (said rows) { has_graph = true }) (record (said rows) { declared = with_names (declared_in rows) row })) k)
    ]

-- a line of the graph adds its transitions, places and text arcs
graph-more : (signals : Declared) (graph : List Row) (row : Row) (b : Bool) (words : Option Row) → known_by b signals (graph ++ row ∷ []) words ≡ with_graph_row (known_by b signals graph words) row
graph-more signals graph row b words =
    let t : transitions signals (graph ++ row ∷ []) ≡ firsts same_trans (transitions signals graph) (trans_on signals row) = ap (firsts same_trans []) (flat_map-append (trans_on signals) graph (row ∷ []) ∙ ap (λ ts. flat_map (trans_on signals) graph ++ ts) (append-nil (trans_on signals row))) ∙ firsts-append same_trans [] (flat_map (trans_on signals) graph) (trans_on signals row) in
    let p : places signals (graph ++ row ∷ []) ≡ firsts same_place (places signals graph) (places_on signals row) = ap (firsts same_place []) (flat_map-append (places_on signals) graph (row ∷ []) ∙ ap (λ ts. flat_map (places_on signals) graph ++ ts) (append-nil (places_on signals row))) ∙ firsts-append same_place [] (flat_map (places_on signals) graph) (places_on signals row) in
    let a : text_arcs signals (graph ++ row ∷ []) ≡ text_arcs signals graph ++ text_arcs_on signals row = flat_map-append (text_arcs_on signals) graph (row ∷ []) ∙ ap (λ ts. text_arcs signals graph ++ ts) (append-nil (text_arcs_on signals row)) in
    (λ j. record { has_graph = b; declared = signals; trans = t j; places = p j; text_arcs = a j; marking = words })

grows-graph : (rows : List Row) (row : Row) → has_graph rows ≡ true → (words : Option Row) → words_of_marking (rows_after_graph rows) ≡ words → Grows rows row
grows-graph rows row h (Some words) e =
    let after = after-after rows row h in
    same_said (has_graph (rows ++ row ∷ [])) (has_graph rows) (declared_in (rows ++ row ∷ [])) (declared_in rows) (graph_rows (rows ++ row ∷ [])) (graph_rows rows) (marking_words (rows ++ row ∷ [])) (Some (words ++ row))
    (graph-append rows row ∙ ap (λ b. b || is_start row) h ∙ sym h)
    (ap by_rows (header-after rows row h))
    (ap (λ rs. filter is_graph_row (before_marking rs)) after ∙ ap (filter is_graph_row) (marking-after (rows_after_graph rows) row words e))
    (ap words_of_marking after ∙ words-after (rows_after_graph rows) row words e)
    ∙ sym (ap (λ b. cond b (after_graph (said rows) (marking_words rows) row) (with_header (said rows) row)) h ∙ ap (λ w. after_graph (said rows) w row) e)
grows-graph rows row h None e =
    let after = after-after rows row h in
    let whole = ap (λ b. cond b (after_graph (said rows) (marking_words rows) row) (with_header (said rows) row)) h ∙ ap (λ w. after_graph (said rows) w row) e in
    let stood : has_graph (rows ++ row ∷ []) ≡ has_graph rows = graph-append rows row ∙ ap (λ b. b || is_start row) h ∙ sym h in
    let signals : declared_in (rows ++ row ∷ []) ≡ declared_in rows = ap by_rows (header-after rows row h) in
    let graph : graph_rows (rows ++ row ∷ []) ≡ graph_rows rows ++ filter is_graph_row (cond (is_marking row) [] (row ∷ [])) =
    ap (λ rs. filter is_graph_row (before_marking rs)) after ∙ ap (filter is_graph_row) (marking-before (rows_after_graph rows) row e) ∙ filter-append is_graph_row (before_marking (rows_after_graph rows)) (cond (is_marking row) [] (row ∷ [])) in
    let words : marking_words (rows ++ row ∷ []) ≡ cond (is_marking row) (Some (other_words row)) None = ap words_of_marking after ∙ words-before (rows_after_graph rows) row e in
    elim (cases_Bool (is_marking row)) [
      | inl k ↦ same_said (has_graph (rows ++ row ∷ [])) (has_graph rows) (declared_in (rows ++ row ∷ [])) (declared_in rows) (graph_rows (rows ++ row ∷ [])) (graph_rows rows) (marking_words (rows ++ row ∷ [])) (Some (other_words row))
          stood signals
          (graph ∙ ap (λ b. graph_rows rows ++ filter is_graph_row (cond b [] (row ∷ []))) k ∙ append-nil (graph_rows rows))
          (words ∙ ap (λ b. cond b (Some (other_words row)) None) k)
          ∙ sym (whole ∙ ap (λ b. cond b (record (said rows) { marking = Some (other_words row) }) (cond (is_graph_row row) (with_graph_row (said rows) row) (said rows))) k)
      | inr k ↦
          let others = ap (λ b. cond b (record (said rows) { marking = Some (other_words row) }) (cond (is_graph_row row) (with_graph_row (said rows) row) (said rows))) k in
          let no_marking = words ∙ ap (λ b. cond b (Some (other_words row)) None) k ∙ sym e in
          elim (cases_Bool (is_graph_row row)) [
            | inl g ↦ same_said (has_graph (rows ++ row ∷ [])) (has_graph rows) (declared_in (rows ++ row ∷ [])) (declared_in rows) (graph_rows (rows ++ row ∷ [])) (graph_rows rows ++ row ∷ []) (marking_words (rows ++ row ∷ [])) (marking_words rows)
                stood signals (graph ∙ ap (λ b. graph_rows rows ++ filter is_graph_row (cond b [] (row ∷ []))) k ∙ ap (λ b. graph_rows rows ++ cond b (row ∷ []) []) g) no_marking
                ∙ graph-more (declared_in rows) (graph_rows rows) row (has_graph rows) (marking_words rows)
                ∙ sym (whole ∙ others ∙ ap (λ b. cond b (with_graph_row (said rows) row) (said rows)) g)
            | inr g ↦ same_said (has_graph (rows ++ row ∷ [])) (has_graph rows) (declared_in (rows ++ row ∷ [])) (declared_in rows) (graph_rows (rows ++ row ∷ [])) (graph_rows rows) (marking_words (rows ++ row ∷ [])) (marking_words rows)
                stood signals (graph ∙ ap (λ b. graph_rows rows ++ filter is_graph_row (cond b [] (row ∷ []))) k ∙ ap (λ b. graph_rows rows ++ cond b (row ∷ []) []) g ∙ append-nil (graph_rows rows)) no_marking
                ∙ sym (whole ∙ others ∙ ap (λ b. cond b (with_graph_row (said rows) row) (said rows)) g)
          ]
    ]

-- what the lines say with one more is what they said, and what that one says
pub said-after : (rows : List Row) (row : Row) → said (rows ++ row ∷ []) ≡ after_row (said rows) row
said-after rows row = elim (cases_Bool (has_graph rows)) [
  | inl h ↦ grows-graph rows row h (words_of_marking (rows_after_graph rows)) refl
  | inr h ↦ grows-header rows row h
]
