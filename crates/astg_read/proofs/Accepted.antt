-- Each text that breaks no rule stands for one specification.
use Rattle.std.proofs.Common.{◌≡◌, ◌+◌, ◌≤◌, ◌<◌, ℕ, List, [], ◌∷◌, ◌++◌, true, false, cond, map, drop, length, get_or, nat_lt, All, refl, sym, ap, subst, ◌∙◌, inl, inr, None, Some, Option, Result, Ok, Err, arith}
use Rattle.std.specs.List.{list_all}
use Rattle.std.proofs.lemmas.Bool.{cases_Bool, and_parts, ltb-true, true≢false}
use Rattle.std.proofs.lemmas.List.{length-map}
use Rattle.std.proofs.lemmas.List.Elements.{All-nil, All-cons}
use Rattle.std.proofs.lemmas.List.Sorted.{All-permutation, length_permutation}
use Rattle.std.proofs.lemmas.Slice.Eq.{bytes_eq-Decides}
use Rattle.stg_net.specs.declared.limits.Limits.{Limits}
use Rattle.stg_net.specs.declared.trans.TransName.{TransName}
use Rattle.stg_net.specs.Net.{NetLists, IsNet, IsWithin}
use Rattle.stg_net.specs.Spec.{SpecLists, IsSpec}
use Rattle.astg_lex.specs.Lines.{lines_of, line_ends}
use Rattle.astg_read.specs.declared.rule.Rule.{Rule}
use Rattle.astg_read.specs.declared.rule.Rule.TheVariants.{BadByte, TooLong}
use Rattle.astg_read.specs.ReadLimits.{AreLimits}
use Rattle.astg_read.specs.inner.Construction.{IsBuilt}
use Rattle.astg_read.specs.Graphs.{PlaceAt}
use Rattle.astg_read.specs.Header.{same_name}
use Rattle.astg_read.specs.Said.{Said, said, arcs_in}
use Rattle.astg_read.specs.inner.Growth.{GraphLists, after_row}
use Rattle.astg_read.specs.Laws.{StandsForOne}
use Rattle.astg_read.specs.Nodes.{same_trans}
use Rattle.astg_read.specs.Reading.{Meaning, Fault, tokens_by, meaning_of, or_fault, reading_after, reading, place_name, IsSpecOf}
use Rattle.astg_read.specs.Rows.{Row}
use Rattle.astg_read.specs.Rules.{Line, seen_line, rules, first_broken, broken_by, ends_text}
use Rattle.astg_read.specs.inner.WellFormed.{is_trans_in}
use Rattle.astg_read.specs.inner.LineResult.{IsFaultless, verdict, said_up_to}
use Rattle.astg_read.proofs.ArcOrder.{IsOrderOf, order_of}
use Rattle.astg_read.proofs.ArcsThere.{IsFit, arcs_fit, arcs_apart, differ_pairs}
use Rattle.astg_read.proofs.ConstructionLemmas.{counts-within, counts-fit, spec-from}
use Rattle.astg_read.proofs.FinishLemmas.{tokens-good}
use Rattle.astg_read.proofs.Faultless.{faultless-after, faultless-nothing}
use Rattle.astg_read.proofs.NumberLemmas.{same_trans-refl}
use Rattle.astg_read.proofs.OneSpec.{one_spec}
use Rattle.astg_read.proofs.GrowthLemmas.{said-after}
use Rattle.astg_read.proofs.LineResultLemmas.{broken-head}
use Rattle.astg_read.proofs.Verdicts.{past, stop}

-- what the lines up to .end say, which keeps to the rules
record IsSaid (limits : Limits) (m : Meaning) : Type 0 where
  k : Said
  kept : IsFaultless limits k
  means : meaning_of k ≡ m

same_ok : (m n : Meaning) → ◌≡◌ {A = Result Meaning Fault} (Ok m) (Ok n) → m ≡ n
same_ok m n e = cc

module _ (limits : Limits) (last : ℕ) where
  -- a line that breaks no rule has none of its tests true
  none_broken : (before : List Row) (l : Line) → broken_by false limits before l ≡ None
      → verdict limits (said before) l.words ≡ None
  none_broken before l none =
      let bad = (broken-head (l.is_bad, BadByte) (drop 1 (rules false limits (said before) (said (before ++ l.words ∷ [])) l)) none).0 in
      let same : l ≡ record { is_bad = false; words = l.words } = λ i. record { is_bad = bad i; words = l.words } in
      sym (ap (λ w. first_broken (rules false limits (said before) w (record { is_bad = false; words = l.words }))) (said-after before l.words))
      ∙ sym (ap (λ x. first_broken (rules false limits (said before) (said (before ++ l.words ∷ [])) x)) same)
      ∙ none

  -- what comes of the lines after this one, where it breaks no rule
  abbrev later : List Row → Line → List Line → Result Meaning Fault
  later before l ls =
      cond (ends_text (said before) l.words) (Ok (meaning_of (said before))) (reading_after false limits last (before ++ l.words ∷ []) ls)

  -- a line that breaks a rule is a fault
  broken_fault : (before : List Row) (l : Line) (ls : List Line) (m : Meaning) (o : Option Rule)
      → or_fault (length before + 1) o (later before l ls) ≡ Ok m
      → (o ≡ None) × (later before l ls ≡ Ok m)
  broken_fault before l ls m None e = (refl, e)
  broken_fault before l ls m (Some rule) e = absurd (cc)

  -- the text ends here, or goes on with the line taken
  said_next : (before : List Row) (l : Line) (ls : List Line) (m : Meaning)
      → IsFaultless limits (said before) → reading_after false limits last before (l ∷ ls) ≡ Ok m
      → (IsFaultless limits (said (before ++ l.words ∷ [])) → reading_after false limits last (before ++ l.words ∷ []) ls ≡ Ok m → IsSaid limits m) → IsSaid limits m
  said_next before l ls m kept e rest =
      let k = said before in
      let parts = broken_fault before l ls m (broken_by false limits before l) e in
      let after = reading_after false limits last (before ++ l.words ∷ []) ls in
      elim (cases_Bool (ends_text k l.words)) [
        | inl ends ↦ record { k = k; kept = kept; means = same_ok (meaning_of k) m (sym (stop (ends_text k l.words) (Ok (meaning_of k)) after ends) ∙ parts.1) }
        | inr goes ↦
            let P : Said → Type 0 = λ k. IsFaultless limits k in
            let taken_is : said_up_to k l.words ≡ said (before ++ l.words ∷ []) = past (ends_text k l.words) k (after_row k l.words) goes ∙ sym (said-after before l.words) in
            rest (subst P taken_is (faultless-after limits k l.words kept (none_broken before l parts.0))) (sym (past (ends_text k l.words) (Ok (meaning_of k)) after goes) ∙ parts.1)
      ]

  -- what lines without a fault mean is what they say
  said_after : (before : List Row) (ls : List Line) (m : Meaning) → IsFaultless limits (said before)
      → reading_after false limits last before ls ≡ Ok m → IsSaid limits m
  said_after before [] m kept e = absurd (cc)
  said_after before (l ∷ ls) m kept e =
      said_next before l ls m kept e (λ kept e. said_after (before ++ l.words ∷ []) ls m kept e)

-- what a text without a fault means is what its lines say
meaning_said : (limits : Limits) (text : List ℕ) (m : Meaning) → reading false limits text ≡ Ok m
    → IsSaid limits m
meaning_said limits text m e = elim (cases_Bool (nat_lt limits.bytes (length text))) [
  | inl long ↦
      absurd (let f : Err (record { rule = TooLong; line = 0 }) ≡ Ok m = sym (stop (nat_lt limits.bytes (length text)) (Err (record { rule = TooLong; line = 0 })) (reading_after false limits (line_ends text + 1) [] (map seen_line (lines_of text))) long) ∙ e in cc)
  | inr short ↦
      said_after limits (line_ends text + 1) [] (map seen_line (lines_of text)) m (faultless-nothing limits)
      (sym (past (nat_lt limits.bytes (length text)) (Err (record { rule = TooLong; line = 0 })) (reading_after false limits (line_ends text + 1) [] (map seen_line (lines_of text))) short) ∙ e)
]

module _ (limits : Limits) (are_limits : AreLimits limits) (k : Said) (kept : IsFaultless limits k) where
  abbrev graph : GraphLists
  graph = record { trans = k.trans; places = k.places; text_arcs = k.text_arcs }

  -- the arcs in the order of a net
  arc_order : IsOrderOf (arcs_in k)
  arc_order =
      order_of (arcs_in k) (arcs_apart k.trans k.places k.text_arcs kept.well_formed.text_arcs_there kept.well_formed.text_arcs_differ)

  abbrev net : NetLists
  net =
      record { signals = k.declared.signals; trans = k.trans; tokens = map (tokens_by k.declared k.marking) k.places; arcs = arc_order.list }

  abbrev spec : SpecLists
  spec = record { net = net; place_names = map (place_name k.trans) k.places }

  places_are : length net.tokens ≡ length k.places
  places_are = length-map k.places (tokens_by k.declared k.marking)

  fit : All (IsFit limits.weight (length k.places) (length k.trans)) arc_order.list
  fit =
      All-permutation (IsFit limits.weight (length k.places) (length k.trans)) (arcs_in k) arc_order.list arc_order.moved
      (arcs_fit k.trans k.places limits.weight are_limits.least k.text_arcs kept.well_formed.text_arcs_there kept.well_formed.weighed)

  signals_there : (ts : List TransName) → list_all (is_trans_in (length k.declared.signals)) ts ≡ true → All (λ (t : TransName). t.signal < length k.declared.signals) ts
  signals_there [] h = All-nil (λ (t : TransName). t.signal < length k.declared.signals)
  signals_there (t ∷ ts) h =
      let q = and_parts (is_trans_in (length k.declared.signals) t) (list_all (is_trans_in (length k.declared.signals)) ts) h in
      let r = and_parts (nat_lt t.signal (length k.declared.signals)) (nat_lt t.index 1000000000) q.0 in
      All-cons (λ (t : TransName). t.signal < length k.declared.signals) t ts (ltb-true t.signal (length k.declared.signals) r.0) (signals_there ts q.1)

  -- these lists are a net
  net_is : IsNet net
  net_is = record {
    signal_names = λ i j d lt below same. true≢false (sym ((bytes_eq-Decides _ _).1 (sym same)) ∙ differ_pairs same_name k.declared.signals kept.well_formed.names_differ i j d lt below);
    trans_names = λ i j d lt below same. true≢false (sym (ap (λ t. same_trans t (get_or k.trans i d)) (sym same) ∙ same_trans-refl (get_or k.trans i d)) ∙ differ_pairs same_trans k.trans kept.well_formed.trans_differ i j d lt below);
    trans_signals = signals_there k.trans kept.well_formed.trans_there;
    arcs = λ i d below. let a = (fit i d below).arc in record { place_there = omega (arith, a.place_there, places_are); trans_there = a.trans_there; positive = a.positive };
    ordered = arc_order.ordered;
    signals_fit = omega (arith, kept.few, are_limits.signals);
    trans_fit = (counts-fit limits k.declared.signals graph are_limits kept.counts).0;
    places_fit = omega (arith, places_are, (counts-fit limits k.declared.signals graph are_limits kept.counts).1);
  }

  -- within the limits
  net_within : IsWithin limits net
  net_within =
      let counts = counts-within limits k.declared.signals graph kept.counts in record {
        signals = kept.few;
        trans = counts.0;
        places = omega (arith, places_are, counts.1);
        arcs = omega (arith, length_permutation (arcs_in k) arc_order.list arc_order.moved, counts.2);
        tokens = tokens_within k.places;
        weights = λ i d below. (fit i d below).bounded;
      }
    where
      tokens_within : (ps : List PlaceAt) → All (λ n. n ≤ limits.weight) (map (tokens_by k.declared k.marking) ps)
      tokens_within [] = All-nil (λ n. n ≤ limits.weight)
      tokens_within (p ∷ ps) =
          All-cons (λ n. n ≤ limits.weight) (tokens_by k.declared k.marking p) (map (tokens_by k.declared k.marking) ps) (tokens-good limits.weight k p k.marking refl kept.good) (tokens_within ps)

  built : IsBuilt k.declared.signals graph (map (tokens_by k.declared k.marking) k.places) spec
  built =
      record { signals_are = refl; trans_are = refl; tokens_are = refl; arcs_are = arc_order.moved; is_net = net_is; names_are = refl }

  -- they are a specification
  spec_is : IsSpec spec
  spec_is =
      spec-from limits limits.weight k.declared.signals graph (tokens_by k.declared k.marking) net (map (place_name k.trans) k.places) are_limits
      (record { named = kept.well_formed.named; names_differ = kept.well_formed.names_differ; trans_differ = kept.well_formed.trans_differ; trans_there = kept.well_formed.trans_there; places_there = kept.well_formed.places_there; weighed = kept.well_formed.weighed; text_arcs_there = kept.well_formed.text_arcs_there; text_arcs_differ = kept.well_formed.text_arcs_differ })
      net_within built

  -- that of what the lines mean
  spec_of : IsSpecOf (meaning_of k) spec
  spec_of =
      record { signals = refl; trans = refl; tokens = refl; arcs = arc_order.moved; is_net = net_is; place_names = refl }

-- each text that breaks no rule stands for one specification
pub accepted_stands : (limits : Limits) (text : List ℕ) (m : Meaning) → AreLimits limits
    → reading false limits text ≡ Ok m → StandsForOne limits text
accepted_stands limits text m are_limits e =
    let s = meaning_said limits text m e in
    let is : IsSpecOf m (spec limits are_limits s.k s.kept) = subst (λ x. IsSpecOf x (spec limits are_limits s.k s.kept)) s.means (spec_of limits are_limits s.k s.kept) in
    record {
      spec = spec limits are_limits s.k s.kept;
      is_spec = spec_is limits are_limits s.k s.kept;
      within = net_within limits are_limits s.k s.kept;
      stands = record { meaning = m; reads = e; is = is };
      only = λ other stands. one_spec m other (spec limits are_limits s.k s.kept) (subst (λ x. IsSpecOf x other) (same_ok stands.meaning m (sym stands.reads ∙ e)) stands.is) is;
    }
