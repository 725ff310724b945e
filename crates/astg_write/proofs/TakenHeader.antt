-- The rows before the graph break no rule, and declare the net's signals.
use Rattle.std.proofs.Common.{◌≡◌, ◌≢◌, ◌+◌, ◌≤◌, ◌&&◌, ℕ, suc, List, [], ◌∷◌, ◌++◌, Bool, true, false, cond, not, length, map, filter, get_or, refl, sym, ap, subst, ◌∙◌, arith, inl, inr, All, AllPairs, None, append-nil, length-append}
use Rattle.std.proofs.lemmas.Bool.{or_from, cases_Bool, false≢true, false_from_ne_true}
use Rattle.std.proofs.lemmas.List.{get_or_append_left, get_or-append-add}
use Rattle.std.proofs.lemmas.List.Elements.{All-head, All-tail, All-filter}
use Rattle.std.proofs.lemmas.Slice.Eq.{bytes_eq-Decides}
use Rattle.std.specs.List.{list_any, list_all}
use Rattle.std.specs.Str.{bytes_eq}
use Rattle.std.specs.Prelude.{codes}
use Rattle.stg_net.specs.declared.limits.TheConstants.Limits.{PART}
use Rattle.stg_net.specs.declared.signal.Kind.{Kind}
use Rattle.stg_net.specs.declared.signal.Kind.TheVariants.{Input, Output, Internal}
use Rattle.stg_net.specs.declared.signal.Signal.{Signal}
use Rattle.stg_net.specs.Net.{NetLists, is_kind}
use Rattle.stg_net.specs.Names.{is_name}
use Rattle.astg_read.specs.declared.rule.Rule.TheVariants.{OutOfOrder, BadName, DeclaredTwice}
use Rattle.astg_read.specs.Lists.{has_repeat}
use Rattle.astg_read.specs.Rows.{Row, begins}
use Rattle.astg_read.specs.inner.NoDummies.{without_dummies}
use Rattle.astg_read.specs.Header.{signals_of, same_name}
use Rattle.astg_read.specs.Said.{Said}
use Rattle.astg_read.specs.Rules.{has_too_many, has_dummy}
use Rattle.astg_read.specs.inner.Growth.{after_row}
use Rattle.astg_read.specs.inner.LineResult.{line_fault, directive}
use Rattle.astg_read.proofs.Verdicts.{fault-names, fault-model, fault-graph, three}
use Rattle.astg_write.specs.ComponentText.{of_kind}
use Rattle.astg_write.proofs.WrittenRows.{names_in, names_rows, header_rows, model_row}
use Rattle.astg_write.proofs.TakenRows.{Takes, Takes-append, Takes-one, verdict-good}
use Rattle.astg_write.proofs.Listed.{again-none}
use Rattle.astg_write.proofs.Readable.{IsReadable}
use Rattle.astg_write.proofs.TakenNet.{few-enough, filter-none, in_graph_of}

-- what the lines before the graph say
abbrev pub heads : List Signal → Said
heads ss = record { has_graph = false; declared = without_dummies ss; trans = []; places = []; text_arcs = []; marking = None }

few-heads : (ss : List Signal) → length ss ≤ 250 → has_too_many PART (heads ss) ≡ false
few-heads ss h = few-enough (heads ss) h (omega arith) (omega arith) (omega arith)

pub takes-model : (part : ℕ) → Takes PART (heads []) (model_row part ∷ []) (heads [])
takes-model part = Takes-one PART (heads []) (heads []) (model_row part)
    (record { good = verdict-good PART (heads []) (model_row part) refl (fault-model PART.weight (heads []) (drop_one (model_row part))) (few-heads [] (omega arith)) refl; goes_on = refl }) refl
  where
    drop_one : Row → Row
    drop_one [] = []
    drop_one (w ∷ ws) = ws

kind-is : (k l : Kind) → is_kind k l ≡ true → k ≡ l
kind-is Input Input h = refl
kind-is Input Output h = absurd (false≢true h)
kind-is Input Internal h = absurd (false≢true h)
kind-is Output Input h = absurd (false≢true h)
kind-is Output Output h = refl
kind-is Output Internal h = absurd (false≢true h)
kind-is Internal Input h = absurd (false≢true h)
kind-is Internal Output h = absurd (false≢true h)
kind-is Internal Internal h = refl

-- the names of a kind stand for its signals
signals-back : (kind : Kind) (ss : List Signal) → signals_of kind (names_in kind ss) ≡ filter (of_kind kind) ss
signals-back kind [] = refl
signals-back kind (s ∷ ss) = elim (cases_Bool (of_kind kind s)) [
  | inl k ↦ ap (λ b. signals_of kind (map (λ (x : Signal). x.name) (cond b (s ∷ filter (of_kind kind) ss) (filter (of_kind kind) ss)))) k
      ∙ (λ j. record { name = s.name; kind = kind-is kind s.kind k j } ∷ signals-back kind ss j)
      ∙ sym (ap (λ b. cond b (s ∷ filter (of_kind kind) ss) (filter (of_kind kind) ss)) k)
  | inr k ↦ ap (λ b. signals_of kind (map (λ (x : Signal). x.name) (cond b (s ∷ filter (of_kind kind) ss) (filter (of_kind kind) ss)))) k
      ∙ signals-back kind ss
      ∙ sym (ap (λ b. cond b (s ∷ filter (of_kind kind) ss) (filter (of_kind kind) ss)) k)
]

after-names : (kind : Kind) (pre : List Signal) (names : Row) → after_row (heads pre) (directive kind ∷ names) ≡ heads (pre ++ signals_of kind names)
after-names Input pre names = refl
after-names Output pre names = refl
after-names Internal pre names = refl

names-end : (kind : Kind) (names : Row) → begins (codes ".end") (directive kind ∷ names) ≡ false
names-end Input names = refl
names-end Output names = refl
names-end Internal names = refl

names-dummy : (kind : Kind) (names : Row) → has_dummy (directive kind ∷ names) ≡ false
names-dummy Input names = refl
names-dummy Output names = refl
names-dummy Internal names = refl

all-names : (ss : List Signal) → All (λ (s : Signal). is_name s.name ≡ true) ss → list_all is_name (map (λ (s : Signal). s.name) ss) ≡ true
all-names [] h = refl
all-names (s ∷ ss) h = let P : Signal → Type 0 = λ x. is_name x.name ≡ true in
    ap (λ b. b && list_all is_name (map (λ (s : Signal). s.name) ss)) (All-head P s ss h) ∙ all-names ss (All-tail P s ss h)

takes-names : (kind : Kind) (pre ss : List Signal) → All (λ (s : Signal). is_name s.name ≡ true) ss → has_repeat same_name pre (filter (of_kind kind) ss) ≡ false → length (pre ++ filter (of_kind kind) ss) ≤ 250
    → Takes PART (heads pre) (names_rows (directive kind) kind ss) (heads (pre ++ filter (of_kind kind) ss))
takes-names kind pre ss named again few = elim (cases_Bool (list_any (of_kind kind) ss)) [
  | inl k ↦ subst (λ b. Takes PART (heads pre) (cond b ((directive kind ∷ names_in kind ss) ∷ []) []) (heads (pre ++ filter (of_kind kind) ss))) (sym k) there
  | inr k ↦ subst (λ b. Takes PART (heads pre) (cond b ((directive kind ∷ names_in kind ss) ∷ []) []) (heads (pre ++ filter (of_kind kind) ss))) (sym k)
      (ap heads (sym (append-nil pre)) ∙ ap (λ l. heads (pre ++ l)) (sym (filter-none (of_kind kind) ss k)))
]
  where
    after : after_row (heads pre) (directive kind ∷ names_in kind ss) ≡ heads (pre ++ filter (of_kind kind) ss)
    after = after-names kind pre (names_in kind ss) ∙ ap (λ l. heads (pre ++ l)) (signals-back kind ss)

    formed : list_all is_name (names_in kind ss) ≡ true
    formed = all-names (filter (of_kind kind) ss) (All-filter (of_kind kind) (λ (s : Signal). is_name s.name ≡ true) ss named)

    fault : line_fault PART.weight (heads pre) (directive kind ∷ names_in kind ss) ≡ None
    fault = fault-names PART.weight (heads pre) kind (names_in kind ss)
        ∙ (λ j. three false OutOfOrder (not (formed j)) BadName (has_repeat same_name pre (signals-back kind ss j)) DeclaredTwice)
        ∙ (λ j. three false OutOfOrder false BadName (again j) DeclaredTwice)

    there : Takes PART (heads pre) ((directive kind ∷ names_in kind ss) ∷ []) (heads (pre ++ filter (of_kind kind) ss))
    there = Takes-one PART (heads pre) (heads (pre ++ filter (of_kind kind) ss)) (directive kind ∷ names_in kind ss)
        (record {
          good = verdict-good PART (heads pre) (directive kind ∷ names_in kind ss) refl fault (ap (has_too_many PART) after ∙ few-heads (pre ++ filter (of_kind kind) ss) few) (names-dummy kind (names_in kind ss));
          goes_on = names-end kind (names_in kind ss);
        }) after

module _ {X : Type 0} (R : X → X → Type 0) where
  AllPairs-right : (xs ys : List X) → AllPairs R (xs ++ ys) → AllPairs R ys
  AllPairs-right [] ys h = h
  AllPairs-right (x ∷ xs) ys h = AllPairs-right xs ys (λ i j d l b. h (suc i) (suc j) d (omega (arith, l)) (omega (arith, b)))

  AllPairs-left : (xs ys : List X) → AllPairs R (xs ++ ys) → AllPairs R xs
  AllPairs-left xs ys h i j d l b =
      subst (λ x. R x (get_or xs j d)) (get_or_append_left xs ys d i (omega (arith, l, b)))
      (subst (R (get_or (xs ++ ys) i d)) (get_or_append_left xs ys d j b) (h i j d l (omega (arith, b, length-append xs ys))))

  none-before : (same : X → X → Bool) → ((x y : X) → R x y → same y x ≡ false) → (xs ys : List X) → AllPairs R (xs ++ ys) → All (λ y. list_any (same y) xs ≡ false) ys
  none-before same w [] ys h = λ k d b. refl
  none-before same w (x ∷ xs) ys h = λ k d b.
      or_from (same (get_or ys k d) x) (list_any (same (get_or ys k d)) xs)
      (w x (get_or ys k d) (subst (R x) (get_or-append-add xs ys k d) (h 0 (suc (length xs + k)) d (omega arith) (omega (arith, b, length-append xs ys)))))
      (none-before same w xs ys (λ i j e l c. h (suc i) (suc j) e (omega (arith, l)) (omega (arith, c))) k d b)

abbrev NamesDiffer : Signal → Signal → Type 0
NamesDiffer s t = s.name ≢ t.name

differ : (x y : Signal) → NamesDiffer x y → same_name y x ≡ false
differ x y h = false_from_ne_true (bytes_eq y.name x.name) (λ b. h (sym ((bytes_eq-Decides y.name x.name).0 b)))

not-again : (pre new : List Signal) → AllPairs NamesDiffer (pre ++ new) → has_repeat same_name pre new ≡ false
not-again pre new h = again-none same_name pre new (none-before NamesDiffer same_name differ pre new h)
    (λ i j d l b. differ (get_or new i d) (get_or new j d) (AllPairs-right NamesDiffer pre new h i j d l b))

module _ (prefix : List ℕ) (n : NetLists) (r : IsReadable prefix n) where
  -- the rows that declare the signals
  pub takes-header : Takes PART (heads []) (header_rows n.signals) (heads n.signals)
  takes-header =
      let i = filter (of_kind Input) n.signals in
      let o = filter (of_kind Output) n.signals in
      let l = filter (of_kind Internal) n.signals in
      let apart : AllPairs NamesDiffer (i ++ o ++ l) = subst (AllPairs NamesDiffer) r.by_kind r.is_net.signal_names in
      let most : length (i ++ o ++ l) ≤ 250 = subst (λ ss. length ss ≤ 250) r.by_kind r.within.signals in
      let first = AllPairs-left NamesDiffer (i ++ o) l apart in
      let long = length-append (i ++ o) l in
      let less = length-append i o in
      let a = takes-names Input [] n.signals r.formed.names (not-again [] i (AllPairs-left NamesDiffer i o first)) (omega (arith, most, long, less)) in
      let b = takes-names Output i n.signals r.formed.names (not-again i o first) (omega (arith, most, long)) in
      let c = takes-names Internal (i ++ o) n.signals r.formed.names (not-again (i ++ o) l apart) most in
      subst (λ ss. Takes PART (heads []) (header_rows n.signals) (heads ss)) (sym r.by_kind)
      (Takes-append PART (heads []) (heads (i ++ o)) (heads (i ++ o ++ l)) (names_rows (codes ".inputs") Input n.signals ++ names_rows (codes ".outputs") Output n.signals) (names_rows (codes ".internal") Internal n.signals)
      (Takes-append PART (heads []) (heads i) (heads (i ++ o)) (names_rows (codes ".inputs") Input n.signals) (names_rows (codes ".outputs") Output n.signals) a b) c)

  -- the row that begins the graph
  pub takes-graph : Takes PART (heads n.signals) ((codes ".graph" ∷ []) ∷ []) (in_graph_of n.signals [] [] [])
  takes-graph = Takes-one PART (heads n.signals) (in_graph_of n.signals [] [] []) (codes ".graph" ∷ [])
      (record {
        good = verdict-good PART (heads n.signals) (codes ".graph" ∷ []) refl (fault-graph PART.weight (heads n.signals) [])
            (few-enough (in_graph_of n.signals [] [] []) r.within.signals (omega arith) (omega arith) (omega arith)) refl;
        goes_on = refl;
      }) refl
