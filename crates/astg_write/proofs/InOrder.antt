-- What a net that has its order is like.
use Rattle.std.proofs.Common.{◌≡◌, ◌+◌, ◌<◌, ◌≤◌, ◌==◌, ◌&&◌, min, ℕ, zero, suc, List, [], ◌∷◌, ◌++◌, Bool, true, false, cond, length, map, filter, get_or, refl, sym, ap, subst, ◌∙◌, arith, inl, inr, All, AllPairs, append-nil}
use Rattle.std.proofs.lemmas.Bool.{cases_Bool, cases_eq, eqb-true, ne_eqb, eq-eqb, and_right, false≢true}
use Rattle.std.proofs.lemmas.List.{map-append, length-map}
use Rattle.std.proofs.lemmas.List.FromFn.{fill_by_all}
use Rattle.std.proofs.lemmas.List.Elements.{All-nil, All-cons, All-head, All-tail, All-append, filter-append}
use Rattle.std.proofs.lemmas.List.Kept.{AllPairs-cons}
use Rattle.std.specs.List.{range_with_len}
use Rattle.std.specs.Prelude.{slice_index}
use Rattle.stg_net.specs.declared.signal.Kind.{Kind}
use Rattle.stg_net.specs.declared.signal.Kind.TheVariants.{Input, Output, Internal}
use Rattle.stg_net.specs.declared.signal.Signal.{Signal}
use Rattle.stg_net.specs.declared.arc.NetArc.{NetArc}
use Rattle.stg_net.specs.Net.{NetLists, signal_at, is_kind}
use Rattle.stg_net.specs.Ordered.{listed_below, only_where, numbers_with, numbers_by, has_kind, signals_of_kind, signal_order, least_giver, first_giver, place_order, with_signal_number, with_place_number, arcs_at, arcs_moved, ordered}
use Rattle.stg_net.proofs.Buckets.{numbers_where-filter, All-listed_below}
use Rattle.stg_net.proofs.Orders.{place_order-IsOrder, length-order}
use Rattle.astg_write.specs.ComponentText.{of_kind}

map-filter : {X Y : Type 0} (f : X → Y) (p : Y → Bool) (xs : List X) → map f (filter (λ x. p (f x)) xs) ≡ filter p (map f xs)
map-filter f p [] = refl
map-filter f p (x ∷ xs) = by_case (p (f x)) (map-filter f p xs)
  where
    by_case : (b : Bool) → map f (filter (λ x. p (f x)) xs) ≡ filter p (map f xs) → map f (cond b (x ∷ filter (λ x. p (f x)) xs) (filter (λ x. p (f x)) xs)) ≡ cond b (f x ∷ filter p (map f xs)) (filter p (map f xs))
    by_case true rest = ap (λ l. f x ∷ l) rest
    by_case false rest = rest

-- the signals of a kind, by their numbers
of-kind : (ss : List Signal) (kind : Kind) → map (signal_at ss) (signals_of_kind ss kind) ≡ filter (of_kind kind) ss
of-kind ss kind =
    let d : Signal = record { name = []; kind = Input } in
    let all : ss ≡ map (λ k. get_or ss k d) (range_with_len 0 (length ss)) = fill_by_all (λ k. get_or ss k d) ss (length ss) d refl (λ k below. refl) in
    ap (map (signal_at ss)) (numbers_where-filter (has_kind ss kind) (length ss))
    ∙ map-filter (signal_at ss) (of_kind kind) (range_with_len 0 (length ss))
    ∙ ap (filter (of_kind kind)) (sym all)

filter-append_three : (p : Signal → Bool) (xs ys zs : List Signal) → filter p (xs ++ ys ++ zs) ≡ filter p xs ++ filter p ys ++ filter p zs
filter-append_three p xs ys zs = filter-append p (xs ++ ys) zs ∙ ap (λ l. l ++ filter p zs) (filter-append p xs ys)

cond-same : (b : Bool) (xs : List Signal) → cond b xs xs ≡ xs
cond-same true xs = refl
cond-same false xs = refl

-- those of one kind, once more by a kind
filter-kinds : (k l : Kind) (ss : List Signal) → ((s : Signal) → of_kind l s ≡ true → of_kind k s ≡ is_kind k l) → filter (of_kind k) (filter (of_kind l) ss) ≡ cond (is_kind k l) (filter (of_kind l) ss) []
filter-kinds k l [] w = sym (cond-same (is_kind k l) [])
filter-kinds k l (s ∷ ss) w = elim (cases_Bool (of_kind l s)) [
  | inl h ↦ ap (λ b. filter (of_kind k) (cond b (s ∷ filter (of_kind l) ss) (filter (of_kind l) ss))) h
      ∙ (λ j. cond (w s h j) (s ∷ filter-kinds k l ss w j) (filter-kinds k l ss w j))
      ∙ by_case (is_kind k l)
      ∙ sym (ap (λ b. cond (is_kind k l) (cond b (s ∷ filter (of_kind l) ss) (filter (of_kind l) ss)) []) h)
  | inr h ↦ ap (λ b. filter (of_kind k) (cond b (s ∷ filter (of_kind l) ss) (filter (of_kind l) ss))) h
      ∙ filter-kinds k l ss w
      ∙ sym (ap (λ b. cond (is_kind k l) (cond b (s ∷ filter (of_kind l) ss) (filter (of_kind l) ss)) []) h)
]
  where
    by_case : (b : Bool) → cond b (s ∷ cond b (filter (of_kind l) ss) []) (cond b (filter (of_kind l) ss) []) ≡ cond b (s ∷ filter (of_kind l) ss) []
    by_case true = refl
    by_case false = refl

kinds-apart : (k l m : Kind) → is_kind l m ≡ true → is_kind k m ≡ is_kind k l
kinds-apart k Input Input h = refl
kinds-apart k Input Output h = absurd (false≢true h)
kinds-apart k Input Internal h = absurd (false≢true h)
kinds-apart k Output Input h = absurd (false≢true h)
kinds-apart k Output Output h = refl
kinds-apart k Output Internal h = absurd (false≢true h)
kinds-apart k Internal Input h = absurd (false≢true h)
kinds-apart k Internal Output h = absurd (false≢true h)
kinds-apart k Internal Internal h = refl

-- the signals of an ordered net stand by their kinds
pub ordered-signals : (whole n : NetLists) → n ≡ ordered whole → n.signals ≡ filter (of_kind Input) n.signals ++ filter (of_kind Output) n.signals ++ filter (of_kind Internal) n.signals
ordered-signals whole n e =
    let ss = whole.signals in
    let i = filter (of_kind Input) ss in
    let o = filter (of_kind Output) ss in
    let l = filter (of_kind Internal) ss in
    let all : n.signals ≡ i ++ o ++ l =
    ap (λ (m : NetLists). m.signals) e
    ∙ map-append (signal_at ss) (signals_of_kind ss Input ++ signals_of_kind ss Output) (signals_of_kind ss Internal)
    ∙ ap (λ l. l ++ map (signal_at ss) (signals_of_kind ss Internal)) (map-append (signal_at ss) (signals_of_kind ss Input) (signals_of_kind ss Output))
    ∙ (λ j. of-kind ss Input j ++ of-kind ss Output j ++ of-kind ss Internal j) in
    let at : (k m : Kind) → filter (of_kind k) (filter (of_kind m) ss) ≡ cond (is_kind k m) (filter (of_kind m) ss) [] = λ k m. filter-kinds k m ss (λ s h. kinds-apart k m s.kind h) in
    let first : filter (of_kind Input) n.signals ≡ i = ap (filter (of_kind Input)) all ∙ filter-append_three (of_kind Input) i o l ∙ (λ j. at Input Input j ++ at Input Output j ++ at Input Internal j) ∙ append-nil (i ++ []) ∙ append-nil i in
    let second : filter (of_kind Output) n.signals ≡ o = ap (filter (of_kind Output)) all ∙ filter-append_three (of_kind Output) i o l ∙ (λ j. at Output Input j ++ at Output Output j ++ at Output Internal j) ∙ append-nil o in
    let third : filter (of_kind Internal) n.signals ≡ l = ap (filter (of_kind Internal)) all ∙ filter-append_three (of_kind Internal) i o l ∙ (λ j. at Internal Input j ++ at Internal Output j ++ at Internal Internal j) in
    all ∙ sym (λ j. first j ++ second j ++ third j)

least-append : (none p : ℕ) (xs ys : List NetArc) → least_giver none p (xs ++ ys) ≡ least_giver (least_giver none p ys) p xs
least-append none p [] ys = refl
least-append none p (a ∷ xs) ys = ap (λ k. cond (a.into && (a.place == p)) (min a.trans k) k) (least-append none p xs ys)

-- arcs of another place
least-other : (none p q o : ℕ) (arcs : List NetArc) → (q ≡ p → ⊥) → least_giver none p (map (with_place_number q) (arcs_at arcs o)) ≡ none
least-other none p q o [] h = refl
least-other none p q o (a ∷ arcs) h = by_case (a.place == o) (least-other none p q o arcs h)
  where
    by_case : (b : Bool) → least_giver none p (map (with_place_number q) (arcs_at arcs o)) ≡ none → least_giver none p (map (with_place_number q) (cond b (a ∷ arcs_at arcs o) (arcs_at arcs o))) ≡ none
    by_case true e = ap (λ b. cond b (min a.trans (least_giver none p (map (with_place_number q) (arcs_at arcs o)))) (least_giver none p (map (with_place_number q) (arcs_at arcs o)))) (and_right a.into (q == p) (ne_eqb q p h)) ∙ e
    by_case false e = e

-- arcs of the place under its new number
least-moved : (none p o : ℕ) (arcs : List NetArc) → least_giver none p (map (with_place_number p) (arcs_at arcs o)) ≡ least_giver none o arcs
least-moved none p o [] = refl
least-moved none p o (a ∷ arcs) = by_case (a.place == o) (least-moved none p o arcs)
  where
    by_case : (b : Bool) → least_giver none p (map (with_place_number p) (arcs_at arcs o)) ≡ least_giver none o arcs
        → least_giver none p (map (with_place_number p) (cond b (a ∷ arcs_at arcs o) (arcs_at arcs o))) ≡ cond (a.into && b) (min a.trans (least_giver none o arcs)) (least_giver none o arcs)
    by_case true e = (λ j. cond (a.into && eq-eqb p p refl j) (min a.trans (e j)) (e j))
    by_case false e = e ∙ sym (ap (λ b. cond b (min a.trans (least_giver none o arcs)) (least_giver none o arcs)) (and_right a.into false refl))

module _ (arcs : List NetArc) (order : List ℕ) (p : ℕ) where
  least-none : (none m : ℕ) → m ≤ p → least_giver none p (listed_below (arcs_moved arcs order) m) ≡ none
  least-none none zero h = refl
  least-none none (suc m) h =
      least-append none p (listed_below (arcs_moved arcs order) m) (arcs_moved arcs order m)
      ∙ ap (λ k. least_giver k p (listed_below (arcs_moved arcs order) m)) (least-other none p m (slice_index order m) arcs (λ e. absurd (omega (arith, e, h))))
      ∙ least-none none m (omega (arith, h))

  least-at : (none m : ℕ) → p < m → least_giver none p (listed_below (arcs_moved arcs order) m) ≡ least_giver none (slice_index order p) arcs
  least-at none zero h = absurd (omega (arith, h))
  least-at none (suc m) h =
      least-append none p (listed_below (arcs_moved arcs order) m) (arcs_moved arcs order m)
      ∙ elim (cases_eq m p) [
        | inl e ↦ ap (λ q. least_giver (least_giver none p (arcs_moved arcs order q)) p (listed_below (arcs_moved arcs order) m)) e
            ∙ least-none (least_giver none p (arcs_moved arcs order p)) m (omega (arith, e))
            ∙ least-moved none p (slice_index order p) arcs
        | inr d ↦ ap (λ k. least_giver k p (listed_below (arcs_moved arcs order) m)) (least-other none p m (slice_index order m) arcs d)
            ∙ least-at none m (omega (arith, h, d))
      ]

AllPairs-append : {X : Type 0} (R : X → X → Type 0) (xs ys : List X) → AllPairs R xs → AllPairs R ys → All (λ x. All (R x) ys) xs → AllPairs R (xs ++ ys)
AllPairs-append R [] ys h k c = k
AllPairs-append {X} R (x ∷ xs) ys h k c =
    let P : X → Type 0 = λ z. All (R z) ys in
    AllPairs-cons R x (xs ++ ys) (All-append (R x) xs ys (λ i d b. h 0 (suc i) d (omega arith) (omega (arith, b))) (All-head P x xs c))
    (AllPairs-append R xs ys (λ i j d l b. h (suc i) (suc j) d (omega (arith, l)) (omega (arith, b))) k (All-tail P x xs c))

module _ (key : ℕ → ℕ) (n : ℕ) where
  with-key : (t : ℕ) → All (λ k. key k ≡ t) (numbers_with key n t)
  with-key t = All-listed_below (λ k. key k ≡ t) (only_where (λ k. key k == t)) n (λ k b. by_case k)
    where
      by_case : (k : ℕ) → All (λ k. key k ≡ t) (only_where (λ k. key k == t) k)
      by_case k = elim (cases_Bool (key k == t)) [
        | inl e ↦ subst (λ b. All (λ k. key k ≡ t) (cond b (k ∷ []) [])) (sym e) (All-cons (λ k. key k ≡ t) k [] (eqb-true (key k) t e) (All-nil (λ k. key k ≡ t)))
        | inr e ↦ subst (λ b. All (λ k. key k ≡ t) (cond b (k ∷ []) [])) (sym e) (All-nil (λ k. key k ≡ t))
      ]

  keys-low : (m : ℕ) → All (λ k. key k < m) (numbers_by key n m)
  keys-low m = All-listed_below (λ k. key k < m) (numbers_with key n) m (λ t b k d c. let e = with-key t k d c in omega (arith, e, b))

  -- keys don't fall
  keys-rise : (m : ℕ) → AllPairs (λ i j. key i ≤ key j) (numbers_by key n m)
  keys-rise zero = λ i j d l b. absurd (omega (arith, b))
  keys-rise (suc m) = AllPairs-append (λ i j. key i ≤ key j) (numbers_by key n m) (numbers_with key n m) (keys-rise m)
      (λ i j d l b. omega (arith, with-key m i d (omega (arith, l, b)), with-key m j d b))
      (λ i d b k e c. omega (arith, keys-low m i d b, with-key m k e c))

-- the first givers of an ordered net's places don't fall
pub ordered-rising : (whole n : NetLists) → n ≡ ordered whole → (p q : ℕ) → p ≤ q → q < length n.tokens → first_giver n p ≤ first_giver n q
ordered-rising whole n e p q l b =
    let order = place_order whole in
    let long : length order ≡ length whole.tokens = length-order (length whole.tokens) order (place_order-IsOrder whole) in
    let count : length n.tokens ≡ length order = ap (λ (m : NetLists). length m.tokens) e ∙ length-map order (slice_index whole.tokens) in
    let trans : length n.trans ≡ length whole.trans = ap (λ (m : NetLists). length m.trans) e ∙ length-map whole.trans (with_signal_number (signal_order whole.signals)) in
    let at : (k : ℕ) → k < length order → first_giver n k ≡ first_giver whole (get_or order k 0) = λ k c.
    (λ j. least_giver (trans j) k ((e j).arcs)) ∙ least-at whole.arcs order k (length whole.trans) (length order) c in
    elim (cases_eq p q) [
      | inl s ↦ omega (arith, ap (first_giver n) s)
      | inr d ↦ (let k = keys-rise (first_giver whole) (length whole.tokens) (length whole.trans + 1) p q 0 (omega (arith, l, d)) (omega (arith, count, b)) in
          omega (arith, at p (omega (arith, l, b, count)), at q (omega (arith, b, count)), k))
    ]
