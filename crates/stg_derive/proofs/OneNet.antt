-- The net of a draft is one: its lists are told by the draft.
use Rattle.std.proofs.Common.{◌≡◌, ℕ, zero, suc, ◌+◌, ◌<◌, ◌≤◌, ◌⊎◌, Bool, true, false, List, [], ◌∷◌, length, get_or, All, AllPairs, Some, None, refl, sym, ap, ◌∙◌, inl, inr, arith}
use Rattle.std.specs.List.{range_with_len}
use Rattle.std.proofs.lemmas.Bool.{cases_order, false≢true, false_from_ne_true}
use Rattle.std.proofs.lemmas.List.{same_lists, length-map, get_or_default}
use Rattle.std.proofs.lemmas.List.FromFn.{length-map-range_with_len}
use Rattle.stg_net.specs.declared.arc.NetArc.{NetArc}
use Rattle.stg_net.specs.declared.signal.Kind.TheVariants.{Input}
use Rattle.stg_net.specs.declared.signal.Signal.{Signal}
use Rattle.stg_net.specs.Graph.{FullName, tokens_at, takes, gives}
use Rattle.stg_net.specs.Initial.{graph_of, place_of, full_name, weight_of}
use Rattle.stg_net.specs.Net.{NetLists, IsNet, IsBefore, trans_at}
use Rattle.stg_net.proofs.Signals.{one_signal}
use Rattle.stg_net.proofs.Weights.{Connects, share, connects_parts, connects_whole, weight_of-cons, weight_of-none, share_here, tokens_at-initial, takes-graph_of, gives-graph_of, full_name_at-graph_of}
use Rattle.stg_derive.specs.Laws.{NetIsOne}

-- one of two arcs is before the other, or they join the same two in the same way
order_into : (x y : NetArc) (b c : Bool) → x.into ≡ b → y.into ≡ c → x.place ≡ y.place → x.trans ≡ y.trans → IsBefore x y ⊎ (IsBefore y x ⊎ Connects x.into x.trans x.place y)
order_into x y false true e f p t = inl (inr (p, inr (t, (e, f))))
order_into x y true false e f p t = inr (inl (inr (sym p, inr (sym t, (f, e)))))
order_into x y false false e f p t = inr (inr (record { trans_is = sym t; place_is = sym p; goes_is = f ∙ sym e }))
order_into x y true true e f p t = inr (inr (record { trans_is = sym t; place_is = sym p; goes_is = f ∙ sym e }))

order : (x y : NetArc) → IsBefore x y ⊎ (IsBefore y x ⊎ Connects x.into x.trans x.place y)
order x y = elim (cases_order x.place y.place) [
  | inl p ↦ elim (cases_order x.trans y.trans) [
    | inl t ↦ order_into x y x.into y.into refl refl p t
    | inr o ↦ elim o [
      | inl l ↦ inl (inr (p, inl l))
      | inr l ↦ inr (inl (inr (sym p, inl l)))
    ]
  ]
  | inr o ↦ elim o [
    | inl l ↦ inl (inl l)
    | inr l ↦ inr (inl (inl l))
  ]
]

-- what is before an arc has another place, transition or direction
before_other : (x y : NetArc) → IsBefore x y → Connects x.into x.trans x.place y → ⊥
before_other x y before k = elim before [
  | inl l ↦ omega (arith, l, k.place_is)
  | inr s ↦ elim s.1 [
    | inl l ↦ omega (arith, l, k.trans_is)
    | inr r ↦ false≢true (sym r.1.0 ∙ sym k.goes_is ∙ r.1.1)
  ]
]

-- and so has what is before one before an arc
before_later : (x y z : NetArc) → IsBefore x y → IsBefore y z → Connects x.into x.trans x.place z → ⊥
before_later x y z a b k = elim a [
  | inl l ↦ elim b [
    | inl m ↦ omega (arith, l, m, k.place_is)
    | inr m ↦ omega (arith, l, m.0, k.place_is)
  ]
  | inr s ↦ elim b [
    | inl m ↦ omega (arith, s.0, m, k.place_is)
    | inr m ↦ elim s.1 [
      | inl l ↦ elim m.1 [
        | inl o ↦ omega (arith, l, o, k.trans_is)
        | inr o ↦ omega (arith, l, o.0, k.trans_is)
      ]
      | inr l ↦ elim m.1 [
        | inl o ↦ omega (arith, l.0, o, k.trans_is)
        | inr o ↦ false≢true (sym o.1.0 ∙ l.1.1)
      ]
    ]
  ]
]

none_here : (x : NetArc) (ys : List NetArc) → ((k : ℕ) (d : NetArc) → k < length ys → Connects x.into x.trans x.place (get_or ys k d) → ⊥) → weight_of ys x.into x.trans x.place ≡ 0
none_here x ys other = weight_of-none x.into x.trans x.place ys (λ k d below. false_from_ne_true _ (λ e. other k d below (connects_parts x.into x.trans x.place (get_or ys k d) e)))

head_weight : (x : NetArc) (xs : List NetArc) → weight_of (x ∷ xs) x.into x.trans x.place ≡ x.weight + weight_of xs x.into x.trans x.place
head_weight x xs =
    let e = share_here x.into x.trans x.place x (connects_whole x.into x.trans x.place x (record { trans_is = refl; place_is = refl; goes_is = refl })) in
    weight_of-cons x.into x.trans x.place x xs ∙ ap (λ k. k + weight_of xs x.into x.trans x.place) e

abbrev AreUp : List NetArc → Type 0
AreUp xs = AllPairs IsBefore xs

up_tail : (x : NetArc) (xs : List NetArc) → AreUp (x ∷ xs) → AreUp xs
up_tail x xs up i j d lt below = up (suc i) (suc j) d (omega arith) (omega arith)

after_head : (x : NetArc) (xs : List NetArc) → AreUp (x ∷ xs) → weight_of xs x.into x.trans x.place ≡ 0
after_head x xs up = none_here x xs (λ k d below. before_other x (get_or xs k d) (up 0 (suc k) d (omega arith) (omega arith)))

not_there : (x y : NetArc) (ys : List NetArc) → AreUp (y ∷ ys) → IsBefore x y → weight_of (y ∷ ys) x.into x.trans x.place ≡ 0
not_there x y ys up before = none_here x (y ∷ ys) go
  where
    go : (k : ℕ) (d : NetArc) → k < length (y ∷ ys) → Connects x.into x.trans x.place (get_or (y ∷ ys) k d) → ⊥
    go zero d below j = before_other x y before j
    go (suc k) d below j = before_later x y (get_or ys k d) before (up 0 (suc k) d (omega arith) below) j

-- ascending arcs with equal weights are equal
same_arcs : (xs ys : List NetArc) → AreUp xs → AreUp ys → All (λ (a : NetArc). 1 ≤ a.weight) xs → All (λ (a : NetArc). 1 ≤ a.weight) ys → ((into : Bool) (t p : ℕ) → weight_of xs into t p ≡ weight_of ys into t p) → xs ≡ ys
same_arcs [] [] ux uy px py e = refl
same_arcs [] (y ∷ ys) ux uy px py e = absurd (omega (arith, e y.into y.trans y.place, head_weight y ys, py 0 y (omega arith)))
same_arcs (x ∷ xs) [] ux uy px py e = absurd (omega (arith, e x.into x.trans x.place, head_weight x xs, px 0 x (omega arith)))
same_arcs (x ∷ xs) (y ∷ ys) ux uy px py e = elim (order x y) [
  | inl before ↦ absurd (omega (arith, e x.into x.trans x.place, head_weight x xs, px 0 x (omega arith), not_there x y ys uy before))
  | inr o ↦ elim o [
    | inl after ↦ absurd (omega (arith, e y.into y.trans y.place, head_weight y ys, py 0 y (omega arith), not_there y x xs ux after))
    | inr j ↦
        let here : weight_of (y ∷ ys) x.into x.trans x.place ≡ y.weight =
        (λ i. weight_of (y ∷ ys) (sym j.goes_is i) (sym j.trans_is i) (sym j.place_is i)) ∙ head_weight y ys ∙ ap (λ k. y.weight + k) (after_head y ys uy) ∙ omega arith in
        let weight : x.weight ≡ y.weight = omega (arith, head_weight x xs, after_head x xs ux, e x.into x.trans x.place, here) in
        let same : x ≡ y = λ i. record { place = sym j.place_is i; trans = sym j.trans_is i; into = sym j.goes_is i; weight = weight i } in
        let rest : xs ≡ ys = same_arcs xs ys (up_tail x xs ux) (up_tail y ys uy) (λ k d below. px (suc k) d (omega arith)) (λ k d below. py (suc k) d (omega arith))
        (λ into t p. omega (arith, e into t p, weight_of-cons into t p x xs, weight_of-cons into t p y ys, ap (share into t p) same)) in
        λ i. same i ∷ rest i
  ]
]

module _ (a b : NetLists) (a_net : IsNet a) (b_net : IsNet b) (signals : a.signals ≡ b.signals) (places : (graph_of a).places ≡ (graph_of b).places) (trans : (graph_of a).trans ≡ (graph_of b).trans) where
  tokens_long : length a.tokens ≡ length b.tokens
  tokens_long = sym (length-map-range_with_len (place_of a) 0 (length a.tokens)) ∙ ap length places ∙ length-map-range_with_len (place_of b) 0 (length b.tokens)

  -- both graphs have the same places, so the same tokens and weights
  same_takes : (t p : ℕ) → takes (graph_of a) t p ≡ takes (graph_of b) t p
  same_takes t p = λ i. takes (record { places = places i; trans = []; known = []; first_places = 0 }) t p

  same_gives : (t p : ℕ) → gives (graph_of a) t p ≡ gives (graph_of b) t p
  same_gives t p = λ i. gives (record { places = places i; trans = []; known = []; first_places = 0 }) t p

  same_tokens : (p : ℕ) → tokens_at (graph_of a) p ≡ tokens_at (graph_of b) p
  same_tokens p = λ i. tokens_at (record { places = places i; trans = []; known = []; first_places = 0 }) p

  one_tokens : a.tokens ≡ b.tokens
  one_tokens = same_lists a.tokens b.tokens tokens_long (λ p d below.
      get_or_default a.tokens p d 0 below ∙ sym (tokens_at-initial a (range_with_len 0 (length a.signals)) p) ∙ same_tokens p ∙ tokens_at-initial b (range_with_len 0 (length b.signals)) p
      ∙ get_or_default b.tokens p 0 d (omega (arith, below, tokens_long)))

  weights : (into : Bool) (t p : ℕ) → weight_of a.arcs into t p ≡ weight_of b.arcs into t p
  weights false t p = sym (takes-graph_of a t p a_net) ∙ same_takes t p ∙ takes-graph_of b t p b_net
  weights true t p = sym (gives-graph_of a t p a_net) ∙ same_gives t p ∙ gives-graph_of b t p b_net

  one_arcs : a.arcs ≡ b.arcs
  one_arcs = same_arcs a.arcs b.arcs a_net.ordered b_net.ordered (λ k d below. (a_net.arcs k d below).positive) (λ k d below. (b_net.arcs k d below).positive) weights

  trans_long : length a.trans ≡ length b.trans
  trans_long = sym (length-map a.trans (λ t. Some (full_name a t))) ∙ ap length trans ∙ length-map b.trans (λ t. Some (full_name b t))

  one_trans : a.trans ≡ b.trans
  one_trans = same_lists a.trans b.trans trans_long (λ t d below.
      let there : t < length b.trans = omega (arith, below, trans_long) in
      let x = trans_at a.trans t in
      let y = trans_at b.trans t in
      let e : Some (full_name a x) ≡ Some (full_name b y) = sym (full_name_at-graph_of a t below) ∙ ap (λ ts. get_or ts t None) trans ∙ full_name_at-graph_of b t there in
      let same : full_name a x ≡ full_name b y = cc in
      let named : full_name b y ≡ full_name a y = λ i. record { signal = (get_or (sym signals i) y.signal (record { name = []; kind = Input })).name; edge = y.edge; index = y.index } in
      let whole : full_name a x ≡ full_name a y = same ∙ named in
      let y_there : y.signal < length a.signals = omega (arith, b_net.trans_signals t (trans_at [] t) there, ap (λ (s : List Signal). length s) signals) in
      let signal = one_signal a x.signal y.signal a_net (a_net.trans_signals t (trans_at [] t) below) y_there (ap (λ (m : FullName). m.signal) whole) in
      let here : x ≡ y = λ i. record { signal = signal i; edge = (whole i).edge; index = (whole i).index } in
      get_or_default a.trans t d (trans_at [] t) below ∙ here ∙ get_or_default b.trans t (trans_at [] t) d there)

  one_net : a ≡ b
  one_net = λ i. record { signals = signals i; trans = one_trans i; tokens = one_tokens i; arcs = one_arcs i }

-- there is one net of a draft
pub net_is_one : NetIsOne
net_is_one n g own a b a_net b_net x y = one_net a b a_net b_net (x.signals ∙ sym y.signals) (x.places ∙ sym y.places) (x.trans ∙ sym y.trans)
