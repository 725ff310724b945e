-- What the transitions of a net take and give, read off its arcs.
use Rattle.std.proofs.Common.{◌≡◌, ℕ, zero, suc, ◌+◌, ◌<◌, ◌≤◌, ◌&&◌, ◌==◌, Bool, true, false, cond, List, [], ◌∷◌, length, get_or, map, All, AllPairs, Some, None, refl, sym, ap, ◌∙◌, subst, arith, zero-add, eq-eqb, inl, inr}
use Rattle.std.specs.List.{range_with_len}
use Rattle.std.proofs.lemmas.Bool.{and_parts, cases_lt, cases_Bool, eqb-true, false≢true, false_from_ne_true}
use Rattle.std.proofs.lemmas.List.{get_or_past, get_or-map, length-map}
use Rattle.std.proofs.lemmas.List.FromFn.{get_or-map-range_with_len, length-map-range_with_len}
use Rattle.std.proofs.lemmas.List.Elements.{All-head, All-tail}
use Rattle.std.proofs.lemmas.List.Sums.{sum_by-cons}
use Rattle.stg_net.specs.declared.trans.TransName.{TransName}
use Rattle.stg_net.specs.declared.arc.NetArc.{NetArc}
use Rattle.stg_net.specs.Net.{NetLists, IsNet, IsBefore, IsArcOf, trans_at}
use Rattle.stg_net.specs.Graph.{IsPlace, IsTrans, place_at, full_name_at, taken_by, given_by, takes, gives, tokens_at, tokens_in}
use Rattle.stg_net.specs.Initial.{goes, connects, weight_of, weight_list, place_of, full_name, initial, graph_of}

-- the arc goes this way between t and p
pub record Connects (into : Bool) (t p : ℕ) (a : NetArc) : Type 0 where
  pub trans_is : a.trans ≡ t
  pub place_is : a.place ≡ p
  pub goes_is : a.into ≡ into

pub goes_same : (into b : Bool) → goes into b ≡ true → b ≡ into
goes_same true b e = e
goes_same false true e = sym e
goes_same false false e = refl

pub goes_itself : (into : Bool) → goes into into ≡ true
goes_itself true = refl
goes_itself false = refl

pub connects_parts : (into : Bool) (t p : ℕ) (a : NetArc) → connects into t p a ≡ true → Connects into t p a
connects_parts into t p a e =
    let outer = and_parts ((a.trans == t) && (a.place == p)) (goes into a.into) e in
    let inner = and_parts (a.trans == t) (a.place == p) outer.0 in
    record { trans_is = eqb-true a.trans t inner.0; place_is = eqb-true a.place p inner.1; goes_is = goes_same into a.into outer.1 }

pub connects_whole : (into : Bool) (t p : ℕ) (a : NetArc) → Connects into t p a → connects into t p a ≡ true
connects_whole into t p a j = rw (eq-eqb a.trans t j.trans_is) (rw (eq-eqb a.place p j.place_is) (ap (goes into) j.goes_is ∙ goes_itself into))

-- what one arc adds to a weight
abbrev pub share : Bool → ℕ → ℕ → NetArc → ℕ
share into t p a = cond (connects into t p a) a.weight 0

pub share_here : (into : Bool) (t p : ℕ) (a : NetArc) → connects into t p a ≡ true → share into t p a ≡ a.weight
share_here into t p a e = rw e refl

pub share_none : (into : Bool) (t p : ℕ) (a : NetArc) → connects into t p a ≡ false → share into t p a ≡ 0
share_none into t p a e = rw e refl

pub weight_of-cons : (into : Bool) (t p : ℕ) (a : NetArc) (arcs : List NetArc) → weight_of (a ∷ arcs) into t p ≡ share into t p a + weight_of arcs into t p
weight_of-cons into t p a arcs = sum_by-cons (share into t p) a arcs

pub weight_of-none : (into : Bool) (t p : ℕ) (arcs : List NetArc) → All (λ a. connects into t p a ≡ false) arcs → weight_of arcs into t p ≡ 0
weight_of-none into t p [] none = refl
weight_of-none into t p (a ∷ arcs) none =
    omega (arith, weight_of-cons into t p a arcs, share_none into t p a (All-head (λ a. connects into t p a ≡ false) a arcs none), weight_of-none into t p arcs (All-tail (λ a. connects into t p a ≡ false) a arcs none))

before_apart : (into : Bool) (t p : ℕ) (a b : NetArc) → IsBefore a b → Connects into t p a → Connects into t p b → ⊥
before_apart into t p a b before j k = elim before [
  | inl l ↦ absurd (omega (arith, l, j.place_is, k.place_is))
  | inr s ↦ elim s.1 [
    | inl l ↦ absurd (omega (arith, l, j.trans_is, k.trans_is))
    | inr r ↦ false≢true (sym r.1.0 ∙ j.goes_is ∙ sym k.goes_is ∙ r.1.1)
  ]
]

-- where arcs ascend, no two connect the same two in the same way
pub weight_of-arc : (into : Bool) (t p : ℕ) (arcs : List NetArc) (i : ℕ) (d : NetArc) → AllPairs IsBefore arcs → i < length arcs → connects into t p (get_or arcs i d) ≡ true → weight_of arcs into t p ≡ (get_or arcs i d).weight
weight_of-arc into t p [] i d ordered inside e = absurd (omega arith)
weight_of-arc into t p (a ∷ arcs) zero d ordered inside e =
    let others : All (λ b. connects into t p b ≡ false) arcs =
    λ k c below. false_from_ne_true _ (λ f. before_apart into t p a (get_or arcs k c) (ordered 0 (suc k) c (omega arith) (omega arith)) (connects_parts into t p a e) (connects_parts into t p (get_or arcs k c) f)) in
    omega (arith, weight_of-cons into t p a arcs, share_here into t p a e, weight_of-none into t p arcs others)
weight_of-arc into t p (a ∷ arcs) (suc i) d ordered inside e =
    let first : connects into t p a ≡ false =
    false_from_ne_true _ (λ f. before_apart into t p a (get_or arcs i d) (ordered 0 (suc i) d (omega arith) (omega arith)) (connects_parts into t p a f) (connects_parts into t p (get_or arcs i d) e)) in
    omega (arith, weight_of-cons into t p a arcs, share_none into t p a first, weight_of-arc into t p arcs i d (λ j k c lt below. ordered (suc j) (suc k) c (omega arith) (omega arith)) (omega arith) e)

-- an arc of a list that connects the two
pub record ConnectingArc (arcs : List NetArc) (into : Bool) (t p : ℕ) : Type 0 where
  pub at : ℕ
  pub inside : at < length arcs
  pub arc : NetArc
  pub arc_is : (d : NetArc) → get_or arcs at d ≡ arc
  pub connects_both : Connects into t p arc

connecting_later : (a : NetArc) (arcs : List NetArc) (into : Bool) (t p : ℕ) → ConnectingArc arcs into t p → ConnectingArc (a ∷ arcs) into t p
connecting_later a arcs into t p j = record { at = suc j.at; inside = omega (arith, j.inside); arc = j.arc; arc_is = j.arc_is; connects_both = j.connects_both }

-- where the weight isn't 0 there is an arc
pub weight_of-connecting : (into : Bool) (t p : ℕ) (arcs : List NetArc) → 0 < weight_of arcs into t p → ConnectingArc arcs into t p
weight_of-connecting into t p [] some = absurd (omega arith)
weight_of-connecting into t p (a ∷ arcs) some = elim (cases_Bool (connects into t p a)) [
  | inl e ↦ record { at = 0; inside = omega arith; arc = a; arc_is = λ d. refl; connects_both = connects_parts into t p a e }
  | inr e ↦ connecting_later a arcs into t p (weight_of-connecting into t p arcs (omega (arith, some, weight_of-cons into t p a arcs, share_none into t p a e)))
]

past_places : (n : NetLists) (into : Bool) (t p : ℕ) → IsNet n → length n.tokens ≤ p → weight_of n.arcs into t p ≡ 0
past_places n into t p net past =
    weight_of-none into t p n.arcs (λ k d below. false_from_ne_true _ (λ e. absurd (omega (arith, past, (net.arcs k d below).place_there, (connects_parts into t p (get_or n.arcs k d) e).place_is))))

past_trans : (n : NetLists) (into : Bool) (t p : ℕ) → IsNet n → length n.trans ≤ t → weight_of n.arcs into t p ≡ 0
past_trans n into t p net past =
    weight_of-none into t p n.arcs (λ k d below. false_from_ne_true _ (λ e. absurd (omega (arith, past, (net.arcs k d below).trans_there, (connects_parts into t p (get_or n.arcs k d) e).trans_is))))

pub place_at-initial : (n : NetLists) (known : List ℕ) (p : ℕ) → p < length n.tokens → place_at (initial n known) p ≡ place_of n p
place_at-initial n known p inside = get_or-map-range_with_len (place_of n) 0 (length n.tokens) p p None inside (zero-add p)

pub place_at-past : (n : NetLists) (known : List ℕ) (p : ℕ) → length n.tokens ≤ p → place_at (initial n known) p ≡ None
place_at-past n known p past = get_or_past (map (place_of n) (range_with_len 0 (length n.tokens))) p None (omega (arith, past, length-map-range_with_len (place_of n) 0 (length n.tokens)))

weight_list-at : (n : NetLists) (into : Bool) (t p : ℕ) → IsNet n → get_or (weight_list (length n.trans) (λ u. weight_of n.arcs into u p)) t 0 ≡ weight_of n.arcs into t p
weight_list-at n into t p net = elim (cases_lt t (length n.trans)) [
  | inl below ↦ get_or-map-range_with_len (λ u. weight_of n.arcs into u p) 0 (length n.trans) t t 0 below (zero-add t)
  | inr past ↦
      get_or_past (weight_list (length n.trans) (λ u. weight_of n.arcs into u p)) t 0 (omega (arith, past, length-map-range_with_len (λ u. weight_of n.arcs into u p) 0 (length n.trans)))
      ∙ sym (past_trans n into t p net past)
]

-- what a transition of an initial component takes
pub takes-initial : (n : NetLists) (known : List ℕ) (t p : ℕ) → IsNet n → takes (initial n known) t p ≡ weight_of n.arcs false t p
takes-initial n known t p net = elim (cases_lt p (length n.tokens)) [
  | inl below ↦ ap (taken_by t) (place_at-initial n known p below) ∙ weight_list-at n false t p net
  | inr past ↦ ap (taken_by t) (place_at-past n known p past) ∙ sym (past_places n false t p net past)
]

-- what a transition of an initial component gives
pub gives-initial : (n : NetLists) (known : List ℕ) (t p : ℕ) → IsNet n → gives (initial n known) t p ≡ weight_of n.arcs true t p
gives-initial n known t p net = elim (cases_lt p (length n.tokens)) [
  | inl below ↦ ap (given_by t) (place_at-initial n known p below) ∙ weight_list-at n true t p net
  | inr past ↦ ap (given_by t) (place_at-past n known p past) ∙ sym (past_places n true t p net past)
]

-- the tokens of an initial component
pub tokens_at-initial : (n : NetLists) (known : List ℕ) (p : ℕ) → tokens_at (initial n known) p ≡ get_or n.tokens p 0
tokens_at-initial n known p = elim (cases_lt p (length n.tokens)) [
  | inl below ↦ ap tokens_in (place_at-initial n known p below)
  | inr past ↦ ap tokens_in (place_at-past n known p past) ∙ sym (get_or_past n.tokens p 0 past)
]

-- the same of the net as a graph
pub takes-graph_of : (n : NetLists) (t p : ℕ) → IsNet n → takes (graph_of n) t p ≡ weight_of n.arcs false t p
takes-graph_of n t p net = takes-initial n (range_with_len 0 (length n.signals)) t p net

pub gives-graph_of : (n : NetLists) (t p : ℕ) → IsNet n → gives (graph_of n) t p ≡ weight_of n.arcs true t p
gives-graph_of n t p net = gives-initial n (range_with_len 0 (length n.signals)) t p net

-- where a transition takes or gives there is an arc
pub takes-connecting : (n : NetLists) (t p : ℕ) → IsNet n → 0 < takes (graph_of n) t p → ConnectingArc n.arcs false t p
takes-connecting n t p net some = weight_of-connecting false t p n.arcs (omega (arith, some, takes-graph_of n t p net))

pub gives-connecting : (n : NetLists) (t p : ℕ) → IsNet n → 0 < gives (graph_of n) t p → ConnectingArc n.arcs true t p
gives-connecting n t p net some = weight_of-connecting true t p n.arcs (omega (arith, some, gives-graph_of n t p net))

module _ (n : NetLists) (into : Bool) (t p : ℕ) (net : IsNet n) (j : ConnectingArc n.arcs into t p) where
  connecting_arc : IsArcOf (length n.tokens) (length n.trans) j.arc
  connecting_arc = subst (IsArcOf (length n.tokens) (length n.trans)) (j.arc_is j.arc) (net.arcs j.at j.arc j.inside)

  -- the ends of an arc are there
  pub connecting_there : t < length n.trans
  connecting_there = omega (arith, connecting_arc.trans_there, j.connects_both.trans_is)

  pub connecting_place : p < length n.tokens
  connecting_place = omega (arith, connecting_arc.place_there, j.connects_both.place_is)

-- the transitions of a net are live
pub full_name_at-initial : (n : NetLists) (known : List ℕ) (t : ℕ) (d : TransName) → t < length n.trans → full_name_at (initial n known) t ≡ Some (full_name n (get_or n.trans t d))
full_name_at-initial n known t d there = get_or-map (λ u. Some (full_name n u)) n.trans t d None there

pub full_name_at-past : (n : NetLists) (known : List ℕ) (t : ℕ) → length n.trans ≤ t → full_name_at (initial n known) t ≡ None
full_name_at-past n known t past = get_or_past (map (λ u. Some (full_name n u)) n.trans) t None (omega (arith, past, length-map n.trans (λ u. Some (full_name n u))))

pub full_name_at-graph_of : (n : NetLists) (t : ℕ) → t < length n.trans → full_name_at (graph_of n) t ≡ Some (full_name n (trans_at n.trans t))
full_name_at-graph_of n t there = full_name_at-initial n (range_with_len 0 (length n.signals)) t (trans_at [] t) there

-- what is live is one of the net
pub live_below : (n : NetLists) (t : ℕ) → IsTrans (graph_of n) t → t < length n.trans
live_below n t live = elim (cases_lt t (length n.trans)) [
  | inl below ↦ below
  | inr past ↦ absurd (false≢true (rw (full_name_at-past n (range_with_len 0 (length n.signals)) t past) at live))
]

pub place_below : (n : NetLists) (p : ℕ) → IsPlace (graph_of n) p → p < length n.tokens
place_below n p live = elim (cases_lt p (length n.tokens)) [
  | inl below ↦ below
  | inr past ↦ absurd (false≢true (rw (place_at-past n (range_with_len 0 (length n.signals)) p past) at live))
]
