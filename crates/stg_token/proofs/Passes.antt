-- What a pass over the arcs of a net does to a marking, and what it tells of it.
use Rattle.std.proofs.Common.{◌≡◌, ◌↔◌, ℕ, ◌+◌, ◌-◌, ◌<◌, ◌≤◌, ◌==◌, nat_le, Bool, true, false, cond, List, length, get_or, drop, All, is_some, refl, sym, ap, ◌∙◌, subst, arith, eq-eqb, inl, inr, get_or-set_same, get_or-set_other, length-set}
use Rattle.std.specs.List.{range_with_len, list_all}
use Rattle.std.proofs.lemmas.List.Sums.{AllPass-from_list_all, list_all-from_AllPass}
use Rattle.std.proofs.Math.ListN.{set}
use Rattle.std.proofs.lemmas.Bool.{and_parts, cases_eq, cases_lt, cases_Bool, eqb-true, le-leb, leb-true, false≢true, false_from_ne_true}
use Rattle.std.proofs.lemmas.List.{at_drop_more, get_or_past}
use Rattle.stg_net.specs.declared.arc.NetArc.{NetArc}
use Rattle.stg_net.specs.declared.limits.Limits.{Limits}
use Rattle.stg_net.specs.Net.{NetLists, IsNet, IsWithin}
use Rattle.stg_net.specs.Graph.{takes, tokens_at}
use Rattle.stg_net.specs.Run.{IsEnabled, fired}
use Rattle.stg_net.specs.Initial.{goes, connects, weight_of, graph_of}
use Rattle.stg_net.proofs.Weights.{Connects, ConnectingArc, goes_same, goes_itself, connects_parts, connects_whole, share, share_here, share_none, weight_of-cons, weight_of-arc, weight_of-connecting, takes-graph_of, gives-graph_of, tokens_at-initial, full_name_at-graph_of}
use Rattle.stg_token.specs.inner.Pass.{connects_trans, is_held, with_taken, with_given}

connects_own_place : (t : ℕ) (into : Bool) (a : NetArc) → connects_trans t into a ≡ true → connects into t a.place a ≡ true
connects_own_place t into a e =
    let parts = and_parts (a.trans == t) (goes into a.into) e in
    connects_whole into t a.place a (record { trans_is = eqb-true a.trans t parts.0; place_is = refl; goes_is = goes_same into a.into parts.1 })

connects_its_trans : (t p : ℕ) (into : Bool) (a : NetArc) → Connects into t p a → connects_trans t into a ≡ true
connects_its_trans t p into a j = rw (eq-eqb a.trans t j.trans_is) (ap (goes into) j.goes_is ∙ goes_itself into)

not_connects : (t p : ℕ) (into : Bool) (a : NetArc) → connects_trans t into a ≡ false → connects into t p a ≡ false
not_connects t p into a e = false_from_ne_true _ (λ f. false≢true (sym e ∙ connects_its_trans t p into a (connects_parts into t p a f)))

-- the list after the place of an arc of t has changed by f
abbrev changed : (ℕ → ℕ → ℕ) → ℕ → Bool → NetArc → List ℕ → List ℕ
changed f t into a m = cond (connects_trans t into a) (set m a.place (f (get_or m a.place 0) a.weight)) m

-- an arc changes a place by what it adds to the place's weight
changed_at : (f : ℕ → ℕ → ℕ) → ((x : ℕ) → f x 0 ≡ x) → (t : ℕ) (into : Bool) (a : NetArc) (m : List ℕ) (p : ℕ) → a.place < length m
    → get_or (changed f t into a m) p 0 ≡ f (get_or m p 0) (share into t p a)
changed_at f unit t into a m p inside = elim (cases_Bool (connects_trans t into a)) [
  | inr e ↦ rw e (sym (ap (f (get_or m p 0)) (share_none into t p a (not_connects t p into a e)) ∙ unit (get_or m p 0)))
  | inl e ↦ rw e (elim (cases_eq p a.place) [
    | inl same ↦
        let P : ℕ → Type 0 = λ q. get_or (set m a.place (f (get_or m a.place 0) a.weight)) q 0 ≡ f (get_or m q 0) (share into t q a) in
        subst P (sym same) (get_or-set_same m a.place (f (get_or m a.place 0) a.weight) 0 inside ∙ ap (f (get_or m a.place 0)) (sym (share_here into t a.place a (connects_own_place t into a e))))
    | inr other ↦
        get_or-set_other m a.place p (f (get_or m a.place 0) a.weight) 0 other
        ∙ sym (ap (f (get_or m p 0)) (share_none into t p a (false_from_ne_true _ (λ j. other (sym (connects_parts into t p a j).place_is)))) ∙ unit (get_or m p 0))
  ])
]

length-changed : (f : ℕ → ℕ → ℕ) (t : ℕ) (into : Bool) (a : NetArc) (m : List ℕ) → length (changed f t into a m) ≡ length m
length-changed f t into a m = elim (cases_Bool (connects_trans t into a)) [
  | inl e ↦ rw e (length-set m a.place (f (get_or m a.place 0) a.weight))
  | inr e ↦ rw e refl
]

pub taken_at : (t : ℕ) (a : NetArc) (m : List ℕ) (p : ℕ) → a.place < length m → get_or (with_taken t a m) p 0 ≡ get_or m p 0 - share false t p a
taken_at t a m p inside = changed_at (λ x y. x - y) (λ x. omega arith) t false a m p inside

pub given_at : (t : ℕ) (a : NetArc) (m : List ℕ) (p : ℕ) → a.place < length m → get_or (with_given t a m) p 0 ≡ get_or m p 0 + share true t p a
given_at t a m p inside = changed_at (λ x y. x + y) (λ x. omega arith) t true a m p inside

pub length-taken : (t : ℕ) (a : NetArc) (m : List ℕ) → length (with_taken t a m) ≡ length m
length-taken t a m = length-changed (λ x y. x - y) t false a m

pub length-given : (t : ℕ) (a : NetArc) (m : List ℕ) → length (with_given t a m) ≡ length m
length-given t a m = length-changed (λ x y. x + y) t true a m

-- an enabled transition finds in the place of each of its arcs what it takes
enabled_holds : (n : NetLists) (m : List ℕ) (t i : ℕ) (d : NetArc) → IsNet n → i < length n.arcs → IsEnabled (graph_of n) (λ p. get_or m p 0) t → is_held m t (get_or n.arcs i d) ≡ true
enabled_holds n m t i d net inside enabled = holds (get_or n.arcs i d) (weight_of-arc false t (get_or n.arcs i d).place n.arcs i d net.ordered inside)
  where
    holds : (a : NetArc) → (connects false t a.place a ≡ true → weight_of n.arcs false t a.place ≡ a.weight) → is_held m t a ≡ true
    holds a sole = elim (cases_Bool (connects_trans t false a)) [
      | inr e ↦ rw e refl
      | inl e ↦ rw e (le-leb a.weight (get_or m a.place 0) (omega (arith, enabled.covered a.place, takes-graph_of n t a.place net, sole (connects_own_place t false a e))))
    ]

held_weight : (m : List ℕ) (t p : ℕ) (a : NetArc) → Connects false t p a → is_held m t a ≡ true → a.weight ≤ get_or m p 0
held_weight m t p a j held =
    let e = connects_its_trans t p false a j in
    let le : nat_le a.weight (get_or m a.place 0) ≡ true = rw e at held in
    let P : ℕ → Type 0 = λ q. a.weight ≤ get_or m q 0 in
    subst P j.place_is (leb-true a.weight (get_or m a.place 0) le)

-- where each arc's place holds what t takes by it, t is enabled
held_enabled : (n : NetLists) (m : List ℕ) (t : ℕ) → IsNet n → t < length n.trans → ((i : ℕ) (d : NetArc) → i < length n.arcs → is_held m t (get_or n.arcs i d) ≡ true) → IsEnabled (graph_of n) (λ p. get_or m p 0) t
held_enabled n m t net there held = record {
  live = ap is_some (full_name_at-graph_of n t there);
  covered = λ p. elim (cases_lt 0 (weight_of n.arcs false t p)) [
    | inr nothing ↦ omega (arith, nothing, takes-graph_of n t p net)
    | inl some ↦ covered p (weight_of-connecting false t p n.arcs some)
  ];
}
  where
    covered : (p : ℕ) → ConnectingArc n.arcs false t p → takes (graph_of n) t p ≤ get_or m p 0
    covered p j =
        let P : NetArc → Type 0 = λ a. is_held m t a ≡ true in
        let Q : NetArc → Type 0 = λ a. weight_of n.arcs false t p ≡ a.weight in
        let sole = subst Q (j.arc_is j.arc) (weight_of-arc false t p n.arcs j.at j.arc net.ordered j.inside (ap (connects false t p) (j.arc_is j.arc) ∙ connects_whole false t p j.arc j.connects_both)) in
        omega (arith, takes-graph_of n t p net, sole, held_weight m t p j.arc j.connects_both (subst P (j.arc_is j.arc) (held j.at j.arc j.inside)))

-- t is enabled exactly where all places hold what it takes
pub enabled_by_all : (n : NetLists) (arcs : List NetArc) (m : List ℕ) (t : ℕ) (b : Bool) → arcs ≡ n.arcs → IsNet n → t < length n.trans → b ≡ list_all (is_held m t) arcs → (b ≡ true) ↔ IsEnabled (graph_of n) (λ p. get_or m p 0) t
enabled_by_all n arcs m t b same net there is = (
  λ e. held_enabled n m t net there (AllPass-from_list_all (is_held m t) n.arcs (ap (list_all (is_held m t)) (sym same) ∙ sym is ∙ e)),
  λ enabled. is ∙ ap (list_all (is_held m t)) same ∙ list_all-from_AllPass (is_held m t) n.arcs (λ i d inside. enabled_holds n m t i d net inside enabled),
)

-- the marking of the net's tokens
pub start_tokens : (n : NetLists) (m : List ℕ) → m ≡ n.tokens → (p : ℕ) → get_or m p 0 ≡ tokens_at (graph_of n) p
start_tokens n m e p = ap (λ xs. get_or xs p 0) e ∙ sym (tokens_at-initial n (range_with_len 0 (length n.signals)) p)

-- an enabled transition finds in each place what all its arcs take
pub enabled_held : (n : NetLists) (arcs : List NetArc) (m : List ℕ) (t : ℕ) → arcs ≡ n.arcs → IsNet n → IsEnabled (graph_of n) (λ p. get_or m p 0) t → (p : ℕ) → weight_of arcs false t p ≤ get_or m p 0
enabled_held n arcs m t same net enabled p = rw same (omega (arith, enabled.covered p, takes-graph_of n t p net))

-- what is taken and then given
pub fired_at : (n : NetLists) (arcs : List NetArc) (m : List ℕ) (t p : ℕ) → arcs ≡ n.arcs → IsNet n → fired (graph_of n) (λ q. get_or m q 0) t p ≡ get_or m p 0 - weight_of arcs false t p + weight_of arcs true t p
fired_at n arcs m t p same net = rw same (omega (arith, takes-graph_of n t p net, gives-graph_of n t p net))

-- the arc at i
abbrev pub arc_at : List NetArc → ℕ → NetArc
arc_at arcs i = get_or arcs i (record { place = 0; trans = 0; into = false; weight = 0 })

-- what is left weighs what the next arc adds and what is left after it
pub dropped : (arcs : List NetArc) (i : ℕ) (into : Bool) (t p : ℕ) → i < length arcs → weight_of (drop i arcs) into t p ≡ share into t p (arc_at arcs i) + weight_of (drop (i + 1) arcs) into t p
dropped arcs i into t p inside =
    at_drop_more (λ xs. weight_of xs into t p) arcs i (record { place = 0; trans = 0; into = false; weight = 0 }) inside
    ∙ weight_of-cons into t p (arc_at arcs i) (drop (i + 1) arcs)

-- the places of a net's arcs are in each marking
pub arcs_inside : (n : NetLists) (arcs : List NetArc) (m : List ℕ) → arcs ≡ n.arcs → IsNet n → length m ≡ length n.tokens → All (λ (a : NetArc). a.place < length m) arcs
arcs_inside n arcs m same net long =
    let P : List NetArc → Type 0 = λ xs. All (λ (a : NetArc). a.place < length m) xs in
    subst P (sym same) (λ i d below. omega (arith, long, (net.arcs i d below).place_there))

-- where neither tokens nor weights are large, no place passes the bound
pub fits_within : (l : Limits) (n : NetLists) (m : List ℕ) (t b : ℕ) → IsNet n → IsWithin l n → All (λ k. k ≤ b) m → (p : ℕ) → fired (graph_of n) (λ q. get_or m q 0) t p ≤ b + l.weight
fits_within l n m t b net within small p = omega (arith, takes-graph_of n t p net, gives-graph_of n t p net, held_small, given_small)
  where
    held_small : get_or m p 0 ≤ b
    held_small = elim (cases_lt p (length m)) [
      | inl below ↦ small p 0 below
      | inr past ↦ omega (arith, get_or_past m p 0 past)
    ]

    connecting_small : ConnectingArc n.arcs true t p → weight_of n.arcs true t p ≤ l.weight
    connecting_small j =
        let e = ap (connects true t p) (j.arc_is j.arc) ∙ connects_whole true t p j.arc j.connects_both in
        omega (arith, weight_of-arc true t p n.arcs j.at j.arc net.ordered j.inside e, within.weights j.at j.arc j.inside)

    given_small : weight_of n.arcs true t p ≤ l.weight
    given_small = elim (cases_lt 0 (weight_of n.arcs true t p)) [
      | inl some ↦ connecting_small (weight_of-connecting true t p n.arcs some)
      | inr nothing ↦ omega (arith, nothing)
    ]
