-- What a list of signals has to know closes it: it has the signals of all arcs at the places from which the
-- list's transitions take.
use Rattle.std.proofs.Common.{◌≡◌, ℕ, zero, suc, ◌<◌, ◌⊎◌, ◌&&◌, ◌==◌, not, Bool, true, false, List, [], length, get_or, All, Contains, Option, Some, None, is_some, refl, sym, ap, ◌∙◌, subst, arith, eq-eqb, inl, inr}
use Rattle.std.specs.List.{list_any, range_with_len}
use Rattle.std.specs.Str.{bytes_eq}
use Rattle.std.proofs.lemmas.Bool.{and_from, or_right, cases_lt}
use Rattle.std.proofs.lemmas.List.{get_or-map, get_or_default, length-map}
use Rattle.std.proofs.lemmas.List.Elements.{Contains-append_left, Contains-append_right}
use Rattle.std.proofs.lemmas.List.Folds.{list_any_at, Any-from_list_any}
use Rattle.std.proofs.lemmas.List.FromFn.{length-range_with_len, get_or-range_with_len}
use Rattle.std.proofs.lemmas.Slice.Eq.{bytes_eq-Decides}
use Rattle.stg_net.specs.declared.arc.NetArc.{NetArc}
use Rattle.stg_net.specs.Component.{is_one_of}
use Rattle.stg_net.specs.Net.{NetLists, IsNet, signal_at, trans_at}
use Rattle.stg_net.specs.Graph.{FullName, full_name_at, has_signal_of, is_among, takes, gives}
use Rattle.stg_net.specs.Initial.{graph_of}
use Rattle.stg_net.specs.Ordered.{numbers_where, only_where}
use Rattle.stg_net.proofs.Weights.{ConnectingArc, takes-connecting, gives-connecting, connecting_place, full_name_at-graph_of, live_below}
use Rattle.stg_net.proofs.Signals.{one_signal}
use Rattle.stg_laws.specs.Closed.{IsClosed}
use Rattle.stg_laws.specs.Groups.{signal_of, takes_from, is_at, own_take_from, is_known_to, known_to, names_at}

module _ {X : Type 0} where
  -- an item that passes
  pub record Passing (test : X → Bool) (xs : List X) : Type 0 where
    pub at : ℕ
    pub inside : at < length xs
    pub item : X
    pub item_is : (d : X) → get_or xs at d ≡ item
    pub passes : test item ≡ true

  -- the item that a test finds
  pub passing : (test : X → Bool) (xs : List X) → list_any test xs ≡ true → Passing test xs
  passing test xs e =
      let a = Any-from_list_any test xs e in
      record { at = a.0; inside = a.2; item = a.1; item_is = λ d. get_or_default xs a.0 d a.1 a.2 ∙ a.3; passes = a.4 }

-- the signal of an arc out of a place takes from it
pub takes_by : (n : NetLists) (a : NetArc) (i : ℕ) → i < length n.arcs → get_or n.arcs i a ≡ a
    → a.into ≡ false → takes_from n (signal_of n a) a.place ≡ true
takes_by n a i inside a_is out =
    let test = λ (b : NetArc). not b.into && (b.place == a.place) && (signal_of n b == signal_of n a) in
    list_any_at test n.arcs i a inside (ap test a_is ∙ rw out (and_from (a.place == a.place) (signal_of n a == signal_of n a) (eq-eqb a.place a.place refl) (eq-eqb (signal_of n a) (signal_of n a) refl)))

-- the signal of an arc is at its place
pub at_by : (n : NetLists) (a : NetArc) (i : ℕ) → i < length n.arcs → get_or n.arcs i a ≡ a
    → is_at n (signal_of n a) a.place ≡ true
at_by n a i inside a_is =
    let test : NetArc → Bool = λ b. (b.place == a.place) && (signal_of n b == signal_of n a) in
    list_any_at test n.arcs i a inside (ap test a_is ∙ and_from (a.place == a.place) (signal_of n a == signal_of n a) (eq-eqb a.place a.place refl) (eq-eqb (signal_of n a) (signal_of n a) refl))

-- a list of signals takes from a place where one of them does
pub own_takes : (n : NetLists) (own : List ℕ) (s p : ℕ) → Contains own s → takes_from n s p ≡ true
    → own_take_from n own p ≡ true
own_takes n own s p c e =
    list_any_at (λ o. takes_from n o p) own c.0 s c.1 (ap (λ o. takes_from n o p) c.2 ∙ e)

-- and has to know each signal at the place
pub known_at : (n : NetLists) (own : List ℕ) (s p : ℕ) → p < length n.tokens
    → own_take_from n own p ≡ true → is_at n s p ≡ true → is_known_to n own s ≡ true
known_at n own s p inside takes at =
    let test : ℕ → Bool = λ q. own_take_from n own q && is_at n s q in
    let here : get_or (range_with_len 0 (length n.tokens)) p 0 ≡ p = omega (arith, get_or-range_with_len 0 (length n.tokens) p 0 inside) in
    or_right (is_one_of own s) (list_any test (range_with_len 0 (length n.tokens)))
    (list_any_at test (range_with_len 0 (length n.tokens)) p 0 (omega (arith, inside, length-range_with_len 0 (length n.tokens))) (ap test here ∙ and_from (own_take_from n own p) (is_at n s p) takes at))

-- each number below the bound that passes is among them
pub passing_contained : (test : ℕ → Bool) (n k : ℕ) → k < n → test k ≡ true
    → Contains (numbers_where test n) k
passing_contained test zero k below e = absurd (omega arith)
passing_contained test (suc n) k below e = elim (cases_lt k n) [
  | inl l ↦ Contains-append_left (numbers_where test n) (only_where test n) k (passing_contained test n k l e)
  | inr r ↦
      let same : n ≡ k = omega arith in
      let P : ℕ → Type 0 = λ m. Contains (only_where test m) k in
      let here : Contains (only_where test k) k = rw e (0, omega arith, refl) in
      Contains-append_right (numbers_where test n) (only_where test n) k (subst P (sym same) here)
]

-- a signal of the list has the name
pub record IsNamed (n : NetLists) (signals : List ℕ) (name : List ℕ) : Type 0 where
  pub signal : ℕ
  pub listed : Contains signals signal
  pub name_is : (signal_at n.signals signal).name ≡ name

pub among_named : (n : NetLists) (signals : List ℕ) (name : List ℕ)
    → is_among (names_at n signals) name ≡ true → IsNamed n signals name
among_named n signals name e =
    let f = passing (λ known. bytes_eq known name) (names_at n signals) e in
    let inside : f.at < length signals = omega (arith, f.inside, length-map signals (λ s. (signal_at n.signals s).name)) in
    record {
      signal = get_or signals f.at 0;
      listed = (f.at, inside, get_or_default signals f.at (get_or signals f.at 0) 0 inside);
      name_is = sym (get_or-map (λ s. (signal_at n.signals s).name) signals f.at 0 [] inside) ∙ f.item_is [] ∙ (bytes_eq-Decides f.item name).0 f.passes;
    }

pub named_among : (n : NetLists) (signals : List ℕ) (s : ℕ) → Contains signals s
    → is_among (names_at n signals) (signal_at n.signals s).name ≡ true
named_among n signals s c =
    let name = (signal_at n.signals s).name in
    let at : get_or (names_at n signals) c.0 [] ≡ name = get_or-map (λ k. (signal_at n.signals k).name) signals c.0 s [] c.1 ∙ ap (λ k. (signal_at n.signals k).name) c.2 in
    list_any_at (λ known. bytes_eq known name) (names_at n signals) c.0 [] (omega (arith, c.1, length-map signals (λ k. (signal_at n.signals k).name))) ((bytes_eq-Decides (get_or (names_at n signals) c.0 []) name).1 at)

signal_live : (signals : List (List ℕ)) (o : Option FullName) → has_signal_of signals o ≡ true
    → is_some o ≡ true
signal_live signals None e = e
signal_live signals (Some x) e = refl

-- the signal of a transition whose signal is among the names
trans_among : (n : NetLists) (signals : List (List ℕ)) (t : ℕ) → t < length n.trans
    → has_signal_of signals (full_name_at (graph_of n) t) ≡ true
    → is_among signals (signal_at n.signals (trans_at n.trans t).signal).name ≡ true
trans_among n signals t there e = ap (has_signal_of signals) (sym (full_name_at-graph_of n t there)) ∙ e

joint_takes : (n : NetLists) (t p : ℕ) → ConnectingArc n.arcs false t p
    → takes_from n (trans_at n.trans t).signal p ≡ true
joint_takes n t p j =
    let P : ℕ → Type 0 = λ q. takes_from n (trans_at n.trans t).signal q ≡ true in
    let Q : ℕ → Type 0 = λ u. takes_from n (trans_at n.trans u).signal j.arc.place ≡ true in
    subst P j.connects_both.place_is (subst Q j.connects_both.trans_is (takes_by n j.arc j.at j.inside (j.arc_is j.arc) j.connects_both.goes_is))

joint_at : (n : NetLists) (into : Bool) (u p : ℕ) → ConnectingArc n.arcs into u p
    → is_at n (trans_at n.trans u).signal p ≡ true
joint_at n into u p j =
    let P : ℕ → Type 0 = λ q. is_at n (trans_at n.trans u).signal q ≡ true in
    let Q : ℕ → Type 0 = λ t. is_at n (trans_at n.trans t).signal j.arc.place ≡ true in
    subst P j.connects_both.place_is (subst Q j.connects_both.trans_is (at_by n j.arc j.at j.inside (j.arc_is j.arc)))

arc_at : (n : NetLists) (u p : ℕ) → IsNet n
    → (0 < takes (graph_of n) u p) ⊎ (0 < gives (graph_of n) u p)
    → is_at n (trans_at n.trans u).signal p ≡ true
arc_at n u p net h = elim h [
  | inl l ↦ joint_at n false u p (takes-connecting n u p net l)
  | inr l ↦ joint_at n true u p (gives-connecting n u p net l)
]

-- what a list of signals has to know closes it
pub known_closes : (n : NetLists) (own : List ℕ) → IsNet n → All (λ s. s < length n.signals) own
    → IsClosed (graph_of n) (names_at n own) (names_at n (known_to n own))
known_closes n own net there t u p own_t takes_t live arc =
    let t_there = live_below n t (signal_live (names_at n own) (full_name_at (graph_of n) t) own_t) in
    let named = among_named n own (signal_at n.signals (trans_at n.trans t).signal).name (trans_among n (names_at n own) t t_there own_t) in
    let c = named.listed in
    let named_there : named.signal < length n.signals = subst (λ s. s < length n.signals) c.2 (there c.0 named.signal c.1) in
    let same : named.signal ≡ (trans_at n.trans t).signal =
    one_signal n named.signal (trans_at n.trans t).signal net named_there (net.trans_signals t (trans_at [] t) t_there) named.name_is in
    let j = takes-connecting n t p net takes_t in
    let P : ℕ → Type 0 = λ s. Contains own s in
    let takes = own_takes n own (trans_at n.trans t).signal p (subst P same named.listed) (joint_takes n t p j) in
    let u_there = live_below n u live in
    let known = known_at n own (trans_at n.trans u).signal p (connecting_place n false t p net j) takes (arc_at n u p net arc) in
    let listed = passing_contained (is_known_to n own) (length n.signals) (trans_at n.trans u).signal (net.trans_signals u (trans_at [] u) u_there) known in
    ap (has_signal_of (names_at n (known_to n own))) (full_name_at-graph_of n u u_there) ∙ named_among n (known_to n own) (trans_at n.trans u).signal listed
