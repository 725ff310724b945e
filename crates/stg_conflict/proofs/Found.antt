-- What the search over ordered arcs finds: a clash of two of them, and none that is before it.
use Rattle.std.proofs.Common.{◌≡◌, ℕ, zero, suc, ◌<◌, ◌≤◌, ◌==◌, true, List, [], ◌∷◌, length, get_or, if◌then◌else◌, All, AllPairs, Some, None, refl, sym, ◌∙◌, subst, arith, eq-eqb, inl, inr}
use Rattle.std.proofs.lemmas.Bool.{cases_Bool, cases_eq, ne_eqb}
use Rattle.std.proofs.lemmas.Option.{same_Some}
use Rattle.std.proofs.lemmas.List.Elements.{All-head, All-tail}
use Rattle.stg_net.specs.declared.trans.TransName.{TransName}
use Rattle.stg_net.specs.declared.arc.NetArc.{NetArc}
use Rattle.stg_net.specs.Net.{IsBefore as IsArcBefore}
use Rattle.stg_conflict.specs.declared.clash.Clash.{Clash}
use Rattle.stg_conflict.specs.inner.Search.{are_clashing, first_clash, least_clash, lesser}
use Rattle.stg_conflict.proofs.Orders.{IsLesser, IsReached, lesser_first, lesser_second, lesser_one}

-- the clash of two arcs
abbrev pub clash_of : NetArc → NetArc → Clash
clash_of a b = record { t1 = a.trans; t2 = b.trans; place = a.place }

-- an arc of the list clashes with a, and c is their clash
pub record Clashing (trans : List TransName) (a : NetArc) (arcs : List NetArc) (c : Clash) : Type 0 where
  pub at : ℕ
  pub inside : at < length arcs
  pub other : NetArc
  pub other_is : (d : NetArc) → get_or arcs at d ≡ other
  pub same_place : other.place ≡ a.place
  pub clashing : are_clashing trans a other ≡ true
  pub c_is : c ≡ clash_of a other

-- two arcs of the list clash, and c is their clash
pub record Found (trans : List TransName) (arcs : List NetArc) (c : Clash) : Type 0 where
  pub first : ℕ
  pub second : ℕ
  pub ascends : first < second
  pub inside : second < length arcs
  pub one : NetArc
  pub one_is : (d : NetArc) → get_or arcs first d ≡ one
  pub other : NetArc
  pub other_is : (d : NetArc) → get_or arcs second d ≡ other
  pub same_place : other.place ≡ one.place
  pub clashing : are_clashing trans one other ≡ true
  pub c_is : c ≡ clash_of one other

none_found : {A : Type 0} (c : Clash) → None ≡ Some c → A
none_found c e = absurd (cc)

clashing_later : (trans : List TransName) (a b : NetArc) (arcs : List NetArc) (c : Clash) → Clashing trans a arcs c → Clashing trans a (b ∷ arcs) c
clashing_later trans a b arcs c r = record { at = suc r.at; inside = omega (arith, r.inside); other = r.other; other_is = r.other_is; same_place = r.same_place; clashing = r.clashing; c_is = r.c_is }

first_clash-sound : (trans : List TransName) (a : NetArc) (arcs : List NetArc) (c : Clash) → first_clash trans a arcs ≡ Some c → Clashing trans a arcs c
first_clash-sound trans a [] c e = none_found c e
first_clash-sound trans a (b ∷ arcs) c e = elim (cases_eq b.place a.place) [
  | inr other ↦ none_found c (rw (ne_eqb b.place a.place other) at e)
  | inl same ↦
      let f = rw (eq-eqb b.place a.place same) at e in
      elim (cases_Bool (are_clashing trans a b)) [
        | inl r ↦ record { at = 0; inside = omega arith; other = b; other_is = λ d. refl; same_place = same; clashing = r; c_is = sym (same_Some (clash_of a b) c (rw r at f)) }
        | inr r ↦ clashing_later trans a b arcs c (first_clash-sound trans a arcs c (rw r at f))
      ]
]

found_first : (trans : List TransName) (a : NetArc) (arcs : List NetArc) (c : Clash) → Clashing trans a arcs c → Found trans (a ∷ arcs) c
found_first trans a arcs c r = record { first = 0; second = suc r.at; ascends = omega arith; inside = omega (arith, r.inside); one = a; one_is = λ d. refl; other = r.other; other_is = r.other_is; same_place = r.same_place; clashing = r.clashing; c_is = r.c_is }

found_later : (trans : List TransName) (a : NetArc) (arcs : List NetArc) (c : Clash) → Found trans arcs c → Found trans (a ∷ arcs) c
found_later trans a arcs c f = record { first = suc f.first; second = suc f.second; ascends = omega (arith, f.ascends); inside = omega (arith, f.inside); one = f.one; one_is = f.one_is; other = f.other; other_is = f.other_is; same_place = f.same_place; clashing = f.clashing; c_is = f.c_is }

-- what is found are two arcs of the list
pub least_clash-sound : (trans : List TransName) (arcs : List NetArc) (c : Clash) → least_clash trans arcs ≡ Some c → Found trans arcs c
least_clash-sound trans [] c e = none_found c e
least_clash-sound trans (a ∷ arcs) c e = elim (lesser_one (first_clash trans a arcs) (least_clash trans arcs) c e) [
  | inl here ↦ found_first trans a arcs c (first_clash-sound trans a arcs c here)
  | inr later ↦ found_later trans a arcs c (least_clash-sound trans arcs c later)
]

place_up : (a b : NetArc) → IsArcBefore a b → a.place ≤ b.place
place_up a b before = elim before [ inl l ↦ omega arith | inr s ↦ omega (arith, s.0) ]

pub trans_up : (a b : NetArc) → IsArcBefore a b → a.place ≡ b.place → a.trans ≤ b.trans
trans_up a b before same = elim before [
  | inl l ↦ absurd (omega (arith, l, same))
  | inr s ↦ elim s.1 [ inl l ↦ omega arith | inr r ↦ omega (arith, r.0) ]
]

not_before_up : (a x b : NetArc) → x.trans ≤ b.trans → IsLesser (clash_of a b) (clash_of a x) → ⊥
not_before_up a x b up before = elim before [
  | inl l ↦ absurd (omega (arith, l))
  | inr r ↦ elim r.1 [ inl l ↦ absurd (omega (arith, l, up)) | inr s ↦ absurd (omega (arith, s.1)) ]
]

first_clash-reaches : (trans : List TransName) (a b : NetArc) (arcs : List NetArc) (j : ℕ) (d : NetArc) → All (IsArcBefore a) arcs → AllPairs IsArcBefore arcs → j < length arcs → get_or arcs j d ≡ b → b.place ≡ a.place → are_clashing trans a b ≡ true
    → IsReached (first_clash trans a arcs) (clash_of a b)
first_clash-reaches trans a b [] j d after ordered inside b_is same r = absurd (omega arith)
first_clash-reaches trans a b (x ∷ arcs) zero d after ordered inside b_is same r =
    let P : NetArc → Type 0 = λ y. IsReached (if y.place == a.place then (if are_clashing trans a y then Some (clash_of a y) else first_clash trans a arcs) else None) (clash_of a b) in
    subst P (sym b_is) (rw (eq-eqb b.place a.place same) (rw r (not_before_up a b b (omega arith))))
first_clash-reaches trans a b (x ∷ arcs) (suc j) d after ordered inside b_is same r =
    let up : IsArcBefore x b = subst (IsArcBefore x) b_is (ordered 0 (suc j) d (omega arith) inside) in
    let x_place : x.place ≡ a.place = omega (arith, place_up a x (All-head (IsArcBefore a) x arcs after), place_up x b up, same) in
    rw (eq-eqb x.place a.place x_place) (elim (cases_Bool (are_clashing trans a x)) [
      | inl e ↦ rw e (not_before_up a x b (trans_up x b up (x_place ∙ sym same)))
      | inr e ↦ rw e (first_clash-reaches trans a b arcs j d (All-tail (IsArcBefore a) x arcs after) (λ k l c lt below. ordered (suc k) (suc l) c (omega arith) (omega arith)) (omega arith) b_is same r)
    ])

-- of two arcs that clash, among ordered ones, a clash is found, and theirs isn't before it
pub least_clash-reaches : (trans : List TransName) (arcs : List NetArc) (a b : NetArc) (i j : ℕ) (d : NetArc) → AllPairs IsArcBefore arcs → i < j → j < length arcs → get_or arcs i d ≡ a → get_or arcs j d ≡ b → b.place ≡ a.place → are_clashing trans a b ≡ true
    → IsReached (least_clash trans arcs) (clash_of a b)
least_clash-reaches trans [] a b i j d ordered lt inside a_is b_is same r = absurd (omega arith)
least_clash-reaches trans (x ∷ arcs) a b i zero d ordered lt inside a_is b_is same r = absurd (omega arith)
least_clash-reaches trans (x ∷ arcs) a b zero (suc j) d ordered lt inside a_is b_is same r =
    let P : NetArc → Type 0 = λ y. All (IsArcBefore y) arcs → IsReached (lesser (first_clash trans y arcs) (least_clash trans arcs)) (clash_of a b) in
    subst P (sym a_is)
    (λ after. lesser_first (first_clash trans a arcs) (least_clash trans arcs) (clash_of a b)
    (first_clash-reaches trans a b arcs j d after (λ k l c low below. ordered (suc k) (suc l) c (omega arith) (omega arith)) (omega arith) b_is same r))
    (λ k c below. ordered 0 (suc k) c (omega arith) (omega arith))
least_clash-reaches trans (x ∷ arcs) a b (suc i) (suc j) d ordered lt inside a_is b_is same r =
    lesser_second (first_clash trans x arcs) (least_clash trans arcs) (clash_of a b)
    (least_clash-reaches trans arcs a b i j d (λ k l c low below. ordered (suc k) (suc l) c (omega arith) (omega arith)) (omega arith) (omega arith) a_is b_is same r)

-- of what was found, the search finds the least
pub found-reached : (trans : List TransName) (arcs : List NetArc) (c : Clash) → AllPairs IsArcBefore arcs → Found trans arcs c → IsReached (least_clash trans arcs) c
found-reached trans arcs c ordered f =
    let P : Clash → Type 0 = λ x. IsReached (least_clash trans arcs) x in
    subst P (sym f.c_is) (least_clash-reaches trans arcs f.one f.other f.first f.second f.one ordered f.ascends f.inside (f.one_is f.one) (f.other_is f.one) f.same_place f.clashing)
