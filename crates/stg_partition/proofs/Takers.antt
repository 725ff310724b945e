-- The takers after all arcs of a net are the least ones.
use Rattle.std.proofs.Common.{◌≡◌, ◌≢◌, ◌⊎◌, ℕ, zero, suc, ◌<◌, ◌≤◌, true, List, [], ◌∷◌, length, get_or, All, Option, Some, None, IfSome, MatchOption, IsTrue, refl, sym, ap, ◌∙◌, subst, arith, inl, inr}
use Rattle.std.proofs.lemmas.Bool.{cases_eq, cases_lt}
use Rattle.std.proofs.lemmas.List.{get_or-set_same, get_or-set_other, get_or_past, get_or_default, length-set}
use Rattle.std.proofs.lemmas.List.Elements.{All-head, All-tail}
use Rattle.std.proofs.lemmas.Option.{same_Some}
use Rattle.stg_net.specs.declared.arc.NetArc.{NetArc}
use Rattle.stg_net.specs.Net.{NetLists, IsNet}
use Rattle.stg_laws.specs.Groups.{is_driven_at, takes_from}
use Rattle.stg_laws.proofs.KnownSignals.{takes_by}
use Rattle.stg_laws.proofs.SignalConflicts.{taker, driven_there}
use Rattle.stg_partition.specs.inner.Joining.{own_taker, taker_at}
use Rattle.stg_partition.specs.inner.Splits.{lesser_taker, with_lesser, least_takers, AreLeastTakers}
use Rattle.stg_partition.proofs.Leading.{own_parts, own_whole}

-- an arc of the list at the place has the own taker x
pub record TakesByArc (n : NetLists) (arcs : List NetArc) (p x : ℕ) : Type 0 where
  pub at : ℕ
  pub inside : at < length arcs
  pub arc : NetArc
  pub arc_is : (d : NetArc) → get_or arcs at d ≡ arc
  pub own : own_taker n arc ≡ Some x
  pub place_is : arc.place ≡ p

later : (n : NetLists) (a : NetArc) (arcs : List NetArc) (p x : ℕ) → TakesByArc n arcs p x → TakesByArc n (a ∷ arcs) p x
later n a arcs p x t = record { at = suc t.at; inside = omega (arith, t.inside); arc = t.arc; arc_is = t.arc_is; own = t.own; place_is = t.place_is }

first : (n : NetLists) (a : NetArc) (arcs : List NetArc) (p x : ℕ) → own_taker n a ≡ Some x → a.place ≡ p → TakesByArc n (a ∷ arcs) p x
first n a arcs p x own place_is = record { at = 0; inside = omega arith; arc = a; arc_is = λ d. refl; own = own; place_is = place_is }

long_with : (o : Option ℕ) (p : ℕ) (takers : List (Option ℕ)) → length (with_lesser o p takers) ≡ length takers
long_with None p takers = refl
long_with (Some s) p takers = length-set takers p (Some (lesser_taker (taker_at takers p) s))

pub least_takers-long : (n : NetLists) (before : List (Option ℕ)) (arcs : List NetArc) → length (least_takers n before arcs) ≡ length before
least_takers-long n before [] = refl
least_takers-long n before (a ∷ arcs) = long_with (own_taker n a) a.place (least_takers n before arcs) ∙ least_takers-long n before arcs

-- the lesser taker is one of the two
lesser_one : (taker : Option ℕ) (s x : ℕ) → lesser_taker taker s ≡ x → (taker ≡ Some x) ⊎ (s ≡ x)
lesser_one None s x e = inr e
lesser_one (Some t) s x e = elim (cases_lt t s) [
  | inl l ↦ inl (ap Some (omega arith))
  | inr l ↦ inr (omega arith)
]

-- what a place's taker was lets it be after an arc
with_lesser-here : (s p : ℕ) (takers : List (Option ℕ)) → p < length takers → taker_at (with_lesser (Some s) p takers) p ≡ Some (lesser_taker (taker_at takers p) s)
with_lesser-here s p takers there = get_or-set_same takers p (Some (lesser_taker (taker_at takers p) s)) None there

with_lesser-other : (o : Option ℕ) (p q : ℕ) (takers : List (Option ℕ)) → q ≢ p → taker_at (with_lesser o p takers) q ≡ taker_at takers q
with_lesser-other None p q takers other = refl
with_lesser-other (Some s) p q takers other = get_or-set_other takers p q (Some (lesser_taker (taker_at takers p) s)) None other

-- a place's taker takes from it by an arc
pub least_takers-sound : (n : NetLists) (before : List (Option ℕ)) (arcs : List NetArc) (p x : ℕ) → ((q : ℕ) → taker_at before q ≡ None) → All (λ (a : NetArc). a.place < length before) arcs → taker_at (least_takers n before arcs) p ≡ Some x → TakesByArc n arcs p x
least_takers-sound n before [] p x none there e = let f : None ≡ Some x = sym (none p) ∙ e in absurd (cc)
least_takers-sound n before (a ∷ arcs) p x none there e =
    go (own_taker n a) refl (λ f. later n a arcs p x (least_takers-sound n before arcs p x none (All-tail (λ (b : NetArc). b.place < length before) a arcs there) f))
  where
    go : (o : Option ℕ) → own_taker n a ≡ o → (taker_at (least_takers n before arcs) p ≡ Some x → TakesByArc n (a ∷ arcs) p x) → TakesByArc n (a ∷ arcs) p x
    go None own_is deeper = deeper (sym (ap (λ o. taker_at (with_lesser o a.place (least_takers n before arcs)) p) own_is) ∙ e)
    go (Some s) own_is deeper = elim (cases_eq p a.place) [
      | inr other ↦ deeper (sym (with_lesser-other (own_taker n a) a.place p (least_takers n before arcs) other) ∙ e)
      | inl same ↦
          let inside : a.place < length (least_takers n before arcs) = omega (arith, least_takers-long n before arcs, All-head (λ (b : NetArc). b.place < length before) a arcs there) in
          let told : Some (lesser_taker (taker_at (least_takers n before arcs) a.place) s) ≡ Some x =
          sym (with_lesser-here s a.place (least_takers n before arcs) inside) ∙ sym (ap (λ o. taker_at (with_lesser o a.place (least_takers n before arcs)) a.place) own_is) ∙ ap (taker_at (with_lesser (own_taker n a) a.place (least_takers n before arcs))) (sym same) ∙ e in
          elim (lesser_one (taker_at (least_takers n before arcs) a.place) s x (same_Some (lesser_taker (taker_at (least_takers n before arcs) a.place) s) x told)) [
            | inl f ↦ deeper (ap (taker_at (least_takers n before arcs)) same ∙ f)
            | inr f ↦ first n a arcs p x (own_is ∙ ap Some f) (sym same)
          ]
    ]

-- the taker is there and at most s
abbrev pub IsAtMost : Option ℕ → ℕ → Type 0
IsAtMost taker s = MatchOption taker ⊥ (λ x. x ≤ s)

lesser_least : (taker : Option ℕ) (s r : ℕ) → IsAtMost taker r → IsAtMost (Some (lesser_taker taker s)) r
lesser_least None s r h = absurd h
lesser_least (Some t) s r h = omega arith

lesser_new : (taker : Option ℕ) (s : ℕ) → IsAtMost (Some (lesser_taker taker s)) s
lesser_new None s = omega arith
lesser_new (Some t) s = omega arith

-- an arc lowers takers alone
with_lesser-least : (o : Option ℕ) (p q r : ℕ) (takers : List (Option ℕ)) → p < length takers → IsAtMost (taker_at takers q) r → IsAtMost (taker_at (with_lesser o p takers) q) r
with_lesser-least None p q r takers there h = h
with_lesser-least (Some s) p q r takers there h = elim (cases_eq q p) [
  | inr other ↦ subst (λ t. IsAtMost t r) (sym (with_lesser-other (Some s) p q takers other)) h
  | inl same ↦
      let P : ℕ → Type 0 = λ k. IsAtMost (taker_at (with_lesser (Some s) p takers) k) r in
      let Q : ℕ → Type 0 = λ k. IsAtMost (taker_at takers k) r in
      subst P (sym same) (subst (λ t. IsAtMost t r) (sym (with_lesser-here s p takers there)) (lesser_least (taker_at takers p) s r (subst Q same h)))
]

-- each own taker of an arc is at least its place's taker
pub least_takers-least : (n : NetLists) (before : List (Option ℕ)) (arcs : List NetArc) (p s : ℕ) → All (λ (a : NetArc). a.place < length before) arcs → TakesByArc n arcs p s → IsAtMost (taker_at (least_takers n before arcs) p) s
least_takers-least n before [] p s there t = absurd (omega (arith, t.inside))
least_takers-least n before (a ∷ arcs) p s there t = go t.at t.inside (t.arc_is t.arc) (λ found. least_takers-least n before arcs p s (All-tail (λ (b : NetArc). b.place < length before) a arcs there) found)
  where
    inside : a.place < length (least_takers n before arcs)
    inside = omega (arith, least_takers-long n before arcs, All-head (λ (b : NetArc). b.place < length before) a arcs there)

    go : (k : ℕ) → k < length (a ∷ arcs) → get_or (a ∷ arcs) k t.arc ≡ t.arc → (TakesByArc n arcs p s → IsAtMost (taker_at (least_takers n before arcs) p) s)
        → IsAtMost (taker_at (with_lesser (own_taker n a) a.place (least_takers n before arcs)) p) s
    go zero below is deeper =
        let own : own_taker n a ≡ Some s = ap (own_taker n) is ∙ t.own in
        let place_is : a.place ≡ p = ap (λ (b : NetArc). b.place) is ∙ t.place_is in
        let P : ℕ → Type 0 = λ q. IsAtMost (taker_at (with_lesser (own_taker n a) a.place (least_takers n before arcs)) q) s in
        let Q : Option ℕ → Type 0 = λ o. IsAtMost (taker_at (with_lesser o a.place (least_takers n before arcs)) a.place) s in
        let R : Option ℕ → Type 0 = λ o. IsAtMost o s in
        subst P place_is (subst Q (sym own) (subst R (sym (with_lesser-here s a.place (least_takers n before arcs) inside)) (lesser_new (taker_at (least_takers n before arcs) a.place) s)))
    go (suc k) below is deeper =
        let found : TakesByArc n arcs p s = record { at = k; inside = omega arith; arc = t.arc; arc_is = λ d. get_or_default arcs k d t.arc (omega arith) ∙ is; own = t.own; place_is = t.place_is } in
        with_lesser-least (own_taker n a) a.place p s (least_takers n before arcs) inside (deeper found)

-- the arc by which an output or internal signal takes
pub own_arc : (n : NetLists) (p s : ℕ) → is_driven_at n.signals s ≡ true → takes_from n s p ≡ true → TakesByArc n n.arcs p s
own_arc n p s driven takes =
    let t = taker n s p takes in record {
      at = t.at;
      inside = t.inside;
      arc = t.arc;
      arc_is = t.arc_is;
      own = own_whole n t.arc s (record { out = t.out; output = driven; signal_is = t.signal_is });
      place_is = t.place_is;
    }

pub taken : (n : NetLists) (p x : ℕ) → TakesByArc n n.arcs p x → (is_driven_at n.signals x ≡ true) × (takes_from n x p ≡ true)
taken n p x t =
    let own = own_parts n t.arc x t.own in
    let P : ℕ → Type 0 = λ q. takes_from n x q ≡ true in
    let Q : ℕ → Type 0 = λ s. takes_from n s t.arc.place ≡ true in
    (own.output, subst P t.place_is (subst Q own.signal_is (takes_by n t.arc t.at t.inside (t.arc_is t.arc) own.out)))

-- the takers of all arcs are the least ones
pub are_least_takers : (n : NetLists) (before takers : List (Option ℕ)) → IsNet n → length before ≡ length n.tokens → All (λ taker. taker ≡ None) before → takers ≡ least_takers n before n.arcs → AreLeastTakers n takers
are_least_takers n before takers net long none same = subst (AreLeastTakers n) (sym same) (record {
  long = least_takers-long n before n.arcs ∙ long;
  below = λ p d inside. below_at p (taker_at (least_takers n before n.arcs) p) refl d inside;
  each = λ p. record { takes = takes p (taker_at (least_takers n before n.arcs) p) refl; least = λ s driven takes. least_takers-least n before n.arcs p s there (own_arc n p s driven takes) };
})
  where
    there : All (λ (a : NetArc). a.place < length before) n.arcs
    there i d inside = omega (arith, long, (net.arcs i d inside).place_there)

    nothing : (q : ℕ) → taker_at before q ≡ None
    nothing q = elim (cases_lt q (length before)) [ inl l ↦ none q None l | inr past ↦ get_or_past before q None past ]

    takes : (p : ℕ) (o : Option ℕ) → taker_at (least_takers n before n.arcs) p ≡ o → IfSome o (λ x. IsTrue (is_driven_at n.signals x) × IsTrue (takes_from n x p))
    takes p None e = tt
    takes p (Some x) e = taken n p x (least_takers-sound n before n.arcs p x nothing there e)

    here : (p : ℕ) (o : Option ℕ) → taker_at (least_takers n before n.arcs) p ≡ o → IfSome o (λ s. s < length n.signals)
    here p None e = tt
    here p (Some x) e = driven_there n x (taken n p x (least_takers-sound n before n.arcs p x nothing there e)).0

    below_at : (p : ℕ) (o : Option ℕ) → taker_at (least_takers n before n.arcs) p ≡ o → (d : Option ℕ) → p < length (least_takers n before n.arcs) → IfSome (get_or (least_takers n before n.arcs) p d) (λ s. s < length n.signals)
    below_at p o e d inside =
        let P : Option ℕ → Type 0 = λ q. IfSome q (λ s. s < length n.signals) in
        subst P (sym (get_or_default (least_takers n before n.arcs) p d None inside)) (here p (taker_at (least_takers n before n.arcs) p) refl)
