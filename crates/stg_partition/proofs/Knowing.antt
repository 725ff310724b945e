-- What marks of places and signals tell is what a group knows.
use Rattle.std.proofs.Common.{◌≡◌, ℕ, zero, suc, ◌<◌, ◌&&◌, ◌||◌, ◌==◌, not, Bool, true, List, [], ◌∷◌, ◌++◌, length, if◌then◌else◌, refl, sym, ap, ◌∙◌, subst, eq-eqb, inl, inr}
use Rattle.std.specs.Cmp.{both_ways}
use Rattle.std.specs.List.{list_any, range_with_len}
use Rattle.std.proofs.lemmas.Bool.{cases_Bool, and_parts, or_right, eqb-true, not-true}
use Rattle.std.proofs.lemmas.List.Folds.{list_any_at}
use Rattle.stg_net.specs.declared.arc.NetArc.{NetArc}
use Rattle.stg_net.specs.Net.{NetLists, IsNet}
use Rattle.stg_net.specs.Component.{is_one_of}
use Rattle.stg_net.specs.Ordered.{only_where, numbers_where}
use Rattle.stg_laws.specs.Groups.{signal_of, takes_from, is_at, own_take_from, is_known_to, known_to}
use Rattle.stg_partition.specs.inner.Marked.{own_takes, takes_by_arc, shows_at, mark_at, AreMarks}
use Rattle.stg_partition.proofs.GoodRows.{or_second}
use Rattle.stg_laws.proofs.KnownSignals.{passing, takes_by, at_by, known_at}
use Rattle.stg_laws.proofs.SignalConflicts.{Taker, taker}

numbers_same : (f g : ℕ → Bool) (n : ℕ) → ((k : ℕ) → f k ≡ g k) → numbers_where f n ≡ numbers_where g n
numbers_same f g zero same = refl
numbers_same f g (suc n) same = ap (λ xs. xs ++ only_where f n) (numbers_same f g n same) ∙ ap (λ (b : Bool). numbers_where g n ++ (if b then n ∷ [] else [])) (same n)

-- the arc by which an own transition takes marks its place
place_marked : (n : NetLists) (own : List ℕ) (p : ℕ) → own_take_from n own p ≡ true → list_any (takes_by_arc n own p) n.arcs ≡ true
place_marked n own p e =
    let f = passing (λ s. takes_from n s p) own e in
    marked f.item (list_any_at (λ k. k == f.item) own f.at 0 f.inside (ap (λ k. k == f.item) (f.item_is 0) ∙ eq-eqb f.item f.item refl)) (taker n f.item p f.passes)
  where
    marked : (s : ℕ) → is_one_of own s ≡ true → Taker n s p → list_any (takes_by_arc n own p) n.arcs ≡ true
    marked s mine t =
        let one : is_one_of own (signal_of n t.arc) ≡ true = ap (is_one_of own) t.signal_is ∙ mine in
        list_any_at (takes_by_arc n own p) n.arcs t.at t.arc t.inside (ap (takes_by_arc n own p) (t.arc_is t.arc) ∙ rw (t.out, one) (eq-eqb t.arc.place p t.place_is))

place_taken : (n : NetLists) (own : List ℕ) (p : ℕ) → list_any (takes_by_arc n own p) n.arcs ≡ true → own_take_from n own p ≡ true
place_taken n own p e =
    let f = passing (takes_by_arc n own p) n.arcs e in
    let a = f.item in
    let h = and_parts (own_takes n own a) (a.place == p) f.passes in
    let k = and_parts (not a.into) (is_one_of own (signal_of n a)) h.0 in
    let o = passing (λ s. s == signal_of n a) own k.1 in
    let P : ℕ → Type 0 = λ q. takes_from n (signal_of n a) q ≡ true in
    let takes = subst P (eqb-true a.place p h.1) (takes_by n a f.at f.inside (f.item_is a) (not-true a.into k.0)) in
    list_any_at (λ s. takes_from n s p) own o.at 0 o.inside (ap (λ s. takes_from n s p) (o.item_is 0 ∙ eqb-true o.item (signal_of n a) o.passes) ∙ takes)

module _ (n : NetLists) (own : List ℕ) (places marks : List Bool) (net : IsNet n) (taken : AreMarks (takes_by_arc n own) n.arcs places) (seen : AreMarks (shows_at n places) n.arcs marks) where
  marked_known : (s : ℕ) → (is_one_of own s || mark_at marks s) ≡ true → is_known_to n own s ≡ true
  marked_known s e = elim (cases_Bool (is_one_of own s)) [
    | inl mine ↦ ap (λ b. b || list_any (λ p. own_take_from n own p && is_at n s p) (range_with_len 0 (length n.tokens))) mine
    | inr other ↦
        let f = passing (shows_at n places s) n.arcs (sym (seen s) ∙ or_second (is_one_of own s) (mark_at marks s) e other) in
        let a = f.item in
        let h = and_parts (mark_at places a.place) (signal_of n a == s) f.passes in
        let P : NetArc → Type 0 = λ b. b.place < length n.tokens in
        let Q : ℕ → Type 0 = λ r. is_at n r a.place ≡ true in
        let at = subst Q (eqb-true (signal_of n a) s h.1) (at_by n a f.at f.inside (f.item_is a)) in
        known_at n own s a.place (subst P (f.item_is a) (net.arcs f.at a f.inside).place_there) (place_taken n own a.place (sym (taken a.place) ∙ h.0)) at
  ]

  known_marked : (s : ℕ) → is_known_to n own s ≡ true → (is_one_of own s || mark_at marks s) ≡ true
  known_marked s e = elim (cases_Bool (is_one_of own s)) [
    | inl mine ↦ ap (λ b. b || mark_at marks s) mine
    | inr other ↦
        let test : ℕ → Bool = λ p. own_take_from n own p && is_at n s p in
        let f = passing test (range_with_len 0 (length n.tokens)) (or_second (is_one_of own s) (list_any test (range_with_len 0 (length n.tokens))) e other) in
        let h = and_parts (own_take_from n own f.item) (is_at n s f.item) f.passes in
        let g = passing (λ (a : NetArc). (a.place == f.item) && (signal_of n a == s)) n.arcs h.1 in
        let a = g.item in
        let k = and_parts (a.place == f.item) (signal_of n a == s) g.passes in
        let mark : mark_at places a.place ≡ true = taken a.place ∙ place_marked n own a.place (ap (own_take_from n own) (eqb-true a.place f.item k.0) ∙ h.0) in
        or_right (is_one_of own s) (mark_at marks s) (seen s ∙ list_any_at (shows_at n places s) n.arcs g.at a g.inside (ap (shows_at n places s) (g.item_is a) ∙ rw mark k.1))
  ]

  -- the numbers that are own or marked are those that a group knows
  pub known_is : numbers_where (λ s. is_one_of own s || mark_at marks s) (length n.signals) ≡ known_to n own
  known_is = numbers_same (λ s. is_one_of own s || mark_at marks s) (is_known_to n own) (length n.signals) (λ s. both_ways (is_one_of own s || mark_at marks s) (is_known_to n own s) (marked_known s) (known_marked s))
