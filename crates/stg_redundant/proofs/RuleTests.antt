-- What the tests over lists say.
use Rattle.std.proofs.Common.{◌≡◌, ◌<◌, ◌≤◌, ◌&&◌, ◌==◌, ℕ, nat_le, Bool, true, false, not, List, [], ◌∷◌, length, is_some, None, eq-eqb, refl, sym, ap, ◌∙◌, subst, inl, inr, arith}
use Rattle.std.specs.List.{list_all}
use Rattle.std.proofs.lemmas.Bool.{and_parts, cases_lt, cases_Bool, eqb-true, ne_eqb, not-true, leb-true, le-leb, false≢true}
use Rattle.std.proofs.lemmas.List.{get_or_past}
use Rattle.stg_net.specs.Graph.{Graph, IsPlace, IsDummy, full_name_at, has_signal_of, tokens_at, takes, gives}
use Rattle.stg_edit.specs.Walks.{taking_trans}
use Rattle.stg_arena.specs.WalkItems.{weighted}
use Rattle.stg_edit.specs.Drafts.{IsWeightlessPastLast}
use Rattle.stg_arena.proofs.Incidence.{weighted_same}
use Rattle.stg_laws.specs.RedundantPlaces.{IsSamePlace, IsLoopPlace, IsShortcut, IsRedundantPlace, same_place, loop_place, shortcut}
use Rattle.stg_laws.specs.RedundantDummies.{IsLoopDummy, IsSameDummy, IsRedundantDummy, loop_dummy, same_dummy}
use Rattle.stg_laws.proofs.Origins.{takes-past, gives-past}
use Rattle.stg_contract.specs.inner.Weights.{weight_in}
use Rattle.stg_edit.proofs.LiveEnds.{taken_is_place}
use Rattle.stg_contract.proofs.WeightLists.{weight_in-weighted}
use Rattle.stg_contract.proofs.DummyTests.{all_at, not_all_at, live_below}
use Rattle.stg_redundant.specs.inner.Tests.{are_same, is_same_place, is_loop_place, is_loop_dummy, is_live_dummy, is_same_dummy}

-- lists that are found the same are equal
same_equal : (xs ys : List (ℕ × ℕ)) → are_same xs ys ≡ true → xs ≡ ys
same_equal [] [] e = refl
same_equal [] (y ∷ ys) e = absurd (false≢true e)
same_equal (x ∷ xs) [] e = absurd (false≢true e)
same_equal (x ∷ xs) (y ∷ ys) e =
    let a = and_parts _ _ e in
    let b = and_parts _ _ a.0 in
    let first = eqb-true x.0 y.0 b.0 in
    let second = eqb-true x.1 y.1 b.1 in
    let rest = same_equal xs ys a.1 in
    λ i. (first i, second i) ∷ rest i

-- a list is found the same as itself
same_self : (xs : List (ℕ × ℕ)) → are_same xs xs ≡ true
same_self [] = refl
same_self (x ∷ xs) = (λ i. eq-eqb x.0 x.0 refl i && eq-eqb x.1 x.1 refl i && same_self xs i)

-- equal lists are found the same
same_from : (xs ys : List (ℕ × ℕ)) → xs ≡ ys → are_same xs ys ≡ true
same_from xs ys e = subst (λ zs. are_same xs zs ≡ true) e (same_self xs)

-- equal lists have equal weights
equal_at : (n : ℕ) (f h : ℕ → ℕ) → weighted n f ≡ weighted n h → (k : ℕ) → k < n → f k ≡ h k
equal_at n f h e k low = sym (weight_in-weighted f n 0 k (omega arith) (omega (arith, low))) ∙ ap (weight_in k) e ∙ weight_in-weighted h n 0 k (omega arith) (omega (arith, low))

-- the same weights everywhere, where there are none from n on
pub everywhere : (n : ℕ) (f h : ℕ → ℕ) → ((k : ℕ) → n ≤ k → f k ≡ 0) → ((k : ℕ) → n ≤ k → h k ≡ 0)
    → are_same (weighted n f) (weighted n h) ≡ true → (k : ℕ) → f k ≡ h k
everywhere n f h f_past h_past e k = elim (cases_lt k n) [
  | inl low ↦ equal_at n f h (same_equal (weighted n f) (weighted n h) e) k low
  | inr past ↦ omega (arith, f_past k past, h_past k past)
]

-- and equal weights everywhere give the same lists
pub nowhere : (n : ℕ) (f h : ℕ → ℕ) → ((k : ℕ) → f k ≡ h k)
    → are_same (weighted n f) (weighted n h) ≡ true
nowhere n f h same = same_from (weighted n f) (weighted n h) (weighted_same n n f h refl (λ k low. same k))

-- what is told to be a dummy is one
dummy_is : (g : Graph) (t : ℕ) → is_live_dummy g t ≡ true → IsDummy g t
dummy_is g t e = let a = and_parts _ _ e in record { live = a.0; hidden = not-true (has_signal_of g.known (full_name_at g t)) a.1 }

-- and a dummy is told
pub dummy_there : (g : Graph) (t : ℕ) → IsDummy g t → is_live_dummy g t ≡ true
dummy_there g t d = λ i. d.live i && not (d.hidden i)

-- a dummy that is told to give back what it takes does so
pub loop_dummy_is : (g : Graph) (t : ℕ) → IsDummy g t → is_loop_dummy g t ≡ true → IsLoopDummy g t
loop_dummy_is g t dummy e = record {
  dummy = dummy;
  same = everywhere (length g.places) (takes g t) (gives g t) (takes-past g t) (gives-past g t) e;
}

-- and one that does is told
pub loop_dummy_there : (g : Graph) (t : ℕ) → IsLoopDummy g t → is_loop_dummy g t ≡ true
loop_dummy_there g t l = nowhere (length g.places) (takes g t) (gives g t) l.same

-- a dummy that is told to have the arcs of another has them
pub same_dummy_is : (g : Graph) (t u : ℕ) → IsDummy g t → is_same_dummy g t u ≡ true
    → IsSameDummy g t u
same_dummy_is g t u dummy e =
    let a = and_parts _ _ e in
    let b = and_parts _ _ a.0 in
    let c = and_parts _ _ b.0 in
    record {
      dummy = dummy;
      differ = λ same. false≢true (sym (not-true (t == u) c.0) ∙ eq-eqb t u same);
      other_dummy = dummy_is g u c.1;
      taken = everywhere (length g.places) (takes g t) (takes g u) (takes-past g t) (takes-past g u) b.1;
      given = everywhere (length g.places) (gives g t) (gives g u) (gives-past g t) (gives-past g u) a.1;
    }

-- and one that has them is told
pub same_dummy_there : (g : Graph) (t u : ℕ) → IsSameDummy g t u → is_same_dummy g t u ≡ true
same_dummy_there g t u s =
    λ i.
    not (ne_eqb t u s.differ i)
    && dummy_there g u s.other_dummy i
    && nowhere (length g.places) (takes g t) (takes g u) s.taken i
    && nowhere (length g.places) (gives g t) (gives g u) s.given i

-- a dummy that no test tells is not redundant
pub not_redundant_dummy : (g : Graph) (t : ℕ) → is_loop_dummy g t ≡ false
    → ((u : ℕ) → u < length g.trans → is_same_dummy g t u ≡ false) → IsRedundantDummy g t → ⊥
not_redundant_dummy g t loop none (loop_dummy l) = false≢true (sym loop ∙ loop_dummy_there g t l)
not_redundant_dummy g t loop none (same_dummy u s) = false≢true (sym (none u (live_below g u s.other_dummy.live)) ∙ same_dummy_there g t u s)

-- a dummy to which a rule applies is a dummy
pub redundant_is_dummy : (g : Graph) (t : ℕ) → IsRedundantDummy g t → IsDummy g t
redundant_is_dummy g t (loop_dummy l) = l.dummy
redundant_is_dummy g t (same_dummy u s) = s.dummy

-- the first that passes is the least of which the fact holds
pub least_of_first : (test : ℕ → Bool) (P : ℕ → Type 0) → ((v : ℕ) → P v → test v ≡ true)
    → (u : ℕ) → ((v : ℕ) → v < u → test v ≡ false) → (v : ℕ) → P v → u ≤ v
least_of_first test P there u before v p = elim (cases_lt v u) [
  | inl l ↦ absurd (false≢true (sym (before v l) ∙ there v p))
  | inr h ↦ h
]

-- a place that is told to have the arcs of another has them, and at least its tokens
pub same_place_is : (g : Graph) (p q : ℕ) → IsWeightlessPastLast g → IsPlace g p
    → is_same_place g p q ≡ true → IsSamePlace g p q
same_place_is g p q narrow live e =
    let a = and_parts _ _ e in
    let b = and_parts _ _ a.0 in
    let c = and_parts _ _ b.0 in
    let d = and_parts _ _ c.0 in
    record {
      live = live;
      differ = λ same. false≢true (sym (not-true (p == q) d.0) ∙ eq-eqb p q same);
      other_live = d.1;
      taken = everywhere (length g.trans) (λ t. takes g t p) (λ t. takes g t q) (λ t past. (narrow t p past).0) (λ t past. (narrow t q past).0) b.1;
      given = everywhere (length g.trans) (λ t. gives g t p) (λ t. gives g t q) (λ t past. (narrow t p past).1) (λ t past. (narrow t q past).1) a.1;
      held = leb-true (tokens_at g q) (tokens_at g p) c.1;
    }

-- and one that has them is told
pub same_place_there : (g : Graph) (p q : ℕ) → IsSamePlace g p q → is_same_place g p q ≡ true
same_place_there g p q s =
    λ i.
    not (ne_eqb p q s.differ i)
    && s.other_live i
    && le-leb (tokens_at g q) (tokens_at g p) s.held i
    && nowhere (length g.trans) (λ t. takes g t p) (λ t. takes g t q) s.taken i
    && nowhere (length g.trans) (λ t. gives g t p) (λ t. gives g t q) s.given i

-- a place that is told to get back what it gives does so, and holds enough
pub loop_place_is : (g : Graph) (p : ℕ) → IsWeightlessPastLast g → IsPlace g p
    → is_loop_place g p ≡ true → IsLoopPlace g p
loop_place_is g p narrow live e =
    let a = and_parts _ _ e in
    record {
      live = live;
      same = everywhere (length g.trans) (λ t. takes g t p) (λ t. gives g t p) (λ t past. (narrow t p past).0) (λ t past. (narrow t p past).1) a.0;
      held = λ t. elim (cases_lt t (length g.trans)) [
        | inl low ↦ elim (cases_lt 0 (takes g t p)) [
          | inl some ↦ leb-true (takes g t p) (tokens_at g p) (all_at (λ x. nat_le x.1 (tokens_at g p)) (λ t. takes g t p) (length g.trans) t a.1 low some)
          | inr none ↦ omega (arith, none)
        ]
        | inr past ↦ omega (arith, (narrow t p past).0)
      ];
    }

-- and one that does is told
pub loop_place_there : (g : Graph) (p : ℕ) → IsLoopPlace g p → is_loop_place g p ≡ true
loop_place_there g p s = λ i. nowhere (length g.trans) (λ t. takes g t p) (λ t. gives g t p) s.same i && enough i
  where
    enough : list_all (λ x. nat_le x.1 (tokens_at g p)) (taking_trans g p) ≡ true
    enough = elim (cases_Bool (list_all (λ x. nat_le x.1 (tokens_at g p)) (taking_trans g p))) [
      | inl h ↦ h
      | inr h ↦ let f = not_all_at (λ x. nat_le x.1 (tokens_at g p)) (λ t. takes g t p) (length g.trans) h in
          absurd (false≢true (sym f.holds ∙ le-leb (takes g f.number p) (tokens_at g p) (s.held f.number)))
    ]

-- a live place is one of the list
pub place_below : (g : Graph) (q : ℕ) → IsPlace g q → q < length g.places
place_below g q live = elim (cases_lt q (length g.places)) [ inl l ↦ l | inr past ↦ absurd (false≢true (sym (ap is_some (get_or_past g.places q None past)) ∙ live)) ]

-- where no place is told, none has the same arcs
pub none_same : (g : Graph) (p : ℕ)
    → ((q : ℕ) → q < length g.places → is_same_place g p q ≡ false) → (q : ℕ)
    → IsSamePlace g p q → ⊥
none_same g p none q s = false≢true (sym (none q (place_below g q s.other_live)) ∙ same_place_there g p q s)

-- a place to which none of the three rules applies is not redundant
pub not_redundant : (g : Graph) (p : ℕ) → ((q : ℕ) → IsSamePlace g p q → ⊥)
    → (IsLoopPlace g p → ⊥) → (IsShortcut g p → ⊥) → IsRedundantPlace g p → ⊥
not_redundant g p same loop short (same_place q s) = same q s
not_redundant g p same loop short (loop_place s) = loop s
not_redundant g p same loop short (shortcut s) = short s

-- a place to which a rule applies is live
pub redundant_live : (g : Graph) (p : ℕ) → IsRedundantPlace g p → IsPlace g p
redundant_live g p (same_place q s) = s.live
redundant_live g p (loop_place s) = s.live
redundant_live g p (shortcut s) = taken_is_place g s.taker p (omega (arith, s.link.taken))
