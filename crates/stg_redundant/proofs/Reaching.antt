-- Which places are in reach of some: those that are one of them, have their arcs, or are links.
use Rattle.std.proofs.Common.{◌≡◌, ◌<◌, ◌≤◌, ◌+◌, ◌&&◌, ◌⊎◌, ◌↔◌, ℕ, true, List, [], ◌∷◌, length, is_some, All, IsTrue, Option, Some, None, refl, sym, ap, ◌∙◌, subst, inl, inr, arith}
use Rattle.std.proofs.lemmas.Bool.{cases_lt, and_parts, false≢true}
use Rattle.stg_net.specs.Graph.{Graph, IsPlace, place_at, takes, gives}
use Rattle.stg_arena.specs.WalkItems.{weighted}
use Rattle.stg_edit.specs.Drafts.{IsWeightlessPastLast}
use Rattle.stg_edit.specs.Walks.{taken_places, given_places, taking_trans, giving_trans}
use Rattle.stg_laws.proofs.Origins.{takes-past, gives-past}
use Rattle.std.proofs.lemmas.Option.{none-some}
use Rattle.std.proofs.lemmas.List.Elements.{All-head, All-tail}
use Rattle.stg_contract.proofs.WeightLists.{each_from}
use Rattle.stg_redundant.specs.declared.chains.Link.{Link}
use Rattle.stg_redundant.specs.inner.Chains.{IsAmong, link_at}
use Rattle.stg_redundant.specs.inner.Tests.{are_same, first_of, has_arcs_of}
use Rattle.stg_redundant.specs.Watching.{IsNewPlace, IsLinkPlace, HasOtherAmong, HasNoArc, HasArcsOf, IsNearPlace, IsInReach, itself, same_arcs, any_link}
use Rattle.stg_redundant.proofs.Besides.{among_split}
use Rattle.stg_redundant.proofs.RuleTests.{everywhere, nowhere, place_below}
use Rattle.stg_redundant.proofs.LinkPaths.{link_is, link_there}
use Rattle.stg_redundant.proofs.LinkTables.{among_from}
use Rattle.stg_redundant.proofs.FirstSame.{first_weighs}

-- what is told to have the arcs of p has them, where p has an arc
pub arcs_are : (g : Graph) (p q : ℕ) → IsWeightlessPastLast g → (¬ HasNoArc g p)
    → has_arcs_of g p q ≡ true → HasArcsOf g p q
arcs_are g p q narrow some e =
    let a = and_parts (is_some (place_at g q) && are_same (taking_trans g p) (taking_trans g q)) (are_same (giving_trans g p) (giving_trans g q)) e in
    let b = and_parts (is_some (place_at g q)) (are_same (taking_trans g p) (taking_trans g q)) a.0 in
    let taken = everywhere (length g.trans) (λ t. takes g t p) (λ t. takes g t q) (λ t past. (narrow t p past).0) (λ t past. (narrow t q past).0) b.1 in
    let given = everywhere (length g.trans) (λ t. gives g t p) (λ t. gives g t q) (λ t past. (narrow t p past).1) (λ t past. (narrow t q past).1) a.1 in
    record {
      live = b.0;
      taken = λ t. sym (taken t);
      given = λ t. sym (given t);
      some = λ none. some (λ t. (taken t ∙ (none t).0, given t ∙ (none t).1));
    }

-- and what has them is told
pub arcs_there : (g : Graph) (p q : ℕ) → HasArcsOf g p q → has_arcs_of g p q ≡ true
arcs_there g p q a =
    λ i.
    a.live i
    && nowhere (length g.trans) (λ t. takes g t p) (λ t. takes g t q) (λ t. sym (a.taken t)) i
    && nowhere (length g.trans) (λ t. gives g t p) (λ t. gives g t q) (λ t. sym (a.given t)) i

-- without a first one a walk is empty
none_weighs : (n : ℕ) (w : ℕ → ℕ) → first_of (weighted n w) ≡ None → (k : ℕ) → k < n → w k ≡ 0
none_weighs n w none k low = elim (cases_lt 0 (w k)) [
  | inr zero ↦ omega (arith, zero)
  | inl some ↦ absurd (empty (weighted n w) none (among_from w k n 0 (omega arith) (omega (arith, low)) some))
]
  where
    empty : (xs : List (ℕ × ℕ)) → first_of xs ≡ None → IsAmong k xs → ⊥
    empty [] e h = h
    empty (x ∷ xs) e h = none-some x.0 (sym e)

-- a place at which no walk has a first one has no arc
pub no_arc : (g : Graph) (p : ℕ) → IsWeightlessPastLast g → first_of (taking_trans g p) ≡ None
    → first_of (giving_trans g p) ≡ None → HasNoArc g p
no_arc g p narrow taken given t = elim (cases_lt t (length g.trans)) [
  | inl low ↦ (none_weighs (length g.trans) (λ t. takes g t p) taken t low, none_weighs (length g.trans) (λ t. gives g t p) given t low)
  | inr past ↦ narrow t p past
]

-- q is p, or is told to have its arcs among these places
abbrev pub IsOneOrSame : Graph → ℕ → List (ℕ × ℕ) → ℕ → Type 0
IsOneOrSame g p places q = (q ≡ p) ⊎ (IsAmong q places × (has_arcs_of g p q ≡ true))

module _ (g : Graph) (p : ℕ) (narrow : IsWeightlessPastLast g) (live : IsPlace g p) where
  -- where those with the arcs of p are among the places, these are in reach of p
  reach_by : (places : List (ℕ × ℕ)) → (¬ HasNoArc g p)
      → ((q : ℕ) → HasArcsOf g p q → IsAmong q places) → (q : ℕ)
      → IsInReach g (λ r. r ≡ p) ⊥ q ↔ IsOneOrSame g p places q
  reach_by places some among q = (to, from)
    where
      to : IsInReach g (λ r. r ≡ p) ⊥ q → IsOneOrSame g p places q
      to (itself q_live e) = inl e
      to (same_arcs r e a) =
          let b = subst (λ x. HasArcsOf g x q) e a in
          inr (among q b, arcs_there g p q b)
      to (any_link never l) = absurd never

      from : IsOneOrSame g p places q → IsInReach g (λ r. r ≡ p) ⊥ q
      from (inl e) = itself (subst (IsPlace g) (sym e) live) e
      from (inr h) = same_arcs p refl (arcs_are g p q narrow some h.1)

  -- so are those from which the first taker of p takes
  pub reach_by_taker : (t : ℕ) → first_of (taking_trans g p) ≡ Some t → (q : ℕ)
      → IsInReach g (λ r. r ≡ p) ⊥ q ↔ IsOneOrSame g p (taken_places g t) q
  reach_by_taker t first =
      let some = first_weighs (length g.trans) (λ u. takes g u p) t first in
      reach_by (taken_places g t) (λ none. omega (arith, some, (none t).0)) (λ q a.
      let weighs : 0 < takes g t q = omega (arith, some, a.taken t) in
      among_from (takes g t) q (length g.places) 0 (omega arith) (omega (arith, place_below g q a.live)) weighs)

  -- or those to which its first giver gives
  pub reach_by_giver : (t : ℕ) → first_of (giving_trans g p) ≡ Some t → (q : ℕ)
      → IsInReach g (λ r. r ≡ p) ⊥ q ↔ IsOneOrSame g p (given_places g t) q
  reach_by_giver t first =
      let some = first_weighs (length g.trans) (λ u. gives g u p) t first in
      reach_by (given_places g t) (λ none. omega (arith, some, (none t).1)) (λ q a.
      let weighs : 0 < gives g t q = omega (arith, some, a.given t) in
      among_from (gives g t) q (length g.places) 0 (omega arith) (omega (arith, place_below g q a.live)) weighs)

  -- without arcs p alone is in reach of it
  pub reach_alone : HasNoArc g p → (q : ℕ) → IsInReach g (λ r. r ≡ p) ⊥ q ↔ (q ≡ p)
  reach_alone none q = (to, λ e. itself (subst (IsPlace g) (sym e) live) e)
    where
      to : IsInReach g (λ r. r ≡ p) ⊥ q → q ≡ p
      to (itself q_live e) = e
      to (same_arcs r e a) = absurd (a.some (λ t. (a.taken t ∙ ap (takes g t) e ∙ (none t).0, a.given t ∙ ap (gives g t) e ∙ (none t).1)))
      to (any_link never l) = absurd never

-- what is in reach of two kinds of places is in reach of one of them
pub reach_split : (g : Graph) (IsOne IsFirst IsLater : ℕ → Type 0) → ((p : ℕ) → IsOne p ↔ (IsFirst p ⊎ IsLater p))
    → (q : ℕ) → IsInReach g IsOne ⊥ q ↔ (IsInReach g IsFirst ⊥ q ⊎ IsInReach g IsLater ⊥ q)
reach_split g IsOne IsFirst IsLater split q = (to, from)
  where
    to : IsInReach g IsOne ⊥ q → IsInReach g IsFirst ⊥ q ⊎ IsInReach g IsLater ⊥ q
    to (itself live one) = elim ((split q).0 one) [ inl f ↦ inl (itself live f) | inr l ↦ inr (itself live l) ]
    to (same_arcs p one a) = elim ((split p).0 one) [ inl f ↦ inl (same_arcs p f a) | inr l ↦ inr (same_arcs p l a) ]
    to (any_link never l) = absurd never

    from : IsInReach g IsFirst ⊥ q ⊎ IsInReach g IsLater ⊥ q → IsInReach g IsOne ⊥ q
    from (inl (itself live f)) = itself live ((split q).1 (inl f))
    from (inl (same_arcs p f a)) = same_arcs p ((split p).1 (inl f)) a
    from (inl (any_link never l)) = absurd never
    from (inr (itself live f)) = itself live ((split q).1 (inr f))
    from (inr (same_arcs p f a)) = same_arcs p ((split p).1 (inr f)) a
    from (inr (any_link never l)) = absurd never

-- what is in reach of places may be told of the same places
pub reach_same : (g : Graph) (IsOne IsAlso : ℕ → Type 0) (q : ℕ) → ((p : ℕ) → IsOne p ↔ IsAlso p)
    → IsInReach g IsOne ⊥ q ↔ IsInReach g IsAlso ⊥ q
reach_same g IsOne IsAlso q same = (to, from)
  where
    to : IsInReach g IsOne ⊥ q → IsInReach g IsAlso ⊥ q
    to (itself live one) = itself live ((same q).0 one)
    to (same_arcs p one a) = same_arcs p ((same p).0 one) a
    to (any_link never l) = absurd never

    from : IsInReach g IsAlso ⊥ q → IsInReach g IsOne ⊥ q
    from (itself live one) = itself live ((same q).1 one)
    from (same_arcs p one a) = same_arcs p ((same p).1 one) a
    from (any_link never l) = absurd never

-- without places nothing is in reach
pub reach_empty : (g : Graph) (IsOne : ℕ → Type 0) (q : ℕ) → ((p : ℕ) → IsOne p → ⊥)
    → IsInReach g IsOne ⊥ q → ⊥
reach_empty g IsOne q none (itself live one) = none q one
reach_empty g IsOne q none (same_arcs p one a) = none p one
reach_empty g IsOne q none (any_link never l) = never

-- nothing is in reach of numbers past the last place
pub reach_past : (g : Graph) (k q : ℕ) → length g.places ≤ k → IsInReach g (IsNewPlace k) ⊥ q → ⊥
reach_past g k q past (itself live one) = omega (arith, place_below g q live, one, past)
reach_past g k q past (same_arcs p one a) =
    let beyond : length g.places ≤ p = omega (arith, one, past) in
    a.some (λ t. (a.taken t ∙ takes-past g t p beyond, a.given t ∙ gives-past g t p beyond))
reach_past g k q past (any_link never l) = never

-- a number from k on is k or one from the next on
pub new_split : (k p : ℕ) → IsNewPlace k p ↔ ((p ≡ k) ⊎ IsNewPlace (k + 1) p)
new_split k p = (to, from)
  where
    to : k ≤ p → (p ≡ k) ⊎ (k + 1 ≤ p)
    to le = elim (cases_lt k p) [ inl l ↦ inr (omega (arith, l)) | inr h ↦ inl (omega (arith, le, h)) ]

    from : (p ≡ k) ⊎ (k + 1 ≤ p) → k ≤ p
    from (inl e) = omega (arith, e)
    from (inr l) = omega (arith, l)

-- a place that is no link is left of those that hold one, where the first one is a link
pub others_later : (g : Graph) (x : ℕ × ℕ) (whole left : List (ℕ × ℕ)) → whole ≡ x ∷ left
    → IsLinkPlace g x.0 → HasOtherAmong g (λ p. IsAmong p whole) → HasOtherAmong g (λ p. IsAmong p left)
others_later g x whole left e link h = elim ((among_split x whole left e h.place).0 h.one) [
  | inl same ↦ absurd (h.no_link (subst (IsLinkPlace g) (sym same) link))
  | inr later ↦ record { place = h.place; one = later; no_link = h.no_link }
]

-- where links count, they are in reach besides
pub reach_counting : (g : Graph) (IsOne : ℕ → Type 0) (LinksCount : Type 0) → LinksCount → (q : ℕ)
    → (IsInReach g IsOne ⊥ q ⊎ IsLinkPlace g q) ↔ IsInReach g IsOne LinksCount q
reach_counting g IsOne LinksCount count q = (to, from)
  where
    to : IsInReach g IsOne ⊥ q ⊎ IsLinkPlace g q → IsInReach g IsOne LinksCount q
    to (inl (itself live one)) = itself live one
    to (inl (same_arcs p one a)) = same_arcs p one a
    to (inl (any_link never l)) = absurd never
    to (inr l) = any_link count l

    from : IsInReach g IsOne LinksCount q → IsInReach g IsOne ⊥ q ⊎ IsLinkPlace g q
    from (itself live one) = inl (itself live one)
    from (same_arcs p one a) = inl (same_arcs p one a)
    from (any_link c l) = inr l

-- and where they don't, they aren't
pub reach_not_counting : (g : Graph) (IsOne : ℕ → Type 0) (LinksCount : Type 0) → (¬ LinksCount) → (q : ℕ)
    → IsInReach g IsOne ⊥ q ↔ IsInReach g IsOne LinksCount q
reach_not_counting g IsOne LinksCount none q = (to, from)
  where
    to : IsInReach g IsOne ⊥ q → IsInReach g IsOne LinksCount q
    to (itself live one) = itself live one
    to (same_arcs p one a) = same_arcs p one a
    to (any_link never l) = absurd never

    from : IsInReach g IsOne LinksCount q → IsInReach g IsOne ⊥ q
    from (itself live one) = itself live one
    from (same_arcs p one a) = same_arcs p one a
    from (any_link c l) = absurd (none c)

-- what is among the numbers with a weight has one
pub among_is : (w : ℕ → ℕ) (n p : ℕ) → (n ≤ p → w p ≡ 0) → IsAmong p (weighted n w) ↔ (0 < w p)
among_is w n p past = (to (weighted n w) (each_from (λ (x : ℕ × ℕ). 0 < w x.0) w n 0 (λ k l r some. some)), from)
  where
    to : (xs : List (ℕ × ℕ)) → All (λ (x : ℕ × ℕ). 0 < w x.0) xs → IsAmong p xs → 0 < w p
    to [] all h = absurd h
    to (x ∷ xs) all (inl e) = omega (arith, All-head (λ (x : ℕ × ℕ). 0 < w x.0) x xs all, ap w e)
    to (x ∷ xs) all (inr later) = to xs (All-tail (λ (x : ℕ × ℕ). 0 < w x.0) x xs all) later

    from : 0 < w p → IsAmong p (weighted n w)
    from some = elim (cases_lt p n) [
      | inl low ↦ among_from w p n 0 (omega arith) (omega (arith, low)) some
      | inr high ↦ absurd (omega (arith, some, past high))
    ]

-- the places of both walks of a transition are those near it
pub near_is : (g : Graph) (t p : ℕ) → (IsAmong p (taken_places g t) ⊎ IsAmong p (given_places g t)) ↔ IsNearPlace g t p
near_is g t p = (to, from)
  where
    taken : IsAmong p (taken_places g t) ↔ (0 < takes g t p)
    taken = among_is (takes g t) (length g.places) p (takes-past g t p)

    given : IsAmong p (given_places g t) ↔ (0 < gives g t p)
    given = among_is (gives g t) (length g.places) p (gives-past g t p)

    to : IsAmong p (taken_places g t) ⊎ IsAmong p (given_places g t) → IsNearPlace g t p
    to (inl h) = inl (taken.0 h)
    to (inr h) = inr (given.0 h)

    from : IsNearPlace g t p → IsAmong p (taken_places g t) ⊎ IsAmong p (given_places g t)
    from (inl h) = inl (taken.1 h)
    from (inr h) = inr (given.1 h)

-- what is told to be a link is one
pub link_told : (g : Graph) (p : ℕ) (o : Option Link) → IsWeightlessPastLast g → o ≡ link_at g p
    → IsTrue (is_some o) ↔ IsLinkPlace g p
link_told g p o narrow e = (to o e, from)
  where
    to : (o : Option Link) → o ≡ link_at g p → IsTrue (is_some o) → IsLinkPlace g p
    to (Some l) e told = let at = link_is g p l narrow (sym e) in record { giver = l.giver; taker = l.taker; link = at.link }
    to None e told = absurd (false≢true told)

    from : IsLinkPlace g p → IsTrue (is_some o)
    from x = ap is_some (e ∙ link_there g p x.giver x.taker narrow x.link)
