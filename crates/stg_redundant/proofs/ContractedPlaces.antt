-- Which places a contraction can have made redundant: a new place over two links leads as these two did.
use Rattle.std.proofs.Common.{◌≡◌, ◌≢◌, ◌<◌, ◌≤◌, ◌+◌, ◌-◌, ◌⊎◌, ℕ, [], ◌∷◌, length, map, get_or, cond, eqb, ltb, false, Option, Some, None, IsSome, refl, sym, ap, ◌∙◌, subst, inl, inr, arith}
use Rattle.std.proofs.lemmas.Bool.{cases_lt, cases_eq, cases_Bool, ne_eqb, or_parts, ltb-false, false≢true}
use Rattle.std.proofs.lemmas.List.{get_or_past, get_or_append_left, get_or-append_right, get_or-map, length-map}
use Rattle.std.proofs.lemmas.List.Elements.{All-nil, All-cons}
use Rattle.std.proofs.lemmas.List.Sums.{sum_by-cons}
use Rattle.std.proofs.lemmas.List.FromFn.{length-map-range_with_len, get_or-map-range_with_len}
use Rattle.stg_net.specs.Graph.{Graph, IsPlace, place_at, place_numbers, tokens_in, taken_by, given_by, tokens_at, takes, gives}
use Rattle.stg_net.specs.Contraction.{pairs_round, each_other, pair_place, is_touched, remaining_place, contracted}
use Rattle.stg_edit.specs.Drafts.{IsWeightlessPastLast}
use Rattle.stg_laws.specs.RedundantPlaces.{IsLink, IsRedundantPlace}
use Rattle.stg_laws.specs.Secure.{IsPureOrdinary}
use Rattle.stg_laws.proofs.ContractedOrigins.{pairs_around}
use Rattle.stg_redundant.specs.declared.chains.Link.{Link}
use Rattle.stg_redundant.specs.inner.Chains.{link_at}
use Rattle.stg_redundant.specs.Watching.{IsNearPlace, IsNewPlace, IsLinkPlace, HasLinkAmong, HasOtherAmong, itself, IsReachedByContraction}
use Rattle.stg_redundant.proofs.LinkPaths.{none_some, link_is, link_there}
use Rattle.stg_redundant.proofs.RuleTests.{redundant_live}
use Rattle.stg_redundant.proofs.EditedPlaces.{IsSameIn, LeadBeside, link_live, link_leads, stays_in_reach}
use Rattle.stg_redundant.proofs.WatchedPlaces.{stands_same}

-- a place is a link or none
pub link_or_none : (g : Graph) (p : ℕ) → IsWeightlessPastLast g → IsLinkPlace g p ⊎ (¬ IsLinkPlace g p)
link_or_none g p narrow = go (link_at g p) refl
  where
    go : (o : Option Link) → link_at g p ≡ o → IsLinkPlace g p ⊎ (¬ IsLinkPlace g p)
    go (Some l) e = let at = link_is g p l narrow e in inl (record { giver = l.giver; taker = l.taker; link = at.link })
    go None e = inr (λ x. none_some (record { place = p; giver = x.giver; taker = x.taker; tokens = tokens_at g p }) (sym e ∙ link_there g p x.giver x.taker narrow x.link))

-- where all weights but one are 0, a number with a weight is that one
only : (w : ℕ → ℕ) (a b : ℕ) → ((u : ℕ) → u ≢ a → w u ≡ 0) → 0 < w b → b ≡ a
only w a b none some = elim (cases_eq b a) [ inl e ↦ e | inr other ↦ absurd (omega (arith, some, none b other)) ]

-- two numbers of which one is 0 aren't both above
not_both : (a b : ℕ) → (0 < a → b ≡ 0) → 0 < a → 0 < b → ⊥
not_both a b zero some more = omega (arith, zero some, more)

-- the new place p stands for the places before and after t
pub record StandsForPair (g : Graph) (t p : ℕ) : Type 0 where
  pub before : ℕ
  pub after : ℕ
  pub taken : 0 < takes g t before
  pub given : 0 < gives g t after
  pub is_pair : place_at (contracted g t) p ≡ pair_place g t (before, after)

module _ (g : Graph) (t : ℕ) where
  -- what is left of a place of g
  old_place : (p : ℕ) → p < length g.places → place_at (contracted g t) p ≡ remaining_place g t p
  old_place p low =
      get_or_append_left (map (remaining_place g t) (place_numbers g)) (map (pair_place g t) (pairs_round g t)) None p (rw (length-map-range_with_len (remaining_place g t) 0 (length g.places)) low)
      ∙ get_or-map-range_with_len (remaining_place g t) 0 (length g.places) p p None low (omega arith)

  -- where it is live, t had no arc with it
  untouched : (p : ℕ) → p < length g.places → IsPlace (contracted g t) p → is_touched g t p ≡ false
  untouched p low live = elim (cases_Bool (is_touched g t p)) [
    | inl e ↦ absurd (false≢true (subst IsSome (old_place p low ∙ ap (λ b. cond b None (place_at g p)) e) live))
    | inr e ↦ e
  ]

  -- and it stays the same
  pub same_contracted : (p : ℕ) → p < length g.places → IsPlace (contracted g t) p
      → IsSameIn g (contracted g t) p
  same_contracted p low live =
      stands_same g (contracted g t) p (old_place p low ∙ ap (λ b. cond b None (place_at g p)) (untouched p low live)) live

  -- so t neither took from it nor gave to it
  pub arcs_none : (p : ℕ) → p < length g.places → IsPlace (contracted g t) p
      → (takes g t p ≡ 0) × (gives g t p ≡ 0)
  arcs_none p low live =
      let parts = or_parts (ltb 0 (takes g t p)) (ltb 0 (gives g t p)) (untouched p low live) in
      (omega (arith, ltb-false 0 (takes g t p) parts.0), omega (arith, ltb-false 0 (gives g t p) parts.1))

  -- a new place stands for a pair
  pub new_place : (p : ℕ) → IsNewPlace (length g.places) p → IsPlace (contracted g t) p
      → StandsForPair g t p
  new_place p new live = elim (cases_lt (p - length g.places) (length (pairs_round g t))) [
    | inl low ↦
        let x = get_or (pairs_round g t) (p - length g.places) (0, 0) in
        let round = pairs_around g t (p - length g.places) (0, 0) low in
        record {
          before = x.0;
          after = x.1;
          taken = round.0;
          given = round.1;
          is_pair = at ∙ get_or-map (pair_place g t) (pairs_round g t) (p - length g.places) (0, 0) None low;
        }
    | inr past ↦ absurd (false≢true (subst IsSome (at ∙ get_or_past (map (pair_place g t) (pairs_round g t)) (p - length g.places) None (rw (length-map (pairs_round g t) (pair_place g t)) past)) live))
  ]
    where
      at : place_at (contracted g t) p ≡ get_or (map (pair_place g t) (pairs_round g t)) (p - length g.places) None
      at = get_or-append_right (map (remaining_place g t) (place_numbers g)) (map (pair_place g t) (pairs_round g t)) (length g.places) p None (length-map-range_with_len (remaining_place g t) 0 (length g.places)) new

  module _ (narrow : IsWeightlessPastLast g) (p : ℕ) (pair : StandsForPair g t p) where
    -- one number for each transition but t
    each_at : (u : ℕ) (weight : ℕ → ℕ) → u ≢ t → ((v : ℕ) → length g.trans ≤ v → weight v ≡ 0)
        → get_or (each_other g t weight) u 0 ≡ weight u
    each_at u weight other none = elim (cases_lt u (length g.trans)) [
      | inl low ↦ get_or-map-range_with_len (λ u. cond (eqb u t) 0 (weight u)) 0 (length g.trans) u u 0 low (omega arith) ∙ ap (λ b. cond b 0 (weight u)) (ne_eqb u t other)
      | inr past ↦ get_or_past (each_other g t weight) u 0 (rw (length-map-range_with_len (λ u. cond (eqb u t) 0 (weight u)) 0 (length g.trans)) past) ∙ sym (none u past)
    ]

    -- its arcs are those of both, but for t
    pub pair_taken : (u : ℕ) → u ≢ t
        → takes (contracted g t) u p ≡ takes g u pair.before + takes g u pair.after
    pair_taken u other =
        ap (taken_by u) pair.is_pair ∙ each_at u (λ u. takes g u pair.before + takes g u pair.after) other (λ v past. omega (arith, (narrow v pair.before past).0, (narrow v pair.after past).0))

    pub pair_given : (u : ℕ) → u ≢ t
        → gives (contracted g t) u p ≡ gives g u pair.before + gives g u pair.after
    pair_given u other =
        ap (given_by u) pair.is_pair ∙ each_at u (λ u. gives g u pair.before + gives g u pair.after) other (λ v past. omega (arith, (narrow v pair.before past).1, (narrow v pair.after past).1))

    -- so are its tokens
    pub pair_tokens : tokens_at (contracted g t) p ≡ tokens_at g pair.before + tokens_at g pair.after
    pair_tokens = ap tokens_in pair.is_pair

    module _ (pure : IsPureOrdinary g t) (a b : ℕ) (l : IsLink (contracted g t) a b p) where
      -- where the place before t is a link, it leads from the giver of the new place to t
      before_leads : IsLinkPlace g pair.before → IsLink g a t pair.before
      before_leads x =
          let to_t = only (λ u. takes g u pair.before) x.taker t x.link.one_taker pair.taken in
          let other : x.giver ≢ t = λ e. omega (arith, x.link.given, ap (λ u. gives g u pair.before) e, pure.pure pair.before pair.taken) in
          let same = only (λ u. gives (contracted g t) u p) a x.giver l.one_giver (omega (arith, pair_given x.giver other, x.link.given)) in
          subst (λ u. IsLink g u t pair.before) same (subst (λ u. IsLink g x.giver u pair.before) (sym to_t) x.link)

      -- where that after t is one, it leads from t to the taker of the new place
      after_leads : IsLinkPlace g pair.after → IsLink g t b pair.after
      after_leads x =
          let from_t = only (λ u. gives g u pair.after) x.giver t x.link.one_giver pair.given in
          let other : x.taker ≢ t = λ e. not_both (takes g t pair.after) (gives g t pair.after) (pure.pure pair.after) (omega (arith, x.link.taken, ap (λ u. takes g u pair.after) e)) pair.given in
          let same = only (λ u. takes (contracted g t) u p) b x.taker l.one_taker (omega (arith, pair_taken x.taker other, x.link.taken)) in
          subst (λ u. IsLink g t u pair.after) same (subst (λ u. IsLink g u x.taker pair.after) (sym from_t) x.link)

      -- where both are, they lead as the new place does
      pub pair_leads : (q : ℕ) → takes g t q ≡ 0 → gives g t q ≡ 0 → IsLinkPlace g pair.before
          → IsLinkPlace g pair.after → LeadBeside g q a b (tokens_at (contracted g t) p)
      pair_leads q none empty x y = record {
        chain = pair.before ∷ pair.after ∷ [];
        leads = (t, before_leads x, (b, after_leads y, refl));
        apart = All-cons (λ r. r ≢ q) pair.before (pair.after ∷ []) (λ e. omega (arith, pair.taken, ap (takes g t) e, none))
            (All-cons (λ r. r ≢ q) pair.after [] (λ e. omega (arith, pair.given, ap (gives g t) e, empty)) (All-nil (λ r. r ≢ q)));
        few = omega (arith, sum_by-cons (tokens_at g) pair.before (pair.after ∷ []), sum_by-cons (tokens_at g) pair.after [], pair_tokens);
      }

  -- a place that came with the contraction
  abbrev IsNew : ℕ → Type 0
  IsNew = IsNewPlace (length g.places)

  -- a new link, and a place near t that was none
  abbrev LinksCount : Type 0
  LinksCount = HasLinkAmong (contracted g t) IsNew × HasOtherAmong g (IsNearPlace g t)

  -- a live place is new or stays the same
  new_or_same : (p : ℕ) → IsPlace (contracted g t) p → IsNew p ⊎ IsSameIn g (contracted g t) p
  new_or_same p live = elim (cases_lt p (length g.places)) [
    | inl old ↦ inr (same_contracted p old live)
    | inr new ↦ inl new
  ]

  -- each link leads beside an old place before, or links count
  link_replaced : IsWeightlessPastLast g → IsPureOrdinary g t → (q : ℕ) → q < length g.places
      → IsPlace (contracted g t) q → (p a b : ℕ) → IsLink (contracted g t) a b p → p ≢ q
      → LinksCount ⊎ LeadBeside g q a b (tokens_at (contracted g t) p)
  link_replaced narrow pure q old q_live p a b l other =
      let live = link_live g (contracted g t) p a b l in
      elim (cases_lt p (length g.places)) [
        | inl stays ↦ inr (link_leads g (contracted g t) q a b p (same_contracted p stays live) l other)
        | inr new ↦
            let pair = new_place p new live in
            let counts : HasLinkAmong (contracted g t) IsNew = record { place = p; one = new; is_link = record { giver = a; taker = b; link = l } } in
            let free = arcs_none q old q_live in
            elim (link_or_none g pair.before narrow) [
              | inr no_link ↦ inl (counts, record { place = pair.before; one = inl pair.taken; no_link = no_link })
              | inl x ↦ elim (link_or_none g pair.after narrow) [
                | inr no_link ↦ inl (counts, record { place = pair.after; one = inr pair.given; no_link = no_link })
                | inl y ↦ inr (pair_leads narrow p pair pure a b l q free.0 free.1 x y)
              ]
            ]
      ]

  -- what is redundant once t is contracted, where nothing was before, is in reach
  pub contraction_reaches : IsWeightlessPastLast g → IsPureOrdinary g t
      → ((p : ℕ) → ¬ IsRedundantPlace g p) → (q : ℕ) → IsRedundantPlace (contracted g t) q
      → IsReachedByContraction g t q
  contraction_reaches narrow pure none q redundant =
      let h = contracted g t in
      let live = redundant_live h q redundant in
      elim (cases_lt q (length g.places)) [
        | inr new ↦ itself live new
        | inl old ↦ stays_in_reach g h q LinksCount (link_replaced narrow pure q old live) IsNew none new_or_same (same_contracted q old live) redundant
      ]
