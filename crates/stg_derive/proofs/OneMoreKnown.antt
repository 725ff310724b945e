-- The graph in which one more signal is known: what it keeps, and which steps of it are plain.
use Rattle.std.proofs.Common.{◌≡◌, ◌≢◌, ℕ, ◌⊎◌, true, false, List, [], ◌∷◌, Option, Some, None, refl, sym, ap, ◌∙◌, inl, inr}
use Rattle.std.proofs.lemmas.Bool.{cases_Bool, false≢true}
use Rattle.std.proofs.lemmas.Slice.Eq.{bytes_eq-Decides}
use Rattle.stg_net.specs.Graph.{Graph, FullName, IsDummy, full_name_at, is_among, has_signal_of}
use Rattle.stg_net.specs.Contraction.{contracted}
use Rattle.stg_laws.specs.Conflict.{IsAutoConflict, HasNoAutoConflict}
use Rattle.stg_laws.specs.RedundantPlaces.{IsSamePlace, IsLoopPlace, IsLink, IsChain, IsShortcut, IsRedundantPlace, same_place, loop_place, shortcut}
use Rattle.stg_laws.specs.RedundantDummies.{IsLoopDummy, IsSameDummy, IsRedundantDummy, loop_dummy, same_dummy}
use Rattle.stg_laws.specs.Secure.{IsType2, IsSecure}
use Rattle.stg_contract.specs.Verdicts.{IsWithinLimits, HasSecureContraction, IsContractible, IsVerdict}
use Rattle.stg_redundant.specs.declared.found.PlaceRule.{PlaceRule}
use Rattle.stg_redundant.specs.declared.found.PlaceRule.TheVariants as place_rule
use Rattle.stg_redundant.specs.declared.found.DummyRule.{DummyRule}
use Rattle.stg_redundant.specs.declared.found.DummyRule.TheVariants as dummy_rule
use Rattle.stg_redundant.specs.Rules.{IsPlaceRule, IsDummyRule}
use Rattle.stg_derive.specs.declared.step.Secure.{Secure}
use Rattle.stg_derive.specs.declared.step.Secure.TheVariants.{Type1, Type2}
use Rattle.stg_derive.specs.declared.step.Step.{Step}
use Rattle.stg_derive.specs.declared.step.Step.TheVariants.{Contract, DropPlace, DropDummy}
use Rattle.stg_contract.specs.Candidates.{IsCandidate}
use Rattle.stg_derive.specs.Steps.{verdict_of, IsPlainStep, stepped}
use Rattle.stg_derive.specs.Attempts.{stepped_all}

-- the graph with these signals known
abbrev pub knowing : List (List ℕ) → Graph → Graph
knowing names g = record g { known = names }

-- a step does the same whatever is known
pub stepped-knowing : (names : List (List ℕ)) (g : Graph) (s : Step) → stepped (knowing names g) s ≡ knowing names (stepped g s)
stepped-knowing names g (DropPlace found) = refl
stepped-knowing names g (DropDummy found) = refl
stepped-knowing names g (Contract t secure places) = refl

-- and so do all steps
pub stepped_all-knowing : (names : List (List ℕ)) (g : Graph) (steps : List Step) → stepped_all (knowing names g) steps ≡ knowing names (stepped_all g steps)
stepped_all-knowing names g [] = refl
stepped_all-knowing names g (s ∷ steps) = ap (λ h. stepped_all h steps) (stepped-knowing names g s) ∙ stepped_all-knowing names (stepped g s) steps

-- links and chains are the same whatever is known
link_knowing : (names : List (List ℕ)) (g : Graph) (a b p : ℕ) → IsLink (knowing names g) a b p → IsLink g a b p
link_knowing names g a b p l = record { given = l.given; one_giver = l.one_giver; taken = l.taken; one_taker = l.one_taker }

chain_knowing : (names : List (List ℕ)) (g : Graph) (a b : ℕ) (chain : List ℕ) → IsChain (knowing names g) a b chain → IsChain g a b chain
chain_knowing names g a b [] c = c
chain_knowing names g a b (p ∷ chain) c = (c.0, link_knowing names g a c.0 p c.1, chain_knowing names g c.0 b chain c.2)

same_place_knowing : (names : List (List ℕ)) (g : Graph) (p q : ℕ) → IsSamePlace (knowing names g) p q → IsSamePlace g p q
same_place_knowing names g p q s = record { live = s.live; differ = s.differ; other_live = s.other_live; taken = s.taken; given = s.given; held = s.held }

loop_place_knowing : (names : List (List ℕ)) (g : Graph) (p : ℕ) → IsLoopPlace (knowing names g) p → IsLoopPlace g p
loop_place_knowing names g p l = record { live = l.live; same = l.same; held = l.held }

shortcut_knowing : (names : List (List ℕ)) (g : Graph) (p : ℕ) → IsShortcut (knowing names g) p → IsShortcut g p
shortcut_knowing names g p s = record {
  giver = s.giver;
  taker = s.taker;
  differ = s.differ;
  link = link_knowing names g s.giver s.taker p s.link;
  chain = s.chain;
  leads = chain_knowing names g s.giver s.taker s.chain s.leads;
  apart = s.apart;
  held = s.held;
}

-- the redundant places are the same whatever is known
pub redundant_place-knowing : (names : List (List ℕ)) (g : Graph) (p : ℕ) → IsRedundantPlace (knowing names g) p → IsRedundantPlace g p
redundant_place-knowing names g p (same_place q s) = same_place q (same_place_knowing names g p q s)
redundant_place-knowing names g p (loop_place l) = loop_place (loop_place_knowing names g p l)
redundant_place-knowing names g p (shortcut s) = shortcut (shortcut_knowing names g p s)

-- and so is their first rule
place_rule_knowing : (names : List (List ℕ)) (g : Graph) (p : ℕ) (rule : PlaceRule) → IsPlaceRule g p rule → IsPlaceRule (knowing names g) p rule
place_rule_knowing names g p (place_rule.Same q) r = (same_place_knowing g.known (knowing names g) p q r.0, λ s x. r.1 s (same_place_knowing names g p s x))
place_rule_knowing names g p place_rule.Loop r = (λ q x. r.0 q (same_place_knowing names g p q x), loop_place_knowing g.known (knowing names g) p r.1)
place_rule_knowing names g p place_rule.Shortcut r = (λ q x. r.0 q (same_place_knowing names g p q x), λ x. r.1 (loop_place_knowing names g p x), shortcut_knowing g.known (knowing names g) p r.2)

-- these names, and one more
pub record HasOneMore (known more : List (List ℕ)) (name : List ℕ) : Type 0 where
  pub old : (x : List ℕ) → is_among known x ≡ true → is_among more x ≡ true
  pub only : (x : List ℕ) → is_among more x ≡ true → (is_among known x ≡ true) ⊎ (x ≡ name)

-- the transition isn't of the signal of this name
abbrev pub IsApart : List ℕ → Option FullName → Type 0
IsApart name o = (x : FullName) → o ≡ Some x → x.signal ≢ name

-- what is known stays so
known_stays : (known more : List (List ℕ)) (name : List ℕ) → HasOneMore known more name → (o : Option FullName) → has_signal_of known o ≡ true → has_signal_of more o ≡ true
known_stays known more name m None e = e
known_stays known more name m (Some x) e = m.old x.signal e

-- what is hidden was so
hidden_before : (known more : List (List ℕ)) (name : List ℕ) → HasOneMore known more name → (o : Option FullName) → has_signal_of more o ≡ false → has_signal_of known o ≡ false
hidden_before known more name m None e = e
hidden_before known more name m (Some x) e = elim (cases_Bool (is_among known x.signal)) [
  | inl k ↦ absurd (false≢true (sym e ∙ m.old x.signal k))
  | inr h ↦ h
]

-- and what is of another signal stays hidden
hidden_stays : (known more : List (List ℕ)) (name : List ℕ) → HasOneMore known more name → (o : Option FullName) → IsApart name o → has_signal_of known o ≡ false → has_signal_of more o ≡ false
hidden_stays known more name m None apart e = e
hidden_stays known more name m (Some x) apart e = elim (cases_Bool (is_among more x.signal)) [
  | inl k ↦ elim (m.only x.signal k) [
    | inl l ↦ absurd (false≢true (sym e ∙ l))
    | inr same ↦ absurd (apart x refl same)
  ]
  | inr h ↦ h
]

-- a name is among itself
among_itself : (name : List ℕ) → is_among (name ∷ []) name ≡ true
among_itself name = rw ((bytes_eq-Decides name name).1 refl) refl

module _ (g : Graph) (more : List (List ℕ)) (name : List ℕ) (one_more : HasOneMore g.known more name) where
  -- what is a dummy was one
  pub dummy_before : (t : ℕ) → IsDummy (knowing more g) t → IsDummy g t
  dummy_before t d = record { live = d.live; hidden = hidden_before g.known more name one_more (full_name_at g t) d.hidden }

  -- and a dummy of another signal stays one
  pub dummy_stays : (t : ℕ) → IsApart name (full_name_at g t) → IsDummy g t → IsDummy (knowing more g) t
  dummy_stays t apart d = record { live = d.live; hidden = hidden_stays g.known more name one_more (full_name_at g t) apart d.hidden }

  -- a clash stays one
  pub conflict_stays : (t u p : ℕ) → IsAutoConflict g t u p → IsAutoConflict (knowing more g) t u p
  conflict_stays t u p c =
      let r = c.rivals in record {
        rivals = record {
          differ = r.differ;
          t_known = known_stays g.known more name one_more (full_name_at g t) r.t_known;
          u_known = known_stays g.known more name one_more (full_name_at g u) r.u_known;
          t_name = r.t_name;
          u_name = r.u_name;
          t_has = r.t_has;
          u_has = r.u_has;
          same = r.same;
        };
        t_takes = c.t_takes;
        u_takes = c.u_takes;
      }

  -- and there is no other one but of the signal
  pub no_conflict-more : HasNoAutoConflict g → HasNoAutoConflict (knowing (name ∷ []) g) → HasNoAutoConflict (knowing more g)
  no_conflict-more none none_alone t u p c =
      let r = c.rivals in
      let signals : r.t_name.signal ≡ r.u_name.signal = ap (λ l. l.signal) r.same in
      let t_among : is_among more r.t_name.signal ≡ true = ap (has_signal_of more) (sym r.t_has) ∙ r.t_known in
      elim (one_more.only r.t_name.signal t_among) [
        | inl k ↦ none t u p (record {
          rivals = record {
            differ = r.differ;
            t_known = ap (has_signal_of g.known) r.t_has ∙ k;
            u_known = ap (has_signal_of g.known) r.u_has ∙ ap (is_among g.known) (sym signals) ∙ k;
            t_name = r.t_name;
            u_name = r.u_name;
            t_has = r.t_has;
            u_has = r.u_has;
            same = r.same;
          };
          t_takes = c.t_takes;
          u_takes = c.u_takes;
        })
        | inr same ↦ none_alone t u p (record {
          rivals = record {
            differ = r.differ;
            t_known = ap (has_signal_of (name ∷ [])) r.t_has ∙ ap (is_among (name ∷ [])) same ∙ among_itself name;
            u_known = ap (has_signal_of (name ∷ [])) r.u_has ∙ ap (is_among (name ∷ [])) (sym signals ∙ same) ∙ among_itself name;
            t_name = r.t_name;
            u_name = r.u_name;
            t_has = r.t_has;
            u_has = r.u_has;
            same = r.same;
          };
          t_takes = c.t_takes;
          u_takes = c.u_takes;
        })
      ]

  loop_dummy_before : (t : ℕ) → IsLoopDummy (knowing more g) t → IsLoopDummy g t
  loop_dummy_before t l = record { dummy = dummy_before t l.dummy; same = l.same }

  same_dummy_before : (t u : ℕ) → IsSameDummy (knowing more g) t u → IsSameDummy g t u
  same_dummy_before t u s = record { dummy = dummy_before t s.dummy; differ = s.differ; other_dummy = dummy_before u s.other_dummy; taken = s.taken; given = s.given }

  -- what is redundant was so
  pub redundant_dummy_before : (t : ℕ) → IsRedundantDummy (knowing more g) t → IsRedundantDummy g t
  redundant_dummy_before t (loop_dummy l) = loop_dummy (loop_dummy_before t l)
  redundant_dummy_before t (same_dummy u s) = same_dummy u (same_dummy_before t u s)

  -- the rule compares with no dummy of the signal
  abbrev pub ComparesApart : DummyRule → Type 0
  ComparesApart dummy_rule.Loop = Unit {0}
  ComparesApart (dummy_rule.Same u) = IsApart name (full_name_at g u)

  dummy_rule_stays : (t : ℕ) (rule : DummyRule) → IsApart name (full_name_at g t) → ComparesApart rule → IsDummyRule g t rule → IsDummyRule (knowing more g) t rule
  dummy_rule_stays t dummy_rule.Loop apart compares r = record { dummy = dummy_stays t apart r.dummy; same = r.same }
  dummy_rule_stays t (dummy_rule.Same u) apart compares r = (
    λ l. r.0 (loop_dummy_before t l),
    record { dummy = dummy_stays t apart r.1.dummy; differ = r.1.differ; other_dummy = dummy_stays u compares r.1.other_dummy; taken = r.1.taken; given = r.1.given },
    λ v s. r.2 v (same_dummy_before t v s),
  )

-- what makes a contraction secure is the same whatever is known
type2_knowing : (names : List (List ℕ)) (g : Graph) (t : ℕ) → IsType2 (knowing names g) t → IsType2 g t
type2_knowing names g t s = record { alone = s.alone; empty = s.empty; after = s.after; no_tokens = s.no_tokens }

secure_knowing : (names : List (List ℕ)) (g : Graph) (t : ℕ) → IsSecure (knowing names g) t → IsSecure g t
secure_knowing names g t (inl s) = inl s
secure_knowing names g t (inr s) = inr (type2_knowing names g t s)

contraction_knowing : (names : List (List ℕ)) (g : Graph) (t : ℕ) → HasSecureContraction (knowing names g) t → HasSecureContraction g t
contraction_knowing names g t c = record {
  pure_ordinary = record { pure = c.pure_ordinary.pure; takes_one = c.pure_ordinary.takes_one; gives_one = c.pure_ordinary.gives_one };
  secure = secure_knowing names g t c.secure;
}

within_knowing : (names : List (List ℕ)) (g : Graph) → IsWithinLimits (knowing names g) → IsWithinLimits g
within_knowing names g w = record { taken = w.taken; given = w.given; tokens = w.tokens; arcs = w.arcs }

module _ (g : Graph) (more : List (List ℕ)) (name : List ℕ) (one_more : HasOneMore g.known more name) where
  -- what can be contracted could be so
  pub contractible_before : (t : ℕ) → IsContractible (knowing more g) t → IsContractible g t
  contractible_before t c = record {
    contraction = contraction_knowing more g t c.contraction;
    no_conflict = λ u v p x. c.no_conflict u v p (conflict_stays (contracted g t) more name one_more u v p x);
    few_places = c.few_places;
    within = within_knowing more (contracted g t) c.within;
  }

  pub candidate_before : (t : ℕ) → IsCandidate (knowing more g) t → IsCandidate g t
  candidate_before t c = record { dummy = dummy_before g more name one_more t c.dummy; contractible = contractible_before t c.contractible }

  -- and what can be so still can where its contraction leaves no clash of the signal
  pub contractible_stays : (t : ℕ) → HasNoAutoConflict (knowing (name ∷ []) (contracted g t)) → IsContractible g t → IsContractible (knowing more g) t
  contractible_stays t none c = record {
    contraction = contraction_knowing g.known (knowing more g) t c.contraction;
    no_conflict = no_conflict-more (contracted g t) more name one_more c.no_conflict none;
    few_places = c.few_places;
    within = within_knowing g.known (knowing more (contracted g t)) c.within;
  }

  verdict_stays : (t : ℕ) (secure : Secure) → HasNoAutoConflict (knowing (name ∷ []) (contracted g t)) → IsVerdict g t (verdict_of secure) → IsVerdict (knowing more g) t (verdict_of secure)
  verdict_stays t Type1 none v = (contractible_stays t none v.0, v.1)
  verdict_stays t Type2 none v = (contractible_stays t none v.0, v.1)

  -- the step stays plain
  abbrev pub StaysApart : Step → Type 0
  StaysApart (DropPlace found) = Unit {0}
  StaysApart (DropDummy found) = IsApart name (full_name_at g found.trans) × ComparesApart g more name one_more found.rule
  StaysApart (Contract t secure places) = IsApart name (full_name_at g t) × HasNoAutoConflict (knowing (name ∷ []) (contracted g t))

  pub plain_stays : (s : Step) → StaysApart s → IsPlainStep g s → IsPlainStep (knowing more g) s
  plain_stays (DropPlace found) stays p = (place_rule_knowing more g found.place found.rule p.0, λ q r. p.1 q (redundant_place-knowing more g q r))
  plain_stays (DropDummy found) stays p = (
    λ q r. p.0 q (redundant_place-knowing more g q r),
    (dummy_rule_stays g more name one_more found.trans found.rule stays.0 stays.1 p.1.0, λ u r. p.1.1 u (redundant_dummy_before g more name one_more u r)),
  )
  plain_stays (Contract t secure places) stays p =
      let c = p.cheapest.candidate in record {
        no_redundant_place = λ q r. p.no_redundant_place q (redundant_place-knowing more g q r);
        no_redundant_dummy = λ u r. p.no_redundant_dummy u (redundant_dummy_before g more name one_more u r);
        cheapest = record {
          candidate = record { dummy = dummy_stays g more name one_more t stays.0 c.dummy; contractible = contractible_stays t stays.1 c.contractible };
          cheapest = λ u d. p.cheapest.cheapest u (candidate_before u d);
        };
        secure_by = verdict_stays t secure stays.1 p.secure_by;
        places_are = p.places_are;
      }
