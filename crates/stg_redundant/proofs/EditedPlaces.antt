-- What is redundant after an edit, where the places beside it were redundant before or count anew.
use Rattle.std.proofs.Common.{◌≡◌, ◌≢◌, ◌≤◌, ◌⊎◌, ◌++◌, ℕ, List, [], ◌∷◌, sum_by, All, refl, sym, ◌∙◌, subst, inl, inr, arith}
use Rattle.std.proofs.lemmas.List.Elements.{All-nil, All-cons, All-head, All-tail, All-append}
use Rattle.std.proofs.lemmas.List.Sums.{sum_by-cons, sum_by-append}
use Rattle.stg_net.specs.Graph.{Graph, IsPlace, tokens_at, takes, gives}
use Rattle.stg_edit.proofs.LiveEnds.{taken_is_place}
use Rattle.stg_laws.specs.RedundantPlaces.{IsSamePlace, IsLoopPlace, IsLink, IsChain, IsShortcut, IsRedundantPlace, same_place, loop_place, shortcut}
use Rattle.stg_redundant.specs.Watching.{HasNoArc, IsInReach, same_arcs, any_link}

-- p is the same place in both graphs
pub record IsSameIn (g h : Graph) (p : ℕ) : Type 0 where
  pub live : IsPlace g p
  pub tokens : tokens_at h p ≡ tokens_at g p
  pub taken : (t : ℕ) → takes h t p ≡ takes g t p
  pub given : (t : ℕ) → gives h t p ≡ gives g t p

-- other places than q lead from a to b and hold at most so much
pub record LeadBeside (g : Graph) (q a b most : ℕ) : Type 0 where
  pub chain : List ℕ
  pub leads : IsChain g a b chain
  pub apart : All (λ r. r ≢ q) chain
  pub few : sum_by (tokens_at g) chain ≤ most

-- two chains, one after the other
chain_append : (g : Graph) (b c : ℕ) (xs ys : List ℕ) (a : ℕ) → IsChain g a b xs → IsChain g b c ys
    → IsChain g a c (xs ++ ys)
chain_append g b c [] ys a e more = subst (λ x. IsChain g x c ys) (sym e) more
chain_append g b c (x ∷ xs) ys a leads more =
    (leads.0, leads.1, chain_append g b c xs ys leads.0 leads.2 more)

module _ (g h : Graph) where
  -- a link is live
  pub link_live : (p a b : ℕ) → IsLink h a b p → IsPlace h p
  link_live p a b l = taken_is_place h b p (omega (arith, l.taken))

  -- a link is one before
  pub link_before : (a b p : ℕ) → IsSameIn g h p → IsLink h a b p → IsLink g a b p
  link_before a b p s l = record {
    given = sym (s.given a) ∙ l.given;
    one_giver = λ t other. sym (s.given t) ∙ l.one_giver t other;
    taken = sym (s.taken b) ∙ l.taken;
    one_taker = λ t other. sym (s.taken t) ∙ l.one_taker t other;
  }

  -- so it leads beside any other place
  pub link_leads : (q a b p : ℕ) → IsSameIn g h p → IsLink h a b p → p ≢ q
      → LeadBeside g q a b (tokens_at h p)
  link_leads q a b p s l other = record {
    chain = p ∷ [];
    leads = (b, link_before a b p s l, refl);
    apart = All-cons (λ r. r ≢ q) p [] other (All-nil (λ r. r ≢ q));
    few = omega (arith, sum_by-cons (tokens_at g) p [], s.tokens);
  }

  -- a place with the arcs of another has them before
  same_before : (p q : ℕ) → IsSameIn g h p → IsSameIn g h q → IsSamePlace h p q → IsSamePlace g p q
  same_before p q s r x = record {
    live = s.live;
    differ = x.differ;
    other_live = r.live;
    taken = λ t. sym (s.taken t) ∙ x.taken t ∙ r.taken t;
    given = λ t. sym (s.given t) ∙ x.given t ∙ r.given t;
    held = omega (arith, s.tokens, r.tokens, x.held);
  }

  -- a loop place is one before
  loop_before : (p : ℕ) → IsSameIn g h p → IsLoopPlace h p → IsLoopPlace g p
  loop_before p s x = record {
    live = s.live;
    same = λ t. sym (s.taken t) ∙ x.same t ∙ s.given t;
    held = λ t. omega (arith, s.tokens, s.taken t, x.held t);
  }

  -- a place without arcs is a loop place
  idle_loops : (p : ℕ) → IsSameIn g h p → HasNoArc h p → IsLoopPlace g p
  idle_loops p s idle = record {
    live = s.live;
    same = λ t. sym (s.taken t) ∙ (idle t).0 ∙ sym (idle t).1 ∙ s.given t;
    held = λ t. omega (arith, s.taken t, (idle t).0);
  }

  -- where each link leads beside q before, or LinksCount, so does each chain
  module _ (q : ℕ) (LinksCount : Type 0) (replace : (p a b : ℕ) → IsLink h a b p → p ≢ q → LinksCount ⊎ LeadBeside g q a b (tokens_at h p)) where
    chain_before : (chain : List ℕ) (a b : ℕ) → IsChain h a b chain → All (λ r. r ≢ q) chain
        → LinksCount ⊎ LeadBeside g q a b (sum_by (tokens_at h) chain)
    chain_before [] a b e apart = inr (record { chain = []; leads = e; apart = apart; few = omega arith })
    chain_before (p ∷ chain) a b leads apart =
        elim (replace p a leads.0 leads.1 (All-head (λ r. r ≢ q) p chain apart)) [
          | inl count ↦ inl count
          | inr x ↦ elim (chain_before chain leads.0 b leads.2 (All-tail (λ r. r ≢ q) p chain apart)) [
            | inl count ↦ inl count
            | inr y ↦ inr (record {
              chain = x.chain ++ y.chain;
              leads = chain_append g leads.0 b x.chain y.chain a x.leads y.leads;
              apart = All-append (λ r. r ≢ q) x.chain y.chain x.apart y.apart;
              few = omega (arith, sum_by-append (tokens_at g) x.chain y.chain, sum_by-cons (tokens_at h) p chain, x.few, y.few);
            })
          ]
        ]

    shortcut_before : IsSameIn g h q → IsShortcut h q → LinksCount ⊎ IsShortcut g q
    shortcut_before s x = elim (chain_before x.chain x.giver x.taker x.leads x.apart) [
      | inl count ↦ inl count
      | inr y ↦ inr (record {
        giver = x.giver;
        taker = x.taker;
        differ = x.differ;
        link = link_before x.giver x.taker q s x.link;
        chain = y.chain;
        leads = y.leads;
        apart = y.apart;
        held = omega (arith, y.few, x.held, s.tokens);
      })
    ]

    -- where nothing was redundant and q stays, it is in reach
    pub stays_in_reach : (IsOne : ℕ → Type 0) → ((p : ℕ) → ¬ IsRedundantPlace g p)
        → ((p : ℕ) → IsPlace h p → IsOne p ⊎ IsSameIn g h p) → IsSameIn g h q → IsRedundantPlace h q
        → IsInReach h IsOne LinksCount q
    stays_in_reach IsOne none split s (same_place p x) = elim (split p x.other_live) [
      | inl one ↦ same_arcs p one (record { live = x.live; taken = x.taken; given = x.given; some = λ idle. none q (loop_place (idle_loops q s idle)) })
      | inr r ↦ absurd (none q (same_place p (same_before q p s r x)))
    ]
    stays_in_reach IsOne none split s (loop_place x) = absurd (none q (loop_place (loop_before q s x)))
    stays_in_reach IsOne none split s (shortcut x) = elim (shortcut_before s x) [
      | inl count ↦ any_link count (record { giver = x.giver; taker = x.taker; link = x.link })
      | inr y ↦ absurd (none q (shortcut y))
    ]

  -- where each place that is live now is the same before, no place becomes redundant
  pub redundant_before : ((p : ℕ) → IsPlace h p → IsSameIn g h p) → (q : ℕ) → IsRedundantPlace h q
      → IsRedundantPlace g q
  redundant_before same q (same_place p x) =
      same_place p (same_before q p (same q x.live) (same p x.other_live) x)
  redundant_before same q (loop_place x) = loop_place (loop_before q (same q x.live) x)
  redundant_before same q (shortcut x) =
      elim (shortcut_before q ⊥ (λ p a b l other. inr (link_leads q a b p (same p (link_live p a b l)) l other)) (same q (link_live q x.giver x.taker x.link)) x) [
        | inl never ↦ absurd never
        | inr y ↦ shortcut y
      ]
