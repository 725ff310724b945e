-- Each of the three rules for redundant places is a case of Berthelot's condition.
use Rattle.std.proofs.Common.{◌≡◌, ◌≢◌, ℕ, ◌+◌, ◌*◌, ◌≤◌, List, [], ◌∷◌, sum_by, cond, eqb, eq-eqb, refl, sym, ◌∙◌, ap, subst, inl, inr, arith}
use Rattle.std.proofs.lemmas.Bool.{cases_eq, ne_eqb}
use Rattle.std.proofs.lemmas.List.Elements.{All-nil, All-cons}
use Rattle.std.proofs.lemmas.List.Sums.{sum_by-cons}
use Rattle.stg_net.specs.Graph.{Graph, tokens_at, takes, gives}
use Rattle.stg_laws.specs.RedundantPlaces.{valued_sum, IsStructurallyRedundant, IsSamePlace, IsLoopPlace, IsLink, IsChain, IsShortcut, IsRedundantPlace, same_place, loop_place, shortcut}

-- each place has the value 1
abbrev each_one : ℕ → ℕ
each_one q = 1

valued_sum-one : (f : ℕ → ℕ) (places : List ℕ) → valued_sum each_one f places ≡ sum_by f places
valued_sum-one f [] = refl
valued_sum-one f (q ∷ places) =
    omega (arith, sum_by-cons (λ q. 1 * f q) q places, sum_by-cons f q places, valued_sum-one f places)

valued_sum-single : (f : ℕ → ℕ) (q : ℕ) → valued_sum each_one f (q ∷ []) ≡ f q
valued_sum-single f q = omega (arith, valued_sum-one f (q ∷ []), sum_by-cons f q [])

module _ (g : Graph) where
  -- the other place of the same arcs, without surplus
  same_is_structural : (p q : ℕ) → IsSamePlace g p q → IsStructurallyRedundant g p
  same_is_structural p q s = record {
    others = q ∷ [];
    apart = All-cons (λ r. r ≢ p) q [] (λ e. s.differ (sym e)) (All-nil (λ r. r ≢ p));
    value = each_one;
    counts = omega arith;
    surplus = 0;
    held = omega (arith, valued_sum-single (tokens_at g) q, s.held);
    taken = λ t. omega (arith, valued_sum-single (takes g t) q, s.taken t);
    moved = λ t. omega (
      arith,
      valued_sum-single (takes g t) q,
      valued_sum-single (gives g t) q,
      s.taken t,
      s.given t,
    );
  }

  -- no other place, and all tokens as surplus
  loop_is_structural : (p : ℕ) → IsLoopPlace g p → IsStructurallyRedundant g p
  loop_is_structural p s = record {
    others = [];
    apart = All-nil (λ r. r ≢ p);
    value = each_one;
    counts = omega arith;
    surplus = tokens_at g p;
    held = omega arith;
    taken = λ t. omega (arith, s.held t);
    moved = λ t. omega (arith, s.same t);
  }

  -- 1 where both are one
  is : ℕ → ℕ → ℕ
  is u a = cond (eqb u a) 1 0

  is-same : (u a : ℕ) → u ≡ a → is u a ≡ 1
  unfolding is
  is-same u a e = rw (eq-eqb u a e)

  is-other : (u a : ℕ) → u ≢ a → is u a ≡ 0
  unfolding is
  is-other u a n = rw (ne_eqb u a n)

  link_takes : (a b p u : ℕ) → IsLink g a b p → takes g u p ≡ is u b
  link_takes a b p u l = elim (cases_eq u b) [
    | inl e ↦ subst (λ x. takes g x p ≡ is x b) (sym e) (l.taken ∙ sym (is-same b b refl))
    | inr n ↦ l.one_taker u n ∙ sym (is-other u b n)
  ]

  link_gives : (a b p u : ℕ) → IsLink g a b p → gives g u p ≡ is u a
  link_gives a b p u l = elim (cases_eq u a) [
    | inl e ↦ subst (λ x. gives g x p ≡ is x a) (sym e) (l.given ∙ sym (is-same a a refl))
    | inr n ↦ l.one_giver u n ∙ sym (is-other u a n)
  ]

  -- along a chain from a to b, what u takes and gives is the same, but that a gives one more and b takes one more
  chain_moved : (a b u : ℕ) (chain : List ℕ) → IsChain g a b chain
      → sum_by (gives g u) chain + is u b ≡ sum_by (takes g u) chain + is u a
  chain_moved a b u [] c = omega (arith, ap (is u) (sym c))
  chain_moved a b u (p ∷ chain) c =
      omega (
        arith,
        sum_by-cons (gives g u) p chain,
        sum_by-cons (takes g u) p chain,
        chain_moved c.0 b u chain c.2,
        link_takes a c.0 p u c.1,
        link_gives a c.0 p u c.1,
      )

  -- b takes from the last place of a chain
  chain_taken : (a b u p : ℕ) (chain : List ℕ) → IsChain g a b (p ∷ chain)
      → is u b ≤ sum_by (takes g u) (p ∷ chain)
  chain_taken a b u p [] c =
      omega (arith, sum_by-cons (takes g u) p [], link_takes a c.0 p u c.1, ap (is u) c.2)
  chain_taken a b u p (q ∷ chain) c =
      omega (arith, sum_by-cons (takes g u) p (q ∷ chain), chain_taken c.0 b u q chain c.2)

  -- a chain between different transitions has a last place
  chain_taken-differ : (a b u : ℕ) (chain : List ℕ) → a ≢ b → IsChain g a b chain
      → is u b ≤ sum_by (takes g u) chain
  chain_taken-differ a b u [] differ c = absurd (differ c)
  chain_taken-differ a b u (p ∷ chain) differ c = chain_taken a b u p chain c

  -- the places of the chain, without surplus
  shortcut_is_structural : (p : ℕ) → IsShortcut g p → IsStructurallyRedundant g p
  shortcut_is_structural p s = record {
    others = s.chain;
    apart = s.apart;
    value = each_one;
    counts = omega arith;
    surplus = 0;
    held = omega (arith, valued_sum-one (tokens_at g) s.chain, s.held);
    taken = λ t. omega (
      arith,
      valued_sum-one (takes g t) s.chain,
      link_takes s.giver s.taker p t s.link,
      chain_taken-differ s.giver s.taker t s.chain s.differ s.leads,
    );
    moved = λ t. omega (
      arith,
      valued_sum-one (takes g t) s.chain,
      valued_sum-one (gives g t) s.chain,
      link_takes s.giver s.taker p t s.link,
      link_gives s.giver s.taker p t s.link,
      chain_moved s.giver s.taker t s.chain s.leads,
    );
  }

  -- each rule is a case of Berthelot's condition
  pub rules_are_structural : (p : ℕ) → IsRedundantPlace g p → IsStructurallyRedundant g p
  rules_are_structural p (same_place q s) = same_is_structural p q s
  rules_are_structural p (loop_place s) = loop_is_structural p s
  rules_are_structural p (shortcut s) = shortcut_is_structural p s
