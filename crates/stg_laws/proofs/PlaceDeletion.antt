-- The deletion of a place keeps all runs where Berthelot's condition holds: what p holds is then always enough.
use Rattle.std.proofs.Common.{◌≡◌, ◌≢◌, ℕ, ◌+◌, ◌-◌, ◌*◌, ◌≤◌, ◌↔◌, List, [], ◌∷◌, length, None, All, sym, ◌∙◌, ap, subst, inl, inr, arith}
use Rattle.std.proofs.Math.Nat.{mul-add, mul-le-mul_left, le_of_mul-le-mul_left}
use Rattle.std.proofs.lemmas.Bool.{cases_lt, cases_eq}
use Rattle.std.proofs.lemmas.List.{get_or-set_other, get_or-set_same, set_past, get_or_past}
use Rattle.std.proofs.lemmas.List.Elements.{All-head, All-tail}
use Rattle.std.proofs.lemmas.List.Sums.{sum_by-cons}
use Rattle.stg_net.specs.Graph.{Graph, place_at, tokens_in, taken_by, given_by, tokens_at, takes, gives}
use Rattle.stg_net.specs.Run.{Marking, IsEnabled, fired, IsRun, IsRunFrom}
use Rattle.stg_net.specs.Contraction.{without_place}
use Rattle.stg_laws.specs.RedundantPlaces.{valued_sum, IsStructurallyRedundant}

module _ (value : ℕ → ℕ) where
  -- where each number is at most another, so is the sum
  valued_sum-mono : (a b : ℕ → ℕ) (places : List ℕ) → All (λ q. a q ≤ b q) places → valued_sum value a places ≤ valued_sum value b places
  valued_sum-mono a b [] less = omega arith
  valued_sum-mono a b (q ∷ places) less =
      omega (
        arith,
        sum_by-cons (λ q. value q * a q) q places,
        sum_by-cons (λ q. value q * b q) q places,
        mul-le-mul_left (value q) (All-head (λ q. a q ≤ b q) q places less),
        valued_sum-mono a b places (All-tail (λ q. a q ≤ b q) q places less),
      )

  -- firing at one place, times its value
  value_fired : (v m a b : ℕ) → a ≤ m → v * (m - a + b) + v * a ≡ v * m + v * b
  value_fired v m a b enough =
      let same : m - a + b + a ≡ m + b = omega (arith, enough) in
      sym (mul-add v (m - a + b) a) ∙ ap (λ x. v * x) same ∙ mul-add v m b

  -- firing takes from the sum what it takes, and gives what it gives
  valued_sum-fired : (m a b : ℕ → ℕ) (places : List ℕ) → ((q : ℕ) → a q ≤ m q)
      → valued_sum value (λ q. m q - a q + b q) places + valued_sum value a places ≡ valued_sum value m places + valued_sum value b places
  valued_sum-fired m a b [] enough = omega arith
  valued_sum-fired m a b (q ∷ places) enough =
      omega (
        arith,
        sum_by-cons (λ q. value q * (m q - a q + b q)) q places,
        sum_by-cons (λ q. value q * a q) q places,
        sum_by-cons (λ q. value q * m q) q places,
        sum_by-cons (λ q. value q * b q) q places,
        value_fired (value q) (m q) (a q) (b q) (enough q),
        valued_sum-fired m a b places enough,
      )

module _ (g : Graph) (p : ℕ) where
  -- the other places stay
  pub place_at-other : (r : ℕ) → r ≢ p → place_at (without_place g p) r ≡ place_at g r
  place_at-other r other = get_or-set_other g.places p r None None other

  -- and p has gone
  pub place_at-gone : place_at (without_place g p) p ≡ None
  place_at-gone = elim (cases_lt p (length g.places)) [
    | inl below ↦ get_or-set_same g.places p None None below
    | inr past ↦ rw (set_past g.places p None past) (get_or_past g.places p None past)
  ]

  takes-other : (u r : ℕ) → r ≢ p → takes (without_place g p) u r ≡ takes g u r
  takes-other u r other = ap (taken_by u) (place_at-other r other)

  gives-other : (u r : ℕ) → r ≢ p → gives (without_place g p) u r ≡ gives g u r
  gives-other u r other = ap (given_by u) (place_at-other r other)

  -- n is m but for p, which has gone
  abbrev AgreeBut : Marking → Marking → Type 0
  AgreeBut m n = (r : ℕ) → r ≢ p → n r ≡ m r

  agree_fired : (u : ℕ) (m n : Marking) → AgreeBut m n
      → AgreeBut (fired g m u) (fired (without_place g p) n u)
  agree_fired u m n same r other =
      omega (arith, same r other, takes-other u r other, gives-other u r other)

  agree_first : AgreeBut (tokens_at g) (tokens_at (without_place g p))
  agree_first r other = ap tokens_in (place_at-other r other)

  -- a run stays one without p
  run_without : (w : List ℕ) (m n : Marking) → AgreeBut m n → IsRunFrom g m w
      → IsRunFrom (without_place g p) n w
  run_without [] m n same run = run
  run_without (u ∷ w) m n same run = (
    record {
      live = run.0.live;
      covered = λ r. elim (cases_eq r p) [
        | inl e ↦ subst (λ x. takes (without_place g p) u x ≤ n x) (sym e) (omega (arith, ap (taken_by u) place_at-gone))
        | inr other ↦ omega (arith, same r other, takes-other u r other, run.0.covered r)
      ];
    },
    run_without w (fired g m u) (fired (without_place g p) n u) (agree_fired u m n same) run.1,
  )

  module _ (s : IsStructurallyRedundant g p) where
    -- what p holds, times its value, is at least what the others hold and the surplus
    abbrev HoldsEnough : Marking → Type 0
    HoldsEnough m = valued_sum s.value m s.others + s.surplus ≤ s.value p * m p

    -- so it never stops a transition
    enough_held : (m : Marking) (u : ℕ) → HoldsEnough m → ((r : ℕ) → r ≢ p → takes g u r ≤ m r)
        → takes g u p ≤ m p
    enough_held m u enough rest =
        let others = valued_sum-mono s.value (takes g u) m s.others (λ k d below. rest _ (s.apart k d below)) in
        le_of_mul-le-mul_left {m = takes g u p} {n = m p} {k = s.value p} (omega (
          arith,
          s.taken u,
          others,
          enough,
        )) s.counts

    -- and what is fired leaves enough
    enough_fired : (m : Marking) (u : ℕ) → HoldsEnough m → IsEnabled g m u
        → HoldsEnough (fired g m u)
    enough_fired m u enough e =
        omega (
          arith,
          valued_sum-fired s.value m (takes g u) (gives g u) s.others e.covered,
          value_fired s.value (s.value p) (m p) (takes g u p) (gives g u p) (e.covered p),
          s.moved u,
          enough,
        )

    -- a run without p is one of the graph before
    run_with : (w : List ℕ) (m n : Marking) → HoldsEnough m → AgreeBut m n
        → IsRunFrom (without_place g p) n w → IsRunFrom g m w
    run_with [] m n enough same run = run
    run_with (u ∷ w) m n enough same run =
        let rest : (r : ℕ) → r ≢ p → takes g u r ≤ m r = λ r other. omega (
          arith,
          same r other,
          takes-other u r other,
          run.0.covered r,
        ) in
        let e : IsEnabled g m u = record {
          live = run.0.live;
          covered = λ r. elim (cases_eq r p) [
            | inl e ↦ subst (λ x. takes g u x ≤ m x) (sym e) (enough_held m u enough rest)
            | inr other ↦ rest r other
          ];
        } in
        (e, run_with w (fired g m u) (fired (without_place g p) n u) (enough_fired m u enough e) (agree_fired u m n same) run.1)

    -- the deletion of p keeps all runs
    pub structural_deletion_keeps_runs : (run : List ℕ)
        → IsRun g run ↔ IsRun (without_place g p) run
    structural_deletion_keeps_runs run = (
      run_without run (tokens_at g) (tokens_at (without_place g p)) agree_first,
      run_with run (tokens_at g) (tokens_at (without_place g p)) s.held agree_first,
    )
