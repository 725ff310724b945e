-- A secure contraction adds no run: each run of the contracted graph is lifted to one of the graph
-- before, which fires t where it is needed.
use Rattle.std.proofs.Common.{◌≡◌, ◌≢◌, ℕ, zero, suc, ◌+◌, ◌*◌, ◌<◌, ◌≤◌, List, [], ◌∷◌, ◌++◌, length, replicate, refl, ap, inl, inr, arith}
use Rattle.std.proofs.lemmas.Bool.{cases_lt}
use Rattle.stg_net.specs.Graph.{Graph, IsTrans, tokens_at, takes, gives}
use Rattle.stg_net.specs.Run.{Marking, IsEnabled, fired, IsRunFrom, reached_from}
use Rattle.stg_laws.specs.Secure.{IsPureOrdinary, IsType1, IsSecure}
use Rattle.stg_laws.specs.LeaveOut.{leave_out}
use Rattle.stg_laws.proofs.Origins.{IsContraction, sum_over, takes-past}
use Rattle.stg_laws.proofs.Runs.{append_runs, reached-append}
use Rattle.stg_laws.proofs.LeaveOut.{leave_out-other, leave_out-append, leave_out-replicate}
use Rattle.stg_laws.proofs.Images.{IsImage, live_before, image_fired, image_silent}
use Rattle.stg_laws.proofs.Demands.{Covers, Meets, meet_empty_before, meet_free, meet_empty_after, drain}

module _ (g : Graph) (t : ℕ) where
  -- what m reaches after t is fired so many times
  abbrev pub after_times : ℕ → Marking → Marking
  after_times times m = reached_from g m (replicate times t)

  -- what is kept of the marking from step to step: t is of type 1 and a place before it is empty; t takes
  -- from nothing; or a place after t is empty, and t alone gives to the places after it
  pub data IsReady (m : Marking) : Type 0 where
    empty_before : IsType1 g t → (e : ℕ) → 0 < takes g t e → m e ≡ 0 → IsReady m
    free : ((p : ℕ) → takes g t p ≡ 0) → IsReady m
    empty_after : ((u q : ℕ) → IsTrans g u → u ≢ t → 0 < gives g t q → gives g u q ≡ 0) → (e : ℕ)
        → 0 < gives g t e → m e ≡ 0 → IsReady m

  -- t alone is fired so many times
  pub record FiresTimes (m : Marking) (times : ℕ) : Type 0 where
    pub runs : IsRunFrom g m (replicate times t)
    pub leads : (p : ℕ) → after_times times m p + times * takes g t p ≡ m p + times * gives g t p

  -- t fired some times leads to a marking that is ready
  pub record GetsReady (m : Marking) : Type 0 where
    pub times : ℕ
    pub runs : IsRunFrom g m (replicate times t)
    pub ready : IsReady (after_times times m)

  -- t some times, then u, then t some times again, to a marking that is ready
  pub record StepsBy (u : ℕ) (m : Marking) : Type 0 where
    pub times : ℕ
    pub runs : IsRunFrom g m (replicate times t)
    pub enabled : IsEnabled g (after_times times m) u
    pub after : GetsReady (fired g (after_times times m) u)

module _ (g : Graph) (t : ℕ) (live : IsTrans g t) (pure_ordinary : IsPureOrdinary g t) where
  -- t can be fired as often as the places before it allow
  pub fire_times : (times : ℕ) (m : Marking) → ((p : ℕ) → times * takes g t p ≤ m p)
      → FiresTimes g t m times
  fire_times zero m can = record { runs = tt; leads = λ p. omega arith }
  fire_times (suc times) m can =
      let rest = fire_times times (fired g m t) (λ p. omega (arith, can p)) in record {
        runs = (record { live = live; covered = λ p. omega (arith, can p) }, rest.runs);
        leads = λ p. omega (arith, can p, rest.leads p);
      }

  -- where t is of type 1, it is fired as often as it can be
  ready_by_draining : (m : Marking) → IsType1 g t → GetsReady g t m
  ready_by_draining m type1 = elim (drain g t pure_ordinary m) [
    | inl d ↦
        let f = fire_times d.times m d.can in record {
          times = d.times;
          runs = f.runs;
          ready = empty_before type1 d.dry d.there (omega (
            arith,
            f.leads d.dry,
            d.is_dry,
            ap (λ x. d.times * x) (pure_ordinary.pure d.dry d.there),
          ));
        }
    | inr none ↦ record { times = 0; runs = tt; ready = free none }
  ]

  -- where t is secure, the initial marking gets ready
  pub ready_at_start : IsSecure g t → GetsReady g t (tokens_at g)
  ready_at_start (inl type1) = ready_by_draining (tokens_at g) type1
  ready_at_start (inr type2) =
      record { times = 0; runs = tt; ready = empty_after type2.alone type2.empty type2.after type2.no_tokens }

  -- a demand whose image is covered is met
  pub meet_ready : (demand m : ℕ → ℕ) → IsReady g t m
      → (IsType1 g t → (p : ℕ) → 0 < takes g t p → demand p ≡ 0) → Covers g t demand m
      → Meets g t demand m
  meet_ready demand m (empty_before type1 e there empty) none covers =
      meet_empty_before g t pure_ordinary demand m covers (none type1) e there empty
  meet_ready demand m (free all) none covers = meet_free g t pure_ordinary demand m covers all
  meet_ready demand m (empty_after alone e there empty) none covers =
      (meet_empty_after g t pure_ordinary demand m covers e there empty).met

  -- once the demand is met, each transition that asks no more is enabled
  pub enabled_when_met : (u : ℕ) (demand m : ℕ → ℕ) (met : Meets g t demand m) → IsTrans g u
      → ((p : ℕ) → takes g u p ≤ demand p) → IsEnabled g (after_times g t met.times m) u
  enabled_when_met u demand m met u_live less = record {
    live = u_live;
    covered = λ p. elim (cases_lt p (length g.places)) [
      | inl below ↦ omega (arith, met.meets p below, (fire_times met.times m met.can).leads p, less p)
      | inr past ↦ omega (arith, takes-past g u p past)
    ];
  }

  step_by : (u : ℕ) (m : Marking) (met : Meets g t (takes g u) m) → IsTrans g u
      → GetsReady g t (fired g (after_times g t met.times m) u) → StepsBy g t u m
  step_by u m met u_live after = record {
    times = met.times;
    runs = (fire_times met.times m met.can).runs;
    enabled = enabled_when_met u (takes g u) m met u_live (λ p. omega arith);
    after = after;
  }

  -- what u asks is met, and afterwards the marking gets ready again
  step : (u : ℕ) (m : Marking) → IsTrans g u → u ≢ t → IsReady g t m → Covers g t (takes g u) m
      → StepsBy g t u m
  step u m u_live other (empty_before type1 e there empty) covers =
      let met = meet_empty_before g t pure_ordinary (takes g u) m covers (λ p before. type1 u p u_live other before) e there empty in
      step_by u m met u_live (ready_by_draining (fired g (after_times g t met.times m) u) type1)
  step u m u_live other (free all) covers =
      step_by u m (meet_free g t pure_ordinary (takes g u) m covers all) u_live (record { times = 0; runs = tt; ready = free all })
  step u m u_live other (empty_after alone e there empty) covers =
      let x = meet_empty_after g t pure_ordinary (takes g u) m covers e there empty in
      let f = fire_times x.met.times m x.met.can in
      step_by u m x.met u_live (record {
        times = 0;
        runs = tt;
        ready = empty_after alone x.exact x.there (omega (
          arith,
          f.leads x.exact,
          x.no_more,
          alone u x.exact u_live other x.there,
        ));
      })

module _ (g h : Graph) (t : ℕ) (k : IsContraction g h t) where
  -- a demand whose sums are covered at each place of h
  pub covers_by_sums : (demand m : ℕ → ℕ)
      → ((r : ℕ) → sum_over (k.origin r) demand ≤ sum_over (k.origin r) m) → Covers g t demand m
  covers_by_sums demand m all = record {
    old = λ p below taken given. let o = k.old p below taken given in rw o.1 at (all o.0);
    pair = λ p q before after. let o = k.pair p q before after in rw o.1 at (all o.0);
  }

  -- a run of g that does what the run of h does, and ends ready
  pub record Lifts (m n : Marking) (run : List ℕ) : Type 0 where
    pub lifted : List ℕ
    pub runs : IsRunFrom g m lifted
    pub rest : leave_out t lifted ≡ run
    pub ready : IsReady g t (reached_from g m lifted)
    pub image : IsImage g h t k (reached_from g m lifted) (reached_from h n run)

  -- t fired some times first
  lift_after : (m n : Marking) (run : List ℕ) (times : ℕ) → IsRunFrom g m (replicate times t)
      → Lifts (after_times g t times m) n run → Lifts m n run
  lift_after m n run times runs l = record {
    lifted = replicate times t ++ l.lifted;
    runs = append_runs g m (replicate times t) l.lifted runs l.runs;
    rest = rw (leave_out-append, leave_out-replicate) l.rest;
    ready = rw reached-append l.ready;
    image = rw reached-append l.image;
  }

  -- another transition first
  lift_first : (u : ℕ) (m n : Marking) (run : List ℕ) → u ≢ t → IsEnabled g m u
      → Lifts (fired g m u) (fired h n u) run → Lifts m n (u ∷ run)
  lift_first u m n run other e l = record {
    lifted = u ∷ l.lifted;
    runs = (e, l.runs);
    rest = rw leave_out-other (ap (λ x. u ∷ x) l.rest);
    ready = l.ready;
    image = l.image;
  }

  covers_enabled : (u : ℕ) (m n : Marking) → IsImage g h t k m n → IsEnabled h n u
      → Covers g t (takes g u) m
  covers_enabled u m n image e =
      covers_by_sums (takes g u) m (λ r. omega (
        arith,
        e.covered r,
        image.is r,
        k.taken u r (live_before g h t k u e.live) (k.gone u e.live),
      ))

  module _ (live : IsTrans g t) (pure_ordinary : IsPureOrdinary g t) where
    -- firing t some times leaves the image as it was
    image_times : (times : ℕ) (m n : Marking) → IsRunFrom g m (replicate times t)
        → IsImage g h t k m n → IsImage g h t k (after_times g t times m) n
    image_times zero m n run image = image
    image_times (suc times) m n run image =
        image_times times (fired g m t) n run.1 (image_silent g h t k pure_ordinary m n image run.0)

    -- a run from the image of a ready marking is lifted
    lift_run : (run : List ℕ) (m n : Marking) → IsReady g t m → IsImage g h t k m n
        → IsRunFrom h n run → Lifts m n run
    lift_run [] m n ready image runs =
        record { lifted = []; runs = tt; rest = refl; ready = ready; image = image }
    lift_run (u ∷ run) m n ready image runs =
        let other = k.gone u runs.0.live in
        let s = step g t live pure_ordinary u m (live_before g h t k u runs.0.live) other ready (covers_enabled u m n image runs.0) in
        let m1 = after_times g t s.times m in
        let m2 = fired g m1 u in
        let image1 = image_times s.times m n s.runs image in
        let image2 = image_times s.after.times m2 (fired h n u) s.after.runs (image_fired g h t k u m1 n image1 other s.enabled) in
        let rest = lift_run run (after_times g t s.after.times m2) (fired h n u) s.after.ready image2 runs.1 in
        lift_after m n (u ∷ run) s.times s.runs (lift_first u m1 n run other s.enabled (lift_after m2 (fired h n u) run s.after.times s.after.runs rest))

    -- each run of h is lifted
    pub lift_whole : IsSecure g t → (run : List ℕ) → IsRunFrom h (tokens_at h) run
        → Lifts (tokens_at g) (tokens_at h) run
    lift_whole secure run runs =
        let r = ready_at_start g t live pure_ordinary secure in
        let image = image_times r.times (tokens_at g) (tokens_at h) r.runs (record { is = k.tokens }) in
        lift_after (tokens_at g) (tokens_at h) run r.times r.runs (lift_run run (after_times g t r.times (tokens_at g)) (tokens_at h) r.ready image runs)
