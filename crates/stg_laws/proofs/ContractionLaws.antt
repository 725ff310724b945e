-- What a contraction keeps of runs, of name lists, and of a clean graph.
use Rattle.std.proofs.Common.{◌≡◌, ◌≢◌, ℕ, ◌+◌, ◌<◌, List, ◌++◌, replicate, sym, ◌∙◌, inl, inr, arith}
use Rattle.std.proofs.lemmas.Bool.{cases_lt}
use Rattle.stg_net.specs.Graph.{Graph, IsTrans, IsKnown, IsDummy, tokens_at, takes}
use Rattle.stg_net.specs.Run.{Marking, IsEnabled, IsRun, reached, reached_from}
use Rattle.stg_net.specs.Contraction.{contracted}
use Rattle.stg_laws.specs.Cuts.{HaveSameNameLists}
use Rattle.stg_laws.specs.Deterministic.{AreRivals, IsClean}
use Rattle.stg_laws.specs.Conflict.{HasNoAutoConflict}
use Rattle.stg_laws.specs.Secure.{IsPureOrdinary, IsType1, IsSecure}
use Rattle.stg_laws.specs.LeaveOut.{leave_out, ComesFrom}
use Rattle.stg_laws.proofs.Origins.{IsContraction, sum_over-add}
use Rattle.stg_laws.proofs.ContractedOrigins.{contracted-IsContraction}
use Rattle.stg_laws.proofs.Runs.{append_runs, reached-append}
use Rattle.stg_laws.proofs.Images.{IsImage, live_before, follow_run}
use Rattle.stg_laws.proofs.Demands.{Covers}
use Rattle.stg_laws.proofs.Lifting.{Lifts, lift_whole, covers_by_sums, meet_ready, fire_times, enabled_when_met}
use Rattle.stg_laws.proofs.HiddenCuts.{HasNamesBut, cut-leave_out}

module _ (g h : Graph) (t : ℕ) (k : IsContraction g h t) where
  known_before : (u : ℕ) → u ≢ t → IsKnown h u → IsKnown g u
  known_before u other known = rw (k.known, k.names u other) at known

  -- rivals of the contracted graph are rivals before
  pub rivals_before : (u v : ℕ) → u ≢ t → v ≢ t → AreRivals h u v → AreRivals g u v
  rivals_before u v u_other v_other r = record {
    differ = r.differ;
    t_known = known_before u u_other r.t_known;
    u_known = known_before v v_other r.u_known;
    t_name = r.t_name;
    u_name = r.u_name;
    t_has = sym (k.names u u_other) ∙ r.t_has;
    u_has = sym (k.names v v_other) ∙ r.u_has;
    same = r.same;
  }

  -- without structural auto-conflicts, rivals don't take from one place
  apart_at : (u v r : ℕ) → HasNoAutoConflict h → AreRivals h u v → 0 < takes h u r → takes h v r ≡ 0
  apart_at u v r apart rivals l = elim (cases_lt 0 (takes h v r)) [
    | inl l' ↦ absurd (apart u v r (record { rivals = rivals; t_takes = l; u_takes = l' }))
    | inr none ↦ omega arith
  ]

  -- so what two enabled rivals take together is covered
  covers_both : (u v : ℕ) (m n : Marking) → IsImage g h t k m n → HasNoAutoConflict h
      → AreRivals h u v → IsEnabled h n u → IsEnabled h n v
      → Covers g t (λ p. takes g u p + takes g v p) m
  covers_both u v m n image apart rivals eu ev = covers_by_sums g h t k (λ p. takes g u p + takes g v p) m (λ r.
      let add = sum_over-add (k.origin r) (takes g u) (takes g v) in
      let tu = k.taken u r (live_before g h t k u eu.live) (k.gone u eu.live) in
      let tv = k.taken v r (live_before g h t k v ev.live) (k.gone v ev.live) in
      elim (cases_lt 0 (takes h u r)) [
        | inl l ↦ omega (arith, add, tu, tv, eu.covered r, image.is r, apart_at u v r apart rivals l)
        | inr none ↦ omega (arith, add, tu, tv, ev.covered r, image.is r)
      ])

  -- two rivals that are enabled after a lifted run would be enabled before
  no_rivals : (u v : ℕ) → IsTrans g t → IsPureOrdinary g t → IsClean g → HasNoAutoConflict h
      → AreRivals h u v → (run : List ℕ) → Lifts g h t k (tokens_at g) (tokens_at h) run
      → IsEnabled h (reached h run) u → ¬ IsEnabled h (reached h run) v
  no_rivals u v live pure_ordinary clean apart rivals run l eu ev =
      let u_live = live_before g h t k u eu.live in
      let v_live = live_before g h t k v ev.live in
      let m = reached_from g (tokens_at g) l.lifted in
      let both : ℕ → ℕ = λ p. takes g u p + takes g v p in
      let covers = covers_both u v m (reached h run) l.image apart rivals eu ev in
      let none : IsType1 g t → (p : ℕ) → 0 < takes g t p → both p ≡ 0 = λ type1 p a. omega (
        arith,
        type1 u p u_live (k.gone u eu.live) a,
        type1 v p v_live (k.gone v ev.live) a,
      ) in
      let met = meet_ready g t live pure_ordinary both m l.ready none covers in
      clean (l.lifted ++ replicate met.times t) u v
      (append_runs g (tokens_at g) l.lifted (replicate met.times t) l.runs (fire_times g t live pure_ordinary met.times m met.can).runs)
      (rivals_before u v (k.gone u eu.live) (k.gone v ev.live) rivals)
      (rw reached-append (enabled_when_met g t live pure_ordinary u both m met u_live (λ p. omega arith)))
      (rw reached-append (enabled_when_met g t live pure_ordinary v both m met v_live (λ p. omega arith)))

-- what is left of a run is a run of the contracted graph
pub contraction_follows : (g : Graph) (t : ℕ) (run : List ℕ) → IsPureOrdinary g t → IsRun g run
    → IsRun (contracted g t) (leave_out t run)
contraction_follows g t run pure_ordinary runs =
    let k = contracted-IsContraction g t in
    follow_run g (contracted g t) t k pure_ordinary run (tokens_at g) (tokens_at (contracted g t)) (record { is = k.tokens }) runs

-- a secure contraction adds no run
pub contraction_adds_no_run : (g : Graph) (t : ℕ) (run : List ℕ) → IsTrans g t → IsPureOrdinary g t
    → IsSecure g t → IsRun (contracted g t) run → ComesFrom g t run
contraction_adds_no_run g t run live pure_ordinary secure runs =
    let l = lift_whole g (contracted g t) t (contracted-IsContraction g t) live pure_ordinary secure run runs in
    record { before = l.lifted; runs = l.runs; is_rest = l.rest }

-- the secure contraction of a dummy keeps the name lists
pub contraction_keeps_names : (g : Graph) (t : ℕ) → IsDummy g t → IsPureOrdinary g t → IsSecure g t
    → HaveSameNameLists g (contracted g t)
contraction_keeps_names g t dummy pure_ordinary secure names =
    let same : HasNamesBut g (contracted g t) t = record { names = (contracted-IsContraction g t).names } in
    let cut_is : (w : List ℕ) → _ = cut-leave_out g.known g (contracted g t) t same dummy.hidden in (
      λ l. record {
        run = leave_out t l.run;
        runs = contraction_follows g t l.run pure_ordinary l.runs;
        is_cut = cut_is l.run ∙ l.is_cut;
      },
      λ l. let c = contraction_adds_no_run g t l.run dummy.live pure_ordinary secure l.runs in record {
        run = c.before;
        runs = c.runs;
        is_cut = sym (cut_is c.before) ∙ rw c.is_rest l.is_cut;
      },
    )

-- a secure contraction that brings no structural auto-conflict keeps a clean graph clean
pub contraction_keeps_clean : (g : Graph) (t : ℕ) → IsTrans g t → IsPureOrdinary g t → IsSecure g t
    → HasNoAutoConflict (contracted g t) → IsClean g → IsClean (contracted g t)
contraction_keeps_clean g t live pure_ordinary secure apart clean run u v runs rivals =
    let h = contracted g t in
    let k = contracted-IsContraction g t in
    no_rivals g h t k u v live pure_ordinary clean apart rivals run (lift_whole g h t k live pure_ordinary secure run runs)
