-- The deletion of a transition adds no run, and that of a redundant dummy keeps the name lists.
use Rattle.std.proofs.Common.{◌≡◌, ◌≢◌, ℕ, List, [], ◌∷◌, map, length, Option, Some, None, eq-eqb, refl, sym, ◌∙◌, ap, subst, inl, inr, arith}
use Rattle.std.proofs.lemmas.Bool.{cases_lt, cases_eq, ne_eqb, false≢true}
use Rattle.std.proofs.lemmas.List.{get_or-set_other, get_or-set_same, set_past, get_or_past}
use Rattle.std.proofs.Math.ListN.{get_or-map}
use Rattle.stg_net.specs.Graph.{Graph, Place, FullName, IsTrans, place_at, full_name_at, tokens_in, taken_by, given_by, tokens_at, takes, gives}
use Rattle.stg_net.specs.Run.{Marking, IsEnabled, fired, IsRun, IsRunFrom}
use Rattle.stg_net.specs.Contraction.{without_arcs_of, without_trans}
use Rattle.stg_laws.specs.Cuts.{IsNameList, HaveSameNameLists, cut, names_of}
use Rattle.stg_laws.specs.RedundantDummies.{IsSameDummy, IsRedundantDummy, loop_dummy, same_dummy}
use Rattle.stg_laws.specs.LeaveOut.{leave_out}
use Rattle.stg_laws.proofs.LeaveOut.{leave_out-same, leave_out-other}
use Rattle.stg_laws.proofs.HiddenCuts.{HasNamesBut, put_for, cut-next, cut-leave_out, cut-put_for}

-- h is g without t
pub record IsWithout (g h : Graph) (t : ℕ) : Type 0 where
  pub tokens : (p : ℕ) → tokens_at h p ≡ tokens_at g p
  pub taken : (u p : ℕ) → u ≢ t → takes h u p ≡ takes g u p
  pub given : (u p : ℕ) → u ≢ t → gives h u p ≡ gives g u p
  pub names : HasNamesBut g h t
  pub gone : (u : ℕ) → IsTrans h u → u ≢ t
  pub known : h.known ≡ g.known

module _ (g : Graph) (t : ℕ) where
  -- each place stays without the arcs of t
  pub place_at-without_trans : (p : ℕ)
      → place_at (without_trans g t) p ≡ without_arcs_of t (place_at g p)
  place_at-without_trans p = get_or-map (without_arcs_of t) g.places p None

  tokens_in-without : (o : Option Place) → tokens_in (without_arcs_of t o) ≡ tokens_in o
  tokens_in-without None = refl
  tokens_in-without (Some x) = refl

  taken_by-without : (u : ℕ) (o : Option Place) → u ≢ t
      → taken_by u (without_arcs_of t o) ≡ taken_by u o
  taken_by-without u None other = refl
  taken_by-without u (Some x) other = get_or-set_other x.taken t u 0 0 other

  given_by-without : (u : ℕ) (o : Option Place) → u ≢ t
      → given_by u (without_arcs_of t o) ≡ given_by u o
  given_by-without u None other = refl
  given_by-without u (Some x) other = get_or-set_other x.given t u 0 0 other

  name_gone : full_name_at (without_trans g t) t ≡ None
  name_gone = elim (cases_lt t (length g.trans)) [
    | inl below ↦ get_or-set_same g.trans t None None below
    | inr past ↦ rw (set_past g.trans t None past) (get_or_past g.trans t None past)
  ]

  -- the graph of the deletion is without t
  pub without_trans-IsWithout : IsWithout g (without_trans g t) t
  without_trans-IsWithout = record {
    tokens = λ p. ap tokens_in (place_at-without_trans p) ∙ tokens_in-without (place_at g p);
    taken = λ u p other. ap (taken_by u) (place_at-without_trans p) ∙ taken_by-without u (place_at g p) other;
    given = λ u p other. ap (given_by u) (place_at-without_trans p) ∙ given_by-without u (place_at g p) other;
    names = record { names = λ u other. get_or-set_other g.trans t u None None other };
    gone = λ u live e. false≢true (rw name_gone at (let h : IsTrans (without_trans g t) t = rw e at live in h));
    known = refl;
  }

module _ (g h : Graph) (t : ℕ) (k : IsWithout g h t) where
  -- both markings have the same tokens
  abbrev Agree : Marking → Marking → Type 0
  Agree m n = (p : ℕ) → n p ≡ m p

  live_before : (u : ℕ) → IsTrans h u → IsTrans g u
  live_before u live = rw (k.names.names u (k.gone u live)) at live

  live_after : (u : ℕ) → u ≢ t → IsTrans g u → IsTrans h u
  live_after u other live = rw (k.names.names u other) live

  enabled_after : (u : ℕ) (m n : Marking) → u ≢ t → Agree m n → IsEnabled g m u → IsEnabled h n u
  enabled_after u m n other same e =
      record {
        live = live_after u other e.live;
        covered = λ p. omega (
          arith,
          e.covered p,
          same p,
          k.taken u p other,
        );
      }

  agree_fired : (u : ℕ) (m n : Marking) → u ≢ t → Agree m n → Agree (fired g m u) (fired h n u)
  agree_fired u m n other same p = omega (arith, same p, k.taken u p other, k.given u p other)

  -- a run without t is one of the graph before
  run_before : (w : List ℕ) (m n : Marking) → Agree m n → IsRunFrom h n w → IsRunFrom g m w
  run_before [] m n same run = run
  run_before (u ∷ w) m n same run =
      let other = k.gone u run.0.live in (
        record {
          live = live_before u run.0.live;
          covered = λ p. omega (
            arith,
            run.0.covered p,
            same p,
            k.taken u p other,
          );
        },
        run_before w (fired g m u) (fired h n u) (agree_fired u m n other same) run.1,
      )

  -- a transition that gives what it takes can be left out
  run_leave_out : ((p : ℕ) → takes g t p ≡ gives g t p) → (w : List ℕ) (m n : Marking) → Agree m n
      → IsRunFrom g m w → IsRunFrom h n (leave_out t w)
  run_leave_out loop [] m n same run = run
  run_leave_out loop (u ∷ w) m n same run = elim (cases_eq u t) [
    | inl e ↦
        let P : ℕ → Type 0 = λ x. IsEnabled g m x × IsRunFrom g (fired g m x) w → IsRunFrom h n (leave_out t (x ∷ w)) in
        subst P (sym e) (λ r. rw leave_out-same (run_leave_out loop w (fired g m t) n (λ p. omega (
          arith,
          same p,
          loop p,
          r.0.covered p,
        )) r.1)) run
    | inr other ↦ rw leave_out-other (enabled_after u m n other same run.0, run_leave_out loop w (fired g m u) (fired h n u) (agree_fired u m n other same) run.1)
  ]

  -- another transition with the same arcs can stand for it
  run_put_for : (u : ℕ) → IsSameDummy g t u → (w : List ℕ) (m n : Marking) → Agree m n
      → IsRunFrom g m w → IsRunFrom h n (map (put_for t u) w)
  run_put_for u s [] m n same run = run
  run_put_for u s (x ∷ w) m n same run = elim (cases_eq x t) [
    | inl e ↦
        let P : ℕ → Type 0 = λ x. IsEnabled g m x × IsRunFrom g (fired g m x) w → IsRunFrom h n (map (put_for t u) (x ∷ w)) in
        let other : u ≢ t = λ d. s.differ (sym d) in
        let agree : Agree m n → Agree (fired g m t) (fired h n u) = λ same p. omega (
          arith,
          same p,
          k.taken u p other,
          k.given u p other,
          s.taken p,
          s.given p,
        ) in
        subst P (sym e) (λ r. rw (eq-eqb t t refl) (
          record {
            live = live_after u other s.other_dummy.live;
            covered = λ p. omega (
              arith,
              r.0.covered p,
              same p,
              k.taken u p other,
              s.taken p,
            );
          },
          run_put_for u s w (fired g m t) (fired h n u) (agree same) r.1,
        )) run
    | inr other ↦ rw (ne_eqb x t other) (enabled_after x m n other same run.0, run_put_for u s w (fired g m x) (fired h n x) (agree_fired x m n other same) run.1)
  ]

  -- a run without t has the same cut in both graphs
  cut-before : (signals : List (List ℕ)) (w : List ℕ) (m : Marking) → IsRunFrom h m w
      → cut g signals w ≡ cut h signals w
  cut-before signals [] m run = refl
  cut-before signals (u ∷ w) m run =
      rw (k.names.names u (k.gone u run.0.live)) (cut-next signals (full_name_at g u) (names_of g w) (names_of h w) (cut-before signals w (fired h m u) run.1))

  names_before : (names : List FullName) → IsNameList h names → IsNameList g names
  names_before names l = record {
    run = l.run;
    runs = run_before l.run (tokens_at g) (tokens_at h) k.tokens l.runs;
    is_cut = cut-before g.known l.run (tokens_at h) l.runs ∙ rw (sym k.known) l.is_cut;
  }

  names_after : IsRedundantDummy g t → (names : List FullName) → IsNameList g names
      → IsNameList h names
  names_after (loop_dummy s) names l = record {
    run = leave_out t l.run;
    runs = run_leave_out s.same l.run (tokens_at g) (tokens_at h) k.tokens l.runs;
    is_cut = rw k.known (cut-leave_out g.known g h t k.names s.dummy.hidden l.run ∙ l.is_cut);
  }
  names_after (same_dummy u s) names l = record {
    run = map (put_for t u) l.run;
    runs = run_put_for u s l.run (tokens_at g) (tokens_at h) k.tokens l.runs;
    is_cut = rw k.known (cut-put_for g.known g h t k.names s.dummy.hidden u s.differ s.other_dummy.hidden l.run ∙ l.is_cut);
  }

-- the deletion of a transition adds no run
pub trans_deletion_adds_no_run : (g : Graph) (t : ℕ) (run : List ℕ) → IsRun (without_trans g t) run
    → IsRun g run
trans_deletion_adds_no_run g t run runs =
    let k = without_trans-IsWithout g t in
    run_before g (without_trans g t) t k run (tokens_at g) (tokens_at (without_trans g t)) k.tokens runs

-- the deletion of a redundant dummy keeps the name lists
pub dummy_deletion_keeps_names : (g : Graph) (t : ℕ) → IsRedundantDummy g t
    → HaveSameNameLists g (without_trans g t)
dummy_deletion_keeps_names g t redundant names =
    let k = without_trans-IsWithout g t in
    (names_after g (without_trans g t) t k redundant names, names_before g (without_trans g t) t k names)
