-- A graph with other numbers keeps what a safe step keeps.
use Rattle.std.proofs.Common.{◌≡◌, ℕ, ◌≤◌, List, [], ◌∷◌, map, Option, Some, None, is_some, false, refl, sym, ◌∙◌, ap, subst, inl, inr, arith}
use Rattle.std.specs.List.{cons_option}
use Rattle.std.proofs.lemmas.Bool.{cases_Bool, false≢true}
use Rattle.stg_net.specs.Graph.{Graph, Place, IsTrans, full_name_at, place_at, taken_by, tokens_at, takes}
use Rattle.stg_net.specs.Run.{Marking, IsEnabled, IsRunFrom, fired, reached, reached_from}
use Rattle.stg_laws.specs.Cuts.{cut, names_of, names_among}
use Rattle.stg_laws.specs.Deterministic.{AreRivals, HasNoDummy}
use Rattle.stg_laws.specs.Renumbered.{IsRenumbered}
use Rattle.stg_laws.proofs.Cuts.{cut-agree, signal_of-agree}
use Rattle.stg_laws.proofs.Keeping.{Keeps}
use Rattle.stg_laws.proofs.Names.{AreLive, live_run, live_from}

live_there : (g h : Graph) (k : IsRenumbered g h) (u : ℕ) → IsTrans h u → IsTrans g (k.trans u)
live_there g h k u live = rw (k.names u live) live

no_place : (g : Graph) (t p : ℕ) → is_some (place_at g p) ≡ false → takes g t p ≡ 0
no_place g t p none = go (place_at g p) none
  where
    go : (o : Option Place) → is_some o ≡ false → taken_by t o ≡ 0
    go None e = refl
    go (Some x) e = absurd (false≢true (sym e))

-- n is m at the new numbers
abbrev pub IsMoved : (g h : Graph) → IsRenumbered g h → Marking → Marking → Type 0
IsMoved g h k m n = (r : ℕ) → n r ≡ m (k.place r)

moved_fired : (g h : Graph) (k : IsRenumbered g h) (u : ℕ) (m n : Marking) → IsTrans h u → IsMoved g h k m n → IsMoved g h k (fired g m (k.trans u)) (fired h n u)
moved_fired g h k u m n live same r = omega (arith, same r, k.taken u r live, k.given u r live)

enabled_there : (g h : Graph) (k : IsRenumbered g h) (u : ℕ) (m n : Marking) → IsMoved g h k m n → IsEnabled h n u → IsEnabled g m (k.trans u)
enabled_there g h k u m n same e = record {
  live = live_there g h k u e.live;
  covered = λ p. elim (cases_Bool (is_some (place_at g p))) [
    | inl there ↦
        let x = k.place_from p there in
        let P : ℕ → Type 0 = λ q. takes g (k.trans u) q ≤ m q in
        subst P x.2 (omega (arith, e.covered x.0, same x.0, k.taken u x.0 e.live))
    | inr none ↦ omega (arith, no_place g (k.trans u) p none)
  ];
}

enabled_here : (g h : Graph) (k : IsRenumbered g h) (u : ℕ) (m n : Marking) → IsMoved g h k m n → IsTrans h u → IsEnabled g m (k.trans u) → IsEnabled h n u
enabled_here g h k u m n same live e = record { live = live; covered = λ r. omega (arith, e.covered (k.place r), same r, k.taken u r live) }

-- a run of h is one of g, at the old numbers
run_there : (g h : Graph) (k : IsRenumbered g h) (w : List ℕ) (m n : Marking) → IsMoved g h k m n → IsRunFrom h n w → IsRunFrom g m (map k.trans w)
run_there g h k [] m n same run = run
run_there g h k (u ∷ w) m n same run =
    (enabled_there g h k u m n same run.0, run_there g h k w (fired g m (k.trans u)) (fired h n u) (moved_fired g h k u m n run.0.live same) run.1)

moved_after : (g h : Graph) (k : IsRenumbered g h) (w : List ℕ) (m n : Marking) → IsMoved g h k m n → IsRunFrom h n w → IsMoved g h k (reached_from g m (map k.trans w)) (reached_from h n w)
moved_after g h k [] m n same run = same
moved_after g h k (u ∷ w) m n same run = moved_after g h k w (fired g m (k.trans u)) (fired h n u) (moved_fired g h k u m n run.0.live same) run.1

-- a run of g at the new numbers
record Renumbers (g h : Graph) (k : IsRenumbered g h) (n : Marking) (v : List ℕ) : Type 0 where
  run : List ℕ
  runs : IsRunFrom h n run
  is : map k.trans run ≡ v

run_here : (g h : Graph) (k : IsRenumbered g h) (v : List ℕ) (m n : Marking) → IsMoved g h k m n → IsRunFrom g m v → Renumbers g h k n v
run_here g h k [] m n same run = record { run = []; runs = tt; is = refl }
run_here g h k (t ∷ v) m n same run =
    let x = k.trans_from t run.0.live in
    let P : ℕ → Type 0 = λ s. IsEnabled g m s × IsRunFrom g (fired g m s) v in
    let there = subst P (sym x.2) run in
    let rest = run_here g h k v (fired g m (k.trans x.0)) (fired h n x.0) (moved_fired g h k x.0 m n x.1 same) there.1 in
    record { run = x.0 ∷ rest.run; runs = (enabled_here g h k x.0 m n same x.1 there.0, rest.runs); is = λ i. x.2 i ∷ rest.is i }

names_there : (g h : Graph) (k : IsRenumbered g h) (w : List ℕ) → AreLive h w → names_of g (map k.trans w) ≡ names_of h w
names_there g h k [] a = refl
names_there g h k (u ∷ w) a = rw (k.names u a.0) (ap (λ names. cons_option (full_name_at h u) names) (names_there g h k w a.1))

cut_there : (g h : Graph) (k : IsRenumbered g h) (signals : List (List ℕ)) (w : List ℕ) → AreLive h w → cut g signals (map k.trans w) ≡ cut h signals w
cut_there g h k signals w a = ap (names_among signals) (names_there g h k w a)

rivals_there : (g h : Graph) (k : IsRenumbered g h) (u v : ℕ) → AreRivals h u v → AreRivals g (k.trans u) (k.trans v)
rivals_there g h k u v r =
    let lu = live_from h u r.t_name r.t_has in
    let lv = live_from h v r.u_name r.u_has in record {
      differ = λ e. r.differ (k.trans_differ u v lu lv e);
      t_known = rw (k.names u lu) (sym (signal_of-agree h.known g.known k.known (full_name_at h u)) ∙ r.t_known);
      u_known = rw (k.names v lv) (sym (signal_of-agree h.known g.known k.known (full_name_at h v)) ∙ r.u_known);
      t_name = r.t_name;
      u_name = r.u_name;
      t_has = k.names u lu ∙ r.t_has;
      u_has = k.names v lv ∙ r.u_has;
      same = r.same;
    }

pub renumbered_keeps : (g h : Graph) → IsRenumbered g h → Keeps g h
renumbered_keeps g h k = record {
  names = λ names. (
    λ l. let x = run_here g h k l.run (tokens_at g) (tokens_at h) k.tokens l.runs in record {
      run = x.run;
      runs = x.runs;
      is_cut = cut-agree h h.known g.known k.known x.run ∙ sym (cut_there g h k g.known x.run (live_run h (tokens_at h) x.run x.runs)) ∙ ap (cut g g.known) x.is ∙ l.is_cut;
    },
    λ l. record {
      run = map k.trans l.run;
      runs = run_there g h k l.run (tokens_at g) (tokens_at h) k.tokens l.runs;
      is_cut = cut_there g h k g.known l.run (live_run h (tokens_at h) l.run l.runs) ∙ sym (cut-agree h h.known g.known k.known l.run) ∙ l.is_cut;
    },
  );
  clean = λ clean w u v run r eu ev.
      let same = moved_after g h k w (tokens_at g) (tokens_at h) k.tokens run in
      clean (map k.trans w) (k.trans u) (k.trans v) (run_there g h k w (tokens_at g) (tokens_at h) k.tokens run) (rivals_there g h k u v r)
      (enabled_there g h k u (reached_from g (tokens_at g) (map k.trans w)) (reached h w) same eu)
      (enabled_there g h k v (reached_from g (tokens_at g) (map k.trans w)) (reached h w) same ev);
  distinct = λ distinct u v name a b.
      let lu = live_from h u name a in
      let lv = live_from h v name b in
      k.trans_differ u v lu lv (distinct (k.trans u) (k.trans v) name (k.names u lu ∙ a) (k.names v lv ∙ b));
  known = k.known;
}

pub renumbered_no_dummy : (g h : Graph) → IsRenumbered g h → HasNoDummy g → HasNoDummy h
renumbered_no_dummy g h k none u dummy =
    none (k.trans u) (record { live = live_there g h k u dummy.live; hidden = rw (k.names u dummy.live) (sym (signal_of-agree h.known g.known k.known (full_name_at h u)) ∙ dummy.hidden) })
