-- A consistent graph without structural auto-conflicts is deterministic.
use Rattle.std.proofs.Common.{◌≡◌, ℕ, List, [], ◌∷◌, ◌++◌, map, Some, refl, sym, ◌∙◌, ap, inl, inr, true, arith}
use Rattle.std.proofs.lemmas.Bool.{cases_lt}
use Rattle.std.proofs.lemmas.List.{map-append}
use Rattle.std.proofs.lemmas.Slice.Eq.{bytes_eq-Decides}
use Rattle.stg_net.specs.declared.trans.Edge.{Edge}
use Rattle.stg_net.specs.Graph.{Graph, FullName, full_name_at, is_among, tokens_at, takes}
use Rattle.stg_net.specs.Run.{IsEnabled, fired, reached}
use Rattle.stg_laws.specs.Cuts.{Label, cut}
use Rattle.stg_laws.specs.Deterministic.{HasNoDummy, IsClean, IsDeterministic}
use Rattle.stg_laws.specs.Conflict.{HasNoAutoConflict}
use Rattle.stg_laws.specs.Consistent.{edges_of, Alternates, IsConsistent, HasNoToggle}
use Rattle.stg_laws.proofs.Runs.{append_runs}
use Rattle.stg_laws.proofs.Cuts.{cut-append}

among_itself : (s : List ℕ) → is_among (s ∷ []) s ≡ true
among_itself s = rw ((bytes_eq-Decides s s).1 refl) refl

-- the edges of a run that ends with two transitions of the signal
edges_end : (g : Graph) (s : List ℕ) (run : List ℕ) (t u : ℕ) (x y : FullName) → full_name_at g t ≡ Some x → full_name_at g u ≡ Some y → x.signal ≡ s → y.signal ≡ s → edges_of g s (run ++ t ∷ u ∷ []) ≡ edges_of g s run ++ x.edge ∷ y.edge ∷ []
edges_end g s run t u x y a b c d =
    ap (map (λ (name : FullName). name.edge)) (cut-append g (s ∷ []) run (t ∷ u ∷ []))
    ∙ map-append (λ (name : FullName). name.edge) (cut g (s ∷ []) run) (cut g (s ∷ []) (t ∷ u ∷ []))
    ∙ ap (λ edges. edges_of g s run ++ edges) last
  where
    last : edges_of g s (t ∷ u ∷ []) ≡ x.edge ∷ y.edge ∷ []
    last = rw (a, b) (rw (c, d) (rw (among_itself s) refl))

never_twice : (edges : List Edge) (e f : Edge) → e ≡ f → Alternates (edges ++ e ∷ f ∷ []) → ⊥
never_twice [] e f same h = h.0 same
never_twice (x ∷ []) e f same h = h.1.0 same
never_twice (x ∷ y ∷ edges) e f same h = never_twice (y ∷ edges) e f same h.1

-- two enabled rivals that share no place could fire one after the other
clean_from : (g : Graph) → HasNoAutoConflict g → IsConsistent g → IsClean g
clean_from g apart consistent run t u runs r et eu =
    let m = reached g run in
    let later : IsEnabled g (fired g m t) u = record {
      live = eu.live;
      covered = λ p. elim (cases_lt 0 (takes g t p)) [
        | inl l ↦ elim (cases_lt 0 (takes g u p)) [
          | inl k ↦ absurd (apart t u p (record { rivals = r; t_takes = l; u_takes = k }))
          | inr none ↦ omega (arith, none)
        ]
        | inr none ↦ omega (arith, none, eu.covered p)
      ];
    } in
    let whole = append_runs g (tokens_at g) run (t ∷ u ∷ []) runs (et, (later, tt)) in
    let signal : r.u_name.signal ≡ r.t_name.signal = ap (λ (l : Label). l.signal) (sym r.same) in
    let edge : r.t_name.edge ≡ r.u_name.edge = ap (λ (l : Label). l.edge) r.same in
    never_twice (edges_of g r.t_name.signal run) r.t_name.edge r.u_name.edge edge
    (rw (edges_end g r.t_name.signal run t u r.t_name r.u_name r.t_has r.u_has refl signal) at (consistent (run ++ t ∷ u ∷ []) r.t_name.signal whole))

pub consistency_determines : (g : Graph) → HasNoDummy g → HasNoToggle g → HasNoAutoConflict g → IsConsistent g → IsDeterministic g
consistency_determines g all_known steady apart consistent = record { clean = clean_from g apart consistent; no_dummy = all_known }
