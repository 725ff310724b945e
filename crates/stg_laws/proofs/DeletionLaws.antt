-- The deletion of a redundant place keeps all runs, and deletions keep a clean graph clean.
use Rattle.std.proofs.Common.{◌↔◌, ℕ, List, [], ◌∷◌, ◌++◌, sym, ◌∙◌}
use Rattle.stg_net.specs.Graph.{Graph, tokens_at}
use Rattle.stg_net.specs.Run.{IsRun}
use Rattle.stg_net.specs.Contraction.{without_place, without_trans}
use Rattle.stg_laws.specs.Deterministic.{AreRivals, IsClean}
use Rattle.stg_laws.specs.RedundantPlaces.{IsRedundantPlace}
use Rattle.stg_laws.proofs.Names.{live_from}
use Rattle.stg_laws.proofs.PlaceDeletion.{structural_deletion_keeps_runs}
use Rattle.stg_laws.proofs.PlaceRules.{rules_are_structural}
use Rattle.stg_laws.proofs.Runs.{last_enabled, enabled_last}
use Rattle.stg_laws.proofs.TransDeletion.{IsWithout, without_trans-IsWithout, trans_deletion_adds_no_run}

-- the deletion of a redundant place keeps all runs
pub place_deletion_keeps_runs : (g : Graph) (p : ℕ) (run : List ℕ) → IsRedundantPlace g p
    → IsRun g run ↔ IsRun (without_place g p) run
place_deletion_keeps_runs g p run redundant =
    structural_deletion_keeps_runs g p (rules_are_structural g p redundant) run

-- a graph with no more runs and no more rivals is as clean
clean_by_runs : (g h : Graph) → ((w : List ℕ) → IsRun h w → IsRun g w)
    → ((t u : ℕ) → AreRivals h t u → AreRivals g t u) → IsClean g → IsClean h
clean_by_runs g h back rivals clean w t u run r et eu =
    clean w t u (back w run) (rivals t u r)
    (last_enabled g (tokens_at g) w t (back (w ++ t ∷ []) (enabled_last h w t run et)))
    (last_enabled g (tokens_at g) w u (back (w ++ u ∷ []) (enabled_last h w u run eu)))

-- rivals of a graph without a place are rivals
same_rivals : (g : Graph) (p t u : ℕ) → AreRivals (without_place g p) t u → AreRivals g t u
same_rivals g p t u r = record {
  differ = r.differ;
  t_known = r.t_known;
  u_known = r.u_known;
  t_name = r.t_name;
  u_name = r.u_name;
  t_has = r.t_has;
  u_has = r.u_has;
  same = r.same;
}

-- rivals of a graph without t are rivals
pub rivals_without : (g h : Graph) (t u v : ℕ) → IsWithout g h t → AreRivals h u v → AreRivals g u v
rivals_without g h t u v k r =
    let a = k.names.names u (k.gone u (live_from h u r.t_name r.t_has)) in
    let b = k.names.names v (k.gone v (live_from h v r.u_name r.u_has)) in record {
      differ = r.differ;
      t_known = rw (k.known, a) at r.t_known;
      u_known = rw (k.known, b) at r.u_known;
      t_name = r.t_name;
      u_name = r.u_name;
      t_has = sym a ∙ r.t_has;
      u_has = sym b ∙ r.u_has;
      same = r.same;
    }

-- the deletion of a redundant place keeps a clean graph clean
pub place_deletion_keeps_clean : (g : Graph) (p : ℕ) → IsRedundantPlace g p → IsClean g
    → IsClean (without_place g p)
place_deletion_keeps_clean g p redundant clean =
    clean_by_runs g (without_place g p) (λ w. (place_deletion_keeps_runs g p w redundant).1) (same_rivals g p) clean

-- and so does the deletion of any transition
pub trans_deletion_keeps_clean : (g : Graph) (t : ℕ) → IsClean g → IsClean (without_trans g t)
trans_deletion_keeps_clean g t clean =
    clean_by_runs g (without_trans g t) (trans_deletion_adds_no_run g t) (λ u v. rivals_without g (without_trans g t) t u v (without_trans-IsWithout g t)) clean
