-- What steps keep: the name lists, and with them what makes a component faithful.
use Rattle.std.proofs.Common.{◌≢◌, ℕ, List, [], ◌∷◌, refl, sym, ◌∙◌}
use Rattle.stg_net.specs.Graph.{Graph, IsTrans}
use Rattle.stg_net.specs.Contraction.{contracted, without_place, without_trans}
use Rattle.stg_laws.specs.RedundantPlaces.{IsRedundantPlace}
use Rattle.stg_laws.specs.RedundantDummies.{IsRedundantDummy}
use Rattle.stg_laws.specs.Stgs.{HasDistinctNames}
use Rattle.stg_laws.proofs.ContractedOrigins.{contracted-IsContraction}
use Rattle.stg_laws.proofs.ContractionLaws.{contraction_keeps_names, contraction_keeps_clean}
use Rattle.stg_laws.proofs.DeletionLaws.{place_deletion_keeps_runs, place_deletion_keeps_clean, trans_deletion_keeps_clean}
use Rattle.stg_laws.proofs.HiddenCuts.{HasNamesBut}
use Rattle.stg_laws.proofs.Keeping.{Keeps}
use Rattle.stg_laws.proofs.Names.{live_from}
use Rattle.stg_laws.proofs.TransDeletion.{without_trans-IsWithout, dummy_deletion_keeps_names}
use Rattle.stg_derive.specs.declared.step.Step.{Step}
use Rattle.stg_derive.specs.declared.step.Step.TheVariants.{Contract, DropPlace, DropDummy}
use Rattle.stg_contract.specs.Candidates.{IsCandidate}
use Rattle.stg_derive.specs.Steps.{IsPlainStep, stepped}
use Rattle.stg_derive.specs.Attempts.{stepped_all, ArePlainSteps}
use Rattle.stg_derive.proofs.StepEffects.{redundant_place_by, redundant_dummy_by}

distinct_but : (g h : Graph) (t : ℕ) → HasNamesBut g h t → ((u : ℕ) → IsTrans h u → u ≢ t)
    → HasDistinctNames g → HasDistinctNames h
distinct_but g h t same gone distinct u v name a b =
    distinct u v name (sym (same.names u (gone u (live_from h u name a))) ∙ a) (sym (same.names v (gone v (live_from h v name b))) ∙ b)

contraction_keeps : (g : Graph) (t : ℕ) → IsCandidate g t → Keeps g (contracted g t)
contraction_keeps g t c =
    let pure = c.contractible.contraction.pure_ordinary in
    let secure = c.contractible.contraction.secure in
    let facts = contracted-IsContraction g t in record {
      names = contraction_keeps_names g t c.dummy pure secure;
      clean = contraction_keeps_clean g t c.dummy.live pure secure c.contractible.no_conflict;
      distinct = distinct_but g (contracted g t) t (record { names = facts.names }) facts.gone;
      known = λ s. refl;
    }

place_deletion_keeps : (g : Graph) (p : ℕ) → IsRedundantPlace g p → Keeps g (without_place g p)
place_deletion_keeps g p redundant = record {
  names = λ names. (
    λ l. record { run = l.run; runs = (place_deletion_keeps_runs g p l.run redundant).0 l.runs; is_cut = l.is_cut },
    λ l. record { run = l.run; runs = (place_deletion_keeps_runs g p l.run redundant).1 l.runs; is_cut = l.is_cut },
  );
  clean = place_deletion_keeps_clean g p redundant;
  distinct = λ distinct. distinct;
  known = λ s. refl;
}

dummy_deletion_keeps : (g : Graph) (t : ℕ) → IsRedundantDummy g t → Keeps g (without_trans g t)
dummy_deletion_keeps g t redundant =
    let without = without_trans-IsWithout g t in record {
      names = dummy_deletion_keeps_names g t redundant;
      clean = trans_deletion_keeps_clean g t;
      distinct = distinct_but g (without_trans g t) t without.names without.gone;
      known = λ s. refl;
    }

step_keeps : (g : Graph) (s : Step) → IsPlainStep g s → Keeps g (stepped g s)
step_keeps g (DropPlace found) p = place_deletion_keeps g found.place (redundant_place_by g found.place found.rule p.0)
step_keeps g (DropDummy found) p = dummy_deletion_keeps g found.trans (redundant_dummy_by g found.trans found.rule p.1.0)
step_keeps g (Contract t secure places) p = contraction_keeps g t p.cheapest.candidate

keeps_itself : (g : Graph) → Keeps g g
keeps_itself g = record { names = λ names. (λ l. l, λ l. l); clean = λ c. c; distinct = λ c. c; known = λ s. refl }

-- what is kept from g to k and from k to h is kept from g to h
pub keeps_trans : (g k h : Graph) → Keeps g k → Keeps k h → Keeps g h
keeps_trans g k h a b = record {
  names = λ names. (λ l. (b.names names).0 ((a.names names).0 l), λ l. (a.names names).1 ((b.names names).1 l));
  clean = λ c. b.clean (a.clean c);
  distinct = λ c. b.distinct (a.distinct c);
  known = λ s. b.known s ∙ a.known s;
}

-- what the steps of an attempt keep
pub steps_keep : (g : Graph) (steps : List Step) → ArePlainSteps g steps → Keeps g (stepped_all g steps)
steps_keep g [] p = keeps_itself g
steps_keep g (s ∷ steps) p = keeps_trans g (stepped g s) (stepped_all (stepped g s) steps) (step_keeps g s p.0) (steps_keep (stepped g s) steps p.1)
