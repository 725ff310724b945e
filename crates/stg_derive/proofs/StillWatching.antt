-- After each edit what is watched is still enough.
use Rattle.std.proofs.Common.{◌≡◌, ℕ, Bool, List, length, None, IsTrue, Contains, sym, ap, ◌∙◌, subst, inl, inr}
use Rattle.std.proofs.lemmas.List.{length-set}
use Rattle.stg_net.specs.Graph.{Graph, IsDummy}
use Rattle.stg_net.specs.Contraction.{without_place, without_trans, contracted}
use Rattle.stg_edit.specs.Drafts.{IsWeightlessPastLast, IsWeightlessWhereRemoved}
use Rattle.stg_edit.specs.Counted.{live_places}
use Rattle.stg_contract.specs.Calm.{IsCalm}
use Rattle.stg_contract.specs.Candidates.{IsCandidate}
use Rattle.stg_contract.specs.Neighbours.{HasArc, AreNeighbours}
use Rattle.stg_contract.specs.WatchedDummies.{WeighsDummies, IsWeighed}
use Rattle.stg_contract.proofs.WatchEdits.{hopeful_weighed, all_least, hopeful-without_place, least-without_place, hopeful-without_trans, least-without_trans, hopeful-contracted, least-contracted}
use Rattle.stg_redundant.specs.FlaggedDummies.{FlagsRedundant, FlagsMore, IsFlagged, IsFlaggedWithSame, DropsUseful}
use Rattle.stg_redundant.specs.Levelled.{IsLevelled}
use Rattle.stg_redundant.specs.Watching.{AreWatched, KeepsRedundant, IsNearPlace, IsNewPlace, IsInReach, HasLinkAmong, HasOtherAmong, HasBesides}
use Rattle.stg_redundant.proofs.RedundantEdits.{redundant_kept, redundant_more, redundant_added, flags-without_place, flags-without_trans, flags-contracted}
use Rattle.stg_redundant.proofs.LevelsLast.{levelled-without_place, levelled-without_trans, levelled-contracted}
use Rattle.stg_redundant.proofs.WatchLists.{live_are_watched}
use Rattle.stg_redundant.proofs.StillWatched.{watched-without_place, watched-without_trans, watched-contracted}
use Rattle.stg_derive.specs.declared.watches.Watches.{Watches}
use Rattle.stg_derive.specs.Steps.{HasNoRedundantPlace}
use Rattle.stg_derive.specs.inner.Watching.{IsWatching}

-- so it is after the deletion of a place
pub watching-without_place : (g : Graph) (p : ℕ) (v w : Watches) → IsCalm g → IsWatching g v → w.levels ≡ v.levels → w.places ≡ v.places
    → FlagsMore v.redundant w.redundant → ((u : ℕ) → HasArc g u p → IsFlaggedWithSame (without_place g p) w.redundant u)
    → WeighsDummies (without_place g p) v.dummies w.dummies → ((u : ℕ) → HasArc g u p → IsWeighed (without_place g p) w.dummies u) → IsWatching (without_place g p) w
watching-without_place g p v w calm old levels places flags flagged weighs weighed =
    let h = without_place g p in
    record {
      levelled = subst (IsLevelled h) (sym levels) (levelled-without_place g v.levels p old.levelled);
      places = subst (AreWatched h) (sym places) (watched-without_place g v.places p old.places);
      redundant = flags-without_place g p w.redundant flagged (redundant_more g v.redundant w.redundant flags old.redundant);
      redundant_long = flags.as_long ∙ old.redundant_long;
      hopeful = hopeful-without_place g p v.dummies w.dummies weighs weighed calm.no_conflict old.hopeful;
      least = least-without_place g p v.dummies w.dummies weighs weighed old.least;
      long = weighs.as_long ∙ old.long;
    }

-- after that of a dummy
pub watching-without_trans : (g : Graph) (t : ℕ) (near : List ℕ) (v w : Watches) → HasNoRedundantPlace g → IsCalm g → IsWatching g v → w.levels ≡ v.levels → w.redundant ≡ v.redundant → ((p : ℕ) → IsNearPlace g t p → Contains near p)
    → HasBesides (IsInReach (without_trans g t) (Contains near) (HasLinkAmong (without_trans g t) (Contains near))) v.places w.places → WeighsDummies (without_trans g t) v.dummies w.dummies → ((u : ℕ) → AreNeighbours g t u → IsWeighed (without_trans g t) w.dummies u) → IsWatching (without_trans g t) w
watching-without_trans g t near v w none calm old levels redundant all_near places weighs weighed =
    let h = without_trans g t in
    record {
      levelled = subst (IsLevelled h) (sym levels) (levelled-without_trans g v.levels t old.levelled);
      places = watched-without_trans g t near v.places w.places none all_near places;
      redundant = subst (FlagsRedundant h) (sym redundant) (flags-without_trans g t v.redundant old.redundant);
      redundant_long = ap length redundant ∙ old.redundant_long ∙ sym (length-set g.trans t None);
      hopeful = hopeful-without_trans g t v.dummies w.dummies weighs weighed calm.no_conflict old.hopeful;
      least = least-without_trans g t v.dummies w.dummies weighs weighed old.least;
      long = weighs.as_long ∙ old.long ∙ sym (length-set g.trans t None);
    }

-- and after a contraction
pub watching-contracted : (g : Graph) (t first : ℕ) (had_other : Bool) (v w : Watches) → IsWeightlessPastLast g → IsWeightlessWhereRemoved g → IsCandidate g t → HasNoRedundantPlace g → IsCalm g → IsWatching g v → w.levels ≡ v.levels → first ≡ length g.places → (HasOtherAmong g (IsNearPlace g t) → IsTrue had_other)
    → FlagsMore v.redundant w.redundant → ((u : ℕ) → AreNeighbours g t u → IsFlaggedWithSame (contracted g t) w.redundant u)
    → HasBesides (IsInReach (contracted g t) (IsNewPlace first) (HasLinkAmong (contracted g t) (IsNewPlace first) × IsTrue had_other)) v.places w.places → WeighsDummies (contracted g t) v.dummies w.dummies → ((u : ℕ) → AreNeighbours g t u → IsWeighed (contracted g t) w.dummies u) → IsWatching (contracted g t) w
watching-contracted g t first had_other v w narrow weightless candidate none calm old levels first_is other flags flagged places weighs weighed =
    let h = contracted g t in
    let secure = candidate.contractible.contraction in
    record {
      levelled = subst (IsLevelled h) (sym levels) (levelled-contracted g v.levels t narrow weightless secure.secure old.levelled);
      places = watched-contracted g t first had_other v.places w.places narrow secure.pure_ordinary none first_is other places;
      redundant = flags-contracted g t w.redundant flagged (redundant_more g v.redundant w.redundant flags old.redundant);
      redundant_long = flags.as_long ∙ old.redundant_long ∙ sym (length-set g.trans t None);
      hopeful = hopeful-contracted g t v.dummies w.dummies weighs weighed calm.no_conflict old.hopeful;
      least = least-contracted g t v.dummies w.dummies weighs weighed old.least;
      long = weighs.as_long ∙ old.long ∙ sym (length-set g.trans t None);
    }

-- a search keeps what is enough
pub watching_places : (g : Graph) (w : Watches) (new : List ℕ) → IsWatching g w → KeepsRedundant g w.places new → IsWatching g (record w { places = new })
watching_places g w new old keeps = record {
  levelled = old.levelled;
  places = λ p r. elim (keeps p (old.places p r)) [ inl c ↦ c | inr none ↦ absurd (none r) ];
  redundant = old.redundant;
  redundant_long = old.redundant_long;
  hopeful = old.hopeful;
  least = old.least;
  long = old.long;
}

pub watching_redundant : (g : Graph) (w : Watches) (new : List Bool) → IsWatching g w → DropsUseful g w.redundant new → IsWatching g (record w { redundant = new })
watching_redundant g w new old drops = record {
  levelled = old.levelled;
  places = old.places;
  redundant = redundant_kept g w.redundant new drops old.redundant;
  redundant_long = drops.as_long ∙ old.redundant_long;
  hopeful = old.hopeful;
  least = old.least;
  long = old.long;
}

-- all is enough
pub watching_all : (g : Graph) (w : Watches) → IsLevelled g w.levels → w.places ≡ live_places g → length w.redundant ≡ length g.trans → ((t : ℕ) → IsDummy g t → IsFlagged w.redundant t) → length w.dummies ≡ length g.trans → ((t : ℕ) → IsWeighed g w.dummies t) → IsWatching g w
watching_all g w levelled places redundant_long flagged long weighed = record {
  levelled = levelled;
  places = subst (AreWatched g) (sym places) (live_are_watched g);
  redundant = redundant_added g w.redundant flagged;
  redundant_long = redundant_long;
  hopeful = hopeful_weighed g w.dummies weighed;
  least = all_least g w.dummies weighed;
  long = long;
}
