-- What is watched of a draft: enough to find its next step.
use Rattle.std.specs.Prelude.{◌≡◌, length}
use Rattle.stg_net.specs.Graph.{Graph}
use Rattle.stg_contract.specs.WatchedDummies.{WatchesHopeful, AreLeastPlaces}
use Rattle.stg_redundant.specs.Levelled.{IsLevelled}
use Rattle.stg_redundant.specs.FlaggedDummies.{FlagsRedundant}
use Rattle.stg_redundant.specs.Watching.{AreWatched}
use Rattle.stg_derive.specs.declared.watches.Watches.{Watches}

-- the levels are those of the draft; each redundant place is watched, each redundant dummy, and
-- each dummy that only numbers may keep from a contraction, with no more places than its contraction
-- makes
pub record IsWatching (g : Graph) (w : Watches) : Type 0 where
  pub levelled : IsLevelled g w.levels
  pub places : AreWatched g w.places
  pub redundant : FlagsRedundant g w.redundant
  pub redundant_long : length w.redundant ≡ length g.trans
  pub hopeful : WatchesHopeful g w.dummies
  pub least : AreLeastPlaces g w.dummies
  pub long : length w.dummies ≡ length g.trans
