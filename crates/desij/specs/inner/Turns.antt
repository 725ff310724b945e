-- How the turns of a run that serves go on, one link each.
use Rattle.std.specs.Prelude.{◌≡◌, ◌<◌, ℕ, false, List, [], ◌∷◌, ◌++◌, drop, Option, Some, IsSomeAnd}
use Rattle.io_shelf.specs.Doors.{Links, SeenDoors, SeenLink, first_link}
use Rattle.job_keeper.specs.declared.project.Project.{Project}
use Rattle.job_keeper.specs.Keeping.{SeenKeeper}
use Rattle.desij.specs.declared.status.Status.{Status}
use Rattle.desij.specs.declared.status.Status.TheVariants as status
use Rattle.desij.specs.Served.{AreServed, LeavesUntold, CannotServe, ServesAndTells, LacksMemoryToServe, SeenServer, DeclinesToServe}
use Rattle.desij.specs.Sitting.{IsServed}
use Rattle.desij_words.specs.Serving.{Serving}

-- the keeper tells these projects and can't fail, and the doors tell these links
pub record Stands (keeper : SeenKeeper) (doors : SeenDoors) (projects : List Project) (links : Links) : Type 0 where
  pub has_projects : keeper.projects ≡ Some projects
  pub never_fails : keeper.can_fail ≡ false
  pub faultless : keeper.faults ≡ 0
  pub has_links : doors.links ≡ Some links

-- one more link was served and finished
pub record HasNext (projects : List Project) (links : Links) (keeper : SeenKeeper) (doors : SeenDoors) : Type 0 where
  pub after : List Project
  pub done : SeenLink
  pub served : IsServed projects (first_link links.coming) done after
  pub stands : Stands keeper doors after (record links {
    coming = drop 1 links.coming;
    finished = links.finished ++ done ∷ [];
  })

-- so many links were served and finished
pub record HasServed (count : ℕ) (projects : List Project) (links : Links) (keeper : SeenKeeper) (doors : SeenDoors) : Type 0 where
  pub now : Links
  pub served : AreServed count projects links now
  pub stands : Stands keeper doors served.after now

-- from where keeper and doors stood: one more link was served
abbrev pub ServesNext : SeenKeeper → SeenDoors → SeenKeeper → SeenDoors → Type 0
ServesNext keeper doors keeper_now doors_now =
    (projects : List Project) (links : Links) → Stands keeper doors projects links
    → HasNext projects links keeper_now doors_now

-- so many links were served
abbrev pub ServesTurns : ℕ → SeenKeeper → SeenDoors → SeenKeeper → SeenDoors → Type 0
ServesTurns count keeper doors keeper_now doors_now =
    (projects : List Project) (links : Links) → Stands keeper doors projects links
    → HasServed count projects links keeper_now doors_now

-- fewer were served, and the doors stand after them
pub record HasStopped (count : ℕ) (projects : List Project) (links : Links) (doors : SeenDoors) : Type 0 where
  pub turns : ℕ
  pub fewer : turns < count
  pub now : Links
  pub is : doors.links ≡ Some now
  pub served : AreServed turns projects links now

abbrev pub StopsTurns : ℕ → SeenKeeper → SeenDoors → SeenDoors → Type 0
StopsTurns count keeper doors doors_now =
    (projects : List Project) (links : Links) → Stands keeper doors projects links
    → HasStopped count projects links doors_now

-- how a run ends that serves
abbrev pub EndsServing : Option Serving → Status → SeenServer → SeenServer → Type 0
EndsServing form status.Done old new = IsSomeAnd form (λ asked. ServesAndTells asked old new)
EndsServing form status.BadWords old new = DeclinesToServe form old new
EndsServing form status.PrintFault old new = LeavesUntold form old new
EndsServing form status.NoMemory old new = LacksMemoryToServe form old new
EndsServing form status.ServeFault old new = IsSomeAnd form (λ asked. CannotServe asked old new)
EndsServing form _ old new = ⊥
