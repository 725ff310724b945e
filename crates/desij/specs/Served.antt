-- What a run that serves does, for each status with which it ends.
use Rattle.std.specs.Prelude.{◌≡◌, ◌<◌, ◌⊎◌, ℕ, false, List, ◌++◌, drop, Option, None, Some, IsSome, codes, decimal}
use Rattle.io_shelf.specs.Doors.{Links, SeenDoors, SeenLink, links_at}
use Rattle.io_shelf.specs.Outside.{SeenSink, Rose}
use Rattle.job_keeper.specs.declared.project.Project.{Project}
use Rattle.job_keeper.specs.Keeping.{SeenVault, Stored, projects_under}
use Rattle.desij.specs.Run.{BreaksOff, Prints}
use Rattle.desij.specs.Sitting.{IsSitting, first_links}
use Rattle.desij_words.specs.Words.{usage}
use Rattle.desij_words.specs.Serving.{Serving}

-- all that is seen of the outside
pub record SeenServer : Type 0 where
  pub doors : SeenDoors
  pub vault : SeenVault
  pub sink : SeenSink

-- of these three
abbrev pub seen_server : SeenDoors → SeenVault → SeenSink → SeenServer
seen_server doors vault sink = record { doors = doors; vault = vault; sink = sink }

-- the line that tells how many connections were served
abbrev pub served_line : ℕ → List ℕ
served_line count = codes "served " ++ decimal count ++ codes "\n"

-- neither the doors nor the vault was called
pub record LeavesDoors (old new : SeenServer) : Type 0 where
  pub doors : new.doors ≡ old.doors
  pub vault : new.vault ≡ old.vault

-- The first links of those to come were served and finished, from these projects on.
pub record AreServed (count : ℕ) (projects : List Project) (before now : Links) : Type 0 where
  pub finished : List SeenLink
  pub after : List Project
  pub sitting : IsSitting projects (first_links count before.coming) finished after
  pub is : now ≡ record before {
    coming = drop count before.coming;
    finished = before.finished ++ finished;
  }

-- so many links came at the address, and were served over the file of the words, or none
abbrev pub ServesLinks : Serving → ℕ → Stored → Links → Links → Type 0
ServesLinks asked count stored before now =
    AreServed count (projects_under asked.database stored) (links_at asked.addr before) now

-- doors and vault tell what they hold, and the vault's keepers can't fail
pub record Tells (vault : SeenVault) (doors : SeenDoors) (stored : Stored) (links : Links) : Type 0 where
  pub has_stored : vault.stored ≡ Some stored
  pub never_fails : vault.keepers_fail ≡ false
  pub has_links : doors.links ≡ Some links

-- where doors and vault tell what they hold: all links that were asked for were served
abbrev pub ServesAll : Serving → SeenVault → SeenDoors → SeenDoors → Type 0
ServesAll asked vault old new =
    (stored : Stored) (before : Links) → Tells vault old stored before
    → (now : Links) × (new.links ≡ Some now) × ServesLinks asked asked.count stored before now

-- fewer links came at the address, and were served
pub record StopsEarly (asked : Serving) (stored : Stored) (before now : Links) : Type 0 where
  pub count : ℕ
  pub fewer : count < asked.count
  pub serves : ServesLinks asked count stored before now

-- where doors and vault tell what they hold: the links that came before a call failed were served
abbrev pub ServesSome : Serving → SeenVault → SeenDoors → SeenDoors → Type 0
ServesSome asked vault old new =
    (stored : Stored) (before : Links) → Tells vault old stored before
    → (now : Links) × (new.links ≡ Some now) × ((now ≡ before) ⊎ StopsEarly asked stored before now)

-- all were served, and the line was printed
pub record ServesAndTells (asked : Serving) (old new : SeenServer) : Type 0 where
  pub serves : ServesAll asked old.vault old.doors new.doors
  pub sink : Prints (served_line asked.count) old.sink new.sink

-- the words aren't of the form, the usage was printed, and neither doors nor vault was called
pub record DeclinesToServe (form : Option Serving) (old new : SeenServer) : Type 0 where
  pub no_form : form ≡ None
  pub doors : LeavesDoors old new
  pub sink : Prints usage old.sink new.sink

-- a call of the vault or of the doors failed, and nothing was printed
pub record CannotServe (asked : Serving) (old new : SeenServer) : Type 0 where
  pub rose : Rose old.vault.faults new.vault.faults ⊎ Rose old.doors.faults new.doors.faults
  pub serves : ServesSome asked old.vault old.doors new.doors
  pub sink : new.sink ≡ old.sink

-- the printing of the usage broke off
pub record CannotDecline (old new : SeenServer) : Type 0 where
  pub doors : LeavesDoors old new
  pub sink : BreaksOff usage old.sink new.sink

-- all were served, and the printing of the line broke off
pub record CannotTellServed (asked : Serving) (old new : SeenServer) : Type 0 where
  pub serves : ServesAll asked old.vault old.doors new.doors
  pub sink : BreaksOff (served_line asked.count) old.sink new.sink

-- what was to be printed broke off
abbrev pub LeavesUntold : Option Serving → SeenServer → SeenServer → Type 0
LeavesUntold None old new = CannotDecline old new
LeavesUntold (Some asked) old new = CannotTellServed asked old new

-- memory ran out, and nothing was printed
pub record LacksMemoryToServe (form : Option Serving) (old new : SeenServer) : Type 0 where
  pub has_form : IsSome form
  pub sink : new.sink ≡ old.sink

-- no count of faults rose
pub record NoFaultServing (old new : SeenServer) : Type 0 where
  pub doors : ¬ Rose old.doors.faults new.doors.faults
  pub vault : ¬ Rose old.vault.faults new.vault.faults
  pub sink : ¬ Rose old.sink.faults new.sink.faults
