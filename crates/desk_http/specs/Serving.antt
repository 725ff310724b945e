-- What one connection does to the keeper and the link.
use Rattle.std.specs.Prelude.{◌≡◌, ◌≤◌, ◌⊎◌, ℕ, false, true, IsTrue, List, Option, Some, take}
use Rattle.std.specs.Io.KnownBytes.{append_known}
use Rattle.io_shelf.specs.Doors.{SeenLink}
use Rattle.io_shelf.specs.Outside.{Rose}
use Rattle.job_keeper.specs.declared.project.Project.{Project}
use Rattle.job_keeper.specs.Keeping.{SeenKeeper}
use Rattle.desk_http.specs.Answering.{Answer, IsAnswerTo, IsGiven, is_by_bytes, memory_failure, keeper_failure}
use Rattle.desk_http.specs.Asking.{Asks}
use Rattle.desk_http.specs.declared.asked.Asked.{Asked}
use Rattle.desk_http.specs.declared.reply.Reply.{Reply}
use Rattle.desk_http.specs.declared.served.Served.{Served}
use Rattle.desk_http.specs.declared.served.Served.TheVariants as served

-- The machine of replies: the bytes of a request and the projects give this answer, a reply and the
-- projects after it.
pub record Replies (bytes : List ℕ) (projects : List Project) (answer : Answer) : Type 0 where
  pub asked : Asked
  pub asks : Asks bytes asked
  pub answers : IsAnswerTo asked projects answer

-- all that is seen of the outside
pub record SeenConnection : Type 0 where
  pub keeper : SeenKeeper
  pub link : SeenLink

-- of these two
abbrev pub seen_connection : SeenKeeper → SeenLink → SeenConnection
seen_connection keeper link = record { keeper = keeper; link = link }

-- the projects after an answer with this reply to what was asked
pub record Leaves (asked : Asked) (reply : Reply) (before : List Project)
    (now : Option (List Project)) : Type 0 where
  pub after : List Project
  pub is : now ≡ Some after
  pub answers : IsAnswerTo asked before (reply, after)

-- What the request asks for is answered by this reply. Where the link tells its bytes, they ask for
-- it. Whether the keeper tells its projects or not, the reply is one to it over some projects, and
-- where the bytes decide it, the projects stay. Where the keeper tells, it is the reply over its own.
pub record IsMachines (reply : Reply) (old new : SeenConnection) : Type 0 where
  pub asked : Asked
  pub asks : (bytes : List ℕ) → old.link.left ≡ Some bytes → Asks bytes asked
  pub given : IsGiven asked reply
  pub by_bytes : IsTrue (is_by_bytes asked) → new.keeper.projects ≡ old.keeper.projects
  pub told : (projects : List Project) → old.keeper.projects ≡ Some projects
      → Leaves asked reply projects new.keeper.projects

-- memory ran out, and the projects are as before
pub record WantsMemory (reply : Reply) (old new : SeenConnection) : Type 0 where
  pub is : reply ≡ memory_failure
  pub kept : new.keeper.projects ≡ old.keeper.projects

-- the count of the keeper's faults rose, and the projects are as before
pub record LacksKeeper (reply : Reply) (old new : SeenConnection) : Type 0 where
  pub is : reply ≡ keeper_failure
  pub kept : new.keeper.projects ≡ old.keeper.projects
  pub rose : Rose old.keeper.faults new.keeper.faults

-- the reply that is made: the machine's, or that memory ran out or the keeper failed
abbrev pub IsReplyMade : Reply → SeenConnection → SeenConnection → Type 0
IsReplyMade reply old new = IsMachines reply old new ⊎ (WantsMemory reply old new ⊎ LacksKeeper reply old new)

-- a reply of this status was made, and written whole
pub record WritesReply (status : ℕ) (old new : SeenConnection) : Type 0 where
  pub reply : Reply
  pub is : IsReplyMade reply old new
  pub status_is : status ≡ reply.status
  pub written : new.link.written ≡ append_known old.link.written reply.text

-- a read failed: nothing was written, and the projects are as before
pub record BreaksInReading (old new : SeenConnection) : Type 0 where
  pub broken : new.link.broken ≡ true
  pub written : new.link.written ≡ old.link.written
  pub kept : new.keeper.projects ≡ old.keeper.projects

-- a write failed: a reply was made, and a prefix of it was written
pub record BreaksInWriting (old new : SeenConnection) : Type 0 where
  pub unbroken : new.link.broken ≡ old.link.broken
  pub reply : Reply
  pub is : IsReplyMade reply old new
  pub count : ℕ
  pub written : new.link.written ≡ append_known old.link.written (take count reply.text)

-- the count of the link's faults rose, in a read or in a write
pub record LosesLink (old new : SeenConnection) : Type 0 where
  pub rose : Rose old.link.faults new.link.faults
  pub turn : BreaksInReading old new ⊎ BreaksInWriting old new

-- what was done, by how it ended
abbrev pub Serves : SeenConnection → SeenConnection → Served → Type 0
Serves old new (served.Replied status) = WritesReply status old new
Serves old new served.LinkFault = LosesLink old new

-- The keeper's count of faults never falls. Whether a call of it can fail stays as it was, and where
-- none can and none did, none failed.
pub record StaysSure (old new : SeenKeeper) : Type 0 where
  pub later : old.faults ≤ new.faults
  pub same : new.can_fail ≡ old.can_fail
  pub none : old.can_fail ≡ false → old.faults ≡ 0 → new.faults ≡ 0
