-- A sitting: the links that come are served one after the other, each from where the one before it
-- left the projects.
use Rattle.std.specs.Prelude.{◌≡◌, ◌⊎◌, ℕ, zero, suc, List, [], ◌∷◌, drop, Some}
use Rattle.std.specs.Io.KnownBytes.{append_known}
use Rattle.io_shelf.specs.Doors.{SeenLink, first_link}
use Rattle.io_shelf.specs.Outside.{Rose}
use Rattle.job_keeper.specs.declared.project.Project.{Project}
use Rattle.desk_http.specs.declared.reply.Reply.{Reply}
use Rattle.desk_http.specs.Answering.{memory_failure}
use Rattle.desk_http.specs.Serving.{Replies}

-- the machine's reply to the bytes that the link had left when it came, and the projects after it
pub record IsRepliedTo (before : List Project) (came : SeenLink) (reply : Reply) (after : List Project) : Type 0 where
  pub bytes : List ℕ
  pub left : came.left ≡ Some bytes
  pub replies : Replies bytes before (reply, after)

-- these bytes were written to the link since it came
abbrev pub IsWritten : List ℕ → SeenLink → SeenLink → Type 0
IsWritten bytes came done = done.written ≡ append_known came.written bytes

-- the machine's reply was written, and the projects are those after it
pub record IsAnswered (before : List Project) (came done : SeenLink) (after : List Project) : Type 0 where
  pub reply : Reply
  pub is : IsRepliedTo before came reply after
  pub written : IsWritten reply.text came done

-- it was written that memory ran out, and the projects are as before
pub record IsPutOff (before : List Project) (came done : SeenLink) (after : List Project) : Type 0 where
  pub same : after ≡ before
  pub written : IsWritten memory_failure.text came done

-- the count of the link's faults rose, and the projects are as before or those after the machine's
-- reply
pub record IsCutOff (before : List Project) (came done : SeenLink) (after : List Project) : Type 0 where
  pub rose : Rose came.faults done.faults
  pub projects : (after ≡ before) ⊎ ((reply : Reply) × IsRepliedTo before came reply after)

-- what became of a link and of the projects
abbrev pub IsServed : List Project → SeenLink → SeenLink → List Project → Type 0
IsServed before came done after =
    IsAnswered before came done after
    ⊎ (IsPutOff before came done after ⊎ IsCutOff before came done after)

-- The links that came are those that were finished, in the same order, and each was served. The
-- projects at the end are these.
abbrev pub IsSitting : List Project → List SeenLink → List SeenLink → List Project → Type 0
IsSitting before [] [] after = after ≡ before
IsSitting before [] (done ∷ finished) after = ⊥
IsSitting before (came ∷ coming) [] after = ⊥
IsSitting before (came ∷ coming) (done ∷ finished) after =
    (next : List Project) × IsServed before came done next × IsSitting next coming finished after

-- the first links that come; one without bytes stands for each that doesn't
abbrev pub first_links : ℕ → List SeenLink → List SeenLink
first_links zero coming = []
first_links (suc n) coming = first_link coming ∷ first_links n (drop 1 coming)
