-- Keepers and vaults as contracts see them: projects where a form tells them, and counts of the
-- calls that failed.
use Rattle.std.specs.Prelude.{◌≡◌, ◌≤◌, ℕ, Bool, true, false, List, [], Option, None, Some, Result, IsErrOf, if◌then◌else◌}
use Rattle.std.specs.Option.{option_map}
use Rattle.std.specs.Str.{bytes_eq}
use Rattle.io_shelf.specs.Outside.{Rose}
use Rattle.job_keeper.specs.declared.project.Project.{Project}
use Rattle.job_keeper.specs.declared.keeper.KeepError.{KeepError}
use Rattle.job_keeper.specs.declared.keeper.KeepError.TheVariants as keep_error
use Rattle.job_keeper.specs.Projects.{with_project, without_project}

-- a keeper: its projects, where told, whether a call can fail, and how many failed
pub record SeenKeeper : Type 0 where
  pub projects : Option (List Project)
  pub can_fail : Bool
  pub faults : ℕ

-- a count of faults never falls, and a call fails, but for want of memory, only where it rose
pub record HasKeepCause {T : Type 0} (before now : ℕ) (result : Result T KeepError) : Type 0 where
  pub later : before ≤ now
  pub failed : IsErrOf result keep_error.Failed → Rose before now

-- whether a call can fail stays as it was, and where none can, none failed
pub record IsAsSure (old new : SeenKeeper) : Type 0 where
  pub same : new.can_fail ≡ old.can_fail
  pub none_before : old.can_fail ≡ false → old.faults ≡ 0
  pub none_after : old.can_fail ≡ false → new.faults ≡ 0

-- the projects, where told, with one more, which stands last
abbrev pub with_last : Project → Option (List Project) → Option (List Project)
with_last project projects = option_map (λ (ps : List Project). with_project project ps) projects

-- the projects, where told, of other names
abbrev pub with_others : List ℕ → Option (List Project) → Option (List Project)
with_others name projects = option_map (λ (ps : List Project). without_project name ps) projects

-- what a vault has: projects under a file's name, or under none
pub record Stored : Type 0 where
  pub file : Option (List ℕ)
  pub projects : List Project

-- a vault: what it has, where told, whether a call of its keepers can fail, whether a keeper was
-- asked for, and how many calls failed
pub record SeenVault : Type 0 where
  pub stored : Option Stored
  pub keepers_fail : Bool
  pub asked : Bool
  pub faults : ℕ

-- the same file, or none twice
abbrev pub is_same_file : Option (List ℕ) → Option (List ℕ) → Bool
is_same_file None None = true
is_same_file None (Some file) = false
is_same_file (Some file) None = false
is_same_file (Some file) (Some other) = bytes_eq file other

-- the projects under a file's name: those of the vault under its own, and none under another
abbrev pub projects_under : Option (List ℕ) → Stored → List Project
projects_under file stored = if is_same_file file stored.file then stored.projects else []
