-- The forms in memory as contracts see them.
use Rattle.std.specs.Prelude.{◌≡◌, ℕ, Bool, false, nat_lt, List, length, Some}
use Rattle.io_shelf.specs.declared.calls.Calls.{Calls}
use Rattle.io_shelf.specs.Calls.{fresh_calls}
use Rattle.job_keeper.specs.declared.project.Project.{Project}
use Rattle.job_keeper.specs.Keeping.{SeenKeeper, SeenVault, Stored}

-- a keeper: its projects and its calls
pub record KeeperState : Type 0 where
  pub projects : List Project
  pub calls : Calls

-- a vault: what it has, its calls, and whether a keeper was asked for
pub record VaultState : Type 0 where
  pub stored : Stored
  pub asked : Bool
  pub calls : Calls

-- before any call
abbrev pub fresh_keeper : List Project → List ℕ → KeeperState
fresh_keeper projects fails = record { projects = projects; calls = fresh_calls fails }

-- before any call
abbrev pub fresh_vault : Stored → List ℕ → VaultState
fresh_vault stored fails = record { stored = stored; asked = false; calls = fresh_calls fails }

-- a call can fail where one is to
abbrev pub can_fail : Calls → Bool
can_fail calls = nat_lt 0 (length calls.fails)

-- where none can, none did
abbrev pub IsSure : Calls → Type 0
IsSure calls = can_fail calls ≡ false → calls.faults ≡ 0

-- a keeper tells all that it has
abbrev pub seen_keeper : KeeperState → SeenKeeper
seen_keeper k = record {
  projects = Some k.projects;
  can_fail = can_fail k.calls;
  faults = k.calls.faults;
}

-- so does a vault, whose keepers don't fail
abbrev pub seen_vault : VaultState → SeenVault
seen_vault v = record {
  stored = Some v.stored;
  keepers_fail = false;
  asked = v.asked;
  faults = v.calls.faults;
}
