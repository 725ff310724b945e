-- What is true of each draft.
use Rattle.std.specs.Prelude.{◌≡◌, ◌≢◌, ◌<◌, ◌≤◌, ◌^◌, ℕ, false, AllPairs, length, is_some}
use Rattle.stg_net.specs.declared.signal.Signal.{Signal}
use Rattle.stg_net.specs.Graph.{Graph, IsTrans, full_name_at, takes, gives}
use Rattle.stg_edit.specs.Editing.{Editing}

-- live transitions have names that differ
abbrev pub HasOwnNames : Graph → Type 0
HasOwnNames g = (t u : ℕ) → IsTrans g t → full_name_at g t ≡ full_name_at g u → t ≡ u

-- transitions that aren't live have no weights
abbrev pub IsWeightlessWhereRemoved : Graph → Type 0
IsWeightlessWhereRemoved g = (t p : ℕ) → t < length g.trans → is_some (full_name_at g t) ≡ false
    → (takes g t p ≡ 0) × (gives g t p ≡ 0)

-- nor have numbers past the last transition
abbrev pub IsWeightlessPastLast : Graph → Type 0
IsWeightlessPastLast g = (t p : ℕ) → length g.trans ≤ t → (takes g t p ≡ 0) × (gives g t p ≡ 0)

-- what is true of each editor's draft and signals
pub record IsDraft (e : Editing) : Type 0 where
  pub names_differ : AllPairs (λ (s t : Signal). s.name ≢ t.name) e.signals
  pub trans_differ : HasOwnNames e.now
  pub weightless : IsWeightlessWhereRemoved e.now
  pub narrow : IsWeightlessPastLast e.now
  pub signals_fit : length e.signals < 2 ^ 32
  pub trans_fit : length e.now.trans < 2 ^ 32
  pub places_fit : length e.now.places < 2 ^ 32
