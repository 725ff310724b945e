-- Parts whose records and steps can be written into a log.
use Rattle.std.specs.Prelude.{◌≡◌, ℕ, ◌<◌, ⊤, length, All}
use Rattle.stg_net.specs.Net.{NetLists, trans_at}
use Rattle.stg_contract.specs.declared.verdict.Verdict.{Verdict}
use Rattle.stg_contract.specs.declared.verdict.Verdict.TheVariants as verdict
use Rattle.stg_redundant.specs.declared.found.PlaceRule.{PlaceRule}
use Rattle.stg_redundant.specs.declared.found.PlaceRule.TheVariants as place_rule
use Rattle.stg_redundant.specs.declared.found.DummyRule.{DummyRule}
use Rattle.stg_redundant.specs.declared.found.DummyRule.TheVariants as dummy_rule
use Rattle.stg_derive.specs.declared.step.Step.{Step}
use Rattle.stg_derive.specs.declared.step.Step.TheVariants.{Contract, DropPlace, DropDummy}
use Rattle.stg_derive.specs.declared.part.Restore.{Restore}
use Rattle.stg_derive.specs.declared.part.Part.{Part}

-- the numbers in a log, but those of transitions, are below this one
abbrev pub log_limit : ℕ
log_limit = 1000000000

-- the verdict is against the contraction, its transitions are below the count, and its number is
-- below the limit
abbrev pub IsLoggableVerdict : ℕ → Verdict → Type 0
IsLoggableVerdict count verdict.Type1 = ⊥
IsLoggableVerdict count verdict.Type2 = ⊥
IsLoggableVerdict count verdict.Loop = ⊤
IsLoggableVerdict count verdict.Weight = ⊤
IsLoggableVerdict count verdict.Insecure = ⊤
IsLoggableVerdict count (verdict.Clash t u) = (t < count) × (u < count)
IsLoggableVerdict count (verdict.Places k) = k < log_limit
IsLoggableVerdict count verdict.Large = ⊤

-- the record is of a transition of its signal, and its verdict can be logged
pub record IsLoggableRecord (n : NetLists) (r : Restore) : Type 0 where
  pub there : r.trans < length n.trans
  pub signal_there : r.signal < length n.signals
  pub signal_is : r.signal ≡ (trans_at n.trans r.trans).signal
  pub verdict : IsLoggableVerdict (length n.trans) r.verdict

-- the place of the rule is below the limit
abbrev pub IsLoggablePlaceRule : PlaceRule → Type 0
IsLoggablePlaceRule (place_rule.Same q) = q < log_limit
IsLoggablePlaceRule place_rule.Loop = ⊤
IsLoggablePlaceRule place_rule.Shortcut = ⊤

-- the transition of the rule is below the count
abbrev pub IsLoggableDummyRule : ℕ → DummyRule → Type 0
IsLoggableDummyRule count dummy_rule.Loop = ⊤
IsLoggableDummyRule count (dummy_rule.Same u) = u < count

-- the transitions of the step are below the count, and its other numbers below the limit
abbrev pub IsLoggableStep : ℕ → Step → Type 0
IsLoggableStep count (Contract t secure places) = (t < count) × (places < log_limit)
IsLoggableStep count (DropPlace found) = (found.place < log_limit) × IsLoggablePlaceRule found.rule
IsLoggableStep count (DropDummy found) =
    (found.trans < count) × IsLoggableDummyRule count found.rule

-- the records and the steps of the part can be logged
pub record IsLoggable (n : NetLists) (part : Part) : Type 0 where
  pub records : All (IsLoggableRecord n) part.restored
  pub steps : All (IsLoggableStep (length n.trans)) part.steps
