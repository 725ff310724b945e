-- How a search for the cheapest candidate of a watch stands.
use Rattle.std.specs.Prelude.{◌≡◌, ◌==◌, ◌<◌, ◌⊎◌, ℕ, List, [], ◌∷◌, Option, Some, None, All, Contains, length, sum_by, if◌then◌else◌}
use Rattle.stg_net.specs.Graph.{Graph}
use Rattle.stg_edit.specs.Replacing.{new_places}
use Rattle.stg_contract.specs.declared.outlook.Outlook.{Outlook}
use Rattle.stg_contract.specs.declared.outlook.Outlook.TheVariants.{Ready, Open, Hopeless}
use Rattle.stg_contract.specs.Verdicts.{IsContractible}
use Rattle.stg_contract.specs.Neighbours.{MayContract}
use Rattle.stg_contract.specs.Candidates.{IsCandidate}
use Rattle.stg_contract.specs.WatchedDummies.{least_places, AreLeastPlaces, DropsHopeless}
use Rattle.stg_contract.specs.inner.Queues.{Queued}

-- what a verdict leaves to hope for
abbrev pub IsOutlook : Graph → ℕ → Outlook → Type 0
IsOutlook g t Ready = IsContractible g t
IsOutlook g t Open = MayContract g t × (¬ IsContractible g t)
IsOutlook g t Hopeless = ¬ MayContract g t

-- the entries are of numbers below n
abbrev pub AreEntriesBelow : ℕ → List (ℕ × ℕ) → Type 0
AreEntriesBelow n entries = All (λ (x : ℕ × ℕ). x.1 < n) entries

-- what is watched waits with the number of places that is kept for it, and nothing is put aside
pub record AreQueued (watch : List (Option ℕ)) (q : Queued) : Type 0 where
  pub listed : (t n : ℕ) → least_places watch t ≡ Some n → Contains q.waiting (n, t)
  pub below : AreEntriesBelow (length watch) q.waiting
  pub none_aside : q.aside ≡ []

-- a search in the draft g, which began with the watch `old`: what is watched now waits, or is put
-- aside as no candidate
pub record IsUnderWay (g : Graph) (old now : List (Option ℕ)) (waiting aside : List (ℕ × ℕ))
    : Type 0 where
  pub listed : (t n : ℕ) → least_places now t ≡ Some n
      → Contains waiting (n, t) ⊎ Contains aside (n, t)
  pub below : AreEntriesBelow (length now) waiting
  pub aside_below : AreEntriesBelow (length now) aside
  pub no_candidate : All (λ (x : ℕ × ℕ). ¬ IsCandidate g x.1) aside
  pub least : AreLeastPlaces g now
  pub drops : DropsHopeless g old now

-- 1 for an entry with the places that the contraction makes, and 2 for each other one
abbrev pub toil_of : Graph → ℕ × ℕ → ℕ
toil_of g x = if x.0 == new_places g x.1 then 1 else 2

-- what is left to do
abbrev pub toil : Graph → List (ℕ × ℕ) → ℕ
toil g waiting = sum_by (toil_of g) waiting

-- at least 0 places, for what is watched
abbrev pub unweighed : Option ℕ → Option ℕ
unweighed None = None
unweighed (Some n) = Some 0

-- the entry with 0 places
abbrev pub unweighed_entry : ℕ × ℕ → ℕ × ℕ
unweighed_entry x = (0, x.1)

-- the number is one of those of the entries
abbrev pub HasNumber : ℕ → List (ℕ × ℕ) → Type 0
HasNumber u [] = ⊥
HasNumber u (x ∷ xs) = (x.0 ≡ u) ⊎ HasNumber u xs
