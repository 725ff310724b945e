-- Transitions beside each other, and dummies that only numbers may keep from a contraction.
use Rattle.std.specs.Prelude.{◌<◌, ◌⊎◌, ℕ, Bool, true, false}
use Rattle.stg_net.specs.Graph.{Graph, takes, gives}
use Rattle.stg_net.specs.Contraction.{contracted}
use Rattle.stg_laws.specs.Conflict.{HasNoAutoConflict}
use Rattle.stg_contract.specs.declared.verdict.Verdict.{Verdict}
use Rattle.stg_contract.specs.declared.verdict.Verdict.TheVariants.{Type1, Type2, Loop, Weight, Insecure, Clash, Places, Large}
use Rattle.stg_contract.specs.Verdicts.{HasSecureContraction}

-- t takes from the place p or gives to it
abbrev pub HasArc : Graph → ℕ → ℕ → Type 0
HasArc g t p = (0 < takes g t p) ⊎ (0 < gives g t p)

-- t and u have an arc with one place
pub record AreNeighbours (g : Graph) (t u : ℕ) : Type 0 where
  pub place : ℕ
  pub one_arc : HasArc g t place
  pub other_arc : HasArc g u place

-- the contraction of t is secure and leaves no structural auto-conflict: only numbers of places,
-- arcs and tokens, or weights, may speak against it
pub record MayContract (g : Graph) (t : ℕ) : Type 0 where
  pub contraction : HasSecureContraction g t
  pub no_conflict : HasNoAutoConflict (contracted g t)

-- whether the verdict leaves it to numbers whether the dummy is contracted
abbrev pub is_open : Verdict → Bool
is_open Loop = false
is_open Weight = false
is_open Insecure = false
is_open (Clash u v) = false
is_open (Places n) = true
is_open Large = true
is_open Type1 = true
is_open Type2 = true
