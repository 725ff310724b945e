-- A net under construction: its limits, and its lists so far, with the
-- arcs in the order in which they came.
use Rattle.std.specs.Prelude.{◌≡◌, ℕ, [], ◌∷◌, ◌++◌, Result, IfErr, slice_set, ◌⊎◌}
use Rattle.stg_net.specs.declared.signal.Signal.{Signal}
use Rattle.stg_net.specs.declared.trans.TransName.{TransName}
use Rattle.stg_net.specs.declared.arc.NetArc.{NetArc}
use Rattle.stg_net.specs.declared.limits.Limits.{Limits}
use Rattle.stg_net.specs.declared.builder.BuildError.{BuildError}
use Rattle.stg_net.specs.declared.builder.BuildError.TheVariants.{NoMemory}
use Rattle.stg_net.specs.Net.{NetLists}

-- what has been added so far, and the limits
pub record Building : Type 0 where
  pub limits : Limits
  pub lists : NetLists

-- the two arcs have the same place, transition and direction
pub record HasEnds (a b : NetArc) : Type 0 where
  pub same_place : b.place ≡ a.place
  pub same_trans : b.trans ≡ a.trans
  pub same_way : b.into ≡ a.into

-- an error is this one or want of memory
abbrev pub OnlyErr : {T : Type 0} → BuildError → Result T BuildError → Type 0
OnlyErr full r = IfErr r (λ e. (e ≡ full) ⊎ (e ≡ NoMemory))

-- nothing has been added
abbrev pub empty_building : Limits → Building
empty_building l =
    record { limits = l; lists = record { signals = []; trans = []; tokens = []; arcs = [] } }

-- the signal is added last
abbrev pub with_signal : Building → Signal → Building
with_signal d s = record d { lists = record (d.lists) { signals = d.lists.signals ++ s ∷ [] } }

-- the transition is added last
abbrev pub with_trans : Building → TransName → Building
with_trans d t = record d { lists = record (d.lists) { trans = d.lists.trans ++ t ∷ [] } }

-- a place with so many tokens is added last
abbrev pub with_place : Building → ℕ → Building
with_place d k = record d { lists = record (d.lists) { tokens = d.lists.tokens ++ k ∷ [] } }

-- the arc is added last
abbrev pub with_arc : Building → NetArc → Building
with_arc d a = record d { lists = record (d.lists) { arcs = d.lists.arcs ++ a ∷ [] } }

-- the place has so many tokens
abbrev pub with_tokens : Building → ℕ → ℕ → Building
with_tokens d p k = record d { lists = record (d.lists) { tokens = slice_set d.lists.tokens p k } }
