-- The limits within which a text can be read.
use Rattle.std.specs.Prelude.{◌≤◌}
use Rattle.stg_net.specs.declared.limits.Limits.{Limits}
use Rattle.stg_net.specs.declared.limits.TheConstants.Limits.{PART}

-- each limit is at most that of a component, and weights may be 1
pub record AreLimits (l : Limits) : Type 0 where
  pub bytes : l.bytes ≤ PART.bytes
  pub signals : l.signals ≤ PART.signals
  pub trans : l.trans ≤ PART.trans
  pub places : l.places ≤ PART.places
  pub arcs : l.arcs ≤ PART.arcs
  pub weight : l.weight ≤ PART.weight
  pub least : 1 ≤ l.weight
