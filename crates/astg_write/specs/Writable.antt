-- The nets that can be written.
use Rattle.stg_net.specs.declared.limits.TheConstants.Limits.{PART}
use Rattle.stg_net.specs.Net.{NetLists, IsWithin}
use Rattle.stg_net.specs.Names.{IsWellNamed}

-- the net is within the limits of a component, and its names have their form
pub record IsWritable (n : NetLists) : Type 0 where
  pub within : IsWithin PART n
  pub named : IsWellNamed n
