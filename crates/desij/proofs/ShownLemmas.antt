-- What refuses a partition names signals and a place of the net.
use Rattle.std.proofs.Common.{◌≡◌, ℕ, ◌<◌, true, false, arith, List, length, subst}
use Rattle.std.proofs.lemmas.Bool.{and_parts}
use Rattle.stg_net.specs.Net.{NetLists, IsNet}
use Rattle.stg_net.specs.declared.arc.NetArc.{NetArc}
use Rattle.stg_laws.specs.Groups.{signal_of, takes_from}
use Rattle.stg_laws.proofs.SignalConflicts.{driven_there, taker}
use Rattle.stg_partition.proofs.Leading.{signal_there}
use Rattle.stg_partition.specs.declared.error.GroupError.{GroupError}
use Rattle.stg_partition.specs.declared.error.GroupError.TheVariants as group_error
use Rattle.stg_partition.specs.Partition.{IsRefusedPartition}
use Rattle.desij.specs.inner.Shown.{IsShown}

-- a signal whose transition takes from a place is one of the net, and so is the place
pub record AreThere (n : NetLists) (x p : ℕ) : Type 0 where
  pub signal : x < length n.signals
  pub place : p < length n.tokens

takers_there : (n : NetLists) (x place : ℕ) → IsNet n → takes_from n x place ≡ true → AreThere n x place
takers_there n x place net e =
    let t = taker n x place e in
    let d : NetArc = record { place = 0; trans = 0; into = false; weight = 1 } in
    let signal : signal_of n t.arc < length n.signals = subst (λ a. signal_of n a < length n.signals) (t.arc_is d) (signal_there n t.at d net t.inside) in
    let there : t.arc.place < length n.tokens = subst (λ (a : NetArc). a.place < length n.tokens) (t.arc_is d) (net.arcs t.at d t.inside).place_there in
    record { signal = omega (arith, t.signal_is, signal); place = omega (arith, t.place_is, there) }

pub shown : (n : NetLists) (text : List ℕ) (e : GroupError) → IsNet n → IsRefusedPartition n text e → IsShown n e
shown n text (group_error.BadLine line) net refused = tt
shown n text (group_error.UnknownOutput line) net refused = tt
shown n text (group_error.OutputTwice line) net refused = tt
shown n text (group_error.OutputMissing s) net refused = driven_there n s (and_parts _ _ refused.least.missing).0
shown n text (group_error.SplitConflict x y place) net refused =
    let a = takers_there n x place net refused.least.split.x_takes in
    let b = takers_there n y place net refused.least.split.y_takes in
    (a.signal, (b.signal, a.place))
shown n text group_error.NoMemory net refused = refused
