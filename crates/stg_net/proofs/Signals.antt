-- The signals of a net are told apart by their names.
use Rattle.std.proofs.Common.{◌≡◌, ℕ, ◌<◌, length, []}
use Rattle.stg_net.specs.declared.signal.Signal.{Signal}
use Rattle.stg_net.specs.Net.{NetLists, IsNet, signal_at}
use Rattle.stg_net.proofs.Pairs.{same_place}

-- signals of one name are one
pub one_signal : (n : NetLists) (s r : ℕ) → IsNet n → s < length n.signals → r < length n.signals → (signal_at n.signals s).name ≡ (signal_at n.signals r).name → s ≡ r
one_signal n s r net low high same = same_place (λ (x : Signal). x.name) n.signals net.signal_names (signal_at [] 0) s r low high same
