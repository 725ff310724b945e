-- Whether a transition is a dummy.
use Rattle.std.specs.Prelude.{ℕ, Bool, true, false}
use Rattle.stg_net.specs.Graph.{Graph, IsDummy}

-- the answer to whether t is a dummy
abbrev pub IsDummyAt : Graph → ℕ → Bool → Type 0
IsDummyAt g t true = IsDummy g t
IsDummyAt g t false = ¬ IsDummy g t
