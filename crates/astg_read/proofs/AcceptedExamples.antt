-- A worked text, whose arcs don't come in the order of a net, stands for one specification.
use Rattle.std.specs.Prelude.{ℕ, List, codes, refl}
use Rattle.std.proofs.Common.{arith}
use Rattle.stg_net.specs.declared.limits.Limits.{Limits}
use Rattle.astg_read.specs.ReadLimits.{AreLimits}
use Rattle.astg_read.specs.Laws.{StandsForOne}
use Rattle.astg_read.proofs.Accepted.{accepted_stands}

abbrev limits : Limits
limits = record { bytes = 200; signals = 9; trans = 9; places = 9; arcs = 9; weight = 9 }

are_limits : AreLimits limits
are_limits = record { bytes = omega arith; signals = omega arith; trans = omega arith; places = omega arith; arcs = omega arith; weight = omega arith; least = omega arith }

-- a+ gives to q and takes from p, and x+ takes from q
abbrev text : List ℕ
text = codes ".inputs a\n.outputs x\n.graph\na+ q\np a+\nq x+\n.marking { p }\n.end\n"

stands : StandsForOne limits text
stands = accepted_stands limits text _ are_limits refl
