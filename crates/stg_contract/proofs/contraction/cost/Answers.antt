use Rattle.std.proofs.Common.{arith}
use Rattle.stg_contract.proofs.PlaceSums.{new_arcs-round}
use Rattle.stg_contract.proofs.contraction.cost.Goals as goal

pub returns-clause-arcs : goal.returns-clause-arcs
returns-clause-arcs c = omega (arith, new_arcs-round c.args.editor.now.now c.args.t, c.arcs_round.ensures, c.min-arcs.ensures)
