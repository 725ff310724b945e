use Rattle.std.proofs.Common.{arith}
use Rattle.stg_net.specs.Contraction.{contracted}
use Rattle.stg_edit.specs.Counted.{count_arcs}
use Rattle.stg_contract.proofs.PlaceSums.{count_arcs-contracted, new_arcs-round}
use Rattle.stg_contract.proofs.ContractedSizes.{many_same}
use Rattle.stg_contract.proofs.arcs.has_many_arcs.Goals as goal

pub returns : goal.returns
returns c =
    let g = c.args.editor.now.now in
    let t = c.args.t in
    many_same c.saturating_add.result (count_arcs (contracted g t))
    (omega (arith, c.arcs_kept-kept.ensures, c.arcs_round.ensures, c.saturating_add.ensures, count_arcs-contracted g t, new_arcs-round g t))
