use Rattle.std.proofs.Common.{ap, arith}
use Rattle.stg_contract.specs.inner.Counts.{arcs_at_each}
use Rattle.stg_contract.proofs.PlaceSums.{arcs_split}
use Rattle.stg_contract.proofs.arcs.arcs_but_round.Goals as goal

pub arcs_at_each-before-requires : goal.arcs_at_each-before-requires
arcs_at_each-before-requires c = c.takes.ensures.live

pub arcs_at_each-after-requires : goal.arcs_at_each-after-requires
arcs_at_each-after-requires c = c.gives.ensures.live

pub overflow_sub-result : goal.overflow_sub-result
overflow_sub-result c =
    let g = c.args.editor.now.now in
    let before = c.arcs_at_each-before.ensures in
    omega (arith, before, ap (arcs_at_each g) c.takes.ensures.value, c.arcs.ensures, c.requires.bounded, arcs_split g c.args.t c.requires.pure.pure)

pub overflow_sub-result-2 : goal.overflow_sub-result-2
overflow_sub-result-2 c =
    let g = c.args.editor.now.now in
    omega (
      arith,
      c.arcs_at_each-before.ensures,
      ap (arcs_at_each g) c.takes.ensures.value,
      c.arcs_at_each-after.ensures,
      ap (arcs_at_each g) c.gives.ensures.value,
      c.arcs.ensures,
      c.requires.bounded,
      arcs_split g c.args.t c.requires.pure.pure,
    )

pub returns : goal.returns
returns c =
    let g = c.args.editor.now.now in
    omega (
      arith,
      c.arcs_at_each-before.ensures,
      ap (arcs_at_each g) c.takes.ensures.value,
      c.arcs_at_each-after.ensures,
      ap (arcs_at_each g) c.gives.ensures.value,
      c.arcs.ensures,
      c.requires.bounded,
      arcs_split g c.args.t c.requires.pure.pure,
    )
