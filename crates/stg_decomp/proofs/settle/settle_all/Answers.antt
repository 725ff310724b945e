use Rattle.std.proofs.Common.{◌≡◌, List, length, map, subst}
use Rattle.std.specs.List.{range_with_len}
use Rattle.stg_derive.specs.declared.part.Part.{Part}
use Rattle.stg_decomp.specs.Settled.{settled_part}
use Rattle.stg_decomp.proofs.Replaced.{nets_long, replaced_settled, settled_writable}
use Rattle.stg_decomp.proofs.settle.settle_all.Goals as goal

pub replace_nets-requires : goal.replace_nets-requires
replace_nets-requires c =
    let nets = c.in_ok-nets.nets in
    let P : List Part → Type 0 = λ d. nets ≡ map (λ i. (settled_part d i).net) (range_with_len 0 (length d)) in
    nets_long c.args.derived nets (subst P c.as_slice.ensures c.in_ok-nets.ensures.nets)

pub returns-clause-parts : goal.returns-clause-parts
returns-clause-parts c =
    let nets = c.in_ok-nets.nets in
    let P : List Part → Type 0 = λ d. nets ≡ map (λ i. (settled_part d i).net) (range_with_len 0 (length d)) in
    replaced_settled c.args.derived c.in_ok-parts.parts nets (subst P c.as_slice.ensures c.in_ok-nets.ensures.nets) c.in_ok-parts.ensures

pub returns-clause-writable : goal.returns-clause-writable
returns-clause-writable c =
    let nets = c.in_ok-nets.nets in
    let P : List Part → Type 0 = λ d. nets ≡ map (λ i. (settled_part d i).net) (range_with_len 0 (length d)) in
    let e : P c.args.derived = subst P c.as_slice.ensures c.in_ok-nets.ensures.nets in
    settled_writable c.args.derived c.in_ok-parts.parts nets c.in_ok-nets.ensures.writable (nets_long c.args.derived nets e) c.in_ok-parts.ensures
