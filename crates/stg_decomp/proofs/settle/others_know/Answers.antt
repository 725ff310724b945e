use Rattle.std.proofs.Common.{rules, ◌≡◌, ◌<◌, ℕ, Bool, true, false, length, sym}
use Rattle.stg_decomp.specs.Settled.{knows_beside}
use Rattle.stg_decomp.proofs.Anys.{none_more, one_passes}
use Rattle.stg_decomp.proofs.settle.others_know.Goals as goal

pub returns-then-knows_beside : goal.returns-then-knows_beside
returns-then-knows_beside c =
    let test : ℕ → Bool = knows_beside c.args.parts.now c.args.i c.args.name.now in
    let pass : test c.loop-j.j ≡ true = search rules in
    let below : c.loop-j.j < length c.args.parts.now = search rules in
    sym (one_passes test (length c.args.parts.now) c.loop-j.j below pass)

pub loop-j-preserved : goal.loop-j-preserved
loop-j-preserved c =
    let test : ℕ → Bool = knows_beside c.args.parts.now c.args.i c.args.name.now in
    let fail : test c.loop-j.j ≡ false = search rules in
    none_more test c.loop-j.j c.loop-j.invariant fail
