use Rattle.std.proofs.Common.{refl}
use Rattle.stg_redundant.specs.Levelled.{Levelling}
use Rattle.stg_redundant.proofs.LevelBounds.{grow_more}
use Rattle.stg_redundant.proofs.levels.fall_of.Goals as goal

pub loop-p-preserved : goal.loop-p-preserved
loop-p-preserved c =
    let numbers = c.args.numbers.now in
    let old : Levelling = record { numbers = numbers; rise = c.args.rise; fall = c.loop-p.fall } in
    let new : Levelling = record { numbers = numbers; rise = c.args.rise; fall = c.in_ok-fall.fall } in
    grow_more c.args.editor.now.now old new c.loop-p.p refl refl c.in_ok-fall.ensures.more c.in_ok-fall.ensures.grows c.loop-p.invariant
