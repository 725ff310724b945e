use Rattle.stg_conflict.proofs.Within.{clash_within}
use Rattle.desij.proofs.answer.refuse_by_clash.Goals as goal

pub clash_text-requires : goal.clash_text-requires
clash_text-requires c =
    let there = clash_within c.args.spec.now.net c.args.clash c.requires.least.clash in
    record { first = there.t1; second = there.t2; place = there.place }
