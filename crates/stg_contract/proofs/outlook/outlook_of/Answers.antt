use Rattle.std.proofs.Common.{subst}
use Rattle.stg_contract.specs.Verdicts.{IsVerdict}
use Rattle.stg_contract.proofs.outlook.outlook_of.Goals as goal

pub returns-in-Clash : goal.returns-in-Clash
returns-in-Clash c m =
    let v = subst (IsVerdict c.args.editor.now.now c.args.t) c.in-Clash.is c.judge.ensures in
    m.no_conflict c.in-Clash.field-0 c.in-Clash.field-1 v.1.clashing.place v.1.clashing.clash.conflict
