use Rattle.stg_steps.proofs.OneLog.{read_ok, read_fault, read_all, refused_all}
use Rattle.stg_steps.proofs.read.read_steps.Goals as goal

pub returns-clause-ok : goal.returns-clause-ok
returns-clause-ok c =
    let spec = c.net-net.ensures.spec in
    read_ok c.args.spec.now.net c.args.text.now spec.is_net spec.well_named c.net-net.result.now c.net-net.ensures.net c.read_lines.result c.read_lines.ensures.ok

pub returns-clause-bad_line : goal.returns-clause-bad_line
returns-clause-bad_line c =
    let spec = c.net-net.ensures.spec in
    read_fault c.args.spec.now.net c.args.text.now spec.is_net spec.well_named c.net-net.result.now c.net-net.ensures.net c.read_lines.result c.read_lines.ensures.bad_line

pub returns-clause-read : goal.returns-clause-read
returns-clause-read c =
    let spec = c.net-net.ensures.spec in
    read_all c.args.spec.now.net c.args.text.now spec.is_net spec.well_named c.net-net.result.now c.net-net.ensures.net c.read_lines.result c.read_lines.ensures.ok c.read_lines.ensures.bad_line

pub returns-clause-refused : goal.returns-clause-refused
returns-clause-refused c =
    let spec = c.net-net.ensures.spec in
    refused_all c.args.spec.now.net c.args.text.now spec.is_net spec.well_named c.net-net.result.now c.net-net.ensures.net c.read_lines.result c.read_lines.ensures.ok c.read_lines.ensures.bad_line
