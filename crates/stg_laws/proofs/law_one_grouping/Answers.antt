use Rattle.stg_laws.proofs.OneGrouping.{plain_groups-unique}
use Rattle.stg_laws.proofs.law_one_grouping.Goals as goal

pub returns : goal.returns
returns c = plain_groups-unique
