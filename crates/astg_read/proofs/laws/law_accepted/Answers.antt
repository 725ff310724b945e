use Rattle.astg_read.proofs.Accepted.{accepted_stands}
use Rattle.astg_read.proofs.laws.law_accepted.Goals as goal

pub returns : goal.returns
returns c = accepted_stands
