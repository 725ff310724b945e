use Rattle.stg_contract.proofs.ContractedSizes.{pairs_small}
use Rattle.stg_contract.proofs.contraction.contract.Goals as goal

pub replace-requires-clause-sums : goal.replace-requires-clause-sums
replace-requires-clause-sums c = pairs_small c.args.editor.now.now c.args.t c.requires.contractible.contraction.pure_ordinary c.requires.contractible.within
