use Rattle.std.proofs.Common.{subst}
use Rattle.std.proofs.lemmas.Bool.{false≢true}
use Rattle.stg_contract.specs.Calm.{IsCalm}
use Rattle.stg_contract.specs.inner.Judging.{IsFarEnough}
use Rattle.stg_contract.proofs.ContractedSizes.{none_large}
use Rattle.stg_contract.proofs.large.is_large_left.Goals as goal

pub returns-in-Near : goal.returns-in-Near
returns-in-Near c =
    let g = c.args.editor.now.now in
    let calm : IsCalm g = subst (λ r. IsFarEnough r g) c.in-Near.is c.requires.reach in
    (λ e. absurd (false≢true e), λ l. absurd (none_large g c.args.t calm.within l))
