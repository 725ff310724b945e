use Rattle.std.proofs.Common.{sym, ap, subst, ◌∙◌}
use Rattle.stg_net.specs.Contraction.{contracted}
use Rattle.stg_contract.specs.Calm.{IsCalm}
use Rattle.stg_contract.specs.inner.Judging.{IsFarEnough}
use Rattle.stg_contract.specs.inner.Searches.{IsLeastClashOf, least_at_left}
use Rattle.stg_contract.proofs.ContractedClashes.{far_least, near_least}
use Rattle.stg_contract.proofs.clash.find_clash.Goals as goal

pub returns-in-Near : goal.returns-in-Near
returns-in-Near c =
    let g = c.args.editor.now.now in
    let t = c.args.t in
    let calm : IsCalm g = subst (λ r. IsFarEnough r g) c.in-Near.is c.requires.reach in
    subst (IsLeastClashOf (contracted g t)) (sym c.least_round-least.ensures) (near_least g t c.requires.dummy calm.no_conflict)

pub returns-in-Far : goal.returns-in-Far
returns-in-Far c =
    let g = c.args.editor.now.now in
    let t = c.args.t in
    subst (IsLeastClashOf (contracted g t)) (sym (c.least_at_left.ensures ∙ ap (λ o. least_at_left g t o) c.least_round-least.ensures)) (far_least g t c.requires.dummy)
