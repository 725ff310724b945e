use Rattle.std.proofs.Common.{◌<◌, IfSome, Option, subst, sym, arith}
use Rattle.stg_net.specs.Graph.{Graph}
use Rattle.stg_derive.specs.declared.step.Step.{Step}
use Rattle.stg_derive.specs.Steps.{IsPlainStep}
use Rattle.stg_derive.proofs.UnderWay.{left, step_less}
use Rattle.stg_derive.proofs.attempt.go_on.Goals as goal

pub loop-step-smaller : goal.loop-step-smaller
loop-step-smaller c =
    let u = c.loop-step.invariant.under_way in
    let now = c.loop-step.attempt.editor.now in
    let P : Option Step → Type 0 = λ o. IfSome o (IsPlainStep now) in
    let Q : Graph → Type 0 = λ g. left g < left now in
    let plain : IsPlainStep now c.in-Some.step = subst P c.in-Some.is c.in_ok-next_step.ensures.some in
    subst Q (sym c.in_ok-make_step-in-Some.ensures.now) (step_less now c.in-Some.step plain u.few (omega (arith, u.first, c.requires.within.places)))
