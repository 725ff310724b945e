use Rattle.std.proofs.Common.{◌∷◌, sym, subst, ◌∙◌, length, List, Option, ℕ, ◌<◌}
use Rattle.std.specs.List.Sorted.{IsPermutation}
use Rattle.stg_contract.proofs.WatchSteps.{kept_queue}
use Rattle.stg_contract.proofs.watch.DummyWatch.keep.Goals as goal

pub invariant_of-self-2 : goal.invariant_of-self-2
invariant_of-self-2 c =
    let t = c.args.t in
    let low : t < length c.self.inside.least.items = subst (λ (w : List (Option ℕ)). t < length w) (sym c.self.view_is) c.requires in
    kept_queue c.self.inside.least.items t c.args.places c.self.inside.queue c.push.new.self c.self.invariant low
    (subst (λ waiting. IsPermutation ((c.args.places, t) ∷ waiting) c.push.new.self.waiting) c.reserve.ensures.waiting c.push.ensures.waiting)
    (c.push.ensures.aside ∙ c.reserve.ensures.aside)
