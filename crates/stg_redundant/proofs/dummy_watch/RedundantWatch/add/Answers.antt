use Rattle.std.proofs.Common.{◌<◌, Bool, List, length, heap_items, subst, sym}
use Rattle.stg_redundant.proofs.FlagSteps.{waits_with}
use Rattle.stg_redundant.proofs.dummy_watch.RedundantWatch.add.Goals as goal

pub invariant_of-self-2 : goal.invariant_of-self-2
invariant_of-self-2 c =
    let t = c.args.t in
    let flags = c.self.inside.flags.items in
    let low : t < length flags = subst (λ (w : List Bool). t < length w) (sym c.self.view_is) c.requires in (
      waits_with flags (heap_items c.self.inside.waiting) (heap_items c.push.new.self) t c.self.invariant.0 low c.in_ok-push.ensures.permutation,
      c.in_ok-push.ensures.heap_order c.self.invariant.1,
    )
