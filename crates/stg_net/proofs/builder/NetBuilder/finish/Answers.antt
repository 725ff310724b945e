use Rattle.std.proofs.Common.{◌≡◌, map, ap, arith}
use Rattle.std.proofs.lemmas.Grind.{common_steps}
use Rattle.stg_net.specs.Building.{Building}
use Rattle.stg_net.specs.Builder.{entry_signal}
use Rattle.stg_net.proofs.Finished.{finished, finished_within}
use Rattle.stg_net.proofs.builder.NetBuilder.finish.Goals as goal

pub of-requires : goal.of-requires
of-requires c =
    let same : c.from_vec-2.result ≡ map entry_signal c.self.inside.signals.entries = grind (arith, common_steps) in
    rw (c.from_vec-3.ensures, c.from_vec-4.ensures, c.from_vec-5.ensures)
    (finished c.self.inside c.from_vec-2.result c.sort.new.self.items c.self.invariant same c.in_ok-sort.ensures.permutation c.in_ok-sort.ensures.sorted)

pub returns-clause-within : goal.returns-clause-within
returns-clause-within c =
    let same : c.from_vec-2.result ≡ map entry_signal c.self.inside.signals.entries = grind (arith, common_steps) in
    let limits = ap (λ (d : Building). d.limits) c.self.view_is in
    rw (c.of.ensures, c.from_vec-3.ensures, c.from_vec-4.ensures, c.from_vec-5.ensures, ← limits)
    (finished_within c.self.inside c.from_vec-2.result c.sort.new.self.items c.self.invariant same c.in_ok-sort.ensures.permutation)
