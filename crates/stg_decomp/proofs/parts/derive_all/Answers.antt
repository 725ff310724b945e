use Rattle.std.proofs.Common.{◌≤◌, arith}
use Rattle.stg_laws.proofs.FeasibleGroups.{feasible_few}
use Rattle.stg_decomp.proofs.Meaning.{all_in_range}
use Rattle.stg_decomp.proofs.parts.derive_all.Goals as goal

pub work-requires-clause-few : goal.work-requires-clause-few
work-requires-clause-few g c = λ _ _. omega (arith, feasible_few c.args.spec.now.net c.args.groups.now c.requires.feasible, c.requires.within.signals)

pub work-requires-clause-in_range : goal.work-requires-clause-in_range
work-requires-clause-in_range g c = λ _ _. all_in_range c.args.spec.now.net c.args.groups.now c.requires.feasible

pub returns-clause-writable : goal.returns-clause-writable
returns-clause-writable g c = λ i d inside. record { within = c.in_ok-worked.ensures.within i d inside; named = c.in_ok-worked.ensures.named i d inside }
