use Rattle.std.proofs.Common.{◌≡◌, ◌<◌, ◌≤◌, ℕ, length}
use Rattle.stg_contract.specs.WatchedDummies.{least_places}
use Rattle.stg_contract.specs.inner.Watches.{unweighed}
use Rattle.stg_contract.proofs.cheapest.forget_places.Given as goal

abbrev pub invariant-loop-t : goal.invariant-loop-t
invariant-loop-t l = record {
  long : length l.least ≡ length l.initial.least;
  done : (u : ℕ) → u < l.t → least_places l.least u ≡ unweighed (least_places l.initial.least u);
  left : (u : ℕ) → l.t ≤ u → least_places l.least u ≡ least_places l.initial.least u;
}
