use Rattle.std.proofs.Common.{◌≡◌, ℕ, ◌<◌, length, slice_index, drop}
use Rattle.stg_net.specs.Ordered.{least_giver}
use Rattle.stg_net.proofs.order.find_givers.Given as goal

-- with the least so far in place of none, what is left gives the least of all
abbrev pub invariant-loop-arc : goal.invariant-loop-arc
invariant-loop-arc l = record {
  long : length l.keys ≡ length l.net.tokens;
  least : (p : ℕ) → p < length l.keys → least_giver (slice_index l.keys p) p (drop l.arc-index l.arc-items) ≡ least_giver l.none p l.arc-items;
}
