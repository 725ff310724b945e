use Rattle.std.proofs.Common.{◌≡◌, map, take, slice_index}
use Rattle.stg_net.proofs.order.pick_tokens.Given as goal

abbrev pub invariant-loop-p : goal.invariant-loop-p
invariant-loop-p l = l.list ≡ map (slice_index l.tokens) (take l.p-index l.order)
