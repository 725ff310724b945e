use Rattle.std.proofs.Common.{arith}
use Rattle.desk_http.proofs.desk.Desk.new.Goals as goal

pub invariant_of-result : goal.invariant_of-result
invariant_of-result g c = (
  c.in-Ok.ensures,
  omega (arith, c.resize.new.self.ok, c.in_ok-resize.ensures.len),
  c.in_ok-no_memory.ensures,
  c.in_ok-keeper_failed.ensures,
  c.requires.workers.0,
  c.requires.workers.1,
)
