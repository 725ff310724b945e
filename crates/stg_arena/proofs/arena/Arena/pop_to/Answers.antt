use Rattle.std.proofs.Common.{arith}
use Rattle.stg_arena.proofs.LayoutTruncate.{truncation_starts, pop_on}
use Rattle.stg_arena.proofs.arena.Arena.pop_to.Goals as goal

pub loop-self-init : goal.loop-self-init
loop-self-init c = λ n can. truncation_starts n c.args.cells c.args.self.now can

pub pop_last-requires-clause-can : goal.pop_last-requires-clause-can
pop_last-requires-clause-can c = (c.requires.0, (c.loop-self.invariant c.requires.0 c.requires.1).can)

pub loop-self-preserved : goal.loop-self-preserved
loop-self-preserved c = λ n can. pop_on n c.args.cells c.args.self.now c.loop-self.self c.pop_last.new.self (c.loop-self.invariant n can) (omega (arith, c.count_cells.ensures.value, c.loop-self-test.true)) c.pop_last.ensures.arena.timed c.pop_last.ensures.popped

pub returns-clause-cells : goal.returns-clause-cells
returns-clause-cells c = omega (arith, (c.loop-self.invariant c.requires.0 c.requires.1).can.kept, c.count_cells.ensures.value, c.loop-self-test.false)
