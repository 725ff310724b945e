use Rattle.std.proofs.Common.{arith}
use Rattle.stg_steps.proofs.Lone.{lone_drop}
use Rattle.stg_steps.proofs.lines.drop_in.Goals as goal

pub returns-in-len1 : goal.returns-in-len1
returns-in-len1 c = lone_drop c.args.words.now c.args.row.now (omega (arith, c.in-len1.len_at_least)) (omega (arith, c.in-len1.len_below))
