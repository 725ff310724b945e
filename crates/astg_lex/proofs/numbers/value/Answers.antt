use Rattle.std.proofs.Common.{◌≤◌, ◌^◌, ℕ, arith}
use Rattle.std.proofs.Math.Nat.{pow-le-pow_right}
use Rattle.astg_lex.proofs.numbers.value.Goals as goal

-- a power of ten with few zeros
tens : (i : ℕ) → i ≤ 8 → 10 ^ i ≤ 100000000
tens i few = pow-le-pow_right (omega arith) few

pub overflow_mul-n : goal.overflow_mul-n
overflow_mul-n c = omega (arith, c.loop-c.invariant.small, tens c.loop-c.c-index (omega (arith, c.loop-c-test.true, c.requires.bounded)))

pub overflow_add-n : goal.overflow_add-n
overflow_add-n c = omega (arith, c.loop-c.invariant.small, tens c.loop-c.c-index (omega (arith, c.loop-c-test.true, c.requires.bounded)), c.type_inv.digits c.loop-c.c-index)
