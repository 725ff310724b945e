use Rattle.std.proofs.Common.{◌<◌, ℕ, All, length, subst, arith}
use Rattle.std.proofs.lemmas.List.Elements.{All-tail}
use Rattle.stg_redundant.proofs.LevelBounds.{below_more}
use Rattle.stg_redundant.proofs.levels.most_of.Goals as goal

pub loop-t-preserved : goal.loop-t-preserved
loop-t-preserved c =
    let numbers = c.args.numbers.now in
    let x : ℕ × ℕ = (c.in-Some.t, c.in-Some.field-0-1) in
    let left = c.next.new.self in
    let steps = c.in-Some.ensures.steps in
    let Within : ℕ × ℕ → Type 0 = λ x. x.0 < length numbers in
    record {
      in_range = All-tail Within x left (subst (All Within) steps c.loop-t.invariant.in_range);
      below = below_more numbers c.args.rise c.loop-t.most c.max-most.result x c.loop-t.t-iterator left c.args.trans steps (omega (arith, c.max-most.ensures)) (omega (arith, c.max-most.ensures)) c.loop-t.invariant.below;
    }
