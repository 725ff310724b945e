use Rattle.std.proofs.Common.{◌≡◌, ◌<◌, ◌-◌, ℕ, false, length, get_or, ap, ◌∙◌, arith}
use Rattle.stg_net.proofs.Weights.{share}
use Rattle.stg_token.proofs.Passes.{arc_at, taken_at, length-taken, dropped}
use Rattle.stg_token.proofs.game.take_all.Goals as goal

pub loop-arc-preserved : goal.loop-arc-preserved
loop-arc-preserved c =
    let items = c.args.arcs.now in
    let i = c.loop-arc.arc-index in
    let m = c.loop-arc.m in
    let a = arc_at items i in
    let t = c.args.t in
    let inside : i < length items = c.loop-arc-test.true in
    let there : a.place < length m = omega (arith, c.requires.places i a inside, c.loop-arc.invariant.long) in
    let at : (p : ℕ) → get_or c.take.new.m p 0 ≡ get_or m p 0 - share false t p a = λ p. ap (λ xs. get_or xs p 0) c.take.ensures ∙ taken_at t a m p there in
    record {
      long = ap length c.take.ensures ∙ length-taken t a m ∙ c.loop-arc.invariant.long;
      held = λ p. omega (arith, at p, dropped items i false t p inside, c.loop-arc.invariant.held p);
      tokens = λ p. omega (arith, at p, dropped items i false t p inside, c.loop-arc.invariant.tokens p, c.loop-arc.invariant.held p);
    }
