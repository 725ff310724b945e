use Rattle.std.proofs.Common.{List, ℕ, ap, ◌∙◌, take, drop, Option, length, ◌-◌, arith, length-drop}
use Rattle.std.specs.Io.KnownBytes.{append_known}
use Rattle.desij.proofs.WriteLemmas.{written_more}
use Rattle.desij.proofs.printing.write_all.Goals as goal

pub loop-at-preserved : goal.loop-at-preserved
loop-at-preserved g c =
    let within = c.in_ok-at.ensures.within in
    record {
      written = c.in_ok-at.ensures.taken
          ∙ ap (λ (w : Option (List ℕ)). append_known w (take c.in_ok-at.field-0 (take (length c.args.bytes.now - c.loop-at.at) (drop c.loop-at.at c.args.bytes.now)))) c.loop-at.invariant.written
          ∙ written_more (g.K.Sink.seen c.args.sink.now).written c.args.bytes.now c.loop-at.at c.in_ok-at.field-0;
      inside = omega (arith, within.1, length-drop c.loop-at.at c.args.bytes.now);
      later = omega (arith, c.in_ok-at.ensures.cause.later);
    }
