use Rattle.std.proofs.Common.{List, ℕ, ap, ◌∙◌, take, drop, Option, length, ◌-◌, arith, length-drop}
use Rattle.std.specs.Io.KnownBytes.{append_known}
use Rattle.desk_http.proofs.WriteLemmas.{written_more}
use Rattle.desk_http.proofs.writing.write_all.Goals as goal

pub loop-at-preserved : goal.loop-at-preserved
loop-at-preserved g c =
    record {
      written = c.in_ok-at.ensures.taken
          ∙ ap (λ (w : Option (List ℕ)). append_known w (take c.in_ok-at.field-0 (take (length c.args.bytes.now - c.loop-at.at) (drop c.loop-at.at c.args.bytes.now)))) c.loop-at.invariant.written
          ∙ written_more (g.L.Link.seen c.args.link.now).written c.args.bytes.now c.loop-at.at c.in_ok-at.field-0;
      inside = omega (arith, c.in_ok-at.ensures.within, length-drop c.loop-at.at c.args.bytes.now);
      broken = c.in_ok-at.ensures.same ∙ c.loop-at.invariant.broken;
      later = omega (arith, c.in_ok-at.ensures.cause.later);
    }
