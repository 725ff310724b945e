use Rattle.std.proofs.Common.{arith}
use Rattle.stg_decomp.specs.Parts.{nets_of}
use Rattle.desij.specs.Files.{logs_of, part_files}
use Rattle.desij.proofs.PutLemmas.{one_more_put, parts_broke}
use Rattle.desij.proofs.putting.put_parts.Goals as goal

pub returns-in-Err-clause-puts : goal.returns-in-Err-clause-puts
returns-in-Err-clause-puts g c =
    parts_broke (Unit {0}) (Unit {0}) c.args.made.now.spec.net c.args.steps c.args.made.now.answer.parts c.loop-k.k c.in-Err.error _ _ _
    (omega (arith, c.loop-k-test.true, c.len-k-end.ensures)) c.loop-k.invariant.files c.loop-k.invariant.later c.in-Err.ensures.puts

pub loop-k-preserved : goal.loop-k-preserved
loop-k-preserved g c = record {
  files = one_more_put (part_files (nets_of c.args.made.now.answer.parts) (logs_of c.args.made.now.spec.net c.args.steps c.args.made.now.answer.parts)) c.loop-k.k (g.F.Shelf.seen c.args.shelf.now) (g.F.Shelf.seen c.loop-k.shelf) (g.F.Shelf.seen c.put_part.new.shelf) c.loop-k.invariant.files c.in-Ok.ensures.puts;
  later = omega (arith, c.loop-k.invariant.later, c.put_part.ensures.cause.later);
}
