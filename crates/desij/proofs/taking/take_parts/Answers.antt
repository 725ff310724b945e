use Rattle.std.proofs.Common.{List, ℕ, Option, subst}
use Rattle.std.specs.Option.{option_copied}
use Rattle.desij.specs.inner.Unmade.{IsToldOf}
use Rattle.desij.proofs.TakeLemmas.{refused_unmade}
use Rattle.desij.proofs.taking.take_parts.Goals as goal

pub returns-in-Err-make_answer-clause-unmade : goal.returns-in-Err-make_answer-clause-unmade
returns-in-Err-make_answer-clause-unmade g c =
    let told = subst (λ (p : Option (List ℕ)). IsToldOf c.in-Ok.spec p c.in-Err-make_answer.why) c.bytes_of.ensures c.in-Err-make_answer.ensures.refused in
    let took = c.in-Ok.ensures in
    let read = c.in-Ok-take_partition.ensures in
    refused_unmade c.args.name.now (option_copied c.args.file) c.in-Ok-take_partition.partition c.in-Err-make_answer.why c.in-Ok.spec _ _ _ took.taken took.kept took.selects read.selects read.taken told
