use Rattle.std.proofs.Common.{◌∙◌, arith}
use Rattle.astg_read.proofs.EntryLemmas.{entries-preserved}
use Rattle.astg_read.proofs.entries.entries_of.Goals as goal

pub loop-rest-preserved : goal.loop-rest-preserved
loop-rest-preserved c =
    entries-preserved c.loop-rest.entries c.push.new.self c.front-entry.result c.loop-rest.rest.now _ c.in_ok-push.ensures.ok c.front-entry.ensures.entry c.front-entry.ensures.least (grind arith) (grind arith)
    ∙ c.loop-rest.invariant
