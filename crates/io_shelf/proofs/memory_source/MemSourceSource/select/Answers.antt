use Rattle.std.proofs.Common.{ap, ◌∙◌}
use Rattle.std.specs.FinMap.{get}
use Rattle.io_shelf.specs.Entries.{files_of}
use Rattle.io_shelf.specs.Memory.{SourceState}
use Rattle.io_shelf.proofs.EntryLemmas.{found_at}
use Rattle.io_shelf.proofs.memory_source.MemSourceSource.select.Goals as goal

pub returns-in-Some-clause-found : goal.returns-in-Some-clause-found
returns-in-Some-clause-found c is =
    let found = rw (c.as_slice.ensures, c.as_bytes.ensures.value) at c.in-Some.ensures.place in
    found_at c.args.name.now c.self.inside.texts c.in-Some.at found.0 found.1 ∙ ap (λ (s : SourceState). get (files_of s.texts) c.args.name.now) c.self.view_is
