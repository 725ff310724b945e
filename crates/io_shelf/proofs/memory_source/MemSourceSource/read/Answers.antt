use Rattle.std.proofs.Common.{ap, ◌∙◌, sym, length}
use Rattle.io_shelf.specs.Entries.{bytes_at}
use Rattle.io_shelf.specs.Memory.{SourceState}
use Rattle.io_shelf.proofs.EntryLemmas.{read_from, read_none}
use Rattle.io_shelf.proofs.memory_source.MemSourceSource.read.Goals as goal

pub returns-clause-bytes : goal.returns-clause-bytes
returns-clause-bytes c =
    let bs = bytes_at c.self.inside.texts c.self.inside.chosen in
    let text = c.text_at.ensures ∙ ap (λ es. bytes_at es c.self.inside.chosen) c.as_slice.ensures in
    let copied = rw text at c.copy_front-count.ensures.copied in
    sym (ap (λ (s : SourceState). s.left) c.self.view_is) ∙ read_from bs c.copy_front-count.new.buf c.self.inside.from c.copy_front-count.result copied

pub returns-clause-end : goal.returns-clause-end
returns-clause-end c none =
    let bs = bytes_at c.self.inside.texts c.self.inside.chosen in
    let text = c.text_at.ensures ∙ ap (λ es. bytes_at es c.self.inside.chosen) c.as_slice.ensures in
    let count = rw text at c.copy_front-count.ensures.count in
    read_none bs c.self.inside.from (length c.args.buf.now) c.self.inside.piece c.copy_front-count.result count c.requires c.self.invariant.1 none
