use Rattle.std.proofs.Common.{ap, ◌∙◌, sym, length}
use Rattle.io_shelf.specs.Memory.{LinkState}
use Rattle.io_shelf.proofs.EntryLemmas.{read_from, read_none}
use Rattle.io_shelf.proofs.memory_link.MemLinkLink.read.Goals as goal

pub returns-clause-bytes : goal.returns-clause-bytes
returns-clause-bytes c =
    let bs = c.self.inside.input in
    let copied = rw c.as_slice.ensures at c.copy_front-count.ensures.copied in
    sym (ap (λ (s : LinkState). s.left) c.self.view_is) ∙ read_from bs c.copy_front-count.new.buf c.self.inside.from c.copy_front-count.result copied

pub returns-clause-end : goal.returns-clause-end
returns-clause-end c none =
    let bs = c.self.inside.input in
    let count = rw c.as_slice.ensures at c.copy_front-count.ensures.count in
    read_none bs c.self.inside.from (length c.args.buf.now) c.self.inside.piece c.copy_front-count.result count c.requires c.self.invariant.1 none
