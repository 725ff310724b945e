use Rattle.std.proofs.Common.{ap, ◌∙◌, nat_lt, arith}
use Rattle.astg_read.proofs.GraphLemmas.{arcs-over}
use Rattle.astg_read.proofs.reader.has_too_many_arcs.Goals as goal

pub returns : goal.returns
returns c =
    let g = c.args.graph.now in
    ap (nat_lt c.args.limits.now.arcs) c.arc_count.ensures ∙ arcs-over g.trans g.places g.text_arcs c.args.limits.now.arcs (omega arith)
