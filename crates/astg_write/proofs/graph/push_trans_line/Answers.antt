use Rattle.std.proofs.Common.{length, arith}
use Rattle.astg_write.proofs.graph.push_trans_line.Goals as goal

pub push_given-requires : goal.push_given-requires
push_given-requires c = λ k d b. omega (arith, c.arcs_of_trans.ensures.there (length c.args.net.now.tokens) c.requires.ends k d b, c.requires.places)
