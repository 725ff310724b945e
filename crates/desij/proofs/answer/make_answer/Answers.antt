use Rattle.std.proofs.Common.{rules}
use Rattle.stg_net.specs.Initial.{graph_of}
use Rattle.stg_laws.specs.Conflict.{IsLeastClash}
use Rattle.desij.proofs.AnswerLemmas.{no_least}
use Rattle.desij.proofs.answer.make_answer.Goals as goal

pub unreachable-requires : goal.unreachable-requires
unreachable-requires g c =
    let clash = c.in-Err-Clash.field-0-0 in
    let least : IsLeastClash (graph_of c.args.spec.now.net) clash.t1 clash.t2 clash.place = search rules in
    no_least c.args.spec.now.net clash c.requires.no_clash least
