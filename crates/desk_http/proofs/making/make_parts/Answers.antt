use Rattle.std.proofs.Common.{refl, rules}
use Rattle.stg_net.specs.Initial.{graph_of}
use Rattle.stg_laws.specs.Conflict.{IsLeastClash}
use Rattle.stg_conflict.proofs.Within.{clash_within}
use Rattle.desk_http.proofs.making.make_parts.Goals as goal

pub clash_refusal-requires : goal.clash_refusal-requires
clash_refusal-requires g c =
    let clash = c.in-Err-Clash.clash in
    let least : IsLeastClash (graph_of c.args.spec.now.net) clash.t1 clash.t2 clash.place = search rules in
    let there = clash_within c.args.spec.now.net clash least.clash in
    record { first = there.t1; second = there.t2; place = there.place }

pub returns-in_ok-part_texts-in-Ok : goal.returns-in_ok-part_texts-in-Ok
returns-in_ok-part_texts-in-Ok g c = record {
  spec = c.args.spec.now;
  stands = c.requires.stands;
  no_clash = c.in-Ok.ensures.none.0 refl;
  parts = c.in-Ok.answer.parts;
  are_parts = c.in-Ok.ensures.parts;
  components = c.in-Ok.ensures.meaning;
  read_back = c.in-Ok.ensures.reads_back;
  are_texts = c.in_ok-part_texts-in-Ok.ensures;
}
