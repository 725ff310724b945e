use Rattle.std.proofs.Common.{arith, ◌≤◌, map, refl, sym, subst, unwrap_or, true, ℕ}
use Rattle.stg_net.specs.declared.arc.NetArc.{NetArc}
use Rattle.astg_read.specs.Graphs.{TextArc, Named}
use Rattle.astg_read.specs.Nodes.{Trans, Place}
use Rattle.astg_read.specs.inner.Views.{place_view}
use Rattle.astg_read.proofs.ArcLemmas.{IsArcFrom, meets, weight-fits}
use Rattle.astg_read.proofs.finish.add_into.Goals as goal

pub add_arc-requires : goal.add_arc-requires
add_arc-requires c =
    let ts = c.args.trans.now.keys in let ps = map place_view c.args.places.now.keys in
    let a : NetArc = record { place = c.place_number.result; trans = c.trans_number.result; into = true; weight = c.unwrap_or.result } in
    let f : IsArcFrom ts ps (Trans c.args.from) (Place c.args.to.now) a = record {
      arrow = record { place = Named c.args.to.now; trans = c.args.from; into = true };
      weight = unwrap_or c.args.weight 1;
      is = (λ j. record { place = c.place_number.ensures j; trans = c.trans_number.ensures j; into = true; weight = c.unwrap_or.ensures j });
      source = refl;
      target = refl;
      inside = (c.requires.there.source_there, c.requires.there.target_there);
    } in
    let p : TextArc = record { source = Trans c.args.from; target = Place c.args.to.now; weight = c.args.weight } in
    let m = meets c.args.builder.now ts ps p c.requires a f in
    let w = weight-fits c.args.builder.now ts ps p c.requires in
    record { place = m.place; trans = m.trans; least = subst (λ (x : ℕ). 1 ≤ x) (sym c.unwrap_or.ensures) w.0; most = subst (λ (x : ℕ). x ≤ c.args.builder.now.limits.weight) (sym c.unwrap_or.ensures) w.1; fresh = m.fresh; room = omega (arith, c.requires.room) }
