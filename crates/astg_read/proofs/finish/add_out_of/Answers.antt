use Rattle.std.proofs.Common.{arith, ◌≤◌, map, refl, sym, subst, unwrap_or, false, ℕ}
use Rattle.stg_net.specs.declared.arc.NetArc.{NetArc}
use Rattle.astg_read.specs.Graphs.{TextArc, Named}
use Rattle.astg_read.specs.Nodes.{Trans, Place}
use Rattle.astg_read.specs.inner.Views.{place_view}
use Rattle.astg_read.proofs.ArcLemmas.{IsArcFrom, meets, weight-fits}
use Rattle.astg_read.proofs.finish.add_out_of.Goals as goal

pub add_arc-requires : goal.add_arc-requires
add_arc-requires c =
    let ts = c.args.trans.now.keys in let ps = map place_view c.args.places.now.keys in
    let a : NetArc = record { place = c.place_number.result; trans = c.trans_number.result; into = false; weight = c.unwrap_or.result } in
    let f : IsArcFrom ts ps (Place c.args.from.now) (Trans c.args.to) a = record {
      arrow = record { place = Named c.args.from.now; trans = c.args.to; into = false };
      weight = unwrap_or c.args.weight 1;
      is = (λ j. record { place = c.place_number.ensures j; trans = c.trans_number.ensures j; into = false; weight = c.unwrap_or.ensures j });
      source = refl;
      target = refl;
      inside = (c.requires.there.target_there, c.requires.there.source_there);
    } in
    let p : TextArc = record { source = Place c.args.from.now; target = Trans c.args.to; weight = c.args.weight } in
    let m = meets c.args.builder.now ts ps p c.requires a f in
    let w = weight-fits c.args.builder.now ts ps p c.requires in
    record { place = m.place; trans = m.trans; least = subst (λ (x : ℕ). 1 ≤ x) (sym c.unwrap_or.ensures) w.0; most = subst (λ (x : ℕ). x ≤ c.args.builder.now.limits.weight) (sym c.unwrap_or.ensures) w.1; fresh = m.fresh; room = omega (arith, c.requires.room) }
