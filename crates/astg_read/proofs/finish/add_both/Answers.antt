use Rattle.std.proofs.Common.{map, refl, sym, subst, true, false, All}
use Rattle.stg_net.specs.declared.arc.NetArc.{NetArc}
use Rattle.stg_net.specs.Building.{Building, HasEnds}
use Rattle.astg_read.specs.Graphs.{TextArc, Between}
use Rattle.astg_read.specs.Nodes.{Trans}
use Rattle.astg_read.specs.inner.Views.{place_view}
use Rattle.astg_read.proofs.ArcLemmas.{IsArcFrom, arc-new, second-fresh}
use Rattle.astg_read.proofs.finish.add_both.Goals as goal

pub add_arc-requires-clause-fresh : goal.add_arc-requires-clause-fresh
add_arc-requires-clause-fresh c =
    let ts = c.args.trans.now.keys in let ps = map place_view c.args.places.now.keys in
    let p : TextArc = record { source = Trans c.args.from; target = Trans c.args.to; weight = c.args.weight } in
    let a : NetArc = record { place = c.place_number-place.result; trans = c.trans_number.result; into = true; weight = 1 } in
    let f : IsArcFrom ts ps (Trans c.args.from) (Trans c.args.to) a = record {
      arrow = record { place = Between c.args.from c.args.to; trans = c.args.from; into = true };
      weight = 1;
      is = (λ j. record { place = c.place_number-place.ensures j; trans = c.trans_number.ensures j; into = true; weight = 1 });
      source = refl;
      target = refl;
      inside = (c.requires.there.source_there, c.requires.there.between_there);
    } in
    arc-new c.args.builder.now ts ps p c.requires a f

pub add_arc-requires-2-clause-fresh : goal.add_arc-requires-2-clause-fresh
add_arc-requires-2-clause-fresh c =
    let ts = c.args.trans.now.keys in let ps = map place_view c.args.places.now.keys in
    let p : TextArc = record { source = Trans c.args.from; target = Trans c.args.to; weight = c.args.weight } in
    let a2 : NetArc = record { place = c.place_number-place.result; trans = c.trans_number-2.result; into = false; weight = 1 } in
    let f2 : IsArcFrom ts ps (Trans c.args.from) (Trans c.args.to) a2 = record {
      arrow = record { place = Between c.args.from c.args.to; trans = c.args.to; into = false };
      weight = 1;
      is = (λ j. record { place = c.place_number-place.ensures j; trans = c.trans_number-2.ensures j; into = false; weight = 1 });
      source = refl;
      target = refl;
      inside = (c.requires.there.target_there, c.requires.there.between_there);
    } in
    let a : NetArc = record { place = c.place_number-place.result; trans = c.trans_number.result; into = true; weight = 1 } in
    subst (λ (b : Building). All (λ x. HasEnds a2 x → ⊥) b.lists.arcs) (sym c.in_ok-add_arc.ensures)
    (second-fresh c.args.builder.now.lists.arcs a a2 refl refl (arc-new c.args.builder.now ts ps p c.requires a2 f2))
