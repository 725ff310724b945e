use Rattle.std.proofs.Common.{◌≡◌, ◌+◌, ◌-◌, cond, length, refl, sym, subst, arith}
use Rattle.std.proofs.lemmas.Bool.{false≢true}
use Rattle.stg_arena.specs.declared.cell.Cell.{Cell}
use Rattle.stg_arena.specs.ArenaView.{Layout}
use Rattle.stg_edit.specs.inner.Filling.{net_arc_at, IsFillingPlace}
use Rattle.stg_edit.proofs.build.push_next_arcs.Goals as goal
use Rattle.stg_edit.proofs.build.push_next_arcs.Goals.{then-arc, else-arc}
use Rattle.stg_edit.proofs.Filling.{place_lone, place_two_way, lone_cell, may_put}

pub push_cell-requires : goal.push_cell-requires
push_cell-requires c = may_put c.args.net.now c.arcs-arcs.result.now c.args.place c.args.at c.args.arena.now c.arcs-arcs.ensures.net c.arcs-arcs.ensures.arcs c.requires.filling c.requires.there c.requires.here

pub push_cell-requires-then-arc : goal.push_cell-requires-then-arc
push_cell-requires-then-arc c = may_put c.args.net.now c.arcs-arcs.result.now c.args.place c.args.at c.args.arena.now c.arcs-arcs.ensures.net c.arcs-arcs.ensures.arcs c.requires.filling c.requires.there c.requires.here

pub push_cell-requires-else-arc : goal.push_cell-requires-else-arc
push_cell-requires-else-arc c = may_put c.args.net.now c.arcs-arcs.result.now c.args.place c.args.at c.args.arena.now c.arcs-arcs.ensures.net c.arcs-arcs.ensures.arcs c.requires.filling c.requires.there c.requires.here

pub returns-then-is_two_way-clause-filling : goal.returns-then-is_two_way-clause-filling
returns-then-is_two_way-clause-filling c =
    let xs = c.arcs-arcs.result.now in
    let l = c.args.arena.now in
    let x = net_arc_at xs c.args.at in
    let last : length l.places - 1 ≡ c.args.place = omega (arith, c.requires.filling.filled.places) in
    let a : Cell = record { place = length l.places - 1; trans = x.trans; take = x.weight; give = (net_arc_at xs (c.args.at + 1)).weight } in
    place_two_way c.args.net.now xs c.args.place c.args.at l c.push_cell.new.self a c.arcs-arcs.ensures.net c.arcs-arcs.ensures.arcs c.requires.filling c.requires.here c.requires.there (c.if-is_two_way.ensures.0 refl) c.push_cell.ensures.pushed c.push_cell.ensures.arena
    (λ i. record { place = last i; trans = x.trans; take = x.weight; give = (net_arc_at xs (c.args.at + 1)).weight })

pub returns-clause-filling : goal.returns-clause-filling
returns-clause-filling c =
    let xs = c.arcs-arcs.result.now in
    let l = c.args.arena.now in
    let x = net_arc_at xs c.args.at in
    let last : length l.places - 1 ≡ c.args.place = omega (arith, c.requires.filling.filled.places) in
    let P : Layout → Type 0 = IsFillingPlace c.args.net.now c.args.place (c.args.at + 1) in
    elim c.if-arc.branch [
      | then-arc w ↦
          let a : Cell = record { place = length l.places - 1; trans = x.trans; take = 0; give = x.weight } in
          let is : a ≡ lone_cell x.into c.args.place x.trans x.weight = λ i. record { place = last i; trans = x.trans; take = cond (sym w.if-arc.true i) 0 x.weight; give = cond (sym w.if-arc.true i) x.weight 0 } in
          subst P (sym w.arena-is) (place_lone c.args.net.now xs c.args.place c.args.at l w.push_cell-then-arc.new.self a c.arcs-arcs.ensures.net c.arcs-arcs.ensures.arcs c.requires.filling c.requires.here c.requires.there (λ pair. false≢true (c.if-is_two_way.ensures.1 pair)) w.push_cell-then-arc.ensures.pushed w.push_cell-then-arc.ensures.arena is)
      | else-arc w ↦
          let a : Cell = record { place = length l.places - 1; trans = x.trans; take = x.weight; give = 0 } in
          let is : a ≡ lone_cell x.into c.args.place x.trans x.weight = λ i. record { place = last i; trans = x.trans; take = cond (sym w.if-arc.false i) 0 x.weight; give = cond (sym w.if-arc.false i) x.weight 0 } in
          subst P (sym w.arena-is) (place_lone c.args.net.now xs c.args.place c.args.at l w.push_cell-else-arc.new.self a c.arcs-arcs.ensures.net c.arcs-arcs.ensures.arcs c.requires.filling c.requires.here c.requires.there (λ pair. false≢true (c.if-is_two_way.ensures.1 pair)) w.push_cell-else-arc.ensures.pushed w.push_cell-else-arc.ensures.arena is)
    ]
