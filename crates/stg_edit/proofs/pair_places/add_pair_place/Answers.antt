use Rattle.std.proofs.Common.{◌≡◌, ◌+◌, length, arith}
use Rattle.stg_arena.specs.declared.cell.Spot.{Spot}
use Rattle.stg_arena.specs.ArenaView.{none, spot_at}
use Rattle.stg_edit.proofs.NewPlaces.{can_merge, made_one}
use Rattle.stg_edit.proofs.pair_places.add_pair_place.Goals as goal

pub merge_places-requires : goal.merge_places-requires
merge_places-requires c =
    let l = c.args.arena.now in
    let s : Spot = record { head = length l.cells; tokens = c.tokens.result + c.tokens-2.result; removed_at = none } in
    can_merge c.args.t (c.args.p, c.args.q) l c.push_place.new.self s c.requires.bounded c.requires.can.arena.timed c.requires.can.arena.laid c.requires.can c.push_place.ensures.pushed c.push_place.ensures.arena

pub returns : goal.returns
returns c =
    let l = c.args.arena.now in
    let s : Spot = record { head = length l.cells; tokens = c.tokens.result + c.tokens-2.result; removed_at = none } in
    made_one c.args.t (c.args.p, c.args.q) l c.push_place.new.self c.merge_places.new.arena s c.requires.bounded c.requires.can.arena.timed c.requires.can.arena.laid c.requires.can c.push_place.ensures.pushed
    (let e : s.tokens ≡ (spot_at l.places c.args.p).tokens + (spot_at l.places c.args.q).tokens = omega (arith, c.tokens.ensures, c.tokens-2.ensures) in e) c.merge_places.ensures
