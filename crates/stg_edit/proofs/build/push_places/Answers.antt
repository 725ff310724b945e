use Rattle.std.proofs.Common.{◌≡◌, ◌<◌, ℕ, length, get_or, subst, ap, arith}
use Rattle.stg_arena.specs.declared.cell.Spot.{Spot}
use Rattle.stg_arena.specs.ArenaView.{none}
use Rattle.stg_edit.specs.inner.Filling.{IsFilled}
use Rattle.stg_edit.proofs.Filling.{starts, place_starts, all_arcs}
use Rattle.stg_edit.proofs.build.push_places.Goals as goal

pub loop-place-init : goal.loop-place-init
loop-place-init c = starts c.args.net.now c.args.arena.now c.requires.bounded c.requires.empty

pub push_place_arcs-at-requires : goal.push_place_arcs-at-requires
push_place_arcs-at-requires c =
    let l = c.loop-place.arena in
    let p = c.loop-place.place in
    let tokens = c.tokens-tokens.ensures.tokens in
    let s : Spot = record { head = length l.cells; tokens = get_or c.tokens-tokens.result.now p 0; removed_at = none } in
    let low : p < length c.args.net.now.tokens = omega (arith, c.loop-place-test.true, ap length tokens) in
    place_starts c.args.net.now p c.loop-place.at l c.push_place.new.self s c.loop-place.invariant.arena.laid c.loop-place.invariant c.push_place.ensures.pushed c.push_place.ensures.arena (ap (λ xs. get_or xs p 0) tokens) low

pub returns : goal.returns
returns c =
    let n = c.args.net.now in
    let e : c.loop-place.place ≡ length n.tokens = omega (arith, c.loop-place-test.false, ap length c.tokens-tokens.ensures.tokens, c.loop-place.invariant.places, c.loop-place.auto.place-end) in
    let P : ℕ → Type 0 = λ k. IsFilled n k k c.loop-place.at c.loop-place.arena in
    let all : IsFilled n (length n.tokens) (length n.tokens) c.loop-place.at c.loop-place.arena = subst P e c.loop-place.invariant in
    let Q : ℕ → Type 0 = λ at. IsFilled n (length n.tokens) (length n.tokens) at c.loop-place.arena in
    subst Q (all_arcs n c.tokens-tokens.ensures.net c.loop-place.at c.loop-place.arena all) all
