use Rattle.std.proofs.Common.{◌≡◌, ◌<◌, ℕ, slice_index, length, arith, ap, ◌∙◌, rules}
use Rattle.std.proofs.lemmas.List.{get_or-replicate}
use Rattle.stg_edit.proofs.Packing.{filling_starts, filling_goes_on, filled_in, first_below}
use Rattle.stg_edit.proofs.compact.weights_of.Goals as goal

pub loop-t-init : goal.loop-t-init
loop-t-init c = λ w same.
    let n = c.args.count in
    let long : length c.in_ok-list.list.items ≡ n = search rules in
    let zeros : (t : ℕ) → t < n → slice_index c.in_ok-list.list.items t ≡ 0 = λ t low. ap (λ xs. slice_index xs t) (c.in_ok-list.ensures.items_if_clones_equal (λ y e. e)) ∙ get_or-replicate n t 0 0 low in
    filling_starts n w c.in_ok-list.list.items c.into_iter-t-iterator.result (c.into_iter-t-iterator.ensures.into_iter_gives ∙ same) long zeros

pub index_mut-requires : goal.index_mut-requires
index_mut-requires c =
    let f = c.loop-t.invariant c.requires.0 c.requires.1 in
    let h = first_below c.args.count c.requires.0 c.loop-t.list.items (c.in-Some.t, c.in-Some.weight) c.loop-t.t-iterator c.next.new.self c.in-Some.ensures.steps f in
    omega (arith, h, f.long, c.loop-t.list.ok)

pub loop-t-preserved : goal.loop-t-preserved
loop-t-preserved c = λ w same. filling_goes_on c.args.count w c.loop-t.list.items (c.in-Some.t, c.in-Some.weight) c.loop-t.t-iterator c.next.new.self c.in-Some.ensures.steps (c.loop-t.invariant w same)

pub returns-clause-len : goal.returns-clause-len
returns-clause-len c = (c.loop-t.invariant c.requires.0 c.requires.1).long

pub returns-clause-weights : goal.returns-clause-weights
returns-clause-weights c = λ w same. filled_in c.args.count w c.loop-t.list.items c.loop-t.t-iterator c.in-None.ensures.steps.0 (c.loop-t.invariant w same)
