use Rattle.std.proofs.Common.{◌≡◌, ◌<◌, slice_index, length, true, false, ◌∙◌, arith}
use Rattle.std.proofs.lemmas.List.{get_or_default}
use Rattle.stg_net.specs.Graph.{takes, gives}
use Rattle.stg_edit.specs.inner.Packing.{weighted_arc, numbered_arcs}
use Rattle.stg_edit.proofs.Packing.{push_more, arcs_same, walk_is}
use Rattle.stg_edit.proofs.compact.push_place_arcs.Goals as goal

pub weights_of-requires : goal.weights_of-requires
weights_of-requires c =
    let g = c.args.editor.now.now in
    (λ t. takes g t c.args.p, walk_is c.takers.result (λ t. takes g t c.args.p) c.all_trans-count.result (length g.trans) c.takers.ensures.value c.all_trans-count.ensures.value)

pub weights_of-requires-2 : goal.weights_of-requires-2
weights_of-requires-2 c =
    let g = c.args.editor.now.now in
    (λ t. gives g t c.args.p, walk_is c.givers.result (λ t. gives g t c.args.p) c.all_trans-count.result (length g.trans) c.givers.ensures.value c.all_trans-count.ensures.value)

pub loop-u-preserved : goal.loop-u-preserved
loop-u-preserved c =
    let g = c.args.editor.now.now in
    let u = c.loop-u.u in
    let t = slice_index c.args.trans.now u in
    let low : t < length g.trans = c.requires.in_range u 0 c.loop-u-test.true in
    let take = c.index.result.now in
    let give = c.index-in-loop-u.result.now in
    let inside : t < c.all_trans-count.result = omega (arith, low, c.all_trans-count.ensures.value) in
    let a : take ≡ takes g t c.args.p = c.index.ensures ∙ get_or_default c.in_ok-taken.taken.items t take 0 (omega (arith, inside, c.in_ok-taken.ensures.len)) ∙ c.in_ok-taken.ensures.weights (λ t. takes g t c.args.p) (walk_is c.takers.result (λ t. takes g t c.args.p) c.all_trans-count.result (length g.trans) c.takers.ensures.value c.all_trans-count.ensures.value) t inside in
    let b : give ≡ gives g t c.args.p = c.index-in-loop-u.ensures ∙ get_or_default c.in_ok-given.given.items t give 0 (omega (arith, inside, c.in_ok-given.ensures.len)) ∙ c.in_ok-given.ensures.weights (λ t. gives g t c.args.p) (walk_is c.givers.result (λ t. gives g t c.args.p) c.all_trans-count.result (length g.trans) c.givers.ensures.value c.all_trans-count.ensures.value) t inside in
    push_more c.args.list.now c.loop-u.list c.push_arc.new.list c.push_arc-in-loop-u.new.list
    (weighted_arc (record { place = c.args.q; trans = u; into = false; weight = take })) (weighted_arc (record { place = c.args.q; trans = u; into = true; weight = give }))
    (λ v. numbered_arcs g c.args.p (slice_index c.args.trans.now v) c.args.q v) u
    c.loop-u.invariant c.in_ok-push_arc.ensures c.in_ok-push_arc-2.ensures (arcs_same g c.args.p t c.args.q u take give a b)
