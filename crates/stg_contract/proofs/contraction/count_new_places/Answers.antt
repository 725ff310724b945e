use Rattle.std.proofs.Common.{◌≡◌, ◌≤◌, ◌*◌, length, ap, ◌∙◌, arith}
use Rattle.std.proofs.Math.Nat.{mul-le-mul}
use Rattle.stg_net.specs.Graph.{takes, gives}
use Rattle.stg_edit.specs.Walks.{taken_places, given_places}
use Rattle.stg_edit.proofs.Counted.{weighted_few}
use Rattle.stg_contract.proofs.PlaceSums.{new_places-product}
use Rattle.stg_contract.proofs.contraction.count_new_places.Goals as goal

pub count_all-before-requires : goal.count_all-before-requires
count_all-before-requires c = let g = c.args.editor.now.now in omega (arith, c.takes.ensures.draft.places_fit, ap length c.takes.ensures.value, weighted_few (length g.places) (takes g c.args.t))

pub count_all-after-requires : goal.count_all-after-requires
count_all-after-requires c = let g = c.args.editor.now.now in omega (arith, c.takes.ensures.draft.places_fit, ap length c.gives.ensures.value, weighted_few (length g.places) (gives g c.args.t))

pub returns : goal.returns
returns c =
    let g = c.args.editor.now.now in
    let t = c.args.t in
    let fits = c.takes.ensures.draft.places_fit in
    let before : c.count_all-before.result ≡ length (taken_places g t) = c.count_all-before.ensures ∙ ap length c.takes.ensures.value in
    let after : c.count_all-after.result ≡ length (given_places g t) = c.count_all-after.ensures ∙ ap length c.gives.ensures.value in
    let product : c.count_all-before.result * c.count_all-after.result ≡ length (taken_places g t) * length (given_places g t) = λ i. before i * after i in
    let low : length (taken_places g t) ≤ 4294967295 = omega (arith, fits, weighted_few (length g.places) (takes g t)) in
    let also : length (given_places g t) ≤ 4294967295 = omega (arith, fits, weighted_few (length g.places) (gives g t)) in
    omega (arith, product, new_places-product g t, c.saturating_mul.ensures, mul-le-mul low also)
