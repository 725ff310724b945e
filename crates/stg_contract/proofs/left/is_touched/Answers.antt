use Rattle.std.proofs.Common.{◌||◌, length, nat_lt, ap, sym, ◌∙◌, arith}
use Rattle.std.proofs.lemmas.Bool.{or_left, lt-ltb, le-ltb}
use Rattle.stg_net.specs.Graph.{takes, gives}
use Rattle.stg_contract.specs.inner.Weights.{weight_in}
use Rattle.stg_contract.proofs.WeightLists.{weight_in-weighted}
use Rattle.stg_contract.proofs.LeftPlaces.{place_below}
use Rattle.stg_contract.proofs.left.is_touched.Goals as goal

pub returns-then-weight_of-gt0 : goal.returns-then-weight_of-gt0
returns-then-weight_of-gt0 c =
    let g = c.args.editor.now.now in
    let t = c.args.t in
    let p = c.args.p in
    let low = place_below g p c.requires.p in
    let taken = c.weight_of.ensures ∙ ap (weight_in p) c.takes.ensures.value ∙ weight_in-weighted (takes g t) (length g.places) 0 p (omega arith) (omega (arith, low)) in
    lt-ltb 0 c.weight_of.result c.if-weight_of-gt0.true ∙ sym (or_left (nat_lt 0 (takes g t p)) (nat_lt 0 (gives g t p)) (lt-ltb 0 (takes g t p) (omega (arith, taken, c.if-weight_of-gt0.true))))

pub returns-else-weight_of-gt0 : goal.returns-else-weight_of-gt0
returns-else-weight_of-gt0 c =
    let g = c.args.editor.now.now in
    let t = c.args.t in
    let p = c.args.p in
    let low = place_below g p c.requires.p in
    let taken = c.weight_of.ensures ∙ ap (weight_in p) c.takes.ensures.value ∙ weight_in-weighted (takes g t) (length g.places) 0 p (omega arith) (omega (arith, low)) in
    let given = c.weight_of-else-weight_of-gt0.ensures ∙ ap (weight_in p) c.gives.ensures.value ∙ weight_in-weighted (gives g t) (length g.places) 0 p (omega arith) (omega (arith, low)) in
    ap (nat_lt 0) given ∙ sym (ap (λ z. z || nat_lt 0 (gives g t p)) (le-ltb 0 (takes g t p) (omega (arith, taken, c.if-weight_of-gt0.false))))
