use Rattle.std.proofs.Common.{◌≡◌, ◌<◌, ℕ, List, length, All, AllPairs, rules, ap, sym, subst, arith}
use Rattle.stg_net.specs.Net.{IsNet, IsBefore, IsWithin}
use Rattle.stg_net.specs.Names.{IsWellNamed}
use Rattle.stg_net.specs.Ordered.{signal_order, place_order, ordered}
use Rattle.stg_net.proofs.Orders.{signal_order-IsOrder, place_order-IsOrder, length-order, order_below}
use Rattle.stg_net.proofs.Moved.{ordered-IsNet, ordered-within, ordered-named}
use Rattle.stg_net.proofs.order.ordered.Goals as goal

-- what holds of a list and a bound holds of equals
moved : (xs ys : List ℕ) (m n : ℕ) → xs ≡ ys → m ≡ n → All (λ k. k < n) ys → All (λ k. k < m) xs
moved xs ys m n same long all = subst (λ (zs : List ℕ). All (λ k. k < m) zs) (sym same) (subst (λ b. All (λ k. k < b) ys) (sym long) all)

pub pick_signals-requires : goal.pick_signals-requires
pick_signals-requires c =
    let n = c.args.net.now in
    moved c.as_slice.result.now (signal_order n.signals) (length c.signals-3.result.now) (length n.signals) (grind arith) (ap length c.signals-3.ensures.signals)
    (order_below (length n.signals) (signal_order n.signals) (signal_order-IsOrder n.signals))

pub renumber_trans-requires : goal.renumber_trans-requires
renumber_trans-requires c =
    let n = c.args.net.now in
    let same : c.as_slice-2.result.now ≡ signal_order n.signals = grind arith in
    omega (arith, ap length same, length-order (length n.signals) (signal_order n.signals) (signal_order-IsOrder n.signals), c.signals.ensures.net.signals_fit)

pub pick_tokens-requires : goal.pick_tokens-requires
pick_tokens-requires c =
    let n = c.args.net.now in
    moved c.as_slice-3.result.now (place_order n) (length c.tokens.result.now) (length n.tokens) (grind arith) (ap length c.tokens.ensures.tokens)
    (order_below (length n.tokens) (place_order n) (place_order-IsOrder n))

pub move_arcs-requires-clause-ordered : goal.move_arcs-requires-clause-ordered
move_arcs-requires-clause-ordered c = subst (AllPairs IsBefore) (sym c.arcs.ensures.arcs) c.arcs.ensures.net.ordered

pub move_arcs-requires-clause-bounded : goal.move_arcs-requires-clause-bounded
move_arcs-requires-clause-bounded c =
    let n = c.args.net.now in
    let same : c.as_slice-4.result.now ≡ place_order n = grind arith in
    omega (arith, ap length same, length-order (length n.tokens) (place_order n) (place_order-IsOrder n), c.signals.ensures.net.places_fit)

pub of-requires : goal.of-requires
of-requires c =
    let same : record { signals = c.in_ok-pick_signals.field-0; trans = c.in_ok-renumber_trans.field-0; tokens = c.in_ok-pick_tokens.field-0; arcs = c.in_ok-move_arcs.field-0 } ≡ ordered c.args.net.now = search rules in
    subst IsNet (sym same) (ordered-IsNet c.args.net.now c.signals.ensures.net)

pub returns-clause-within : goal.returns-clause-within
returns-clause-within c =
    let same : c.of.result ≡ ordered c.args.net.now = search rules in
    λ l within. subst (IsWithin l) (sym same) (ordered-within c.args.net.now c.signals.ensures.net l within)

pub returns-clause-named : goal.returns-clause-named
returns-clause-named c =
    let same : c.of.result ≡ ordered c.args.net.now = search rules in
    λ named. subst IsWellNamed (sym same) (ordered-named c.args.net.now named)
