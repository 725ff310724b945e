use Rattle.std.proofs.Common.{◌≡◌, ◌+◌, ◌<◌, ℕ, List, length, slice_index, rules, ap, subst, ◌∙◌, arith}
use Rattle.std.specs.List.{range_with_len}
use Rattle.std.specs.List.Sorted.{IsPermutation, IsStableByKey}
use Rattle.std.specs.Ordering.{nat_cmp}
use Rattle.std.proofs.lemmas.Fn.{always_returns_same}
use Rattle.std.proofs.lemmas.List.Sorted.{IsNonDecreasingBy-from_sort_by_key}
use Rattle.stg_net.specs.Ordered.{first_giver}
use Rattle.stg_net.proofs.Givers.{listed_by_keys}
use Rattle.stg_net.proofs.Keyed.{sorted_numbers}
use Rattle.stg_net.proofs.Orders.{least_giver-le}
use Rattle.stg_net.proofs.order.order_places.Goals as goal

pub returns : goal.returns
returns c =
    let n = c.args.net.now in
    let key : ℕ → ℕ = slice_index c.in_ok-keys.keys in
    let size = length n.tokens in
    let last = length n.trans + 1 in
    let ys = c.sort_by_key.new.self.items in
    let agree : (p : ℕ) → p < size → key p ≡ first_giver n p = λ p below. c.in_ok-keys.ensures.least p (omega (arith, below, c.in_ok-keys.ensures.len)) in
    let old : c.into_vec-order.result.items ≡ range_with_len 0 size = c.into_vec-order.ensures ∙ c.in_ok-numbers_below.ensures ∙ ap (λ (xs : List ℕ). range_with_len 0 (length xs)) c.tokens.ensures.tokens in
    let moved = subst (λ xs. IsPermutation xs ys) old c.in_ok-sort_by_key.ensures.permutation in
    let rise = IsNonDecreasingBy-from_sort_by_key key ys c.in_ok-sort_by_key.ensures.sorted (λ a r q k. search rules) in
    let stable = subst (λ xs. IsStableByKey key nat_cmp xs ys) old (c.in_ok-sort_by_key.ensures.stable key (always_returns_same _ (λ a r. r ≡ key a.0.now) _ (λ a r q k. search rules))) in
    c.from_vec.ensures
    ∙ sorted_numbers key ys size last moved rise stable (λ p below. omega (arith, agree p below, least_giver-le (length n.trans) p n.arcs))
    ∙ listed_by_keys key (first_giver n) size last agree
