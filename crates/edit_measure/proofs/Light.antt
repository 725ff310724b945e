-- The sums of two places of a net within the limits of a component.
use Rattle.std.proofs.Common.{ℕ, ◌≤◌, Bool, true, false, List, length, get_or, inl, inr, sym, subst, arith}
use Rattle.std.proofs.lemmas.Bool.{cases_lt}
use Rattle.std.proofs.lemmas.List.{get_or_past}
use Rattle.stg_net.specs.declared.limits.TheConstants.Limits.{PART}
use Rattle.stg_net.specs.Net.{NetLists, IsNet, IsWithin}
use Rattle.stg_net.specs.Initial.{weight_of, initial}
use Rattle.stg_net.proofs.Weights.{ConnectingArc, Connects, connects_whole, weight_of-arc, weight_of-connecting, takes-initial, gives-initial, tokens_at-initial}
use Rattle.edit_measure.specs.Measuring.{IsLight}

-- a weight is that of one arc, or 0
weight_of-le : (n : NetLists) (into : Bool) (t p : ℕ) → IsNet n → IsWithin PART n → weight_of n.arcs into t p ≤ 1000000
weight_of-le n into t p net within = elim (cases_lt 0 (weight_of n.arcs into t p)) [
  | inl some ↦ of_arc (weight_of-connecting into t p n.arcs some)
  | inr nothing ↦ omega (arith, nothing)
]
  where
    of_arc : ConnectingArc n.arcs into t p → weight_of n.arcs into t p ≤ 1000000
    of_arc j =
        let d = j.arc in
        omega (
          arith,
          weight_of-arc into t p n.arcs j.at d net.ordered j.inside (connects_whole into t p (get_or n.arcs j.at d) (subst (Connects into t p) (sym (j.arc_is d)) j.connects_both)),
          within.weights j.at d j.inside,
        )

-- the tokens of a place
tokens-le : (n : NetLists) (p : ℕ) → IsWithin PART n → get_or n.tokens p 0 ≤ 1000000
tokens-le n p within = elim (cases_lt p (length n.tokens)) [
  | inl below ↦ within.tokens p 0 below
  | inr past ↦ omega (arith, get_or_past n.tokens p 0 past)
]

-- the sums of each two places of a net within the limits fit 32 bits
pub initial-light : (n : NetLists) (known : List ℕ) → IsNet n → IsWithin PART n → IsLight (initial n known)
initial-light n known net within x = record {
  tokens = omega (arith, tokens_at-initial n known x.0, tokens_at-initial n known x.1, tokens-le n x.0 within, tokens-le n x.1 within);
  taken = λ u inside. omega (arith, takes-initial n known u x.0 net, takes-initial n known u x.1 net, weight_of-le n false u x.0 net within, weight_of-le n false u x.1 net within);
  given = λ u inside. omega (arith, gives-initial n known u x.0 net, gives-initial n known u x.1 net, weight_of-le n true u x.0 net within, weight_of-le n true u x.1 net within);
}
