use Rattle.std.proofs.Common.{rules, ℕ, ap, sym, subst, arith}
use Rattle.stg_contract.specs.inner.Weights.{ArePlaces}
use Rattle.stg_contract.specs.inner.Counts as counts
use Rattle.stg_contract.proofs.WeightLists.{live_later}
use Rattle.std.proofs.lemmas.List.Sums.{sum_by-cons}
use Rattle.stg_edit.specs.Walks.{given_places}
use Rattle.stg_contract.proofs.arcs.arcs_round.Goals as goal

pub loop-p-init : goal.loop-p-init
loop-p-init c = record {
  live = subst (ArePlaces c.args.editor.now.now) (sym c.into_iter-p-iterator.ensures.into_iter_gives) c.takes-p-items.ensures.live;
  left = search rules;
  few = search rules;
}

pub arcs_with_each-requires-clause-places : goal.arcs_with_each-requires-clause-places
arcs_with_each-requires-clause-places c = c.gives.ensures.live

pub loop-p-preserved : goal.loop-p-preserved
loop-p-preserved c = record {
  live = live_later c.args.editor.now.now _ c.loop-p.p-iterator c.next.new.self c.in-Some.ensures.steps c.loop-p.invariant.live;
  left = omega (arith, c.loop-p.invariant.left, ap (counts.arcs_of_each c.args.editor.now.now c.args.t) c.in-Some.ensures.steps, sum_by-cons (λ (x : ℕ × ℕ). counts.arcs_with_each c.args.editor.now.now c.args.t x.0 (given_places c.args.editor.now.now c.args.t)) (c.in-Some.p, c.in-Some.field-0-1) c.next.new.self, c.saturating_add-count.ensures, c.arcs_with_each.ensures, ap (counts.arcs_with_each c.args.editor.now.now c.args.t c.in-Some.p) c.gives.ensures.value);
  few = omega (arith, c.saturating_add-count.ensures);
}

pub returns : goal.returns
returns c = omega (arith, c.loop-p.invariant.left, c.loop-p.invariant.few, ap (counts.arcs_of_each c.args.editor.now.now c.args.t) c.in-None.ensures.steps.0)
