use Rattle.std.proofs.Common.{ℕ, ap, arith}
use Rattle.stg_contract.specs.inner.Counts as counts
use Rattle.stg_contract.proofs.WeightLists.{live_later}
use Rattle.std.proofs.lemmas.List.Sums.{sum_by-cons}
use Rattle.stg_edit.specs.Replacing.{arcs_of_pair}
use Rattle.stg_contract.proofs.arcs.arcs_with_each.Goals as goal

pub loop-q-preserved : goal.loop-q-preserved
loop-q-preserved c = record {
  live = live_later c.args.editor.now.now _ c.loop-q.q-iterator c.next.new.self c.in-Some.ensures.steps c.loop-q.invariant.live;
  left = omega (arith, c.loop-q.invariant.left, ap (counts.arcs_with_each c.args.editor.now.now c.args.t c.args.p) c.in-Some.ensures.steps, sum_by-cons (λ (y : ℕ × ℕ). arcs_of_pair c.args.editor.now.now c.args.t (c.args.p, y.0)) (c.in-Some.q, c.in-Some.field-0-1) c.next.new.self, c.saturating_add-count.ensures, c.arcs_of_pair.ensures);
  few = omega (arith, c.saturating_add-count.ensures);
}

pub returns : goal.returns
returns c = omega (arith, c.loop-q.invariant.left, c.loop-q.invariant.few, ap (counts.arcs_with_each c.args.editor.now.now c.args.t c.args.p) c.in-None.ensures.steps.0)
