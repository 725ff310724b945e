use Rattle.std.proofs.Common.{ℕ, ap, arith}
use Rattle.stg_contract.specs.inner.Counts as counts
use Rattle.stg_contract.proofs.WeightLists.{live_later}
use Rattle.std.proofs.lemmas.List.Sums.{sum_by-cons}
use Rattle.stg_edit.specs.Counted.{count_arcs_at}
use Rattle.stg_contract.proofs.arcs.arcs_at_each.Goals as goal

pub loop-p-preserved : goal.loop-p-preserved
loop-p-preserved c = record {
  live = live_later c.args.editor.now.now _ c.loop-p.p-iterator c.next.new.self c.in-Some.ensures.steps c.loop-p.invariant.live;
  left = omega (arith, c.loop-p.invariant.left, ap (counts.arcs_at_each c.args.editor.now.now) c.in-Some.ensures.steps, sum_by-cons (λ (x : ℕ × ℕ). count_arcs_at c.args.editor.now.now x.0) (c.in-Some.p, c.in-Some.field-0-1) c.next.new.self, c.saturating_add-count.ensures, c.arcs_at.ensures);
  few = omega (arith, c.saturating_add-count.ensures);
}

pub returns : goal.returns
returns c = omega (arith, c.loop-p.invariant.left, c.loop-p.invariant.few, ap (counts.arcs_at_each c.args.editor.now.now) c.in-None.ensures.steps.0)
