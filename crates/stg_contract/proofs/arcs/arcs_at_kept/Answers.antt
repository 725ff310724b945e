use Rattle.std.proofs.Common.{cond, sym, ap, ◌∙◌, arith}
use Rattle.stg_edit.specs.Counted.{count_arcs_at}
use Rattle.stg_edit.proofs.Counted.{sum_more}
use Rattle.stg_contract.specs.inner.Tests.{is_kept}
use Rattle.stg_contract.proofs.arcs.arcs_at_kept.Goals as goal
use Rattle.stg_contract.proofs.arcs.arcs_at_kept.Goals.{then-is_kept, else-is_kept}

pub loop-p-preserved : goal.loop-p-preserved
loop-p-preserved c =
    let g = c.args.editor.now.now in
    let p = c.loop-p.p in
    let more = sum_more (count_arcs_at g) (is_kept g c.args.t) p in
    elim c.if-is_kept.branch [
      | then-is_kept w ↦ omega (
        arith,
        w.count-is,
        w.saturating_add-count.ensures,
        w.arcs_at.ensures,
        c.loop-p.invariant,
        more,
        ap (λ z. cond z (count_arcs_at g p) 0) (sym c.is_kept.ensures ∙ w.if-is_kept.true),
      )
      | else-is_kept w ↦ omega (arith, w.count-is, c.loop-p.invariant, more, ap (λ z. cond z (count_arcs_at g p) 0) (sym c.is_kept.ensures ∙ w.if-is_kept.false))
    ]
