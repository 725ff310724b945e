use Rattle.std.proofs.Common.{ap, ◌∙◌, arith}
use Rattle.stg_contract.specs.inner.Weights.{trans_round}
use Rattle.stg_contract.specs.inner.Counts.{count_others, count_apart}
use Rattle.stg_contract.proofs.EitherCounts.{count_either-apart, count_either-less}
use Rattle.stg_contract.proofs.arcs.count_either.Goals as goal

pub returns-clause-value : goal.returns-clause-value
returns-clause-value c =
    let g = c.args.editor.now.now in
    omega (
      arith,
      c.count_apart-first.ensures ∙ ap (count_apart c.args.t (trans_round c.args.take g c.args.q)) c.trans_at.ensures.value,
      c.count_others-second.ensures ∙ ap (count_others c.args.t) c.trans_at-2.ensures.value,
      count_either-apart c.args.take g c.args.t c.args.p c.args.q,
    )

pub returns-clause-few : goal.returns-clause-few
returns-clause-few c =
    let g = c.args.editor.now.now in
    omega (
      arith,
      c.count_apart-first.ensures ∙ ap (count_apart c.args.t (trans_round c.args.take g c.args.q)) c.trans_at.ensures.value,
      c.count_others-second.ensures ∙ ap (count_others c.args.t) c.trans_at-2.ensures.value,
      count_either-apart c.args.take g c.args.t c.args.p c.args.q,
      count_either-less c.args.take g c.args.t c.args.p c.args.q,
      c.trans_at.ensures.draft.trans_fit,
    )

pub overflow_add-result : goal.overflow_add-result
overflow_add-result c =
    let g = c.args.editor.now.now in
    omega (
      arith,
      c.count_apart-first.ensures ∙ ap (count_apart c.args.t (trans_round c.args.take g c.args.q)) c.trans_at.ensures.value,
      c.count_others-second.ensures ∙ ap (count_others c.args.t) c.trans_at-2.ensures.value,
      count_either-apart c.args.take g c.args.t c.args.p c.args.q,
      count_either-less c.args.take g c.args.t c.args.p c.args.q,
      c.trans_at.ensures.draft.trans_fit,
    )
