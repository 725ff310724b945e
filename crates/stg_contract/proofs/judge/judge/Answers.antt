use Rattle.std.proofs.Common.{sym, subst, ◌∙◌, inl, inr}
use Rattle.stg_contract.specs.inner.Judging.{IsReason}
use Rattle.stg_contract.proofs.DummyTests.{loop_found, no_loop, weight_found, pure_found, type1_found, not_type1, type2_found, not_type2}
use Rattle.stg_contract.proofs.judge.judge.Goals as goal
use Rattle.stg_contract.proofs.judge.judge.Goals.{else-not-type1-via-then-not-type1+else-not-is_type2, else-not-type1-via-else-not-type1}

pub returns-then-has_loop : goal.returns-then-has_loop
returns-then-has_loop c = loop_found c.args.editor.now.now c.args.t (sym c.has_loop.ensures.value ∙ c.if-has_loop.true)

pub returns-then-not-is_ordinary : goal.returns-then-not-is_ordinary
returns-then-not-is_ordinary c =
    let g = c.args.editor.now.now in
    let t = c.args.t in
    (no_loop g t (sym c.has_loop.ensures.value ∙ c.if-has_loop.false), weight_found g t (sym c.is_ordinary.ensures ∙ c.if-not-is_ordinary.true))

pub returns-then-not-is_type2 : goal.returns-then-not-is_type2
returns-then-not-is_type2 c =
    let g = c.args.editor.now.now in
    let t = c.args.t in (
      pure_found g t (sym c.has_loop.ensures.value ∙ c.if-has_loop.false) (sym c.is_ordinary.ensures ∙ c.if-not-is_ordinary.false),
      λ secure. elim secure [
        | inl a ↦ not_type1 g t c.has_loop.ensures.draft.weightless (sym c.is_type1-type1.ensures.value ∙ c.if-not-type1.true) a
        | inr b ↦ not_type2 g t c.has_loop.ensures.draft.weightless (sym c.is_type2.ensures ∙ c.if-not-is_type2.true) b
      ],
    )

pub find_reason-requires-clause-contraction : goal.find_reason-requires-clause-contraction
find_reason-requires-clause-contraction c =
    let g = c.args.editor.now.now in
    let t = c.args.t in
    record {
      pure_ordinary = pure_found g t (sym c.has_loop.ensures.value ∙ c.if-has_loop.false) (sym c.is_ordinary.ensures ∙ c.if-not-is_ordinary.false);
      secure = elim c.else-not-type1.branch [
        | else-not-type1-via-then-not-type1+else-not-is_type2 w ↦ inr (type2_found g t (sym w.is_type2.ensures ∙ w.if-not-is_type2.false))
        | else-not-type1-via-else-not-type1 w ↦ inl (type1_found g t (sym c.is_type1-type1.ensures.value ∙ w.if-not-type1.false))
      ];
    }

pub returns-then-type1 : goal.returns-then-type1
returns-then-type1 c =
    let g = c.args.editor.now.now in
    let t = c.args.t in
    (subst (IsReason g t) c.in-None.is c.find_reason.ensures, type1_found g t (sym c.is_type1-type1.ensures.value ∙ c.if-type1.true))

pub returns-else-type1 : goal.returns-else-type1
returns-else-type1 c =
    let g = c.args.editor.now.now in
    let t = c.args.t in
    (subst (IsReason g t) c.in-None.is c.find_reason.ensures, not_type1 g t c.has_loop.ensures.draft.weightless (sym c.is_type1-type1.ensures.value ∙ c.if-type1.false))
