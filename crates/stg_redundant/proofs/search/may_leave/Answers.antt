use Rattle.std.proofs.Common.{◌+◌, inl, subst, ◌∙◌}
use Rattle.stg_redundant.proofs.LinkTables.{among_given}
use Rattle.stg_redundant.proofs.DeadEnds.{AreShut, shut_more, shut_none}
use Rattle.stg_redundant.proofs.search.may_leave.Goals as goal

pub loop-q-init : goal.loop-q-init
loop-q-init c l at from other =
    let g = c.args.editor.now.now in
    let left = c.into_iter-q-iterator.result in
    inl (among_given g c.args.sought.giver left c.requires.draft.narrow (c.into_iter-q-iterator.ensures.into_iter_gives ∙ c.gives-q-items.ensures.value) l at from)

pub loop-q-preserved : goal.loop-q-preserved
loop-q-preserved c =
    let g = c.args.editor.now.now in
    let s = c.args.sought in
    shut_more g s.place s.giver s.taker (s.tokens + 1) (c.in-Some.q, c.in-Some.field-0-1) c.loop-q.q-iterator c.next.new.self c.in-Some.ensures.steps (c.may_begin.ensures c.if-may_begin.false) c.loop-q.invariant

pub returns : goal.returns
returns c shut h =
    let g = c.args.editor.now.now in
    let s = c.args.sought in
    let none = subst (AreShut g s.place s.giver s.taker (s.tokens + 1)) c.in-None.ensures.steps.0 c.loop-q.invariant in
    shut_none g s.place s.giver s.taker s.tokens none h
