use Rattle.std.proofs.Common.{◌≡◌, ℕ, true, subst}
use Rattle.stg_redundant.specs.inner.Chains.{IsAmong}
use Rattle.stg_redundant.specs.inner.Tests.{has_arcs_of}
use Rattle.stg_redundant.proofs.Besides.{step_added, none_left, passing_split}
use Rattle.stg_redundant.proofs.watch.PlaceWatch.add_same.Goals as goal

pub loop-q-preserved : goal.loop-q-preserved
loop-q-preserved c =
    let test = has_arcs_of c.args.editor.now.now c.args.p in
    let q = c.in-Some.q in
    let x : ℕ × ℕ = (q, c.in-Some.field-0-1) in
    let whole = c.loop-q.q-iterator in
    let left = c.next.new.self in
    record {
      kept = λ r h. c.in_ok-add_same_at.ensures.kept r (c.loop-q.invariant.kept r h);
      left = step_added (λ r. IsAmong r c.args.places × (test r ≡ true)) (λ r. (r ≡ q) × (test r ≡ true)) (λ r. IsAmong r whole × (test r ≡ true)) (λ r. IsAmong r left × (test r ≡ true)) c.args.self.now c.loop-q.self c.add_same_at.new.self (passing_split test x whole left c.in-Some.ensures.steps) c.in_ok-add_same_at.ensures.ok c.loop-q.invariant.left;
    }

pub returns-clause-ok : goal.returns-clause-ok
returns-clause-ok c =
    let test = has_arcs_of c.args.editor.now.now c.args.p in
    let left = c.loop-q.q-iterator in
    none_left (λ r. IsAmong r c.args.places × (test r ≡ true)) (λ r. IsAmong r left × (test r ≡ true)) c.args.self.now c.loop-q.self (λ r h. subst (IsAmong r) c.in-None.ensures.steps.0 h.0) c.loop-q.invariant.left

pub returns-in_err-add_same_at-clause-kept : goal.returns-in_err-add_same_at-clause-kept
returns-in_err-add_same_at-clause-kept c r h = c.in_err-add_same_at.ensures.kept r (c.loop-q.invariant.kept r h)
