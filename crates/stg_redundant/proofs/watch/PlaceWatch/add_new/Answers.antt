use Rattle.std.proofs.Common.{◌≡◌, ◌≤◌, ◌+◌, length, arith}
use Rattle.stg_redundant.specs.Watching.{IsNewPlace, IsInReach}
use Rattle.stg_redundant.proofs.Besides.{step_added, none_left}
use Rattle.stg_redundant.proofs.Reaching.{reach_split, reach_past, new_split}
use Rattle.stg_redundant.proofs.watch.PlaceWatch.add_new.Goals as goal

pub loop-p-preserved : goal.loop-p-preserved
loop-p-preserved c =
    let g = c.args.editor.now.now in
    let k = c.loop-p.p in
    record {
      kept = λ q h. c.in_ok-add_near.ensures.kept q (c.loop-p.invariant.kept q h);
      left = step_added (IsInReach g (IsNewPlace c.args.first) ⊥) (IsInReach g (λ r. r ≡ k) ⊥) (IsInReach g (IsNewPlace k) ⊥) (IsInReach g (IsNewPlace (k + 1)) ⊥) c.args.self.now c.loop-p.self c.add_near.new.self (reach_split g (IsNewPlace k) (λ r. r ≡ k) (IsNewPlace (k + 1)) (new_split k)) c.in_ok-add_near.ensures.ok c.loop-p.invariant.left;
    }

pub returns-clause-ok : goal.returns-clause-ok
returns-clause-ok c =
    let g = c.args.editor.now.now in
    let k = c.loop-p.p in
    let past : length g.places ≤ k = omega (arith, c.loop-p-test.false, c.next_place-p-end.ensures.value) in
    none_left (IsInReach g (IsNewPlace c.args.first) ⊥) (IsInReach g (IsNewPlace k) ⊥) c.args.self.now c.loop-p.self (λ q h. reach_past g k q past h) c.loop-p.invariant.left
