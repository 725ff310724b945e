use Rattle.std.proofs.Common.{◌≡◌, ◌<◌, ◌+◌, length, get_or, Contains, arith}
use Rattle.std.proofs.lemmas.List.{get_or_default}
use Rattle.stg_redundant.specs.Watching.{IsInReach}
use Rattle.stg_contract.proofs.WatchAdds.{IsFrom, from_split, from_all}
use Rattle.stg_redundant.proofs.Besides.{all_left, step_added, none_left}
use Rattle.stg_redundant.proofs.Reaching.{reach_same, reach_split, reach_empty}
use Rattle.stg_redundant.proofs.watch.PlaceWatch.add_each.Goals as goal

pub loop-p-init : goal.loop-p-init
loop-p-init c =
    let g = c.args.editor.now.now in
    let places = c.args.places.now in
    record {
      kept = λ q h. h;
      left = all_left (IsInReach g (Contains places) ⊥) (IsInReach g (IsFrom places 0) ⊥) c.args.self.now (λ q. reach_same g (IsFrom places 0) (Contains places) q (from_all places));
    }

pub loop-p-preserved : goal.loop-p-preserved
loop-p-preserved c =
    let g = c.args.editor.now.now in
    let places = c.args.places.now in
    let i = c.loop-p.p-index in
    let low : i < length places = c.loop-p-test.true in
    let x = get_or places i 0 in
    let is = get_or_default places i x 0 low in
    record {
      kept = λ q h. c.in_ok-add_near.ensures.kept q (c.loop-p.invariant.kept q h);
      left = step_added (IsInReach g (Contains places) ⊥) (IsInReach g (λ r. r ≡ x) ⊥) (IsInReach g (IsFrom places i) ⊥) (IsInReach g (IsFrom places (i + 1)) ⊥) c.args.self.now c.loop-p.self c.add_near.new.self (reach_split g (IsFrom places i) (λ r. r ≡ x) (IsFrom places (i + 1)) (from_split places i x low is)) c.in_ok-add_near.ensures.ok c.loop-p.invariant.left;
    }

pub returns-clause-ok : goal.returns-clause-ok
returns-clause-ok c =
    let g = c.args.editor.now.now in
    let places = c.args.places.now in
    let i = c.loop-p.p-index in
    none_left (IsInReach g (Contains places) ⊥) (IsInReach g (IsFrom places i) ⊥) c.args.self.now c.loop-p.self (λ q. reach_empty g (IsFrom places i) q (λ p h. omega (arith, h.1, h.2, c.loop-p-test.false))) c.loop-p.invariant.left
