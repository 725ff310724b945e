use Rattle.std.proofs.Common.{◌≡◌, ◌<◌, ℕ, true, All, length, sym, subst}
use Rattle.stg_contract.proofs.WatchAdds.{rest_have}
use Rattle.stg_redundant.specs.FlaggedDummies.{IsFlagged}
use Rattle.stg_redundant.specs.inner.Tests.{is_same_dummy}
use Rattle.stg_redundant.proofs.FlagAdds.{flags-trans, one_done}
use Rattle.stg_redundant.proofs.dummy_watch.add_all_same.Goals as goal

pub loop-u-preserved : goal.loop-u-preserved
loop-u-preserved c =
    let g = c.args.editor.now.now in
    let v = c.args.v in
    let i = c.loop-u.invariant in
    let x : ℕ × ℕ = (c.in-Some.u, c.in-Some.field-0-1) in
    let left = c.loop-u.u-iterator in
    let rest = c.next.new.self in
    let now = c.loop-u.watch in
    let new = c.add_same_at.new.watch in
    let more = c.add_same_at.ensures.kept in
    record {
      kept = flags-trans c.args.watch.now now new i.kept more;
      below = subst (λ n. All (λ (x : ℕ × ℕ). x.0 < n) rest) (sym more.as_long) (rest_have (λ (x : ℕ × ℕ). x.0 < length now) x left rest c.in-Some.ensures.steps i.below);
      added = one_done (λ u. is_same_dummy g v u ≡ true → IsFlagged now u) (λ u. is_same_dummy g v u ≡ true → IsFlagged new u) x c.args.trans left rest c.in-Some.ensures.steps (λ u was same. more.kept u (was same)) c.in_ok-add_same_at.ensures.added i.added;
    }
