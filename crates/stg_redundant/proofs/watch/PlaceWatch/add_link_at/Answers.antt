use Rattle.std.proofs.Common.{◌≡◌, ℕ}
use Rattle.stg_redundant.specs.Watching.{IsLinkPlace, HasBesides}
use Rattle.stg_redundant.proofs.Besides.{on_ok, besides_where}
use Rattle.stg_redundant.proofs.watch.PlaceWatch.add_link_at.Goals as goal

pub returns-then-is_link-clause-ok : goal.returns-then-is_link-clause-ok
returns-then-is_link-clause-ok c =
    let IsLinkNow : ℕ → Type 0 = IsLinkPlace c.args.editor.now.now in
    let p = c.args.p in
    let old = c.args.self.now in
    let new = c.add.new.self in
    on_ok (HasBesides (λ q. q ≡ p) old new) (HasBesides (λ q. (q ≡ p) × IsLinkNow q) old new) (besides_where IsLinkNow p old new (c.is_link.ensures.0 c.if-is_link.true)) c.add.result c.add.ensures.ok
