use Rattle.stg_derive.proofs.StillWatching.{watching_all}
use Rattle.stg_derive.proofs.watches.watch_all.Goals as goal

pub returns : goal.returns
returns c =
    watching_all c.args.editor.now.now _ c.in_ok-of.ensures c.in_ok-of-2.ensures c.in_ok-of-3.ensures.long c.in_ok-of-3.ensures.watched c.in_ok-of-4.ensures.long c.in_ok-of-4.ensures.weighed
