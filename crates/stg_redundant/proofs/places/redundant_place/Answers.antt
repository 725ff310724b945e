use Rattle.std.proofs.Common.{sym, subst}
use Rattle.stg_redundant.specs.Watching.{AreWatched}
use Rattle.stg_redundant.proofs.WatchLists.{live_are_watched}
use Rattle.stg_redundant.proofs.places.redundant_place.Goals as goal

pub next-requires : goal.next-requires
next-requires c =
    let g = c.args.editor.now.now in
    record { watched = subst (AreWatched g) (sym c.in_ok-watch.ensures) (live_are_watched g) }
