use Rattle.std.proofs.Common.{◌≡◌, ◌++◌, map, drop}
use Rattle.astg_read.specs.Reading.{place_name}
use Rattle.astg_read.specs.inner.Views.{place_view}
use Rattle.astg_read.proofs.finish.place_names.Given as goal

abbrev pub invariant-loop-place : goal.invariant-loop-place
invariant-loop-place l = l.names ++ map (place_name l.trans.keys) (map place_view (drop l.place-index l.places)) ≡ map (place_name l.trans.keys) (map place_view l.places)
