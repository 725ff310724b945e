-- The two ends of a cell.
use Rattle.stg_arena.specs.declared.end.End.{End}
use Rattle.stg_arena.specs.declared.end.End.TheVariants.{Place, Trans}

-- the end that isn't this one
abbrev pub other : End → End
other Place = Trans
other Trans = Place
