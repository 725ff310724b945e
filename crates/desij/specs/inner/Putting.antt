-- How the putting of files ends.
use Rattle.std.specs.Prelude.{List, Result, Ok, Err}
use Rattle.io_shelf.specs.Entries.{NamedBytes}
use Rattle.io_shelf.specs.Outside.{SeenShelf}
use Rattle.io_shelf.specs.declared.outside.PutError.{PutError}
use Rattle.io_shelf.specs.declared.outside.PutError.TheVariants.{Failed, NoMemory}
use Rattle.desij.specs.Files.{PutsAll, PutsFirst, PutsUpTo}

-- what is put of these files, by how it ended
abbrev pub Puts : {T : Type 0} → List NamedBytes → Result T PutError → SeenShelf → SeenShelf
    → Type 0
Puts files (Ok _) old new = PutsAll files old new
Puts files (Err Failed) old new = PutsUpTo files old new
Puts files (Err NoMemory) old new = PutsFirst files old new
