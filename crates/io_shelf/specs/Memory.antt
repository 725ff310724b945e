-- The forms in memory as contracts see them.
use Rattle.std.specs.Prelude.{ℕ, Bool, false, List, [], map, Some}
use Rattle.io_shelf.specs.declared.calls.Calls.{Calls}
use Rattle.io_shelf.specs.Calls.{fresh_calls}
use Rattle.io_shelf.specs.Entries.{NamedBytes, files_of}
use Rattle.io_shelf.specs.Outside.{SeenSource, SeenShelf, SeenSink}
use Rattle.io_shelf.specs.Doors.{SeenLink, SeenDoors}

-- a source: its texts, what is left of the selected one, and the most that one read gives
pub record SourceState : Type 0 where
  pub texts : List NamedBytes
  pub left : List ℕ
  pub piece : ℕ
  pub selects : ℕ
  pub calls : Calls

-- a shelf: its files, in the order in which their names came
pub record ShelfState : Type 0 where
  pub files : List NamedBytes
  pub calls : Calls

-- a sink: the bytes written, and how many there can be
pub record SinkState : Type 0 where
  pub bytes : List ℕ
  pub room : ℕ
  pub calls : Calls

-- nothing is selected
abbrev pub fresh_source : List NamedBytes → ℕ → List ℕ → SourceState
fresh_source texts piece fails = record {
  texts = texts;
  left = [];
  piece = piece;
  selects = 0;
  calls = fresh_calls fails;
}

-- no file
abbrev pub fresh_shelf : List ℕ → ShelfState
fresh_shelf fails = record { files = []; calls = fresh_calls fails }

-- no byte
abbrev pub fresh_sink : ℕ → List ℕ → SinkState
fresh_sink room fails = record { bytes = []; room = room; calls = fresh_calls fails }

-- a source tells all that it has
abbrev pub seen_source : SourceState → SeenSource
seen_source s = record {
  texts = Some (files_of s.texts);
  left = Some s.left;
  selects = s.selects;
  faults = s.calls.faults;
}

-- so does a shelf
abbrev pub seen_shelf : ShelfState → SeenShelf
seen_shelf s = record { files = Some (files_of s.files); faults = s.calls.faults }

-- and a sink
abbrev pub seen_sink : SinkState → SeenSink
seen_sink s = record { written = Some s.bytes; faults = s.calls.faults }

-- a link: its bytes left and written, the most that one read gives, how many bytes can be written,
-- and whether a read failed
pub record LinkState : Type 0 where
  pub left : List ℕ
  pub written : List ℕ
  pub piece : ℕ
  pub room : ℕ
  pub broken : Bool
  pub calls : Calls

-- doors: the links to come at an address, the finished ones, whether they were told to listen, and
-- whether they do
pub record DoorsState : Type 0 where
  pub addr : List ℕ
  pub coming : List LinkState
  pub finished : List LinkState
  pub asked : Bool
  pub listening : Bool
  pub calls : Calls

-- before any call
abbrev pub fresh_link : List ℕ → ℕ → ℕ → List ℕ → LinkState
fresh_link input piece room fails = record {
  left = input;
  written = [];
  piece = piece;
  room = room;
  broken = false;
  calls = fresh_calls fails;
}

-- before any call
abbrev pub fresh_doors : List ℕ → List LinkState → List ℕ → DoorsState
fresh_doors addr links fails = record {
  addr = addr;
  coming = links;
  finished = [];
  asked = false;
  listening = false;
  calls = fresh_calls fails;
}

-- a link tells all its bytes
abbrev pub seen_link : LinkState → SeenLink
seen_link l = record {
  left = Some l.left;
  written = Some l.written;
  faults = l.calls.faults;
  broken = l.broken;
}

-- and doors all their links
abbrev pub seen_doors : DoorsState → SeenDoors
seen_doors d = record {
  links = Some (record {
    addr = d.addr;
    coming = map seen_link d.coming;
    finished = map seen_link d.finished;
  });
  asked = d.asked;
  listening = d.listening;
  faults = d.calls.faults;
}
