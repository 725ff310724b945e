-- What a run of the program does, for each status with which it ends.
use Rattle.std.specs.Prelude.{◌≡◌, ℕ, ◌⊎◌, Bool, List, Option, None, Some, IsSomeAnd, ⊤, is_some}
use Rattle.std.specs.Io.KnownBytes.{append_known}
use Rattle.stg_net.specs.declared.limits.TheConstants.Limits.{SPEC}
use Rattle.stg_net.specs.Net.{NetLists}
use Rattle.stg_net.specs.Spec.{SpecLists}
use Rattle.stg_laws.specs.Faithful.{AreComponents}
use Rattle.astg_read.specs.Standing.{StandsFor}
use Rattle.astg_write.specs.ReadsBack.{AreReadBack}
use Rattle.stg_derive.specs.declared.part.Part.{Part}
use Rattle.io_shelf.specs.Outside.{SeenSource, SeenShelf, SeenSink, Rose, named}
use Rattle.io_shelf.specs.Pipeline.{pipeline_text}
use Rattle.desij.specs.Answering.{Accepts, HasAnswer, IsAcceptable, IsRefusable, IsPartitionOf, IsRefusedBy, IsRefusedByGroups}
use Rattle.desij.specs.Files.{PutsAll, PutsFirst, PutsUpTo, files_of_parts, files_with}
use Rattle.desij.specs.Printing.{IsPrefixPrinted, measure_line, printed}
use Rattle.desij.specs.Reading.{HasText, Inputs, IsAccepted, IsRefused, IsUnreadable, LacksText, named_files, inputs}
use Rattle.desij_words.specs.Words.{Command, Decompose, Measure, usage}

-- all that is seen of the outside
pub record Seen : Type 0 where
  pub source : SeenSource
  pub shelf : SeenShelf
  pub sink : SeenSink

-- of these three
abbrev pub seen : SeenSource → SeenShelf → SeenSink → Seen
seen source shelf sink = record { source = source; shelf = shelf; sink = sink }

-- these bytes were printed
abbrev pub Prints : List ℕ → SeenSink → SeenSink → Type 0
Prints bytes old new = new.written ≡ append_known old.written bytes

-- a prefix of these bytes was printed, and the count of the sink's faults rose
pub record BreaksOff (bytes : List ℕ) (old new : SeenSink) : Type 0 where
  pub prefix : IsPrefixPrinted bytes old.written new.written
  pub rose : Rose old.faults new.faults

-- nothing was read or put
pub record LeavesFiles (old new : Seen) : Type 0 where
  pub source : new.source ≡ old.source
  pub shelf : new.shelf ≡ old.shelf

-- the words aren't of the form, the usage was printed, and nothing was read or put
pub record TellsUsage (form : Option Command) (old new : Seen) : Type 0 where
  pub no_form : form ≡ None
  pub files : LeavesFiles old new
  pub sink : Prints usage old.sink new.sink

-- the texts are accepted, and all files were put and all lines printed
pub record WritesParts (d : Inputs) (steps : Bool) (old new : Seen) : Type 0 where
  pub spec : SpecLists
  pub parts : List Part
  pub source : IsAccepted d spec parts old.source new.source
  pub shelf : PutsAll (files_of_parts spec.net steps parts) old.shelf new.shelf
  pub sink : Prints (printed parts) old.sink new.sink

-- the pipeline's text is accepted, and the sums over its parts were printed
pub record TellsMeasure (n : ℕ) (old new : Seen) : Type 0 where
  pub spec : SpecLists
  pub parts : List Part
  pub answer : HasAnswer (pipeline_text n) None spec parts
  pub files : LeavesFiles old new
  pub sink : Prints (measure_line n parts) old.sink new.sink

-- what the words call for was done
abbrev pub Completes : Command → Seen → Seen → Type 0
Completes (Decompose spec workers partition steps) old new =
    WritesParts (inputs spec partition) steps old new
Completes (Measure n workers) old new = TellsMeasure n old new

-- What WritesParts means, told without parts: the text stands for a specification; the component
-- texts of some nets were put, with a file for its log beside each where logs are wanted, and no
-- other file has changed; these nets share out what the specification drives, each has exactly its
-- traces on the net's signals, and together they are a correct decomposition of it, where it is
-- deterministic. Each net is read back from its file.
pub record WritesComponents (d : Inputs) (steps : Bool) (old new : Seen) : Type 0 where
  pub text : List ℕ
  pub has_text : HasText d.spec text old.source
  pub spec : SpecLists
  pub stands : StandsFor SPEC text spec
  pub nets : List NetLists
  pub logs : Option (List (List ℕ))
  pub logs_wanted : is_some logs ≡ steps
  pub put : PutsAll (files_with nets logs) old.shelf new.shelf
  pub components : AreComponents spec.net nets
  pub read_back : AreReadBack nets

-- with a command that puts files, these are components
abbrev pub PutsComponents : Command → Seen → Seen → Type 0
PutsComponents (Decompose spec workers partition steps) old new =
    WritesComponents (inputs spec partition) steps old new
PutsComponents (Measure n workers) old new = ⊤

-- a text is refused, by a line that was printed, and no file was put
pub record RefusesTexts (d : Inputs) (old new : Seen) : Type 0 where
  pub line : List ℕ
  pub source : IsRefused d line old.source new.source
  pub shelf : new.shelf ≡ old.shelf
  pub sink : Prints line old.sink new.sink

-- the pipeline's text is refused, by a line that was printed
pub record RefusesPipeline (n : ℕ) (old new : Seen) : Type 0 where
  pub line : List ℕ
  pub refused : IsRefusedBy (pipeline_text n) line
  pub files : LeavesFiles old new
  pub sink : Prints line old.sink new.sink

-- what the words call for was refused
abbrev pub Refuses : Command → Seen → Seen → Type 0
Refuses (Decompose spec workers partition steps) old new =
    RefusesTexts (inputs spec partition) old new
Refuses (Measure n workers) old new = RefusesPipeline n old new

-- a text that is to be read couldn't be, and nothing was put or printed
pub record ReadsNot (d : Inputs) (old new : Seen) : Type 0 where
  pub source : IsUnreadable d old.source new.source
  pub shelf : new.shelf ≡ old.shelf
  pub sink : new.sink ≡ old.sink

-- a text that the words call for couldn't be read
abbrev pub CannotRead : Command → Seen → Seen → Type 0
CannotRead (Decompose spec workers partition steps) old new =
    ReadsNot (inputs spec partition) old new
CannotRead (Measure n workers) old new = ⊥

-- the texts are accepted, a put failed, and nothing was printed
pub record PutsNot (d : Inputs) (steps : Bool) (old new : Seen) : Type 0 where
  pub spec : SpecLists
  pub parts : List Part
  pub source : IsAccepted d spec parts old.source new.source
  pub shelf : PutsUpTo (files_of_parts spec.net steps parts) old.shelf new.shelf
  pub sink : new.sink ≡ old.sink

-- a file that the words call for couldn't be put
abbrev pub CannotPut : Command → Seen → Seen → Type 0
CannotPut (Decompose spec workers partition steps) old new =
    PutsNot (inputs spec partition) steps old new
CannotPut (Measure n workers) old new = ⊥

-- the printing of the refusal broke off, and no file was put
pub record CannotRefuse (d : Inputs) (old new : Seen) : Type 0 where
  pub line : List ℕ
  pub source : IsRefused d line old.source new.source
  pub shelf : new.shelf ≡ old.shelf
  pub sink : BreaksOff line old.sink new.sink

-- all files were put, and the printing of the lines broke off
pub record CannotTell (d : Inputs) (steps : Bool) (old new : Seen) : Type 0 where
  pub spec : SpecLists
  pub parts : List Part
  pub source : IsAccepted d spec parts old.source new.source
  pub shelf : PutsAll (files_of_parts spec.net steps parts) old.shelf new.shelf
  pub sink : BreaksOff (printed parts) old.sink new.sink

-- the printing of a pipeline's refusal broke off
pub record CannotRefusePipeline (n : ℕ) (old new : Seen) : Type 0 where
  pub line : List ℕ
  pub refused : IsRefusedBy (pipeline_text n) line
  pub files : LeavesFiles old new
  pub sink : BreaksOff line old.sink new.sink

-- the printing of a pipeline's sums broke off
pub record CannotTellMeasure (n : ℕ) (old new : Seen) : Type 0 where
  pub spec : SpecLists
  pub parts : List Part
  pub answer : HasAnswer (pipeline_text n) None spec parts
  pub files : LeavesFiles old new
  pub sink : BreaksOff (measure_line n parts) old.sink new.sink

-- the printing of the usage broke off, and nothing was read or put
pub record CannotTellUsage (old new : Seen) : Type 0 where
  pub files : LeavesFiles old new
  pub sink : BreaksOff usage old.sink new.sink

-- what was to be printed broke off: the usage, where the words aren't of the form, or else a
-- refusal, the lines or the sums
abbrev pub CannotPrint : Option Command → Seen → Seen → Type 0
CannotPrint None old new = CannotTellUsage old new
CannotPrint (Some (Decompose spec workers partition steps)) old new =
    CannotRefuse (inputs spec partition) old new
    ⊎ CannotTell (inputs spec partition) steps old new
CannotPrint (Some (Measure n workers)) old new =
    CannotRefusePipeline n old new ⊎ CannotTellMeasure n old new

-- the texts are accepted, and the first files were put
pub record PutsSome (d : Inputs) (steps : Bool) (old new : Seen) : Type 0 where
  pub spec : SpecLists
  pub parts : List Part
  pub source : IsAccepted d spec parts old.source new.source
  pub shelf : PutsFirst (files_of_parts spec.net steps parts) old.shelf new.shelf

-- no file was put, or the first ones, and nothing was printed
pub record LacksMemory (d : Inputs) (steps : Bool) (old new : Seen) : Type 0 where
  pub shelf : (new.shelf ≡ old.shelf) ⊎ PutsSome d steps old new
  pub sink : new.sink ≡ old.sink

-- nothing was read, put or printed
pub record LeavesAll (old new : Seen) : Type 0 where
  pub files : LeavesFiles old new
  pub sink : new.sink ≡ old.sink

-- memory ran out for what the words call for
abbrev pub RunsOut : Command → Seen → Seen → Type 0
RunsOut (Decompose spec workers partition steps) old new =
    LacksMemory (inputs spec partition) steps old new
RunsOut (Measure n workers) old new = LeavesAll old new

-- no count of faults rose
pub record NoneRose (old new : Seen) : Type 0 where
  pub source : ¬ Rose old.source.faults new.source.faults
  pub shelf : ¬ Rose old.shelf.faults new.shelf.faults
  pub sink : ¬ Rose old.sink.faults new.sink.faults

-- the source tells a text of that name, and it is refused
abbrev pub TellsRefusable : List ℕ → SeenSource → Type 0
TellsRefusable name source = IsSomeAnd (named source.texts name) IsRefusable

-- The source tells a text of the specification that is accepted, and one of the partition that is
-- refused.
pub record TellsRefusedPartition (d : Inputs) (source : SeenSource) : Type 0 where
  pub text : List ℕ
  pub has_text : named source.texts d.spec ≡ Some text
  pub spec : SpecLists
  pub accepts : Accepts text spec
  pub file : List ℕ
  pub names : d.partition ≡ Some file
  pub partition : List ℕ
  pub has_partition : named source.texts file ≡ Some partition
  pub line : List ℕ
  pub refused : IsRefusedByGroups spec partition line

-- what the words call for is told and refused
abbrev pub TellsRefused : Command → SeenSource → Type 0
TellsRefused (Decompose spec workers partition steps) source =
    TellsRefusable spec source ⊎ TellsRefusedPartition (inputs spec partition) source
TellsRefused (Measure n workers) source = IsRefusable (pipeline_text n)

-- the partition, where one is named, is told and names feasible groups of the specification
abbrev pub TellsFeasible : SpecLists → Option (List ℕ) → SeenSource → Type 0
TellsFeasible spec None source = ⊤
TellsFeasible spec (Some file) source =
    IsSomeAnd (named source.texts file) (IsPartitionOf spec)

-- the source tells a text of the specification that is accepted, and a feasible partition, where
-- one is named
pub record TellsTexts (d : Inputs) (source : SeenSource) : Type 0 where
  pub text : List ℕ
  pub has_text : named source.texts d.spec ≡ Some text
  pub spec : SpecLists
  pub accepts : Accepts text spec
  pub feasible : TellsFeasible spec d.partition source

-- what the words call for is told and accepted
abbrev pub TellsAccepted : Command → SeenSource → Type 0
TellsAccepted (Decompose spec workers partition steps) source =
    TellsTexts (inputs spec partition) source
TellsAccepted (Measure n workers) source = IsAcceptable (pipeline_text n)

-- the source tells its texts, and lacks one that the words call for
abbrev pub TellsMissing : Command → SeenSource → Type 0
TellsMissing (Decompose spec workers partition steps) source =
    LacksText (inputs spec partition) source
TellsMissing (Measure n workers) source = ⊥

-- how many files the words name
abbrev pub files_named : Option Command → ℕ
files_named None = 0
files_named (Some (Decompose spec workers partition steps)) =
    named_files (inputs spec partition)
files_named (Some (Measure n workers)) = 0
