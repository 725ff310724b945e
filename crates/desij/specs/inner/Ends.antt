-- How the steps of a run end, by their status.
use Rattle.std.specs.Prelude.{◌≡◌, ◌⊎◌, ℕ, List, Option, IsSomeAnd, ◌≤◌, Result, IsErrOf}
use Rattle.io_shelf.specs.Entries.{NamedBytes}
use Rattle.io_shelf.specs.Outside.{SeenShelf, SeenSink, SeenSource, IsMissing, Rose}
use Rattle.desij.specs.Files.{PutsAll, PutsFirst, PutsUpTo}
use Rattle.desij.specs.Run.{Seen, Prints, BreaksOff, TellsUsage, Completes, Refuses, CannotRead, CannotPut, CannotPrint, RunsOut}
use Rattle.desij_words.specs.Words.{Command, usage}
use Rattle.desij.specs.Answering.{IsRefusedBy}
use Rattle.desij.specs.inner.Measured.{IsMeasured}
use Rattle.desij.specs.declared.answer.Unmade.{Unmade}
use Rattle.desij.specs.declared.answer.Unmade.TheVariants as unmade
use Rattle.io_shelf.specs.Pipeline.{pipeline_text}
use Rattle.desij.specs.declared.status.Status.{Status}
use Rattle.desij.specs.declared.status.Status.TheVariants.{Done, BadWords, Refused, ReadFault, WriteFault, PrintFault, NoMemory, ServeFault}
use Rattle.desij.specs.declared.reading.TextError.{TextError}
use Rattle.desij.specs.declared.reading.TextError.TheVariants as text_error

-- how a run ends
abbrev pub Ends : Option Command → Status → Seen → Seen → Type 0
Ends form Done old new = IsSomeAnd form (λ c. Completes c old new)
Ends form BadWords old new = TellsUsage form old new
Ends form Refused old new = IsSomeAnd form (λ c. Refuses c old new)
Ends form ReadFault old new = IsSomeAnd form (λ c. CannotRead c old new)
Ends form WriteFault old new = IsSomeAnd form (λ c. CannotPut c old new)
Ends form PrintFault old new = CannotPrint form old new
Ends form NoMemory old new = IsSomeAnd form (λ c. RunsOut c old new)
Ends form ServeFault old new = ⊥

-- how the printing of a refusal ends
abbrev pub EndsRefusal : List ℕ → Status → SeenSink → SeenSink → Type 0
EndsRefusal line Refused old new = Prints line old new
EndsRefusal line PrintFault old new = BreaksOff line old new
EndsRefusal line s old new = ⊥

-- how a run ends that has no parts
abbrev pub EndsUnmade : Unmade → Status → SeenSink → SeenSink → Type 0
EndsUnmade unmade.Unread s old new = (s ≡ ReadFault) × (new ≡ old)
EndsUnmade (unmade.Refused line) s old new = EndsRefusal line s old new
EndsUnmade unmade.NoMemory s old new = (s ≡ NoMemory) × (new ≡ old)

-- how the printing of the usage ends
abbrev pub EndsUsage : Status → SeenSink → SeenSink → Type 0
EndsUsage BadWords old new = Prints usage old new
EndsUsage PrintFault old new = BreaksOff usage old new
EndsUsage s old new = ⊥

-- how a measurement ends
abbrev pub EndsMeasure : ℕ → Status → SeenSink → SeenSink → Type 0
EndsMeasure n Done old new = (line : List ℕ) × (IsMeasured n line × Prints line old new)
EndsMeasure n Refused old new =
    (line : List ℕ) × (IsRefusedBy (pipeline_text n) line × Prints line old new)
EndsMeasure n PrintFault old new =
    (line : List ℕ)
    × ((IsMeasured n line ⊎ IsRefusedBy (pipeline_text n) line) × BreaksOff line old new)
EndsMeasure n NoMemory old new = new ≡ old
EndsMeasure n s old new = ⊥

-- how the putting of these files and the printing of these lines ends
abbrev pub Finishes : List NamedBytes → List ℕ → Status → SeenShelf → SeenShelf → SeenSink
    → SeenSink → Type 0
Finishes files lines Done old new sink sink' = PutsAll files old new × Prints lines sink sink'
Finishes files lines WriteFault old new sink sink' = PutsUpTo files old new × (sink' ≡ sink)
Finishes files lines PrintFault old new sink sink' =
    PutsAll files old new × BreaksOff lines sink sink'
Finishes files lines NoMemory old new sink sink' = PutsFirst files old new × (sink' ≡ sink)
Finishes files lines s old new sink sink' = ⊥

-- the count of faults never falls; a failure comes only where it rose, and a missing text only
-- where the texts are told and none has that name
pub record HasTextCause {T : Type 0} (name : List ℕ) (result : Result T TextError)
    (old new : SeenSource) : Type 0 where
  pub later : old.faults ≤ new.faults
  pub failed : IsErrOf result text_error.Failed → Rose old.faults new.faults
  pub missing : IsErrOf result text_error.Missing → IsMissing name old
