-- How a run ends, from how its steps end.
use Rattle.std.proofs.Common.{◌≡◌, ℕ, List, None, Some, Bool, inl, inr, refl, sym, subst}
use Rattle.stg_net.specs.Spec.{SpecLists}
use Rattle.stg_derive.specs.declared.part.Part.{Part}
use Rattle.desij.specs.Files.{files_of_parts}
use Rattle.desij.specs.Printing.{printed}
use Rattle.desij.specs.Reading.{Inputs, IsAccepted}
use Rattle.desij.specs.Run.{Seen, LeavesFiles, Prints, BreaksOff}
use Rattle.desij_words.specs.Words.{Decompose, Measure}
use Rattle.desij.specs.inner.Ends.{Ends, EndsMeasure, EndsUnmade, EndsUsage, Finishes}
use Rattle.desij.specs.inner.Unmade.{IsUnmade}
use Rattle.desij.specs.declared.answer.Unmade.{Unmade}
use Rattle.desij.specs.declared.answer.Unmade.TheVariants as unmade
use Rattle.desij.specs.declared.status.Status.{Status}
use Rattle.desij.specs.declared.status.Status.TheVariants.{Done, BadWords, Refused, ReadFault, WriteFault, PrintFault, NoMemory, ServeFault}

-- where the texts are accepted, the run ends as the putting and printing of the parts ends
pub accepted_ends : (d : Inputs) (steps : Bool) (workers : ℕ) (spec : SpecLists) (parts : List Part) (s : Status) (old new : Seen) → IsAccepted d spec parts old.source new.source
    → Finishes (files_of_parts spec.net steps parts) (printed parts) s old.shelf new.shelf old.sink new.sink → Ends (Some (Decompose d.spec workers d.partition steps)) s old new
accepted_ends d steps workers spec parts Done old new accepted ends = record { spec = spec; parts = parts; source = accepted; shelf = ends.0; sink = ends.1 }
accepted_ends d steps workers spec parts WriteFault old new accepted ends = record { spec = spec; parts = parts; source = accepted; shelf = ends.0; sink = ends.1 }
accepted_ends d steps workers spec parts PrintFault old new accepted ends = inr (record { spec = spec; parts = parts; source = accepted; shelf = ends.0; sink = ends.1 })
accepted_ends d steps workers spec parts NoMemory old new accepted ends = record { shelf = inr (record { spec = spec; parts = parts; source = accepted; shelf = ends.0 }); sink = ends.1 }
accepted_ends d steps workers spec parts BadWords old new accepted ends = absurd ends
accepted_ends d steps workers spec parts Refused old new accepted ends = absurd ends
accepted_ends d steps workers spec parts ReadFault old new accepted ends = absurd ends
accepted_ends d steps workers spec parts ServeFault old new accepted ends = absurd ends

-- where there are no parts, the run ends by why there are none
pub unmade_ends : (d : Inputs) (steps : Bool) (workers : ℕ) (e : Unmade) (s : Status) (old new : Seen) → IsUnmade d e old.source new.source
    → new.shelf ≡ old.shelf → EndsUnmade e s old.sink new.sink → Ends (Some (Decompose d.spec workers d.partition steps)) s old new
unmade_ends d steps workers unmade.Unread s old new why same ends =
    let P : Status → Type 0 = λ r. Ends (Some (Decompose d.spec workers d.partition steps)) r old new in
    subst P (sym ends.0) (record { source = why; shelf = same; sink = ends.1 })
unmade_ends d steps workers (unmade.Refused line) Refused old new why same ends = record { line = line; source = why; shelf = same; sink = ends }
unmade_ends d steps workers (unmade.Refused line) PrintFault old new why same ends = inl (record { line = line; source = why; shelf = same; sink = ends })
unmade_ends d steps workers (unmade.Refused line) Done old new why same ends = absurd ends
unmade_ends d steps workers (unmade.Refused line) BadWords old new why same ends = absurd ends
unmade_ends d steps workers (unmade.Refused line) ReadFault old new why same ends = absurd ends
unmade_ends d steps workers (unmade.Refused line) WriteFault old new why same ends = absurd ends
unmade_ends d steps workers (unmade.Refused line) NoMemory old new why same ends = absurd ends
unmade_ends d steps workers (unmade.Refused line) ServeFault old new why same ends = absurd ends
unmade_ends d steps workers unmade.NoMemory s old new why same ends =
    let P : Status → Type 0 = λ r. Ends (Some (Decompose d.spec workers d.partition steps)) r old new in
    subst P (sym ends.0) (record { shelf = inl same; sink = ends.1 })

-- a measurement reads and puts nothing
pub measure_ends : (n workers : ℕ) (s : Status) (old new : Seen) → LeavesFiles old new → EndsMeasure n s old.sink new.sink → Ends (Some (Measure n workers)) s old new
measure_ends n workers Done old new files ends =
    let m = ends.1.0 in
    record { spec = m.spec; parts = m.parts; answer = m.answer; files = files; sink = subst (λ line. Prints line old.sink new.sink) m.told ends.1.1 }
measure_ends n workers Refused old new files ends = record { line = ends.0; refused = ends.1.0; files = files; sink = ends.1.1 }
measure_ends n workers PrintFault old new files ends = elim ends.1.0 [
  | inl m ↦ inr (record { spec = m.spec; parts = m.parts; answer = m.answer; files = files; sink = subst (λ line. BreaksOff line old.sink new.sink) m.told ends.1.1 })
  | inr refused ↦ inl (record { line = ends.0; refused = refused; files = files; sink = ends.1.1 })
]
measure_ends n workers NoMemory old new files ends = record { files = files; sink = ends }
measure_ends n workers BadWords old new files ends = absurd ends
measure_ends n workers ReadFault old new files ends = absurd ends
measure_ends n workers WriteFault old new files ends = absurd ends
measure_ends n workers ServeFault old new files ends = absurd ends

-- words that aren't of the form end with the usage
pub usage_ends : (s : Status) (old new : Seen) → LeavesFiles old new → EndsUsage s old.sink new.sink → Ends None s old new
usage_ends BadWords old new files ends = record { no_form = refl; files = files; sink = ends }
usage_ends PrintFault old new files ends = record { files = files; sink = ends }
usage_ends Done old new files ends = absurd ends
usage_ends Refused old new files ends = absurd ends
usage_ends ReadFault old new files ends = absurd ends
usage_ends WriteFault old new files ends = absurd ends
usage_ends NoMemory old new files ends = absurd ends
usage_ends ServeFault old new files ends = absurd ends
