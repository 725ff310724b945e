-- What the end of a run tells of its status.
use Rattle.std.proofs.Common.{◌≡◌, ℕ, ◌≤◌, ◌<◌, ◌⊎◌, Bool, true, false, List, [], ◌++◌, Option, None, Some, IsSome, IsSomeAnd, is_some, inl, inr, refl, sym, ap, ◌∙◌, subst, length, length-append, arith, append-nil}
use Rattle.std.specs.Io.KnownBytes.{IsAtEnd, prepend_known}
use Rattle.std.proofs.lemmas.Bool.{false≢true}
use Rattle.stg_net.specs.declared.limits.TheConstants.Limits.{SPEC}
use Rattle.stg_net.specs.Spec.{SpecLists}
use Rattle.stg_derive.specs.declared.part.Part.{Part}
use Rattle.stg_decomp.specs.Parts.{nets_of}
use Rattle.io_shelf.specs.Outside.{Files, SeenSource, IsMissing, named}
use Rattle.io_shelf.specs.Pipeline.{pipeline_text}
use Rattle.desij.specs.Answering.{Accepts, Decomposes, IsAcceptable, IsPartitionOf, IsRefusable}
use Rattle.desij.specs.Files.{logs_of}
use Rattle.desij.specs.Reading.{HasText, HasTextOf, Inputs, inputs, IsAccepted, IsRefused, IsRefusedPartitionOf, IsRefusedText, LacksText, ReadsUpTo, most_read}
use Rattle.desij.specs.Run.{Seen, NoneRose, TellsAccepted, TellsFeasible, TellsMissing, TellsRefused, TellsTexts, Completes, PutsComponents}
use Rattle.desij_words.specs.Words.{Command, Decompose, Measure}
use Rattle.desij.specs.inner.Ends.{Ends}
use Rattle.desij.specs.declared.status.Status.{Status}
use Rattle.desij.specs.declared.status.Status.TheVariants.{Done, BadWords, Refused, ReadFault, WriteFault, PrintFault, NoMemory, ServeFault}
use Rattle.desij.proofs.AnswerLemmas.{accepted_net, accepts_once, not_both, not_both_groups, partition_of, partition_short, stands_short}

-- where a name has a text, the texts are told
told_by_name : (files : Option Files) (name text : List ℕ) → named files name ≡ Some text → IsSome files
told_by_name None name text e = cc
told_by_name (Some m) name text e = refl

-- a text that is told is what was read
same_text : (name told text : List ℕ) (old : SeenSource) → named old.texts name ≡ Some told → HasText name text old → text ≡ told
same_text name told text old here has =
    let read : Some told ≡ Some text = sym here ∙ has (told_by_name old.texts name told here) in
    cc

-- the prefix of a text that is as long as may be read is the whole of a short one
prefix_is_whole : (whole text : List ℕ) (left : Option (List ℕ)) → Some whole ≡ prepend_known text left
    → (length text < most_read → IsAtEnd left) → length whole ≤ SPEC.bytes → whole ≡ text
prefix_is_whole whole text None e rest short = cc
prefix_is_whole whole text (Some left) e rest short =
    let same : whole ≡ text ++ left = cc in
    let none_left : left ≡ [] = rest (omega (arith, ap length same, length-append text left)) in
    rw (same, none_left) (append-nil text)

-- a short text that is told is what was read of it
same_prefix : (name told text : List ℕ) (old new : SeenSource) → named old.texts name ≡ Some told → length told ≤ SPEC.bytes → ReadsUpTo most_read name text old new → told ≡ text
same_prefix name told text old new here short read =
    let prefix = sym here ∙ read.told (told_by_name old.texts name told here) in
    prefix_is_whole told text new.left prefix read.rest short

-- a name that is told to have a text isn't missing
not_missing : (name told : List ℕ) (old : SeenSource) → named old.texts name ≡ Some told → IsMissing name old → ⊥
not_missing name told old here missing = let never : Some told ≡ None = sym here ∙ missing.unnamed in cc

-- what was read is told where the texts are
read_there : (most : ℕ) (name text : List ℕ) (old new : SeenSource) → ReadsUpTo most name text old new → IsMissing name old → ⊥
read_there most name text old new read missing = go new.left (read.some_left missing.told) (sym missing.unnamed ∙ read.told missing.told)
  where
    go : (left : Option (List ℕ)) → IsSome left → None ≡ prepend_known text left → ⊥
    go None some e = false≢true some
    go (Some rest) some e = cc

whole_there : (name text : List ℕ) (old : SeenSource) → HasText name text old → IsMissing name old → ⊥
whole_there name text old has missing = let e : None ≡ Some text = sym missing.unnamed ∙ has missing.told in cc

-- where a text is told, what is said of it is said of this one
at_told : (P : List ℕ → Type 0) (found : Option (List ℕ)) (told : List ℕ) → found ≡ Some told → IsSomeAnd found P → P told
at_told P found told here said = let Q : Option (List ℕ) → Type 0 = λ f. IsSomeAnd f P in subst Q here said

-- a text of which something is said is there
pub record Told (P : List ℕ → Type 0) (found : Option (List ℕ)) : Type 0 where
  text : List ℕ
  here : found ≡ Some text
  said : P text

told : (P : List ℕ → Type 0) (found : Option (List ℕ)) → IsSomeAnd found P → Told P found
told P None said = absurd said
told P (Some text) said = record { text = text; here = refl; said = said }

acceptable : (text : List ℕ) (spec : SpecLists) → Accepts text spec → IsAcceptable text
acceptable text spec accepts = record { spec = spec; accepts = accepts }

-- an acceptable text that is told isn't refused
text_not_refused : (d : Inputs) (line text : List ℕ) (spec : SpecLists) (old new : SeenSource) → named old.texts d.spec ≡ Some text → Accepts text spec → IsRefusedText d line old new → ⊥
text_not_refused d line text spec old new here accepts refusal =
    let same = same_prefix d.spec text refusal.text old new here (stands_short text spec accepts.stands) refusal.read in
    not_both refusal.text line (subst IsAcceptable same (acceptable text spec accepts)) refusal.refused

-- a feasible partition that is told isn't refused
groups_not_refused : (d : Inputs) (line : List ℕ) (old new : SeenSource) → TellsTexts d old → IsRefusedPartitionOf d line old new → ⊥
groups_not_refused d line old new tells refusal =
    let spec_same = accepts_once tells.text tells.spec refusal.spec tells.accepts (subst (λ t. Accepts t refusal.spec) (same_text d.spec tells.text refusal.text old tells.has_text refusal.has_text) refusal.accepts) in
    let feasible : TellsFeasible refusal.spec (Some refusal.file) old = subst (λ p. TellsFeasible refusal.spec p old) refusal.names (subst (λ s. TellsFeasible s d.partition old) spec_same tells.feasible) in
    let p = told (IsPartitionOf refusal.spec) (named old.texts refusal.file) feasible in
    let same = same_prefix refusal.file p.text refusal.partition old new p.here (partition_short refusal.spec p.text p.said) refusal.read in
    not_both_groups refusal.spec refusal.partition line (accepted_net refusal.text refusal.spec refusal.accepts) (subst (IsPartitionOf refusal.spec) same p.said) refusal.refused

not_refused : (d : Inputs) (line : List ℕ) (old new : SeenSource) → TellsTexts d old → IsRefused d line old new → ⊥
not_refused d line old new tells (inl text) = text_not_refused d line tells.text tells.spec old new tells.has_text tells.accepts text
not_refused d line old new tells (inr groups) = groups_not_refused d line old new tells groups

-- texts that are told and accepted don't lack
not_lacking : (d : Inputs) (old : SeenSource) → TellsTexts d old → LacksText d old → ⊥
not_lacking d old tells (inl missing) = not_missing d.spec tells.text old tells.has_text missing
not_lacking d old tells (inr lacks) = go d.partition lacks.missing tells.feasible
  where
    go : (partition : Option (List ℕ)) → IsSomeAnd partition (λ file. IsMissing file old) → TellsFeasible tells.spec partition old → ⊥
    go None missing feasible = missing
    go (Some file) missing feasible =
        let p = told (IsPartitionOf tells.spec) (named old.texts file) feasible in
        not_missing file p.text old p.here missing

-- what is told and refused isn't accepted
not_accepted : (d : Inputs) (spec : SpecLists) (parts : List Part) (old new : SeenSource) → TellsRefused (Decompose d.spec 1 d.partition false) old → IsAccepted d spec parts old new → ⊥
not_accepted d spec parts old new (inl refusable) accepted =
    let r = told IsRefusable (named old.texts d.spec) refusable in
    let same = same_text d.spec r.text accepted.text old r.here accepted.has_text in
    not_both r.text r.said.line (acceptable r.text spec (subst (λ t. Accepts t spec) same accepted.answer.accepts)) r.said.refused
not_accepted d spec parts old new (inr refusal) accepted =
    let same = same_text d.spec refusal.text accepted.text old refusal.has_text accepted.has_text in
    let spec_same = accepts_once refusal.text spec refusal.spec (subst (λ t. Accepts t spec) same accepted.answer.accepts) refusal.accepts in
    let has : HasTextOf (Some refusal.file) accepted.partition old = subst (λ p. HasTextOf p accepted.partition old) refusal.names accepted.has_partition in
    go accepted.partition has (subst (λ s. Decomposes s accepted.partition parts) spec_same accepted.answer.decomposes)
  where
    go : (partition : Option (List ℕ)) → HasTextOf (Some refusal.file) partition old → Decomposes refusal.spec partition parts → ⊥
    go None has made = has
    go (Some text) has made =
        let same = same_text refusal.file refusal.partition text old refusal.has_partition has in
        not_both_groups refusal.spec refusal.partition refusal.line (accepted_net refusal.text refusal.spec refusal.accepts) (subst (IsPartitionOf refusal.spec) same (partition_of refusal.spec text parts made)) refusal.refused

-- what is told and refused isn't lacking
refused_there : (d : Inputs) (old : SeenSource) → TellsRefused (Decompose d.spec 1 d.partition false) old → LacksText d old → ⊥
refused_there d old (inl refusable) (inl missing) = let r = told IsRefusable (named old.texts d.spec) refusable in not_missing d.spec r.text old r.here missing
refused_there d old (inl refusable) (inr lacks) =
    let r = told IsRefusable (named old.texts d.spec) refusable in
    not_both r.text r.said.line (at_told IsAcceptable (named old.texts d.spec) r.text r.here lacks.accepted) r.said.refused
refused_there d old (inr refusal) (inl missing) = not_missing d.spec refusal.text old refusal.has_text missing
refused_there d old (inr refusal) (inr lacks) =
    let missing : IsMissing refusal.file old = at_told (λ file. IsMissing file old) d.partition refusal.file refusal.names lacks.missing in
    not_missing refusal.file refusal.partition old refusal.has_partition missing

-- a text that lacks wasn't read
lacking_unread : (d : Inputs) (spec : SpecLists) (parts : List Part) (old new : SeenSource) → LacksText d old → IsAccepted d spec parts old new → ⊥
lacking_unread d spec parts old new (inl missing) accepted = whole_there d.spec accepted.text old accepted.has_text missing
lacking_unread d spec parts old new (inr lacks) accepted = go d.partition accepted.partition lacks.missing accepted.has_partition
  where
    go : (file text : Option (List ℕ)) → IsSomeAnd file (λ f. IsMissing f old) → HasTextOf file text old → ⊥
    go None text missing has = missing
    go (Some file) None missing has = has
    go (Some file) (Some text) missing has = whole_there file text old has missing

lacking_unrefused : (d : Inputs) (line : List ℕ) (old new : SeenSource) → LacksText d old → IsRefused d line old new → ⊥
lacking_unrefused d line old new (inl missing) (inl refusal) = read_there most_read d.spec refusal.text old new refusal.read missing
lacking_unrefused d line old new (inl missing) (inr refusal) = whole_there d.spec refusal.text old refusal.has_text missing
lacking_unrefused d line old new (inr lacks) (inl refusal) =
    let a = told IsAcceptable (named old.texts d.spec) lacks.accepted in
    text_not_refused d line a.text a.said.spec old new a.here a.said.accepts refusal
lacking_unrefused d line old new (inr lacks) (inr refusal) =
    let missing : IsMissing refusal.file old = at_told (λ file. IsMissing file old) d.partition refusal.file refusal.names lacks.missing in
    read_there most_read refusal.file refusal.partition old new refusal.read missing

-- what the end of a run tells, told of its status
pub ends_with : (form : Option Command) (s status : Status) (old new : Seen) → Ends form s old new → s ≡ status → Ends form status old new
ends_with form s status old new ends is = let P : Status → Type 0 = λ r. Ends form r old new in subst P is ends

-- a run of accepted texts without a fault is done, but for want of memory
pub completes : (form : Option Command) (s : Status) (old new : Seen) → Ends form s old new → NoneRose old new → IsSomeAnd form (λ c. TellsAccepted c old.source)
    → (s ≡ Done) ⊎ (s ≡ NoMemory)
completes None s old new ends quiet tells = absurd tells
completes (Some c) Done old new ends quiet tells = inl refl
completes (Some c) NoMemory old new ends quiet tells = inr refl
completes (Some c) BadWords old new ends quiet tells = let e = ends.no_form in cc
completes (Some (Decompose spec workers partition steps)) Refused old new ends quiet tells = absurd (not_refused (inputs spec partition) ends.line old.source new.source tells ends.source)
completes (Some (Decompose spec workers partition steps)) ReadFault old new ends quiet tells = absurd (elim ends.source [ inl fails ↦ quiet.source fails.rose | inr lacks ↦ not_lacking (inputs spec partition) old.source tells lacks ])
completes (Some (Decompose spec workers partition steps)) WriteFault old new ends quiet tells = absurd (quiet.shelf ends.shelf.rose)
completes (Some (Decompose spec workers partition steps)) PrintFault old new ends quiet tells = absurd (elim ends [ inl refusal ↦ quiet.sink refusal.sink.rose | inr lines ↦ quiet.sink lines.sink.rose ])
completes (Some (Measure n workers)) Refused old new ends quiet tells = absurd (not_both (pipeline_text n) ends.line tells ends.refused)
completes (Some (Measure n workers)) ReadFault old new ends quiet tells = absurd ends
completes (Some (Measure n workers)) WriteFault old new ends quiet tells = absurd ends
completes (Some (Measure n workers)) PrintFault old new ends quiet tells = absurd (elim ends [ inl refusal ↦ quiet.sink refusal.sink.rose | inr lines ↦ quiet.sink lines.sink.rose ])
completes (Some c) ServeFault old new ends quiet tells = absurd ends

-- logs come where they are wanted
wanted_logs : (steps : Bool) (spec : SpecLists) (parts : List Part) → is_some (logs_of spec.net steps parts) ≡ steps
wanted_logs true spec parts = refl
wanted_logs false spec parts = refl

-- a run that is done has written components
pub done_means : (form : Option Command) (s : Status) (old new : Seen) → Ends form s old new → s ≡ Done → IsSomeAnd form (λ c. PutsComponents c old new)
done_means form Done old new ends is = go form ends
  where
    go : (form : Option Command) → IsSomeAnd form (λ c. Completes c old new) → IsSomeAnd form (λ c. PutsComponents c old new)
    go None ends = ends
    go (Some (Measure n workers)) ends = tt
    go (Some (Decompose spec workers partition steps)) ends =
        let meaning = ends.source.answer in record {
          text = ends.source.text;
          has_text = ends.source.has_text;
          spec = ends.spec;
          stands = meaning.accepts.stands;
          nets = nets_of ends.parts;
          logs = logs_of ends.spec.net steps ends.parts;
          logs_wanted = wanted_logs steps ends.spec ends.parts;
          put = ends.shelf;
          components = meaning.decomposes.components;
          read_back = meaning.decomposes.read_back;
        }
done_means form BadWords old new ends is = cc
done_means form Refused old new ends is = cc
done_means form ReadFault old new ends is = cc
done_means form WriteFault old new ends is = cc
done_means form PrintFault old new ends is = cc
done_means form NoMemory old new ends is = cc
done_means form ServeFault old new ends is = cc

-- a run that lacks a text can't read it
pub missing_ends : (form : Option Command) (s : Status) (old new : Seen) → Ends form s old new → IsSomeAnd form (λ c. TellsMissing c old.source)
    → (s ≡ ReadFault) ⊎ (s ≡ NoMemory)
missing_ends None s old new ends missing = absurd missing
missing_ends (Some (Measure n workers)) s old new ends missing = absurd missing
missing_ends (Some (Decompose spec workers partition steps)) ReadFault old new ends missing = inl refl
missing_ends (Some (Decompose spec workers partition steps)) NoMemory old new ends missing = inr refl
missing_ends (Some (Decompose spec workers partition steps)) Done old new ends missing = absurd (lacking_unread (inputs spec partition) ends.spec ends.parts old.source new.source missing ends.source)
missing_ends (Some (Decompose spec workers partition steps)) BadWords old new ends missing = let e = ends.no_form in cc
missing_ends (Some (Decompose spec workers partition steps)) Refused old new ends missing = absurd (lacking_unrefused (inputs spec partition) ends.line old.source new.source missing ends.source)
missing_ends (Some (Decompose spec workers partition steps)) WriteFault old new ends missing = absurd (lacking_unread (inputs spec partition) ends.spec ends.parts old.source new.source missing ends.source)
missing_ends (Some (Decompose spec workers partition steps)) PrintFault old new ends missing = absurd (elim ends [
  | inl refusal ↦ lacking_unrefused (inputs spec partition) refusal.line old.source new.source missing refusal.source
  | inr lines ↦ lacking_unread (inputs spec partition) lines.spec lines.parts old.source new.source missing lines.source
])
missing_ends (Some (Decompose spec workers partition steps)) ServeFault old new ends missing = absurd ends

-- a run of what is refused, without a fault, refuses it, but for want of memory
pub refuses : (form : Option Command) (s : Status) (old new : Seen) → Ends form s old new → NoneRose old new → IsSomeAnd form (λ c. TellsRefused c old.source)
    → (s ≡ Refused) ⊎ (s ≡ NoMemory)
refuses None s old new ends quiet tells = absurd tells
refuses (Some c) Refused old new ends quiet tells = inl refl
refuses (Some c) NoMemory old new ends quiet tells = inr refl
refuses (Some c) BadWords old new ends quiet tells = let e = ends.no_form in cc
refuses (Some (Decompose spec workers partition steps)) Done old new ends quiet tells = absurd (not_accepted (inputs spec partition) ends.spec ends.parts old.source new.source tells ends.source)
refuses (Some (Decompose spec workers partition steps)) ReadFault old new ends quiet tells = absurd (elim ends.source [ inl fails ↦ quiet.source fails.rose | inr lacks ↦ refused_there (inputs spec partition) old.source tells lacks ])
refuses (Some (Decompose spec workers partition steps)) WriteFault old new ends quiet tells = absurd (quiet.shelf ends.shelf.rose)
refuses (Some (Decompose spec workers partition steps)) PrintFault old new ends quiet tells = absurd (elim ends [ inl refusal ↦ quiet.sink refusal.sink.rose | inr lines ↦ quiet.sink lines.sink.rose ])
refuses (Some (Measure n workers)) Done old new ends quiet tells = absurd (not_both (pipeline_text n) tells.line (acceptable (pipeline_text n) ends.spec ends.answer.accepts) tells.refused)
refuses (Some (Measure n workers)) ReadFault old new ends quiet tells = absurd ends
refuses (Some (Measure n workers)) WriteFault old new ends quiet tells = absurd ends
refuses (Some (Measure n workers)) PrintFault old new ends quiet tells = absurd (elim ends [ inl refusal ↦ quiet.sink refusal.sink.rose | inr lines ↦ quiet.sink lines.sink.rose ])
refuses (Some c) ServeFault old new ends quiet tells = absurd ends
