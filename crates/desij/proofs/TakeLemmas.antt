-- What was read of texts, from each read to all.
use Rattle.std.proofs.Common.{◌≡◌, ◌++◌, ◌<◌, ◌≤◌, ◌+◌, ℕ, List, Option, None, Some, IsSome, IsSomeAnd, inl, inr, refl, sym, ap, ◌∙◌, append-nil, subst, length, arith}
use Rattle.std.specs.Io.KnownBytes.{IsAtEnd, prepend_known}
use Rattle.std.proofs.lemmas.Bool.{false≢true}
use Rattle.stg_net.specs.Spec.{SpecLists}
use Rattle.stg_derive.specs.declared.part.Part.{Part}
use Rattle.io_shelf.specs.Outside.{Files, SeenSource, IsMissing, Rose, named}
use Rattle.desij.specs.Answering.{Accepts, Decomposes, IsAcceptable}
use Rattle.desij.specs.Reading.{HasText, IsAccepted, ReadsUpTo, TellsAcceptable, inputs, most_read}
use Rattle.desij.specs.inner.Taken.{HasReadAll, TakesPartition, TakesSpec}
use Rattle.desij.specs.inner.Unmade.{IsPartitionUnread, IsTold, IsToldOf, IsUnmade, IsUntaken, partition_count}
use Rattle.desij.specs.declared.answer.Unmade.{Unmade}
use Rattle.desij.specs.declared.answer.Unmade.TheVariants as unmade
use Rattle.desij.proofs.AnswerLemmas.{stands_short, partition_short, partition_of}

whole : (text : List ℕ) (found left : Option (List ℕ)) → found ≡ prepend_known text left → IsSome left → IsAtEnd left → found ≡ Some text
whole text found None e some none = absurd (false≢true some)
whole text found (Some rest) e some none = e ∙ ap (λ (bs : List ℕ). Some (text ++ bs)) none ∙ ap Some (append-nil text)

-- a text that is read up to a bound, and is shorter, is read whole
pub reads_whole : (most : ℕ) (name text : List ℕ) (old new : SeenSource) → ReadsUpTo most name text old new → length text < most → HasText name text old × HasReadAll old new
reads_whole most name text old new read short =
    ((λ told. whole text (named old.texts name) new.left (read.told told) (read.some_left told) (read.rest short)), record { some_left = read.some_left; nothing_left = read.rest short })

-- a text that was read and is accepted was read whole
pub takes_spec : (name text : List ℕ) (spec : SpecLists) (old new : SeenSource) → ReadsUpTo most_read name text old new → Accepts text spec → TakesSpec name spec old new
takes_spec name text spec old new read accepts =
    let w = reads_whole most_read name text old new read (omega (arith, stands_short text spec accepts.stands)) in
    record { text = text; has_text = w.0; all = w.1; accepts = accepts }

-- why a text that was read gives no specification
pub told_untaken : (name text : List ℕ) (e : Unmade) (old new : SeenSource) → ReadsUpTo most_read name text old new → IsTold text e → IsUntaken name e old new
told_untaken name text unmade.Unread old new read told = absurd told
told_untaken name text (unmade.Refused line) old new read told = (text, (read, told))
told_untaken name text unmade.NoMemory old new read told = told

-- where texts are told, an accepted one is told to be acceptable
tells_acceptable : (name : List ℕ) (spec : SpecLists) (old mid : SeenSource) → TakesSpec name spec old mid → IsSome old.texts → TellsAcceptable name old
tells_acceptable name spec old mid taken told =
    let P : Option (List ℕ) → Type 0 = λ found. IsSomeAnd found IsAcceptable in
    subst P (sym (taken.has_text told)) (record { spec = spec; accepts = taken.accepts })

rose_later : (a b c : ℕ) → a ≤ b → Rose b c → Rose a c
rose_later a b c later rose = omega (arith, later, rose)

-- without a specification there are no parts
pub untaken_unmade : (name : List ℕ) (file : Option (List ℕ)) (e : Unmade) (old new : SeenSource) → IsUntaken name e old new → new.selects ≡ old.selects + 1 → IsUnmade (inputs name file) e old new
untaken_unmade name file unmade.Unread old new why selects = elim why [ inl rose ↦ inl (record { rose = rose; turn = inl selects }) | inr missing ↦ inr (inl missing) ]
untaken_unmade name file (unmade.Refused line) old new why selects = inl (record { text = why.0; read = why.1.0; selects = selects; refused = why.1.1 })
untaken_unmade name file unmade.NoMemory old new why selects = why

missing_before : (file : List ℕ) (old mid : SeenSource) → mid.texts ≡ old.texts → IsMissing file mid → IsMissing file old
missing_before file old mid kept missing = record {
  told = subst (λ (t : Option Files). IsSome t) kept missing.told;
  unnamed = subst (λ (t : Option Files). named t file ≡ None) kept missing.unnamed;
}

-- without its partition there are no parts
pub unread_unmade : (name : List ℕ) (file : Option (List ℕ)) (e : Unmade) (spec : SpecLists) (old mid new : SeenSource) → TakesSpec name spec old mid → old.faults ≤ mid.faults → mid.texts ≡ old.texts
    → mid.selects ≡ old.selects + 1 → new.selects ≡ mid.selects + partition_count file → IsPartitionUnread file e mid new → IsUnmade (inputs name file) e old new
unread_unmade name None e spec old mid new taken later kept one more why = absurd why
unread_unmade name (Some file) unmade.Unread spec old mid new taken later kept one more why = elim why [
  | inl rose ↦ inl (record { rose = rose_later old.faults mid.faults new.faults later rose; turn = inr (record { text = taken.text; has_text = taken.has_text; spec = spec; accepts = taken.accepts; selects = omega (arith, one, more) }) })
  | inr missing ↦ (let before = missing_before file old mid kept missing in inr (inr (record { accepted = tells_acceptable name spec old mid taken before.told; missing = before })))
]
unread_unmade name (Some file) (unmade.Refused line) spec old mid new taken later kept one more why = absurd why
unread_unmade name (Some file) unmade.NoMemory spec old mid new taken later kept one more why = why

read_before : (most : ℕ) (file text : List ℕ) (old mid new : SeenSource) → mid.texts ≡ old.texts → ReadsUpTo most file text mid new → ReadsUpTo most file text old new
read_before most file text old mid new kept read = record {
  told = λ told. ap (λ (t : Option Files). named t file) (sym kept) ∙ read.told (subst (λ (t : Option Files). IsSome t) (sym kept) told);
  some_left = λ told. read.some_left (subst (λ (t : Option Files). IsSome t) (sym kept) told);
  at_most = read.at_most;
  rest = read.rest;
}

-- a refused partition makes no parts
pub refused_unmade : (name : List ℕ) (file text : Option (List ℕ)) (e : Unmade) (spec : SpecLists) (old mid new : SeenSource) → TakesSpec name spec old mid → mid.texts ≡ old.texts
    → mid.selects ≡ old.selects + 1 → new.selects ≡ mid.selects + partition_count file → TakesPartition file text mid new → IsToldOf spec text e → IsUnmade (inputs name file) e old new
refused_unmade name file text unmade.Unread spec old mid new taken kept one more read why = absurd why
refused_unmade name file text unmade.NoMemory spec old mid new taken kept one more read why = tt
refused_unmade name file None (unmade.Refused line) spec old mid new taken kept one more read why = absurd why
refused_unmade name None (Some text) (unmade.Refused line) spec old mid new taken kept one more read why = absurd read
refused_unmade name (Some file) (Some text) (unmade.Refused line) spec old mid new taken kept one more read why = inr (record {
  text = taken.text;
  has_text = taken.has_text;
  spec = spec;
  accepts = taken.accepts;
  file = file;
  names = refl;
  partition = text;
  read = read_before most_read file text old mid new kept read;
  selects = omega (arith, one, more);
  refused = why;
})

-- what was taken and made is accepted
pub taken_accepted : (name : List ℕ) (file text : Option (List ℕ)) (spec : SpecLists) (parts : List Part) (old mid new : SeenSource) → TakesSpec name spec old mid → mid.texts ≡ old.texts
    → mid.selects ≡ old.selects + 1 → new.selects ≡ mid.selects + partition_count file → TakesPartition file text mid new → Decomposes spec text parts → IsAccepted (inputs name file) spec parts old new
taken_accepted name None None spec parts old mid new taken kept one more same made = record {
  text = taken.text;
  has_text = taken.has_text;
  partition = None;
  has_partition = tt;
  some_left = λ told. subst (λ (s : SeenSource). IsSome s.left) (sym same) (taken.all.some_left told);
  nothing_left = subst (λ (s : SeenSource). IsAtEnd s.left) (sym same) taken.all.nothing_left;
  selects = omega (arith, one, more);
  answer = record { accepts = taken.accepts; decomposes = made };
}
taken_accepted name None (Some text) spec parts old mid new taken kept one more read made = absurd read
taken_accepted name (Some file) None spec parts old mid new taken kept one more read made = absurd read
taken_accepted name (Some file) (Some text) spec parts old mid new taken kept one more read made =
    let before = read_before most_read file text old mid new kept read in
    let w = reads_whole most_read file text old new before (omega (arith, partition_short spec text (partition_of spec text parts made))) in
    record {
      text = taken.text;
      has_text = taken.has_text;
      partition = Some text;
      has_partition = w.0;
      some_left = w.1.some_left;
      nothing_left = w.1.nothing_left;
      selects = omega (arith, one, more);
      answer = record { accepts = taken.accepts; decomposes = made };
    }
