-- What is put of files, one list after another.
use Rattle.std.proofs.Common.{◌≡◌, ℕ, suc, zero, ◌+◌, ◌-◌, ◌<◌, ◌≤◌, Bool, true, false, List, [], ◌∷◌, ◌++◌, Option, None, Some, Result, Ok, Err, OnOk, IsErrOf, refl, sym, ap, ◌∙◌, append_assoc, append-nil, subst, length, map, arith}
use Rattle.std.proofs.Math.ListN.{get_or-map}
use Rattle.std.specs.Option.{option_map}
use Rattle.stg_net.specs.Ordered.{listed_below}
use Rattle.stg_derive.specs.declared.part.Part.{Part}
use Rattle.stg_crew.specs.Parts.{no_part, part_at}
use Rattle.stg_decomp.specs.Parts.{nets_of, net_at}
use Rattle.io_shelf.specs.Entries.{NamedBytes}
use Rattle.io_shelf.specs.Outside.{Files, SeenShelf, Rose, with_file, without_file}
use Rattle.io_shelf.specs.declared.outside.PutError.{PutError}
use Rattle.io_shelf.specs.declared.outside.PutError.TheVariants.{Failed, NoMemory}
use Rattle.desij.specs.Files.{PutsAll, files_of_parts, log_at, log_bytes, log_name, logs_of, net_bytes, part_files, part_name, with_files}
use Rattle.std.proofs.lemmas.List.{get_or_default, length-map}
use Rattle.stg_net.specs.Net.{NetLists}
use Rattle.stg_steps.specs.LogText.{log_text}
use Rattle.desij.specs.inner.Putting.{Puts}

-- the net of the k-th part is the k-th net
pub net_of_part : (parts : List Part) (k : ℕ) → (part_at parts k).net ≡ net_at (nets_of parts) k
net_of_part parts k = sym (get_or-map (λ (p : Part). p.net) parts k no_part)

nothing_put : (m : Option Files) → option_map (with_files []) m ≡ m
nothing_put None = refl
nothing_put (Some m) = refl

one_put : (file : NamedBytes) (m : Option Files) → with_file m file.0 file.1 ≡ option_map (with_files (file ∷ [])) m
one_put file None = refl
one_put file (Some m) = refl

-- what is put of one file
pub puts_one : {T : Type 0} (file : NamedBytes) (r : Result T PutError) (old new : SeenShelf)
    → OnOk r (new.files ≡ with_file old.files file.0 file.1)
    → (IsErrOf r Failed → without_file new.files file.0 ≡ without_file old.files file.0)
    → (IsErrOf r NoMemory → new.files ≡ old.files)
    → (IsErrOf r Failed → Rose old.faults new.faults) → Puts (file ∷ []) r old new
puts_one file (Ok _) old new ok failed memory cause = ok ∙ one_put file old.files
puts_one file (Err Failed) old new ok failed memory cause = record {
  first = [];
  failed = file;
  others = [];
  are = refl;
  put = failed refl ∙ ap (λ m. without_file m file.0) (sym (nothing_put old.files));
  rose = cause refl;
}
puts_one file (Err NoMemory) old new ok failed memory cause = record { first = []; others = file ∷ []; are = refl; put = memory refl ∙ sym (nothing_put old.files) }

-- files set one list after another
with_both : (a b : List NamedBytes) (m : Files) → with_files (a ++ b) m ≡ with_files b (with_files a m)
with_both [] b m = refl
with_both (f ∷ a) b m = with_both a b _

told_both : (a b : List NamedBytes) (m : Option Files) → option_map (with_files (a ++ b)) m ≡ option_map (with_files b) (option_map (with_files a) m)
told_both a b None = refl
told_both a b (Some m) = ap Some (with_both a b m)

-- after all files of one list, what is put of the next one is put of both
pub puts_then : {T : Type 0} (a b : List NamedBytes) (r : Result T PutError) (old mid new : SeenShelf) → PutsAll a old mid → old.faults ≤ mid.faults → Puts b r mid new → Puts (a ++ b) r old new
puts_then a b (Ok _) old mid new first later then = then ∙ ap (option_map (with_files b)) first ∙ sym (told_both a b old.files)
puts_then a b (Err Failed) old mid new first later then = record {
  first = a ++ then.first;
  failed = then.failed;
  others = then.others;
  are = ap (λ fs. a ++ fs) then.are ∙ sym (append_assoc a then.first (then.failed ∷ then.others));
  put = then.put ∙ ap (λ m. without_file m then.failed.0) (ap (option_map (with_files then.first)) first ∙ sym (told_both a then.first old.files));
  rose = omega (arith, later, then.rose);
}
puts_then a b (Err NoMemory) old mid new first later then = record {
  first = a ++ then.first;
  others = then.others;
  are = ap (λ fs. a ++ fs) then.are ∙ sym (append_assoc a then.first then.others);
  put = then.put ∙ ap (option_map (with_files then.first)) first ∙ sym (told_both a then.first old.files);
}

-- what broke off broke off before all that comes later too
pub breaks_before : (T U : Type 0) (a b : List NamedBytes) (e : PutError) (old new : SeenShelf) → Puts {T = T} a (Err e) old new → Puts {T = U} (a ++ b) (Err e) old new
breaks_before T U a b Failed old new puts = record {
  first = puts.first;
  failed = puts.failed;
  others = puts.others ++ b;
  are = ap (λ fs. fs ++ b) puts.are ∙ append_assoc puts.first (puts.failed ∷ puts.others) b;
  put = puts.put;
  rose = puts.rose;
}
breaks_before T U a b NoMemory old new puts = record {
  first = puts.first;
  others = puts.others ++ b;
  are = ap (λ fs. fs ++ b) puts.are ∙ append_assoc puts.first puts.others b;
  put = puts.put;
}

-- the first lists of many are in front of the rest
pub record Rest {X : Type 0} (f : ℕ → List X) (k n : ℕ) : Type 0 where
  pub rest : List X
  pub are : listed_below f n ≡ listed_below f k ++ rest

rest_by : {X : Type 0} (f : ℕ → List X) (k j n : ℕ) → n ≡ k + j → Rest f k n
rest_by f k zero n is =
    let same : n ≡ k = omega (arith, is) in
    record { rest = []; are = ap (listed_below f) same ∙ sym (append-nil (listed_below f k)) }
rest_by f k (suc j) n is =
    let r = rest_by f k j (k + j) refl in
    let next : n ≡ suc (k + j) = omega (arith, is) in
    record { rest = r.rest ++ f (k + j); are = ap (listed_below f) next ∙ ap (λ xs. xs ++ f (k + j)) r.are ∙ append_assoc (listed_below f k) r.rest (f (k + j)) }

pub rest_of : {X : Type 0} (f : ℕ → List X) (k n : ℕ) → k ≤ n → Rest f k n
rest_of f k n within = rest_by f k (n - k) n (omega (arith, within))

-- the log of the k-th part is the k-th log
log_of_part : (n : NetLists) (parts : List Part) (k : ℕ) → k < length parts → log_at (map (λ (p : Part). log_text n p.restored p.steps) parts) k ≡ log_bytes n parts k
log_of_part n parts k there =
    let f = λ (p : Part). log_text n p.restored p.steps in
    get_or_default (map f parts) k [] (f no_part) (subst (λ l. k < l) (sym (length-map parts f)) there) ∙ get_or-map f parts k no_part

-- after the component text, the log is put of the part's files
pub log_after : {T : Type 0} (n : NetLists) (nets : List NetLists) (parts : List Part) (k : ℕ) (steps : Bool) (r : Result T PutError) (old mid new : SeenShelf)
    → steps ≡ true → k < length parts → PutsAll ((part_name k, net_bytes nets k) ∷ []) old mid → old.faults ≤ mid.faults
    → Puts ((log_name k, log_bytes n parts k) ∷ []) r mid new → Puts (part_files nets (logs_of n steps parts) k) r old new
log_after n nets parts k steps r old mid new wanted there first later then =
    let both = puts_then ((part_name k, net_bytes nets k) ∷ []) ((log_name k, log_bytes n parts k) ∷ []) r old mid new first later then in
    let P : Bool → Type 0 = λ s. Puts (part_files nets (logs_of n s parts) k) r old new in
    let Q : List ℕ → Type 0 = λ bytes. Puts ((part_name k, net_bytes nets k) ∷ (log_name k, bytes) ∷ []) r old new in
    subst P (sym wanted) (subst Q (sym (log_of_part n parts k there)) both)

-- without logs, the component text is all
pub net_alone : {T : Type 0} (n : NetLists) (nets : List NetLists) (parts : List Part) (k : ℕ) (steps : Bool) (r : Result T PutError) (old new : SeenShelf)
    → steps ≡ false → Puts ((part_name k, net_bytes nets k) ∷ []) r old new → Puts (part_files nets (logs_of n steps parts) k) r old new
net_alone n nets parts k steps r old new none put =
    let P : Bool → Type 0 = λ s. Puts (part_files nets (logs_of n s parts) k) r old new in
    subst P (sym none) put

-- where the component text breaks off, so do the part's files
pub net_broke : (T U : Type 0) (n : NetLists) (nets : List NetLists) (parts : List Part) (k : ℕ) (steps : Bool) (e : PutError) (old new : SeenShelf)
    → Puts {T = T} ((part_name k, net_bytes nets k) ∷ []) (Err e) old new → Puts {T = U} (part_files nets (logs_of n steps parts) k) (Err e) old new
net_broke T U n nets parts k true e old new put = breaks_before T U ((part_name k, net_bytes nets k) ∷ []) ((log_name k, log_at (map (λ (p : Part). log_text n p.restored p.steps) parts) k) ∷ []) e old new put
net_broke T U n nets parts k false e old new put = breaks_before T U ((part_name k, net_bytes nets k) ∷ []) [] e old new put

-- where the files of the k-th part break off, so do all
pub part_broke : (T U : Type 0) (f : ℕ → List NamedBytes) (k n : ℕ) (e : PutError) (old mid new : SeenShelf) → k < n → PutsAll (listed_below f k) old mid → old.faults ≤ mid.faults
    → Puts {T = T} (f k) (Err e) mid new → Puts {T = U} (listed_below f n) (Err e) old new
part_broke T U f k n e old mid new there first later put =
    let r = rest_of f (suc k) n (omega (arith, there)) in
    let r_is : Result T PutError = Err e in
    let both = puts_then (listed_below f k) (f k) r_is old mid new first later put in
    let all = breaks_before T U (listed_below f k ++ f k) r.rest e old new both in
    let P : List NamedBytes → Type 0 = λ files. Puts {T = U} files (Err e) old new in
    subst P (sym r.are) all

-- the files of all parts are those below their number
pub all_below : (n : NetLists) (steps : Bool) (parts : List Part) → files_of_parts n steps parts ≡ listed_below (part_files (nets_of parts) (logs_of n steps parts)) (length parts)
all_below n steps parts = ap (listed_below (part_files (nets_of parts) (logs_of n steps parts))) (length-map parts (λ (p : Part). p.net))

-- so do the files of the parts
pub parts_broke : (T U : Type 0) (n : NetLists) (steps : Bool) (parts : List Part) (k : ℕ) (e : PutError) (old mid new : SeenShelf) → k < length parts
    → PutsAll (listed_below (part_files (nets_of parts) (logs_of n steps parts)) k) old mid → old.faults ≤ mid.faults
    → Puts {T = T} (part_files (nets_of parts) (logs_of n steps parts) k) (Err e) mid new → Puts {T = U} (files_of_parts n steps parts) (Err e) old new
parts_broke T U n steps parts k e old mid new there first later put =
    let f = part_files (nets_of parts) (logs_of n steps parts) in
    let P : List NamedBytes → Type 0 = λ files. Puts {T = U} files (Err e) old new in
    subst P (sym (all_below n steps parts)) (part_broke T U f k (length parts) e old mid new there first later put)

-- the files of one part more
pub one_more_put : (f : ℕ → List NamedBytes) (k : ℕ) (old mid new : SeenShelf) → PutsAll (listed_below f k) old mid → PutsAll (f k) mid new → PutsAll (listed_below f (k + 1)) old new
one_more_put f k old mid new first put =
    let next : suc k ≡ k + 1 = omega arith in
    let both = put ∙ ap (option_map (with_files (f k))) first ∙ sym (told_both (listed_below f k) (f k) old.files) in
    subst (λ j. PutsAll (listed_below f j) old new) next both
