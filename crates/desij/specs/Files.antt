-- The files of an answer.
use Rattle.std.specs.Prelude.{◌≡◌, ℕ, ◌+◌, Bool, List, [], ◌∷◌, ◌++◌, length, map, slice_index_or, Option, None, Some, if◌then◌else◌, codes, decimal}
use Rattle.std.specs.Option.{option_map}
use Rattle.std.specs.FinMap.{insert}
use Rattle.stg_net.specs.Net.{NetLists}
use Rattle.stg_net.specs.Ordered.{listed_below}
use Rattle.astg_write.specs.ComponentText.{component_text}
use Rattle.stg_derive.specs.declared.part.Part.{Part}
use Rattle.stg_steps.specs.LogText.{log_text}
use Rattle.stg_crew.specs.Parts.{part_at}
use Rattle.stg_decomp.specs.Parts.{nets_of, net_at}
use Rattle.io_shelf.specs.Entries.{NamedBytes}
use Rattle.io_shelf.specs.Outside.{Files, SeenShelf, Rose, without_file}

-- the name of the k-th part's file, whose number is counted from 1
abbrev pub part_name : ℕ → List ℕ
part_name k = codes "part" ++ decimal (k + 1) ++ codes ".g"

-- the name of the file with its log
abbrev pub log_name : ℕ → List ℕ
log_name k = codes "part" ++ decimal (k + 1) ++ codes ".steps"

-- the component text of the k-th net
abbrev pub net_bytes : List NetLists → ℕ → List ℕ
net_bytes nets k = component_text (net_at nets k) (k + 1)

-- the k-th log
abbrev pub log_at : List (List ℕ) → ℕ → List ℕ
log_at logs k = slice_index_or logs k []

-- the files of the k-th part: the component text of its net and, with logs, its log
abbrev pub part_files : List NetLists → Option (List (List ℕ)) → ℕ → List NamedBytes
part_files nets None k = (part_name k, net_bytes nets k) ∷ []
part_files nets (Some logs) k =
    (part_name k, net_bytes nets k) ∷ (log_name k, log_at logs k) ∷ []

-- the files of all parts, in order
abbrev pub files_with : List NetLists → Option (List (List ℕ)) → List NamedBytes
files_with nets logs = listed_below (part_files nets logs) (length nets)

-- the log of the k-th part
abbrev pub log_bytes : NetLists → List Part → ℕ → List ℕ
log_bytes n parts k = log_text n (part_at parts k).restored (part_at parts k).steps

-- the logs of the parts, where logs are wanted
abbrev pub logs_of : NetLists → Bool → List Part → Option (List (List ℕ))
logs_of n wanted parts =
    if wanted then Some (map (λ (p : Part). log_text n p.restored p.steps) parts) else None

-- the files of the parts of a net, with logs where they are wanted
abbrev pub files_of_parts : NetLists → Bool → List Part → List NamedBytes
files_of_parts n wanted parts = files_with (nets_of parts) (logs_of n wanted parts)

-- a shelf's files with these set, one after the other
abbrev pub with_files : List NamedBytes → Files → Files
with_files [] m = m
with_files (file ∷ files) m = with_files files (insert m file.0 file.1)

-- all of these files are set, and no other file has changed
abbrev pub PutsAll : List NamedBytes → SeenShelf → SeenShelf → Type 0
PutsAll files old new = new.files ≡ option_map (with_files files) old.files

-- the first of these files are set, and no other file has changed
pub record PutsFirst (files : List NamedBytes) (old new : SeenShelf) : Type 0 where
  pub first : List NamedBytes
  pub others : List NamedBytes
  pub are : files ≡ first ++ others
  pub put : PutsAll first old new

-- The count of the shelf's faults rose in a put: the files before its own are set, nothing is told
-- of its own, and no other file has changed.
pub record PutsUpTo (files : List NamedBytes) (old new : SeenShelf) : Type 0 where
  pub first : List NamedBytes
  pub failed : NamedBytes
  pub others : List NamedBytes
  pub are : files ≡ first ++ failed ∷ others
  pub put : without_file new.files failed.0
      ≡ without_file (option_map (with_files first) old.files) failed.0
  pub rose : Rose old.faults new.faults
