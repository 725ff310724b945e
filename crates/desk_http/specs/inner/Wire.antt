-- What is read from a link and written to it.
use Rattle.std.specs.Prelude.{◌≡◌, ℕ, ◌+◌, ◌≤◌, ◌<◌, Bool, true, false, List, ◌++◌, length, take, Option, Some, Result, Ok, Err, IsErrOf}
use Rattle.std.specs.Io.KnownBytes.{IsAtEnd, append_known, prepend_known}
use Rattle.io_shelf.specs.Doors.{SeenLink}
use Rattle.io_shelf.specs.Outside.{Rose}
use Rattle.desk_http.specs.declared.reply.Reply.{Reply}
use Rattle.desk_http.specs.declared.served.ReadError.{ReadError}
use Rattle.desk_http.specs.declared.served.ReadError.TheVariants as read_error
use Rattle.desk_http.specs.declared.served.Served.{Served}
use Rattle.desk_http.specs.declared.served.Served.TheVariants as served

-- these bytes were taken off the front of what was left
abbrev pub HasRead : List ℕ → Option (List ℕ) → Option (List ℕ) → Type 0
HasRead bytes old new = old ≡ prepend_known bytes new

-- a text grew by what was read
pub record Gathers (before now : List ℕ) (old new : Option (List ℕ)) : Type 0 where
  pub more : List ℕ
  pub text : now ≡ before ++ more
  pub read : HasRead more old new

-- one read: so many bytes, none only at the end
pub record ReadsOn (n most : ℕ) (before now : List ℕ) (old new : Option (List ℕ)) : Type 0 where
  pub gathers : Gathers before now old new
  pub count : length now ≡ length before + n
  pub within : n ≤ most
  pub end : n ≡ 0 → IsAtEnd new

-- With true the text is so many bytes of what it was and what was left. With false there are fewer.
abbrev pub IsBody : Bool → ℕ → List ℕ → List ℕ → Option (List ℕ) → Type 0
IsBody true count before now old =
    (input : List ℕ) → old ≡ Some input
    → (count ≤ length (before ++ input)) × (now ≡ take count (before ++ input))
IsBody false count before now old =
    (input : List ℕ) → old ≡ Some input → length (before ++ input) < count

-- The mark of a failed read: it is set where a read failed, and stays as it was otherwise.
abbrev pub marked_by : {T : Type 0} → Result T ReadError → Bool → Bool
marked_by (Ok x) broken = broken
marked_by (Err read_error.Failed) broken = true
marked_by (Err read_error.NoMemory) broken = broken

-- Nothing is written in reading. The count of faults never falls, and a request isn't read, but for
-- want of memory, only where it rose and the mark of a failed read is set.
pub record OnlyReads {T : Type 0} (old new : SeenLink) (result : Result T ReadError) : Type 0 where
  pub written : new.written ≡ old.written
  pub broken : new.broken ≡ marked_by result old.broken
  pub later : old.faults ≤ new.faults
  pub failed : IsErrOf result read_error.Failed → Rose old.faults new.faults

-- a prefix of these bytes was appended
pub record WritesPrefix (bytes : List ℕ) (old new : Option (List ℕ)) : Type 0 where
  pub count : ℕ
  pub is : new ≡ append_known old (take count bytes)

-- the reply was written whole, or a prefix of it and the count of faults rose
abbrev pub Sends : Reply → Served → SeenLink → SeenLink → Type 0
Sends reply (served.Replied code) old new =
    (code ≡ reply.status) × (new.written ≡ append_known old.written reply.text)
Sends reply served.LinkFault old new =
    Rose old.faults new.faults × WritesPrefix reply.text old.written new.written
