-- Names of projects as text.
use Rattle.std.proofs.Common.{◌≡◌, ℕ, ◌<◌, true, ◌&&◌, nat_le, List, [], ◌∷◌, length, IsTrue, arith}
use Rattle.std.specs.List.{list_all}
use Rattle.std.specs.Str.{IsAscii, IsUtf8}
use Rattle.std.proofs.lemmas.Bool.{and_parts}
use Rattle.std.proofs.lemmas.Bool.Decides.{nat_tests}
use Rattle.std.proofs.lemmas.Str.{IsUtf8-from_ascii}
use Rattle.std.proofs.lemmas.Str.Ascii.{IsAscii-nil, IsAscii-cons}
use Rattle.job_keeper.specs.Projects.{is_project_byte, is_project_name}

byte_is_ascii : (c : ℕ) → is_project_byte c ≡ true → c < 128
byte_is_ascii c is = grind (arith, nat_tests)

bytes_are_ascii : (name : List ℕ) → list_all is_project_byte name ≡ true → IsAscii name
bytes_are_ascii [] are = IsAscii-nil
bytes_are_ascii (c ∷ cs) are =
    let parts = and_parts (is_project_byte c) (list_all is_project_byte cs) are in
    IsAscii-cons c cs (byte_is_ascii c parts.0) (bytes_are_ascii cs parts.1)

-- a project's name is UTF-8
pub name_is_utf8 : (name : List ℕ) → IsTrue (is_project_name name) → IsUtf8 name
name_is_utf8 name is =
    let parts = and_parts (nat_le 1 (length name) && nat_le (length name) 64) (list_all is_project_byte name) is in
    IsUtf8-from_ascii name (bytes_are_ascii name parts.1)
