-- The form of names.
use Rattle.std.specs.Prelude.{ℕ, ◌<◌, Bool, false, ◌&&◌, ◌||◌, ◌==◌, nat_le, IsTrue, List, [], ◌∷◌, length, All}
use Rattle.std.specs.List.{list_all}
use Rattle.stg_net.specs.declared.signal.Signal.{Signal}
use Rattle.stg_net.specs.declared.trans.TransName.{TransName}
use Rattle.stg_net.specs.Net.{NetLists}

-- whether the byte is one from low to high
abbrev pub is_between : ℕ → ℕ → ℕ → Bool
is_between low high c = nat_le low c && nat_le c high

-- whether the byte is a decimal digit
abbrev pub is_digit : ℕ → Bool
is_digit = is_between 48 57

-- a letter, a digit or an underscore
abbrev pub begins_name : ℕ → Bool
begins_name c = is_between 97 122 c || is_between 65 90 c || is_digit c || c == 95

-- one of these, or a dot or a bracket
abbrev pub is_in_name : ℕ → Bool
is_in_name c = begins_name c || c == 46 || c == 91 || c == 93

-- 1 to 100 bytes that begin as a name does and go on so
abbrev pub is_name : List ℕ → Bool
is_name [] = false
is_name (c ∷ cs) = begins_name c && nat_le (length cs) 99 && list_all is_in_name cs

-- each signal has a name of the form, and each index has at most nine digits
pub record IsWellNamed (n : NetLists) : Type 0 where
  pub names : All (λ (s : Signal). IsTrue (is_name s.name)) n.signals
  pub indices : All (λ (t : TransName). t.index < 1000000000) n.trans
