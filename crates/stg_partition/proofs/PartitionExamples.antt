-- Worked partition texts, each with its answer.
use Rattle.std.proofs.Common.{◌≡◌, ℕ, List, [], ◌∷◌, ◌++◌, codes, Ok, Err, refl}
use Rattle.stg_net.specs.declared.signal.Kind.{Kind}
use Rattle.stg_net.specs.declared.signal.Kind.TheVariants.{Input, Output, Internal}
use Rattle.stg_net.specs.declared.signal.Signal.{Signal}
use Rattle.stg_net.specs.declared.trans.Edge.TheVariants.{Rise, Fall}
use Rattle.stg_net.specs.Net.{NetLists}
use Rattle.stg_net.proofs.Examples.{named, into, from}
use Rattle.stg_laws.specs.PlainGroups.{Group}
use Rattle.stg_partition.specs.declared.error.GroupError.TheVariants as errors
use Rattle.stg_partition.specs.PartitionText.{runs_of}
use Rattle.stg_partition.proofs.Answered.{answer_of}
use Rattle.stg_partition.proofs.Examples.{bus}

abbrev signal : List ℕ → Kind → Signal
signal name kind = record { name = name; kind = kind }

abbrev group : List ℕ → List ℕ → Group
group own known = record { own = own; known = known }

-- VME bus controller, read cycle
abbrev vme : NetLists
vme = record bus {
  signals = signal (codes "dsr") Input ∷ signal (codes "ldtack") Input ∷ signal (codes "lds") Output ∷ signal (codes "d") Output ∷ signal (codes "dtack") Output ∷ [];
}

two_groups : answer_of vme (codes "lds d\ndtack\n") ≡ Ok (group (2 ∷ 3 ∷ []) (0 ∷ 1 ∷ 2 ∷ 3 ∷ []) ∷ group (4 ∷ []) (3 ∷ 4 ∷ []) ∷ [])
two_groups = refl

-- the groups stand in the order of the lines, their signals in that of the net
other_order : answer_of vme (codes "# later first\n\n \t dtack  lds # d\n\nd") ≡ Ok (group (2 ∷ 4 ∷ []) (0 ∷ 1 ∷ 2 ∷ 3 ∷ 4 ∷ []) ∷ group (3 ∷ []) (0 ∷ 1 ∷ 3 ∷ []) ∷ [])
other_order = refl

bad_byte : answer_of vme (codes "lds d" ++ 1 ∷ codes "\n") ≡ Err (errors.BadLine 1)
bad_byte = refl

byte_in_a_comment : answer_of vme (codes "lds d dtack # " ++ 1 ∷ codes "\n") ≡ Ok (group (2 ∷ 3 ∷ 4 ∷ []) (0 ∷ 1 ∷ 2 ∷ 3 ∷ 4 ∷ []) ∷ [])
byte_in_a_comment = refl

an_input : answer_of vme (codes "dsr\n") ≡ Err (errors.UnknownOutput 1)
an_input = refl

-- the first bad line goes first, with its first rule
unknown_before_twice : answer_of vme (codes "lds\nlds x\nx\n") ≡ Err (errors.UnknownOutput 2)
unknown_before_twice = refl

byte_before_unknown : answer_of vme (codes "lds\nx" ++ 1 ∷ []) ≡ Err (errors.BadLine 2)
byte_before_unknown = refl

-- blanks alone separate words
a_brace : answer_of vme (codes "lds{d}\ndtack\n") ≡ Err (errors.UnknownOutput 1)
a_brace = refl

runs : runs_of (codes " lds{d}  x= ") ≡ codes "lds{d}" ∷ codes "x=" ∷ []
runs = refl

twice_on_a_line : answer_of vme (codes "lds lds\n") ≡ Err (errors.OutputTwice 1)
twice_on_a_line = refl

twice_on_lines : answer_of vme (codes "\nlds d\n#\ndtack lds\n") ≡ Err (errors.OutputTwice 4)
twice_on_lines = refl

-- a line goes before a signal that is left out
twice_before_missing : answer_of vme (codes "lds\nlds\n") ≡ Err (errors.OutputTwice 2)
twice_before_missing = refl

missing : answer_of vme (codes "lds d\n") ≡ Err (errors.OutputMissing 4)
missing = refl

least_missing : answer_of vme (codes "dtack\n") ≡ Err (errors.OutputMissing 2)
least_missing = refl

nothing : answer_of vme [] ≡ Err (errors.OutputMissing 2)
nothing = refl

-- p x+ y+, q y+ z+
abbrev linked : NetLists
linked = record {
  signals = signal (codes "x") Output ∷ signal (codes "y") Output ∷ signal (codes "z") Output ∷ [];
  trans = named 0 Rise ∷ named 1 Rise ∷ named 2 Rise ∷ [];
  tokens = 1 ∷ 1 ∷ [];
  arcs = from 0 0 ∷ from 0 1 ∷ from 1 1 ∷ from 1 2 ∷ [];
}

split_pair : answer_of linked (codes "x y\nz\n") ≡ Err (errors.SplitConflict 1 2 1)
split_pair = refl

-- the least pair goes first
least_pair : answer_of linked (codes "z\ny\nx\n") ≡ Err (errors.SplitConflict 0 1 0)
least_pair = refl

-- and a missing signal before it
missing_before_split : answer_of linked (codes "x\ny\n") ≡ Err (errors.OutputMissing 2)
missing_before_split = refl

together : answer_of linked (codes "z y x\n") ≡ Ok (group (0 ∷ 1 ∷ 2 ∷ []) (0 ∷ 1 ∷ 2 ∷ []) ∷ [])
together = refl

-- one place with the transitions z+ y+ x+ in this order, and another one with x+ and y+
abbrev crowded : NetLists
crowded = record linked {
  trans = named 2 Rise ∷ named 1 Rise ∷ named 0 Rise ∷ [];
  arcs = from 0 0 ∷ from 0 1 ∷ from 0 2 ∷ from 1 1 ∷ from 1 2 ∷ [];
}

least_of_three : answer_of crowded (codes "x y\nz\n") ≡ Err (errors.SplitConflict 0 2 0)
least_of_three = refl

least_place : answer_of crowded (codes "x\ny\nz\n") ≡ Err (errors.SplitConflict 0 1 0)
least_place = refl

-- an input, an output and an internal signal in a ring: a+ m+ x+ a- m- x-
abbrev ring : NetLists
ring = record {
  signals = signal (codes "a") Input ∷ signal (codes "x") Output ∷ signal (codes "m") Internal ∷ [];
  trans = named 0 Rise ∷ named 2 Rise ∷ named 1 Rise ∷ named 0 Fall ∷ named 2 Fall ∷ named 1 Fall ∷ [];
  tokens = 0 ∷ 0 ∷ 0 ∷ 0 ∷ 0 ∷ 1 ∷ [];
  arcs =
      into 0 0 ∷ from 0 1
      ∷ into 1 1 ∷ from 1 2
      ∷ into 2 2 ∷ from 2 3
      ∷ into 3 3 ∷ from 3 4
      ∷ into 4 4 ∷ from 4 5
      ∷ from 5 0 ∷ into 5 5 ∷ [];
}

internal_too : answer_of ring (codes "x m\n") ≡ Ok (group (1 ∷ 2 ∷ []) (0 ∷ 1 ∷ 2 ∷ []) ∷ [])
internal_too = refl

-- inputs alone
abbrev quiet : NetLists
quiet = record { signals = signal (codes "a") Input ∷ []; trans = []; tokens = []; arcs = [] }

no_group : answer_of quiet (codes "# none\n\n") ≡ Ok []
no_group = refl
