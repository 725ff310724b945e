-- Links and doors as contracts see them: what a form holds, where it tells it, and counts of the
-- calls that failed.
use Rattle.std.specs.Prelude.{◌≡◌, ℕ, Bool, true, false, List, [], ◌∷◌, ◌++◌, drop, Option, Some, IsSome, Result, Ok, Err, if◌then◌else◌}
use Rattle.std.specs.Option.{option_map}
use Rattle.std.specs.Str.{bytes_eq}
use Rattle.io_shelf.specs.declared.outside.Failed.{Failed}

-- a link: its bytes left and written, where told, how many calls failed, and whether a read did
pub record SeenLink : Type 0 where
  pub left : Option (List ℕ)
  pub written : Option (List ℕ)
  pub faults : ℕ
  pub broken : Bool

-- a read that fails sets the mark, and one that doesn't leaves it
abbrev pub broken_after : {T : Type 0} → Result T Failed → Bool → Bool
broken_after (Ok n) broken = broken
broken_after (Err e) broken = true

-- a link tells its bytes
pub record TellsBytes (l : SeenLink) : Type 0 where
  pub left : IsSome l.left
  pub written : IsSome l.written

-- no call of a link has failed
pub record IsNewLink (l : SeenLink) : Type 0 where
  pub faults : l.faults ≡ 0
  pub broken : l.broken ≡ false

-- what doors hold: the links to come at an address, and the finished ones
pub record Links : Type 0 where
  pub addr : List ℕ
  pub coming : List SeenLink
  pub finished : List SeenLink

-- doors: their links, where told, whether they were told to listen, whether they do, and how many
-- calls failed
pub record SeenDoors : Type 0 where
  pub links : Option Links
  pub asked : Bool
  pub listening : Bool
  pub faults : ℕ

-- a link without bytes, which stands for one that doesn't come
abbrev pub absent_link : SeenLink
absent_link = record { left = Some []; written = Some []; faults = 0; broken = false }

-- the first of the links to come
abbrev pub first_link : List SeenLink → SeenLink
first_link [] = absent_link
first_link (l ∷ ls) = l

-- the links at an address, where none is to come unless it is their own
abbrev pub links_at : List ℕ → Links → Links
links_at addr ls = if bytes_eq addr ls.addr then ls else record ls { coming = [] }

-- the links, where told, of doors that listen at an address
abbrev pub listened_at : List ℕ → Option Links → Option Links
listened_at addr links = option_map (links_at addr) links

-- the links, where told, after the first one has come
abbrev pub without_first : Option Links → Option Links
without_first links = option_map (λ (ls : Links). record ls { coming = drop 1 ls.coming }) links

-- the links, where told, with one more that is finished, which stands last
abbrev pub with_finished : SeenLink → Option Links → Option Links
with_finished l links =
    option_map (λ (ls : Links). record ls { finished = ls.finished ++ l ∷ [] }) links
