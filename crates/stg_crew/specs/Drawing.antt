-- What a worker draws, with the parts that it derives.
use Rattle.std.specs.Prelude.{◌≡◌, ℕ, ◌<◌, ◌≤◌, List, [], ◌∷◌, ◌++◌, length, map}
use Rattle.stg_net.specs.Net.{NetLists}
use Rattle.stg_laws.specs.PlainGroups.{Group}
use Rattle.stg_crew.specs.declared.worker.Drawn.{Drawn}
use Rattle.stg_crew.specs.Claims.{AreGroups}
use Rattle.stg_crew.specs.Parts.{group_in, IsPartOf}

-- the number is that of a group, and the part is this group's
pub record IsDrawnPart (n : NetLists) (groups : List Group) (d : Drawn) : Type 0 where
  pub there : d.group < length groups
  pub part : IsPartOf n (group_in groups d.group) d.part

-- the numbers of the groups that were drawn
abbrev pub groups_of : List Drawn → List ℕ
groups_of all = map (λ (d : Drawn). d.group) all

-- a seat's list is the groups that were drawn, in order, and then one number past them all
pub record HasDrawn (groups : ℕ) (all : List Drawn) (list : List ℕ) : Type 0 where
  pub are_groups : AreGroups groups (groups_of all)
  pub last : ℕ
  pub past : groups ≤ last
  pub list_is : list ≡ groups_of all ++ last ∷ []
