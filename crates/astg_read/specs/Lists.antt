-- Lists in which each thing counts once.
use Rattle.std.specs.Prelude.{Bool, false, ◌||◌, List, [], ◌∷◌, ◌++◌, if◌then◌else◌}
use Rattle.std.specs.List.{list_any}

-- one of the new ones stood before, among the old ones or among the new ones before it
abbrev pub has_repeat : {X : Type 0} → (X → X → Bool) → List X → List X → Bool
has_repeat same old [] = false
has_repeat same old (x ∷ new) = list_any (same x) old || has_repeat same (old ++ x ∷ []) new

-- the list with a new one last; one that is there stays where it is
abbrev pub with_new : {X : Type 0} → (X → X → Bool) → List X → X → List X
with_new same seen x = if list_any (same x) seen then seen else seen ++ x ∷ []

-- the old ones, and the new ones in order of first appearance
abbrev pub firsts : {X : Type 0} → (X → X → Bool) → List X → List X → List X
firsts same seen [] = seen
firsts same seen (x ∷ new) = firsts same (with_new same seen x) new
