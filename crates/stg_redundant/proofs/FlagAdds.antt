-- What is added to a watch of redundant dummies stays there while more is added.
use Rattle.std.proofs.Common.{◌≡◌, ◌⊎◌, ◌∷◌, ℕ, Bool, List, ◌∙◌, subst, inl, inr}
use Rattle.stg_net.specs.Graph.{Graph}
use Rattle.stg_contract.specs.inner.Watches.{HasNumber}
use Rattle.stg_redundant.specs.FlaggedDummies.{FlagsMore, IsFlaggedWithSame}

-- more is added
pub flags-trans : (old mid new : List Bool) → FlagsMore old mid → FlagsMore mid new → FlagsMore old new
flags-trans old mid new a b = record { as_long = b.as_long ∙ a.as_long; kept = λ t f. b.kept t (a.kept t f) }

-- what was added with all that is the same is so
pub same_later : (g : Graph) (old new : List Bool) → FlagsMore old new → (v : ℕ) → IsFlaggedWithSame g old v → IsFlaggedWithSame g new v
same_later g old new more v has = (λ r. more.kept v (has.0 r), λ u p arc s. more.kept u (has.1 u p arc s))

-- of a list, each number has P or is left, and the first that is left gets what follows from P
pub one_done : (P Q : ℕ → Type 0) (x : ℕ × ℕ) (all xs rest : List (ℕ × ℕ)) → xs ≡ x ∷ rest
    → ((u : ℕ) → P u → Q u) → Q x.0 → ((u : ℕ) → HasNumber u all → HasNumber u xs ⊎ P u)
    → (u : ℕ) → HasNumber u all → HasNumber u rest ⊎ Q u
one_done P Q x all xs rest e then here before u has = elim (before u has) [
  | inr done ↦ inr (then u done)
  | inl left ↦ elim (subst (HasNumber u) e left) [
    | inl same ↦ inr (subst Q same here)
    | inr later ↦ inl later
  ]
]
