-- Consistent graphs: in each run the edges of each signal alternate.
use Rattle.std.specs.Prelude.{◌≡◌, ◌≢◌, ℕ, List, [], ◌∷◌, map, Some, ⊤}
use Rattle.stg_net.specs.declared.trans.Edge.{Edge}
use Rattle.stg_net.specs.declared.trans.Edge.TheVariants.{Toggle}
use Rattle.stg_net.specs.Graph.{Graph, FullName, full_name_at}
use Rattle.stg_net.specs.Run.{IsRun}
use Rattle.stg_laws.specs.Cuts.{cut}

-- the edges of one signal in a run, in order
abbrev pub edges_of : Graph → List ℕ → List ℕ → List Edge
edges_of g signal run = map (λ (name : FullName). name.edge) (cut g (signal ∷ []) run)

-- No edge stands beside itself, and no toggle beside a toggle. So the proof of `law_consistent`
-- doesn't use its premise `HasNoToggle`.
abbrev pub Alternates : List Edge → Type 0
Alternates [] = ⊤
Alternates (e ∷ []) = ⊤
Alternates (e ∷ f ∷ edges) = (e ≢ f) × Alternates (f ∷ edges)

-- in each run the edges of each signal alternate
abbrev pub IsConsistent : Graph → Type 0
IsConsistent g = (run signal : List ℕ) → IsRun g run → Alternates (edges_of g signal run)

-- no transition toggles its signal
abbrev pub HasNoToggle : Graph → Type 0
HasNoToggle g = (t : ℕ) (name : FullName) → full_name_at g t ≡ Some name → name.edge ≢ Toggle
