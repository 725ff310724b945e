-- The same graph with other numbers of places and transitions.
use Rattle.std.specs.Prelude.{◌≡◌, ℕ, List}
use Rattle.stg_net.specs.Graph.{Graph, is_among, IsPlace, IsTrans, full_name_at, tokens_at, takes, gives}

-- h has exactly the live places and transitions of g: place and
-- trans tell which number each has in g
pub record IsRenumbered (g h : Graph) : Type 0 where
  pub place : ℕ → ℕ
  pub trans : ℕ → ℕ
  pub place_there : (r : ℕ) → IsPlace h r → IsPlace g (place r)
  pub place_from : (p : ℕ) → IsPlace g p → (r : ℕ) × IsPlace h r × (place r ≡ p)
  pub place_differ : (q r : ℕ) → IsPlace h q → IsPlace h r → place q ≡ place r → q ≡ r
  pub trans_from : (t : ℕ) → IsTrans g t → (u : ℕ) × IsTrans h u × (trans u ≡ t)
  pub trans_differ : (u v : ℕ) → IsTrans h u → IsTrans h v → trans u ≡ trans v → u ≡ v
  pub names : (u : ℕ) → IsTrans h u → full_name_at g (trans u) ≡ full_name_at h u
  pub tokens : (r : ℕ) → tokens_at h r ≡ tokens_at g (place r)
  pub taken : (u r : ℕ) → IsTrans h u → takes h u r ≡ takes g (trans u) (place r)
  pub given : (u r : ℕ) → IsTrans h u → gives h u r ≡ gives g (trans u) (place r)
  pub known : (s : List ℕ) → is_among h.known s ≡ is_among g.known s
