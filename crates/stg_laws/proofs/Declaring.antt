-- Which signals a net knows and drives, told by their numbers.
use Rattle.std.proofs.Common.{◌≡◌, ℕ, zero, suc, ◌<◌, List, [], ◌∷◌, map, filter, length, Bool, true, false, cond, ◌||◌, IsTrue, refl, sym, ◌∙◌, ap, arith}
use Rattle.std.specs.Str.{bytes_eq}
use Rattle.std.proofs.lemmas.Bool.{or_right, false≢true}
use Rattle.std.proofs.lemmas.Slice.Eq.{bytes_eq-Decides}
use Rattle.stg_net.specs.declared.signal.Kind.{Kind}
use Rattle.stg_net.specs.declared.signal.Signal.{Signal}
use Rattle.stg_net.specs.Net.{NetLists, IsNet, signal_at}
use Rattle.stg_net.specs.Graph.{is_among}
use Rattle.stg_net.proofs.Pairs.{same_place}
use Rattle.stg_laws.specs.Stgs.{names_where}

-- the k-th signal has the name, and its kind passes the test
pub record Declares (signals : List Signal) (test : Kind → Bool) (name : List ℕ) (k : ℕ) : Type 0 where
  pub there : k < length signals
  pub passes : test (signal_at signals k).kind ≡ true
  pub named : (signal_at signals k).name ≡ name

-- the next one, with a signal in front
declares_later : (s : Signal) (signals : List Signal) (test : Kind → Bool) (name : List ℕ) (k : ℕ) → Declares signals test name k → Declares (s ∷ signals) test name (suc k)
declares_later s signals test name k d = record { there = omega (arith, d.there); passes = d.passes; named = d.named }

-- a name that is found is declared
pub declared : (test : Kind → Bool) (signals : List Signal) (name : List ℕ) → IsTrue (is_among (names_where test signals) name) → (k : ℕ) × Declares signals test name k
declared test [] name found = absurd (false≢true found)
declared test (s ∷ signals) name found = go (test s.kind) refl found (λ rest. declared test signals name rest)
  where
    later : ((k : ℕ) × Declares signals test name k) → (k : ℕ) × Declares (s ∷ signals) test name k
    later d = (suc d.0, declares_later s signals test name d.0 d.1)

    first : (b : Bool) → bytes_eq s.name name ≡ b → test s.kind ≡ true → (b || is_among (names_where test signals) name) ≡ true
        → (IsTrue (is_among (names_where test signals) name) → (k : ℕ) × Declares signals test name k) → (k : ℕ) × Declares (s ∷ signals) test name k
    first true e passes found rest = (zero, record { there = omega arith; passes = passes; named = (bytes_eq-Decides s.name name).0 e })
    first false e passes found rest = later (rest found)

    go : (b : Bool) → test s.kind ≡ b → IsTrue (is_among (map (λ (x : Signal). x.name) (cond b (s ∷ filter (λ (x : Signal). test x.kind) signals) (filter (λ (x : Signal). test x.kind) signals))) name)
        → (IsTrue (is_among (names_where test signals) name) → (k : ℕ) × Declares signals test name k) → (k : ℕ) × Declares (s ∷ signals) test name k
    go true passes found rest = first (bytes_eq s.name name) refl passes found rest
    go false fails found rest = later (rest found)

-- a name that is declared is found
pub found : (test : Kind → Bool) (signals : List Signal) (name : List ℕ) (k : ℕ) → Declares signals test name k → IsTrue (is_among (names_where test signals) name)
found test [] name k d = absurd (omega (arith, d.there))
found test (s ∷ signals) name zero d =
    let same : bytes_eq s.name name ≡ true = (bytes_eq-Decides s.name name).1 d.named in
    rw d.passes (rw same refl)
found test (s ∷ signals) name (suc k) d = go (test s.kind) (found test signals name k (record { there = omega (arith, d.there); passes = d.passes; named = d.named }))
  where
    go : (b : Bool) → IsTrue (is_among (names_where test signals) name) → IsTrue (is_among (map (λ (x : Signal). x.name) (cond b (s ∷ filter (λ (x : Signal). test x.kind) signals) (filter (λ (x : Signal). test x.kind) signals))) name)
    go true rest = or_right (bytes_eq s.name name) (is_among (names_where test signals) name) rest
    go false rest = rest

-- the names that a net's graph knows are those of all its signals
pub signal_names-where : (signals : List Signal) → map (λ (s : Signal). s.name) signals ≡ names_where (λ kind. true) signals
signal_names-where [] = refl
signal_names-where (s ∷ signals) = ap (λ names. s.name ∷ names) (signal_names-where signals)

-- of one name there is one signal
pub one_declared : (n : NetLists) → IsNet n → (test other : Kind → Bool) (name : List ℕ) (j k : ℕ) → Declares n.signals test name j → Declares n.signals other name k → j ≡ k
one_declared n net test other name j k a b = same_place (λ (s : Signal). s.name) n.signals net.signal_names (signal_at [] 0) j k a.there b.there (a.named ∙ sym b.named)
