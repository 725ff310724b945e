-- Cuts of runs one after another, cuts to lists that have the same signals, and traces.
use Rattle.std.proofs.Common.{◌≡◌, ℕ, List, [], ◌∷◌, ◌++◌, append-nil, true, false, Option, Some, None, refl, ◌∙◌, ap, inl, inr}
use Rattle.std.proofs.lemmas.Bool.{cases_Bool}
use Rattle.std.proofs.lemmas.List.Elements.{filter_agree, filter-append, filter_map-append}
use Rattle.stg_net.specs.Graph.{Graph, FullName, IsTrans, IsKnown, full_name_at, is_among, has_signal_of}
use Rattle.stg_laws.specs.Cuts.{names_of, names_among, cut}
use Rattle.stg_laws.specs.Deterministic.{HasNoDummy}
use Rattle.stg_laws.proofs.Names.{named, AreLive}

-- lists of signals that have the same signals
abbrev pub SameSignals : List (List ℕ) → List (List ℕ) → Type 0
SameSignals x y = (s : List ℕ) → is_among x s ≡ is_among y s

pub cut-agree : (g : Graph) (x y : List (List ℕ)) → SameSignals x y → (w : List ℕ) → cut g x w ≡ cut g y w
cut-agree g x y same w =
    filter_agree (λ (name : FullName). is_among x name.signal) (λ (name : FullName). is_among y name.signal) (λ (name : FullName). same name.signal) (names_of g w)

pub signal_of-agree : (x y : List (List ℕ)) → SameSignals x y → (o : Option FullName) → has_signal_of x o ≡ has_signal_of y o
signal_of-agree x y same None = refl
signal_of-agree x y same (Some name) = same name.signal

pub cut-append : (g : Graph) (signals : List (List ℕ)) (v w : List ℕ) → cut g signals (v ++ w) ≡ cut g signals v ++ cut g signals w
cut-append g signals v w =
    ap (names_among signals) (filter_map-append (full_name_at g) v w) ∙ filter-append (λ (name : FullName). is_among signals name.signal) (names_of g v) (names_of g w)

-- one more transition of the signals
pub cut-seen : (g : Graph) (signals : List (List ℕ)) (run : List ℕ) (t : ℕ) (name : FullName) → full_name_at g t ≡ Some name → is_among signals name.signal ≡ true
    → cut g signals (run ++ t ∷ []) ≡ cut g signals run ++ name ∷ []
cut-seen g signals run t name has known = cut-append g signals run (t ∷ []) ∙ ap (λ names. cut g signals run ++ names) one
  where
    one : cut g signals (t ∷ []) ≡ name ∷ []
    one = rw has (rw known)

-- one more transition of another signal
pub cut-unseen : (g : Graph) (signals : List (List ℕ)) (run : List ℕ) (t : ℕ) (name : FullName) → full_name_at g t ≡ Some name → is_among signals name.signal ≡ false
    → cut g signals (run ++ t ∷ []) ≡ cut g signals run
cut-unseen g signals run t name has hidden = cut-append g signals run (t ∷ []) ∙ ap (λ names. cut g signals run ++ names) none ∙ append-nil (cut g signals run)
  where
    none : cut g signals (t ∷ []) ≡ []
    none = rw has (rw hidden)

-- all live transitions are known
abbrev pub AllKnown : Graph → Type 0
AllKnown g = (t : ℕ) → IsTrans g t → IsKnown g t

pub all_known : (g : Graph) → HasNoDummy g → AllKnown g
all_known g none t live = elim (cases_Bool (has_signal_of g.known (full_name_at g t))) [
  | inl k ↦ k
  | inr k ↦ absurd (none t (record { live = live; hidden = k }))
]

-- where all are known, the cut to the known signals has every name
pub names-cut : (g : Graph) → AllKnown g → (w : List ℕ) → AreLive g w → names_of g w ≡ cut g g.known w
names-cut g known [] a = refl
names-cut g known (t ∷ w) a =
    let x = named g t a.0 in
    let rest = names-cut g known w a.1 in
    let k : is_among g.known x.name.signal ≡ true = rw x.has at (known t a.0) in
    rw x.has (rw k (ap (λ names. x.name ∷ names) rest))
