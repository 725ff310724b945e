-- What the cut of a run tells of the places from which a closed group's transitions take.
use Rattle.std.proofs.Common.{◌≡◌, ℕ, ◌+◌, ◌-◌, ◌<◌, ◌⊎◌, List, [], ◌∷◌, filter, Option, Some, None, IsTrue, true, false, cond, refl, sym, ◌∙◌, ap, inl, inr, arith}
use Rattle.std.proofs.lemmas.Bool.{cases_lt, cases_Bool, false≢true}
use Rattle.stg_net.specs.Graph.{Graph, FullName, IsTrans, full_name_at, is_among, has_signal_of, tokens_at, takes, gives}
use Rattle.stg_net.specs.Run.{Marking, IsRun, fired, reached, reached_from}
use Rattle.stg_laws.specs.Closed.{IsClosed}
use Rattle.stg_laws.specs.Cuts.{cut, names_of}
use Rattle.stg_laws.specs.Stgs.{HasDistinctNames}
use Rattle.stg_laws.proofs.Names.{AreLive, live_run, same_from_names}

-- the run's transitions of the signals
abbrev run_among : Graph → List (List ℕ) → List ℕ → List ℕ
run_among g signals w = filter (λ t. has_signal_of signals (full_name_at g t)) w

names-run_among : (g : Graph) (signals : List (List ℕ)) (w : List ℕ) → names_of g (run_among g signals w) ≡ cut g signals w
names-run_among g signals [] = refl
names-run_among g signals (t ∷ w) = go (full_name_at g t) refl (names-run_among g signals w)
  where
    go : (o : Option FullName) → full_name_at g t ≡ o → names_of g (run_among g signals w) ≡ cut g signals w → names_of g (run_among g signals (t ∷ w)) ≡ cut g signals (t ∷ w)
    go None e rest = rw e rest
    go (Some name) e rest = elim (cases_Bool (is_among signals name.signal)) [
      | inl c ↦ rw e (rw c (rw e (ap (λ names. name ∷ names) rest)))
      | inr c ↦ rw e (rw c rest)
    ]

live-run_among : (g : Graph) (signals : List (List ℕ)) (w : List ℕ) → AreLive g w → AreLive g (run_among g signals w)
live-run_among g signals [] a = tt
live-run_among g signals (t ∷ w) a =
    elim (has_signal_of signals (full_name_at g t)) as (λ b. AreLive g (cond b (t ∷ run_among g signals w) (run_among g signals w))) [
      | true ↦ (a.0, live-run_among g signals w a.1)
      | false ↦ live-run_among g signals w a.1
    ]

-- what p holds after the transitions, from x tokens on
abbrev held_after : Graph → ℕ → ℕ → List ℕ → ℕ
held_after g p x [] = x
held_after g p x (t ∷ w) = held_after g p (x - takes g t p + gives g t p) w

-- a place whose arcs all belong to the signals
abbrev HasArcsOf : Graph → List (List ℕ) → ℕ → Type 0
HasArcsOf g signals p = (t : ℕ) → IsTrans g t → has_signal_of signals (full_name_at g t) ≡ false → (takes g t p ≡ 0) × (gives g t p ≡ 0)

reached-held : (g : Graph) (signals : List (List ℕ)) (p : ℕ) → HasArcsOf g signals p → (w : List ℕ) (m : Marking) → AreLive g w → reached_from g m w p ≡ held_after g p (m p) (run_among g signals w)
reached-held g signals p arcs [] m a = refl
reached-held g signals p arcs (t ∷ w) m a = elim (cases_Bool (has_signal_of signals (full_name_at g t))) [
  | inl b ↦ rw b (reached-held g signals p arcs w (fired g m t) a.1)
  | inr b ↦ rw b (reached-held g signals p arcs w (fired g m t) a.1 ∙ ap (λ x. held_after g p x (run_among g signals w)) (let none = arcs t a.0 b in omega (arith, none.0, none.1)))
]

same_held : (g : Graph) (signals : List (List ℕ)) (p : ℕ) → HasDistinctNames g → HasArcsOf g signals p → (v w : List ℕ) → IsRun g v → IsRun g w → cut g signals v ≡ cut g signals w → reached g v p ≡ reached g w p
same_held g signals p distinct arcs v w a b e =
    let lv = live_run g (tokens_at g) v a in
    let lw = live_run g (tokens_at g) w b in
    let names = names-run_among g signals v ∙ e ∙ sym (names-run_among g signals w) in
    let same = same_from_names g distinct (run_among g signals v) (run_among g signals w) (live-run_among g signals v lv) (live-run_among g signals w lw) names in
    reached-held g signals p arcs v (tokens_at g) lv ∙ ap (held_after g p (tokens_at g p)) same ∙ sym (reached-held g signals p arcs w (tokens_at g) lw)

closed_arcs : (g : Graph) (own signals : List (List ℕ)) (t p : ℕ) → IsClosed g own signals → IsTrue (has_signal_of own (full_name_at g t)) → 0 < takes g t p → HasArcsOf g signals p
closed_arcs g own signals t p closed own_t takes_t u live hidden = (none (takes g u p) (λ l. inl l), none (gives g u p) (λ l. inr l))
  where
    none : (x : ℕ) → (0 < x → (0 < takes g u p) ⊎ (0 < gives g u p)) → x ≡ 0
    none x h = elim (cases_lt 0 x) [
      | inl l ↦ absurd (false≢true (sym hidden ∙ closed t u p own_t takes_t live (h l)))
      | inr z ↦ omega arith
    ]

-- equal cuts leave equal tokens in each place from which an own transition takes
pub cut_tells_inputs : (g : Graph) (own signals : List (List ℕ)) (t p : ℕ) (v w : List ℕ) → HasDistinctNames g → IsClosed g own signals → IsTrue (has_signal_of own (full_name_at g t)) → 0 < takes g t p
    → IsRun g v → IsRun g w → cut g signals v ≡ cut g signals w → reached g v p ≡ reached g w p
cut_tells_inputs g own signals t p v w distinct closed own_t takes_t a b e = same_held g signals p distinct (closed_arcs g own signals t p closed own_t takes_t) v w a b e
