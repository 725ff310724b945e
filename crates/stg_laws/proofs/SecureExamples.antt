-- Secure contraction computed on worked nets. A contraction of neither type adds a run, and one that
-- brings a structural auto-conflict makes a clean graph unclean.
use Rattle.std.proofs.Common.{◌≡◌, ◌≢◌, ℕ, zero, suc, ◌+◌, ◌<◌, ◌≤◌, List, [], ◌∷◌, refl, inl, inr, arith}
use Rattle.std.proofs.lemmas.Bool.{false≢true}
use Rattle.stg_net.specs.declared.signal.Kind.TheVariants.{Input, Output}
use Rattle.stg_net.specs.declared.trans.Edge.TheVariants.{Rise}
use Rattle.stg_net.specs.declared.arc.NetArc.{NetArc}
use Rattle.stg_net.specs.Graph.{Graph, IsTrans, tokens_at, takes, gives}
use Rattle.stg_net.specs.Initial.{initial}
use Rattle.stg_net.specs.Run.{Marking, IsEnabled, IsRun, IsRunFrom, fired, reached, reached_from}
use Rattle.stg_net.specs.Contraction.{contracted}
use Rattle.stg_net.proofs.Examples.{signal, named, into, from}
use Rattle.stg_laws.specs.Deterministic.{AreRivals, IsClean}
use Rattle.stg_laws.specs.Conflict.{HasNoAutoConflict}
use Rattle.stg_laws.specs.Secure.{IsPureOrdinary, IsType1, IsType2, IsSecure}
use Rattle.stg_laws.specs.LeaveOut.{leave_out, ComesFrom}
use Rattle.stg_laws.proofs.LeaveOut.{leave_out-other}

-- h+ goes from p to q; b+ takes from p, d+ from q and c+ from s; these three give to r, from which x+
-- takes; h is hidden
abbrev worked : List ℕ → List NetArc → Graph
worked tokens more = initial (record {
  signals = signal 98 Input ∷ signal 99 Input ∷ signal 100 Input ∷ signal 104 Input ∷ signal 120 Output ∷ [];
  trans = named 0 Rise ∷ named 3 Rise ∷ named 2 Rise ∷ named 1 Rise ∷ named 4 Rise ∷ [];
  tokens = tokens;
  arcs = from 0 0 ∷ from 0 1 ∷ into 1 1 ∷ from 1 2 ∷ from 2 3 ∷ into 3 0 ∷ into 3 2 ∷ into 3 3 ∷ from 3 4 ∷ more;
}) (0 ∷ 1 ∷ 2 ∷ 4 ∷ [])

-- one token in p, so many in q, and one in s
abbrev with_tokens : ℕ → Graph
with_tokens k = worked (1 ∷ k ∷ 1 ∷ 0 ∷ []) []

h_is_pure_ordinary : (k : ℕ) → IsPureOrdinary (with_tokens k) 1
h_is_pure_ordinary k = record { pure = pure; takes_one = takes_one; gives_one = gives_one }
  where
    pure : (p : ℕ) → 0 < takes (with_tokens k) 1 p → gives (with_tokens k) 1 p ≡ 0
    pure zero there = refl
    pure (suc zero) there = absurd (omega (arith, there))
    pure (suc (suc zero)) there = absurd (omega (arith, there))
    pure (suc (suc (suc zero))) there = absurd (omega (arith, there))
    pure (suc (suc (suc (suc p)))) there = absurd (omega (arith, there))

    takes_one : (p : ℕ) → takes (with_tokens k) 1 p ≤ 1
    takes_one zero = omega arith
    takes_one (suc zero) = omega arith
    takes_one (suc (suc zero)) = omega arith
    takes_one (suc (suc (suc zero))) = omega arith
    takes_one (suc (suc (suc (suc p)))) = omega arith

    gives_one : (p : ℕ) → gives (with_tokens k) 1 p ≤ 1
    gives_one zero = omega arith
    gives_one (suc zero) = omega arith
    gives_one (suc (suc zero)) = omega arith
    gives_one (suc (suc (suc zero))) = omega arith
    gives_one (suc (suc (suc (suc p)))) = omega arith

-- no other transition gives to a place to which t gives
abbrev GivesAlone : Graph → ℕ → Type 0
GivesAlone g t = (u q : ℕ) → IsTrans g u → u ≢ t → 0 < gives g t q → gives g u q ≡ 0

h_gives_alone : (k : ℕ) → GivesAlone (with_tokens k) 1
h_gives_alone k = alone
  where
    one_giver : (u : ℕ) → IsTrans (with_tokens k) u → u ≢ 1 → gives (with_tokens k) u 1 ≡ 0
    one_giver zero live other = refl
    one_giver (suc zero) live other = absurd (other refl)
    one_giver (suc (suc zero)) live other = refl
    one_giver (suc (suc (suc zero))) live other = refl
    one_giver (suc (suc (suc (suc zero)))) live other = refl
    one_giver (suc (suc (suc (suc (suc u))))) live other = absurd (false≢true live)

    alone : GivesAlone (with_tokens k) 1
    alone u zero live other there = absurd (omega (arith, there))
    alone u (suc zero) live other there = one_giver u live other
    alone u (suc (suc zero)) live other there = absurd (omega (arith, there))
    alone u (suc (suc (suc zero))) live other there = absurd (omega (arith, there))
    alone u (suc (suc (suc (suc q)))) live other there = absurd (omega (arith, there))

-- h+ alone gives to q, which is empty
h_is_type2 : IsType2 (with_tokens 0) 1
h_is_type2 = record { alone = h_gives_alone 0; empty = 1; after = omega arith; no_tokens = refl }

-- b+ takes from p as well
h_is_not_type1 : IsType1 (with_tokens 0) 1 → ⊥
h_is_not_type1 type1 =
    let none : 1 ≡ 0 = type1 0 0 refl (λ e. omega (arith, e)) (omega arith) in omega (arith, none)

-- d+ alone takes from q
d_is_type1 : IsType1 (with_tokens 0) 2
d_is_type1 u zero live other there = absurd (omega (arith, there))
d_is_type1 u (suc zero) live other there = one_taker u live other
  where
    one_taker : (u : ℕ) → IsTrans (with_tokens 0) u → u ≢ 2 → takes (with_tokens 0) u 1 ≡ 0
    one_taker zero live other = refl
    one_taker (suc zero) live other = refl
    one_taker (suc (suc zero)) live other = absurd (other refl)
    one_taker (suc (suc (suc zero))) live other = refl
    one_taker (suc (suc (suc (suc zero)))) live other = refl
    one_taker (suc (suc (suc (suc (suc u))))) live other = absurd (false≢true live)
d_is_type1 u (suc (suc zero)) live other there = absurd (omega (arith, there))
d_is_type1 u (suc (suc (suc zero))) live other there = absurd (omega (arith, there))
d_is_type1 u (suc (suc (suc (suc p)))) live other there = absurd (omega (arith, there))

-- with a token in q too, all places after h+ are marked
abbrev marked : Graph
marked = with_tokens 1

marked_is_insecure : IsSecure marked 1 → ⊥
marked_is_insecure (inl type1) =
    let none : 1 ≡ 0 = type1 0 0 refl (λ e. omega (arith, e)) (omega arith) in omega (arith, none)
marked_is_insecure (inr type2) = none_empty type2.empty type2.after type2.no_tokens
  where
    none_empty : (q : ℕ) → 0 < gives marked 1 q → tokens_at marked q ≡ 0 → ⊥
    none_empty zero there e = omega (arith, there)
    none_empty (suc zero) there e = let one : 1 ≡ 0 = e in omega (arith, one)
    none_empty (suc (suc zero)) there e = omega (arith, there)
    none_empty (suc (suc (suc zero))) there e = omega (arith, there)
    none_empty (suc (suc (suc (suc q)))) there e = omega (arith, there)

-- c+ gives to q as well
abbrev two_givers : Graph
two_givers = worked (1 ∷ 0 ∷ 1 ∷ 0 ∷ []) (into 1 3 ∷ [])

two_givers_is_insecure : IsSecure two_givers 1 → ⊥
two_givers_is_insecure (inl type1) =
    let none : 1 ≡ 0 = type1 0 0 refl (λ e. omega (arith, e)) (omega arith) in omega (arith, none)
two_givers_is_insecure (inr type2) =
    let none : 1 ≡ 0 = type2.alone 3 1 refl (λ e. omega (arith, e)) (omega arith) in omega (arith, none)

-- h+ gives to p, from which it takes
looped_is_not_pure : IsPureOrdinary (worked (1 ∷ 0 ∷ 1 ∷ 0 ∷ []) (into 0 1 ∷ [])) 1 → ⊥
looped_is_not_pure s = let none : 1 ≡ 0 = s.pure 0 (omega arith) in omega (arith, none)

-- h+ takes two tokens from p
heavy_is_not_ordinary : IsPureOrdinary (worked (1 ∷ 0 ∷ 1 ∷ 0 ∷ []) (from 0 1 ∷ [])) 1 → ⊥
heavy_is_not_ordinary s = let few : 2 ≤ 1 = s.takes_one 0 in omega (arith, few)

-- where all places after h+ are marked, the contraction adds the run b+ b+: the new place holds two
-- tokens, and p held one
twice_after : IsRun (contracted marked 1) (0 ∷ 0 ∷ [])
twice_after = (record { live = refl; covered = first }, (record { live = refl; covered = second }, tt))
  where
    first : (p : ℕ) → takes (contracted marked 1) 0 p ≤ tokens_at (contracted marked 1) p
    first zero = omega arith
    first (suc zero) = omega arith
    first (suc (suc zero)) = omega arith
    first (suc (suc (suc zero))) = omega arith
    first (suc (suc (suc (suc zero)))) = omega arith
    first (suc (suc (suc (suc (suc p))))) = omega arith

    second : (p : ℕ)
        → takes (contracted marked 1) 0 p ≤ fired (contracted marked 1) (tokens_at (contracted marked 1)) 0 p
    second zero = omega arith
    second (suc zero) = omega arith
    second (suc (suc zero)) = omega arith
    second (suc (suc (suc zero))) = omega arith
    second (suc (suc (suc (suc zero)))) = omega arith
    second (suc (suc (suc (suc (suc p))))) = omega arith

-- from an empty p, b+ doesn't come first
never : (w rest : List ℕ) (m : Marking) → IsRunFrom marked m w → leave_out 1 w ≡ 0 ∷ rest → m 0 ≡ 0
    → ⊥
never [] rest m run e empty = cc
never (zero ∷ w) rest m run e empty =
    let enough : 1 ≤ m 0 = run.0.covered 0 in omega (arith, enough, empty)
never (suc zero ∷ w) rest m run e empty =
    let enough : 1 ≤ m 0 = run.0.covered 0 in omega (arith, enough, empty)
never (suc (suc u) ∷ w) rest m run e empty =
    let f : suc (suc u) ∷ leave_out 1 w ≡ 0 ∷ rest = rw (leave_out-other 1 (suc (suc u)) w (λ d. omega (arith, d))) at e in absurd (cc)

-- with one token in p, b+ doesn't come twice
never_twice : (w : List ℕ) (m : Marking) → IsRunFrom marked m w → leave_out 1 w ≡ 0 ∷ 0 ∷ []
    → m 0 ≤ 1 → ⊥
never_twice [] m run e one = cc
never_twice (zero ∷ w) m run e one =
    let enough : 1 ≤ m 0 = run.0.covered 0 in
    let f : 0 ∷ leave_out 1 w ≡ 0 ∷ 0 ∷ [] = e in
    let rest : leave_out 1 w ≡ 0 ∷ [] = cc in
    never w [] (fired marked m 0) run.1 rest (omega (arith, enough, one))
never_twice (suc zero ∷ w) m run e one =
    let enough : 1 ≤ m 0 = run.0.covered 0 in
    never w (0 ∷ []) (fired marked m 1) run.1 e (omega (arith, enough, one))
never_twice (suc (suc u) ∷ w) m run e one =
    let f : suc (suc u) ∷ leave_out 1 w ≡ 0 ∷ 0 ∷ [] = rw (leave_out-other 1 (suc (suc u)) w (λ d. omega (arith, d))) at e in absurd (cc)

-- so type 2 asks for an empty place: without it, the law on added runs is false
abbrev AddsNoRunMarked : Type 0
AddsNoRunMarked = (g : Graph) (t : ℕ) (run : List ℕ) → IsTrans g t → IsPureOrdinary g t
    → GivesAlone g t → IsRun (contracted g t) run → ComesFrom g t run

marked_adds_a_run : AddsNoRunMarked → ⊥
marked_adds_a_run law =
    let c = law marked 1 (0 ∷ 0 ∷ []) refl (h_is_pure_ordinary 1) (h_gives_alone 1) twice_after in
    never_twice c.before (tokens_at marked) c.runs c.is_rest (omega arith)

-- a+ and h+ take from p, and h+ gives to q, from which a+/1 takes; h is hidden
abbrev clashing : Graph
clashing = initial (record {
  signals = signal 97 Input ∷ signal 104 Input ∷ [];
  trans = named 0 Rise ∷ named 1 Rise ∷ record { signal = 0; edge = Rise; index = 1 } ∷ [];
  tokens = 1 ∷ 0 ∷ [];
  arcs = from 0 0 ∷ from 0 1 ∷ into 1 1 ∷ from 1 2 ∷ [];
}) (0 ∷ [])

-- once h+ is contracted, a+ and a+/1 take from the new place
rivals_after : AreRivals (contracted clashing 1) 0 2
rivals_after = record {
  differ = λ e. omega (arith, e);
  t_known = refl;
  u_known = refl;
  t_name = record { signal = 97 ∷ []; edge = Rise; index = 0 };
  u_name = record { signal = 97 ∷ []; edge = Rise; index = 1 };
  t_has = refl;
  u_has = refl;
  same = refl;
}

brings_a_conflict : HasNoAutoConflict (contracted clashing 1) → ⊥
brings_a_conflict apart =
    apart 0 2 2 (record { rivals = rivals_after; t_takes = omega arith; u_takes = omega arith })

enabled_after : (t : ℕ) → IsTrans (contracted clashing 1) t
    → IsEnabled (contracted clashing 1) (tokens_at (contracted clashing 1)) t
enabled_after t live = record { live = live; covered = covered t }
  where
    covered : (t p : ℕ) → takes (contracted clashing 1) t p ≤ tokens_at (contracted clashing 1) p
    covered t zero = omega arith
    covered t (suc zero) = omega arith
    covered zero (suc (suc zero)) = omega arith
    covered (suc zero) (suc (suc zero)) = omega arith
    covered (suc (suc zero)) (suc (suc zero)) = omega arith
    covered (suc (suc (suc t))) (suc (suc zero)) = omega arith
    covered t (suc (suc (suc p))) = omega arith

-- both are enabled at once
unclean_after : IsClean (contracted clashing 1) → ⊥
unclean_after clean = clean [] 0 2 tt rivals_after (enabled_after 0 refl) (enabled_after 2 refl)

-- before, p and q never hold more than one token together
one_token : (w : List ℕ) (m : Marking) → IsRunFrom clashing m w
    → reached_from clashing m w 0 + reached_from clashing m w 1 ≤ m 0 + m 1
one_token [] m run = omega arith
one_token (zero ∷ w) m run =
    let a : 1 ≤ m 0 = run.0.covered 0 in omega (arith, a, one_token w (fired clashing m 0) run.1)
one_token (suc zero ∷ w) m run =
    let a : 1 ≤ m 0 = run.0.covered 0 in omega (arith, a, one_token w (fired clashing m 1) run.1)
one_token (suc (suc zero) ∷ w) m run =
    let a : 1 ≤ m 1 = run.0.covered 1 in omega (arith, a, one_token w (fired clashing m 2) run.1)
one_token (suc (suc (suc u)) ∷ w) m run = absurd (false≢true run.0.live)

-- so a+ and a+/1 are never enabled at once
clean_before : IsClean clashing
clean_before run t u runs r et eu = apart t u r et eu
  where
    few : reached clashing run 0 + reached clashing run 1 ≤ 1
    few = one_token run (tokens_at clashing) runs

    apart : (t u : ℕ) → AreRivals clashing t u → IsEnabled clashing (reached clashing run) t
        → IsEnabled clashing (reached clashing run) u → ⊥
    apart zero zero r et eu = r.differ refl
    apart zero (suc zero) r et eu = false≢true r.u_known
    apart zero (suc (suc zero)) r et eu =
        let a : 1 ≤ reached clashing run 0 = et.covered 0 in let b : 1 ≤ reached clashing run 1 = eu.covered 1 in omega (arith, few, a, b)
    apart zero (suc (suc (suc u))) r et eu = false≢true r.u_known
    apart (suc zero) u r et eu = false≢true r.t_known
    apart (suc (suc zero)) zero r et eu =
        let a : 1 ≤ reached clashing run 0 = eu.covered 0 in let b : 1 ≤ reached clashing run 1 = et.covered 1 in omega (arith, few, a, b)
    apart (suc (suc zero)) (suc zero) r et eu = false≢true r.u_known
    apart (suc (suc zero)) (suc (suc zero)) r et eu = r.differ refl
    apart (suc (suc zero)) (suc (suc (suc u))) r et eu = false≢true r.u_known
    apart (suc (suc (suc t))) u r et eu = false≢true r.t_known

clashing_is_pure_ordinary : IsPureOrdinary clashing 1
clashing_is_pure_ordinary = record { pure = pure; takes_one = takes_one; gives_one = gives_one }
  where
    pure : (p : ℕ) → 0 < takes clashing 1 p → gives clashing 1 p ≡ 0
    pure zero there = refl
    pure (suc zero) there = absurd (omega (arith, there))
    pure (suc (suc p)) there = absurd (omega (arith, there))

    takes_one : (p : ℕ) → takes clashing 1 p ≤ 1
    takes_one zero = omega arith
    takes_one (suc zero) = omega arith
    takes_one (suc (suc p)) = omega arith

    gives_one : (p : ℕ) → gives clashing 1 p ≤ 1
    gives_one zero = omega arith
    gives_one (suc zero) = omega arith
    gives_one (suc (suc p)) = omega arith

clashing_is_type2 : IsType2 clashing 1
clashing_is_type2 = record { alone = alone; empty = 1; after = omega arith; no_tokens = refl }
  where
    alone : GivesAlone clashing 1
    alone u zero live other there = absurd (omega (arith, there))
    alone zero (suc zero) live other there = refl
    alone (suc zero) (suc zero) live other there = absurd (other refl)
    alone (suc (suc zero)) (suc zero) live other there = refl
    alone (suc (suc (suc u))) (suc zero) live other there = absurd (false≢true live)
    alone u (suc (suc q)) live other there = absurd (omega (arith, there))

-- so the law on clean graphs is false where a contraction may bring a structural auto-conflict
abbrev KeepsCleanWithConflicts : Type 0
KeepsCleanWithConflicts = (g : Graph) (t : ℕ) → IsTrans g t → IsPureOrdinary g t → IsSecure g t
    → IsClean g → IsClean (contracted g t)

conflict_is_unclean : KeepsCleanWithConflicts → ⊥
conflict_is_unclean law =
    unclean_after (law clashing 1 refl clashing_is_pure_ordinary (inr clashing_is_type2) clean_before)
