-- The definitions of verdicts computed on small graphs.
use Rattle.std.proofs.Common.{◌≡◌, ℕ, zero, suc, true, false, List, [], ◌∷◌, Option, Some, None, refl, sym, inl, inr, arith}
use Rattle.std.proofs.lemmas.Bool.{false≢true}
use Rattle.stg_net.specs.declared.trans.Edge.TheVariants.{Rise}
use Rattle.stg_net.specs.Graph.{Graph, FullName, Place, IsDummy}
use Rattle.stg_net.specs.Contraction.{contracted}
use Rattle.stg_edit.specs.Counted.{count_arcs}
use Rattle.stg_edit.specs.Replacing.{new_places, new_arcs}
use Rattle.stg_edit.specs.Drafts.{IsWeightlessWhereRemoved}
use Rattle.stg_laws.specs.Secure.{IsType1, IsType2}
use Rattle.stg_contract.specs.declared.verdict.Verdict.TheVariants.{Loop, Weight, Insecure, Clash}
use Rattle.stg_contract.specs.Verdicts.{IsVerdict, count_places, most_places}
use Rattle.stg_contract.specs.inner.Tests.{is_left, is_kept}
use Rattle.stg_contract.specs.inner.Searches.{least_round, least_at_left}
use Rattle.stg_contract.specs.inner.Sums.{is_large_round, is_large_at}
use Rattle.stg_contract.specs.inner.Counts.{arcs_kept}
use Rattle.stg_contract.proofs.DummyTests.{pure_found, type1_found, type2_found, not_type1, not_type2, loop_found, no_loop, weight_found}
use Rattle.stg_contract.proofs.ContractedClashes.{far_least}

abbrev name : ℕ → ℕ → FullName
name s i = record { signal = s ∷ []; edge = Rise; index = i }

abbrev place : ℕ → List ℕ → List ℕ → Option Place
place k taken given = Some (record { tokens = k; taken = taken; given = given })

-- h+ takes from p, as a+ does, and gives to q, from which a+/1 takes: contracted, a+ and a+/1 would take from one place
abbrev clashing : Graph
clashing = record {
  places = place 1 (1 ∷ 1 ∷ 0 ∷ []) (0 ∷ 0 ∷ 0 ∷ []) ∷ place 0 (0 ∷ 0 ∷ 1 ∷ []) (0 ∷ 1 ∷ 0 ∷ []) ∷ [];
  trans = Some (name 97 0) ∷ Some (name 104 0) ∷ Some (name 97 1) ∷ [];
  known = (97 ∷ []) ∷ [];
  first_places = 2;
}

clashes : least_round clashing 1 ≡ Some (0, 2)
clashes = refl

hidden : IsDummy clashing 1
hidden = record { live = refl; hidden = refl }

is_second : IsType2 clashing 1
is_second = type2_found clashing 1 refl

-- so its verdict is that clash
is_clash : IsVerdict clashing 1 (Clash 0 2)
is_clash = (record { pure_ordinary = pure_found clashing 1 refl refl; secure = inr is_second }, far_least clashing 1 hidden)

one_place : (count_places clashing ≡ 2) × (count_places (contracted clashing 1) ≡ 1) × (new_places clashing 1 ≡ 1)
one_place = (refl, refl, refl)

two_arcs : (count_arcs clashing ≡ 4) × (count_arcs (contracted clashing 1) ≡ 2) × (new_arcs clashing 1 ≡ 2) × (arcs_kept clashing 1 ≡ 0)
two_arcs = (refl, refl, refl, refl)

most : most_places clashing ≡ 68
most = refl

-- h+ takes from p alone and gives to nothing, so p vanishes; a+ and a+/1 take from another place
abbrev far : Graph
far = record clashing { places = place 1 (0 ∷ 1 ∷ 0 ∷ []) (0 ∷ 0 ∷ 0 ∷ []) ∷ place 0 (1 ∷ 0 ∷ 1 ∷ []) (0 ∷ 0 ∷ 0 ∷ []) ∷ [] }

what_is_left : (is_left far 1 0 ≡ false) × (is_left far 1 1 ≡ true) × (is_kept far 1 1 ≡ true) × (arcs_kept far 1 ≡ 2)
what_is_left = (refl, refl, refl, refl)

clash_is_far : (least_round far 1 ≡ None) × (least_at_left far 1 None ≡ Some (0, 2))
clash_is_far = (refl, refl)

-- the first graph, where q holds a token: h+ is of neither type
abbrev insecure : Graph
insecure = record clashing { places = place 1 (1 ∷ 1 ∷ 0 ∷ []) (0 ∷ 0 ∷ 0 ∷ []) ∷ place 1 (0 ∷ 0 ∷ 1 ∷ []) (0 ∷ 1 ∷ 0 ∷ []) ∷ [] }

none_gone : IsWeightlessWhereRemoved insecure
none_gone zero p low gone = absurd (false≢true (sym gone))
none_gone (suc zero) p low gone = absurd (false≢true (sym gone))
none_gone (suc (suc zero)) p low gone = absurd (false≢true (sym gone))
none_gone (suc (suc (suc t))) p low gone = absurd (omega (arith, low))

is_insecure : IsVerdict insecure 1 Insecure
is_insecure = (pure_found insecure 1 refl refl, λ secure. elim secure [ inl a ↦ not_type1 insecure 1 none_gone refl a | inr b ↦ not_type2 insecure 1 none_gone refl b ])

-- h+ takes from p and gives to it
abbrev looping : Graph
looping = record clashing { places = place 1 (0 ∷ 1 ∷ 0 ∷ []) (0 ∷ 1 ∷ 0 ∷ []) ∷ [] }

is_loop : IsVerdict looping 1 Loop
is_loop = loop_found looping 1 refl

-- h+ gives two tokens to q
abbrev heavy : Graph
heavy = record clashing { places = place 1 (1 ∷ 1 ∷ 0 ∷ []) (0 ∷ 0 ∷ 0 ∷ []) ∷ place 0 (0 ∷ 0 ∷ 1 ∷ []) (0 ∷ 2 ∷ 0 ∷ []) ∷ [] }

is_heavy : IsVerdict heavy 1 Weight
is_heavy = (no_loop heavy 1 refl, weight_found heavy 1 refl)

-- 600,000 tokens before h+ and after it
abbrev rich : Graph
rich = record clashing { places = place 600000 (0 ∷ 1 ∷ 0 ∷ []) (0 ∷ 0 ∷ 0 ∷ []) ∷ place 600000 (0 ∷ 0 ∷ 1 ∷ []) (0 ∷ 1 ∷ 0 ∷ []) ∷ [] }

too_rich : (is_large_round rich 1 ≡ true) × (is_large_at rich 0 ≡ false)
too_rich = (refl, refl)

is_first : IsType1 rich 1
is_first = type1_found rich 1 refl
