-- There is one derivation.
use Rattle.std.proofs.Common.{◌≡◌, ℕ, ◌≤◌, List, [], ◌∷◌, refl, sym, ap, ◌∙◌, subst, arith}
use Rattle.stg_net.specs.Graph.{IsDummy}
use Rattle.stg_net.specs.Initial.{initial}
use Rattle.stg_net.specs.Net.{NetLists, trans_at}
use Rattle.stg_contract.specs.Verdicts.{IsVerdict}
use Rattle.stg_contract.proofs.OneVerdict.{one_verdict}
use Rattle.stg_derive.specs.declared.part.Restore.{Restore}
use Rattle.stg_derive.specs.declared.step.Step.{Step}
use Rattle.stg_derive.specs.Attempts.{stepped_all, IsAttempt}
use Rattle.stg_derive.specs.Derivations.{IsStuck, known_with, IsPlainDerivation}
use Rattle.stg_derive.specs.Laws.{DerivationIsOne}
use Rattle.stg_derive.proofs.OneStep.{attempt_is_one}

-- there is one record of a stuck attempt
one_record : (n : NetLists) (known : List ℕ) (r s : Restore) → IsStuck n known r → IsStuck n known s → r ≡ s
one_record n known r s a b =
    let g = stepped_all (initial n known) b.steps in
    let same = attempt_is_one (initial n known) a.steps b.steps a.attempt b.attempt in
    let d : IsDummy g r.trans = subst (λ steps. IsDummy (stepped_all (initial n known) steps) r.trans) same a.recorded.least.dummy in
    let least : (u : ℕ) → IsDummy g u → r.trans ≤ u = subst (λ steps. (u : ℕ) → IsDummy (stepped_all (initial n known) steps) u → r.trans ≤ u) same a.recorded.least.least in
    let trans : r.trans ≡ s.trans = omega (arith, least s.trans b.recorded.least.dummy, b.recorded.least.least r.trans d) in
    let signal : r.signal ≡ s.signal = a.recorded.signal_is ∙ ap (λ t. (trans_at n.trans t).signal) trans ∙ sym b.recorded.signal_is in
    let here : IsVerdict g r.trans r.verdict = subst (λ steps. IsVerdict (stepped_all (initial n known) steps) r.trans r.verdict) same a.recorded.verdict_is in
    let verdict = one_verdict g s.trans r.verdict s.verdict (subst (λ t. IsVerdict g t r.verdict) trans here) b.recorded.verdict_is in
    λ i. record { signal = signal i; trans = trans i; verdict = verdict i }

-- an attempt that leaves no dummy isn't stuck
not_stuck : (n : NetLists) (known : List ℕ) (steps : List Step) (r : Restore) → IsAttempt (initial n known) steps → ((t : ℕ) → ¬ IsDummy (stepped_all (initial n known) steps) t) → ¬ IsStuck n known r
not_stuck n known steps r a none s =
    let same = attempt_is_one (initial n known) s.steps steps s.attempt a in
    none r.trans (subst (λ xs. IsDummy (stepped_all (initial n known) xs) r.trans) same s.recorded.least.dummy)

-- there is one derivation
pub derivation_is_one : DerivationIsOne
derivation_is_one n known [] [] steps others a b = (refl, attempt_is_one (initial n known) steps others a.attempt b.attempt)
derivation_is_one n known [] (s ∷ ss) steps others a b = absurd (not_stuck n known steps s a.attempt a.no_dummy b.given_back.0)
derivation_is_one n known (r ∷ rs) [] steps others a b = absurd (not_stuck n known others r b.attempt b.no_dummy a.given_back.0)
derivation_is_one n known (r ∷ rs) (s ∷ ss) steps others a b =
    let e = one_record n known r s a.given_back.0 b.given_back.0 in
    let rest : IsPlainDerivation n (known_with n known r.signal) rs steps = record { given_back = a.given_back.1; attempt = a.attempt; no_dummy = a.no_dummy } in
    let there : IsPlainDerivation n (known_with n known s.signal) ss others = record { given_back = b.given_back.1; attempt = b.attempt; no_dummy = b.no_dummy } in
    let x = derivation_is_one n (known_with n known s.signal) rs ss steps others (subst (λ (q : Restore). IsPlainDerivation n (known_with n known q.signal) rs steps) e rest) there in
    (λ i. e i ∷ x.0 i, x.1)
