-- A part has one wear.
use Rattle.std.proofs.Common.{◌≡◌, ℕ, List, [], ◌∷◌, length, sym, ap, ◌∙◌, subst, arith}
use Rattle.stg_net.specs.Graph.{Graph}
use Rattle.stg_net.specs.Initial.{initial}
use Rattle.stg_net.specs.Net.{NetLists}
use Rattle.stg_derive.specs.declared.step.Step.{Step}
use Rattle.stg_derive.specs.declared.part.Restore.{Restore}
use Rattle.stg_derive.specs.Derivations.{known_with}
use Rattle.stg_derive.specs.Undoing.{IsKeptNumber, IsUndoneBy, AreUndone}
use Rattle.stg_derive.specs.Laws.{WearIsOne}
use Rattle.stg_derive.proofs.OneStep.{attempt_is_one}
use Rattle.stg_derive.proofs.OneDerivation.{derivation_is_one}

one_kept : (n : NetLists) (signal : ℕ) (g : Graph) (steps : List Step) (j k : ℕ) → IsKeptNumber n signal g steps j → IsKeptNumber n signal g steps k → j ≡ k
one_kept n signal g steps j k a b = omega (arith, a.most k b.few b.stay, b.most j a.few a.stay)

one_undone_by : (n : NetLists) (known : List ℕ) (r : Restore) (j k : ℕ) → IsUndoneBy n known r j → IsUndoneBy n known r k → j ≡ k
one_undone_by n known r j k a b =
    let same = attempt_is_one (initial n known) a.steps b.steps a.attempt b.attempt in
    let kept = one_kept n r.signal (initial n known) b.steps a.kept b.kept (subst (λ steps. IsKeptNumber n r.signal (initial n known) steps a.kept) same a.kept_number) b.kept_number in
    omega (arith, a.number, b.number, kept, ap length same)

one_undone : (n : NetLists) (known : List ℕ) (restored : List Restore) (j k : ℕ) → AreUndone n known restored j → AreUndone n known restored k → j ≡ k
one_undone n known [] j k a b = omega (arith, a, b)
one_undone n known (r ∷ restored) j k a b =
    omega (arith, one_undone_by n known r a.0 b.0 a.2 b.2, one_undone n (known_with n known r.signal) restored a.1 b.1 a.3 b.3, a.4, b.4)

pub wear_is_one : WearIsOne
wear_is_one n group a b x y v w =
    let same = derivation_is_one n group.known a.restored b.restored a.steps b.steps x.derivation y.derivation in
    let number = one_undone n group.known b.restored v.number w.number (subst (λ rs. AreUndone n group.known rs v.number) same.0 v.are_undone) w.are_undone in
    let edits : a.wear.edits ≡ b.wear.edits = v.edits ∙ ap length same.1 ∙ sym w.edits in
    let undone : a.wear.undone ≡ b.wear.undone = omega (arith, v.undone, w.undone, number) in
    λ i. record { edits = edits i; undone = undone i }
