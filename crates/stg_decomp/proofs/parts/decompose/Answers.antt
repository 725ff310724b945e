use Rattle.std.proofs.Common.{◌≡◌, ◌∙◌, None, Err, refl, sym, ap, subst}
use Rattle.std.specs.Option.{option_copied}
use Rattle.stg_net.specs.Initial.{graph_of}
use Rattle.stg_net.specs.Net.{NetLists}
use Rattle.stg_laws.specs.Conflict.{HasNoAutoConflict, IsLeastClash}
use Rattle.stg_laws.specs.PlainGroups.{AreFeasible}
use Rattle.stg_decomp.specs.declared.error.DecompError.{DecompError}
use Rattle.stg_decomp.specs.Telling.{clash_told}
use Rattle.stg_decomp.proofs.Grouped.{groups_feasible}
use Rattle.stg_decomp.proofs.Refusals.{tells_no_clash}
use Rattle.stg_decomp.proofs.parts.decompose.Goals as goal

pub returns-in-Ok-make_answer-clause-none : goal.returns-in-Ok-make_answer-clause-none
returns-in-Ok-make_answer-clause-none g c =
    let P : NetLists → Type 0 = λ n. HasNoAutoConflict (graph_of n) in
    let apart = subst P c.net.ensures.net (c.in-Ok.ensures.none.0 refl) in
    (λ _. apart, λ _. refl)

pub returns-clause-none : goal.returns-clause-none
returns-clause-none g c =
    let P : NetLists → Type 0 = λ n. HasNoAutoConflict (graph_of n) in
    let apart = subst P c.net.ensures.net (c.in-Ok.ensures.none.0 refl) in
    (λ _. apart, λ _. refl)

pub returns-in-Err-find_groups-clause-none : goal.returns-in-Err-find_groups-clause-none
returns-in-Err-find_groups-clause-none g c =
    let P : NetLists → Type 0 = λ n. HasNoAutoConflict (graph_of n) in
    let apart = subst P c.net.ensures.net (c.in-Ok.ensures.none.0 refl) in
    let told : clash_told (Err c.refuse.result) ≡ None = ap (λ (e : DecompError). clash_told (Err e)) c.refuse.ensures ∙ tells_no_clash c.in-Err-find_groups.error in
    (λ _. apart, λ _. told)

pub make_answer-requires-clause-feasible : goal.make_answer-requires-clause-feasible
make_answer-requires-clause-feasible g c =
    let n = c.args.spec.now.net in
    λ _ _. subst (AreFeasible n) (sym c.as_slice.ensures) (groups_feasible n (option_copied c.args.partition) c.in-Ok-find_groups.groups c.in-Ok-find_groups.ensures.groups)

pub make_answer-requires-clause-no_conflict : goal.make_answer-requires-clause-no_conflict
make_answer-requires-clause-no_conflict g c =
    let P : NetLists → Type 0 = λ n. HasNoAutoConflict (graph_of n) in
    λ _ _. subst P c.net.ensures.net (c.in-Ok.ensures.none.0 refl)

pub returns-in-Err-clause-none : goal.returns-in-Err-clause-none
returns-in-Err-clause-none g c =
    let x = c.in-Err.clash in
    let P : NetLists → Type 0 = λ n. IsLeastClash (graph_of n) x.t1 x.t2 x.place in
    let least = subst P c.net.ensures.net c.in-Err.ensures.least in
    (λ e. cc, λ none. absurd (none x.t1 x.t2 x.place least.clash.conflict))
