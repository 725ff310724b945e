use Rattle.std.proofs.Common.{ap, sym, subst, ◌∙◌}
use Rattle.stg_contract.specs.inner.Watches.{HasNumber}
use Rattle.stg_redundant.specs.inner.Tests.{first_of}
use Rattle.stg_redundant.proofs.NearTrans.{no_places, same_by_takers, same_by_givers}
use Rattle.stg_redundant.proofs.dummy_watch.add_same.Goals as goal

pub returns-in-Some-clause-added : goal.returns-in-Some-clause-added
returns-in-Some-clause-added c u p arc s =
    let first = sym (c.first_of.ensures ∙ ap first_of c.takes.ensures.value) ∙ c.in-Some.is in
    let h = same_by_takers c.args.editor.now.now c.args.v c.in-Some.p first u s in
    c.in_ok-add_all_same-in-Some.ensures.added u (subst (HasNumber u) (sym c.takers.ensures.value) h.0) h.1

pub returns-in_ok-add_all_same-in-Some-first_of-clause-added :
    goal.returns-in_ok-add_all_same-in-Some-first_of-clause-added
returns-in_ok-add_all_same-in-Some-first_of-clause-added c u p arc s =
    let first = sym (c.first_of-2.ensures ∙ ap first_of c.gives.ensures.value) ∙ c.in-Some-first_of.is in
    let h = same_by_givers c.args.editor.now.now c.args.v c.in-Some-first_of.p first u s in
    c.in_ok-add_all_same-in-Some-first_of.ensures.added u (subst (HasNumber u) (sym c.givers.ensures.value) h.0) h.1

pub returns-in-None-first_of-clause-added : goal.returns-in-None-first_of-clause-added
returns-in-None-first_of-clause-added c u p arc s =
    let none_taken = sym (c.first_of.ensures ∙ ap first_of c.takes.ensures.value) ∙ c.in-None.is in
    let none_given = sym (c.first_of-2.ensures ∙ ap first_of c.gives.ensures.value) ∙ c.in-None-first_of.is in
    absurd (no_places c.args.editor.now.now c.args.v p none_taken none_given arc)
