use Rattle.std.proofs.Common.{◌≡◌, ◌∙◌, ℕ, List, Option, Some, None, length, get_or, refl, sym, ap, subst, arith}
use Rattle.std.specs.Vec.{with_items}
use Rattle.std.proofs.lemmas.List.{length-map, with_items_is}
use Rattle.stg_net.specs.declared.trans.TransName.{TransName}
use Rattle.stg_net.specs.Graph.{Graph}
use Rattle.stg_net.specs.Initial.{initial, full_name}
use Rattle.stg_derive.specs.inner.UnderWay.{IsNotedWhere, IsGone}
use Rattle.stg_derive.specs.inner.Watching.{IsWatching}
use Rattle.stg_derive.proofs.FinishedNets.{steps_long}
use Rattle.stg_derive.proofs.LoggableParts.{step_there}
use Rattle.stg_derive.proofs.UnderWay.{steps_short}
use Rattle.stg_derive.proofs.Undone.{step_made}
use Rattle.stg_derive.proofs.attempt.make_step.Goals as goal

pub overflow_cast-i : goal.overflow_cast-i
overflow_cast-i c = omega (arith, c.len-i.ensures, steps_short c.args.net.now c.args.attempt.now.known c.args.attempt.now.steps.items c.requires.within c.requires.under_way.plain)

pub note_step-requires-clause-there : goal.note_step-requires-clause-there
note_step-requires-clause-there c =
    let u = c.requires.under_way in
    step_there c.args.attempt.now.editor.now c.args.step (length c.args.net.now.trans) c.requires.plain (ap (λ (g : Graph). length g.trans) u.leads ∙ steps_long (initial c.args.net.now c.args.attempt.now.known) c.args.attempt.now.steps.items ∙ length-map c.args.net.now.trans (λ (t : TransName). Some (full_name c.args.net.now t)))

pub returns-clause-under_way : goal.returns-clause-under_way
returns-clause-under_way c =
    let n = c.args.net.now in
    let a = c.args.attempt.now in
    let v = a.first_undone in
    let ws = c.note_step.new.noted in
    let long = c.note_step.ensures.len ∙ ap length c.deref_mut.ensures.value in
    let same : (with_items v ws).items ≡ ws = with_items_is v ws (long ∙ sym v.ok.0) in
    step_made n c.requires.within c.requires.no_conflict c.requires.is_net a _ c.args.step c.next_place-first.result c.requires.under_way c.requires.plain
    (record {
      now = c.in_ok-edit.ensures.now;
      past = c.in_ok-edit.ensures.past;
      signals = c.edit.ensures.signals;
      steps = c.in_ok-push.ensures.items;
      known = refl;
      first_is = c.next_place-first.ensures.value;
      long = ap length same ∙ long;
      noted = λ k below.
          let P : ℕ → List (Option ℕ) → List (Option ℕ) → Type 0 = λ i xs ys. IsNotedWhere (IsGone n k c.edit.new.editor.now c.next_place-first.result c.args.step) i (get_or xs k None) (get_or ys k None) in
          let told = c.note_step.ensures.noted k (omega (arith, below, ap length c.deref_mut.ensures.value)) in
          subst (P (length a.steps.items) v.items) (sym same)
          (subst (λ i. P i v.items ws) (c.len-i.ensures ∙ a.steps.ok.0)
          (subst (λ xs. P c.len-i.result xs ws) c.deref_mut.ensures.value told));
    })

pub returns-clause-watching : goal.returns-clause-watching
returns-clause-watching c =
    let P : Graph → Type 0 = λ g. IsWatching g c.edit.new.watches in
    subst P (sym c.in_ok-edit.ensures.now) c.in_ok-edit.ensures.watching
