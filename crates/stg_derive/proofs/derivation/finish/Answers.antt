use Rattle.std.proofs.Common.{◌≡◌, ◌∙◌, ℕ, List, length, refl, sym, ap, subst}
use Rattle.stg_laws.specs.PlainGroups.{Group}
use Rattle.stg_net.specs.Net.{NetLists}
use Rattle.stg_derive.specs.declared.part.Restore.{Restore}
use Rattle.stg_derive.specs.Derivations.{with_restored}
use Rattle.stg_derive.proofs.FinishedNets.{finished_is_within, finished_is_named}
use Rattle.stg_derive.proofs.FreshSignals.{all_differ, all_fresh, few_restored}
use Rattle.stg_derive.proofs.LoggableParts.{finished_is_loggable}
use Rattle.stg_derive.proofs.FinishedParts.{AreInRange, restored_in_range, finished_is_faithful}
use Rattle.stg_net.specs.Initial.{initial}
use Rattle.stg_derive.specs.declared.step.Step.{Step}
use Rattle.stg_derive.specs.Loggable.{IsLoggable}
use Rattle.stg_derive.proofs.Noting.{length-drafts}
use Rattle.stg_derive.proofs.Undone.{attempt_rests}
use Rattle.stg_derive.proofs.derivation.finish.Goals as goal

pub returns-clause-faithful : goal.returns-clause-faithful
returns-clause-faithful c =
    finished_is_faithful c.args.net.now c.requires.is_net c.args.group.now c.requires.in_range c.requires.closed c.args.attempt.known c.args.restored c.args.attempt.steps.items c.args.attempt.editor c.in_ok-own.own c.in_ok-made.made
    c.requires.known c.requires.given_back (attempt_rests c.args.net.now c.args.attempt c.requires.under_way c.requires.rests) c.requires.under_way.leads c.requires.under_way.signals c.requires.no_dummy (c.in_ok-own.ensures ∙ c.as_slice.ensures ∙ ap (λ (g : Group). g.own) c.group.view_is) c.in_ok-made.ensures.value

known_range : (n : NetLists) (begun known : List ℕ) (restored : List Restore) → AreInRange n begun → known ≡ with_restored n begun restored → AreInRange n known
known_range n begun known restored range e = subst (AreInRange n) (sym e) (restored_in_range n begun restored range)

pub returns-clause-within : goal.returns-clause-within
returns-clause-within c =
    let n = c.args.net.now in
    finished_is_within n c.requires.is_net c.args.attempt.known (known_range n c.args.group.now.known c.args.attempt.known c.args.restored c.requires.in_range c.requires.known) c.args.attempt.steps.items c.args.attempt.editor c.in_ok-own.own c.in_ok-made.made
    c.requires.under_way.leads c.requires.under_way.signals c.in_ok-made.ensures.value c.signals-signals.ensures.net c.requires.under_way.calm.within c.requires.under_way.few c.requires.within c.in_ok-made.ensures.arcs

pub returns-clause-named : goal.returns-clause-named
returns-clause-named c =
    let n = c.args.net.now in
    finished_is_named n c.requires.is_net c.args.attempt.known (known_range n c.args.group.now.known c.args.attempt.known c.args.restored c.requires.in_range c.requires.known) c.args.attempt.steps.items c.args.attempt.editor c.in_ok-own.own c.in_ok-made.made
    c.requires.under_way.leads c.requires.under_way.signals c.in_ok-made.ensures.value c.signals-signals.ensures.net c.requires.named

pub returns-clause-differ : goal.returns-clause-differ
returns-clause-differ c = all_differ c.args.net.now c.args.group.now.known c.args.restored c.requires.is_net c.requires.given_back

pub returns-clause-hidden : goal.returns-clause-hidden
returns-clause-hidden c = λ k d below. (all_fresh c.args.net.now c.args.group.now.known c.args.restored c.requires.is_net c.requires.given_back k d below).hidden

pub returns-clause-loggable : goal.returns-clause-loggable
returns-clause-loggable c =
    let n = c.args.net.now in
    let a = c.args.attempt in
    let P : List Step → Type 0 = λ steps. IsLoggable n (record { net = c.in_ok-made.made; own = c.in_ok-own.own; known = a.known; restored = c.args.restored; steps = steps; wear = c.close.result }) in
    subst P (sym c.from_vec.ensures)
    (finished_is_loggable n c.requires.is_net c.args.group.now.known a.known c.args.restored a.steps.items c.requires.known c.requires.given_back (attempt_rests n a c.requires.under_way c.requires.rests) c.requires.within _ refl refl)

pub returns-clause-attempts : goal.returns-clause-attempts
returns-clause-attempts c = few_restored c.args.net.now c.args.group.now.known c.args.restored c.requires.is_net c.requires.given_back

pub returns-clause-worn : goal.returns-clause-worn
returns-clause-worn c =
    let a = c.args.attempt in
    record {
      edits = c.close.ensures.edits ∙ ap length c.requires.under_way.past ∙ length-drafts (initial c.args.net.now a.known) a.steps.items ∙ ap length (sym c.from_vec.ensures);
      number = c.requires.undone.number;
      are_undone = c.requires.undone.are_undone;
      undone = c.close.ensures.undone ∙ c.requires.undone.counted;
    }
