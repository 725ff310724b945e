use Rattle.std.proofs.Common.{◌≡◌, ◌<◌, List, ℕ, length, All, ◌∷◌, [], ◌++◌, ◌∙◌, subst, sym, ap, arith}
use Rattle.stg_net.specs.Net.{NetLists, IsNet}
use Rattle.stg_net.specs.Initial.{graph_of}
use Rattle.stg_laws.specs.Conflict.{HasNoAutoConflict}
use Rattle.stg_laws.specs.PlainGroups.{Group}
use Rattle.stg_derive.specs.Derivations.{known_with}
use Rattle.stg_derive.specs.inner.UnderWay.{AreUndoneBy}
use Rattle.stg_derive.proofs.Restoring.{IsTrying, many_hidden, stuck_at, stuck_hidden, trying_begins, trying_goes_on, trying_less, dummy_there}
use Rattle.stg_derive.proofs.Undone.{attempt_rests, none_undone, counted-last}
use Rattle.stg_derive.proofs.derivation.derive.Goals as goal

apart : (n m : NetLists) → n ≡ m → HasNoAutoConflict (graph_of m) → HasNoAutoConflict (graph_of n)
apart n m e none = subst (λ n. HasNoAutoConflict (graph_of n)) (sym e) none

pub begin-requires-clause-no_conflict : goal.begin-requires-clause-no_conflict
begin-requires-clause-no_conflict c = apart c.net-net.result.now c.args.spec.now.net c.net-net.ensures.net c.requires.no_conflict

pub go_on-requires-clause-no_conflict : goal.go_on-requires-clause-no_conflict
go_on-requires-clause-no_conflict c = apart c.net-net.result.now c.args.spec.now.net c.net-net.ensures.net c.requires.no_conflict

pub give_back-requires-clause-no_conflict : goal.give_back-requires-clause-no_conflict
give_back-requires-clause-no_conflict c = apart c.net-net.result.now c.args.spec.now.net c.net-net.ensures.net c.requires.no_conflict

pub loop-restored-init : goal.loop-restored-init
loop-restored-init c =
    let n = c.net-net.result.now in
    let begun = c.args.group.now.known in
    let a = c.in_ok-attempt.attempt in
    let e = c.in_ok-attempt.ensures in
    let known = e.known ∙ ap (λ (g : Group). g.known) c.group.view_is in
    record {
      trying = subst (λ rs. IsTrying n begun rs a.known) (sym c.new-restored.ensures) (subst (IsTrying n begun []) (sym known) (trying_begins n begun (subst (λ m. All (λ s. s < length m.signals) begun) (sym c.net-net.ensures.net) c.requires.in_range)));
      under_way = e.under_way;
      watching = e.watching;
      undone = subst (λ rs. AreUndoneBy n begun rs a.editor.undone) (sym c.new-restored.ensures) (none_undone n begun a.editor.undone e.undone);
    }

pub go_on-requires-clause-under_way : goal.go_on-requires-clause-under_way
go_on-requires-clause-under_way c = c.loop-restored.invariant.under_way

pub go_on-requires-clause-watching : goal.go_on-requires-clause-watching
go_on-requires-clause-watching c = c.loop-restored.invariant.watching

pub record_of-record-requires-clause-there : goal.record_of-record-requires-clause-there
record_of-record-requires-clause-there c =
    let n = c.net-net.result.now in
    let net : IsNet n = subst IsNet (sym c.net-net.ensures.net) c.net-net.ensures.spec.is_net in
    let a = c.go_on.new.attempt in
    dummy_there n a.known a.steps.items a.editor.now c.in-Some.t net c.in_ok-go_on.ensures.under_way.leads c.in-Some.ensures.some

pub give_back-requires-clause-there : goal.give_back-requires-clause-there
give_back-requires-clause-there c =
    let n = c.net-net.result.now in
    let net : IsNet n = subst IsNet (sym c.net-net.ensures.net) c.net-net.ensures.spec.is_net in
    let a = c.go_on.new.attempt in
    let e = c.in_ok-go_on.ensures in
    let r = c.record_of-record.result in
    (stuck_hidden n a.known r net (stuck_at n a.known a.steps.items a.editor.now r (attempt_rests n a e.under_way e.rests) e.under_way.leads c.record_of-record.ensures)).0

pub give_back-requires-clause-counted : goal.give_back-requires-clause-counted
give_back-requires-clause-counted c = omega (arith, c.in_ok-go_on.ensures.undone, c.loop-restored.invariant.undone.counted)

pub finish-requires-clause-known : goal.finish-requires-clause-known
finish-requires-clause-known c = c.in_ok-go_on.ensures.known ∙ c.loop-restored.invariant.trying.known_is

pub finish-requires-clause-given_back : goal.finish-requires-clause-given_back
finish-requires-clause-given_back c = c.loop-restored.invariant.trying.given_back

pub finish-requires-clause-undone : goal.finish-requires-clause-undone
finish-requires-clause-undone c =
    subst (AreUndoneBy c.net-net.result.now c.args.group.now.known c.loop-restored.restored) (sym c.in_ok-go_on.ensures.undone) c.loop-restored.invariant.undone

pub loop-restored-smaller : goal.loop-restored-smaller
loop-restored-smaller c =
    let n = c.net-net.result.now in
    let net : IsNet n = subst IsNet (sym c.net-net.ensures.net) c.net-net.ensures.spec.is_net in
    let a = c.go_on.new.attempt in
    let e = c.in_ok-go_on.ensures in
    let r = c.record_of-record.result in
    let stuck = stuck_at n a.known a.steps.items a.editor.now r (attempt_rests n a e.under_way e.rests) e.under_way.leads c.record_of-record.ensures in
    let P : List ℕ → Type 0 = λ k. many_hidden n k < many_hidden n c.loop-restored.attempt.known in
    let Q : List ℕ → Type 0 = λ k. many_hidden n (known_with n a.known r.signal) < many_hidden n k in
    subst P (sym c.in_ok-give_back-in-Some.ensures.known) (subst Q e.known (trying_less n a.known r net stuck))

pub loop-restored-preserved : goal.loop-restored-preserved
loop-restored-preserved c =
    let n = c.net-net.result.now in
    let net : IsNet n = subst IsNet (sym c.net-net.ensures.net) c.net-net.ensures.spec.is_net in
    let begun = c.args.group.now.known in
    let restored = c.loop-restored.restored in
    let a = c.go_on.new.attempt in
    let e = c.in_ok-go_on.ensures in
    let f = c.in_ok-give_back-in-Some.ensures in
    let r = c.record_of-record.result in
    let i = c.loop-restored.invariant in
    let stuck = stuck_at n a.known a.steps.items a.editor.now r (attempt_rests n a e.under_way e.rests) e.under_way.leads c.record_of-record.ensures in
    let trying = subst (IsTrying n begun restored) (sym e.known) i.trying in
    let on = trying_goes_on n begun restored a.known r trying stuck in
    let undone = subst (AreUndoneBy n begun restored) (sym e.undone) i.undone in
    let count = counted-last n begun restored a r c.give_back.new.attempt.editor.undone e.under_way e.rests trying.known_is (stuck_hidden n a.known r net stuck).0 undone f.undone in
    record {
      trying = subst (λ rs. IsTrying n begun rs c.give_back.new.attempt.known) (sym c.in_ok-push-in-Some.ensures.ok) (subst (IsTrying n begun (restored ++ r ∷ [])) (sym f.known) on);
      under_way = f.under_way;
      watching = f.watching;
      undone = subst (λ rs. AreUndoneBy n begun rs c.give_back.new.attempt.editor.undone) (sym c.in_ok-push-in-Some.ensures.ok) count;
    }
