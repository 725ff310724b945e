-- A derived part has what settling asks for.
use Rattle.std.proofs.Common.{◌≡◌, ℕ, true}
use Rattle.stg_net.specs.Component.{is_one_of}
use Rattle.stg_net.specs.Initial.{initial, graph_of}
use Rattle.stg_net.specs.Net.{NetLists, IsNet}
use Rattle.stg_net.proofs.Members.{contained-one_of}
use Rattle.stg_laws.specs.Closed.{IsClosed}
use Rattle.stg_laws.specs.Groups.{names_at}
use Rattle.stg_laws.specs.PlainGroups.{Group}
use Rattle.stg_laws.proofs.KnownSignals.{named_among}
use Rattle.stg_derive.specs.declared.part.Part.{Part}
use Rattle.stg_derive.specs.Derivations.{with_restored, last_draft, IsDerivedPart}
use Rattle.stg_derive.proofs.DraftSignals.{declared_there, declared_here}
use Rattle.stg_derive.proofs.FaithfulDrafts.{closed_more, draft_keeps, draft_no_dummy}
use Rattle.stg_derive.proofs.FinishedParts.{AreInRange, in_range_one, restored_in_range, restored_old, wider}
use Rattle.stg_derive.proofs.Restoring.{steps_known}
use Rattle.stg_decomp.proofs.SettledNets.{IsDerivedNet}

-- where the own signals of the group are known
pub part_is_derived : (n : NetLists) → IsNet n → (group : Group) → AreInRange n group.known
    → IsClosed (graph_of n) (names_at n group.own) (names_at n group.known) → (part : Part) → IsDerivedPart n group part
    → IsNet part.net → ((k : ℕ) → is_one_of group.own k ≡ true → is_one_of group.known k ≡ true)
    → IsDerivedNet n group.own (with_restored n group.known part.restored) part.net
part_is_derived n net group range closed part is part_net own_known =
    let known = with_restored n group.known part.restored in
    let known_range : AreInRange n known = restored_in_range n group.known part.restored range in
    let plain = is.derivation.attempt.plain in
    let g = last_draft n group.known part.restored part.steps in
    let g_known = steps_known (initial n known) part.steps in
    record {
      is_net = part_net;
      keeps = draft_keeps n net known known_range group.own part.steps plain part.net is.net_is;
      no_dummy = draft_no_dummy n net known known_range group.own part.steps plain part.net is.net_is is.derivation.no_dummy;
      signals_of = record {
        there = declared_there n net known group.own known_range g g_known part.net is.net_is.signals;
        here = declared_here n net known group.own known_range g g_known part.net is.net_is.signals;
      };
      own_known = λ k e. let one = own_known k e in restored_old n group.known part.restored k (in_range_one n group.known k range one) one;
      closed = λ mine less. closed_more (graph_of n) (names_at n group.own) mine (names_at n group.known) (names_at n known) closed less (wider n group.known part.restored range);
      known_there = λ k e. in_range_one n known k known_range e;
      own_named = λ k e. named_among n group.own k (contained-one_of group.own k e);
    }
