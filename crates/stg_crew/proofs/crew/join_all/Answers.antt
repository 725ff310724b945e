use Rattle.std.proofs.Common.{◌≡◌, ◌-◌, ◌+◌, ◌∷◌, ◌++◌, [], ℕ, List, Option, Result, IfOk, All, length, length-append, refl, sym, ap, ◌∙◌, subst, arith}
use Rattle.stg_net.specs.Net.{NetLists}
use Rattle.stg_net.specs.declared.no_memory.NoMemory.{NoMemory}
use Rattle.stg_laws.specs.PlainGroups.{Group}
use Rattle.stg_derive.specs.declared.part.Part.{Part}
use Rattle.stg_crew.specs.declared.view.SeatView.{SeatView}
use Rattle.stg_crew.specs.declared.worker.Drawn.{Drawn}
use Rattle.stg_crew.specs.declared.kind.SeatKind.TheVariants.{Collecting}
use Rattle.stg_crew.specs.Claims.{view, joined_to}
use Rattle.stg_crew.specs.Drawing.{HasDrawn}
use Rattle.stg_crew.specs.Seats.{view_of}
use Rattle.stg_crew.specs.inner.Crew.{IsThrough, HasDrawnParts, AreTakenIn}
use Rattle.stg_crew.specs.inner.Slots.{placed}
use Rattle.stg_crew.proofs.Drawings.{All-last, All-front}
use Rattle.stg_crew.proofs.Gathering.{none_taken, more_taken}
use Rattle.stg_crew.proofs.Placing.{placed-length}
use Rattle.stg_crew.proofs.crew.join_all.Goals as goal

pub loop-worker-init : goal.loop-worker-init
loop-worker-init c =
    let hired = c.args.workers.items in
    let first = c.args.slots.now.items in
    let start = c.requires.hired in
    let none : 0 ≡ length hired - length hired = omega arith in
    record {
      of = c.requires.of;
      through = c.requires.through;
      parts = λ n groups every. every;
      taken = subst (λ (v : SeatView). AreTakenIn hired first first (length hired - length hired) v) (sym start)
          (subst (λ k. AreTakenIn hired first first k (view Collecting [] (length hired) 0 (length first))) none (none_taken hired first (length hired) (length first)));
      long = refl;
      less = omega arith;
      split = ap (λ (v : SeatView). v.split) start;
    }

pub loop-worker-preserved : goal.loop-worker-preserved
loop-worker-preserved c =
    let hired = c.args.workers.items in
    let first = c.args.slots.now.items in
    let rest = c.pop.new.self.items in
    let w = c.in-Some.worker in
    let before = c.loop-worker.invariant in
    let popped = c.in-Some.ensures.items in
    let put = c.in_ok-join_one.ensures.slots in
    let joined = c.join_one.ensures.joined in
    let shorter : length c.loop-worker.workers.items ≡ length rest + 1 = ap length popped ∙ length-append rest (w ∷ []) in
    let count : ℕ = length hired - length c.loop-worker.workers.items in
    let one_more : count + 1 ≡ length hired - length rest = omega (arith, shorter, before.less) in
    let through = subst (All (IsThrough c.args.claims.now (length first))) popped before.through in
    let is_through : IsThrough c.args.claims.now (length first) w = All-last (IsThrough c.args.claims.now (length first)) rest w through in
    let drew : HasDrawn (length first) put.0 (view_of w.seat).list =
    subst (λ (r : Result (List Drawn) NoMemory). IfOk r (λ ds. HasDrawn (length first) ds (view_of w.seat).list)) put.1 is_through.drawn in
    let parts : (n : NetLists) (groups : List Group) → All (HasDrawnParts n groups) hired → All (HasDrawnParts n groups) (rest ++ w ∷ []) =
    λ n groups every. subst (All (HasDrawnParts n groups)) popped (before.parts n groups every) in
    let after : SeatView = joined_to (view_of c.loop-worker.seat) (view_of w.seat) in
    let more = more_taken hired first c.loop-worker.slots.items count (view_of c.loop-worker.seat) w put.0 (view_of w.seat) before.taken put.1 drew
    (λ n groups every. All-last (HasDrawnParts n groups) rest w (parts n groups every)) in
    record {
      of = c.join_one.ensures.kept;
      through = All-front (IsThrough c.args.claims.now (length first)) rest (w ∷ []) through;
      parts = λ n groups every. All-front (HasDrawnParts n groups) rest (w ∷ []) (parts n groups every);
      taken = subst (λ (v : SeatView). AreTakenIn hired first c.join_one.new.slots.items (length hired - length rest) v) (sym joined)
          (subst (λ (s : List (Option Part)). AreTakenIn hired first s (length hired - length rest) after) (sym put.2)
          (subst (λ k. AreTakenIn hired first (placed c.loop-worker.slots.items put.0) k after) one_more more));
      long = ap (λ (s : List (Option Part)). length s) put.2 ∙ placed-length c.loop-worker.slots.items put.0 ∙ before.long;
      less = omega (arith, shorter, before.less);
      split = ap (λ (v : SeatView). v.split) joined ∙ before.split;
    }
