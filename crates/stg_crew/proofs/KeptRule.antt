-- Each step keeps the rule, at the view of any number.
use Rattle.std.proofs.Common.{◌≡◌, ℕ, zero, suc, ◌+◌, ◌≢◌, List, [], ◌∷◌, ◌++◌, Some, slice_get, set, sym, refl, ap, ◌∙◌, subst, arith}
use Rattle.std.specs.Prelude.{unwrap_or}
use Rattle.std.proofs.lemmas.Option.{none-some}
use mathlib.Core.Option.{some, some-injective}
use lib.ListN.{get_elem?}
use Rattle.stg_crew.specs.declared.view.SeatView.{SeatView}
use Rattle.stg_crew.specs.declared.kind.SeatKind.TheVariants.{Collecting, Worker}
use Rattle.stg_crew.specs.Claims.{collecting, worker, spent, is_worker, AreClaims, AreGroups, drawn, with_groups, split_from, joined_to}
use Rattle.stg_crew.specs.Laws.{StartHasRule, SetKeepsRule, SplitKeepsRule, DrawKeepsRule, JoinKeepsRule}
use Rattle.stg_crew.proofs.Steps.{first_holds, fits, draw_holds, split_holds, set_holds, join_holds}
use Rattle.stg_crew.proofs.Summed.{summed, claims}

-- the element of that number, as tables say it
at : {A : Type 0} (l : List A) (i : ℕ) (a : A) → slice_get l i ≡ Some a → get_elem? l i ≡ some a
at [] i a e = absurd (none-some a e)
at (x ∷ xs) zero a e = ap some (ap (λ o. unwrap_or o a) e)
at (x ∷ xs) (suc i) a e = at xs i a e

pub start_has_rule : StartHasRule
start_has_rule = claims 0 0 (collecting 0 ∷ []) first_holds

pub set_keeps_rule : SetKeepsRule
set_keeps_rule draws groups n views i v h here is no_split no_groups no_list few =
    let done = set_holds draws groups views (summed draws groups views h) i v (at views i v here) n is no_split no_groups no_list few in
    let all : groups + n ≡ n = omega (arith, done.0) in
    subst (λ g. AreClaims draws g (set views i (with_groups n v))) (sym all) (claims draws n (set views i (with_groups n v)) done.1)

pub split_keeps_rule : SplitKeepsRule
split_keeps_rule draws groups views i v h here is room =
    claims draws groups (set views i (split_from v) ++ worker v.groups ∷ []) (split_holds draws groups views (summed draws groups views h) i v (at views i v here) is room)

pub draw_keeps_rule : DrawKeepsRule
draw_keeps_rule draws groups views i v h here is goes =
    let same = (fits draws groups views (summed draws groups views h) i v (at views i v here) Worker is).groups_are in
    let own : AreGroups v.groups v.list = subst (λ g. AreGroups g v.list) (sym same) goes in
    claims (draws + 1) groups (set views i (drawn draws v)) (draw_holds draws groups views (summed draws groups views h) i v (at views i v here) is own)

pub join_keeps_rule : JoinKeepsRule
join_keeps_rule draws groups views i j v w h here there is drew =
    claims draws groups (set (set views i (joined_to v w)) j spent) (join_holds draws groups views (summed draws groups views h) i v (at views i v here) j w apart (at views j w there) is drew)
  where
    apart : j ≢ i
    apart e =
        let same : v ≡ w = some-injective v w (sym (at views i v here) ∙ ap (get_elem? views) (sym e) ∙ at views j w there) in
        absurd (omega (arith, ap is_worker drew, ap is_worker is, ap (λ (u : SeatView). is_worker u.kind) same))
