use Rattle.std.proofs.Common.{◌-◌, length, map, List, subst, sym, ap, ◌∙◌, arith}
use Rattle.stg_edit.specs.declared.edit_start.EditStart.{EditStart}
use Rattle.stg_arena.specs.ArenaView.{Layout}
use Rattle.stg_edit.specs.inner.View.{base, spare_of}
use Rattle.stg_edit.specs.inner.DraftAt.{now_of, past_of, AreEditStarts}
use Rattle.stg_edit.specs.inner.Sizes.{size_of}
use Rattle.stg_edit.proofs.EditStarts.{starts_more_room}
use Rattle.stg_edit.proofs.DraftSizes.{sizes_long}
use Rattle.stg_edit.proofs.editor.Editor.reserve.Goals as goal

pub returns-clause-kept : goal.returns-clause-kept
returns-clause-kept c =
    let x = base c.self.inside in
    let same = c.reserve-3.ensures.more.same in
    let starts = c.reserve.new.self.items in
    let now = ap (now_of x) same ∙ ap (λ v. v.now) c.self.view_is in
    let past = ap (λ l. past_of x l starts) same ∙ ap (past_of x c.self.inside.arena) c.reserve.ensures.items ∙ ap (λ v. v.past) c.self.view_is in
    let undone = ap (λ v. v.undone) c.self.view_is in
    let signals = ap (λ v. v.signals) c.self.view_is in
    λ i. record { now = now i; past = past i; spare = spare_of c.reserve-3.new.self (c.max-self-inside.result - length starts); undone = undone i; signals = signals i }

pub invariant_of-self-2 : goal.invariant_of-self-2
invariant_of-self-2 c =
    let l = c.self.inside.arena in
    let l' = c.reserve-3.new.self in
    let starts = c.self.inside.starts.items in
    let same = c.reserve-3.ensures.more.same in
    let x = base c.self.inside in
    let P : List EditStart → Type 0 = λ ms. AreEditStarts l' ms in
    let Q : Layout → Type 0 = λ l. AreEditStarts l starts in
    record {
      arena = c.reserve-3.ensures.arena;
      are_starts = subst P (sym c.reserve.ensures.items) (subst Q (sym same) (starts_more_room l l'.rooms starts c.self.invariant.are_starts));
      room = omega (arith, c.self.invariant.room, c.in_ok-reserve.ensures.ok, c.reserve.ensures.capacity, c.max-self-inside.ensures);
      removals_long = c.in_ok-reserve-3.ensures.ok.removals_long;
      long = omega (arith, ap length c.reserve.ensures.items, c.self.invariant.long, c.max-self-inside.ensures);
      roomy = c.in_ok-reserve-3.ensures.ok.roomy;
      names_long = c.self.invariant.names_long ∙ sym (ap (λ (l : Layout). length l.trans) same);
      named = c.self.invariant.named;
      known_room = c.self.invariant.known_room;
      sizes_room = omega (arith, c.self.invariant.sizes_room, c.in_ok-reserve-2.ensures.ok, c.reserve-2.ensures.capacity, c.max-self-inside.ensures, ap length c.reserve-2.ensures.items, sizes_long c.self.inside c.self.invariant);
      sized = record {
        now_sized = c.self.invariant.sized.now_sized ∙ ap (λ l. size_of (now_of x l)) (sym same);
        past_sized = c.reserve-2.ensures.items ∙ c.self.invariant.sized.past_sized ∙ (λ i. map size_of (past_of x (sym same i) (sym c.reserve.ensures.items i)));
      };
    }
