use Rattle.std.proofs.Common.{◌<◌, length, map, subst, ap, ◌∙◌, arith}
use Rattle.stg_edit.specs.Editing.{Editing}
use Rattle.stg_edit.specs.Shown.{with_shown}
use Rattle.stg_edit.specs.inner.View.{IsNamed}
use Rattle.stg_edit.proofs.Showing.{named_shown, now_shown, past_shown, sizes_shown}
use Rattle.stg_edit.proofs.editor.Editor.show.Goals as goal

pub invariant_of-self : goal.invariant_of-self
invariant_of-self c =
    let e = c.self.inside in
    let s = c.args.signal in
    let v = c.self.invariant in
    let shown = c.list_flagged.new.numbers.items in
    let new = c.as_slice.result.now in
    let inside : s < length e.signals = omega (arith, c.requires, ap (λ v. length v.signals) c.self.view_is) in
    record {
      arena = v.arena;
      are_starts = v.are_starts;
      room = v.room;
      removals_long = v.removals_long;
      long = v.long;
      roomy = v.roomy;
      names_long = v.names_long;
      named = subst (IsNamed e.signals e.names shown) c.as_slice.ensures.value (named_shown e.signals e.names e.known.items shown e.is_known.items new s v.named inside c.as_slice.ensures.value c.list_flagged.ensures.items);
      known_room = omega (arith, v.known_room, c.list_flagged.ensures.room);
      sizes_room = v.sizes_room;
      sized = record {
        now_sized = v.sized.now_sized;
        past_sized = v.sized.past_sized ∙ sizes_shown e.signals e.names e.known.items shown e.is_known.items new s v.named inside c.as_slice.ensures.value c.list_flagged.ensures.items e.arena e.first_places e.starts.items;
      };
    }

pub returns-clause-now : goal.returns-clause-now
returns-clause-now c =
    let e = c.self.inside in
    let s = c.args.signal in
    let inside : s < length e.signals = omega (arith, c.requires, ap (λ v. length v.signals) c.self.view_is) in
    now_shown e.signals e.names e.known.items c.list_flagged.new.numbers.items e.is_known.items c.as_slice.result.now s c.self.invariant.named inside c.as_slice.ensures.value c.list_flagged.ensures.items e.arena e.first_places
    ∙ ap (λ (v : Editing). with_shown v.signals s v.now) c.self.view_is

pub returns-clause-past : goal.returns-clause-past
returns-clause-past c =
    let e = c.self.inside in
    let s = c.args.signal in
    let inside : s < length e.signals = omega (arith, c.requires, ap (λ v. length v.signals) c.self.view_is) in
    past_shown e.signals e.names e.known.items c.list_flagged.new.numbers.items e.is_known.items c.as_slice.result.now s c.self.invariant.named inside c.as_slice.ensures.value c.list_flagged.ensures.items e.arena e.first_places e.starts.items
    ∙ ap (λ (v : Editing). map (with_shown v.signals s) v.past) c.self.view_is
