use Rattle.std.proofs.Common.{◌≡◌, ◌-◌, ◌++◌, ◌∷◌, [], length, subst, sym, ap, ◌∙◌, arith}
use Rattle.std.proofs.lemmas.List.{length-append}
use Rattle.stg_arena.specs.declared.end.End.TheVariants.{Place, Trans}
use Rattle.stg_edit.specs.Editing.{Editing, one_edit_less}
use Rattle.stg_edit.specs.inner.Nodes.{IsNode, without_node}
use Rattle.stg_edit.specs.declared.edit_start.EditStart.{EditStart}
use Rattle.stg_edit.specs.declared.size.Size.{Size}
use Rattle.stg_edit.specs.inner.View.{base, spare_of, editing}
use Rattle.stg_edit.specs.inner.DraftAt.{past_of, now_of}
use Rattle.stg_edit.specs.inner.Sizes.{size_of, size_at, minus}
use Rattle.stg_arena.proofs.RemovalTimes.{removals_short}
use Rattle.stg_edit.proofs.DraftChanges.{node_lives, spare_removed}
use Rattle.stg_edit.proofs.DraftSizes.{minus_plus, size_deleted, sized_more, now_without}
use Rattle.stg_arena.proofs.Extends.{extended_removed}
use Rattle.stg_edit.proofs.EditStarts.{starts_more, past_more, all_cells_removed}
use Rattle.stg_edit.proofs.editor.Editor.delete.Goals as goal

pub remove-requires-clause-in_range : goal.remove-requires-clause-in_range
remove-requires-clause-in_range c =
    let P : Editing → Type 0 = λ v. IsNode c.args.end v.now c.args.node in
    (node_lives c.args.end (base c.self.inside) c.args.node c.self.inside.arena c.self.invariant.arena.timed (subst P (sym c.self.view_is) c.requires.live)).0

pub remove-requires-clause-live : goal.remove-requires-clause-live
remove-requires-clause-live c =
    let P : Editing → Type 0 = λ v. IsNode c.args.end v.now c.args.node in
    (node_lives c.args.end (base c.self.inside) c.args.node c.self.inside.arena c.self.invariant.arena.timed (subst P (sym c.self.view_is) c.requires.live)).1

pub remove-requires-clause-room : goal.remove-requires-clause-room
remove-requires-clause-room c =
    let P : Editing → Type 0 = λ v. IsNode c.args.end v.now c.args.node in
    let live = node_lives c.args.end (base c.self.inside) c.args.node c.self.inside.arena c.self.invariant.arena.timed (subst P (sym c.self.view_is) c.requires.live) in
    omega (arith, removals_short c.self.inside.arena c.args.end c.args.node c.self.invariant.arena.timed live.0 live.1, c.self.invariant.removals_long, c.self.invariant.arena.laid.places)

pub size_at-removed-requires-clause-in_range : goal.size_at-removed-requires-clause-in_range
size_at-removed-requires-clause-in_range c =
    let P : Editing → Type 0 = λ v. IsNode c.args.end v.now c.args.node in
    (node_lives c.args.end (base c.self.inside) c.args.node c.self.inside.arena c.self.invariant.arena.timed (subst P (sym c.self.view_is) c.requires.live)).0

pub size_at-removed-requires-clause-live : goal.size_at-removed-requires-clause-live
size_at-removed-requires-clause-live c =
    let P : Editing → Type 0 = λ v. IsNode c.args.end v.now c.args.node in
    (node_lives c.args.end (base c.self.inside) c.args.node c.self.inside.arena c.self.invariant.arena.timed (subst P (sym c.self.view_is) c.requires.live)).1

pub minus-self-inside-requires-clause-places : goal.minus-self-inside-requires-clause-places
minus-self-inside-requires-clause-places c =
    let P : Editing → Type 0 = λ v. IsNode c.args.end v.now c.args.node in
    let whole = size_deleted (base c.self.inside) c.self.inside.arena c.self.invariant.arena.timed c.args.end c.args.node (subst P (sym c.self.view_is) c.requires.live) in
    omega (arith, ap (λ (s : Size). s.places) whole, ap (λ (s : Size). s.places) c.size_at-removed.ensures, ap (λ (s : Size). s.places) c.self.invariant.sized.now_sized)

pub minus-self-inside-requires-clause-arcs : goal.minus-self-inside-requires-clause-arcs
minus-self-inside-requires-clause-arcs c =
    let P : Editing → Type 0 = λ v. IsNode c.args.end v.now c.args.node in
    let whole = size_deleted (base c.self.inside) c.self.inside.arena c.self.invariant.arena.timed c.args.end c.args.node (subst P (sym c.self.view_is) c.requires.live) in
    omega (arith, ap (λ (s : Size). s.arcs) whole, ap (λ (s : Size). s.arcs) c.size_at-removed.ensures, ap (λ (s : Size). s.arcs) c.self.invariant.sized.now_sized)

pub invariant_of-self : goal.invariant_of-self
invariant_of-self c =
    let l = c.self.inside.arena in
    let l' = c.remove.new.self in
    let b = c.args.end in
    let g = c.remove.ensures.removed in
    let m : EditStart = c.edit_start-start.result in
    let x = base c.self.inside in
    let P : Editing → Type 0 = λ v. IsNode b v.now c.args.node in
    let g' = without_node b (now_of x l) c.args.node in
    let whole = size_deleted x l c.self.invariant.arena.timed b c.args.node (subst P (sym c.self.view_is) c.requires.live) in
    let here =
    c.minus-self-inside.ensures ∙ (λ i. minus (c.self.invariant.sized.now_sized i) (c.size_at-removed.ensures i))
    ∙ minus_plus (size_of g') (size_at l b c.args.node) (size_of (now_of x l)) whole
    ∙ ap size_of (sym (now_without b x c.args.node l l' g c.self.invariant.arena.timed)) in
    let past =
    ap (past_of x l') c.push_reserved.ensures.items
    ∙ past_more l l' c.self.inside.starts.items m c.edit_start-start.ensures (extended_removed (length l.places) b c.args.node l l' c.self.invariant.arena.timed g) x c.self.invariant.are_starts in
    let sized = sized_more (editing c.self.inside) c.self.inside.size c.minus-self-inside.result c.self.inside.sizes.items c.push_reserved-2.new.self.items (now_of x l') (past_of x l' c.push_reserved.new.self.items) c.self.invariant.sized past here c.push_reserved-2.ensures.items in
    record {
      arena = c.remove.ensures.arena;
      are_starts = rw c.push_reserved.ensures.items (starts_more l l' c.self.inside.starts.items m c.edit_start-start.ensures (extended_removed (length l.places) b c.args.node l l' c.self.invariant.arena.timed g) c.self.invariant.are_starts c.remove.ensures.arena.laid c.remove.ensures.arena.timed (all_cells_removed b c.args.node l l' g));
      room = omega (arith, c.self.invariant.room, c.push_reserved.ensures.capacity);
      removals_long = omega (arith, c.self.invariant.removals_long, ap (λ r. r.places) g.rooms, g.as_many Trans, ap (λ r. r.removals) g.rooms);
      long = omega (arith, ap length c.push_reserved.ensures.items, length-append c.self.inside.starts.items (m ∷ []), ap (λ v. v.spare.edits) c.self.view_is, c.requires.room);
      roomy = omega (arith, c.self.invariant.roomy, ap length g.cells, g.as_many Place, ap (λ r. r.places) g.rooms, ap (λ r. r.cells) g.rooms);
      names_long = c.self.invariant.names_long ∙ sym (g.as_many Trans);
      named = c.self.invariant.named;
      known_room = c.self.invariant.known_room;
      sizes_room = omega (arith, c.self.invariant.sizes_room, c.push_reserved-2.ensures.capacity);
      sized = record { now_sized = sized.0; past_sized = sized.1 };
    }

pub returns-clause-now : goal.returns-clause-now
returns-clause-now c =
    let b = c.args.end in
    now_without b (base c.self.inside) c.args.node c.self.inside.arena c.remove.new.self c.remove.ensures.removed c.self.invariant.arena.timed
    ∙ ap (λ v. without_node b v.now c.args.node) c.self.view_is

pub returns-clause-past : goal.returns-clause-past
returns-clause-past c =
    let l = c.self.inside.arena in
    let l' = c.remove.new.self in
    let x = base c.self.inside in
    let m : EditStart = c.edit_start-start.result in
    ap (past_of x l') c.push_reserved.ensures.items
    ∙ past_more l l' c.self.inside.starts.items m c.edit_start-start.ensures (extended_removed (length l.places) c.args.end c.args.node l l' c.self.invariant.arena.timed c.remove.ensures.removed) x c.self.invariant.are_starts
    ∙ ap (λ v. v.past ++ v.now ∷ []) c.self.view_is

pub returns-clause-spare : goal.returns-clause-spare
returns-clause-spare c =
    let l = c.self.inside.arena in
    let starts = c.self.inside.starts.items in
    let m : EditStart = c.edit_start-start.result in
    let edits = c.self.inside.edit_room - length starts in
    let fewer : c.self.inside.edit_room - length c.push_reserved.new.self.items ≡ edits - 1 = omega (arith, ap length c.push_reserved.ensures.items, length-append starts (m ∷ [])) in
    ap (spare_of c.remove.new.self) fewer ∙ spare_removed c.args.end c.args.node l c.remove.new.self (edits - 1) c.remove.ensures.removed ∙ ap (λ v. one_edit_less v.spare) c.self.view_is
