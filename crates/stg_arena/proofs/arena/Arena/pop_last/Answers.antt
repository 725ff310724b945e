use Rattle.std.proofs.Common.{rules, ◌≡◌, ◌-◌, length, sym, ap, ◌∙◌, arith, subst}
use Rattle.std.proofs.lemmas.List.{get_or_default}
use Rattle.stg_arena.specs.ArenaView.{Layout, no_cell, cell_at, IsArena}
use Rattle.stg_arena.specs.inner.ArenaFields.{layout}
use Rattle.stg_arena.proofs.LayoutTruncate.{ends_in_cell, ends_in_place}
use Rattle.stg_arena.proofs.arena.Arena.pop_last.Goals as goal

pub pop_place-requires : goal.pop_place-requires
pop_place-requires c =
    let l = layout c.self.inside in
    let last : c.len.result - 1 ≡ length l.cells - 1 = search rules in
    let some = ap (λ (l : Layout). length l.cells) c.self.view_is in
    let at = ap (λ a. a.trans) (c.index.ensures ∙ get_or_default l.cells (c.len.result - 1) c.index.result.now no_cell (omega (arith, c.requires.more))) ∙ ap (λ k. (cell_at l.cells k).trans) last ∙ ap (λ (l : Layout). (cell_at l.cells (length l.cells - 1)).trans) c.self.view_is in
    ends_in_place c.requires.can.0 c.args.cells c.args.self.now (subst IsArena c.self.view_is c.self.invariant.arena).laid c.requires.can.1 c.requires.more (sym at ∙ c.if-index.true)

pub pop_cell-requires : goal.pop_cell-requires
pop_cell-requires c =
    let l = layout c.self.inside in
    let last : c.len.result - 1 ≡ length l.cells - 1 = search rules in
    let some = ap (λ (l : Layout). length l.cells) c.self.view_is in
    let at = ap (λ a. a.trans) (c.index.ensures ∙ get_or_default l.cells (c.len.result - 1) c.index.result.now no_cell (omega (arith, c.requires.more))) ∙ ap (λ k. (cell_at l.cells k).trans) last ∙ ap (λ (l : Layout). (cell_at l.cells (length l.cells - 1)).trans) c.self.view_is in
    ends_in_cell c.requires.can.0 c.args.cells c.args.self.now (subst IsArena c.self.view_is c.self.invariant.arena).laid c.requires.can.1 c.requires.more (λ e. c.if-index.false (at ∙ e))
