use Rattle.std.proofs.Common.{◌++◌, ◌∷◌, [], sym, ap, ◌∙◌, zero-add, arith}
use Rattle.std.proofs.lemmas.List.FromFn.{map-range_with_len_more}
use Rattle.stg_arena.specs.inner.Links.{lone_link}
use Rattle.stg_arena.proofs.empty.push_rings.Goals as goal

pub loop-cell-preserved : goal.loop-cell-preserved
loop-cell-preserved c = record {
  items = c.push_reserved.ensures.items ∙ ap (λ xs. xs ++ lone_link c.loop-cell.cell ∷ []) c.loop-cell.invariant.items ∙ sym (map-range_with_len_more lone_link 0 c.loop-cell.cell c.loop-cell.cell (zero-add c.loop-cell.cell));
  len = omega (arith, c.push_reserved.ensures.len, c.loop-cell.invariant.len);
  capacity = c.push_reserved.ensures.capacity ∙ c.loop-cell.invariant.capacity;
}
