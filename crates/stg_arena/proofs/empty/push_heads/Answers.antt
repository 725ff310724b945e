use Rattle.std.proofs.Common.{◌++◌, ◌∷◌, [], sym, ap, ◌∙◌, zero-add, arith}
use Rattle.std.proofs.lemmas.List.FromFn.{map-range_with_len_more}
use Rattle.stg_arena.specs.EmptyArena.{trans_head}
use Rattle.stg_arena.proofs.empty.push_heads.Goals as goal

pub loop-trans-preserved : goal.loop-trans-preserved
loop-trans-preserved c = record {
  items = c.push_reserved.ensures.items ∙ ap (λ xs. xs ++ trans_head c.loop-trans.trans ∷ []) c.loop-trans.invariant.items ∙ sym (map-range_with_len_more trans_head 0 c.loop-trans.trans c.loop-trans.trans (zero-add c.loop-trans.trans));
  len = omega (arith, c.push_reserved.ensures.len, c.loop-trans.invariant.len);
  capacity = c.push_reserved.ensures.capacity ∙ c.loop-trans.invariant.capacity;
}
