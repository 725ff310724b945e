use Rattle.std.proofs.Common.{◌≡◌, ◌-◌, ◌+◌, ◌||◌, suc, ◌∙◌, ap, sym, inl, inr, arith, length}
use Rattle.std.specs.List.{list_any, range_with_len}
use Rattle.stg_conflict.specs.inner.Notes.{clashes_at, note_at, note_or}
use Rattle.stg_conflict.proofs.Noting.{note_or-both}
use Rattle.stg_conflict.proofs.Walks.{range_more}
use Rattle.stg_conflict.proofs.noted.note_from.Goals as goal

pub loop-p-preserved : goal.loop-p-preserved
loop-p-preserved c =
    let g = c.args.editor.now.now in
    let signals = c.args.editor.now.signals in
    let first = c.args.first in
    let p = c.loop-p.p in
    let n = p - first in
    let step = c.args.step in
    record {
      low = omega (arith, c.loop-p.invariant.low);
      high = inr (omega (arith, c.loop-p-test.true, c.next_place-p-end.ensures.value));
      len = omega (arith, c.note_at.ensures.len, c.loop-p.invariant.len);
      noted = λ s below.
          let f = clashes_at g signals s in
          let here : first + n ≡ p = omega (arith, c.loop-p.invariant.low) in
          let more : p + 1 - first ≡ suc n = omega (arith, c.loop-p.invariant.low) in
          c.note_at.ensures.noted s (omega (arith, below, c.loop-p.invariant.len))
          ∙ ap (note_or (f p) step) (c.loop-p.invariant.noted s below)
          ∙ note_or-both (list_any f (range_with_len first n)) (f p) step (note_at c.args.noted.now s)
          ∙ ap (λ b. note_or b step (note_at c.args.noted.now s)) (ap (λ k. list_any f (range_with_len first n) || f k) (sym here) ∙ sym (range_more f n first) ∙ ap (λ m. list_any f (range_with_len first m)) (sym more));
    }

pub returns-clause-noted : goal.returns-clause-noted
returns-clause-noted c = λ s below.
    let f = clashes_at c.args.editor.now.now c.args.editor.now.signals s in
    let last : c.loop-p.p - c.args.first ≡ length c.args.editor.now.now.places - c.args.first = elim c.loop-p.invariant.high [
      | inl same ↦ omega (arith, same, c.loop-p-test.false, c.next_place-p-end.ensures.value)
      | inr up_to ↦ omega (arith, up_to, c.loop-p-test.false, c.next_place-p-end.ensures.value)
    ] in
    c.loop-p.invariant.noted s below ∙ ap (λ m. note_or (list_any f (range_with_len c.args.first m)) c.args.step (note_at c.args.noted.now s)) last
