use Rattle.std.proofs.Common.{◌∙◌, ap, sym, arith}
use Rattle.stg_conflict.specs.inner.Notes.{clashes_with, clashes_among, note_at, note_or}
use Rattle.stg_conflict.proofs.Noting.{note_or-both}
use Rattle.stg_conflict.proofs.Walks.{trans_later}
use Rattle.stg_conflict.proofs.noted.note_place.Goals as goal

pub loop-u-preserved : goal.loop-u-preserved
loop-u-preserved c =
    let g = c.args.editor.now.now in
    let signals = c.args.editor.now.signals in
    let p = c.args.p in
    let step = c.args.step in
    let rest = c.next.new.self in
    record {
      live = trans_later g _ c.loop-u.u-iterator rest c.in-Some.ensures.steps c.loop-u.invariant.live;
      len = omega (arith, c.note_taker.ensures.len, c.loop-u.invariant.len);
      left = λ s below.
          ap (note_or (clashes_among g signals p rest s) step) (c.note_taker.ensures.noted s (omega (arith, below, c.loop-u.invariant.len)))
          ∙ note_or-both (clashes_with g signals p s c.in-Some.u) (clashes_among g signals p rest s) step (note_at c.loop-u.noted s)
          ∙ ap (λ xs. note_or (clashes_among g signals p xs s) step (note_at c.loop-u.noted s)) (sym c.in-Some.ensures.steps)
          ∙ c.loop-u.invariant.left s below;
    }
