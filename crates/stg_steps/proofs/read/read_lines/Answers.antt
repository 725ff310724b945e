use Rattle.std.proofs.Common.{rules, ◌≡◌, ◌∙◌, ◌<◌, ℕ, true, false, List, length, ap, sym, arith}
use Rattle.std.proofs.lemmas.Bool.{not-true, not-false, eqb-true, eq-eqb, false≢true}
use Rattle.stg_steps.specs.inner.Reading.{with_row, trans_words, pieces}
use Rattle.stg_steps.proofs.ReadSteps.{ends_after, cut_off, ends_here, goes_past, tells_nothing, goes_on, none_left, takes_none, takes_some}
use Rattle.stg_steps.proofs.read.read_lines.Goals as goal

pub returns-then-rest-count-clause-bad_line : goal.returns-then-rest-count-clause-bad_line
returns-then-rest-count-clause-bad_line c =
    cut_off c.args.net.now c.args.text.now c.loop-rest.number c.loop-rest.log c.loop-rest.rest.now c.loop-rest.invariant c.piece_length-count.result c.piece_length-count.ensures.value c.piece_length-count.ensures.most (omega (arith, c.if-rest-count.true))

pub returns-then-is_empty-clause-ok : goal.returns-then-is_empty-clause-ok
returns-then-is_empty-clause-ok c =
    let next = c.after-next.result.now in
    ends_here c.args.net.now c.args.text.now c.loop-rest.number c.loop-rest.log c.loop-rest.rest.now c.loop-rest.invariant c.piece_length-count.result c.piece_length-count.ensures.value
    c.before-line.result.now next (omega (arith, c.if-rest-count.false)) c.before-line.ensures c.after-next.ensures (sym c.is_end.ensures ∙ c.if-is_end.true) (none_left next (eqb-true (length next) 0 (sym c.is_empty.ensures ∙ c.if-is_empty.true)))

pub returns-then-is_end-clause-bad_line : goal.returns-then-is_end-clause-bad_line
returns-then-is_end-clause-bad_line c =
    let next = c.after-next.result.now in
    goes_past c.args.net.now c.args.text.now c.loop-rest.number c.loop-rest.log c.loop-rest.rest.now c.loop-rest.invariant c.piece_length-count.result c.piece_length-count.ensures.value
    c.before-line.result.now next (omega (arith, c.if-rest-count.false)) c.before-line.ensures c.after-next.ensures (sym c.is_end.ensures ∙ c.if-is_end.true)
    (λ e. absurd (false≢true (sym c.if-is_empty.false ∙ c.is_empty.ensures ∙ eq-eqb (length next) 0 (ap (λ (xs : List ℕ). length xs) e))))

pub returns-then-not-taken-clause-bad_line : goal.returns-then-not-taken-clause-bad_line
returns-then-not-taken-clause-bad_line c =
    let n = c.args.net.now in
    let line = c.before-line.result.now in
    let told = with_row n (trans_words n) c.loop-rest.log (pieces 32 line) in
    let not_taken : c.in_ok-taken.taken ≡ false = search (rules, not-true) in
    tells_nothing n c.args.text.now c.loop-rest.number c.loop-rest.log c.loop-rest.rest.now c.loop-rest.invariant c.piece_length-count.result c.piece_length-count.ensures.value
    line c.after-next.result.now (omega (arith, c.if-rest-count.false)) c.before-line.ensures c.after-next.ensures (sym c.is_end.ensures ∙ c.if-is_end.false)
    (takes_none c.in_ok-taken.taken told c.take_line.new.log c.in_ok-taken.ensures not_taken)

pub overflow_add-number : goal.overflow_add-number
overflow_add-number c =
    let below : c.piece_length-count.result < length c.loop-rest.rest.now = omega (arith, c.if-rest-count.false) in
    omega (arith, c.loop-rest.invariant.fits, c.requires.short, ends_after c.loop-rest.rest.now c.after-next.result.now c.piece_length-count.result c.piece_length-count.ensures.value below c.after-next.ensures)

pub loop-rest-preserved : goal.loop-rest-preserved
loop-rest-preserved c =
    let n = c.args.net.now in
    let line = c.before-line.result.now in
    let told = with_row n (trans_words n) c.loop-rest.log (pieces 32 line) in
    let yes_taken : c.in_ok-taken.taken ≡ true = search (rules, not-false) in
    goes_on n c.args.text.now c.loop-rest.number c.loop-rest.log c.loop-rest.rest.now c.loop-rest.invariant c.piece_length-count.result c.piece_length-count.ensures.value
    line c.after-next.result.now (omega (arith, c.if-rest-count.false)) c.before-line.ensures c.after-next.ensures c.take_line.new.log (sym c.is_end.ensures ∙ c.if-is_end.false)
    (takes_some c.in_ok-taken.taken told c.take_line.new.log c.in_ok-taken.ensures yes_taken)
