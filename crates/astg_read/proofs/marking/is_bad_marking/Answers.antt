use Rattle.std.proofs.Common.{ap, sym, subst, ◌∙◌, ◌-◌, [], arith, take, drop, length, length-drop, take_all, nat_lt}
use Rattle.std.proofs.lemmas.Bool.{eqb-false, lt-ltb, le-ltb}
use Rattle.std.proofs.lemmas.List.{take-map}
use Rattle.astg_read.specs.Markings.{entries_after, has_bad_entry}
use Rattle.astg_read.specs.inner.MarkingCheck.{IsSettled}
use Rattle.astg_read.specs.inner.NoDummies.{without_dummies}
use Rattle.astg_read.proofs.CloseLemmas.{followed, not-followed}
use Rattle.astg_read.proofs.MarkingCheckLemmas.{before-slices_view, within-close, within-rest}
use Rattle.astg_read.proofs.marking.is_bad_marking.Goals as goal

pub close_length_after-count-requires-clause-least : goal.close_length_after-count-requires-clause-least
close_length_after-count-requires-clause-least c = within-close c.args.words.now c.args.settled.now.words c.requires.settled.within

pub close_length_after-count-requires-clause-within : goal.close_length_after-count-requires-clause-within
close_length_after-count-requires-clause-within c = within-rest c.args.words.now c.args.settled.now.words c.requires.settled.within

pub returns-then-rest-count-gt1-clause-bad : goal.returns-then-rest-count-gt1-clause-bad
returns-then-rest-count-gt1-clause-bad c =
    let words = c.args.words.now in
    let rest = take (length words - 1) (drop 1 words) in
    sym (followed c.args.most (without_dummies c.args.signals.now) c.args.graph.now.places words _ (omega (arith, eqb-false (length words) 0 (sym c.is_empty.ensures ∙ c.if-is_empty.false))) (sym c.is_opening.ensures ∙ c.if-not-is_opening.false) rest (take_all (length words - 1) (drop 1 words) (omega (arith, length-drop 1 words)))
    c.close_length_after-count.result c.close_length_after-count.ensures.value (lt-ltb 1 (length rest - c.close_length_after-count.result) c.if-rest-count-gt1.true))

pub has_bad_entry-requires-clause-settled : goal.has_bad_entry-requires-clause-settled
has_bad_entry-requires-clause-settled c =
    subst (IsSettled c.args.most (without_dummies c.args.signals.now) c.args.graph.now.places c.args.settled.now) (sym (before-slices_view c.args.words.now c.close_length_after-count.result c.close_length_after-count.ensures.value)) c.requires.settled

pub returns-clause-bad : goal.returns-clause-bad
returns-clause-bad c =
    let words = c.args.words.now in
    let d = without_dummies c.args.signals.now in
    let rest = take (length words - 1) (drop 1 words) in
    let n = c.close_length_after-count.result in
    c.in_ok-is_bad.ensures.bad
    ∙ ap (λ ws. has_bad_entry c.args.most d c.args.graph.now.places (nat_lt n (length rest)) [] (entries_after 0 ws)) (sym (take-map (λ w. w.now) n rest))
    ∙ sym (not-followed c.args.most d c.args.graph.now.places words _ (omega (arith, eqb-false (length words) 0 (sym c.is_empty.ensures ∙ c.if-is_empty.false))) (sym c.is_opening.ensures ∙ c.if-not-is_opening.false) rest (take_all (length words - 1) (drop 1 words) (omega (arith, length-drop 1 words)))
    n c.close_length_after-count.ensures.value (le-ltb 1 (length rest - n) c.if-rest-count-gt1.false))

pub returns-clause-settled : goal.returns-clause-settled
returns-clause-settled c =
    subst (IsSettled c.args.most (without_dummies c.args.signals.now) c.args.graph.now.places c.has_bad_entry.new.self) (before-slices_view c.args.words.now c.close_length_after-count.result c.close_length_after-count.ensures.value) c.in_ok-is_bad.ensures.settled
