use Rattle.std.proofs.Common.{◌∙◌, sym, refl, arith}
use Rattle.astg_read.specs.inner.NoDummies.{without_dummies}
use Rattle.astg_read.proofs.MarkingCheckLemmas.{bad-in, last-in, next-in, end-in}
use Rattle.astg_read.proofs.marking_check.MarkingCheck.has_bad_entry.Goals as goal

pub returns-then-is_bad_entry-clause-bad : goal.returns-then-is_bad_entry-clause-bad
returns-then-is_bad_entry-clause-bad c =
    sym (bad-in c.args.most (without_dummies c.args.signals.now) c.args.graph.now.places c.args.words.now c.loop-self.self c.loop-self.invariant c.front-entry.result (grind arith) c.front-entry.ensures.entry c.front-entry.ensures.least c.args.is_closed (sym c.is_bad_entry.ensures ∙ c.if-is_bad_entry.true))

pub returns-then-len-rest-clause-bad : goal.returns-then-len-rest-clause-bad
returns-then-len-rest-clause-bad c =
    sym (last-in c.args.most (without_dummies c.args.signals.now) c.args.graph.now.places c.args.words.now c.loop-self.self c.loop-self.invariant c.front-entry.result (grind arith) c.front-entry.ensures.entry c.front-entry.ensures.least c.args.is_closed (sym c.is_bad_entry.ensures ∙ c.if-is_bad_entry.false) (grind arith))

pub loop-self-preserved : goal.loop-self-preserved
loop-self-preserved c =
    next-in c.args.most (without_dummies c.args.signals.now) c.args.graph.now.places c.args.words.now c.loop-self.self c.loop-self.invariant c.front-entry.result (grind arith) c.front-entry.ensures.entry c.front-entry.ensures.least c.args.is_closed
    _ (sym c.is_bad_entry.ensures ∙ c.if-is_bad_entry.false) (grind arith) refl c.in_ok-add_named.ensures

pub returns-clause-bad : goal.returns-clause-bad
returns-clause-bad c =
    sym (end-in c.args.most (without_dummies c.args.signals.now) c.args.graph.now.places c.args.words.now c.loop-self.self c.loop-self.invariant c.args.is_closed (grind arith))
