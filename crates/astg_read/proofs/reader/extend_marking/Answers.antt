use Rattle.std.proofs.Common.{sym, subst, drop}
use Rattle.astg_read.specs.inner.NoDummies.{without_dummies}
use Rattle.astg_read.specs.Markings.{before_close}
use Rattle.astg_read.specs.Rows.{Row}
use Rattle.astg_read.specs.inner.MarkingCheck.{IsSettled}
use Rattle.astg_read.specs.inner.Views.{texts}
use Rattle.astg_read.proofs.MarkingCheckLemmas.{settled-grown}
use Rattle.astg_read.proofs.reader.extend_marking.Goals as goal

pub is_bad-requires-clause-settled : goal.is_bad-requires-clause-settled
is_bad-requires-clause-settled c =
    let most = c.args.most in let d = without_dummies c.args.signals.now in let places = c.args.graph.now.places in let s = c.args.settled.now in
    subst (λ (ws : Row). IsSettled most d places s (before_close (drop 1 ws))) (sym c.in_ok-extend.ensures)
    (settled-grown most d places s c.args.marking.now (texts c.args.words.now) c.requires.unfinished c.requires.settled)
