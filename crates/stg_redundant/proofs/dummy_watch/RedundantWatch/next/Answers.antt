use Rattle.std.proofs.Common.{sym, subst, ◌∙◌}
use Rattle.stg_redundant.specs.FlaggedDummies.{FlagsRedundant}
use Rattle.stg_redundant.proofs.dummy_watch.RedundantWatch.next.Goals as goal

pub find_greatest-requires-clause-watched : goal.find_greatest-requires-clause-watched
find_greatest-requires-clause-watched c =
    subst (FlagsRedundant c.args.editor.now.now) (sym (c.deref_mut.ensures.value ∙ c.self.view_is)) c.requires
