use Rattle.std.proofs.Common.{subst}
use Rattle.stg_edit.specs.Drafts.{IsDraft}
use Rattle.stg_edit.proofs.DraftFacts.{is_draft}
use Rattle.stg_edit.proofs.editor.Editor.signals.Goals as goal

pub returns-clause-draft : goal.returns-clause-draft
returns-clause-draft c = subst IsDraft c.self.view_is (is_draft c.self.inside c.self.invariant)
