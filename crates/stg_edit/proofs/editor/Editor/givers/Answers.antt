use Rattle.std.proofs.Common.{ℕ, List, All, sym, subst}
use Rattle.stg_net.specs.Graph.{IsTrans}
use Rattle.stg_edit.proofs.LiveEnds.{giving_live}
use Rattle.stg_edit.proofs.editor.Editor.givers.Goals as goal

pub returns-clause-live : goal.returns-clause-live
returns-clause-live c =
    let P : List (ℕ × ℕ) → Type 0 = All (λ (x : ℕ × ℕ). IsTrans c.args.self.now.now x.0) in
    subst P (sym c.walk.ensures.value) (giving_live c.args.self.now.now c.args.p c.walk.ensures.draft.weightless)
