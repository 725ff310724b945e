use Rattle.std.proofs.Common.{ℕ, List, All, sym, subst}
use Rattle.stg_net.specs.Graph.{IsPlace}
use Rattle.stg_edit.proofs.LiveEnds.{taken_live}
use Rattle.stg_edit.proofs.editor.Editor.takes.Goals as goal

pub returns-clause-live : goal.returns-clause-live
returns-clause-live c =
    let P : List (ℕ × ℕ) → Type 0 = All (λ (x : ℕ × ℕ). IsPlace c.args.self.now.now x.0) in
    subst P (sym c.walk.ensures.value) (taken_live c.args.self.now.now c.args.t)
