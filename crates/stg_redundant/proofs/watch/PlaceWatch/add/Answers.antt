use Rattle.std.proofs.Common.{◌≡◌, List, ℕ, OnOk, subst}
use Rattle.stg_redundant.specs.Watching.{HasBesides}
use Rattle.stg_redundant.proofs.watch.PlaceWatch.add.Goals as goal

pub returns-clause-ok : goal.returns-clause-ok
returns-clause-ok c =
    subst (λ (xs : List ℕ). OnOk c.insert.result (HasBesides (λ q. q ≡ c.args.p) xs c.insert.new.numbers.items)) c.self.view_is c.insert.ensures.ok
