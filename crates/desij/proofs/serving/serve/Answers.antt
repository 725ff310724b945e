use Rattle.std.proofs.lemmas.Result.{on_ok_weaker}
use Rattle.desij_words.specs.Serving.{serving_told}
use Rattle.desij.proofs.TurnLemmas.{all-served, fewer-served}
use Rattle.desij.proofs.serving.serve.Goals as goal

pub returns-in-Ok-new-clause-ok : goal.returns-in-Ok-new-clause-ok
returns-in-Ok-new-clause-ok g c =
    let asked = serving_told c.args.asked in
    let keeper = c.in-Ok.ensures in
    let turns = rw c.in-Ok-new.ensures.value at c.serve_all.ensures.ok in
    on_ok_weaker c.serve_all.result (λ served. all-served asked (g.V.Vault.seen c.args.vault.now) (g.V.K.Keeper.seen c.in-Ok.keeper) _ (g.D.Doors.seen c.args.doors.now) (g.D.Doors.seen c.listen.new.self) _ keeper.projects keeper.sure keeper.faultless c.in-Ok-listen.ensures.ok served) turns

pub returns-in-Ok-new-clause-stopped : goal.returns-in-Ok-new-clause-stopped
returns-in-Ok-new-clause-stopped g c = λ failed.
    let asked = serving_told c.args.asked in
    let keeper = c.in-Ok.ensures in
    let stops = rw c.in-Ok-new.ensures.value at c.serve_all.ensures.stopped failed in
    fewer-served asked (g.V.Vault.seen c.args.vault.now) (g.V.K.Keeper.seen c.in-Ok.keeper) (g.D.Doors.seen c.args.doors.now) (g.D.Doors.seen c.listen.new.self) _ keeper.projects keeper.sure keeper.faultless c.in-Ok-listen.ensures.ok stops
