use Rattle.desij.proofs.TurnLemmas.{next-served}
use Rattle.desij.proofs.serving.serve_next.Goals as goal

pub returns-in-Ok-finish-clause-ok : goal.returns-in-Ok-finish-clause-ok
returns-in-Ok-finish-clause-ok g c =
    let came = c.in-Ok.ensures in
    let answer = c.serve_one.ensures in
    next-served (g.K.Keeper.seen c.args.desk.now.0) (g.K.Keeper.seen c.serve_one.new.desk.0)
    (g.D.Doors.seen c.args.doors.now) (g.D.Doors.seen c.next.new.self) (g.D.Doors.seen c.finish.new.self)
    (g.D.L.Link.seen c.in-Ok.link) (g.D.L.Link.seen c.serve_one.new.link) c.serve_one.result
    came.value came.told came.ok c.in-Ok-finish.ensures.ok answer.sure answer.serves
