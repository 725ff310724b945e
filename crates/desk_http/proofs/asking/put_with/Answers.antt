use Rattle.desk_http.proofs.AskLemmas.{put_is, bad_is}
use Rattle.desk_http.proofs.asking.put_with.Goals as goal

pub returns-then-branch-clause-asked : goal.returns-then-branch-clause-asked
returns-then-branch-clause-asked g c = λ front input is told.
    let whole = rw (c.if-branch.true) at c.in_ok-read_body.ensures.body in
    put_is c.args.name front input c.args.text c.read_body.new.text c.args.count is (whole input told).0 (whole input told).1

pub returns-else-branch-clause-asked : goal.returns-else-branch-clause-asked
returns-else-branch-clause-asked g c = λ front input is told.
    let ended = rw (c.if-branch.false) at c.in_ok-read_body.ensures.body in
    bad_is c.args.name front input c.args.text c.args.count is (ended input told)
