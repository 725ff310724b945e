use Rattle.std.proofs.Common.{ap, Err}
use Rattle.desk_http.proofs.desk.serve_one.Goals as goal
use Rattle.desk_http.proofs.desk.serve_one.Goals.{in-Ok-answer, in-Err-Failed-answer, in-Err-NoMemory-answer}
use Rattle.desk_http.proofs.ServeLemmas.{broken_off, unheld, answered, lacking, failing}

pub returns-in-Err-Failed-clause-serves : goal.returns-in-Err-Failed-clause-serves
returns-in-Err-Failed-clause-serves g c =
    let reads = rw (c.in-Err-Failed.field-0-is) at c.in-Err-Failed.ensures.reads in
    rw (← c.desk.view_is) (broken_off _ _ _ reads)

pub returns-in-Err-NoMemory-clause-serves : goal.returns-in-Err-NoMemory-clause-serves
returns-in-Err-NoMemory-clause-serves g c =
    let reads = rw (c.in-Err-NoMemory.field-0-is) at c.in-Err-NoMemory.ensures.reads in
    rw (← c.desk.view_is) (unheld _ _ _ _ _ _ reads c.desk.invariant.2 c.send.ensures.broken c.send.ensures.sent)

pub returns-clause-serves : goal.returns-clause-serves
returns-clause-serves g c = elim c.match-answer.branch [
  | in-Ok-answer w ↦
      let does = w.in-Ok-answer.ensures in
      let sends = w.send-in-Ok-answer.ensures in
      rw (w.link-is, w.result-is, ← c.desk.view_is)
      (answered _ _ _ _ _ _ c.in-Ok.ensures.reads sends.broken _ _ c.in-Ok.ensures.asked does.answers does.given does.by_bytes sends.sent)
  | in-Err-Failed-answer w ↦
      let does = w.in-Err-Failed-answer.ensures in
      let sends = w.send-in-Err-Failed-answer.ensures in
      rw (w.link-is, w.result-is, ← c.desk.view_is)
      (failing _ _ _ _ _ _ c.in-Ok.ensures.reads sends.broken _ _ c.desk.invariant.3 does.answers _ (ap Err w.in-Err-Failed-answer.field-0-is) does.cause sends.sent)
  | in-Err-NoMemory-answer w ↦
      let does = w.in-Err-NoMemory-answer.ensures in
      let sends = w.send-in-Err-NoMemory-answer.ensures in
      rw (w.link-is, w.result-is, ← c.desk.view_is)
      (lacking _ _ _ _ _ _ c.in-Ok.ensures.reads sends.broken _ _ c.desk.invariant.2 does.answers sends.sent)
]
