use Rattle.std.proofs.Common.{ap, ◌∙◌}
use Rattle.desk_http.specs.Answering.{json}
use Rattle.desk_http.proofs.replies.failure.Goals as goal

pub returns : goal.returns
returns c = c.in_ok-reply.ensures ∙ ap (json c.args.status) (c.as_bytes.ensures.value ∙ c.in_ok-body.ensures)
