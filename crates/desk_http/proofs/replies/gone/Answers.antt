use Rattle.std.proofs.Common.{ap, ◌∙◌}
use Rattle.desk_http.specs.Replies.{removed_body}
use Rattle.desk_http.specs.Answering.{json}
use Rattle.desk_http.proofs.replies.gone.Goals as goal

pub returns : goal.returns
returns c = c.in_ok-reply.ensures ∙ ap (json 200) (c.as_bytes.ensures.value ∙ c.in_ok-body.ensures ∙ ap removed_body c.name_text.ensures)
