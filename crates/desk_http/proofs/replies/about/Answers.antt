use Rattle.std.proofs.Common.{ℕ, List, ap, ◌∙◌}
use Rattle.desk_http.specs.Replies.{project_body}
use Rattle.desk_http.specs.Answering.{json}
use Rattle.desk_http.proofs.replies.about.Goals as goal

pub returns : goal.returns
returns c = c.in_ok-reply.ensures ∙ ap (json c.args.status) (c.as_bytes.ensures.value ∙ c.in_ok-body.ensures ∙ ap (λ (n : List ℕ). project_body n c.args.count) c.name_text.ensures)
