use Rattle.std.proofs.Common.{◌++◌, ◌∙◌, ap, ap₂, codes, List, ℕ}
use Rattle.desk_http.specs.Replies.{media_text}
use Rattle.desk_http.proofs.ReplyLemmas.{three_pieces}
use Rattle.desk_http.proofs.reply.push_type.Goals as goal

pub returns : goal.returns
returns c =
    c.in_ok-extend_from_slice-3.ensures.ok
    ∙ ap (λ (t : List ℕ). t ++ codes "\r\n") (c.in_ok-extend_from_slice-2.ensures.ok ∙ ap₂ (λ (t m : List ℕ). t ++ m) c.in_ok-extend_from_slice.ensures.ok c.media_text.ensures)
    ∙ three_pieces c.args.text.now (codes "Content-Type: ") (media_text c.args.media) (codes "\r\n")
