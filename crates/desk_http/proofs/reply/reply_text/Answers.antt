use Rattle.std.proofs.Common.{◌++◌, ◌∙◌, ap, codes, length, List, ℕ}
use Rattle.std.specs.Option.{option_copied}
use Rattle.desk_http.specs.Replies.{status_line, type_field, length_field, allow_field}
use Rattle.desk_http.proofs.reply.reply_text.Goals as goal

pub returns : goal.returns
returns c =
    c.in_ok-extend_from_slice-2.ensures.ok
    ∙ ap (λ (t : List ℕ). t ++ c.args.body.now) (c.in_ok-extend_from_slice.ensures.ok
    ∙ ap (λ (t : List ℕ). t ++ codes "Connection: close\r\n\r\n") (c.in_ok-push_allow.ensures
    ∙ ap (λ (t : List ℕ). t ++ allow_field (option_copied c.args.allow)) (c.in_ok-push_length.ensures
    ∙ ap (λ (t : List ℕ). t ++ length_field (length c.args.body.now)) (c.in_ok-push_type.ensures
    ∙ ap (λ (t : List ℕ). t ++ type_field c.args.media) (c.in_ok-push_status.ensures ∙ ap (λ (t : List ℕ). t ++ status_line c.args.status) c.new-text.ensures)))))
