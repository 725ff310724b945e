use Rattle.std.proofs.Common.{List, ℕ, ap, ◌∙◌, take, length, ◌-◌}
use Rattle.desk_http.proofs.PathLemmas.{piece_taken}
use Rattle.desk_http.proofs.path.up_to_slash.Goals as goal

pub returns : goal.returns
returns c =
    ap (λ (k : ℕ). take k c.args.text.now) (c.saturating_sub.ensures ∙ ap (λ (r : List ℕ). length c.args.text.now - length r) c.from_slash-rest.ensures)
    ∙ piece_taken c.args.text.now
