use Rattle.std.proofs.Common.{ap, sym, ◌∙◌, take}
use Rattle.std.proofs.lemmas.List.{take-map}
use Rattle.astg_read.specs.inner.Views.{slices_view}
use Rattle.astg_read.proofs.marking.before_close.Goals as goal

pub returns : goal.returns
returns c =
    let ws = c.args.words.now in
    sym (take-map (λ w. w.now) _ ws) ∙ ap (λ n. take n (slices_view ws)) c.close_length.ensures.value
