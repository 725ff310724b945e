use Rattle.std.proofs.Common.{rules, ◌≡◌, length, ◌∙◌}
use Rattle.stg_net.specs.Net.{signal_at}
use Rattle.stg_net.specs.Graph.{is_among}
use Rattle.stg_net.specs.Ordered.{numbers_where}
use Rattle.stg_edit.proofs.Compacting.{known_listed}
use Rattle.stg_edit.proofs.compact.list_signals.Goals as goal

pub returns : goal.returns
returns c =
    let g = c.args.editor.now.now in
    let signals = c.args.editor.now.signals in
    let listed : c.loop-s.list ≡ numbers_where (λ s. is_among g.known (signal_at signals s).name) (length signals) = search rules in
    listed ∙ known_listed signals g
