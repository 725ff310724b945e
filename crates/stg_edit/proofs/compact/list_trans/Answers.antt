use Rattle.std.proofs.Common.{rules, ◌≡◌, length, is_some, ◌∙◌}
use Rattle.stg_net.specs.Graph.{full_name_at}
use Rattle.stg_net.specs.Ordered.{numbers_where}
use Rattle.stg_edit.proofs.Compacting.{trans_listed}
use Rattle.stg_edit.proofs.compact.list_trans.Goals as goal

pub returns : goal.returns
returns c =
    let g = c.args.editor.now.now in
    let listed : c.loop-t.list ≡ numbers_where (λ t. is_some (full_name_at g t)) (length g.trans) = search rules in
    listed ∙ trans_listed g
