use Rattle.std.proofs.Common.{rules, ◌≡◌, length, is_some, ◌∙◌}
use Rattle.stg_net.specs.Graph.{place_at}
use Rattle.stg_net.specs.Ordered.{numbers_where}
use Rattle.stg_edit.proofs.Compacting.{places_listed}
use Rattle.stg_edit.proofs.compact.list_places.Goals as goal

pub returns : goal.returns
returns c =
    let g = c.args.editor.now.now in
    let listed : c.loop-p.list ≡ numbers_where (λ p. is_some (place_at g p)) (length g.places) = search rules in
    listed ∙ places_listed g
