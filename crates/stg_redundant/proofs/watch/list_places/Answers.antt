use Rattle.std.proofs.Common.{rules, ◌≡◌, length, is_some, sym, subst, ◌∙◌}
use Rattle.std.specs.List.Sorted.{IsStrictlyIncreasing}
use Rattle.stg_net.specs.Graph.{place_at}
use Rattle.stg_net.specs.Ordered.{numbers_where}
use Rattle.stg_edit.proofs.Compacting.{places_listed}
use Rattle.stg_redundant.proofs.WatchLists.{live_ascend}
use Rattle.stg_redundant.proofs.watch.list_places.Goals as goal

pub returns-clause-value : goal.returns-clause-value
returns-clause-value c =
    let g = c.args.editor.now.now in
    let listed : c.loop-p.list.items ≡ numbers_where (λ p. is_some (place_at g p)) (length g.places) = search rules in
    listed ∙ places_listed g

pub returns-clause-ascending : goal.returns-clause-ascending
returns-clause-ascending c =
    let g = c.args.editor.now.now in
    let listed : c.loop-p.list.items ≡ numbers_where (λ p. is_some (place_at g p)) (length g.places) = search rules in
    subst IsStrictlyIncreasing (sym (listed ∙ places_listed g)) (live_ascend g)
