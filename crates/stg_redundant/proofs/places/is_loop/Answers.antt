use Rattle.std.proofs.Common.{◌&&◌, ℕ, nat_le, ap, sym, ◌∙◌}
use Rattle.std.specs.List.{list_all}
use Rattle.stg_net.specs.Graph.{tokens_at}
use Rattle.stg_edit.specs.Walks.{taking_trans}
use Rattle.stg_redundant.specs.inner.Tests.{are_same}
use Rattle.stg_redundant.proofs.places.is_loop.Goals as goal

pub returns-then-are_same : goal.returns-then-are_same
returns-then-are_same c =
    let g = c.args.editor.now.now in
    let p = c.args.p in
    let first = sym (λ i. are_same (c.takers.ensures.value i) (c.givers.ensures.value i)) ∙ sym c.are_same.ensures ∙ c.if-are_same.true in
    let second = c.are_at_most.ensures ∙ (λ i. list_all (λ (x : ℕ × ℕ). nat_le x.1 (c.tokens.ensures i)) (c.takers-then-are_same.ensures.value i)) in
    second ∙ sym (ap (λ b. b && list_all (λ (x : ℕ × ℕ). nat_le x.1 (tokens_at g p)) (taking_trans g p)) first)
