use Rattle.std.proofs.Common.{◌∙◌, ◌<◌, List, All, length, ap, sym, subst, rules}
use Rattle.std.proofs.lemmas.List.Sorted.{IsNonDecreasingBy-from_sort_by_key, All-permutation, answers_always}
use Rattle.stg_net.specs.declared.arc.NetArc.{NetArc}
use Rattle.astg_write.specs.ComponentText.{given_text}
use Rattle.astg_write.proofs.TransArcs.{given-sorted}
use Rattle.astg_write.proofs.arcs.arcs_by_trans.Goals as goal

pub returns-clause-rise : goal.returns-clause-rise
returns-clause-rise c = IsNonDecreasingBy-from_sort_by_key (λ (a : NetArc). a.trans) _ c.in_ok-sort_by_key.ensures.sorted (λ a r q k. search rules)

pub returns-clause-given : goal.returns-clause-given
returns-clause-given c = λ prefix t.
    let stable = c.in_ok-sort_by_key.ensures.stable (λ (a : NetArc). a.trans) (answers_always _ _ _ (λ f a r g h. search rules)) in
    given-sorted _ _ stable prefix t ∙ ap (given_text prefix t) (c.in_ok-arcs.ensures.items ∙ c.arcs.ensures.arcs)

pub returns-clause-there : goal.returns-clause-there
returns-clause-there c =
    let P : NetArc → Type 0 = λ a. a.place < length c.args.net.now.tokens in
    let all : All P c.args.net.now.arcs = λ k d b. (c.arcs.ensures.net.arcs k d b).place_there in
    All-permutation P _ _ c.in_ok-sort_by_key.ensures.permutation (subst (λ (l : List NetArc). All P l) (sym (c.in_ok-arcs.ensures.items ∙ c.arcs.ensures.arcs)) all)
