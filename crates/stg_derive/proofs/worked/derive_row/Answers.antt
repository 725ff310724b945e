use Rattle.std.proofs.Common.{◌≡◌, ◌<◌, ◌∙◌, sym, subst, length, All}
use Rattle.std.proofs.lemmas.List.{length-map}
use Rattle.stg_contract.specs.inner.Worked.{lent_texts}
use Rattle.stg_derive.proofs.DerivableNets.{tables_are_ready}
use Rattle.stg_derive.proofs.worked.derive_row.Goals as goal

pub derive-requires-clause-within : goal.derive-requires-clause-within
derive-requires-clause-within c =
    let long : length (lent_texts c.args.names.now) ≡ length c.args.names.now = length-map c.args.names.now (λ name. name.now) in
    (tables_are_ready (lent_texts c.args.names.now) c.args.trans.now c.args.tokens.now c.args.arcs.now c.requires.labels c.requires.arcs c.requires.derivable
    c.in_ok-spec.spec.net c.args.own.now c.in_ok-from_slice.field-0 c.in_ok-from_slice-2.field-0 c.in_ok-spec.ensures
    (subst (λ k. All (λ s. s < k) c.args.own.now) (sym long) c.requires.own) c.in_ok-from_slice.ensures (c.in_ok-from_slice-2.ensures ∙ c.requires.known)).within

pub derive-requires-clause-in_range : goal.derive-requires-clause-in_range
derive-requires-clause-in_range c =
    let long : length (lent_texts c.args.names.now) ≡ length c.args.names.now = length-map c.args.names.now (λ name. name.now) in
    (tables_are_ready (lent_texts c.args.names.now) c.args.trans.now c.args.tokens.now c.args.arcs.now c.requires.labels c.requires.arcs c.requires.derivable
    c.in_ok-spec.spec.net c.args.own.now c.in_ok-from_slice.field-0 c.in_ok-from_slice-2.field-0 c.in_ok-spec.ensures
    (subst (λ k. All (λ s. s < k) c.args.own.now) (sym long) c.requires.own) c.in_ok-from_slice.ensures (c.in_ok-from_slice-2.ensures ∙ c.requires.known)).in_range

pub derive-requires-clause-closed : goal.derive-requires-clause-closed
derive-requires-clause-closed c =
    let long : length (lent_texts c.args.names.now) ≡ length c.args.names.now = length-map c.args.names.now (λ name. name.now) in
    (tables_are_ready (lent_texts c.args.names.now) c.args.trans.now c.args.tokens.now c.args.arcs.now c.requires.labels c.requires.arcs c.requires.derivable
    c.in_ok-spec.spec.net c.args.own.now c.in_ok-from_slice.field-0 c.in_ok-from_slice-2.field-0 c.in_ok-spec.ensures
    (subst (λ k. All (λ s. s < k) c.args.own.now) (sym long) c.requires.own) c.in_ok-from_slice.ensures (c.in_ok-from_slice-2.ensures ∙ c.requires.known)).closed

pub derive-requires-clause-no_conflict : goal.derive-requires-clause-no_conflict
derive-requires-clause-no_conflict c =
    let long : length (lent_texts c.args.names.now) ≡ length c.args.names.now = length-map c.args.names.now (λ name. name.now) in
    (tables_are_ready (lent_texts c.args.names.now) c.args.trans.now c.args.tokens.now c.args.arcs.now c.requires.labels c.requires.arcs c.requires.derivable
    c.in_ok-spec.spec.net c.args.own.now c.in_ok-from_slice.field-0 c.in_ok-from_slice-2.field-0 c.in_ok-spec.ensures
    (subst (λ k. All (λ s. s < k) c.args.own.now) (sym long) c.requires.own) c.in_ok-from_slice.ensures (c.in_ok-from_slice-2.ensures ∙ c.requires.known)).no_conflict
