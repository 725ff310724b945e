use Rattle.std.proofs.Common.{sym, ◌∙◌}
use Rattle.std.proofs.lemmas.Bool.{ltb-false, false≢true}
use Rattle.stg_contract.proofs.ContractedSizes.{within_found, round_stays, large_stays, many_stays}
use Rattle.stg_contract.proofs.judge.is_large.Goals as goal

pub returns-then-is_large_round-clause-large : goal.returns-then-is_large_round-clause-large
returns-then-is_large_round-clause-large c = λ yes. round_stays c.args.editor.now.now c.args.t (sym c.is_large_round.ensures.value ∙ c.if-is_large_round.true)

pub returns-then-is_large_left-clause-large : goal.returns-then-is_large_left-clause-large
returns-then-is_large_left-clause-large c = λ yes. large_stays c.args.editor.now.now c.args.t c.requires.pure (c.is_large_left.ensures.0 c.if-is_large_left.true)

pub returns-clause-large : goal.returns-clause-large
returns-clause-large c = λ many. many_stays c.args.editor.now.now c.args.t (sym c.has_many_arcs.ensures ∙ many)

pub returns-clause-within : goal.returns-clause-within
returns-clause-within c =
    let g = c.args.editor.now.now in
    λ few. within_found g c.args.t c.is_large_round.ensures.draft.narrow (λ l. false≢true (sym c.if-is_large_left.false ∙ c.is_large_left.ensures.1 l)) (sym c.is_large_round.ensures.value ∙ c.if-is_large_round.false)
    (ltb-false 100000 _ (sym c.has_many_arcs.ensures ∙ few))
