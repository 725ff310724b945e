use Rattle.std.proofs.Common.{◌∙◌, refl, sym, Some, None}
use Rattle.std.proofs.lemmas.Bool.{false≢true}
use Rattle.stg_conflict.proofs.Clashing.{none_found, least_found, least_clash_is, conflict_found}
use Rattle.stg_conflict.proofs.search.no_auto_conflict.Goals as goal

pub returns-in-None-clause-none : goal.returns-in-None-clause-none
returns-in-None-clause-none c = (
  λ e. none_found c.args.net.now c.arcs.ensures.net (least_clash_is c.args.net.now c.trans.result.now c.arcs.result.now None c.trans.ensures.trans c.arcs.ensures.arcs (sym c.find_clash.ensures ∙ c.in-None.is)),
  λ e. refl,
)

pub returns-in-Some-clause-none : goal.returns-in-Some-clause-none
returns-in-Some-clause-none c = (
  λ e. absurd (false≢true e),
  λ none. absurd (conflict_found c.args.net.now c.in-Some.clash c.arcs.ensures.net (least_clash_is c.args.net.now c.trans.result.now c.arcs.result.now (Some c.in-Some.clash) c.trans.ensures.trans c.arcs.ensures.arcs (sym c.find_clash.ensures ∙ c.in-Some.is)) none),
)

pub returns-in-Some-clause-least : goal.returns-in-Some-clause-least
returns-in-Some-clause-least c = least_found c.args.net.now c.in-Some.clash c.arcs.ensures.net (least_clash_is c.args.net.now c.trans.result.now c.arcs.result.now (Some c.in-Some.clash) c.trans.ensures.trans c.arcs.ensures.arcs (sym c.find_clash.ensures ∙ c.in-Some.is))
