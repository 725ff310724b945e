use Rattle.std.proofs.Common.{sym, subst, ◌∙◌}
use Rattle.stg_net.specs.Net.{IsNet}
use Rattle.stg_contract.specs.inner.Worked.{lent_texts, net}
use Rattle.stg_contract.proofs.WorkedNets.{net-IsNet, same_net}
use Rattle.stg_derive.proofs.worked.make_net.Goals as goal

pub of-requires : goal.of-requires
of-requires c =
    let n = net (lent_texts c.args.names.now) c.args.trans.now c.args.tokens.now c.args.arcs.now in
    subst IsNet (sym (same_net _ n c.in_ok-make_signals.ensures c.in_ok-make_trans.ensures c.in_ok-from_slice.ensures c.in_ok-make_arcs.ensures))
    (net-IsNet (lent_texts c.args.names.now) c.args.trans.now c.args.tokens.now c.args.arcs.now c.requires.labels c.requires.arcs)

pub returns : goal.returns
returns c =
    let n = net (lent_texts c.args.names.now) c.args.trans.now c.args.tokens.now c.args.arcs.now in
    c.of.ensures ∙ same_net _ n c.in_ok-make_signals.ensures c.in_ok-make_trans.ensures c.in_ok-from_slice.ensures c.in_ok-make_arcs.ensures
