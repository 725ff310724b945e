use Rattle.std.proofs.Common.{◌≡◌, rules, sym, subst}
use Rattle.stg_net.specs.Net.{IsWithin}
use Rattle.stg_net.specs.Names.{IsWellNamed}
use Rattle.stg_net.specs.Component.{component}
use Rattle.stg_net.proofs.ComponentSignals.{component-IsNet, component-within, component-named}
use Rattle.stg_net.proofs.net.Net.component.Goals as goal

pub of-requires : goal.of-requires
of-requires c =
    rw (c.in_ok-component_signals.ensures, c.in_ok-from_slice.ensures, c.in_ok-from_slice-2.ensures, c.in_ok-from_slice-3.ensures, c.signals.ensures.signals, c.trans.ensures.trans, c.tokens.ensures.tokens, c.arcs.ensures.arcs)
    (component-IsNet c.args.own.now c.args.shared.now c.args.self.now c.signals.ensures.net)

pub returns-clause-within : goal.returns-clause-within
returns-clause-within c =
    let same : c.of.result ≡ component c.args.own.now c.args.shared.now c.args.self.now = search rules in
    λ l within. subst (IsWithin l) (sym same) (component-within c.args.own.now c.args.shared.now c.args.self.now l within)

pub returns-clause-named : goal.returns-clause-named
returns-clause-named c =
    let same : c.of.result ≡ component c.args.own.now c.args.shared.now c.args.self.now = search rules in
    λ named. subst IsWellNamed (sym same) (component-named c.args.own.now c.args.shared.now c.args.self.now named)
