use Rattle.std.proofs.Common.{◌≡◌, ◌+◌, ◌<◌, false, length, get_or, drop, slice_index, All, ap, sym, subst, ◌∙◌, arith}
use Rattle.std.proofs.lemmas.List.{at_drop_more}
use Rattle.stg_net.specs.declared.arc.NetArc.{NetArc}
use Rattle.stg_net.specs.Net.{IsArcOf}
use Rattle.stg_net.specs.Ordered.{least_giver}
use Rattle.stg_net.proofs.Givers.{length-givers_after, givers_more}
use Rattle.stg_net.proofs.order.find_givers.Goals as goal

pub loop-arc-preserved : goal.loop-arc-preserved
loop-arc-preserved c =
    let items = c.arcs-arc-items.result.now in
    let keys = c.loop-arc.keys in
    let i = c.loop-arc.arc-index in
    let none : NetArc = record { place = 0; trans = 0; into = false; weight = 0 } in
    let a = get_or items i none in
    let net = c.arcs-arc-items.ensures.net in
    let sound = subst (All (IsArcOf (length c.args.net.now.tokens) (length c.args.net.now.trans))) (sym c.arcs-arc-items.ensures.arcs) net.arcs in
    let there : a.place < length keys = omega (arith, (sound i none c.loop-arc-test.true).place_there, c.loop-arc.invariant.long) in
    let long : length c.lower.new.keys ≡ length keys = ap length c.lower.ensures ∙ length-givers_after a keys in
    record {
      long = long ∙ c.loop-arc.invariant.long;
      least =
          λ p below.
          ap (λ ks. least_giver (slice_index ks p) p (drop (i + 1) items)) c.lower.ensures
          ∙ givers_more a keys (drop (i + 1) items) p there
          ∙ sym (at_drop_more (least_giver (slice_index keys p) p) items i none c.loop-arc-test.true)
          ∙ c.loop-arc.invariant.least p (omega (arith, below, long));
    }
