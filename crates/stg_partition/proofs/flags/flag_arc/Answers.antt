use Rattle.std.proofs.Common.{◌∙◌, ◌+◌, ◌*◌, ◌<◌, ◌&&◌, ◌||◌, ◌==◌, ℕ, true, false, Option, None, length, get_or, ap, sym, arith}
use Rattle.std.proofs.Math.ListN.{set}
use Rattle.stg_partition.specs.inner.Joining.{is_led}
use Rattle.stg_partition.proofs.FlagLemmas.{flag_set}
use Rattle.stg_partition.proofs.flags.flag_arc.Goals as goal

pub returns-in-Some : goal.returns-in-Some
returns-in-Some c l s inside =
    let leaders = c.args.leaders.now in
    let flags = c.args.flags.now in
    let size = length leaders in
    let leader = get_or leaders c.in-Some.taker 0 in
    let signal = c.signal_of.result in
    let signal_there : signal < size = omega (arith, c.signal_of.ensures.within, c.requires.signals) in
    let flag_there : leader * size + signal < length flags = omega (arith, c.flag_index-at.ensures.at, c.flag_index-at.ensures.within, c.requires.flags) in
    let old = get_or flags (l * size + s) false in
    ap (λ at. get_or (set flags at true) (l * size + s) false) c.flag_index-at.ensures.at
    ∙ flag_set flags size l leader s signal inside signal_there flag_there
    ∙ ap (λ (o : Option ℕ). old || (is_led leaders l o && (signal == s))) (sym c.in-Some.is)
    ∙ ap (λ k. old || (is_led leaders l (get_or c.args.takers.now c.args.arc.place None) && (k == s))) c.signal_of.ensures.value
