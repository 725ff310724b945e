use Rattle.stg_derive.proofs.StillWatching.{watching_places, watching_redundant}
use Rattle.stg_derive.proofs.choice.next_step.Goals as goal

pub returns-in-Some-clause-watching : goal.returns-in-Some-clause-watching
returns-in-Some-clause-watching c = watching_places c.args.editor.now.now c.args.watches.now c.next_levelled.new.self c.requires.watching c.next_levelled.ensures.kept

pub next_contraction-requires-clause-watching : goal.next_contraction-requires-clause-watching
next_contraction-requires-clause-watching c =
    let g = c.args.editor.now.now in
    let w = c.args.watches.now in
    let new = c.next_levelled.new.self in
    watching_redundant g (record w { places = new }) c.next.new.self (watching_places g w new c.requires.watching c.next_levelled.ensures.kept) c.next.ensures.kept

pub returns-in-Some-next-clause-watching : goal.returns-in-Some-next-clause-watching
returns-in-Some-next-clause-watching c =
    let g = c.args.editor.now.now in
    let w = c.args.watches.now in
    let new = c.next_levelled.new.self in
    watching_redundant g (record w { places = new }) c.next.new.self (watching_places g w new c.requires.watching c.next_levelled.ensures.kept) c.next.ensures.kept
