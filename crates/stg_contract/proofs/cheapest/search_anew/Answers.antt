use Rattle.std.proofs.lemmas.Option.{IfSome_then}
use Rattle.stg_contract.proofs.WatchSteps.{forgotten_queue, forgotten_least, forgotten_watches, forgotten_drops}
use Rattle.stg_contract.proofs.cheapest.search_anew.Goals as goal

pub search-requires-clause-queued : goal.search-requires-clause-queued
search-requires-clause-queued c =
    forgotten_queue c.args.least.now c.forget_places.new.least c.forget_places.ensures.long c.forget_places.ensures.kept c.args.queue.now c.forget_entries.new.queue c.requires.queued c.forget_entries.ensures.waiting c.forget_entries.ensures.aside

pub search-requires-clause-least : goal.search-requires-clause-least
search-requires-clause-least c =
    forgotten_least c.args.least.now c.forget_places.new.least c.forget_places.ensures.long c.forget_places.ensures.kept c.args.editor.now.now

pub returns-clause-kept : goal.returns-clause-kept
returns-clause-kept c =
    forgotten_drops c.args.least.now c.forget_places.new.least c.forget_places.ensures.long c.forget_places.ensures.kept c.args.editor.now.now c.search.new.least c.search.ensures.kept

pub returns-clause-none : goal.returns-clause-none
returns-clause-none c e watches =
    c.search.ensures.none e (forgotten_watches c.args.least.now c.forget_places.new.least c.forget_places.ensures.long c.forget_places.ensures.kept c.args.editor.now.now watches)

pub returns-clause-some : goal.returns-clause-some
returns-clause-some c =
    IfSome_then c.search.result c.search.ensures.some
    (λ t cheapest watches. cheapest (forgotten_watches c.args.least.now c.forget_places.new.least c.forget_places.ensures.long c.forget_places.ensures.kept c.args.editor.now.now watches))
