use Rattle.std.proofs.Common.{◌+◌, ap, subst, ◌∙◌, get_or, arith}
use Rattle.std.proofs.lemmas.Bool.{false≢true}
use Rattle.stg_redundant.specs.inner.Chains.{IsSearch}
use Rattle.stg_redundant.proofs.LinkPaths.{link_is, giver_live}
use Rattle.stg_redundant.proofs.Searching.{none_found}
use Rattle.stg_redundant.proofs.search.has_chain.Goals as goal

pub start-requires : goal.start-requires
start-requires c =
    let s = c.args.sought in
    record { from = omega (arith, (link_is c.args.editor.now.now s.place s c.requires.draft.narrow c.requires.sought).giver_below, c.requires.rooms) }

pub loop-rooms-init : goal.loop-rooms-init
loop-rooms-init c =
    let g = c.args.editor.now.now in
    let s = c.args.sought in
    c.in_ok-start.ensures.ok g s.place s.taker c.requires.rooms (giver_live g s.place s c.requires.draft.narrow c.requires.draft.weightless c.requires.sought)

pub bounds-rooms-sought : goal.bounds-rooms-sought
bounds-rooms-sought c =
    let s = c.args.sought in
    omega (arith, (link_is c.args.editor.now.now s.place s c.requires.draft.narrow c.requires.sought).taker_below, c.loop-rooms.invariant.long)

pub returns-then-not-branch-clause-value : goal.returns-then-not-branch-clause-value
returns-then-not-branch-clause-value c =
    let g = c.args.editor.now.now in
    let s = c.args.sought in
    let end = c.in_ok-advance.ensures.end c.if-not-branch.true in
    let search = subst (IsSearch g s.place s.giver s.taker (s.tokens + 1) c.advance.new.rooms) end.0 c.in_ok-advance.ensures.ok in
    (λ f. absurd (false≢true f), λ h. absurd (none_found g s.place s.giver s.taker s.tokens c.advance.new.rooms search (ap (λ xs. get_or xs s.taker 0) end.1 ∙ c.loop-rooms-test.true) h))

pub may_leave-requires-clause-to : goal.may_leave-requires-clause-to
may_leave-requires-clause-to c =
    let s = c.args.sought in
    (link_is c.args.editor.now.now s.place s c.requires.draft.narrow c.requires.sought).taker_below

pub may_leave-requires-clause-giver : goal.may_leave-requires-clause-giver
may_leave-requires-clause-giver c =
    let s = c.args.sought in
    giver_live c.args.editor.now.now s.place s c.requires.draft.narrow c.requires.draft.weightless c.requires.sought

pub advance-requires-clause-to : goal.advance-requires-clause-to
advance-requires-clause-to c =
    let s = c.args.sought in
    (link_is c.args.editor.now.now s.place s c.requires.draft.narrow c.requires.sought).taker_below
