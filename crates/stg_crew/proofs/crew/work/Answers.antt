use Rattle.std.proofs.Common.{rules, ◌≡◌, ◌+◌, List, Option, None, length, replicate, ap, ◌∙◌, subst, arith}
use Rattle.std.proofs.lemmas.List.{length-replicate}
use Rattle.stg_net.specs.declared.limits.TheConstants.Limits.{PART}
use Rattle.stg_net.specs.Initial.{graph_of}
use Rattle.stg_net.specs.Names.{IsWellNamed}
use Rattle.stg_net.specs.Net.{IsNet, IsWithin}
use Rattle.stg_laws.specs.Faithful.{IsFaithful}
use Rattle.stg_laws.specs.Stgs.{stg_of}
use Rattle.stg_derive.specs.declared.part.Part.{Part}
use Rattle.stg_derive.specs.Loggable.{IsLoggable}
use Rattle.stg_crew.specs.Seats.{view_of}
use Rattle.stg_crew.specs.inner.Crew.{AreTakenIn}
use Rattle.stg_crew.proofs.Gathering.{draws_are, all_full, taken_right}
use Rattle.stg_crew.proofs.Placing.{AreRight, all_out, derived_out, worn_out, placed-length}
use Rattle.stg_crew.proofs.crew.work.Goals as goal

pub take_parts-requires : goal.take_parts-requires
take_parts-requires g c =
    let crew = c.send_all.new.workers.items in
    let many : length crew ≡ c.args.workers = search rules in
    all_full crew c.in_ok-slots.slots.items c.join_all.new.slots.items (length crew) c.close_claims-draws.result.count (view_of c.join_all.new.seat)
    c.in_ok-join_all.ensures.taken_in (omega (arith, many, c.requires.workers.0)) c.close_claims-draws.ensures

-- the slots began empty
taken : (g : _) (c : goal.In_ok-parts g) → AreTakenIn c.send_all.new.workers.items (replicate (length c.args.groups.now) None) c.join_all.new.slots.items (length c.send_all.new.workers.items) (view_of c.join_all.new.seat)
taken g c = subst (λ (s : List (Option Part)). AreTakenIn c.send_all.new.workers.items s c.join_all.new.slots.items (length c.send_all.new.workers.items) (view_of c.join_all.new.seat)) c.in_ok-slots.ensures c.in_ok-join_all.ensures.taken_in

right : (g : _) (c : goal.In_ok-parts g) → AreRight c.args.spec.now.net c.args.groups.now c.join_all.new.slots.items
right g c = taken_right c.send_all.new.workers.items c.join_all.new.slots.items (length c.send_all.new.workers.items) (view_of c.join_all.new.seat) c.args.spec.now.net c.args.groups.now (taken g c) c.send_all.ensures.parts

-- there are as many slots as groups
as_many : (g : _) (c : goal.In_ok-parts g) → length c.join_all.new.slots.items ≡ length c.args.groups.now
as_many g c =
    let t = taken g c in
    ap (λ (s : List (Option Part)). length s) t.slots_are ∙ placed-length (replicate (length c.args.groups.now) None) t.all ∙ length-replicate (length c.args.groups.now) None

pub returns-clause-parts : goal.returns-clause-parts
returns-clause-parts g c = derived_out c.args.spec.now.net c.args.groups.now c.join_all.new.slots.items c.in_ok-parts.parts c.in_ok-parts.ensures (right g c) (as_many g c)

pub returns-clause-worn : goal.returns-clause-worn
returns-clause-worn g c = worn_out c.args.spec.now.net c.args.groups.now c.join_all.new.slots.items c.in_ok-parts.parts c.in_ok-parts.ensures (right g c) (as_many g c)

pub returns-clause-nets : goal.returns-clause-nets
returns-clause-nets g c = all_out c.args.spec.now.net c.args.groups.now c.join_all.new.slots.items c.in_ok-parts.parts c.in_ok-parts.ensures (right g c) (λ (part : Part). IsNet part.net) (λ group part p. p.net)

pub returns-clause-within : goal.returns-clause-within
returns-clause-within g c = all_out c.args.spec.now.net c.args.groups.now c.join_all.new.slots.items c.in_ok-parts.parts c.in_ok-parts.ensures (right g c) (λ (part : Part). IsWithin PART part.net) (λ group part p. p.within)

pub returns-clause-named : goal.returns-clause-named
returns-clause-named g c = all_out c.args.spec.now.net c.args.groups.now c.join_all.new.slots.items c.in_ok-parts.parts c.in_ok-parts.ensures (right g c) (λ (part : Part). IsWellNamed part.net) (λ group part p. p.named)

pub returns-clause-faithful : goal.returns-clause-faithful
returns-clause-faithful g c = all_out c.args.spec.now.net c.args.groups.now c.join_all.new.slots.items c.in_ok-parts.parts c.in_ok-parts.ensures (right g c) (λ (part : Part). IsFaithful (graph_of c.args.spec.now.net) (stg_of part.net)) (λ group part p. p.faithful)

pub returns-clause-loggable : goal.returns-clause-loggable
returns-clause-loggable g c = all_out c.args.spec.now.net c.args.groups.now c.join_all.new.slots.items c.in_ok-parts.parts c.in_ok-parts.ensures (right g c) (IsLoggable c.args.spec.now.net) (λ group part p. p.loggable)

pub returns-clause-draws : goal.returns-clause-draws
returns-clause-draws g c =
    let crew = c.send_all.new.workers.items in
    let many : length crew ≡ c.args.workers = search rules in
    let empty = replicate (length c.args.groups.now) None in
    draws_are crew empty c.join_all.new.slots.items (length crew) c.close_claims-draws.result.count (view_of c.join_all.new.seat)
    (taken g c) (omega (arith, many, c.requires.workers.0)) c.close_claims-draws.ensures
    ∙ ap (λ n. n + length crew) (length-replicate (length c.args.groups.now) None) ∙ ap (λ n. length c.args.groups.now + n) many
