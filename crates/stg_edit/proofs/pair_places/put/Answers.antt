use Rattle.std.proofs.Common.{◌≡◌, ◌-◌, cond, length, eqb, eq-eqb, refl, ap, ◌∙◌, arith}
use Rattle.std.proofs.lemmas.Bool.{cond_both}
use Rattle.stg_arena.specs.declared.end.End.TheVariants.{Place, Trans}
use Rattle.stg_arena.specs.declared.cell.Cell.{Cell}
use Rattle.stg_arena.specs.RingWalk.{cell_weight}
use Rattle.stg_arena.proofs.Appends.{appended_refl, appended_cell}
use Rattle.stg_edit.proofs.RowStep.{put_cell, put_none}
use Rattle.stg_arena.specs.declared.end.Way.{Way}
use Rattle.stg_arena.specs.declared.end.Way.TheVariants.{Take, Give}
use Rattle.stg_edit.proofs.pair_places.put.Goals as goal

pub returns-then-u-t-clause-put : goal.returns-then-u-t-clause-put
returns-then-u-t-clause-put c =
    let l = c.args.arena.now in
    let a : Cell = record { place = length l.places - 1; trans = c.args.u; take = c.args.take; give = c.args.give } in
    put_none l c.args.t (length l.places - 1) c.args.u (λ b. cell_weight b a) (λ b. ap (λ z. cond z 0 (cell_weight b a)) (eq-eqb c.args.u c.args.t c.if-u-t.true)) c.requires.after (omega (arith, c.requires.trans, c.requires.arena.laid.sizes Trans))

pub returns-then-u-t-clause-appended : goal.returns-then-u-t-clause-appended
returns-then-u-t-clause-appended c = appended_refl c.args.t (length c.args.arena.now.places - 1) c.args.arena.now

pub returns-then-give-eq0-clause-put : goal.returns-then-give-eq0-clause-put
returns-then-give-eq0-clause-put c =
    let l = c.args.arena.now in
    let a : Cell = record { place = length l.places - 1; trans = c.args.u; take = c.args.take; give = c.args.give } in
    let zero : (b : Way) → cell_weight b a ≡ 0 = λ b. elim b as (λ b. cell_weight b a ≡ 0) [ Take ↦ c.if-take-eq0.true | Give ↦ c.if-give-eq0.true ] in
    put_none l c.args.t (length l.places - 1) c.args.u (λ b. cell_weight b a) (λ b. ap (cond (eqb c.args.u c.args.t) 0) (zero b) ∙ cond_both (eqb c.args.u c.args.t) 0 0 (λ z. z ≡ 0) (λ e. refl) (λ e. refl)) c.requires.after (omega (arith, c.requires.trans, c.requires.arena.laid.sizes Trans))

pub returns-then-give-eq0-clause-appended : goal.returns-then-give-eq0-clause-appended
returns-then-give-eq0-clause-appended c = appended_refl c.args.t (length c.args.arena.now.places - 1) c.args.arena.now

pub returns-clause-put : goal.returns-clause-put
returns-clause-put c =
    let l = c.args.arena.now in
    let a : Cell = record { place = length l.places - 1; trans = c.args.u; take = c.args.take; give = c.args.give } in
    put_cell a l c.push_cell.new.self c.args.t (length l.places - 1) c.args.u c.push_cell.ensures.pushed c.requires.arena.laid c.push_cell.ensures.arena.laid c.requires.arena.timed refl refl c.if-u-t.false c.requires.after (omega (arith, c.requires.trans, c.requires.arena.laid.sizes Trans))

pub returns-clause-appended : goal.returns-clause-appended
returns-clause-appended c =
    let l = c.args.arena.now in
    let a : Cell = record { place = length l.places - 1; trans = c.args.u; take = c.args.take; give = c.args.give } in
    appended_cell c.args.t (length l.places - 1) a l c.push_cell.new.self c.requires.arena.timed c.push_cell.ensures.pushed (omega arith) (omega (arith, c.requires.arena.laid.sizes Place, c.requires.place)) c.if-u-t.false
