use Rattle.std.proofs.Common.{sym, subst}
use Rattle.stg_crew.specs.Parts.{no_part}
use Rattle.stg_derive.specs.Loggable.{IsLoggable}
use Rattle.desij.proofs.putting.put_log.Goals as goal

pub write_steps-requires : goal.write_steps-requires
write_steps-requires g c = subst (IsLoggable c.args.made.now.spec.net) (sym c.part_of.ensures) (c.requires.loggable c.args.k no_part c.requires.there)
