use Rattle.std.proofs.Common.{subst, sym}
use Rattle.stg_net.specs.declared.limits.TheConstants.Limits.{PART}
use Rattle.astg_write.specs.Writable.{IsWritable}
use Rattle.stg_crew.specs.Parts.{no_part}
use Rattle.stg_decomp.proofs.settle.settle.Goals as goal

pub returns-clause-writable : goal.returns-clause-writable
returns-clause-writable c =
    let w : IsWritable c.net_of-net.result.now = subst IsWritable (sym c.net_of-net.ensures) (c.requires.writable c.args.i no_part c.requires.there) in
    record {
      within = c.in_ok-settled.ensures.within PART (c.in_ok-component.ensures.within PART w.within);
      named = c.in_ok-settled.ensures.named (c.in_ok-component.ensures.named w.named);
    }
