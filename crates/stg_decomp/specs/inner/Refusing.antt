-- How the answer to a specification tells why its groups weren't found.
use Rattle.stg_partition.specs.declared.error.GroupError.{GroupError}
use Rattle.stg_partition.specs.declared.error.GroupError.TheVariants as errors
use Rattle.stg_decomp.specs.declared.error.DecompError.{DecompError}
use Rattle.stg_decomp.specs.declared.error.DecompError.TheVariants as decomp_error

-- the refusal of the groups, or that memory ran out
abbrev pub refused_groups : GroupError → DecompError
refused_groups errors.NoMemory = decomp_error.NoMemory
refused_groups e = decomp_error.Groups e
