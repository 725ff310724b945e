-- What the answer tells where the groups weren't found.
use Rattle.std.proofs.Common.{◌≡◌, None, Err, refl}
use Rattle.stg_partition.specs.declared.error.GroupError.{GroupError}
use Rattle.stg_partition.specs.declared.error.GroupError.TheVariants as errors
use Rattle.stg_decomp.specs.Telling.{clash_told}
use Rattle.stg_decomp.specs.inner.Refusing.{refused_groups}

-- no clash
pub tells_no_clash : (e : GroupError) → clash_told (Err (refused_groups e)) ≡ None
tells_no_clash (errors.BadLine line) = refl
tells_no_clash (errors.UnknownOutput line) = refl
tells_no_clash (errors.OutputTwice line) = refl
tells_no_clash (errors.OutputMissing s) = refl
tells_no_clash (errors.SplitConflict x y place) = refl
tells_no_clash errors.NoMemory = refl
