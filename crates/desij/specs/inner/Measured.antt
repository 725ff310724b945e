-- The line of a measurement.
use Rattle.std.specs.Prelude.{◌≡◌, ℕ, List, None}
use Rattle.stg_net.specs.Spec.{SpecLists}
use Rattle.stg_derive.specs.declared.part.Part.{Part}
use Rattle.io_shelf.specs.Pipeline.{pipeline_text}
use Rattle.desij.specs.Answering.{HasAnswer}
use Rattle.desij.specs.Printing.{measure_line}

-- the line sums up the parts of the pipeline
pub record IsMeasured (count : ℕ) (line : List ℕ) : Type 0 where
  pub spec : SpecLists
  pub parts : List Part
  pub answer : HasAnswer (pipeline_text count) None spec parts
  pub told : line ≡ measure_line count parts
