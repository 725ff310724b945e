-- The words and the answer of worked texts, computed.
use Rattle.std.proofs.Common.{◌≡◌, ℕ, List, [], ◌∷◌, ◌++◌, Option, None, Some, Result, Ok, Err, false, refl, codes, map}
use Rattle.std.specs.Fmt.{digits}
use Rattle.std.specs.Option.{option_map}
use Rattle.astg_write.specs.ComponentText.{component_text}
use Rattle.stg_net.specs.declared.limits.TheConstants.Limits.{SPEC}
use Rattle.astg_read.specs.declared.rule.Rule.TheVariants.{NoGraph}
use Rattle.astg_read.specs.Reading.{Meaning, Fault, reading}
use Rattle.stg_partition.specs.declared.error.GroupError.TheVariants as group_error
use Rattle.stg_partition.specs.ErrorNumbers.{group_error_number}
use Rattle.stg_partition.specs.PartitionText.{most_bytes}
use Rattle.stg_derive.specs.declared.part.Part.{Part}
use Rattle.stg_crew.specs.Parts.{no_part}
use Rattle.stg_decomp.specs.Settled.{settled}
use Rattle.stg_decomp.specs.Parts.{nets_of}
use Rattle.desij.specs.Files.{part_name, net_bytes}
use Rattle.desij.specs.Printing.{printed, count_text, signal_counts, net_sizes, part_line}

abbrev c_element : List ℕ
c_element = codes ".model c\n"
    ++ codes ".inputs a b\n"
    ++ codes ".outputs c\n"
    ++ codes ".graph\n"
    ++ codes "a+ c+\n"
    ++ codes "b+ c+\n"
    ++ codes "c+ a- b-\n"
    ++ codes "a- c-\n"
    ++ codes "b- c-\n"
    ++ codes "c- a+ b+\n"
    ++ codes ".marking { <c-,a+> <c-,b+> }\n"
    ++ codes ".end\n"

-- its one part, where nothing is hidden
abbrev parts_in : Result Meaning Fault → Option (List Part)
parts_in (Ok m) = Some (record no_part { net = settled [] m.lists; own = 2 ∷ []; known = 0 ∷ 1 ∷ 2 ∷ [] } ∷ [])
parts_in (Err f) = None

-- what is printed for the C-element
c_element-printed : option_map printed (parts_in (reading false SPEC c_element)) ≡ Some (codes "part 1 own 1 inputs 2 transitions 6 places 8 restored 0\n" ++ codes "done 1\n")
unfolding digits count_text signal_counts net_sizes part_line
c_element-printed = refl

-- the one file of the C-element
c_element-file : option_map (λ parts. net_bytes (nets_of parts) 0) (parts_in (reading false SPEC c_element)) ≡ Some (
    codes ".model part1\n"
    ++ codes ".inputs a b\n"
    ++ codes ".outputs c\n"
    ++ codes ".graph\n"
    ++ codes "a+ p1\n"
    ++ codes "c+ p2 p3\n"
    ++ codes "b+ p4\n"
    ++ codes "a- p5\n"
    ++ codes "b- p6\n"
    ++ codes "c- p7 p8\n"
    ++ codes "p1 c+\n"
    ++ codes "p2 a-\n"
    ++ codes "p3 b-\n"
    ++ codes "p4 c+\n"
    ++ codes "p5 c-\n"
    ++ codes "p6 c-\n"
    ++ codes "p7 a+\n"
    ++ codes "p8 b+\n"
    ++ codes ".marking { p7 p8 }\n"
    ++ codes ".end\n")
unfolding digits component_text
c_element-file = refl

-- files are numbered from 1
first_name : part_name 0 ≡ codes "part1.g"
unfolding digits
first_name = refl

-- no bytes stand for no specification
no_lines : reading false SPEC [] ≡ Err (record { rule = NoGraph; line = 1 })
no_lines = refl

-- the errors of a partition are numbered
group_errors : map group_error_number (group_error.BadLine 0 ∷ group_error.UnknownOutput 0 ∷ group_error.OutputTwice 0 ∷ group_error.OutputMissing 0 ∷ group_error.SplitConflict 0 0 0 ∷ group_error.NoMemory ∷ []) ≡ 1 ∷ 2 ∷ 3 ∷ 4 ∷ 5 ∷ 6 ∷ []
group_errors = refl

-- a partition has at most as many bytes as a specification
partition_bytes : most_bytes ≡ 1048576
partition_bytes = refl
