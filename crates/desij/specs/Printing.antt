-- What a run prints.
use Rattle.std.specs.Prelude.{◌≡◌, ℕ, ◌+◌, ◌-◌, List, [], ◌∷◌, ◌++◌, length, take, Option, codes, decimal}
use Rattle.std.specs.Io.KnownBytes.{append_known}
use Rattle.std.specs.List.{sum_by}
use Rattle.stg_net.specs.Net.{NetLists, signal_at}
use Rattle.stg_net.specs.PlaceWords.{place_word}
use Rattle.stg_net.specs.Spec.{SpecLists}
use Rattle.stg_net.specs.Words.{trans_word}
use Rattle.stg_conflict.specs.declared.clash.Clash.{Clash}
use Rattle.stg_partition.specs.declared.error.GroupError.{GroupError}
use Rattle.stg_partition.specs.declared.error.GroupError.TheVariants as group_error
use Rattle.stg_derive.specs.declared.part.Part.{Part}
use Rattle.astg_read.specs.declared.rule.Rule.{Rule}
use Rattle.astg_read.specs.Refusals.{rule_text}

-- a word and a number
unfoldable pub count_text : List ℕ → ℕ → List ℕ
count_text word n = word ++ decimal n

-- how many signals are a part's own, and how many others it knows
unfoldable pub signal_counts : Part → List ℕ
signal_counts p =
    count_text (codes " own ") (length p.own)
    ++ count_text (codes " inputs ") (length p.known - length p.own)

-- how many transitions and places a net has
unfoldable pub net_sizes : NetLists → List ℕ
net_sizes n =
    count_text (codes " transitions ") (length n.trans)
    ++ count_text (codes " places ") (length n.tokens)

-- the line of a part of that number
unfoldable pub part_line : ℕ → Part → List ℕ
part_line number p =
    count_text (codes "part ") number
    ++ signal_counts p
    ++ net_sizes p.net
    ++ count_text (codes " restored ") (length p.restored)
    ++ 10 ∷ []

-- the lines of the parts, of which the first has that number
abbrev pub part_lines : ℕ → List Part → List ℕ
part_lines number [] = []
part_lines number (p ∷ parts) = part_line number p ++ part_lines (number + 1) parts

-- a line for each part, and their number
abbrev pub printed : List Part → List ℕ
printed parts = part_lines 1 parts ++ count_text (codes "done ") (length parts) ++ 10 ∷ []

-- the line that tells the rule that a text breaks, and where
abbrev pub refusal : Rule → ℕ → List ℕ
refusal rule line =
    codes "refused " ++ rule_text rule ++ count_text (codes " line ") line ++ 10 ∷ []

-- the line that tells a clash: both transitions and the place
abbrev pub clash_line : SpecLists → Clash → List ℕ
clash_line s c =
    codes "refused Clash "
    ++ trans_word s.net.signals s.net.trans c.t1
    ++ 32 ∷ trans_word s.net.signals s.net.trans c.t2
    ++ 32 ∷ place_word s c.place
    ++ 10 ∷ []

-- the line that tells a rule that a line of a partition breaks
abbrev pub group_line : List ℕ → ℕ → List ℕ
group_line rule line =
    codes "refused partition " ++ rule ++ count_text (codes " line ") line ++ 10 ∷ []

-- the name of the signal of that number
abbrev pub signal_word : SpecLists → ℕ → List ℕ
signal_word spec s = (signal_at spec.net.signals s).name

-- the line that tells why a partition is refused; want of memory has none
abbrev pub group_refusal : SpecLists → GroupError → List ℕ
group_refusal spec (group_error.BadLine line) = group_line (codes "BadLine") line
group_refusal spec (group_error.UnknownOutput line) = group_line (codes "UnknownOutput") line
group_refusal spec (group_error.OutputTwice line) = group_line (codes "OutputTwice") line
group_refusal spec (group_error.OutputMissing s) =
    codes "refused partition OutputMissing " ++ signal_word spec s ++ 10 ∷ []
group_refusal spec (group_error.SplitConflict x y place) =
    codes "refused partition SplitConflict "
    ++ signal_word spec x
    ++ 32 ∷ signal_word spec y
    ++ 32 ∷ place_word spec place
    ++ 10 ∷ []
group_refusal spec group_error.NoMemory = []

-- how many transitions the parts have together
abbrev pub all_trans : List Part → ℕ
all_trans parts = sum_by (λ (p : Part). length p.net.trans) parts

-- how many places
abbrev pub all_places : List Part → ℕ
all_places parts = sum_by (λ (p : Part). length p.net.tokens) parts

-- how many restored signals
abbrev pub all_restored : List Part → ℕ
all_restored parts = sum_by (λ (p : Part). length p.restored) parts

-- the line that tells what the parts of a pipeline sum to
unfoldable pub measure_line : ℕ → List Part → List ℕ
measure_line n parts =
    count_text (codes "measure ") n
    ++ count_text (codes " parts ") (length parts)
    ++ count_text (codes " transitions ") (all_trans parts)
    ++ count_text (codes " places ") (all_places parts)
    ++ count_text (codes " restored ") (all_restored parts)
    ++ 10 ∷ []

-- a prefix of these bytes was appended
abbrev pub IsPrefixPrinted : List ℕ → Option (List ℕ) → Option (List ℕ) → Type 0
IsPrefixPrinted bytes old new = (k : ℕ) × (new ≡ append_known old (take k bytes))
