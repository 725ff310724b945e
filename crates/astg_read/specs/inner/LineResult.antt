-- What a call that takes a line returns.
use Rattle.std.specs.Prelude.{◌≡◌, ℕ, ◌≤◌, Bool, false, [], ◌∷◌, length, drop, codes, Option, None, Some, Result, Ok, Err, if◌then◌else◌, ◌⊎◌, true, MatchOption, ⊤}
use Rattle.stg_net.specs.declared.limits.Limits.{Limits}
use Rattle.stg_net.specs.declared.signal.Kind.{Kind}
use Rattle.stg_net.specs.declared.signal.Kind.TheVariants.{Input, Output, Internal}
use Rattle.astg_read.specs.declared.rule.Rule.{Rule}
use Rattle.astg_read.specs.declared.rule.Rule.TheVariants.{BadMarking, TooMany}
use Rattle.astg_read.specs.declared.line_error.LineError.{LineError}
use Rattle.astg_read.specs.declared.line_error.LineError.TheVariants.{Broken, NoMemory}
use Rattle.astg_read.specs.declared.rule.ReadError.{ReadError}
use Rattle.astg_read.specs.declared.rule.ReadError.TheVariants as errors
use Rattle.astg_read.specs.Reading.{Meaning, Fault}
use Rattle.astg_read.specs.declared.kinds.LineKind.{LineKind}
use Rattle.astg_read.specs.declared.kinds.LineKind.TheVariants as kinds
use Rattle.astg_read.specs.declared.reader.Reader.{Reader}
use Rattle.astg_read.specs.Rows.{Word, Row, begins_with_dot}
use Rattle.astg_read.specs.inner.NoDummies.{without_dummies}
use Rattle.astg_read.specs.Said.{Said}
use Rattle.astg_read.specs.Markings.{before_close, is_bad_marking}
use Rattle.astg_read.specs.Rules.{line_rules, first_broken, rules, breaks_directive, ends_text, has_too_many}
use Rattle.astg_read.specs.inner.MarkingCheck.{IsSettled}
use Rattle.astg_read.specs.inner.WellFormed.{IsWellFormed}
use Rattle.astg_read.specs.inner.Growth.{after_row}

-- what the lines so far say, as the reader keeps it
abbrev pub said_of : Reader → Said
said_of r = record {
  has_graph = r.has_graph;
  declared = without_dummies r.signals;
  trans = r.graph.trans;
  places = r.graph.places;
  text_arcs = r.graph.text_arcs;
  marking = r.marking;
}

-- before the first line
abbrev pub nothing : Said
nothing =
    record {
      has_graph = false;
      declared = without_dummies [];
      trans = [];
      places = [];
      text_arcs = [];
      marking = None;
    }

-- the first rule that a line outside a marking breaks by what it says
abbrev pub line_fault : ℕ → Said → Row → Option Rule
line_fault most k row = first_broken (line_rules most k row)

-- what is said up to this line; the last line adds nothing
abbrev pub said_up_to : Said → Row → Said
said_up_to k row = if ends_text k row then k else after_row k row

-- A line outside a marking is taken by what it says, or refused with the first rule
-- that it breaks, unless memory ran out.
abbrev pub Says : ℕ → Said → Row → Result (Unit {0}) LineError → Said → Type 0
Says most k row (Ok _) new = (line_fault most k row ≡ None) × (new ≡ said_up_to k row)
Says most k row (Err (Broken rule)) new = line_fault most k row ≡ Some rule
Says most k row (Err NoMemory) new = Unit {0}

-- what comes of the line of a text without dummies: the rule that it breaks first, or none
abbrev pub verdict : Limits → Said → Row → Option Rule
verdict limits k row =
    first_broken (rules false limits k (after_row k row) (record { is_bad = false; words = row }))

-- A line is taken, or refused with the first rule that it breaks, unless memory ran out.
abbrev pub Takes : Limits → Said → Row → Result (Unit {0}) LineError → Said → Type 0
Takes limits k row (Ok _) new = (verdict limits k row ≡ None) × (new ≡ said_up_to k row)
Takes limits k row (Err (Broken rule)) new = verdict limits k row ≡ Some rule
Takes limits k row (Err NoMemory) new = Unit {0}

-- the word that declares signals of a kind
abbrev pub directive : Kind → Word
directive Input = codes ".inputs"
directive Output = codes ".outputs"
directive Internal = codes ".internal"

-- the line that begins with this word is of this kind
abbrev pub IsKind : Word → LineKind → Type 0
IsKind w kinds.Title = (w ≡ codes ".model") ⊎ (w ≡ codes ".name")
IsKind w (kinds.Names kind) = w ≡ directive kind
IsKind w kinds.Dummies = w ≡ codes ".dummy"
IsKind w kinds.Graph = w ≡ codes ".graph"
IsKind w kinds.Marking = w ≡ codes ".marking"
IsKind w kinds.End = w ≡ codes ".end"
IsKind w kinds.Unknown = (ws : Row) → breaks_directive (w ∷ ws) ≡ true
IsKind w kinds.Nodes = begins_with_dot w ≡ false

-- what comes of a line whose words break no rule, where there are too many of a kind or not
abbrev pub with_count : Bool → Result (Unit {0}) LineError → Result (Unit {0}) LineError
with_count too_many (Ok done) = if too_many then Err (Broken TooMany) else Ok done
with_count too_many (Err e) = Err e

-- where the marking has begun the graph has, and the words so far are good
abbrev pub IsGood : ℕ → Said → Type 0
IsGood most k =
    MatchOption k.marking ⊤
    (λ words. (k.has_graph ≡ true) × (is_bad_marking most k.declared k.places words ≡ false))

-- the counts are within the limits, the marking is good, and the lists are well formed
pub record IsFaultless (limits : Limits) (k : Said) : Type 0 where
  pub few : length k.declared.signals ≤ limits.signals
  pub counts : has_too_many limits k ≡ false
  pub good : IsGood limits.weight k
  pub well_formed : IsWellFormed limits.weight k

-- where the marking has begun, what the reader settled of it is
abbrev pub IsSettledIn : ℕ → Reader → Type 0
IsSettledIn most r =
    MatchOption r.marking ⊤
    (λ words. IsSettled most (without_dummies r.signals) r.graph.places r.settled
    (before_close (drop 1 words)))

-- The text stands for this, or has this fault, unless memory ran out.
abbrev pub Gives : Meaning → Result (Unit {0}) ReadError → Result Meaning Fault → Type 0
Gives m (Ok _) read = read ≡ Ok m
Gives m (Err (errors.Refused rule line)) read = read ≡ Err (record { rule = rule; line = line })
Gives m (Err errors.NoMemory) read = Unit {0}

-- Words are added to a marking, or refused where it is wrong with them, unless memory ran out.
abbrev pub ExtendsMarking : Bool → Row → Result (Unit {0}) LineError → Row → Type 0
ExtendsMarking is_bad words (Ok _) new = (is_bad ≡ false) × (new ≡ words)
ExtendsMarking is_bad words (Err (Broken rule)) new = (is_bad ≡ true) × (rule ≡ BadMarking)
ExtendsMarking is_bad words (Err NoMemory) new = Unit {0}
