-- The targets of a graph line, and their weight groups.
use Rattle.std.specs.Prelude.{ℕ, zero, suc, Bool, false, ◌&&◌, ◌||◌, nat_eq, nat_le, List, [], ◌∷◌, length, take, filter_map, bytes_eq, codes, Option, None, Some, is_some, if◌then◌else◌}
use Rattle.astg_read.specs.Rows.{Word, Row}
use Rattle.astg_lex.specs.Numbers.{number}

-- A target with the weight group directly after it, which is empty where there is none. A group
-- that stands after no target is alone.
pub record Target : Type 0 where
  pub word : Option Word
  pub group : Row

-- the word is (
abbrev pub opens_group : Word → Bool
opens_group = bytes_eq (codes "(")

-- the word is )
abbrev pub closes_group : Word → Bool
closes_group = bytes_eq (codes ")")

-- a word ( and up to two words after it
abbrev pub group_at : Row → Row
group_at [] = []
group_at (w ∷ ws) = if opens_group w then take 3 (w ∷ ws) else []

-- the target that begins here
abbrev pub target_at : Word → Row → Target
target_at w ws =
    if opens_group w then record { word = None; group = take 3 (w ∷ ws) }
    else record { word = Some w; group = group_at ws }

-- how many words after the first belong to a target
abbrev pub group_words : Word → Row → ℕ
group_words w ws = if opens_group w then 2 else length (group_at ws)

-- the targets of these words, of which the first ones still belong to a group
abbrev pub targets_after : ℕ → Row → List Target
targets_after skipped [] = []
targets_after zero (w ∷ ws) = target_at w ws ∷ targets_after (group_words w ws) ws
targets_after (suc n) (w ∷ ws) = targets_after n ws

-- the targets of a graph line
abbrev pub targets_of : Row → List Target
targets_of [] = []
targets_of (source ∷ ws) = targets_after zero ws

-- the words of these targets
abbrev pub words_in : List Target → Row
words_in targets = filter_map (λ (t : Target). t.word) targets

-- the source and the targets
abbrev pub node_words : Row → Row
node_words [] = []
node_words (source ∷ ws) = source ∷ words_in (targets_after zero ws)

-- the number in a weight group, where it is (, a number and )
abbrev pub group_weight : Row → Option ℕ
group_weight (o ∷ n ∷ c ∷ []) = if opens_group o && closes_group c then number n else None
group_weight ws = None

-- a weight from 1 to the limit
abbrev pub is_weight : ℕ → Option ℕ → Bool
is_weight most None = false
is_weight most (Some n) = nat_le 1 n && nat_le n most

-- there is no group, or it stands after a target and holds a weight
abbrev pub is_good_group : ℕ → Target → Bool
is_good_group most t =
    nat_eq (length t.group) 0 || (is_some t.word && is_weight most (group_weight t.group))
