-- The target or the entry in front, and how many words stand before the end.
use Rattle.std.specs.Prelude.{[], ◌∷◌, ℕ, suc, if◌then◌else◌, None, length, take}
use Rattle.std.specs.List.{position_or_len}
use Rattle.astg_read.specs.Rows.{Row}
use Rattle.astg_read.specs.Markings.{Entry, entry_at, is_closing}
use Rattle.astg_read.specs.Targets.{Target, target_at, opens_group, group_at}

-- the entry in front
abbrev pub front_entry : Row → Entry
front_entry [] = record { place = []; tokens = [] }
front_entry (w ∷ ws) = entry_at w ws

-- how many words stand before the first }
abbrev pub close_length : Row → ℕ
close_length words = position_or_len is_closing words

-- the target in front
abbrev pub front_target : Row → Target
front_target [] = record { word = None; group = [] }
front_target (w ∷ ws) = target_at w ws

-- how many words the target in front takes
abbrev pub target_words : Row → ℕ
target_words [] = 0
target_words (w ∷ ws) =
    if opens_group w then length (take 3 (w ∷ ws)) else suc (length (group_at ws))
