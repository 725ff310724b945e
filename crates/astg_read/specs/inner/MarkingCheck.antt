-- The entries in front of a marking's words that more words don't change.
use Rattle.std.specs.Prelude.{◌≡◌, ◌≤◌, ◌++◌, ℕ, zero, Bool, List, [], length, drop, map}
use Rattle.astg_read.specs.declared.marking_check.MarkingCheck.{MarkingCheck}
use Rattle.astg_read.specs.Rows.{Row}
use Rattle.astg_read.specs.Header.{Declared}
use Rattle.astg_read.specs.Graphs.{PlaceAt}
use Rattle.astg_read.specs.Markings.{entries_after, has_bad_entry}
use Rattle.astg_read.specs.inner.Views.{place_view}

-- With any words behind them, these words are as wrong as those after the settled ones, where
-- the settled entries' places are named.
pub record IsSettled (most : ℕ) (d : Declared) (places : List PlaceAt) (s : MarkingCheck)
    (words : Row) : Type 0 where
  pub within : s.words ≤ length words
  pub judged : (is_closed : Bool) (more : Row)
      → has_bad_entry most d places is_closed [] (entries_after zero (words ++ more))
      ≡ has_bad_entry most d places is_closed (map place_view s.named.keys)
      (entries_after zero (drop s.words words ++ more))
