-- The words of a marking, which may not be all there yet.
use Rattle.std.specs.Prelude.{ℕ, zero, suc, Bool, true, false, not, ◌&&◌, ◌||◌, ◌+◌, nat_lt, nat_eq, List, [], ◌∷◌, length, take, drop, bytes_eq, codes, Option, None, Some, is_some, unwrap_or, if◌then◌else◌}
use Rattle.std.specs.List.{list_any, before_first, after_first}
use Rattle.std.specs.Option.{option_map_or}
use Rattle.stg_net.specs.Names.{is_name}
use Rattle.stg_net.specs.declared.trans.TransName.{TransName}
use Rattle.astg_read.specs.Rows.{Word, Row}
use Rattle.astg_lex.specs.Numbers.{number}
use Rattle.astg_read.specs.Lists.{with_new}
use Rattle.astg_read.specs.Header.{Declared}
use Rattle.astg_read.specs.Nodes.{is_trans_word, trans_of_word}
use Rattle.astg_read.specs.Graphs.{PlaceAt, Named, Between, same_place}

-- the second word is the first one
abbrev pub is : Word → Word → Bool
is word w = bytes_eq w word

-- the words that stand by themselves in a marking
abbrev pub is_opening : Word → Bool
is_opening = is (codes "{")

abbrev pub is_closing : Word → Bool
is_closing = is (codes "}")

abbrev pub opens_place : Word → Bool
opens_place = is (codes "<")

abbrev pub closes_place : Word → Bool
closes_place = is (codes ">")

abbrev pub is_comma : Word → Bool
is_comma = is (codes ",")

abbrev pub is_equals : Word → Bool
is_equals = is (codes "=")

-- An entry: the words of its place, which are one or up to five from < on, and up
-- to two from = on. As many as there are.
pub record Entry : Type 0 where
  pub place : Row
  pub tokens : Row

-- the words of the place that begins with the first of these
abbrev pub place_words : Word → Row → Row
place_words w ws = if opens_place w then take 5 (w ∷ ws) else w ∷ []

-- up to two words, where the first is =
abbrev pub token_words : Row → Row
token_words [] = []
token_words (w ∷ ws) = if is_equals w then take 2 (w ∷ ws) else []

-- the entry that begins with the first of these words
abbrev pub entry_at : Word → Row → Entry
entry_at w ws =
    let place = place_words w ws in
    record { place = place; tokens = token_words (drop (length place) (w ∷ ws)) }

-- how many words after its first an entry has
abbrev pub further_words : Entry → ℕ
further_words e = length (drop 1 e.place) + length e.tokens

-- the entries of these words, of which the first ones still belong to one
abbrev pub entries_after : ℕ → Row → List Entry
entries_after skipped [] = []
entries_after zero (w ∷ ws) = let e = entry_at w ws in e ∷ entries_after (further_words e) ws
entries_after (suc n) (w ∷ ws) = entries_after n ws

-- the words before the first }
abbrev pub before_close : Row → Row
before_close words = before_first is_closing words

-- the words after the first }
abbrev pub after_close : Row → Row
after_close words = after_first is_closing words

-- the entries between { and }
abbrev pub entries_of : Row → List Entry
entries_of words = entries_after zero (before_close (drop 1 words))

-- nothing more stands
abbrev pub starts_none : Row → Bool
starts_none [] = true
starts_none (w ∷ ws) = false

-- Each of these says of words, of which there may be none, that they begin what it names.
abbrev pub starts_name : Row → Bool
starts_name [] = true
starts_name (w ∷ ws) = is_name w && starts_none ws

abbrev pub starts_close : Row → Bool
starts_close [] = true
starts_close (w ∷ ws) = closes_place w && starts_none ws

-- a transition and >
abbrev pub starts_target : Declared → Row → Bool
starts_target d [] = true
starts_target d (w ∷ ws) = is_trans_word d w && starts_close ws

-- , and a target
abbrev pub starts_comma : Declared → Row → Bool
starts_comma d [] = true
starts_comma d (w ∷ ws) = is_comma w && starts_target d ws

-- a transition and what follows it
abbrev pub starts_source : Declared → Row → Bool
starts_source d [] = true
starts_source d (w ∷ ws) = is_trans_word d w && starts_comma d ws

-- a place between two transitions
abbrev pub starts_between : Declared → Row → Bool
starts_between d [] = true
starts_between d (w ∷ ws) = opens_place w && starts_source d ws

abbrev pub starts_number : Row → Bool
starts_number [] = true
starts_number (w ∷ ws) = is_some (number w) && starts_none ws

-- = and a number
abbrev pub starts_tokens : Row → Bool
starts_tokens [] = true
starts_tokens (w ∷ ws) = is_equals w && starts_number ws

-- the words begin a place: a name, or two transitions between < and >
abbrev pub starts_place : Declared → Row → Bool
starts_place d words = starts_name words || starts_between d words

-- the words begin an entry: a place, and a number after =
abbrev pub starts_entry : Declared → Entry → Bool
starts_entry d e = starts_place d e.place && starts_tokens e.tokens

-- no word of the place is missing
abbrev pub is_whole_place : Row → Bool
is_whole_place (w ∷ []) = not (opens_place w)
is_whole_place words = nat_eq (length words) 5

-- no word of the entry is missing
abbrev pub is_whole : Entry → Bool
is_whole e = is_whole_place e.place && not (nat_eq (length e.tokens) 1)

-- the place of that name; the word < is none
abbrev pub named_by : Word → Option PlaceAt
named_by name = if opens_place name then None else Some (Named name)

-- the place between two transitions, where both are there
abbrev pub between_both : Option TransName → Option TransName → Option PlaceAt
between_both (Some t) (Some u) = Some (Between t u)
between_both t u = None

-- the place that the words of a whole place name
abbrev pub named_place : Declared → Row → Option PlaceAt
named_place d (name ∷ []) = named_by name
named_place d (l ∷ t ∷ c ∷ u ∷ g ∷ []) = between_both (trans_of_word d t) (trans_of_word d u)
named_place d words = None

-- the words name one of these places
abbrev pub names_one : Declared → List PlaceAt → Row → Bool
names_one d places words =
    option_map_or (λ p. list_any (same_place p) places) (named_place d words) false

-- these places, and the one that the words name
abbrev pub with_named : Declared → List PlaceAt → Row → List PlaceAt
with_named d places words = option_map_or (with_new same_place places) (named_place d words) places

-- the number after =, and 1 where there is none
abbrev pub tokens_of : Row → ℕ
tokens_of (e ∷ n ∷ []) = unwrap_or (number n) 1
tokens_of words = 1

-- the words of the entry begin none, or miss one though the marking is closed; its place isn't
-- there, or was named before; its tokens pass the limit
abbrev pub is_bad_entry : ℕ → Declared → List PlaceAt → Bool → List PlaceAt → Entry → Bool
is_bad_entry most d places is_closed named e =
    not (starts_entry d e)
    || (is_closed && not (is_whole e))
    || (is_whole_place e.place && (not (names_one d places e.place) || names_one d named e.place))
    || nat_lt most (tokens_of e.tokens)

-- one of the entries is wrong, after others that named these places
abbrev pub has_bad_entry : ℕ → Declared → List PlaceAt → Bool → List PlaceAt → List Entry → Bool
has_bad_entry most d places is_closed named [] = false
has_bad_entry most d places is_closed named (e ∷ es) =
    is_bad_entry most d places is_closed named e
    || has_bad_entry most d places is_closed (with_named d named e.place) es

-- the first word is {, where there is one
abbrev pub starts_marking : Row → Bool
starts_marking [] = true
starts_marking (w ∷ ws) = is_opening w

-- the words after .marking begin with no {, hold a wrong entry, or go on after }
abbrev pub is_bad_marking : ℕ → Declared → List PlaceAt → Row → Bool
is_bad_marking most d places words =
    not (starts_marking words)
    || has_bad_entry most d places (list_any is_closing words) [] (entries_of words)
    || nat_lt 0 (length (after_close words))

-- the tokens of a place: those of its entry, or none
abbrev pub entry_tokens : Declared → List Entry → PlaceAt → ℕ
entry_tokens d [] p = 0
entry_tokens d (e ∷ es) p =
    if option_map_or (same_place p) (named_place d e.place) false then tokens_of e.tokens
    else entry_tokens d es p

-- the marking has begun, and has no } yet
abbrev pub is_unfinished : Option Row → Bool
is_unfinished None = false
is_unfinished (Some words) = not (list_any is_closing words)
