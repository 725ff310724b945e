-- How a log is read: what each line tells, and the first line that tells nothing.
use Rattle.std.specs.Prelude.{ℕ, Bool, true, false, ◌==◌, ◌+◌, unwrap_or, nat_le, List, [], ◌∷◌, ◌++◌, codes, length, position, Option, Some, None, option_map, Result, Ok, Err, if◌then◌else◌}
use Rattle.std.specs.Str.{bytes_eq}
use Rattle.stg_net.specs.Net.{NetLists, signal_at, trans_at}
use Rattle.astg_lex.specs.Lines.{with_byte}
use Rattle.astg_lex.specs.Numbers.{number}
use Rattle.stg_net.specs.Ordered.{listed_below}
use Rattle.stg_contract.specs.declared.verdict.Verdict.{Verdict}
use Rattle.stg_contract.specs.declared.verdict.Verdict.TheVariants as verdict
use Rattle.stg_redundant.specs.declared.found.PlaceRule.{PlaceRule}
use Rattle.stg_redundant.specs.declared.found.PlaceRule.TheVariants as place_rule
use Rattle.stg_redundant.specs.declared.found.DummyRule.{DummyRule}
use Rattle.stg_redundant.specs.declared.found.DummyRule.TheVariants as dummy_rule
use Rattle.stg_derive.specs.declared.step.Secure.{Secure}
use Rattle.stg_derive.specs.declared.step.Secure.TheVariants as secure
use Rattle.stg_derive.specs.declared.step.Step.{Step}
use Rattle.stg_derive.specs.declared.step.Step.TheVariants.{Contract, DropPlace, DropDummy}
use Rattle.stg_derive.specs.declared.part.Restore.{Restore}
use Rattle.stg_steps.specs.declared.log.Log.{Log}
use Rattle.stg_steps.specs.LogText.{LogRow, word_at}

-- the pieces between the bytes c, those without bytes too
abbrev pub pieces : ℕ → List ℕ → LogRow
pieces c [] = [] ∷ []
pieces c (b ∷ bs) = if b == c then [] ∷ pieces c bs else with_byte b (pieces c bs)

-- a first digit of 0 (48) with others after it
abbrev pub has_leading_zero : List ℕ → Bool
has_leading_zero [] = false
has_leading_zero (c ∷ []) = false
has_leading_zero (c ∷ d ∷ cs) = c == 48

-- the number of 1 to 9 digits without leading zeros
abbrev pub number_in : List ℕ → Option ℕ
number_in w = if has_leading_zero w then None else number w

-- the words of the transitions, in the order of their numbers
abbrev pub trans_words : NetLists → LogRow
trans_words n = listed_below (λ t. word_at n t ∷ []) (length n.trans)

-- where the word stands first
abbrev pub place_in : LogRow → List ℕ → Option ℕ
place_in row w = position (λ x. bytes_eq w x) row

-- the verdict of one word
abbrev pub lone_verdict : List ℕ → Option Verdict
lone_verdict w =
    if bytes_eq w (codes "loop") then Some verdict.Loop
    else if bytes_eq w (codes "weight") then Some verdict.Weight
    else if bytes_eq w (codes "insecure") then Some verdict.Insecure
    else if bytes_eq w (codes "large") then Some verdict.Large
    else None

-- the verdict of so many places
abbrev pub places_verdict : List ℕ → Option Verdict
places_verdict k = option_map (λ p. verdict.Places p) (number_in k)

-- the verdict of a clash, where both transitions are there
abbrev pub clash_of : Option ℕ → Option ℕ → Option Verdict
clash_of (Some t) (Some u) = Some (verdict.Clash t u)
clash_of t u = None

-- the verdict of these words
abbrev pub verdict_in : LogRow → LogRow → Option Verdict
verdict_in words (w ∷ []) = lone_verdict w
verdict_in words (w ∷ k ∷ []) = if bytes_eq w (codes "places") then places_verdict k else None
verdict_in words (w ∷ t ∷ u ∷ []) =
    if bytes_eq w (codes "clash") then clash_of (place_in words t) (place_in words u) else None
verdict_in words row = None

-- the record of these, where both are there and the name is that of the transition's signal
abbrev pub restore_of : NetLists → List ℕ → Option ℕ → Option Verdict → Option Restore
restore_of n name (Some t) (Some v) =
    if bytes_eq name (signal_at n.signals (trans_at n.trans t).signal).name
    then Some (record { signal = (trans_at n.trans t).signal; trans = t; verdict = v }) else None
restore_of n name t v = None

-- the record of these words after the first
abbrev pub restore_in : NetLists → LogRow → LogRow → Option Restore
restore_in n words (name ∷ t ∷ rest) =
    restore_of n name (place_in words t) (verdict_in words rest)
restore_in n words row = None

-- the kind of contraction of that word
abbrev pub secure_in : List ℕ → Option Secure
secure_in w =
    if bytes_eq w (codes "type1") then Some secure.Type1
    else if bytes_eq w (codes "type2") then Some secure.Type2
    else None

-- the contraction of these, where all are there
abbrev pub contract_of : Option ℕ → Option Secure → Option ℕ → Option Step
contract_of (Some t) (Some s) (Some k) = Some (Contract t s k)
contract_of t s k = None

-- the contraction of these words after the first
abbrev pub contract_in : LogRow → LogRow → Option Step
contract_in words (t ∷ kind ∷ w ∷ k ∷ []) =
    if bytes_eq w (codes "places")
    then contract_of (place_in words t) (secure_in kind) (number_in k) else None
contract_in words row = None

-- the rule of a place with the same arcs as this one
abbrev pub same_place_of : Option ℕ → Option PlaceRule
same_place_of (Some q) = Some (place_rule.Same q)
same_place_of None = None

-- the rule of these words by which a place is redundant
abbrev pub place_rule_in : LogRow → Option PlaceRule
place_rule_in (w ∷ []) =
    if bytes_eq w (codes "loop") then Some place_rule.Loop
    else if bytes_eq w (codes "shortcut") then Some place_rule.Shortcut
    else None
place_rule_in (w ∷ q ∷ []) =
    if bytes_eq w (codes "same") then same_place_of (number_in q) else None
place_rule_in row = None

-- the deletion of a place, where both are there
abbrev pub drop_place_of : Option ℕ → Option PlaceRule → Option Step
drop_place_of (Some p) (Some rule) = Some (DropPlace (record { place = p; rule = rule }))
drop_place_of p rule = None

-- the rule of a dummy with the same arcs as this one
abbrev pub same_dummy_of : Option ℕ → Option DummyRule
same_dummy_of (Some u) = Some (dummy_rule.Same u)
same_dummy_of None = None

-- the rule of these words by which a dummy is redundant
abbrev pub dummy_rule_in : LogRow → LogRow → Option DummyRule
dummy_rule_in words (w ∷ []) =
    if bytes_eq w (codes "loop") then Some dummy_rule.Loop else None
dummy_rule_in words (w ∷ u ∷ []) =
    if bytes_eq w (codes "same") then same_dummy_of (place_in words u) else None
dummy_rule_in words row = None

-- the deletion of a dummy, where both are there
abbrev pub drop_dummy_of : Option ℕ → Option DummyRule → Option Step
drop_dummy_of (Some t) (Some rule) = Some (DropDummy (record { trans = t; rule = rule }))
drop_dummy_of t rule = None

-- the deletion of these words after the first
abbrev pub drop_in : LogRow → LogRow → Option Step
drop_in words (what ∷ which ∷ rest) =
    if bytes_eq what (codes "place") then drop_place_of (number_in which) (place_rule_in rest)
    else if bytes_eq what (codes "dummy")
    then drop_dummy_of (place_in words which) (dummy_rule_in words rest)
    else None
drop_in words row = None

-- the step of these words
abbrev pub step_in : LogRow → LogRow → Option Step
step_in words [] = None
step_in words (w ∷ rest) =
    if bytes_eq w (codes "contract") then contract_in words rest
    else if bytes_eq w (codes "drop") then drop_in words rest
    else None

-- the log with a record more, while there is no step
abbrev pub with_restore : Log → Option Restore → Option Log
with_restore log None = None
with_restore log (Some r) =
    if nat_le 1 (length log.steps) then None
    else Some (record log { restored = log.restored ++ r ∷ [] })

-- the log with a step more
abbrev pub with_step : Log → Option Step → Option Log
with_step log None = None
with_step log (Some s) = Some (record log { steps = log.steps ++ s ∷ [] })

-- the log with what a line of these words tells, of all transitions' words
abbrev pub with_row : NetLists → LogRow → Log → LogRow → Option Log
with_row n words log [] = None
with_row n words log (w ∷ rest) =
    if bytes_eq w (codes "restore") then with_restore log (restore_in n words rest)
    else with_step log (step_in words (w ∷ rest))

-- nothing stands after the last line
abbrev pub is_over : LogRow → Bool
is_over ([] ∷ []) = true
is_over more = false

-- the number of a line that tells nothing, or what comes of the later ones
abbrev pub or_bad : ℕ → Option Log → Result Log ℕ → Result Log ℕ
or_bad number None later = Err number
or_bad number (Some log) later = later

-- The log of these pieces of a text, after what the lines before them told, or the number of the
-- first line that isn't of the form. The pieces are numbered from this one on; the last one is no
-- whole line.
abbrev pub log_after : NetLists → ℕ → Log → LogRow → Result Log ℕ
log_after n number log [] = Err number
log_after n number log (line ∷ []) = Err number
log_after n number log (line ∷ next ∷ more) =
    if bytes_eq line (codes "end") then (if is_over (next ∷ more) then Ok log else Err (number + 1))
    else
    or_bad number (with_row n (trans_words n) log (pieces 32 line))
    (log_after n (number + 1) (unwrap_or (with_row n (trans_words n) log (pieces 32 line)) log)
    (next ∷ more))

-- the log of a text, or the number of its first line that isn't of the form
abbrev pub log_in : NetLists → List ℕ → Result Log ℕ
log_in n text = log_after n 1 (record { restored = []; steps = [] }) (pieces 10 text)
