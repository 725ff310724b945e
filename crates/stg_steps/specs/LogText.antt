-- The text of a log: its lines and their words.
use Rattle.std.specs.Prelude.{ℕ, List, [], ◌∷◌, ◌++◌, codes, decimal, flat_map}
use Rattle.stg_net.specs.Net.{NetLists, signal_at}
use Rattle.stg_net.specs.Words.{trans_word}
use Rattle.stg_contract.specs.declared.verdict.Verdict.{Verdict}
use Rattle.stg_contract.specs.declared.verdict.Verdict.TheVariants as verdict
use Rattle.stg_redundant.specs.declared.found.PlaceRule.{PlaceRule}
use Rattle.stg_redundant.specs.declared.found.PlaceRule.TheVariants as place_rule
use Rattle.stg_redundant.specs.declared.found.DummyRule.{DummyRule}
use Rattle.stg_redundant.specs.declared.found.DummyRule.TheVariants as dummy_rule
use Rattle.stg_derive.specs.declared.step.Secure.{Secure}
use Rattle.stg_derive.specs.declared.step.Secure.TheVariants as secure
use Rattle.stg_derive.specs.declared.step.Step.{Step}
use Rattle.stg_derive.specs.declared.step.Step.TheVariants.{Contract, DropPlace, DropDummy}
use Rattle.stg_derive.specs.declared.part.Restore.{Restore}
use Rattle.stg_redundant.specs.declared.found.PlaceFound.{PlaceFound}
use Rattle.stg_redundant.specs.declared.found.DummyFound.{DummyFound}

-- the words of a line
abbrev pub LogRow : Type 0
LogRow = List (List ℕ)

-- the word of a transition
abbrev pub word_at : NetLists → ℕ → List ℕ
word_at n t = trans_word n.signals n.trans t

-- the words of a verdict
abbrev pub verdict_words : NetLists → Verdict → LogRow
verdict_words n verdict.Type1 = codes "type1" ∷ []
verdict_words n verdict.Type2 = codes "type2" ∷ []
verdict_words n verdict.Loop = codes "loop" ∷ []
verdict_words n verdict.Weight = codes "weight" ∷ []
verdict_words n verdict.Insecure = codes "insecure" ∷ []
verdict_words n (verdict.Clash t u) = codes "clash" ∷ word_at n t ∷ word_at n u ∷ []
verdict_words n (verdict.Places k) = codes "places" ∷ decimal k ∷ []
verdict_words n verdict.Large = codes "large" ∷ []

-- the words of a record
abbrev pub restore_words : NetLists → Restore → LogRow
restore_words n r =
    codes "restore" ∷ (signal_at n.signals r.signal).name ∷ word_at n r.trans
    ∷ verdict_words n r.verdict

-- the word of a kind of contraction
abbrev pub secure_word : Secure → List ℕ
secure_word secure.Type1 = codes "type1"
secure_word secure.Type2 = codes "type2"

-- the words of the rule by which a place is redundant
abbrev pub place_rule_words : PlaceRule → LogRow
place_rule_words (place_rule.Same q) = codes "same" ∷ decimal q ∷ []
place_rule_words place_rule.Loop = codes "loop" ∷ []
place_rule_words place_rule.Shortcut = codes "shortcut" ∷ []

-- the words of the rule by which a dummy is redundant
abbrev pub dummy_rule_words : NetLists → DummyRule → LogRow
dummy_rule_words n dummy_rule.Loop = codes "loop" ∷ []
dummy_rule_words n (dummy_rule.Same u) = codes "same" ∷ word_at n u ∷ []

-- the words of a contraction
abbrev pub contract_words : NetLists → ℕ → Secure → ℕ → LogRow
contract_words n t secure places =
    codes "contract" ∷ word_at n t ∷ secure_word secure ∷ codes "places" ∷ decimal places ∷ []

-- the words of a place's deletion
abbrev pub drop_place_words : PlaceFound → LogRow
drop_place_words found =
    codes "drop" ∷ codes "place" ∷ decimal found.place ∷ place_rule_words found.rule

-- the words of a dummy's deletion
abbrev pub drop_dummy_words : NetLists → DummyFound → LogRow
drop_dummy_words n found =
    codes "drop" ∷ codes "dummy" ∷ word_at n found.trans ∷ dummy_rule_words n found.rule

-- the words of a step
abbrev pub step_words : NetLists → Step → LogRow
step_words n (Contract t secure places) = contract_words n t secure places
step_words n (DropPlace found) = drop_place_words found
step_words n (DropDummy found) = drop_dummy_words n found

-- further words, each after a space (32)
abbrev pub spaced : LogRow → List ℕ
spaced [] = []
spaced (w ∷ ws) = 32 ∷ w ++ spaced ws

-- the words with a space between each two, and LF (10)
abbrev pub line_of : LogRow → List ℕ
line_of [] = 10 ∷ []
line_of (w ∷ ws) = w ++ spaced ws ++ 10 ∷ []

-- the lines of the records
abbrev pub restore_lines : NetLists → List Restore → List ℕ
restore_lines n restored = flat_map (λ r. line_of (restore_words n r)) restored

-- the lines of the steps
abbrev pub step_lines : NetLists → List Step → List ℕ
step_lines n steps = flat_map (λ s. line_of (step_words n s)) steps

-- the text of a log: a line for each record, then one for each step, then the line `end`
abbrev pub log_text : NetLists → List Restore → List Step → List ℕ
log_text n restored steps =
    restore_lines n restored ++ step_lines n steps ++ codes "end\n"
