use Rattle.std.proofs.Common.{◌≡◌, ◌++◌, map, length}
use Rattle.stg_steps.specs.inner.Reading.{pieces}
use Rattle.stg_steps.proofs.words.split_words.Given as goal

-- the words so far, and those of what is left
abbrev pub invariant-loop-words : goal.invariant-loop-words
invariant-loop-words l = map (λ w. w.now) l.words ++ pieces 32 l.rest ≡ pieces 32 l.line

abbrev pub decreases-loop-words : goal.decreases-loop-words
decreases-loop-words l = length l.rest
