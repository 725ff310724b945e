use Rattle.std.proofs.Common.{◌≡◌, drop, map, None}
use Rattle.std.specs.String.{string_bytes}
use Rattle.desij_words.specs.inner.Pass.{may_follow, nothing_met, point_of}
use Rattle.desij_words.proofs.words.form.is_of_form.Given as goal

abbrev pub invariant-loop-word : goal.invariant-loop-word
invariant-loop-word l = may_follow l.action (map (λ w. string_bytes w) (drop l.word-index l.words)) (point_of l.pass) ≡ may_follow l.action (map (λ w. string_bytes w) l.words) (nothing_met, None)
