use Rattle.std.proofs.Common.{◌≡◌, ◌∙◌, ◌++◌, [], ◌∷◌, take, ap, arith}
use Rattle.std.proofs.lemmas.List.{map-append}
use Rattle.stg_steps.specs.inner.Taking.{lent_words}
use Rattle.stg_steps.specs.inner.Reading.{pieces}
use Rattle.stg_steps.proofs.Pieces.{split_last, split_next}
use Rattle.stg_steps.proofs.words.split_words.Goals as goal

pub loop-words-preserved : goal.loop-words-preserved
loop-words-preserved c =
    let k = c.piece_length-count.result in
    let rest = c.loop-words.rest.now in
    let more : lent_words c.push.new.self ≡ lent_words c.loop-words.words ++ take k rest ∷ [] =
    ap lent_words c.in_ok-push.ensures.ok ∙ map-append (λ w. w.now) c.loop-words.words (c.before-in-loop-words.result ∷ []) ∙ ap (λ w. lent_words c.loop-words.words ++ w ∷ []) c.before-in-loop-words.ensures in
    split_next 32 (lent_words c.loop-words.words) (lent_words c.push.new.self) (pieces 32 c.args.line.now) rest c.after-rest.result.now k c.loop-words.invariant c.piece_length-count.ensures.value c.if-count-rest.true c.after-rest.ensures more

pub returns-else-count-rest : goal.returns-else-count-rest
returns-else-count-rest c =
    let k = c.piece_length-count.result in
    let rest = c.loop-words.rest.now in
    let more : lent_words c.push.new.self ≡ lent_words c.loop-words.words ++ take k rest ∷ [] =
    ap lent_words c.in_ok-push.ensures.ok ∙ map-append (λ w. w.now) c.loop-words.words (c.before-in-loop-words.result ∷ []) ∙ ap (λ w. lent_words c.loop-words.words ++ w ∷ []) c.before-in-loop-words.ensures in
    split_last 32 (lent_words c.loop-words.words) (lent_words c.push.new.self) (pieces 32 c.args.line.now) rest k c.loop-words.invariant c.piece_length-count.ensures.value c.piece_length-count.ensures.most (omega (arith, c.if-count-rest.false)) more
