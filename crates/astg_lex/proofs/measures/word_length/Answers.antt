use Rattle.std.proofs.Common.{◌∙◌, sym, ap}
use Rattle.astg_lex.specs.inner.Lengths.{word_and_rest}
use Rattle.astg_lex.proofs.WordLemmas.{words_at-joined}
use Rattle.astg_lex.proofs.measures.word_length.Goals as goal

pub returns-else-is_single-clause-words : goal.returns-else-is_single-clause-words
returns-else-is_single-clause-words c = λ at.
    words_at-joined at c.args.bytes.now c.requires.some c.requires.word (sym c.is_single.ensures ∙ c.if-is_single.false)
    ∙ ap (λ n. word_and_rest n at c.args.bytes.now) (sym c.run_length.ensures.value)
