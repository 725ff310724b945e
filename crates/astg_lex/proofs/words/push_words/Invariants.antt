use Rattle.std.proofs.Common.{◌≡◌, ◌+◌, ◌++◌, length}
use Rattle.astg_lex.specs.Words.{words_at}
use Rattle.astg_lex.specs.Lexing.{word_views}
use Rattle.astg_lex.proofs.words.push_words.Given as goal

abbrev pub invariant-loop-rest : goal.invariant-loop-rest
invariant-loop-rest l = record {
  so_far : word_views l.words ++ words_at l.at l.rest ≡ word_views l.initial.words ++ words_at l.start l.code;
  end : l.at + length l.rest ≡ l.start + length l.code;
}

abbrev pub decreases-loop-rest : goal.decreases-loop-rest
decreases-loop-rest l = length l.rest
