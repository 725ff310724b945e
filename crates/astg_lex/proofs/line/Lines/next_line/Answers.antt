use Rattle.std.proofs.Common.{◌≡◌, ◌∙◌, ◌+◌, ap, sym, arith, ◌++◌, ◌-◌, ℕ, List, subst, length, drop, take, not, refl}
use Rattle.std.specs.List.{list_all}
use Rattle.astg_lex.specs.Lines.{may_stand}
use Rattle.astg_lex.specs.Words.{words_at}
use Rattle.astg_lex.specs.Lexing.{Lexing, Advances, word_views}
use Rattle.astg_lex.proofs.LineLemmas.{advances_over, take_rest}
use Rattle.astg_lex.proofs.line.Lines.next_line.Goals as goal

pub returns-clause-line : goal.returns-clause-line
returns-clause-line c =
    let old : Lexing = record { text = c.self.inside.text.now; at = c.self.inside.at; number = c.self.inside.number } in
    let new : Lexing = record { text = c.self.inside.text.now; at = c.after_line-self-inside.result; number = c.self.inside.number + 1 } in
    let P = λ (v : Lexing). Advances v new (c.self.inside.number + 1) c.push_words.new.words in
    let rest : List ℕ = take (length c.self.inside.text.now - c.self.inside.at) (drop c.self.inside.at c.self.inside.text.now) in
    let whole : rest ≡ drop c.self.inside.at c.self.inside.text.now = take_rest c.self.inside.at c.self.inside.text.now in
    subst P c.self.view_is (advances_over old new rest c.line_length-count.result c.push_words.new.words whole c.after_line-self-inside.ensures.rest refl refl
    (grind arith) c.line_length-count.ensures.value
    (ap (λ code. not (list_all may_stand code)) (sym c.code_of-code.ensures.value) ∙ ap not (sym c.all_may_stand.ensures ∙ c.if-not-all_may_stand.false))
    (c.in_ok-push_words.ensures ∙ ap (λ ws. word_views ws ++ words_at c.self.inside.at c.code_of-code.result.now) c.new-words.ensures ∙ ap (λ code. words_at c.self.inside.at code) c.code_of-code.ensures.value))
