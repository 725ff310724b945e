-- What a text stands for, where some of its lines have been taken.
use Rattle.std.proofs.Common.{◌≡◌, ◌≢◌, ◌+◌, ◌≤◌, ℕ, List, [], ◌∷◌, ◌++◌, Bool, true, false, cond, map, length, refl, sym, ap, ◌∙◌, None, Some, Result, Ok, Err, ◌&&◌, drop, length-append}
use Rattle.std.proofs.lemmas.Bool.{le-ltb}
use Rattle.stg_net.specs.declared.limits.Limits.{Limits}
use Rattle.astg_lex.specs.Lines.{lines_of, line_ends, line_length, code_of, has_bad_byte}
use Rattle.astg_lex.specs.Words.{WordAt, words_at, words_of, is_blank, is_joining, begins_joining, longer}
use Rattle.astg_lex.specs.Lexing.{Lexing, Advances, text_left, lines_left, this_line, word_views}
use Rattle.astg_lex.specs.declared.words.Word.{Word}
use Rattle.astg_lex.proofs.LineLemmas.{lines_of-some}
use Rattle.astg_read.specs.declared.rule.Rule.{Rule}
use Rattle.astg_read.specs.declared.rule.Rule.TheVariants.{BadByte, TooLong}
use Rattle.astg_read.specs.Rows.{Row}
use Rattle.astg_read.specs.Said.{Said, said}
use Rattle.astg_read.specs.Rules.{rules, first_broken, seen_line, ends_text}
use Rattle.astg_read.specs.Reading.{Meaning, Fault, meaning_of, or_fault, reading_after, reading}
use Rattle.astg_read.specs.inner.Views.{texts}
use Rattle.astg_read.specs.inner.Growth.{after_row}
use Rattle.astg_read.specs.inner.LineResult.{verdict}
use Rattle.astg_read.proofs.GrowthLemmas.{said-after}

-- the lines taken so far
pub record Reached (limits : Limits) (text : List ℕ) (l : Lexing) (k : Said) : Type 0 where
  pub rows : List Row
  pub said_is : k ≡ said rows
  pub number_is : l.number ≡ length rows
  pub same : reading_after false limits (line_ends text + 1) rows (map seen_line (lines_left l)) ≡ reading_after false limits (line_ends text + 1) [] (map seen_line (lines_of text))

-- where in the text the words stand doesn't change them

abbrev texts_at : ℕ → List ℕ → List (List ℕ)
texts_at at bs = map (λ (w : WordAt). w.text) (words_at at bs)

abbrev extend : ℕ → List (List ℕ) → List (List ℕ)
extend x [] = []
extend x (w ∷ ws) = (x ∷ w) ∷ ws

longer-texts : (a x : ℕ) (us : List WordAt) → map (λ (w : WordAt). w.text) (longer a x us) ≡ extend x (map (λ (w : WordAt). w.text) us)
longer-texts a x [] = refl
longer-texts a x (u ∷ us) = refl

map-cond : (b : Bool) (us vs : List WordAt) → map (λ (w : WordAt). w.text) (cond b us vs) ≡ cond b (map (λ (w : WordAt). w.text) us) (map (λ (w : WordAt). w.text) vs)
map-cond true us vs = refl
map-cond false us vs = refl

abbrev texts_with : ℕ → List ℕ → List (List ℕ) → List (List ℕ)
texts_with x bs ws = cond (is_blank x) ws (cond (is_joining x && begins_joining bs) (extend x ws) ((x ∷ []) ∷ ws))

texts-with : (a x : ℕ) (bs : List ℕ) → texts_at a (x ∷ bs) ≡ texts_with x bs (texts_at (a + 1) bs)
texts-with a x bs =
    map-cond (is_blank x) (words_at (a + 1) bs) (cond (is_joining x && begins_joining bs) (longer a x (words_at (a + 1) bs)) (record { text = x ∷ []; start = a; end = a + 1 } ∷ words_at (a + 1) bs))
    ∙ ap (λ ws. cond (is_blank x) (texts_at (a + 1) bs) ws) (map-cond (is_joining x && begins_joining bs) (longer a x (words_at (a + 1) bs)) (record { text = x ∷ []; start = a; end = a + 1 } ∷ words_at (a + 1) bs)
    ∙ ap (λ ws. cond (is_joining x && begins_joining bs) ws ((x ∷ []) ∷ texts_at (a + 1) bs)) (longer-texts a x (words_at (a + 1) bs)))

-- where in the text the words stand doesn't change them
texts_at-anywhere : (a b : ℕ) (bs : List ℕ) → texts_at a bs ≡ texts_at b bs
texts_at-anywhere a b [] = refl
texts_at-anywhere a b (x ∷ bs) = texts-with a x bs ∙ ap (texts_with x bs) (texts_at-anywhere (a + 1) (b + 1) bs) ∙ sym (texts-with b x bs)

texts-word_views : (words : List Word) → texts words ≡ map (λ (w : WordAt). w.text) (word_views words)
texts-word_views [] = refl
texts-word_views (w ∷ words) = ap (λ ws. w.text.now ∷ ws) (texts-word_views words)

-- the line that was read, as the definition sees it
seen-advanced : (old new : Lexing) (number : ℕ) (words : List Word) → Advances old new number words → seen_line (this_line old) ≡ record { is_bad = false; words = texts words }
seen-advanced old new number words a =
    let w : words_of (this_line old) ≡ texts words = texts_at-anywhere 0 old.at (code_of (this_line old)) ∙ ap (map (λ (w : WordAt). w.text)) (sym a.words_are) ∙ sym (texts-word_views words) in
    (λ j. record { is_bad = a.good j; words = w j })

module _ (limits : Limits) (text : List ℕ) (old new : Lexing) (number : ℕ) (words : List Word) (k : Said) (r : Reached limits text old k) (a : Advances old new number words) where
  abbrev last : ℕ
  last = line_ends text + 1

  abbrev row : Row
  row = texts words

  abbrev goes_on : Result Meaning Fault
  goes_on = cond (ends_text (said r.rows) row) (Ok (meaning_of (said r.rows))) (reading_after false limits last (r.rows ++ row ∷ []) (map seen_line (lines_left new)))

  -- what the text stands for, where this line comes next
  next : reading_after false limits last [] (map seen_line (lines_of text)) ≡ or_fault (length r.rows + 1) (verdict limits k row) goes_on
  next = sym r.same ∙ ap (λ ls. reading_after false limits last r.rows (map seen_line ls)) a.first
      ∙ ap (λ l. reading_after false limits last r.rows (l ∷ map seen_line (lines_left new))) (seen-advanced old new number words a)
      ∙ ap (λ v. or_fault (length r.rows + 1) v goes_on) (ap (λ w. first_broken (rules false limits (said r.rows) w (record { is_bad = false; words = row }))) (said-after r.rows row) ∙ ap (λ q. verdict limits q row) (sym r.said_is))

  pub step-broken : (rule : Rule) → verdict limits k row ≡ Some rule → reading_after false limits last [] (map seen_line (lines_of text)) ≡ Err (record { rule = rule; line = number })
  step-broken rule e = next ∙ ap (λ v. or_fault (length r.rows + 1) v goes_on) e ∙ ap (λ n. Err (record { rule = rule; line = n })) (ap (λ n. n + 1) (sym r.number_is) ∙ sym a.numbered)

  pub step-end : verdict limits k row ≡ None → ends_text k row ≡ true → reading_after false limits last [] (map seen_line (lines_of text)) ≡ Ok (meaning_of k)
  step-end e s = next ∙ ap (λ v. or_fault (length r.rows + 1) v goes_on) e ∙ ap (λ b. cond b (Ok (meaning_of (said r.rows))) (reading_after false limits last (r.rows ++ row ∷ []) (map seen_line (lines_left new)))) (ap (λ q. ends_text q row) (sym r.said_is) ∙ s) ∙ ap (λ q. Ok (meaning_of q)) (sym r.said_is)

  pub step-more : verdict limits k row ≡ None → ends_text k row ≡ false → Reached limits text new (after_row k row)
  step-more e s = record {
    rows = r.rows ++ row ∷ [];
    said_is = ap (λ q. after_row q row) r.said_is ∙ sym (said-after r.rows row);
    number_is = a.next_number ∙ ap (λ n. n + 1) r.number_is ∙ sym (length-append r.rows (row ∷ []));
    same = sym (next ∙ ap (λ v. or_fault (length r.rows + 1) v goes_on) e ∙ ap (λ b. cond b (Ok (meaning_of (said r.rows))) (reading_after false limits last (r.rows ++ row ∷ []) (map seen_line (lines_left new)))) (ap (λ q. ends_text q row) (sym r.said_is) ∙ s));
  }

-- a line with a byte that may not stand
pub step-bad : (limits : Limits) (text : List ℕ) (l : Lexing) (k : Said) → Reached limits text l k → lines_left l ≢ [] → has_bad_byte (this_line l) ≡ true
    → reading_after false limits (line_ends text + 1) [] (map seen_line (lines_of text)) ≡ Err (record { rule = BadByte; line = l.number + 1 })
step-bad limits text l k r some bad =
    sym r.same ∙ ap (λ ls. reading_after false limits (line_ends text + 1) r.rows (map seen_line ls)) (lines_of-some (text_left l) some)
    ∙ ap (λ b. or_fault (length r.rows + 1) (first_broken (rules false limits (said r.rows) (said (r.rows ++ words_of (this_line l) ∷ [])) (record { is_bad = b; words = words_of (this_line l) }))) (cond (ends_text (said r.rows) (words_of (this_line l))) (Ok (meaning_of (said r.rows))) (reading_after false limits (line_ends text + 1) (r.rows ++ words_of (this_line l) ∷ []) (map seen_line (lines_of (drop (line_length (text_left l) + 1) (text_left l))))))) bad
    ∙ ap (λ n. Err (record { rule = BadByte; line = n + 1 })) (sym r.number_is)

-- a text within the limit
pub reading-within : (limits : Limits) (text : List ℕ) → length text ≤ limits.bytes → reading false limits text ≡ reading_after false limits (line_ends text + 1) [] (map seen_line (lines_of text))
reading-within limits text h = ap (λ b. cond b (Err (record { rule = TooLong; line = 0 })) (reading_after false limits (line_ends text + 1) [] (map seen_line (lines_of text)))) (le-ltb (limits.bytes) (length text) h)
