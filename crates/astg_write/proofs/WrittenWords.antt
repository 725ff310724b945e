-- Bytes that are written word by word are read so.
use Rattle.std.proofs.Common.{◌≡◌, ◌+◌, ◌==◌, ◌&&◌, ℕ, List, [], ◌∷◌, ◌++◌, Bool, true, false, cond, not, map, refl, sym, ap, ◌∙◌, append_assoc, append-nil, suc, take, arith}
use Rattle.std.proofs.lemmas.Bool.{and_parts, and_from, not-true}
use Rattle.std.proofs.lemmas.List.{map-append}
use Rattle.std.specs.List.{list_all, position_or_len}
use Rattle.std.specs.Prelude.{codes}
use Rattle.astg_lex.specs.Lines.{lines_of, with_byte, code_of, may_stand, has_bad_byte}
use Rattle.astg_lex.specs.Words.{WordAt, words_at, words_of, longer, is_blank, is_joining, begins_joining}
use Rattle.astg_lex.proofs.ListLemmas.{all-append}
use Rattle.astg_lex.proofs.WordLemmas.{joining-not_blank, pick-last, pick-middle}
use Rattle.astg_read.specs.Rows.{Row}
use Rattle.astg_read.specs.Rules.{Line, seen_line}
use Rattle.astg_write.specs.ComponentText.{line}

-- a further byte of the first word
abbrev pub joined : ℕ → List (List ℕ) → List (List ℕ)
joined b [] = []
joined b (w ∷ ws) = (b ∷ w) ∷ ws

-- the words from a byte on
abbrev pub plain_with : ℕ → List ℕ → List (List ℕ) → List (List ℕ)
plain_with b bs words = cond (is_blank b) words (cond (is_joining b && begins_joining bs) (joined b words) ((b ∷ []) ∷ words))

-- the words of bytes, without their places
abbrev pub plain_words : List ℕ → List (List ℕ)
plain_words [] = []
plain_words (b ∷ bs) = plain_with b bs (plain_words bs)

abbrev texts_of : List WordAt → List (List ℕ)
texts_of ws = map (λ (w : WordAt). w.text) ws

longer-joined : (at b : ℕ) (ws : List WordAt) → texts_of (longer at b ws) ≡ joined b (texts_of ws)
longer-joined at b [] = refl
longer-joined at b (w ∷ ws) = refl

with-plain : (at b : ℕ) (ws : List WordAt) (s t : Bool) → texts_of (cond s ws (cond t (longer at b ws) (record { text = b ∷ []; start = at; end = at + 1 } ∷ ws))) ≡ cond s (texts_of ws) (cond t (joined b (texts_of ws)) ((b ∷ []) ∷ texts_of ws))
with-plain at b ws true t = refl
with-plain at b ws false true = longer-joined at b ws
with-plain at b ws false false = refl

pub words_at-plain : (at : ℕ) (bs : List ℕ) → texts_of (words_at at bs) ≡ plain_words bs
words_at-plain at [] = refl
words_at-plain at (b ∷ bs) = with-plain at b (words_at (at + 1) bs) (is_blank b) (is_joining b && begins_joining bs) ∙ ap (plain_with b bs) (words_at-plain (at + 1) bs)

-- a run of joining bytes in front is a word
pub plain-word : (b : ℕ) (bs rest : List ℕ) → list_all is_joining (b ∷ bs) ≡ true → begins_joining rest ≡ false → plain_words ((b ∷ bs) ++ rest) ≡ (b ∷ bs) ∷ plain_words rest
plain-word b [] rest h e =
    let k = and_parts (is_joining b) true h in
    pick-last (is_blank b) (is_joining b && begins_joining rest) (plain_words rest) (joined b (plain_words rest)) ((b ∷ []) ∷ plain_words rest)
    (joining-not_blank b k.0) (ap (λ t. t && begins_joining rest) k.0 ∙ e)
plain-word b (c ∷ cs) rest h e =
    let k = and_parts (is_joining b) (list_all is_joining (c ∷ cs)) h in
    let l = and_parts (is_joining c) (list_all is_joining cs) k.1 in
    let words = plain_words ((c ∷ cs) ++ rest) in
    pick-middle (is_blank b) (is_joining b && is_joining c) words (joined b words) ((b ∷ []) ∷ words)
    (joining-not_blank b k.0) (and_from (is_joining b) (is_joining c) k.0 l.0)
    ∙ ap (joined b) (plain-word c cs rest k.1 e)

-- a byte that may stand in a line and begins no comment
abbrev pub is_clean : ℕ → Bool
is_clean b = may_stand b && (not (b == 35) && not (b == 10))

-- The bytes are these words, before all that begins with no joining byte.
pub record AreWords (bytes : List ℕ) (row : Row) : Type 0 where
  pub clean : list_all is_clean bytes ≡ true
  pub words : (rest : List ℕ) → begins_joining rest ≡ false → plain_words (bytes ++ rest) ≡ row ++ plain_words rest

-- And they end the word before them.
pub record Follow (bytes : List ℕ) (row : Row) : Type 0 where
  pub are : AreWords bytes row
  pub apart : (rest : List ℕ) → begins_joining rest ≡ false → begins_joining (bytes ++ rest) ≡ false

-- words and words after them
pub AreWords-append : (x y : List ℕ) (r s : Row) → AreWords x r → Follow y s → AreWords (x ++ y) (r ++ s)
AreWords-append x y r s h k = record {
  clean = all-append is_clean x y h.clean k.are.clean;
  words = λ rest e.
      ap plain_words (append_assoc x y rest)
      ∙ h.words (y ++ rest) (k.apart rest e)
      ∙ ap (λ ws. r ++ ws) (k.are.words rest e)
      ∙ sym (append_assoc r s (plain_words rest));
}

pub Follow-append : (x y : List ℕ) (r s : Row) → Follow x r → Follow y s → Follow (x ++ y) (r ++ s)
Follow-append x y r s h k = record {
  are = AreWords-append x y r s h.are k;
  apart = λ rest e. ap begins_joining (append_assoc x y rest) ∙ h.apart (y ++ rest) (k.apart rest e);
}

pub Follow-nil : Follow [] []
Follow-nil = record { are = record { clean = refl; words = λ rest e. refl }; apart = λ rest e. e }

-- a space before words
pub Follow-space : (bytes : List ℕ) (row : Row) → AreWords bytes row → Follow (32 ∷ bytes) row
Follow-space bytes row h = record { are = record { clean = h.clean; words = h.words }; apart = λ rest e. refl }

-- a byte that is a word by itself, and words after it
pub Follow-open : (bytes : List ℕ) (row : Row) → AreWords bytes row → Follow (codes "(" ++ bytes) (codes "(" ∷ row)
Follow-open bytes row h = record { are = record { clean = h.clean; words = λ rest e. ap (λ ws. codes "(" ∷ ws) (h.words rest e) }; apart = λ rest e. refl }

pub Follow-equal : (bytes : List ℕ) (row : Row) → AreWords bytes row → Follow (codes "=" ++ bytes) (codes "=" ∷ row)
Follow-equal bytes row h = record { are = record { clean = h.clean; words = λ rest e. ap (λ ws. codes "=" ∷ ws) (h.words rest e) }; apart = λ rest e. refl }

pub Follow-close : Follow (codes ")") (codes ")" ∷ [])
Follow-close = record { are = record { clean = refl; words = λ rest e. refl }; apart = λ rest e. refl }

pub AreWords-begin : AreWords (codes "{") (codes "{" ∷ [])
AreWords-begin = record { clean = refl; words = λ rest e. refl }

pub AreWords-end : AreWords (codes "}") (codes "}" ∷ [])
AreWords-end = record { clean = refl; words = λ rest e. refl }

-- a byte of a written word
abbrev pub is_word_byte : ℕ → Bool
is_word_byte b = is_joining b && is_clean b

pub all-parts : (f g : ℕ → Bool) (xs : List ℕ) → list_all (λ x. f x && g x) xs ≡ true → (list_all f xs ≡ true) × (list_all g xs ≡ true)
all-parts f g [] h = (refl, refl)
all-parts f g (x ∷ xs) h =
    let p = and_parts (f x && g x) (list_all (λ y. f y && g y) xs) h in
    let q = and_parts (f x) (g x) p.0 in
    let r = all-parts f g xs p.1 in
    (and_from (f x) (list_all f xs) q.0 r.0, and_from (g x) (list_all g xs) q.1 r.1)

-- a written word
pub AreWords-word : (b : ℕ) (bs : List ℕ) → list_all is_word_byte (b ∷ bs) ≡ true → AreWords (b ∷ bs) ((b ∷ bs) ∷ [])
AreWords-word b bs h = let p = all-parts is_joining is_clean (b ∷ bs) h in
    record { clean = p.1; words = λ rest e. plain-word b bs rest p.0 e }

-- a line of these words
abbrev pub good_line : Row → Line
good_line row = record { is_bad = false; words = row }

-- the lines of these rows, before all that stands after them
abbrev pub AreLines : List ℕ → List Row → Type 0
AreLines text rows = (rest : List ℕ) → map seen_line (lines_of (text ++ rest)) ≡ map good_line rows ++ map seen_line (lines_of rest)

code-clean : (bytes : List ℕ) → list_all is_clean bytes ≡ true → code_of bytes ≡ bytes
code-clean [] h = refl
code-clean (b ∷ bs) h =
    let p = and_parts (is_clean b) (list_all is_clean bs) h in
    let q = and_parts (may_stand b) (not (b == 35) && not (b == 10)) p.0 in
    let r = and_parts (not (b == 35)) (not (b == 10)) q.1 in
    let n = position_or_len (λ c. c == 35) bs in
    let next : 1 + n ≡ suc n = omega arith in
    ap (λ s. take (cond (not s) (1 + n) 0) (b ∷ bs)) (not-true (b == 35) r.0)
    ∙ ap (λ k. take k (b ∷ bs)) next ∙ ap (λ l. b ∷ l) (code-clean bs p.1)

stand-clean : (bytes : List ℕ) → list_all is_clean bytes ≡ true → list_all may_stand bytes ≡ true
stand-clean [] h = refl
stand-clean (b ∷ bs) h =
    let p = and_parts (is_clean b) (list_all is_clean bs) h in
    let q = and_parts (may_stand b) (not (b == 35) && not (b == 10)) p.0 in
    and_from (may_stand b) (list_all may_stand bs) q.0 (stand-clean bs p.1)

lines-clean : (bytes rest : List ℕ) → list_all is_clean bytes ≡ true → lines_of (bytes ++ 10 ∷ rest) ≡ bytes ∷ lines_of rest
lines-clean [] rest h = refl
lines-clean (b ∷ bs) rest h =
    let p = and_parts (is_clean b) (list_all is_clean bs) h in
    let q = and_parts (may_stand b) (not (b == 35) && not (b == 10)) p.0 in
    let r = and_parts (not (b == 35)) (not (b == 10)) q.1 in
    ap (λ s. cond s ([] ∷ lines_of (bs ++ 10 ∷ rest)) (with_byte b (lines_of (bs ++ 10 ∷ rest)))) (not-true (b == 10) r.1)
    ∙ ap (with_byte b) (lines-clean bs rest p.1)

seen-words : (bytes : List ℕ) (row : Row) → AreWords bytes row → seen_line bytes ≡ good_line row
seen-words bytes row h =
    let code = code-clean bytes h.clean in
    let bad : has_bad_byte bytes ≡ false = ap (λ c. not (list_all may_stand c)) code ∙ ap not (stand-clean bytes h.clean) in
    let words : words_of bytes ≡ row =
    ap (λ c. texts_of (words_at 0 c)) code ∙ words_at-plain 0 bytes ∙ ap plain_words (sym (append-nil bytes)) ∙ h.words [] refl ∙ append-nil row in
    (λ j. record { is_bad = bad j; words = words j })

-- a line with its words
pub AreLines-line : (bytes : List ℕ) (row : Row) → AreWords bytes row → AreLines (line bytes) (row ∷ [])
AreLines-line bytes row h rest =
    ap (λ t. map seen_line (lines_of t)) (append_assoc bytes (10 ∷ []) rest)
    ∙ ap (map seen_line) (lines-clean bytes rest h.clean)
    ∙ ap (λ l. l ∷ map seen_line (lines_of rest)) (seen-words bytes row h)

pub AreLines-append : (x y : List ℕ) (r s : List Row) → AreLines x r → AreLines y s → AreLines (x ++ y) (r ++ s)
AreLines-append x y r s h k rest =
    ap (λ t. map seen_line (lines_of t)) (append_assoc x y rest)
    ∙ h (y ++ rest)
    ∙ ap (λ ls. map good_line r ++ ls) (k rest)
    ∙ sym (append_assoc (map good_line r) (map good_line s) (map seen_line (lines_of rest)))
    ∙ ap (λ ls. ls ++ map seen_line (lines_of rest)) (sym (map-append good_line r s))

pub AreLines-nil : AreLines [] []
AreLines-nil rest = refl
