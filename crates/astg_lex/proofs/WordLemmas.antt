-- The words of bytes that begin with a blank, a single byte or a run of joining ones.
use Rattle.std.proofs.Common.{◌≡◌, ◌+◌, ◌<◌, ◌≤◌, ℕ, suc, List, [], ◌∷◌, Bool, true, false, cond, not, ◌&&◌, ◌||◌, inl, inr, arith, drop, take, length, get_or, sym, ap, ◌∙◌}
use Rattle.std.proofs.lemmas.Bool.{cases_Bool, and_from, true≢false}
use Rattle.astg_lex.specs.Words.{words_at, is_blank, is_single, is_joining, begins_joining, longer}
use Rattle.std.specs.List.{prefix_len}
use Rattle.astg_lex.specs.inner.Lengths.{word_length, word_and_rest}

-- the choice among three by two tests
pub pick-middle : {A : Type 0} (t u : Bool) (x y z : A) → t ≡ false → u ≡ true → cond t x (cond u y z) ≡ y
pick-middle t u x y z h k = ap (λ s. cond s x (cond u y z)) h ∙ ap (λ s. cond s y z) k

pub pick-last : {A : Type 0} (t u : Bool) (x y z : A) → t ≡ false → u ≡ false → cond t x (cond u y z) ≡ z
pick-last t u x y z h k = ap (λ s. cond s x (cond u y z)) h ∙ ap (λ s. cond s y z) k

-- a byte that stands in a word with others is no blank
pub joining-not_blank : (b : ℕ) → is_joining b ≡ true → is_blank b ≡ false
joining-not_blank b h = elim (cases_Bool (is_blank b)) [ inl k ↦ absurd (true≢false (sym h ∙ ap (λ x. not (x || is_single b)) k)) | inr k ↦ k ]

pub words_at-blank : (at b : ℕ) (bs : List ℕ) → is_blank b ≡ true → words_at at (b ∷ bs) ≡ words_at (at + 1) bs
words_at-blank at b bs h = ap (λ s. cond s (words_at (at + 1) bs) (cond (is_joining b && begins_joining bs) (longer at b (words_at (at + 1) bs)) (record { text = b ∷ []; start = at; end = at + 1 } ∷ words_at (at + 1) bs))) h

-- a single byte, or a joining one with no joining one after it
alone : (at b : ℕ) (bs : List ℕ) → is_blank b ≡ false → (is_joining b && begins_joining bs) ≡ false
    → words_at at (b ∷ bs) ≡ word_and_rest 1 at (b ∷ bs)
alone at b bs h k = pick-last (is_blank b) (is_joining b && begins_joining bs) (words_at (at + 1) bs) (longer at b (words_at (at + 1) bs)) (record { text = b ∷ []; start = at; end = at + 1 } ∷ words_at (at + 1) bs) h k

grown : (at b : ℕ) (bs : List ℕ) → is_blank b ≡ false → (is_joining b && begins_joining bs) ≡ true
    → words_at at (b ∷ bs) ≡ longer at b (words_at (at + 1) bs)
grown at b bs h k = pick-middle (is_blank b) (is_joining b && begins_joining bs) (words_at (at + 1) bs) (longer at b (words_at (at + 1) bs)) (record { text = b ∷ []; start = at; end = at + 1 } ∷ words_at (at + 1) bs) h k

longer-run : (at n b : ℕ) (bs : List ℕ) → longer at b (word_and_rest n (at + 1) bs) ≡ word_and_rest (suc n) at (b ∷ bs)
longer-run at n b bs = let e : (at + 1) + n ≡ at + suc n = omega arith in ap (λ (k : ℕ). record { text = b ∷ take n bs; start = at; end = k } ∷ words_at k (drop n bs)) e

run-more : (b : ℕ) (bs : List ℕ) → is_joining b ≡ true → prefix_len is_joining (b ∷ bs) ≡ suc (prefix_len is_joining bs)
run-more b bs h = ap {B = ℕ} (λ s. cond s (1 + prefix_len is_joining bs) 0) h ∙ (let e : 1 + prefix_len is_joining bs ≡ suc (prefix_len is_joining bs) = omega arith in e)

run-none : (b : ℕ) (bs : List ℕ) → is_joining b ≡ false → prefix_len is_joining (b ∷ bs) ≡ 0
run-none b bs h = ap {B = ℕ} (λ s. cond s (1 + prefix_len is_joining bs) 0) h

pub words_at-run : (at b : ℕ) (bs : List ℕ) → is_joining b ≡ true → words_at at (b ∷ bs) ≡ word_and_rest (prefix_len is_joining (b ∷ bs)) at (b ∷ bs)
words_at-run at b [] h = alone at b [] (joining-not_blank b h) (ap (λ t. t && false) h) ∙ ap (λ n. word_and_rest n at (b ∷ [])) (sym (run-more b [] h))
words_at-run at b (c ∷ cs) h = elim (cases_Bool (is_joining c)) [
  | inl k ↦ grown at b (c ∷ cs) (joining-not_blank b h) (and_from (is_joining b) (is_joining c) h k) ∙ ap (longer at b) (words_at-run (at + 1) c cs k) ∙ longer-run at (prefix_len is_joining (c ∷ cs)) b (c ∷ cs) ∙ ap (λ n. word_and_rest n at (b ∷ c ∷ cs)) (sym (run-more b (c ∷ cs) h))
  | inr k ↦ alone at b (c ∷ cs) (joining-not_blank b h) (ap (λ t. t && is_joining c) h ∙ k) ∙ ap (λ n. word_and_rest n at (b ∷ c ∷ cs)) (sym (run-more b (c ∷ cs) h ∙ ap suc (run-none c cs k)))
]

joining-from : (b : ℕ) → is_blank b ≡ false → is_single b ≡ false → is_joining b ≡ true
joining-from b h k = ap (λ x. not (x || is_single b)) h ∙ ap not k

single-not_joining : (b : ℕ) → is_blank b ≡ false → is_single b ≡ true → is_joining b ≡ false
single-not_joining b h k = ap (λ x. not (x || is_single b)) h ∙ ap not k

length-single : (b : ℕ) (bs : List ℕ) → is_single b ≡ true → word_length (b ∷ bs) ≡ 1
length-single b bs h = ap (λ s. cond s 1 (prefix_len is_joining (b ∷ bs))) h

length-run : (b : ℕ) (bs : List ℕ) → is_single b ≡ false → word_length (b ∷ bs) ≡ prefix_len is_joining (b ∷ bs)
length-run b bs h = ap (λ s. cond s 1 (prefix_len is_joining (b ∷ bs))) h

-- bytes that begin with no blank begin with a word
pub words_at-word : (at : ℕ) (bytes : List ℕ) → 0 < length bytes → is_blank (get_or bytes 0 0) ≡ false → words_at at bytes ≡ word_and_rest (word_length bytes) at bytes
words_at-word at [] some h = absurd (omega (arith, some))
words_at-word at (b ∷ bs) some h = elim (cases_Bool (is_single b)) [
  | inl k ↦ alone at b bs h (ap (λ t. t && begins_joining bs) (single-not_joining b h k)) ∙ ap (λ n. word_and_rest n at (b ∷ bs)) (sym (length-single b bs k))
  | inr k ↦ words_at-run at b bs (joining-from b h k) ∙ ap (λ n. word_and_rest n at (b ∷ bs)) (sym (length-run b bs k))
]

pub run_length-most : (bytes : List ℕ) → prefix_len is_joining bytes ≤ length bytes
run_length-most [] = omega arith
run_length-most (b ∷ bs) = elim (cases_Bool (is_joining b)) [
  | inl k ↦ omega (arith, run-more b bs k, run_length-most bs)
  | inr k ↦ omega (arith, run-none b bs k)
]

pub word_length-most : (bytes : List ℕ) → word_length bytes ≤ length bytes
word_length-most [] = omega arith
word_length-most (b ∷ bs) = elim (cases_Bool (is_single b)) [
  | inl k ↦ omega (arith, length-single b bs k)
  | inr k ↦ omega (arith, length-run b bs k, run_length-most (b ∷ bs))
]

pub word_length-least : (bytes : List ℕ) → 0 < length bytes → is_blank (get_or bytes 0 0) ≡ false → 1 ≤ word_length bytes
word_length-least [] some h = absurd (omega (arith, some))
word_length-least (b ∷ bs) some h = elim (cases_Bool (is_single b)) [
  | inl k ↦ omega (arith, length-single b bs k)
  | inr k ↦ omega (arith, length-run b bs k, run-more b bs (joining-from b h k))
]

pub words_at-joined : (at : ℕ) (bytes : List ℕ) → 0 < length bytes → is_blank (get_or bytes 0 0) ≡ false → is_single (get_or bytes 0 0) ≡ false → words_at at bytes ≡ word_and_rest (prefix_len is_joining bytes) at bytes
words_at-joined at [] some h k = absurd (omega (arith, some))
words_at-joined at (b ∷ bs) some h k = words_at-run at b bs (joining-from b h k)
