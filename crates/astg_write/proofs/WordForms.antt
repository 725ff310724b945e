-- The forms of written words: names, numbers and words of transitions.
use Rattle.std.proofs.Common.{◌≡◌, ◌^◌, ◌<◌, ◌≤◌, ◌==◌, ◌&&◌, ◌||◌, nat_le, ℕ, List, [], ◌∷◌, ◌++◌, Bool, true, false, cond, not, length, refl, sym, ap, ◌∙◌, arith, inl, inr}
use Rattle.std.proofs.lemmas.Bool.{and_parts, and_from, or_cases, or_left, or_right, true≢false, false≢true, cases_eq, cases_Bool, ne_eqb, leb-true, le-leb, eqb-true}
use Rattle.std.proofs.lemmas.Fmt.{digits_decimal, decimal_nonempty}
use Rattle.std.specs.List.{list_all}
use Rattle.std.specs.Prelude.{decimal}
use Rattle.stg_net.specs.Names.{is_between, is_digit, begins_name, is_in_name, is_name}
use Rattle.stg_net.specs.Words.{sign_of, index_text}
use Rattle.stg_net.specs.declared.trans.Edge.{Edge}
use Rattle.stg_net.specs.declared.trans.Edge.TheVariants.{Rise, Fall, Toggle}
use Rattle.stg_net.proofs.NameBytes.{not_at, begins-in_name, name-bytes}
use Rattle.astg_lex.proofs.DecimalLemmas.{numerals}
use Rattle.astg_lex.proofs.ListLemmas.{all-append}
use Rattle.astg_write.proofs.WrittenWords.{AreWords, AreWords-word, is_word_byte}

pub not_at_back : (P : ℕ → Bool) (v c : ℕ) → P v ≡ false → P c ≡ true → (v == c) ≡ false
not_at_back P v c h k = elim (cases_eq v c) [
  | inl e ↦ absurd (true≢false (sym k ∙ ap P (sym e) ∙ h))
  | inr n ↦ ne_eqb v c n
]

wider : (low high l h c : ℕ) → l ≤ low → high ≤ h → is_between low high c ≡ true → is_between l h c ≡ true
wider low high l h c p q e =
    let k = and_parts (nat_le low c) (nat_le c high) e in
    let x = leb-true low c k.0 in let y = leb-true c high k.1 in
    and_from (nat_le l c) (nat_le c h) (le-leb l c (omega (arith, x, p))) (le-leb c h (omega (arith, y, q)))

at : (v l h c : ℕ) → l ≤ v → v ≤ h → (c == v) ≡ true → is_between l h c ≡ true
at v l h c p q e = let s = eqb-true c v e in and_from (nat_le l c) (nat_le c h) (le-leb l c (omega (arith, s, p))) (le-leb c h (omega (arith, s, q)))

either : {P : Type 0} (a b : Bool) → (a ≡ true → P) → (b ≡ true → P) → (a || b) ≡ true → P
either a b f g h = elim (or_cases a b h) [ inl k ↦ f k | inr k ↦ g k ]

-- bytes of names lie between these
in_name-range : (c : ℕ) → is_in_name c ≡ true → is_between 46 122 c ≡ true
in_name-range c h =
    let small = wider 97 122 46 122 c (omega arith) (omega arith) in
    let great = wider 65 90 46 122 c (omega arith) (omega arith) in
    let digit = wider 48 57 46 122 c (omega arith) (omega arith) in
    let begins : begins_name c ≡ true → is_between 46 122 c ≡ true =
    either (is_between 97 122 c || is_between 65 90 c || is_digit c) (c == 95)
    (either (is_between 97 122 c || is_between 65 90 c) (is_digit c) (either (is_between 97 122 c) (is_between 65 90 c) small great) digit)
    (at 95 46 122 c (omega arith) (omega arith)) in
    either (begins_name c || c == 46 || c == 91) (c == 93)
    (either (begins_name c || c == 46) (c == 91) (either (begins_name c) (c == 46) begins (at 46 46 122 c (omega arith) (omega arith))) (at 91 46 122 c (omega arith) (omega arith)))
    (at 93 46 122 c (omega arith) (omega arith)) h

abbrev word_tests : Bool → Bool → Bool → Bool → Bool → Bool → Bool → Bool → Bool → Bool → Bool → Bool → Bool → Bool → Bool
word_tests sp tab cr o c l g m e p q r hash lf =
    not (((sp || tab) || cr) || (o || (c || (l || (g || (m || (e || (p || (q || false)))))))))
    && (((r || tab) || cr) && (not hash && not lf))

pub in_name-word : (c : ℕ) → is_in_name c ≡ true → is_word_byte c ≡ true
in_name-word c h =
    let away = λ (v : ℕ) (e : is_in_name v ≡ false). not_at is_in_name v c e h in
    let back = λ (v : ℕ) (e : is_in_name v ≡ false). not_at_back is_in_name v c e h in
    let range = wider 46 122 32 126 c (omega arith) (omega arith) (in_name-range c h) in
    (λ j. word_tests (away 32 refl j) (away 9 refl j) (away 13 refl j) (back 123 refl j) (back 125 refl j) (back 60 refl j) (back 62 refl j) (back 44 refl j) (back 61 refl j) (back 40 refl j) (back 41 refl j) (range j) (away 35 refl j) (away 10 refl j))

pub digit-begins : (c : ℕ) → is_digit c ≡ true → begins_name c ≡ true
digit-begins c h = or_left (is_between 97 122 c || is_between 65 90 c || is_digit c) (c == 95) (or_right (is_between 97 122 c || is_between 65 90 c) (is_digit c) h)

pub digit-in_name : (c : ℕ) → is_digit c ≡ true → is_in_name c ≡ true
digit-in_name c h = begins-in_name c (digit-begins c h)

pub all-weaker : (f g : ℕ → Bool) → ((c : ℕ) → f c ≡ true → g c ≡ true) → (xs : List ℕ) → list_all f xs ≡ true → list_all g xs ≡ true
all-weaker f g w [] h = refl
all-weaker f g w (x ∷ xs) h = let p = and_parts (f x) (list_all f xs) h in and_from (g x) (list_all g xs) (w x p.0) (all-weaker f g w xs p.1)

pub name-length : (w : List ℕ) → is_name w ≡ true → length w ≤ 100
name-length [] h = omega arith
name-length (c ∷ cs) h =
    let p = and_parts (begins_name c && nat_le (length cs) 99) (list_all is_in_name cs) h in
    let q = and_parts (begins_name c) (nat_le (length cs) 99) p.0 in
    omega (arith, leb-true (length cs) 99 q.1)

-- a word of bytes of names is one word
pub AreWords-in_name : (w : List ℕ) → 0 < length w → list_all is_word_byte w ≡ true → AreWords w (w ∷ [])
AreWords-in_name [] some h = absurd (omega (arith, some))
AreWords-in_name (c ∷ cs) some h = AreWords-word c cs h

name-some : (w : List ℕ) → is_name w ≡ true → 0 < length w
name-some [] h = absurd (false≢true h)
name-some (c ∷ cs) h = omega arith

pub AreWords-name : (w : List ℕ) → is_name w ≡ true → AreWords w (w ∷ [])
AreWords-name w h = AreWords-in_name w (name-some w h) (all-weaker is_in_name is_word_byte in_name-word w (name-bytes w h))

-- a written number has digits
pub decimal-digits : (n : ℕ) → n < 2 ^ 64 → list_all is_digit (decimal n) ≡ true
decimal-digits n h = digits_decimal numerals n h

pub AreWords-decimal : (n : ℕ) → n < 1000000000 → AreWords (decimal n) (decimal n ∷ [])
AreWords-decimal n h =
    let fits : n < 2 ^ 64 = omega (arith, h) in
    AreWords-in_name (decimal n) (decimal_nonempty n fits) (all-weaker is_digit is_word_byte (λ c d. in_name-word c (digit-in_name c d)) (decimal n) (decimal-digits n fits))

-- the bytes after a transition's name
sign-word : (e : Edge) → is_word_byte (sign_of e) ≡ true
sign-word Rise = refl
sign-word Fall = refl
sign-word Toggle = refl

index-word : (k : ℕ) → k < 1000000000 → list_all is_word_byte (index_text k) ≡ true
index-word k h = elim (cases_Bool (k == 0)) [
  | inl z ↦ ap (λ b. list_all is_word_byte (cond b [] (47 ∷ decimal k))) z
  | inr s ↦ ap (λ b. list_all is_word_byte (cond b [] (47 ∷ decimal k))) s ∙ all-weaker is_digit is_word_byte (λ c d. in_name-word c (digit-in_name c d)) (decimal k) (decimal-digits k (omega (arith, h)))
]

pub AreWords-trans : (name : List ℕ) (e : Edge) (k : ℕ) → is_name name ≡ true → k < 1000000000
    → AreWords (name ++ sign_of e ∷ index_text k) ((name ++ sign_of e ∷ index_text k) ∷ [])
AreWords-trans name e k h i =
    AreWords-in_name (name ++ sign_of e ∷ index_text k) (some name h)
    (all-append is_word_byte name (sign_of e ∷ index_text k) (all-weaker is_in_name is_word_byte in_name-word name (name-bytes name h))
    (and_from (is_word_byte (sign_of e)) (list_all is_word_byte (index_text k)) (sign-word e) (index-word k i)))
  where
    some : (w : List ℕ) → is_name w ≡ true → 0 < length (w ++ sign_of e ∷ index_text k)
    some [] p = absurd (false≢true p)
    some (c ∷ cs) p = omega arith
