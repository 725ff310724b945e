-- The words of a run that serves.
use Rattle.std.proofs.Common.{◌≡◌, ◌∙◌, sym, ap, ap₂, refl, arith, ℕ, ◌<◌, ◌≤◌, Bool, true, false, cond, ◌&&◌, ◌||◌, true≢false, List, [], ◌∷◌, length, map, Option, None, Some, is_some, codes}
use Rattle.std.specs.Prelude.{String}
use Rattle.std.specs.String.{string_bytes}
use Rattle.std.specs.declared.alloc.Global.{Global}
use Rattle.std.specs.Option.{option_map_or, option_and_then, option_or, IsSomeAnd}
use Rattle.std.specs.Str.{bytes_eq}
use Rattle.desij_words.specs.Words.{Text, after_prefix, as_file, is_file_word, number_up_to}
use Rattle.desij_words.specs.Serving.{Serving, serving_from, serving_with, with_joined, with_next, serving_after, serving_in, serving_of, FindsServing}
use Rattle.desij_words.specs.inner.Served.{are_values, is_joined, is_option, are_served, are_serving}

or-some : {A : Type 0} (o p : Option A) → is_some (option_or o p) ≡ (is_some o || is_some p)
or-some None p = refl
or-some (Some x) p = refl

-- one of three
or-first : (a b c : Bool) → (a || (b || c)) ≡ ((a || b) || c)
or-first true b c = refl
or-first false b c = refl

of-three : {A : Type 0} (o p q : Option A) (a b c : Bool) → is_some o ≡ a → is_some p ≡ b → is_some q ≡ c → is_some (option_or o (option_or p q)) ≡ ((a || b) || c)
of-three o p q a b c d e f =
    or-some o (option_or p q) ∙ ap₂ (λ x y. x || y) d (or-some p q ∙ ap₂ (λ x y. x || y) e f) ∙ or-first a b c

from-some : (addr count : Text) (database : Option Text) → is_some (serving_from addr count database) ≡ are_values addr count
from-some addr count database = by (is_file_word addr) (number_up_to 1000000 count)
  where
    by : (b : Bool) (o : Option ℕ) → is_some {T = Serving} (option_and_then (λ (a : Text). option_and_then (λ (n : ℕ). Some (record { addr = a; count = n; database = database })) o) (cond b (Some addr) None)) ≡ (b && is_some o)
    by true None = refl
    by true (Some n) = refl
    by false o = refl

with-some : (file addr count : Text) → is_some (serving_with file addr count) ≡ (is_file_word file && are_values addr count)
with-some file addr count = by (is_file_word file) (from-some addr count (Some file))
  where
    by : (b : Bool) → is_some (serving_from addr count (Some file)) ≡ are_values addr count
        → is_some (option_and_then (λ (f : Text). serving_from addr count (Some f)) (cond b (Some file) None)) ≡ (b && are_values addr count)
    by true e = e
    by false e = refl

joined-some : (word addr count : Text) → is_some (with_joined word addr count) ≡ (is_joined word && are_values addr count)
joined-some word addr count = by (after_prefix (codes "--database=") word)
  where
    by : (o : Option Text) → is_some (option_and_then (λ (file : Text). serving_with file addr count) o) ≡ (option_map_or is_file_word o false && are_values addr count)
    by None = refl
    by (Some file) = with-some file addr count

next-some : (word file addr count : Text) → is_some (with_next word file addr count) ≡ (is_option word file && are_values addr count)
next-some word file addr count = by (bytes_eq word (codes "--database")) (with-some file addr count)
  where
    by : (b : Bool) → is_some (serving_with file addr count) ≡ (is_file_word file && are_values addr count)
        → is_some (cond b (serving_with file addr count) None) ≡ ((b && is_file_word file) && are_values addr count)
    by true e = e
    by false e = refl

-- words ask for something exactly where they are of the form
pub after-some : (words : List Text) → is_some (serving_after words) ≡ are_served words
after-some [] = refl
after-some (a ∷ []) = refl
after-some (a ∷ b ∷ []) = from-some a b None
after-some (a ∷ b ∷ c ∷ []) =
    of-three (with_joined a b c) (with_joined b a c) (with_joined c a b)
    (is_joined a && are_values b c) (is_joined b && are_values a c) (is_joined c && are_values a b)
    (joined-some a b c) (joined-some b a c) (joined-some c a b)
after-some (a ∷ b ∷ c ∷ d ∷ []) =
    of-three (with_next a b c d) (with_next b c a d) (with_next c d a b)
    (is_option a b && are_values c d) (is_option b c && are_values a d) (is_option c d && are_values a b)
    (next-some a b c d) (next-some b c a d) (next-some c d a b)
after-some (a ∷ b ∷ c ∷ d ∷ e ∷ ws) = refl

pub few_words : (words : List (String Global)) → length words < 2 → false ≡ are_served (map (λ (w : String Global). string_bytes w) words)
few_words [] h = refl
few_words (a ∷ []) h = refl
few_words (a ∷ b ∷ ws) h = absurd (omega (arith, h))

pub many_words : (words : List (String Global)) → 5 ≤ length words → false ≡ are_served (map (λ (w : String Global). string_bytes w) words)
many_words [] h = absurd (omega (arith, h))
many_words (a ∷ []) h = absurd (omega (arith, h))
many_words (a ∷ b ∷ []) h = absurd (omega (arith, h))
many_words (a ∷ b ∷ c ∷ []) h = absurd (omega (arith, h))
many_words (a ∷ b ∷ c ∷ d ∷ []) h = absurd (omega (arith, h))
many_words (a ∷ b ∷ c ∷ d ∷ e ∷ ws) h = refl

in-some : (words : List Text) → is_some (serving_in words) ≡ are_serving words
in-some [] = refl
in-some (first ∷ words) = by (bytes_eq first (codes "serve")) (after-some words)
  where
    by : (b : Bool) → is_some (serving_after words) ≡ are_served words → is_some (cond b (serving_after words) None) ≡ (b && are_served words)
    by true e = e
    by false e = refl

pub of-some : (words : List (String Global)) → is_some (serving_of words) ≡ are_serving (map (λ (w : String Global). string_bytes w) words)
unfolding serving_of
of-some words = in-some (map (λ (w : String Global). string_bytes w) words)

pub is_none : {A : Type 0} (o : Option A) → is_some o ≡ false → None ≡ o
is_none None e = refl
is_none (Some x) e = absurd (true≢false e)

-- what is found is what the words ask for
pub read-found : (o r : Option Serving) (P : Serving → Type 0) → IsSomeAnd o P → ((s : Serving) → P s → r ≡ Some s) → r ≡ o
read-found None r P p h = absurd p
read-found (Some s) r P p h = h s p
