-- A line's words by blanks alone, and its words as the lexer gives them: they are the same unless a byte that is a word by itself stands among them, and no signal has such a name.
use Rattle.std.proofs.Common.{◌≡◌, ◌+◌, ℕ, Bool, true, false, not, nat_le, ◌&&◌, ◌||◌, List, [], ◌∷◌, cond, map, length, All, bytes_eq, IsTrue, Result, Ok, Err, refl, sym, ap, ◌∙◌, subst, inl, inr, arith}
use Rattle.std.specs.List.{list_any, list_all}
use Rattle.std.proofs.Math.Bool.{or-false}
use Rattle.std.proofs.lemmas.Bool.{cases_Bool, and_parts, or_parts, not-true, false≢true}
use Rattle.stg_net.proofs.NameBytes.{begins-in_name}
use Rattle.std.proofs.lemmas.Bool.Decides.{nat_tests}
use Rattle.std.proofs.lemmas.Slice.Eq.{bytes_eq-Decides}
use Rattle.stg_net.specs.declared.signal.Signal.{Signal}
use Rattle.stg_net.specs.Names.{begins_name, is_in_name, is_name}
use Rattle.astg_lex.specs.Words.{WordAt, is_blank, is_single, is_joining, begins_joining, longer, words_at}
use Rattle.stg_laws.specs.Stgs.{is_driven}
use Rattle.stg_partition.specs.declared.error.GroupError.{GroupError}
use Rattle.stg_partition.specs.declared.error.GroupError.TheVariants as errors
use Rattle.stg_partition.specs.PartitionText.{GroupRow, begins_word, with_first_byte, runs_of, is_output_named, names_output, row_tested}
use Rattle.stg_laws.proofs.KnownSignals.{passing}

-- the words as the lexer gives them, without their places
abbrev lexed_with : ℕ → List ℕ → GroupRow → GroupRow
lexed_with b bs ws = cond (is_blank b) ws (cond (is_joining b && begins_joining bs) (with_first_byte b ws) ((b ∷ []) ∷ ws))

abbrev pub lexed : List ℕ → GroupRow
lexed [] = []
lexed (b ∷ bs) = lexed_with b bs (lexed bs)

abbrev words_of_views : List WordAt → GroupRow
words_of_views words = map (λ (w : WordAt). w.text) words

texts-longer : (a b : ℕ) (ws : List WordAt) → words_of_views (longer a b ws) ≡ with_first_byte b (words_of_views ws)
texts-longer a b [] = refl
texts-longer a b (w ∷ ws) = refl

texts-cond : (c : Bool) (us vs : List WordAt) → words_of_views (cond c us vs) ≡ cond c (words_of_views us) (words_of_views vs)
texts-cond true us vs = refl
texts-cond false us vs = refl

-- where in the text the words stand doesn't change them
pub lexed-at : (a : ℕ) (bs : List ℕ) → words_of_views (words_at a bs) ≡ lexed bs
lexed-at a [] = refl
lexed-at a (b ∷ bs) =
    let later = words_at (a + 1) bs in
    let joins = is_joining b && begins_joining bs in
    let alone : List WordAt = record { text = b ∷ []; start = a; end = a + 1 } ∷ later in
    texts-cond (is_blank b) later (cond joins (longer a b later) alone)
    ∙ ap (λ ws. cond (is_blank b) (words_of_views later) ws) (texts-cond joins (longer a b later) alone ∙ ap (λ ws. cond joins ws ((b ∷ []) ∷ words_of_views later)) (texts-longer a b later))
    ∙ ap (lexed_with b bs) (lexed-at (a + 1) bs)

-- whether one of the bytes is a word by itself
abbrev pub has_single : List ℕ → Bool
has_single w = list_any is_single w

blank_not_single : (b : ℕ) → is_blank b ≡ true → is_single b ≡ false
blank_not_single b h = grind (arith, nat_tests)

-- without such a byte both give the same words

same_begin : (bs : List ℕ) → has_single bs ≡ false → begins_joining bs ≡ begins_word bs
same_begin [] h = refl
same_begin (b ∷ bs) h = let p = or_parts (is_single b) (has_single bs) h in same (is_blank b) (is_single b) p.0
  where
    same : (x y : Bool) → y ≡ false → not (x || y) ≡ not x
    same true y e = refl
    same false y e = ap not e

pub lexed-runs : (bs : List ℕ) → has_single bs ≡ false → lexed bs ≡ runs_of bs
lexed-runs [] h = refl
lexed-runs (b ∷ bs) h =
    let p = or_parts (is_single b) (has_single bs) h in
    ap (lexed_with b bs) (lexed-runs bs p.1) ∙ same (is_blank b) (is_single b) (begins_joining bs) (begins_word bs) (runs_of bs) (with_first_byte b (runs_of bs)) ((b ∷ []) ∷ runs_of bs) p.0 (same_begin bs p.1)
  where
    same : (x y s t : Bool) (us vs ws : GroupRow) → y ≡ false → s ≡ t → cond x us (cond (not (x || y) && s) vs ws) ≡ cond x us (cond t vs ws)
    same true y s t us vs ws e f = refl
    same false y s t us vs ws e f = ap (λ z. cond (not z && s) vs ws) e ∙ ap (λ z. cond z vs ws) f

-- with such a byte both have a word with one

abbrev any_single : GroupRow → Bool
any_single ws = list_any has_single ws

-- a word stands in front
abbrev has_front : GroupRow → Bool
has_front [] = false
has_front (w ∷ ws) = true

or_turn : (a b c : Bool) → ((a || b) || c) ≡ (a || (b || c))
or_turn true b c = refl
or_turn false b c = refl

with_front-any : (b : ℕ) (ws : GroupRow) → has_front ws ≡ true → any_single (with_first_byte b ws) ≡ (is_single b || any_single ws)
with_front-any b [] h = absurd (false≢true h)
with_front-any b (w ∷ ws) h = or_turn (is_single b) (has_single w) (any_single ws)

with_front-front : (b : ℕ) (ws : GroupRow) → has_front ws ≡ true → has_front (with_first_byte b ws) ≡ true
with_front-front b [] h = absurd (false≢true h)
with_front-front b (w ∷ ws) h = refl

runs_front : (bs : List ℕ) → begins_word bs ≡ true → has_front (runs_of bs) ≡ true
runs_front [] h = absurd (false≢true h)
runs_front (b ∷ bs) h = elim (cases_Bool (begins_word bs)) [
  | inl k ↦ rw (not-true (is_blank b) h) (rw k (with_front-front b (runs_of bs) (runs_front bs k)))
  | inr k ↦ rw (not-true (is_blank b) h) (rw k refl)
]

runs-any : (bs : List ℕ) → any_single (runs_of bs) ≡ has_single bs
runs-any [] = refl
runs-any (b ∷ bs) = elim (cases_Bool (is_blank b)) [
  | inl k ↦ ap (λ c. any_single (cond c (runs_of bs) (cond (begins_word bs) (with_first_byte b (runs_of bs)) ((b ∷ []) ∷ runs_of bs)))) k ∙ runs-any bs ∙ ap (λ c. c || has_single bs) (sym (blank_not_single b k))
  | inr k ↦ ap (λ c. any_single (cond c (runs_of bs) (cond (begins_word bs) (with_first_byte b (runs_of bs)) ((b ∷ []) ∷ runs_of bs)))) k ∙ elim (cases_Bool (begins_word bs)) [
    | inl l ↦ ap (λ c. any_single (cond c (with_first_byte b (runs_of bs)) ((b ∷ []) ∷ runs_of bs))) l ∙ with_front-any b (runs_of bs) (runs_front bs l) ∙ ap (λ c. is_single b || c) (runs-any bs)
    | inr l ↦ ap (λ c. any_single (cond c (with_first_byte b (runs_of bs)) ((b ∷ []) ∷ runs_of bs))) l ∙ ap (λ c. c || any_single (runs_of bs)) (or-false (is_single b)) ∙ ap (λ c. is_single b || c) (runs-any bs)
  ]
]

joining_not_blank : (x y : Bool) → not (x || y) ≡ true → x ≡ false
joining_not_blank true y h = absurd (false≢true h)
joining_not_blank false y h = refl

lexed_front : (bs : List ℕ) → begins_joining bs ≡ true → has_front (lexed bs) ≡ true
lexed_front [] h = absurd (false≢true h)
lexed_front (b ∷ bs) h = ap (λ c. has_front (cond c (lexed bs) (cond (is_joining b && begins_joining bs) (with_first_byte b (lexed bs)) ((b ∷ []) ∷ lexed bs)))) (joining_not_blank (is_blank b) (is_single b) h) ∙ elim (cases_Bool (is_joining b && begins_joining bs)) [
  | inl k ↦ ap (λ c. has_front (cond c (with_first_byte b (lexed bs)) ((b ∷ []) ∷ lexed bs))) k ∙ with_front-front b (lexed bs) (lexed_front bs (and_parts (is_joining b) (begins_joining bs) k).1)
  | inr k ↦ ap (λ c. has_front (cond c (with_first_byte b (lexed bs)) ((b ∷ []) ∷ lexed bs))) k
]

lexed-any : (bs : List ℕ) → any_single (lexed bs) ≡ has_single bs
lexed-any [] = refl
lexed-any (b ∷ bs) = elim (cases_Bool (is_blank b)) [
  | inl k ↦ ap (λ c. any_single (cond c (lexed bs) (cond (is_joining b && begins_joining bs) (with_first_byte b (lexed bs)) ((b ∷ []) ∷ lexed bs)))) k ∙ lexed-any bs ∙ ap (λ c. c || has_single bs) (sym (blank_not_single b k))
  | inr k ↦ ap (λ c. any_single (cond c (lexed bs) (cond (is_joining b && begins_joining bs) (with_first_byte b (lexed bs)) ((b ∷ []) ∷ lexed bs)))) k ∙ elim (cases_Bool (is_joining b && begins_joining bs)) [
    | inl l ↦ ap (λ c. any_single (cond c (with_first_byte b (lexed bs)) ((b ∷ []) ∷ lexed bs))) l ∙ with_front-any b (lexed bs) (lexed_front bs (and_parts (is_joining b) (begins_joining bs) l).1) ∙ ap (λ c. is_single b || c) (lexed-any bs)
    | inr l ↦ ap (λ c. any_single (cond c (with_first_byte b (lexed bs)) ((b ∷ []) ∷ lexed bs))) l ∙ ap (λ c. c || any_single (lexed bs)) (or-false (is_single b)) ∙ ap (λ c. is_single b || c) (lexed-any bs)
  ]
]

-- no name has such a byte

name_byte : (c : ℕ) → is_in_name c ≡ true → is_single c ≡ false
name_byte c h = grind (arith, nat_tests)

name_bytes : (cs : List ℕ) → list_all is_in_name cs ≡ true → has_single cs ≡ false
name_bytes [] h = refl
name_bytes (c ∷ cs) h =
    let p = and_parts (is_in_name c) (list_all is_in_name cs) h in
    ap (λ b. b || has_single cs) (name_byte c p.0) ∙ name_bytes cs p.1

name_single : (w : List ℕ) → is_name w ≡ true → has_single w ≡ false
name_single [] h = absurd (false≢true h)
name_single (c ∷ cs) h =
    let p = and_parts (begins_name c && nat_le (length cs) 99) (list_all is_in_name cs) h in
    let q = and_parts (begins_name c) (nat_le (length cs) 99) p.0 in
    ap (λ b. b || has_single cs) (name_byte c (begins-in_name c q.0)) ∙ name_bytes cs p.1

-- each of the signals has a name of the form
abbrev pub AreNamed : List Signal → Type 0
AreNamed signals = All (λ (s : Signal). IsTrue (is_name s.name)) signals

output_single : (signals : List Signal) (w : List ℕ) → AreNamed signals → names_output signals w ≡ true → has_single w ≡ false
output_single signals w named e =
    let f = passing (is_output_named w) signals e in
    let p = and_parts (is_driven f.item.kind) (bytes_eq f.item.name w) f.passes in
    let same : f.item.name ≡ w = (bytes_eq-Decides f.item.name w).0 p.1 in
    let P : Signal → Type 0 = λ s. is_name s.name ≡ true in
    let name : is_name f.item.name ≡ true = subst P (f.item_is f.item) (named f.at f.item f.inside) in
    name_single w (ap is_name (sym same) ∙ name)

outputs_single : (signals : List Signal) (ws : GroupRow) → AreNamed signals → list_all (names_output signals) ws ≡ true → any_single ws ≡ false
outputs_single signals [] named e = refl
outputs_single signals (w ∷ ws) named e =
    let p = and_parts (names_output signals w) (list_all (names_output signals) ws) e in
    ap (λ b. b || any_single ws) (output_single signals w named p.0) ∙ outputs_single signals ws named p.1

no_outputs : (signals : List Signal) (ws : GroupRow) → AreNamed signals → any_single ws ≡ true → list_all (names_output signals) ws ≡ false
no_outputs signals ws named h = elim (cases_Bool (list_all (names_output signals) ws)) [
  | inl e ↦ absurd (false≢true (sym (outputs_single signals ws named e) ∙ h))
  | inr e ↦ e
]

-- the test of a line is the same for both
pub lexed-tested : (signals : List Signal) (number : ℕ) (before : List GroupRow) (bs : List ℕ) → AreNamed signals → row_tested signals number before (lexed bs) ≡ row_tested signals number before (runs_of bs)
lexed-tested signals number before bs named = elim (cases_Bool (has_single bs)) [
  | inl h ↦ rw (no_outputs signals (lexed bs) named (lexed-any bs ∙ h)) (rw (no_outputs signals (runs_of bs) named (runs-any bs ∙ h)) refl)
  | inr h ↦ ap (row_tested signals number before) (lexed-runs bs h)
]

-- and where a line passes it, both give the same words
pub lexed-passed : (signals : List Signal) (number : ℕ) (before : List GroupRow) (bs : List ℕ) → AreNamed signals → row_tested signals number before (lexed bs) ≡ Ok tt → lexed bs ≡ runs_of bs
lexed-passed signals number before bs named e = elim (cases_Bool (has_single bs)) [
  | inr h ↦ lexed-runs bs h
  | inl h ↦ refused (errors.UnknownOutput number) (rw (no_outputs signals (lexed bs) named (lexed-any bs ∙ h)) at e)
]
  where
    refused : (f : GroupError) → ◌≡◌ {A = Result (Unit {0}) GroupError} (Err f) (Ok tt) → lexed bs ≡ runs_of bs
    refused f p = absurd (cc)
