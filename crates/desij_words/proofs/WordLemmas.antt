-- How words are read.
use Rattle.std.proofs.Common.{◌≡◌, ◌∙◌, sym, ap, ap₂, refl, ℕ, ◌<◌, ◌^◌, ◌==◌, ◌&&◌, Bool, true, false, cond, true≢false, nat_le, [], ◌∷◌, ◌++◌, drop, get_or, length, Option, None, Some, Result, Ok, Err, arith, rules, eq-eqb, Bor, is_some}
use Rattle.std.specs.Prelude.{◌≢◌}
use Rattle.std.specs.List.{list_all}
use Rattle.std.specs.Option.{MatchOption, option_copied}
use Rattle.std.specs.Str.Parse.{ParsesUnsigned, digits_value}
use Rattle.std.specs.Str.Pattern.{FindsTextPrefix, StripsPrefix}
use Rattle.std.proofs.lemmas.Bool.{eqb-true, leb-true}
use Rattle.std.proofs.lemmas.Str.Parse.{IsNumeralModel, numerals_by_value, parse_plain}
use Rattle.stg_net.specs.Names.{is_digit}
use Rattle.desij_words.specs.Words.{Text, after_prefix, begins_number, number_up_to}

pub none_some : {A : Type 0} (x : A) → ◌≡◌ {A = Option A} None (Some x) → ⊥
none_some x e = true≢false (sym (ap is_some e))

pub some_same : {A : Type 0} (x y : A) → ◌≡◌ {A = Option A} (Some x) (Some y) → x ≡ y
some_same x y e = cc

-- ---- what follows a beginning

pub after_is : (beginning word value : Text) → after_prefix beginning word ≡ Some value → word ≡ beginning ++ value
after_is [] w v e = some_same w v e
after_is (c ∷ cs) [] v e = absurd (none_some v e)
after_is (c ∷ cs) (x ∷ w) v e = by (c == x) refl e (after_is cs w v)
  where
    by : (b : Bool) → (c == x) ≡ b → cond b (after_prefix cs w) None ≡ Some v → (after_prefix cs w ≡ Some v → w ≡ cs ++ v) → x ∷ w ≡ c ∷ (cs ++ v)
    by true same e later = ap₂ (λ (y : ℕ) (ys : Text). y ∷ ys) (sym (eqb-true c x same)) (later e)
    by false differ e later = absurd (none_some v e)

pub after-append : (beginning value : Text) → after_prefix beginning (beginning ++ value) ≡ Some value
after-append [] v = refl
after-append (c ∷ cs) v = rw (eq-eqb c c refl) (after-append cs v)

drop-nothing : (xs : Text) → drop 0 xs ≡ xs
drop-nothing [] = refl
drop-nothing (x ∷ xs) = refl

-- `strip_prefix` gives it
pub after-stripped : (n s : Text) (r : Option (Bor Text)) → MatchOption r (FindsTextPrefix n s None) (λ x. StripsPrefix (FindsTextPrefix n) s x.now) → option_copied r ≡ after_prefix n s
after-stripped n s None h = by (after_prefix n s) refl
  where
    by : (o : Option Text) → after_prefix n s ≡ o → None ≡ o
    by None e = refl
    by (Some v) e = absurd (h v (drop-nothing s ∙ after_is n s v e))
after-stripped n s (Some x) h =
    let found : s ≡ n ++ drop h.0 s = h.1.1 in
    ap Some h.2 ∙ sym (after-append n (drop h.0 s)) ∙ ap (after_prefix n) (sym found)

-- ---- numbers

own : IsNumeralModel (λ ds. list_all is_digit ds ≡ true) (digits_value 10)
own = numerals_by_value _ (search rules)

-- the number read, where it is at most that
abbrev pub up_to : {E : Type 0} → ℕ → Result ℕ E → Option ℕ
up_to most (Ok n) = cond (nat_le n most) (Some n) None
up_to most (Err e) = None

no_plus : (w : Text) → begins_number w ≡ true → get_or w 0 0 ≢ 43
no_plus [] e = absurd (true≢false (sym e))
no_plus (c ∷ cs) e = λ p. by (nat_le 49 c) refl e p
  where
    by : (b : Bool) → nat_le 49 c ≡ b → (b && nat_le c 57) ≡ true → c ≡ 43 → ⊥
    by true h e p = omega (arith, leb-true 49 c h)
    by false h e p = true≢false (sym e)

some_bytes : (w : Text) → begins_number w ≡ true → 0 < length w
some_bytes [] e = absurd (true≢false (sym e))
some_bytes (c ∷ cs) e = omega arith

pub number-parsed : {E : Type 0} (w : Text) (most : ℕ) (r : Result ℕ E) → most < 2 ^ 32 → begins_number w ≡ true → ParsesUnsigned 32 10 w r → up_to most r ≡ number_up_to most w
number-parsed {E = E} w most (Ok n) small begins h =
    let told = parse_plain own {E = E} 32 w (Ok n) h (no_plus w begins) in
    rw (begins, told.0.0, told.1) refl
number-parsed {E = E} w most (Err e) small begins h =
    let told = parse_plain own {E = E} 32 w (Err e) h (no_plus w begins) in
    rw (begins) (by (list_all is_digit w) (nat_le (digits_value 10 w) most) refl refl told)
  where
    by : (a b : Bool) → list_all is_digit w ≡ a → nat_le (digits_value 10 w) most ≡ b → ¬ ((list_all is_digit w ≡ true) × (0 < length w) × (digits_value 10 w < 2 ^ 32))
        → ◌≡◌ {A = Option ℕ} None (cond (a && b) (Some (digits_value 10 w)) None)
    by true true p q lacks = absurd (lacks (p, some_bytes w begins, omega (arith, leb-true (digits_value 10 w) most q)))
    by true false p q lacks = refl
    by false b p q lacks = refl
