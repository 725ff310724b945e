-- A free prefix is found, and the places' names are names of their own.
use Rattle.std.proofs.Common.{◌≡◌, ◌≢◌, ◌+◌, ◌^◌, ◌<◌, ◌≤◌, ◌==◌, ◌||◌, nat_le, ℕ, zero, suc, List, [], ◌∷◌, ◌++◌, Bool, true, false, cond, length, drop, get_or, refl, sym, ap, ◌∙◌, arith, inl, inr, append_assoc, length-append}
use Rattle.std.proofs.lemmas.Bool.{cases_Bool, cases_lt, and_from, not-true, not-false, ne_eqb, le-leb, false_from_ne_true}
use Rattle.std.proofs.lemmas.Bool.Decides.{Decides-eqb}
use Rattle.std.proofs.lemmas.List.{append_cancel_left}
use Rattle.std.proofs.lemmas.List.FromFn.{get_or-range_with_len, length-range_with_len}
use Rattle.std.proofs.lemmas.List.Sums.{fails_before_first, passes_at_first}
use Rattle.std.proofs.lemmas.Slice.Eq.{bytes_eq-Decides, starts_is}
use Rattle.std.proofs.lemmas.Fmt.{decimal_injective, length-decimal-le}
use Rattle.std.specs.List.{list_any, list_all, range_with_len, take_while}
use Rattle.std.specs.Str.{bytes_eq}
use Rattle.std.specs.Prelude.{codes, decimal}
use Rattle.stg_net.specs.declared.signal.Signal.{Signal}
use Rattle.stg_net.specs.Names.{is_digit, is_in_name, is_name}
use Rattle.astg_write.specs.PlaceNames.{prefix_text, begins_with, is_free, prefix_number, place_prefix, numbered_name}
use Rattle.astg_lex.proofs.ListLemmas.{all-append, drop-none}
use Rattle.astg_write.proofs.WordForms.{decimal-digits, digit-in_name, all-weaker}
use Rattle.astg_write.proofs.NodeForms.{take-front}

abbrev begins : ℕ → Signal → Bool
begins k s = begins_with (prefix_text k) s

-- the digits after the p are the prefix's number
digits-after : (k : ℕ) (s : Signal) → 1 ≤ k → k < 2 ^ 64 → begins k s ≡ true → take_while is_digit (drop 1 s.name) ≡ decimal k
digits-after k s some small h =
    let rest = drop (length (prefix_text k)) s.name in
    let e : s.name ≡ prefix_text k ++ rest = (starts_is Decides-eqb s.name (prefix_text k) (begins k s) refl).0 h in
    let t : prefix_text k ≡ codes "p" ++ decimal k ++ codes "_" = ap (λ b. cond b (codes "p") (codes "p" ++ decimal k ++ codes "_")) (ne_eqb k 0 (λ z. absurd (omega (arith, z, some)))) in
    ap (λ w. take_while is_digit (drop 1 w)) (e ∙ ap (λ p. p ++ rest) t)
    ∙ ap (take_while is_digit) (drop-none ((decimal k ++ codes "_") ++ rest) ∙ append_assoc (decimal k) (codes "_") rest)
    ∙ take-front is_digit (decimal k) 95 rest (decimal-digits k small) refl

-- a name begins with one numbered prefix at most
one-number : (j k : ℕ) (s : Signal) → 1 ≤ j → 1 ≤ k → j < 2 ^ 64 → k < 2 ^ 64 → begins j s ≡ true → begins k s ≡ true → j ≡ k
one-number j k s a b c d h i = decimal_injective j k c d (sym (digits-after j s a c h) ∙ digits-after k s b d i)

-- one where it holds
abbrev one_if : Bool → ℕ
one_if b = cond b 1 0

-- how many of the prefixes 1 to m the name begins with
abbrev hits : Signal → ℕ → ℕ
hits s zero = 0
hits s (suc m) = hits s m + one_if (begins (suc m) s)

hits-none : (s : Signal) (m k : ℕ) → m < k → k < 2 ^ 64 → begins k s ≡ true → hits s m ≡ 0
hits-none s zero k l small h = refl
hits-none s (suc m) k l small h =
    let rest = hits-none s m k (omega (arith, l)) small h in
    let none : begins (suc m) s ≡ false = false_from_ne_true (begins (suc m) s) (λ b. absurd (omega (arith, l, one-number (suc m) k s (omega arith) (omega (arith, l)) (omega (arith, l, small)) small b h))) in
    omega (arith, rest, ap one_if none)

hits-most : (s : Signal) (m : ℕ) → m < 2 ^ 64 → hits s m ≤ 1
hits-most s zero small = omega arith
hits-most s (suc m) small = elim (cases_Bool (begins (suc m) s)) [
  | inl b ↦ omega (arith, hits-none s m (suc m) (omega arith) small b, ap one_if b)
  | inr b ↦ omega (arith, hits-most s m (omega (arith, small)), ap one_if b)
]

-- how many of the prefixes 1 to m are in use
abbrev used : List Signal → ℕ → ℕ
used ss zero = 0
used ss (suc m) = used ss m + one_if (list_any (begins (suc m)) ss)

used-none : (m : ℕ) → used [] m ≡ 0
used-none zero = refl
used-none (suc m) = omega (arith, used-none m)

used-more : (s : Signal) (ss : List Signal) (m : ℕ) → used (s ∷ ss) m ≤ used ss m + hits s m
used-more s ss zero = omega arith
used-more s ss (suc m) =
    let rest = used-more s ss m in
    let one = one-more (begins (suc m) s) (list_any (begins (suc m)) ss) in
    omega (arith, rest, one)
  where
    one-more : (a b : Bool) → one_if (a || b) ≤ one_if b + one_if a
    one-more true true = omega arith
    one-more true false = omega arith
    one-more false true = omega arith
    one-more false false = omega arith

used-most : (ss : List Signal) (m : ℕ) → m < 2 ^ 64 → used ss m ≤ length ss
used-most [] m small = omega (arith, used-none m)
used-most (s ∷ ss) m small = omega (arith, used-more s ss m, hits-most s m small, used-most ss m small)

used-all : (ss : List Signal) (m : ℕ) → ((k : ℕ) → 1 ≤ k → k ≤ m → list_any (begins k) ss ≡ true) → used ss m ≡ m
used-all ss zero h = refl
used-all ss (suc m) h = omega (arith, used-all ss m (λ k a b. h k a (omega (arith, b))), ap one_if (h (suc m) (omega arith) (omega arith)))

module _ (ss : List Signal) (few : length ss ≤ 250) where
  abbrev candidates : List ℕ
  candidates = range_with_len 0 (length ss + 2)

  number-at : (k : ℕ) → k < length ss + 2 → get_or candidates k 0 ≡ k
  number-at k b = omega (arith, get_or-range_with_len 0 (length ss + 2) k 0 b)

  -- n signals leave one of n + 2 prefixes free
  pub number-below : prefix_number ss < length ss + 2
  number-below = elim (cases_lt (prefix_number ss) (length ss + 2)) [
    | inl k ↦ k
    | inr past ↦ (let all = used-all ss (length ss + 1) (λ k a b.
        not-false (list_any (begins k) ss)
        (ap (λ j. is_free ss (prefix_text j)) (sym (number-at k (omega (arith, b)))) ∙ fails_before_first (λ j. is_free ss (prefix_text j)) candidates k 0 (omega (arith, past, b)))) in
        absurd (omega (arith, all, used-most ss (length ss + 1) (omega (arith, few)))))
  ]

  -- the prefix is free
  pub prefix-free : list_any (begins_with (place_prefix ss)) ss ≡ false
  prefix-free = not-true (list_any (begins_with (place_prefix ss)) ss)
      (ap (λ j. is_free ss (prefix_text j)) (sym (number-at (prefix_number ss) number-below))
      ∙ passes_at_first (λ j. is_free ss (prefix_text j)) candidates 0 (omega (arith, number-below, length-range_with_len 0 (length ss + 2))))

  digits-in_name : (k : ℕ) → k < 2 ^ 64 → list_all is_in_name (decimal k) ≡ true
  digits-in_name k small = all-weaker is_digit is_in_name digit-in_name (decimal k) (decimal-digits k small)

  -- what stands in the prefix after the p
  abbrev after_p : ℕ → List ℕ
  after_p k = cond (k == 0) [] (decimal k ++ codes "_")

  prefix-shape : (k : ℕ) → prefix_text k ≡ 112 ∷ after_p k
  prefix-shape k = by_case (k == 0)
    where
      by_case : (b : Bool) → cond b (codes "p") (codes "p" ++ decimal k ++ codes "_") ≡ 112 ∷ cond b [] (decimal k ++ codes "_")
      by_case true = refl
      by_case false = refl

  after-bytes : (k : ℕ) → k < 1000 → list_all is_in_name (after_p k) ≡ true
  after-bytes k small = by_case (k == 0)
    where
      by_case : (b : Bool) → list_all is_in_name (cond b [] (decimal k ++ codes "_")) ≡ true
      by_case true = refl
      by_case false = all-append is_in_name (decimal k) (codes "_") (digits-in_name k (omega (arith, small))) refl

  after-length : (k : ℕ) → k < 1000 → length (after_p k) ≤ 4
  after-length k small = by_case (k == 0)
    where
      by_case : (b : Bool) → length (cond b [] (decimal k ++ codes "_")) ≤ 4
      by_case true = omega arith
      by_case false = omega (arith, length-append (decimal k) (codes "_"), length-decimal-le 3 k (omega arith) (omega (arith, small)) (omega (arith, small)))

  -- how long a place's name is
  pub place-length : (p : ℕ) → p < 9999 → length (numbered_name (place_prefix ss) p) ≤ 9
  place-length p small =
      let k = prefix_number ss in
      let a = after-length k (omega (arith, number-below, few)) in
      let b = length-decimal-le 4 (p + 1) (omega arith) (omega (arith, small)) (omega (arith, small)) in
      let c : length (numbered_name (place_prefix ss) p) ≡ length ((112 ∷ after_p k) ++ decimal (p + 1)) = ap (λ w. length (w ++ decimal (p + 1))) (prefix-shape k) in
      omega (arith, a, b, c, length-append (112 ∷ after_p k) (decimal (p + 1)))

  -- a place's name is a name
  pub place-named : (p : ℕ) → p < 9999 → is_name (numbered_name (place_prefix ss) p) ≡ true
  place-named p small =
      let k = prefix_number ss in
      let below : k < 1000 = omega (arith, number-below, few) in
      let cs = after_p k ++ decimal (p + 1) in
      let a = after-length k below in
      let b = length-decimal-le 4 (p + 1) (omega arith) (omega (arith, small)) (omega (arith, small)) in
      let c = length-append (after_p k) (decimal (p + 1)) in
      ap (λ w. is_name (w ++ decimal (p + 1))) (prefix-shape k)
      ∙ and_from (nat_le (length cs) 99) (list_all is_in_name cs) (le-leb (length cs) 99 (omega (arith, a, b, c)))
      (all-append is_in_name (after_p k) (decimal (p + 1)) (after-bytes k below) (digits-in_name (p + 1) (omega (arith, small))))

-- places of two numbers have two names
pub names-apart : (prefix : List ℕ) (p q : ℕ) → p < 9999 → q < 9999 → p ≢ q → bytes_eq (numbered_name prefix p) (numbered_name prefix q) ≡ false
names-apart prefix p q a b differ = false_from_ne_true (bytes_eq (numbered_name prefix p) (numbered_name prefix q)) (λ h.
    let e = append_cancel_left prefix (decimal (p + 1)) (decimal (q + 1)) ((bytes_eq-Decides (numbered_name prefix p) (numbered_name prefix q)).0 h) in
    let s = decimal_injective (p + 1) (q + 1) (omega (arith, a)) (omega (arith, b)) e in
    differ (omega (arith, s)))
