-- The commands that words ask for.
use Rattle.std.proofs.Common.{◌≡◌, ℕ, ◌+◌, ◌*◌, ◌≤◌, Bool, true, false, cond, ◌&&◌, true≢false, nat_le, List, [], ◌∷◌, Option, None, Some, refl, sym, ◌∙◌, subst, arith, map}
use Rattle.std.specs.List.{list_all}
use Rattle.std.specs.Option.{option_map, IfSome, IsSome, IsSomeAnd}
use Rattle.std.specs.Char.{digit_value}
use Rattle.std.specs.Str.Parse.{digits_value, digits_value_after}
use Rattle.std.specs.String.{string_bytes}
use Rattle.std.specs.Prelude.{String}
use Rattle.std.specs.declared.alloc.Global.{Global}
use Rattle.std.proofs.lemmas.Bool.{leb-true}
use Rattle.std.proofs.lemmas.Str.{digit_value_digit}
use Rattle.stg_net.specs.Names.{is_digit}
use Rattle.desij_words.specs.declared.words.Command.{Command as Told}
use Rattle.desij_words.specs.declared.words.form.Action.{Action}
use Rattle.desij_words.specs.declared.words.form.Action.TheVariants as action
use Rattle.desij_words.specs.Words.{Text, Command, Decompose, Measure, Given, Positional, Workers, Partition, Steps, begins_number, number_up_to, values_of, spec_from, count_from, workers_from, partition_from, steps_from, decompose_of, measure_of, asked_in, command_of}
use Rattle.desij_words.specs.Commands.{command_told, IsInBounds}
use Rattle.desij_words.specs.inner.Pass.{action_in}
use Rattle.desij_words.proofs.WordLemmas.{none_some, some_same}
use Rattle.desij_words.proofs.FormLemmas.{Tells, action_in-tells}
use Rattle.desij_words.proofs.ClapMatches.{IsActionOf, action-asked, and_then-is, measure-made, asked-decompose, asked-measure}

-- ---- numbers are at least 1

after-le : (n : ℕ) (ds : Text) → n ≤ digits_value_after 10 n ds
after-le n [] = omega arith
after-le n (c ∷ cs) = omega (arith, after-le (n * 10 + digit_value c) cs)

value-some : (w : Text) → begins_number w ≡ true → 1 ≤ digits_value 10 w
value-some [] e = absurd (true≢false (sym e))
value-some (c ∷ cs) e = by (nat_le 49 c) (nat_le c 57) refl refl e
  where
    by : (a b : Bool) → nat_le 49 c ≡ a → nat_le c 57 ≡ b → (a && b) ≡ true → 1 ≤ digits_value 10 (c ∷ cs)
    by true true p q e =
        let low = leb-true 49 c p in
        let high = leb-true c 57 q in
        omega (arith, low, high, digit_value_digit c (omega (arith, low), high), after-le (0 * 10 + digit_value c) cs)
    by true false p q e = absurd (true≢false (sym e))
    by false b p q e = absurd (true≢false (sym e))

number-within : (most : ℕ) (w : Text) (n : ℕ) → number_up_to most w ≡ Some n → (1 ≤ n) × (n ≤ most)
number-within most w n e = by (begins_number w) (list_all is_digit w) (nat_le (digits_value 10 w) most) refl refl e
  where
    by : (a b q : Bool) → begins_number w ≡ a → nat_le (digits_value 10 w) most ≡ q → cond ((a && b) && q) (Some (digits_value 10 w)) None ≡ Some n → (1 ≤ n) × (n ≤ most)
    by true true true p l e =
        let is : digits_value 10 w ≡ n = some_same (digits_value 10 w) n e in
        (omega (arith, is, value-some w p), omega (arith, is, leb-true (digits_value 10 w) most l))
    by true true false p l e = absurd (none_some n e)
    by true false q p l e = absurd (none_some n e)
    by false b q p l e = absurd (none_some n e)

workers-within : (vs : List Text) (n : ℕ) → workers_from vs ≡ Some n → (1 ≤ n) × (n ≤ 64)
workers-within [] n e = let is : 1 ≡ n = some_same 1 n e in (omega (arith, is), omega (arith, is))
workers-within (v ∷ []) n e = number-within 64 v n e
workers-within (v ∷ w ∷ vs) n e = absurd (none_some n e)

count-within : (vs : List Text) (n : ℕ) → count_from vs ≡ Some n → (1 ≤ n) × (n ≤ 248)
count-within [] n e = absurd (none_some n e)
count-within (v ∷ []) n e = number-within 248 v n e
count-within (v ∷ w ∷ vs) n e = absurd (none_some n e)

-- ---- commands are within their bounds

decompose-within : (gs : List Given) (command : Command) → decompose_of gs ≡ Some command → IsInBounds command
decompose-within gs command made =
    let s = and_then-is (spec_from (values_of Positional gs)) _ command made in
    let n = and_then-is (workers_from (values_of Workers gs)) _ command s.2 in
    let p = and_then-is (partition_from (values_of Partition gs)) _ command n.2 in
    let f = and_then-is (steps_from (values_of Steps gs)) _ command p.2 in
    subst IsInBounds (some_same (Decompose s.0 n.0 p.0 f.0) command f.2) (workers-within (values_of Workers gs) n.0 n.1)

measure-within : (gs : List Given) (command : Command) → measure_of gs ≡ Some command → IsInBounds command
measure-within gs command made =
    let s = and_then-is (count_from (values_of Positional gs)) _ command (measure-made gs command made) in
    let n = and_then-is (workers_from (values_of Workers gs)) _ command s.2 in
    let w = workers-within (values_of Workers gs) n.0 n.1 in
    subst IsInBounds (some_same (Measure s.0 n.0) command n.2) (count-within (values_of Positional gs) s.0 s.1, w.0, w.1)

asked-within : (words : List Text) → IfSome (asked_in words) IsInBounds
asked-within words = by (action_in words) (action_in-tells words)
  where
    by : (o : Option Action) → Tells words o → IfSome (asked_in words) IsInBounds
    by None e = subst (λ (r : Option Command). IfSome r IsInBounds) (sym e) tt
    by (Some action.Decompose) a = subst (λ (r : Option Command). IfSome r IsInBounds) (sym (asked-decompose words a)) (decompose-within a.gs a.command a.made)
    by (Some action.Measure) a = subst (λ (r : Option Command). IfSome r IsInBounds) (sym (asked-measure words a)) (measure-within a.gs a.command a.made)

-- what was read of the words is within its bounds
pub told-within : (words : List (String Global)) (r : Option Told) → option_map command_told r ≡ command_of words → IfSome r (λ (c : Told). IsInBounds (command_told c))
unfolding command_of
told-within words r e = by r (subst (λ (o : Option Command). IfSome o IsInBounds) (sym e) (asked-within (map (λ (w : String Global). string_bytes w) words)))
  where
    by : (r : Option Told) → IfSome (option_map command_told r) IsInBounds → IfSome r (λ (c : Told). IsInBounds (command_told c))
    by None h = tt
    by (Some c) h = h

-- the words ask for what the pass found
pub found-asked : (words : List (String Global)) (o p : Option Action) → o ≡ action_in (map (λ (w : String Global). string_bytes w) words) → o ≡ p → IsActionOf p (command_of words)
unfolding command_of
found-asked words o p e f = subst (λ (q : Option Action). IsActionOf q (command_of words)) (sym e ∙ f) (action-asked (map (λ (w : String Global). string_bytes w) words))

-- a command of both kinds of facts is the one that was read
pub read-as : (o r : Option Command) (P Q : Command → Type 0) → IsSomeAnd o P → IsSomeAnd o Q → ((command : Command) → P command → Q command → r ≡ Some command) → r ≡ o
read-as None r P Q p q h = absurd p
read-as (Some command) r P Q p q h = h command p q

-- words of a command are of the form
pub some-asked : (o : Option Command) (P : Command → Type 0) → IsSomeAnd o P → IsSome o
some-asked None P p = absurd p
some-asked (Some command) P p = refl
