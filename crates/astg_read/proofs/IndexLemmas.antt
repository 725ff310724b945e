-- The transitions for which words stand have signals that are there and small indices.
use Rattle.std.proofs.Common.{◌≡◌, ℕ, ◌^◌, ◌<◌, List, [], ◌∷◌, Bool, true, false, cond, ◌&&◌, ◌==◌, nat_le, nat_lt, length, inl, inr, refl, sym, ap, subst, Some, None, Option, option_map, option_and_then, arith, drop}
use Rattle.std.proofs.lemmas.Bool.{cases_Bool, and_parts, and_from, leb-true, lt-ltb}
use Rattle.std.specs.List.{list_all}
use Rattle.std.proofs.lemmas.Str.Parse.{digits_value_short}
use Rattle.stg_net.specs.declared.signal.Signal.{Signal}
use Rattle.stg_net.specs.declared.trans.Edge.{Edge}
use Rattle.stg_net.specs.declared.trans.Edge.TheVariants.{Toggle}
use Rattle.std.specs.Str.{bytes_eq}
use Rattle.astg_read.proofs.NumberLemmas.{position-within}
use Rattle.stg_net.specs.declared.trans.TransName.{TransName}
use Rattle.stg_net.specs.Net.{number_of}
use Rattle.stg_net.specs.Names.{is_digit, is_name}
use Rattle.astg_read.specs.Rows.{Word}
use Rattle.astg_lex.specs.Numbers.{value_after, is_number, number}
use Rattle.astg_lex.proofs.DecimalLemmas.{numerals}
use Rattle.astg_read.specs.Names.{WordOfTrans, index_of, change_of, edge_of, read_trans_word}
use Rattle.astg_read.specs.Header.{Declared, is_dummy}
use Rattle.astg_read.specs.Nodes.{front_name, dummy_word, trans_word_parts, with_number, trans_of_word}
use Rattle.astg_read.specs.inner.WellFormed.{is_trans_in}

-- what is inside an option that is there
abbrev inside : (ℕ → Type 0) → Option ℕ → Type 0
inside P None = Unit {0}
inside P (Some n) = P n

pub number-small : (w : Word) → inside (λ n. n < 1000000000) (number w)
number-small w = elim (cases_Bool (is_number w)) [
  | inl h ↦
      let q = and_parts (nat_le 1 (length w) && nat_le (length w) 9) (list_all is_digit w) h in
      let r = and_parts (nat_le 1 (length w)) (nat_le (length w) 9) q.0 in
      let small : value_after 0 w < 10 ^ 9 = digits_value_short numerals w 9 q.1 (leb-true (length w) 9 r.1) in
      subst (inside (λ n. n < 1000000000)) (sym (ap (λ b. cond b (Some (value_after 0 w)) None) h)) small
  | inr h ↦ subst (inside (λ n. n < 1000000000)) (sym (ap (λ b. cond b (Some (value_after 0 w)) None) h)) tt
]

index-small : (w : Word) → inside (λ n. n < 1000000000) (index_of w)
index-small [] = omega arith
index-small (c ∷ cs) = elim (cases_Bool (c == 47)) [
  | inl h ↦ subst (inside (λ n. n < 1000000000)) (sym (ap (λ b. cond b (number cs) None) h)) (number-small cs)
  | inr h ↦ subst (inside (λ n. n < 1000000000)) (sym (ap (λ b. cond b (number cs) None) h)) tt
]

-- a transition word with a small index
abbrev IsSmall : Option WordOfTrans → Type 0
IsSmall None = Unit {0}
IsSmall (Some p) = p.index < 1000000000

with_index : (name : Word) (edge : Edge) (o : Option ℕ) → inside (λ n. n < 1000000000) o → IsSmall (option_map (λ index. record { name = name; edge = edge; index = index }) o)
with_index name edge None h = tt
with_index name edge (Some n) h = h

-- an edge and an index
abbrev changed : Option Edge → Option ℕ → Option (Edge × ℕ)
changed e i = option_and_then (λ edge. option_map (λ index. (edge, index)) i) e

with_change : (name : Word) (e : Option Edge) (o : Option ℕ) → inside (λ n. n < 1000000000) o → IsSmall (option_map (λ (c : Edge × ℕ). record { name = name; edge = c.0; index = c.1 }) (changed e o))
with_change name None o h = tt
with_change name (Some edge) None h = tt
with_change name (Some edge) (Some n) h = h

change-small : (name rest : Word) → IsSmall (option_map (λ (c : Edge × ℕ). record { name = name; edge = c.0; index = c.1 }) (change_of rest))
change-small name [] = tt
change-small name (c ∷ cs) = with_change name (edge_of c) (index_of cs) (index-small cs)

read-small : (w : Word) → IsSmall (read_trans_word w)
read-small w = by_name (is_name (front_name w)) refl
  where
    by_name : (b : Bool) → is_name (front_name w) ≡ b → IsSmall (read_trans_word w)
    by_name true h = subst IsSmall (sym (ap (λ b. cond b (option_map (λ (c : Edge × ℕ). record { name = front_name w; edge = c.0; index = c.1 }) (change_of (drop (length (front_name w)) w))) None) h)) (change-small (front_name w) (drop (length (front_name w)) w))
    by_name false h = subst IsSmall (sym (ap (λ b. cond b (option_map (λ (c : Edge × ℕ). record { name = front_name w; edge = c.0; index = c.1 }) (change_of (drop (length (front_name w)) w))) None) h)) tt

trans_word_parts-small : (d : Declared) (w : Word) → IsSmall (trans_word_parts d w)
trans_word_parts-small d w = elim (cases_Bool (is_dummy d (front_name w))) [
  | inl h ↦ subst IsSmall (sym (ap (λ b. cond b (dummy_word w) (read_trans_word w)) h)) (with_index (front_name w) Toggle (index_of (drop (length (front_name w)) w)) (index-small (drop (length (front_name w)) w)))
  | inr h ↦ subst IsSmall (sym (ap (λ b. cond b (dummy_word w) (read_trans_word w)) h)) (read-small w)
]

-- a transition that is there
abbrev pub IsGoodTrans : ℕ → Option TransName → Type 0
IsGoodTrans n None = Unit {0}
IsGoodTrans n (Some t) = is_trans_in n t ≡ true

numbered-good : (signals : List Signal) (p : WordOfTrans) (o : Option ℕ) → number_of p.name signals ≡ o → p.index < 1000000000 → IsGoodTrans (length signals) (option_map (λ n. record { signal = n; edge = p.edge; index = p.index }) o)
numbered-good signals p None e h = tt
numbered-good signals p (Some n) e h = and_from (nat_lt n (length signals)) (nat_lt p.index 1000000000) (lt-ltb n (length signals) (position-within (λ (s : Signal). bytes_eq p.name s.name) signals n e)) (lt-ltb p.index 1000000000 h)

word-good : (signals : List Signal) (o : Option WordOfTrans) → IsSmall o → IsGoodTrans (length signals) (option_and_then (with_number signals) o)
word-good signals None h = tt
word-good signals (Some p) h = numbered-good signals p (number_of p.name signals) refl h

-- the transition for which a word stands
pub trans_of_word-good : (d : Declared) (w : Word) → IsGoodTrans (length d.signals) (trans_of_word d w)
trans_of_word-good d w = word-good d.signals (trans_word_parts d w) (trans_word_parts-small d w)
