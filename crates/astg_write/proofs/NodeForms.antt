-- Written words as nodes of a graph.
use Rattle.std.proofs.Common.{◌≡◌, ◌≢◌, ◌<◌, ◌==◌, ◌&&◌, ◌||◌, nat_lt, nat_le, ℕ, List, [], ◌∷◌, ◌++◌, Bool, true, false, cond, length, drop, get_or, refl, sym, ap, ◌∙◌, arith, inl, inr, Option, Some, None, is_some, is_none, option_map, option_and_then, All, AllPairs, append-nil}
use Rattle.std.proofs.lemmas.Bool.{and_parts, and_right, or_right, or_from, cases_Bool, false≢true, eqb-true, lt-ltb, false_from_ne_true}
use Rattle.std.proofs.lemmas.List.{drop_at}
use Rattle.std.proofs.lemmas.List.Elements.{All-head, All-tail}
use Rattle.std.proofs.lemmas.List.Sums.{position_or_len_is, take_while-cons}
use Rattle.std.proofs.lemmas.Slice.Eq.{bytes_eq-Decides}
use Rattle.std.specs.List.{list_all, list_any, take_while, position_or_len}
use Rattle.std.specs.Str.{bytes_eq}
use Rattle.std.specs.Prelude.{decimal}
use Rattle.stg_net.specs.Names.{is_in_name, is_name, begins_name}
use Rattle.stg_net.specs.Net.{number_of}
use Rattle.stg_net.specs.Words.{sign_of, index_text}
use Rattle.stg_net.specs.declared.signal.Signal.{Signal}
use Rattle.stg_net.specs.declared.trans.Edge.{Edge}
use Rattle.stg_net.specs.declared.trans.Edge.TheVariants.{Rise, Fall, Toggle}
use Rattle.astg_read.specs.Rows.{Word, begins_with_dot}
use Rattle.astg_read.specs.Names.{WordOfTrans, edge_of, index_of, change_of, read_trans_word}
use Rattle.astg_read.specs.Header.{Declared}
use Rattle.astg_read.specs.inner.NoDummies.{without_dummies}
use Rattle.astg_read.specs.Nodes.{Node, Trans, Place, node_of, trans_or_place, is_node, is_unknown, is_signal, is_trans_word, with_number, trans_of_word}
use Rattle.astg_read.specs.Targets.{opens_group}
use Rattle.astg_read.proofs.NumberLemmas.{position-none}
use Rattle.stg_net.proofs.NameBytes.{not_at, name-bytes}
use Rattle.astg_lex.proofs.DecimalLemmas.{number-decimal}
use Rattle.astg_write.proofs.WordForms.{not_at_back}

-- the word stands for the node
pub record IsWordOf (d : Declared) (w : Word) (m : Node) : Type 0 where
  pub node : node_of d w ≡ m
  pub formed : is_node d w ≡ true
  pub declared_there : is_unknown d w ≡ false
  pub apart : is_signal d w ≡ false
  pub opens : opens_group w ≡ false
  pub dot : begins_with_dot w ≡ false

pub take-front : (f : ℕ → Bool) (xs : List ℕ) (y : ℕ) (ys : List ℕ) → list_all f xs ≡ true → f y ≡ false → take_while f (xs ++ y ∷ ys) ≡ xs
take-front f [] y ys h e = take_while-cons f y ys ∙ ap (λ b. cond b (y ∷ take_while f ys) []) e
take-front f (x ∷ xs) y ys h e =
    let p = and_parts (f x) (list_all f xs) h in
    take_while-cons f x (xs ++ y ∷ ys) ∙ ap (λ b. cond b (x ∷ take_while f (xs ++ y ∷ ys)) []) p.0 ∙ ap (λ l. x ∷ l) (take-front f xs y ys p.1 e)

take-whole : (f : ℕ → Bool) (xs : List ℕ) → list_all f xs ≡ true → take_while f xs ≡ xs
take-whole f [] h = refl
take-whole f (x ∷ xs) h =
    let p = and_parts (f x) (list_all f xs) h in
    take_while-cons f x xs ∙ ap (λ b. cond b (x ∷ take_while f xs) []) p.0 ∙ ap (λ l. x ∷ l) (take-whole f xs p.1)

drop-whole : (xs : List ℕ) → drop (length xs) xs ≡ []
drop-whole [] = refl
drop-whole (x ∷ xs) = drop-whole xs

abbrev word_of_change : List ℕ → Option (Edge × ℕ) → Option WordOfTrans
word_of_change name o = option_map (λ (c : Edge × ℕ). record { name = name; edge = c.0; index = c.1 }) o

abbrev read_with : Word → List ℕ → Option WordOfTrans
read_with w name = cond (is_name name) (word_of_change name (change_of (drop (length name) w))) None

-- a name is no word of a transition
pub read-name : (w : Word) → is_name w ≡ true → read_trans_word w ≡ None
read-name w h =
    ap (read_with w) (take-whole is_in_name w (name-bytes w h))
    ∙ ap (λ b. cond b (word_of_change w (change_of (drop (length w) w))) None) h
    ∙ ap (λ r. word_of_change w (change_of r)) (drop-whole w)

sign-in_name : (e : Edge) → is_in_name (sign_of e) ≡ false
sign-in_name Rise = refl
sign-in_name Fall = refl
sign-in_name Toggle = refl

edge-sign : (e : Edge) → edge_of (sign_of e) ≡ Some e
edge-sign Rise = refl
edge-sign Fall = refl
edge-sign Toggle = refl

index-read : (k : ℕ) → k < 1000000000 → index_of (index_text k) ≡ Some k
index-read k h = elim (cases_Bool (k == 0)) [
  | inl z ↦ ap (λ b. index_of (cond b [] (47 ∷ decimal k))) z ∙ ap Some (sym (eqb-true k 0 z))
  | inr s ↦ ap (λ b. index_of (cond b [] (47 ∷ decimal k))) s ∙ number-decimal k h
]

-- the word of a transition says its name, edge and index
pub read-trans : (name : List ℕ) (e : Edge) (k : ℕ) → is_name name ≡ true → k < 1000000000
    → read_trans_word (name ++ sign_of e ∷ index_text k) ≡ Some (record { name = name; edge = e; index = k })
read-trans name e k h i =
    let w = name ++ sign_of e ∷ index_text k in
    ap (read_with w) (take-front is_in_name name (sign_of e) (index_text k) (name-bytes name h) (sign-in_name e))
    ∙ ap (λ b. cond b (word_of_change name (change_of (drop (length name) w))) None) h
    ∙ ap (λ r. word_of_change name (change_of r)) (drop_at name (sign_of e ∷ index_text k) (length name) refl)
    ∙ ap (λ o. word_of_change name (option_and_then (λ edge. option_map (λ index. (edge, index)) (index_of (index_text k))) o)) (edge-sign e)
    ∙ ap (λ o. word_of_change name (option_map (λ index. (e, index)) o)) (index-read k i)

-- of names that differ, each stands at its own number
pub number-of_name : (signals : List Signal) (s : ℕ) (d : Signal) → AllPairs (λ (x y : Signal). x.name ≢ y.name) signals → s < length signals
    → number_of (get_or signals s d).name signals ≡ Some s
number-of_name signals s d apart below =
    let name = (get_or signals s d).name in
    let f : Signal → Bool = λ x. bytes_eq name x.name in
    let at : position_or_len f signals ≡ s = position_or_len_is f signals s d (omega (arith, below))
    (λ k before. false_from_ne_true (bytes_eq name (get_or signals k d).name) (λ e. apart k s d before below (sym ((bytes_eq-Decides name (get_or signals k d).name).0 e))))
    (λ b. (bytes_eq-Decides name name).1 refl) in
    ap (λ n. cond (nat_lt n (length signals)) (Some n) None) at ∙ ap (λ b. cond b (Some s) None) (lt-ltb s (length signals) below)

dot-name : (w rest : List ℕ) → is_name w ≡ true → begins_with_dot (w ++ rest) ≡ false
dot-name [] rest h = absurd (false≢true h)
dot-name (c ∷ cs) rest h =
    let p = and_parts (begins_name c && nat_le (length cs) 99) (list_all is_in_name cs) h in
    let q = and_parts (begins_name c) (nat_le (length cs) 99) p.0 in
    not_at begins_name 46 c refl q.0

opens-name : (w rest : List ℕ) → is_name w ≡ true → opens_group (w ++ rest) ≡ false
opens-name [] rest h = absurd (false≢true h)
opens-name (c ∷ cs) rest h =
    let p = and_parts (begins_name c && nat_le (length cs) 99) (list_all is_in_name cs) h in
    let q = and_parts (begins_name c) (nat_le (length cs) 99) p.0 in
    by_byte (cs ++ rest) (not_at_back begins_name 40 c refl q.0)
  where
    by_byte : (ds : List ℕ) → (40 == c) ≡ false → opens_group (c ∷ ds) ≡ false
    by_byte ds e = ap (λ b. b && bytes_eq [] ds) e

module _ (signals : List Signal) (named : All (λ (s : Signal). is_name s.name ≡ true) signals) where
  -- a transition's word is no signal's name
  unnamed : (w : Word) (t : WordOfTrans) (ss : List Signal) → All (λ (s : Signal). is_name s.name ≡ true) ss → read_trans_word w ≡ Some t → list_any (λ (s : Signal). bytes_eq w s.name) ss ≡ false
  unnamed w t [] h e = refl
  unnamed w t (s ∷ ss) h e =
      let P : Signal → Type 0 = λ x. is_name x.name ≡ true in
      let differs : bytes_eq w s.name ≡ false = false_from_ne_true (bytes_eq w s.name) (λ b. let none : None ≡ Some t = sym (read-name s.name (All-head P s ss h)) ∙ ap read_trans_word (sym ((bytes_eq-Decides w s.name).0 b)) ∙ e in cc) in
      or_from (bytes_eq w s.name) (list_any (λ (x : Signal). bytes_eq w x.name) ss) differs (unnamed w t ss (All-tail P s ss h) e)

  pub word-trans : (name : List ℕ) (e : Edge) (k s : ℕ) → is_name name ≡ true → k < 1000000000 → number_of name signals ≡ Some s
      → IsWordOf (without_dummies signals) (name ++ sign_of e ∷ index_text k) (Trans (record { signal = s; edge = e; index = k }))
  word-trans name e k s h i at =
      let w = name ++ sign_of e ∷ index_text k in
      let said : WordOfTrans = record { name = name; edge = e; index = k } in
      let d = without_dummies signals in
      let r = read-trans name e k h i in
      let found : trans_of_word d w ≡ Some (record { signal = s; edge = e; index = k }) =
      ap (λ o. option_and_then (with_number signals) o) r ∙ ap (λ o. option_map (λ n. record { signal = n; edge = e; index = k }) o) at in
      record {
        node = ap (trans_or_place w) found;
        formed = ap (λ o. is_some o || is_name w) r;
        declared_there = and_right (is_some (read_trans_word w)) (is_none (trans_of_word d w)) (ap is_none found);
        apart = ap (λ o. is_some o && true) (position-none (λ (x : Signal). bytes_eq w x.name) signals (unnamed w said signals named r));
        opens = opens-name name (sign_of e ∷ index_text k) h;
        dot = dot-name name (sign_of e ∷ index_text k) h;
      }

  pub word-place : (w : Word) → is_name w ≡ true → list_any (λ (s : Signal). bytes_eq w s.name) signals ≡ false → IsWordOf (without_dummies signals) w (Place w)
  word-place w h free =
      let d = without_dummies signals in
      let r = read-name w h in
      let found : trans_of_word d w ≡ None = ap (λ o. option_and_then (with_number signals) o) r in
      record {
        node = ap (trans_or_place w) found;
        formed = or_right (is_trans_word d w) (is_name w) h;
        declared_there = ap (λ o. is_some o && is_none (trans_of_word d w)) r;
        apart = ap (λ o. is_some o && true) (position-none (λ (x : Signal). bytes_eq w x.name) signals free);
        opens = ap opens_group (sym (append-nil w)) ∙ opens-name w [] h;
        dot = ap begins_with_dot (sym (append-nil w)) ∙ dot-name w [] h;
      }
