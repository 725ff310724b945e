-- Words have neither a space nor LF.
use Rattle.std.proofs.Common.{◌≡◌, ℕ, ◌<◌, ◌^◌, ◌==◌, ◌&&◌, ◌||◌, nat_le, not, Bool, true, false, cond, List, [], ◌∷◌, ◌++◌, length, refl, sym, ap, ◌∙◌, arith, inl, inr, rules}
use Rattle.std.proofs.lemmas.Bool.{and_parts, and_from, or_left, true≢false, cases_eq, cases_Bool, ne_eqb}
use Rattle.std.proofs.lemmas.Fmt.{digits_decimal}
use Rattle.std.proofs.lemmas.Option.{slice_get-get_or}
use Rattle.std.specs.List.{list_all}
use Rattle.std.specs.Option.{option_map_or}
use Rattle.std.specs.Prelude.{decimal}
use Rattle.stg_net.specs.Names.{is_digit, begins_name, is_in_name, is_name, IsWellNamed}
use Rattle.stg_net.specs.Net.{NetLists, IsNet, signal_at, trans_at}
use Rattle.stg_net.specs.Words.{sign_of, index_text}
use Rattle.stg_net.specs.Words as words
use Rattle.stg_net.specs.declared.signal.Kind.TheVariants.{Input}
use Rattle.stg_net.specs.declared.signal.Signal.{Signal}
use Rattle.stg_net.specs.declared.trans.Edge.{Edge}
use Rattle.stg_net.specs.declared.trans.Edge.TheVariants.{Rise, Fall, Toggle}
use Rattle.stg_net.specs.declared.trans.TransName.{TransName}
use Rattle.stg_net.proofs.NameBytes.{not_at, name-bytes}
use Rattle.astg_lex.proofs.ListLemmas.{all-append}
use Rattle.astg_lex.proofs.DecimalLemmas.{numerals}
use Rattle.stg_steps.specs.LogText.{word_at}

-- no byte is c
abbrev pub lacks : ℕ → List ℕ → Bool
lacks c w = list_all (λ b. not (b == c)) w

-- c is in no word
pub record IsGap (c : ℕ) : Type 0 where
  pub in_name : is_in_name c ≡ false
  pub digit : is_digit c ≡ false
  pub sign : (e : Edge) → (sign_of e == c) ≡ false
  pub slash : (47 == c) ≡ false

pub space : IsGap 32
space = record { in_name = refl; digit = refl; sign = other; slash = refl }
  where
    other : (e : Edge) → (sign_of e == 32) ≡ false
    other Rise = refl
    other Fall = refl
    other Toggle = refl

pub line_feed : IsGap 10
line_feed = record { in_name = refl; digit = refl; sign = other; slash = refl }
  where
    other : (e : Edge) → (sign_of e == 10) ≡ false
    other Rise = refl
    other Fall = refl
    other Toggle = refl

lacks-from : (P : ℕ → Bool) (c : ℕ) → P c ≡ false → (w : List ℕ) → list_all P w ≡ true → lacks c w ≡ true
lacks-from P c h [] k = refl
lacks-from P c h (b ∷ bs) k =
    let p = and_parts (P b) (list_all P bs) k in
    and_from (not (b == c)) (lacks c bs) (ap not (not_at P c b h p.0)) (lacks-from P c h bs p.1)

module _ (c : ℕ) (gap : IsGap c) where
  -- words of bytes of names, and numbers
  pub lacks-plain : (w : List ℕ) → list_all is_in_name w ≡ true → lacks c w ≡ true
  lacks-plain w h = lacks-from is_in_name c gap.in_name w h

  pub lacks-decimal : (k : ℕ) → k < 2 ^ 64 → lacks c (decimal k) ≡ true
  lacks-decimal k h = lacks-from is_digit c gap.digit (decimal k) (digits_decimal numerals k h)

  lacks-index : (k : ℕ) → k < 1000000000 → lacks c (index_text k) ≡ true
  lacks-index k h = elim (cases_Bool (k == 0)) [
    | inl z ↦ ap (λ b. lacks c (cond b [] (47 ∷ decimal k))) z
    | inr s ↦ ap (λ b. lacks c (cond b [] (47 ∷ decimal k))) s ∙ and_from (not (47 == c)) (lacks c (decimal k)) (ap not gap.slash) (lacks-decimal k (omega (arith, h)))
  ]

  pub lacks-spelled : (name : List ℕ) (e : Edge) (k : ℕ) → list_all is_in_name name ≡ true → k < 1000000000 → lacks c (name ++ sign_of e ∷ index_text k) ≡ true
  lacks-spelled name e k h small =
      all-append (λ b. not (b == c)) name (sign_of e ∷ index_text k) (lacks-plain name h)
      (and_from (not (sign_of e == c)) (lacks c (index_text k)) (ap not (gap.sign e)) (lacks-index k small))

abbrev pub no_trans : TransName
no_trans = record { signal = 0; edge = Rise; index = 0 }

abbrev pub no_signal : Signal
no_signal = record { name = []; kind = Input }

-- a transition's word: its signal's name, its sign and its index
abbrev pub spelled : NetLists → TransName → List ℕ
spelled n t = (signal_at n.signals t.signal).name ++ sign_of t.edge ∷ index_text t.index

module _ (n : NetLists) (net : IsNet n) (named : IsWellNamed n) where
  pub word-spelled : (t : ℕ) → t < length n.trans → word_at n t ≡ spelled n (trans_at n.trans t)
  word-spelled t h =
      let name = trans_at n.trans t in
      ap (λ o. option_map_or (words.word_of n.signals) o []) (slice_get-get_or n.trans t no_trans h)
      ∙ ap (λ o. option_map_or (λ (s : Signal). s.name) o [] ++ sign_of name.edge ∷ index_text name.index) (slice_get-get_or n.signals name.signal no_signal (net.trans_signals t no_trans h))

  -- the name of a signal that is there has bytes of names
  pub signal-bytes : (s : ℕ) → s < length n.signals → list_all is_in_name (signal_at n.signals s).name ≡ true
  signal-bytes s h = name-bytes (signal_at n.signals s).name (named.names s no_signal h)

  pub lacks-word : (c : ℕ) → IsGap c → (t : ℕ) → t < length n.trans → lacks c (word_at n t) ≡ true
  lacks-word c gap t h =
      let name = trans_at n.trans t in
      ap (lacks c) (word-spelled t h)
      ∙ lacks-spelled c gap (signal_at n.signals name.signal).name name.edge name.index (signal-bytes name.signal (net.trans_signals t no_trans h)) (named.indices t no_trans h)
