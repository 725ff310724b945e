-- The rows of a component's text.
use Rattle.std.proofs.Common.{◌≡◌, ◌^◌, ◌<◌, ◌==◌, nat_le, ℕ, zero, suc, List, [], ◌∷◌, ◌++◌, Bool, true, false, cond, length, map, filter, get_or, refl, sym, ap, subst, ◌∙◌, arith, Some, All}
use Rattle.std.proofs.lemmas.List.Elements.{All-nil, All-cons, All-head, All-tail, All-get_or}
use Rattle.std.specs.List.{list_all, list_any, slice_get}
use Rattle.std.specs.Option.{option_map_or}
use Rattle.std.specs.Prelude.{codes, decimal, slice_index}
use Rattle.stg_net.specs.declared.signal.Kind.{Kind}
use Rattle.stg_net.specs.declared.signal.Kind.TheVariants.{Input, Output, Internal}
use Rattle.stg_net.specs.declared.signal.Signal.{Signal}
use Rattle.stg_net.specs.declared.trans.Edge.TheVariants.{Rise}
use Rattle.stg_net.specs.declared.trans.TransName.{TransName}
use Rattle.stg_net.specs.declared.arc.NetArc.{NetArc}
use Rattle.stg_net.specs.Net.{NetLists}
use Rattle.stg_net.specs.Names.{is_name, is_digit}
use Rattle.stg_net.specs.Words.{word_of, trans_word, name_at}
use Rattle.stg_net.specs.Ordered.{listed_below}
use Rattle.astg_read.specs.Rows.{Word, Row}
use Rattle.astg_write.specs.PlaceNames.{numbered_name}
use Rattle.astg_write.specs.ComponentText.{line, model_line, of_kind, spaced_names, names_line, weight_group, comes_from, goes_out_of, given_text, trans_line, takers_of, is_only_given, place_line, tokens_group, entry, marking_line, header, graph_lines, net_lines}
use Rattle.astg_write.proofs.WrittenWords.{AreWords, Follow, AreWords-append, Follow-append, Follow-nil, Follow-space, Follow-open, Follow-close, Follow-equal, AreWords-begin, AreWords-end, AreWords-word, is_word_byte, AreLines, AreLines-line, AreLines-append, AreLines-nil}
use Rattle.astg_write.proofs.WordForms.{AreWords-name, AreWords-decimal, AreWords-trans, decimal-digits, digit-in_name, in_name-word, all-weaker}

-- the words of a weight after a target
abbrev pub weight_words : ℕ → Row
weight_words w = cond (nat_le w 1) [] (codes "(" ∷ decimal w ∷ codes ")" ∷ [])

-- a target and the weight of its arc
abbrev pub Aim : Type 0
Aim = Word × ℕ

-- the words of targets
abbrev pub aim_words : List Aim → Row
aim_words [] = []
aim_words (x ∷ xs) = (x.0 ∷ weight_words x.1) ++ aim_words xs

abbrev pub aim_bytes : List Aim → List ℕ
aim_bytes [] = []
aim_bytes (x ∷ xs) = codes " " ++ x.0 ++ weight_group x.1 ++ aim_bytes xs

-- the place of an arc as a target
abbrev pub aim_into : List ℕ → NetArc → Aim
aim_into prefix a = (numbered_name prefix a.place, a.weight)

-- the transition of an arc as a target
abbrev pub aim_out_of : NetLists → NetArc → Aim
aim_out_of n a = (trans_word n.signals n.trans a.trans, a.weight)

-- the places to which the transition gives
abbrev pub given_aims : List ℕ → ℕ → List NetArc → List Aim
given_aims prefix t arcs = map (aim_into prefix) (filter (comes_from t) arcs)

-- the transitions that take from the place
abbrev pub taker_aims : NetLists → ℕ → List NetArc → List Aim
taker_aims n p arcs = map (aim_out_of n) (filter (goes_out_of p) arcs)

-- the names of the signals of a kind
abbrev pub names_in : Kind → List Signal → Row
names_in kind ss = map (λ (s : Signal). s.name) (filter (of_kind kind) ss)

-- the row that declares the signals of that kind
abbrev pub names_rows : Word → Kind → List Signal → List Row
names_rows directive kind signals = cond (list_any (of_kind kind) signals) ((directive ∷ names_in kind signals) ∷ []) []

abbrev pub trans_row : List ℕ → NetLists → ℕ → Row
trans_row prefix n t = trans_word n.signals n.trans t ∷ aim_words (given_aims prefix t n.arcs)

abbrev pub place_row : List ℕ → NetLists → ℕ → Row
place_row prefix n p = numbered_name prefix p ∷ aim_words (taker_aims n p n.arcs)

abbrev pub place_rows : List ℕ → NetLists → ℕ → List Row
place_rows prefix n p = cond (is_only_given n.arcs p) [] (place_row prefix n p ∷ [])

abbrev pub token_words : ℕ → Row
token_words k = cond (nat_le k 1) [] (codes "=" ∷ decimal k ∷ [])

abbrev pub entry_words : List ℕ → List ℕ → ℕ → Row
entry_words prefix tokens p = cond (slice_index tokens p == 0) [] (numbered_name prefix p ∷ token_words (slice_index tokens p))

abbrev pub marking_row : List ℕ → List ℕ → Row
marking_row prefix tokens = (codes ".marking" ∷ codes "{" ∷ []) ++ listed_below (entry_words prefix tokens) (length tokens) ++ codes "}" ∷ []

abbrev pub header_rows : List Signal → List Row
header_rows signals = names_rows (codes ".inputs") Input signals ++ names_rows (codes ".outputs") Output signals ++ names_rows (codes ".internal") Internal signals

abbrev pub graph_rows : List ℕ → NetLists → List Row
graph_rows prefix n = (codes ".graph" ∷ []) ∷ [] ++ listed_below (λ t. trans_row prefix n t ∷ []) (length n.trans) ++ listed_below (place_rows prefix n) (length n.tokens)

abbrev pub model_row : ℕ → Row
model_row part = codes ".model" ∷ (codes "part" ++ decimal part) ∷ []

abbrev pub net_rows : List ℕ → NetLists → List Row
net_rows prefix n = header_rows n.signals ++ graph_rows prefix n ++ marking_row prefix n.tokens ∷ [] ++ (codes ".end" ∷ []) ∷ []

-- what the words of the text rest on
pub record IsFormed (prefix : List ℕ) (n : NetLists) : Type 0 where
  pub names : All (λ (s : Signal). is_name s.name ≡ true) n.signals
  pub indices : All (λ (t : TransName). t.index < 1000000000) n.trans
  pub trans_signals : All (λ (t : TransName). t.signal < length n.signals) n.trans
  pub places : (p : ℕ) → p < length n.tokens → is_name (numbered_name prefix p) ≡ true
  pub arcs : All (λ (a : NetArc). (a.place < length n.tokens) × (a.trans < length n.trans) × (a.weight < 1000000000)) n.arcs
  pub tokens : All (λ k. k < 1000000000) n.tokens

pub get-slice : {X : Type 0} (xs : List X) (k : ℕ) (d : X) → k < length xs → slice_get xs k ≡ Some (get_or xs k d)
get-slice [] k d h = absurd (omega (arith, h))
get-slice (x ∷ xs) zero d h = refl
get-slice (x ∷ xs) (suc k) d h = get-slice xs k d (omega (arith, h))

Follow-weight : (w : ℕ) → w < 1000000000 → Follow (weight_group w) (weight_words w)
Follow-weight w h = by_case (nat_le w 1)
  where
    by_case : (b : Bool) → Follow (cond b [] (codes "(" ++ decimal w ++ codes ")")) (cond b [] (codes "(" ∷ decimal w ∷ codes ")" ∷ []))
    by_case true = Follow-nil
    by_case false = Follow-open (decimal w ++ codes ")") (decimal w ∷ codes ")" ∷ []) (AreWords-append (decimal w) (codes ")") (decimal w ∷ []) (codes ")" ∷ []) (AreWords-decimal w h) Follow-close)

abbrev IsAim : Aim → Type 0
IsAim x = AreWords x.0 (x.0 ∷ []) × (x.1 < 1000000000)

Follow-aims : (xs : List Aim) → All IsAim xs → Follow (aim_bytes xs) (aim_words xs)
Follow-aims [] h = Follow-nil
Follow-aims (x ∷ xs) h =
    let p = All-head IsAim x xs h in
    Follow-append (codes " " ++ x.0 ++ weight_group x.1) (aim_bytes xs) (x.0 ∷ weight_words x.1) (aim_words xs)
    (Follow-append (codes " " ++ x.0) (weight_group x.1) (x.0 ∷ []) (weight_words x.1) (Follow-space x.0 (x.0 ∷ []) p.0) (Follow-weight x.1 p.1))
    (Follow-aims xs (All-tail IsAim x xs h))

pub given-bytes : (prefix : List ℕ) (t : ℕ) (arcs : List NetArc) → given_text prefix t arcs ≡ aim_bytes (given_aims prefix t arcs)
given-bytes prefix t [] = refl
given-bytes prefix t (a ∷ arcs) = by_case (comes_from t a) (given-bytes prefix t arcs)
  where
    by_case : (b : Bool) → given_text prefix t arcs ≡ aim_bytes (given_aims prefix t arcs)
        → cond b (codes " " ++ numbered_name prefix a.place ++ weight_group a.weight ++ given_text prefix t arcs) (given_text prefix t arcs) ≡ aim_bytes (map (aim_into prefix) (cond b (a ∷ filter (comes_from t) arcs) (filter (comes_from t) arcs)))
    by_case true e = ap (λ bs. codes " " ++ numbered_name prefix a.place ++ weight_group a.weight ++ bs) e
    by_case false e = e

pub takers-bytes : (n : NetLists) (p : ℕ) (arcs : List NetArc) → takers_of n p arcs ≡ aim_bytes (taker_aims n p arcs)
takers-bytes n p [] = refl
takers-bytes n p (a ∷ arcs) = by_case (goes_out_of p a) (takers-bytes n p arcs)
  where
    by_case : (b : Bool) → takers_of n p arcs ≡ aim_bytes (taker_aims n p arcs)
        → cond b (codes " " ++ trans_word n.signals n.trans a.trans ++ weight_group a.weight ++ takers_of n p arcs) (takers_of n p arcs) ≡ aim_bytes (map (aim_out_of n) (cond b (a ∷ filter (goes_out_of p) arcs) (filter (goes_out_of p) arcs)))
    by_case true e = ap (λ bs. codes " " ++ trans_word n.signals n.trans a.trans ++ weight_group a.weight ++ bs) e
    by_case false e = e

Follow-names : (kind : Kind) (ss : List Signal) → All (λ (s : Signal). is_name s.name ≡ true) ss → Follow (spaced_names kind ss) (names_in kind ss)
Follow-names kind [] h = Follow-nil
Follow-names kind (s ∷ ss) h = by_case (of_kind kind s) (Follow-names kind ss (All-tail (λ (s : Signal). is_name s.name ≡ true) s ss h))
  where
    by_case : (b : Bool) → Follow (spaced_names kind ss) (names_in kind ss)
        → Follow (cond b (codes " " ++ s.name ++ spaced_names kind ss) (spaced_names kind ss)) (map (λ (s : Signal). s.name) (cond b (s ∷ filter (of_kind kind) ss) (filter (of_kind kind) ss)))
    by_case true e = Follow-append (codes " " ++ s.name) (spaced_names kind ss) (s.name ∷ []) (names_in kind ss)
        (Follow-space s.name (s.name ∷ []) (AreWords-name s.name (All-head (λ (s : Signal). is_name s.name ≡ true) s ss h))) e
    by_case false e = e

lines-names : (b : ℕ) (bs : List ℕ) (kind : Kind) (ss : List Signal) → list_all is_word_byte (b ∷ bs) ≡ true → All (λ (s : Signal). is_name s.name ≡ true) ss
    → AreLines (names_line (b ∷ bs) kind ss) (names_rows (b ∷ bs) kind ss)
lines-names b bs kind ss w h = by_case (list_any (of_kind kind) ss)
  where
    by_case : (c : Bool) → AreLines (cond c (line ((b ∷ bs) ++ spaced_names kind ss)) []) (cond c (((b ∷ bs) ∷ names_in kind ss) ∷ []) [])
    by_case true = AreLines-line ((b ∷ bs) ++ spaced_names kind ss) ((b ∷ bs) ∷ names_in kind ss)
        (AreWords-append (b ∷ bs) (spaced_names kind ss) ((b ∷ bs) ∷ []) (names_in kind ss) (AreWords-word b bs w) (Follow-names kind ss h))
    by_case false = AreLines-nil

lines-header : (ss : List Signal) → All (λ (s : Signal). is_name s.name ≡ true) ss → AreLines (header ss) (header_rows ss)
lines-header ss h =
    AreLines-append (names_line (codes ".inputs") Input ss ++ names_line (codes ".outputs") Output ss) (names_line (codes ".internal") Internal ss)
    (names_rows (codes ".inputs") Input ss ++ names_rows (codes ".outputs") Output ss) (names_rows (codes ".internal") Internal ss)
    (AreLines-append (names_line (codes ".inputs") Input ss) (names_line (codes ".outputs") Output ss) (names_rows (codes ".inputs") Input ss) (names_rows (codes ".outputs") Output ss)
    (lines-names 46 (codes "inputs") Input ss refl h) (lines-names 46 (codes "outputs") Output ss refl h))
    (lines-names 46 (codes "internal") Internal ss refl h)

lines-listed : (f : ℕ → List ℕ) (g : ℕ → List Row) (n : ℕ) → ((k : ℕ) → k < n → AreLines (f k) (g k)) → AreLines (listed_below f n) (listed_below g n)
lines-listed f g zero h = AreLines-nil
lines-listed f g (suc n) h = AreLines-append (listed_below f n) (f n) (listed_below g n) (g n) (lines-listed f g n (λ k b. h k (omega (arith, b)))) (h n (omega arith))

Follow-listed : (f : ℕ → List ℕ) (g : ℕ → Row) (n : ℕ) → ((k : ℕ) → k < n → Follow (f k) (g k)) → Follow (listed_below f n) (listed_below g n)
Follow-listed f g zero h = Follow-nil
Follow-listed f g (suc n) h = Follow-append (listed_below f n) (f n) (listed_below g n) (g n) (Follow-listed f g n (λ k b. h k (omega (arith, b)))) (h n (omega arith))

pub model-line : (part : ℕ) → part < 2 ^ 64 → AreLines (model_line part) (model_row part ∷ [])
model-line part small =
    AreLines-line (codes ".model part" ++ decimal part) (model_row part)
    (AreWords-append (codes ".model") (codes " part" ++ decimal part) (codes ".model" ∷ []) ((codes "part" ++ decimal part) ∷ [])
    (AreWords-word 46 (codes "model") refl)
    (Follow-space (codes "part" ++ decimal part) ((codes "part" ++ decimal part) ∷ [])
    (AreWords-word 112 (codes "art" ++ decimal part) (all-weaker is_digit is_word_byte (λ c d. in_name-word c (digit-in_name c d)) (decimal part) (decimal-digits part small)))))

module _ (prefix : List ℕ) (n : NetLists) (formed : IsFormed prefix n) where
  abbrev IsGoodArc : NetArc → Type 0
  IsGoodArc a = (a.place < length n.tokens) × (a.trans < length n.trans) × (a.weight < 1000000000)

  pub name-formed : (s : ℕ) → s < length n.signals → is_name (name_at n.signals s) ≡ true
  name-formed s b =
      let d : Signal = record { name = []; kind = Input } in
      ap (λ o. is_name (option_map_or (λ (x : Signal). x.name) o [])) (get-slice n.signals s d b)
      ∙ All-get_or (λ (x : Signal). is_name x.name ≡ true) n.signals s d b formed.names

  words-trans : (t : ℕ) → t < length n.trans → AreWords (trans_word n.signals n.trans t) (trans_word n.signals n.trans t ∷ [])
  words-trans t b =
      let d : TransName = record { signal = 0; edge = Rise; index = 0 } in
      let u = get_or n.trans t d in
      let e : trans_word n.signals n.trans t ≡ word_of n.signals u = ap (λ o. option_map_or (word_of n.signals) o []) (get-slice n.trans t d b) in
      subst (λ w. AreWords w (w ∷ [])) (sym e)
      (AreWords-trans (name_at n.signals u.signal) u.edge u.index
      (name-formed u.signal (All-get_or (λ (x : TransName). x.signal < length n.signals) n.trans t d b formed.trans_signals))
      (All-get_or (λ (x : TransName). x.index < 1000000000) n.trans t d b formed.indices))

  aims-given : (t : ℕ) (arcs : List NetArc) → All IsGoodArc arcs → All IsAim (given_aims prefix t arcs)
  aims-given t [] h = All-nil IsAim
  aims-given t (a ∷ arcs) h = by_case (comes_from t a) (aims-given t arcs (All-tail IsGoodArc a arcs h)) (All-head IsGoodArc a arcs h)
    where
      by_case : (b : Bool) → All IsAim (given_aims prefix t arcs) → IsGoodArc a → All IsAim (map (aim_into prefix) (cond b (a ∷ filter (comes_from t) arcs) (filter (comes_from t) arcs)))
      by_case true e g = All-cons IsAim (aim_into prefix a) (given_aims prefix t arcs) (AreWords-name (numbered_name prefix a.place) (formed.places a.place g.0), g.2) e
      by_case false e g = e

  aims-takers : (p : ℕ) (arcs : List NetArc) → All IsGoodArc arcs → All IsAim (taker_aims n p arcs)
  aims-takers p [] h = All-nil IsAim
  aims-takers p (a ∷ arcs) h = by_case (goes_out_of p a) (aims-takers p arcs (All-tail IsGoodArc a arcs h)) (All-head IsGoodArc a arcs h)
    where
      by_case : (b : Bool) → All IsAim (taker_aims n p arcs) → IsGoodArc a → All IsAim (map (aim_out_of n) (cond b (a ∷ filter (goes_out_of p) arcs) (filter (goes_out_of p) arcs)))
      by_case true e g = All-cons IsAim (aim_out_of n a) (taker_aims n p arcs) (words-trans a.trans g.1, g.2) e
      by_case false e g = e

  lines-trans : (t : ℕ) → t < length n.trans → AreLines (trans_line prefix n t) (trans_row prefix n t ∷ [])
  lines-trans t b =
      let w = trans_word n.signals n.trans t in
      let aims = given_aims prefix t n.arcs in
      subst (λ bs. AreLines (line (w ++ bs)) ((w ∷ aim_words aims) ∷ [])) (sym (given-bytes prefix t n.arcs))
      (AreLines-line (w ++ aim_bytes aims) (w ∷ aim_words aims)
      (AreWords-append w (aim_bytes aims) (w ∷ []) (aim_words aims) (words-trans t b) (Follow-aims aims (aims-given t n.arcs formed.arcs))))

  lines-place : (p : ℕ) → p < length n.tokens → AreLines (place_line prefix n p) (place_rows prefix n p)
  lines-place p b = by_case (is_only_given n.arcs p)
    where
      by_case : (c : Bool) → AreLines (cond c [] (line (numbered_name prefix p ++ takers_of n p n.arcs))) (cond c [] (place_row prefix n p ∷ []))
      by_case true = AreLines-nil
      by_case false =
          let w = numbered_name prefix p in
          let aims = taker_aims n p n.arcs in
          subst (λ bs. AreLines (line (w ++ bs)) ((w ∷ aim_words aims) ∷ [])) (sym (takers-bytes n p n.arcs))
          (AreLines-line (w ++ aim_bytes aims) (w ∷ aim_words aims)
          (AreWords-append w (aim_bytes aims) (w ∷ []) (aim_words aims) (AreWords-name w (formed.places p b)) (Follow-aims aims (aims-takers p n.arcs formed.arcs))))

  Follow-tokens : (k : ℕ) → k < 1000000000 → Follow (tokens_group k) (token_words k)
  Follow-tokens k h = by_case (nat_le k 1)
    where
      by_case : (b : Bool) → Follow (cond b [] (codes "=" ++ decimal k)) (cond b [] (codes "=" ∷ decimal k ∷ []))
      by_case true = Follow-nil
      by_case false = Follow-equal (decimal k) (decimal k ∷ []) (AreWords-decimal k h)

  Follow-entry : (p : ℕ) → p < length n.tokens → Follow (entry prefix n.tokens p) (entry_words prefix n.tokens p)
  Follow-entry p b = by_case (slice_index n.tokens p == 0)
    where
      by_case : (c : Bool) → Follow (cond c [] (codes " " ++ numbered_name prefix p ++ tokens_group (slice_index n.tokens p))) (cond c [] (numbered_name prefix p ∷ token_words (slice_index n.tokens p)))
      by_case true = Follow-nil
      by_case false = Follow-append (codes " " ++ numbered_name prefix p) (tokens_group (slice_index n.tokens p)) (numbered_name prefix p ∷ []) (token_words (slice_index n.tokens p))
          (Follow-space (numbered_name prefix p) (numbered_name prefix p ∷ []) (AreWords-name (numbered_name prefix p) (formed.places p b)))
          (Follow-tokens (slice_index n.tokens p) (All-get_or (λ k. k < 1000000000) n.tokens p 0 b formed.tokens))

  lines-marking : AreLines (marking_line prefix n.tokens) (marking_row prefix n.tokens ∷ [])
  lines-marking =
      let entries = listed_below (entry prefix n.tokens) (length n.tokens) in
      let words = listed_below (entry_words prefix n.tokens) (length n.tokens) in
      AreLines-line (codes ".marking {" ++ entries ++ codes " }") (marking_row prefix n.tokens)
      (AreWords-append (codes ".marking {" ++ entries) (codes " }") ((codes ".marking" ∷ codes "{" ∷ []) ++ words) (codes "}" ∷ [])
      (AreWords-append (codes ".marking {") entries (codes ".marking" ∷ codes "{" ∷ []) words
      (AreWords-append (codes ".marking") (codes " {") (codes ".marking" ∷ []) (codes "{" ∷ []) (AreWords-word 46 (codes "marking") refl) (Follow-space (codes "{") (codes "{" ∷ []) AreWords-begin))
      (Follow-listed (entry prefix n.tokens) (entry_words prefix n.tokens) (length n.tokens) Follow-entry))
      (Follow-space (codes "}") (codes "}" ∷ []) AreWords-end))

  lines-graph : AreLines (graph_lines prefix n) (graph_rows prefix n)
  lines-graph =
      let starts = line (codes ".graph") in
      let start_rows = (codes ".graph" ∷ []) ∷ [] in
      let trans = listed_below (trans_line prefix n) (length n.trans) in
      let trans_rows = listed_below (λ t. trans_row prefix n t ∷ []) (length n.trans) in
      AreLines-append (starts ++ trans) (listed_below (place_line prefix n) (length n.tokens)) (start_rows ++ trans_rows) (listed_below (place_rows prefix n) (length n.tokens))
      (AreLines-append starts trans start_rows trans_rows (AreLines-line (codes ".graph") (codes ".graph" ∷ []) (AreWords-word 46 (codes "graph") refl))
      (lines-listed (trans_line prefix n) (λ t. trans_row prefix n t ∷ []) (length n.trans) lines-trans))
      (lines-listed (place_line prefix n) (place_rows prefix n) (length n.tokens) lines-place)

  -- the text's lines after the first
  pub net-lines : AreLines (net_lines prefix n) (net_rows prefix n)
  net-lines =
      let end = line (codes ".end") in
      let end_rows = (codes ".end" ∷ []) ∷ [] in
      let h = header n.signals in let hs = header_rows n.signals in
      let g = graph_lines prefix n in let gs = graph_rows prefix n in
      let m = marking_line prefix n.tokens in let ms = marking_row prefix n.tokens ∷ [] in
      AreLines-append (h ++ g ++ m) end (hs ++ gs ++ ms) end_rows
      (AreLines-append (h ++ g) m (hs ++ gs) ms (AreLines-append h g hs gs (lines-header n.signals formed.names) lines-graph) lines-marking)
      (AreLines-line (codes ".end") (codes ".end" ∷ []) (AreWords-word 46 (codes "end") refl))
