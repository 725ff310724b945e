-- How long a component's text is.
use Rattle.std.proofs.Common.{◌≡◌, ◌+◌, ◌*◌, ◌^◌, ◌<◌, ◌≤◌, ◌==◌, nat_le, ℕ, zero, suc, List, [], ◌∷◌, ◌++◌, Bool, true, false, cond, length, get_or, refl, ap, arith, All, length-append}
use Rattle.std.proofs.lemmas.List.{length-map}
use Rattle.std.proofs.lemmas.List.Elements.{All-head, All-tail, All-get_or, All-filter, All-map}
use Rattle.std.proofs.lemmas.Fmt.{length-decimal-le}
use Rattle.std.specs.List.{list_any}
use Rattle.std.specs.Option.{option_map_or}
use Rattle.std.specs.Prelude.{codes, decimal, slice_index}
use Rattle.stg_net.specs.declared.limits.TheConstants.Limits.{PART}
use Rattle.stg_net.specs.declared.signal.Kind.{Kind}
use Rattle.stg_net.specs.declared.signal.Kind.TheVariants.{Input, Output, Internal}
use Rattle.stg_net.specs.declared.signal.Signal.{Signal}
use Rattle.stg_net.specs.declared.trans.Edge.TheVariants.{Rise}
use Rattle.stg_net.specs.declared.trans.TransName.{TransName}
use Rattle.stg_net.specs.declared.arc.NetArc.{NetArc}
use Rattle.stg_net.specs.Net.{NetLists, IsWithin, IsArcOf}
use Rattle.stg_net.specs.Names.{is_name}
use Rattle.stg_net.specs.Words.{word_of, trans_word, sign_of, index_text, name_at}
use Rattle.stg_net.specs.Ordered.{listed_below}
use Rattle.astg_write.specs.PlaceNames.{numbered_name}
use Rattle.astg_write.specs.ComponentText.{line, model_line, of_kind, spaced_names, names_line, weight_group, comes_from, goes_out_of, given_text, trans_line, takers_of, is_only_given, place_line, tokens_group, entry, marking_line, header, graph_lines, net_lines}
use Rattle.astg_write.proofs.WordForms.{name-length}
use Rattle.astg_write.proofs.WrittenRows.{IsFormed, Aim, aim_bytes, aim_into, aim_out_of, given_aims, taker_aims, given-bytes, takers-bytes, get-slice, name-formed}
use Rattle.astg_write.proofs.WrittenArcs.{arcs_given, arcs_taken, written-length}

weight-length : (w : ℕ) → w < 10000000 → length (weight_group w) ≤ 9
weight-length w h = by_case (nat_le w 1)
  where
    by_case : (b : Bool) → length (cond b [] (codes "(" ++ decimal w ++ codes ")")) ≤ 9
    by_case true = omega arith
    by_case false = omega (arith, length-append (codes "(" ++ decimal w) (codes ")"), length-append (codes "(") (decimal w), length-decimal-le 7 w (omega arith) (omega (arith, h)) (omega (arith, h)))

abbrev IsShort : Aim → Type 0
IsShort x = (length x.0 ≤ 111) × (x.1 < 10000000)

aims-length : (xs : List Aim) → All IsShort xs → length (aim_bytes xs) ≤ 121 * length xs
aims-length [] h = omega arith
aims-length (x ∷ xs) h =
    let g = All-head IsShort x xs h in
    let a = length-append (codes " " ++ x.0 ++ weight_group x.1) (aim_bytes xs) in
    let b = length-append (codes " " ++ x.0) (weight_group x.1) in
    let c = length-append (codes " ") x.0 in
    let d = weight-length x.1 g.1 in
    let e = aims-length xs (All-tail IsShort x xs h) in
    omega (arith, a, b, c, d, e, g.0)

names-length : (kind : Kind) (ss : List Signal) → All (λ (s : Signal). is_name s.name ≡ true) ss → length (spaced_names kind ss) ≤ 101 * length ss
names-length kind [] h = omega arith
names-length kind (s ∷ ss) h =
    by_case (of_kind kind s) (names-length kind ss (All-tail (λ (x : Signal). is_name x.name ≡ true) s ss h))
  where
    by_case : (b : Bool) → length (spaced_names kind ss) ≤ 101 * length ss → length (cond b (codes " " ++ s.name ++ spaced_names kind ss) (spaced_names kind ss)) ≤ 101 * suc (length ss)
    by_case true e = omega (arith, length-append (codes " " ++ s.name) (spaced_names kind ss), length-append (codes " ") s.name, name-length s.name (All-head (λ (x : Signal). is_name x.name ≡ true) s ss h), e)
    by_case false e = omega (arith, e)

line-length : (directive : List ℕ) (kind : Kind) (ss : List Signal) → length directive ≤ 9 → All (λ (s : Signal). is_name s.name ≡ true) ss → length ss ≤ 250 → length (names_line directive kind ss) ≤ 25260
line-length directive kind ss short h few = by_case (list_any (of_kind kind) ss)
  where
    by_case : (b : Bool) → length (cond b (line (directive ++ spaced_names kind ss)) []) ≤ 25260
    by_case true = omega (arith, length-append (directive ++ spaced_names kind ss) (codes "\n"), length-append directive (spaced_names kind ss), names-length kind ss h, short, few)
    by_case false = omega arith

-- the lists for each number are short, beside a part that counts as another list
listed-length : {X Y : Type 0} (f : ℕ → List X) (g : ℕ → List Y) (n : ℕ) → ((k : ℕ) → k < n → length (f k) ≤ 112 + 121 * length (g k)) → length (listed_below f n) ≤ 112 * n + 121 * length (listed_below g n)
listed-length f g zero h = omega arith
listed-length f g (suc n) h =
    omega (arith, length-append (listed_below f n) (f n), length-append (listed_below g n) (g n), h n (omega arith), listed-length f g n (λ k b. h k (omega (arith, b))))

abbrev nothing : ℕ → List ℕ
nothing k = []

listed-none : (n : ℕ) → length (listed_below nothing n) ≡ 0
listed-none zero = refl
listed-none (suc n) = omega (arith, length-append (listed_below nothing n) (nothing n), listed-none n)

pub model-length : (part : ℕ) → part < 2 ^ 32 → length (model_line part) ≤ 22
model-length part small = omega (arith, length-append (codes ".model part" ++ decimal part) (codes "\n"), length-append (codes ".model part") (decimal part), length-decimal-le 10 part (omega arith) (omega (arith, small)) (omega (arith, small)))

module _ (prefix : List ℕ) (n : NetLists) (formed : IsFormed prefix n) (within : IsWithin PART n) (are : All (IsArcOf (length n.tokens) (length n.trans)) n.arcs) (short : (p : ℕ) → p < length n.tokens → length (numbered_name prefix p) ≤ 9) where
  index-length : (k : ℕ) → k < 1000000000 → length (index_text k) ≤ 10
  index-length k h = by_case (k == 0)
    where
      by_case : (b : Bool) → length (cond b [] (47 ∷ decimal k)) ≤ 10
      by_case true = omega arith
      by_case false = omega (arith, length-decimal-le 9 k (omega arith) (omega (arith, h)) (omega (arith, h)))

  trans-length : (t : ℕ) → t < length n.trans → length (trans_word n.signals n.trans t) ≤ 111
  trans-length t b =
      let d : TransName = record { signal = 0; edge = Rise; index = 0 } in
      let u = get_or n.trans t d in
      let name = name_at n.signals u.signal in
      let e : length (trans_word n.signals n.trans t) ≡ length (name ++ sign_of u.edge ∷ index_text u.index) = ap (λ o. length (option_map_or (word_of n.signals) o [])) (get-slice n.trans t d b) in
      let f = length-append name (sign_of u.edge ∷ index_text u.index) in
      let g = name-length name (name-formed prefix n formed u.signal (All-get_or (λ (x : TransName). x.signal < length n.signals) n.trans t d b formed.trans_signals)) in
      let h = index-length u.index (All-get_or (λ (x : TransName). x.index < 1000000000) n.trans t d b formed.indices) in
      omega (arith, e, f, g, h)

  given-short : (t : ℕ) → All IsShort (given_aims prefix t n.arcs)
  given-short t = All-map IsShort (aim_into prefix) (arcs_given n.arcs t) (All-filter (comes_from t) (λ (a : NetArc). (length (numbered_name prefix a.place) ≤ 111) × (a.weight < 10000000)) n.arcs
      (λ k d b. let s = short (get_or n.arcs k d).place (are k d b).place_there in let w = within.weights k d b in (omega (arith, s), omega (arith, w))))

  taken-short : (p : ℕ) → All IsShort (taker_aims n p n.arcs)
  taken-short p = All-map IsShort (aim_out_of n) (arcs_taken n.arcs p) (All-filter (goes_out_of p) (λ (a : NetArc). (length (trans_word n.signals n.trans a.trans) ≤ 111) × (a.weight < 10000000)) n.arcs
      (λ k d b. let w = within.weights k d b in (trans-length (get_or n.arcs k d).trans (are k d b).trans_there, omega (arith, w))))

  trans-line-length : (t : ℕ) → t < length n.trans → length (trans_line prefix n t) ≤ 112 + 121 * length (arcs_given n.arcs t)
  trans-line-length t b =
      let w = trans_word n.signals n.trans t in
      let e = ap length (given-bytes prefix t n.arcs) in
      omega (arith, length-append (w ++ given_text prefix t n.arcs) (codes "\n"), length-append w (given_text prefix t n.arcs), e, aims-length (given_aims prefix t n.arcs) (given-short t), length-map (arcs_given n.arcs t) (aim_into prefix), trans-length t b)

  place-line-length : (p : ℕ) → p < length n.tokens → length (place_line prefix n p) ≤ 112 + 121 * length (arcs_taken n.arcs p)
  place-line-length p b = by_case (is_only_given n.arcs p)
    where
      by_case : (c : Bool) → length (cond c [] (line (numbered_name prefix p ++ takers_of n p n.arcs))) ≤ 112 + 121 * length (arcs_taken n.arcs p)
      by_case true = omega arith
      by_case false =
          let w = numbered_name prefix p in
          let e = ap length (takers-bytes n p n.arcs) in
          omega (arith, length-append (w ++ takers_of n p n.arcs) (codes "\n"), length-append w (takers_of n p n.arcs), e, aims-length (taker_aims n p n.arcs) (taken-short p), length-map (arcs_taken n.arcs p) (aim_out_of n), short p b)

  entry-length : (p : ℕ) → p < length n.tokens → length (entry prefix n.tokens p) ≤ 112 + 121 * length (nothing p)
  entry-length p b = by_case (slice_index n.tokens p == 0)
    where
      most : slice_index n.tokens p ≤ 1000000
      most = All-get_or (λ x. x ≤ 1000000) n.tokens p 0 b within.tokens

      group-length : (c : Bool) → length (cond c [] (codes "=" ++ decimal (slice_index n.tokens p))) ≤ 8
      group-length true = omega arith
      group-length false = omega (arith, length-append (codes "=") (decimal (slice_index n.tokens p)), length-decimal-le 7 (slice_index n.tokens p) (omega arith) (omega (arith, most)) (omega (arith, most)))

      by_case : (c : Bool) → length (cond c [] (codes " " ++ numbered_name prefix p ++ tokens_group (slice_index n.tokens p))) ≤ 112 + 121 * length (nothing p)
      by_case true = omega arith
      by_case false = omega (arith, length-append (codes " " ++ numbered_name prefix p) (tokens_group (slice_index n.tokens p)), length-append (codes " ") (numbered_name prefix p), short p b, group-length (nat_le (slice_index n.tokens p) 1))

  header-length : length (header n.signals) ≤ 75780
  header-length =
      let i = names_line (codes ".inputs") Input n.signals in
      let o = names_line (codes ".outputs") Output n.signals in
      let l = names_line (codes ".internal") Internal n.signals in
      omega (
        arith,
        length-append (i ++ o) l,
        length-append i o,
        line-length (codes ".inputs") Input n.signals (omega arith) formed.names within.signals,
        line-length (codes ".outputs") Output n.signals (omega arith) formed.names within.signals,
        line-length (codes ".internal") Internal n.signals (omega arith) formed.names within.signals,
      )

  graph-length : length (graph_lines prefix n) ≤ 12700000
  graph-length =
      let ts = listed_below (trans_line prefix n) (length n.trans) in
      let ps = listed_below (place_line prefix n) (length n.tokens) in
      omega (
        arith,
        length-append (line (codes ".graph") ++ ts) ps,
        length-append (line (codes ".graph")) ts,
        listed-length (trans_line prefix n) (arcs_given n.arcs) (length n.trans) trans-line-length,
        listed-length (place_line prefix n) (arcs_taken n.arcs) (length n.tokens) place-line-length,
        written-length (length n.trans) (length n.tokens) n.arcs are,
        within.trans,
        within.places,
        within.arcs,
      )

  marking-length : length (marking_line prefix n.tokens) ≤ 460000
  marking-length =
      let es = listed_below (entry prefix n.tokens) (length n.tokens) in
      omega (
        arith,
        length-append (codes ".marking {" ++ es ++ codes " }") (codes "\n"),
        length-append (codes ".marking {" ++ es) (codes " }"),
        length-append (codes ".marking {") es,
        listed-length (entry prefix n.tokens) nothing (length n.tokens) entry-length,
        listed-none (length n.tokens),
        within.places,
      )

  pub text-length : (part : ℕ) → part < 2 ^ 32 → length (model_line part ++ net_lines prefix n) ≤ 16777216
  text-length part small =
      let h = header n.signals in
      let g = graph_lines prefix n in
      let m = marking_line prefix n.tokens in
      omega (
        arith,
        length-append (model_line part) (net_lines prefix n),
        length-append (h ++ g ++ m) (line (codes ".end")),
        length-append (h ++ g) m,
        length-append h g,
        model-length part small,
        header-length,
        graph-length,
        marking-length,
      )
