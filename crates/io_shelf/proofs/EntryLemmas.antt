-- A list of entries as a map from names to bytes.
use Rattle.std.proofs.Common.{◌≡◌, ℕ, Bool, true, false, true≢false, cond, List, [], ◌∷◌, Option, Some, refl, sym, ap, ◌∙◌, arith, ◌++◌, ◌+◌, ◌<◌, suc, slice_get, slice_set, length, take, drop, get_or, drop-cons, ◌-◌, ◌≤◌, min, length-drop}
use Rattle.std.specs.Ordering.{nat_cmp, eq_by_cmp}
use Rattle.std.proofs.lemmas.Cmp.{nat_list_cmp_total}
use Rattle.std.specs.Cmp.Lexicographic.{slice_cmp}
use Rattle.std.specs.FinMap.{find, get, insert, get-from_entries, get-insert, same_map, slice_cmp-IsAntisymmetric, nat_cmp-IsAntisymmetric}
use Rattle.std.specs.Str.{bytes_eq}
use Rattle.std.proofs.lemmas.Map.Text.{is_eq-slice_cmp}
use Rattle.std.specs.Option.{option_map, option_map_or}
use Rattle.std.proofs.lemmas.Option.{slice_get_read, slice_get-get_or}
use Rattle.std.proofs.lemmas.List.{take-append-drop, drop-drop, take_all, set_split}
use Rattle.std.proofs.lemmas.Slice.Eq.{bytes_eq-Decides}
use Rattle.io_shelf.specs.Entries.{NamedBytes, files_of, bytes_of, put_entry, bytes_at}

-- two names that differ don't both tie with q
swapped : {X : Type 0} (q n k : List ℕ) (y x z : Option X) → bytes_eq n k ≡ false → (a b : Bool) → bytes_eq q k ≡ a → bytes_eq q n ≡ b → cond a x (cond b y z) ≡ cond b y (cond a x z)
swapped q n k y x z differ true true p r =
    let same : n ≡ k = sym ((bytes_eq-Decides q n).0 r) ∙ (bytes_eq-Decides q k).0 p in
    absurd (true≢false (sym ((bytes_eq-Decides n k).1 same) ∙ differ))
swapped q n k y x z differ true false p r = refl
swapped q n k y x z differ false b p r = refl

covered : {X : Type 0} (q n k : List ℕ) (y x z : Option X) → n ≡ k → (b : Bool) → bytes_eq q n ≡ b → cond (bytes_eq q n) y z ≡ cond (bytes_eq q n) y (cond (bytes_eq q k) x z)
covered q n k y x z same true r = grind arith
covered q n k y x z same false r = grind arith

-- the map finds what the list has
pub found_is : (q : List ℕ) (es : List NamedBytes) → find (slice_cmp nat_cmp) q es ≡ bytes_of q es
found_is q [] = refl
found_is q (e ∷ es) = ap (λ b. cond b (Some e.1) (find (slice_cmp nat_cmp) q es)) (is_eq-slice_cmp q e.0) ∙ ap (λ r. cond (bytes_eq q e.0) (Some e.1) r) (found_is q es)

found_in : (n bytes q : List ℕ) (es : List NamedBytes) → bytes_of q (put_entry n bytes es) ≡ cond (bytes_eq q n) (Some bytes) (bytes_of q es)
found_in n bytes q [] = refl
found_in n bytes q (e ∷ es) = by (bytes_eq n e.0) refl (found_in n bytes q es)
  where
    by : (b : Bool) → bytes_eq n e.0 ≡ b → bytes_of q (put_entry n bytes es) ≡ cond (bytes_eq q n) (Some bytes) (bytes_of q es)
        → bytes_of q (cond b ((n, bytes) ∷ es) (e ∷ put_entry n bytes es)) ≡ cond (bytes_eq q n) (Some bytes) (bytes_of q (e ∷ es))
    by true tie rest = covered q n e.0 (Some bytes) (Some e.1) (bytes_of q es) ((bytes_eq-Decides n e.0).0 tie) (bytes_eq q n) refl
    by false differ rest =
        ap (λ r. cond (bytes_eq q e.0) (Some e.1) r) rest
        ∙ swapped q n e.0 (Some bytes) (Some e.1) (bytes_of q es) differ (bytes_eq q e.0) (bytes_eq q n) refl refl

pub named_is : (n : List ℕ) (es : List NamedBytes) → get (files_of es) n ≡ bytes_of n es
named_is n es = get-from_entries nat_list_cmp_total es n ∙ found_is n es

-- to put an entry is to insert it into the map
pub put_is_insert : (n bytes : List ℕ) (es : List NamedBytes) → files_of (put_entry n bytes es) ≡ insert (files_of es) n bytes
put_is_insert n bytes es =
    same_map nat_list_cmp_total (slice_cmp-IsAntisymmetric nat_cmp-IsAntisymmetric) (files_of (put_entry n bytes es)) (insert (files_of es) n bytes)
    (λ q. named_is q (put_entry n bytes es)
    ∙ found_in n bytes q es
    ∙ ap (λ b. cond b (Some bytes) (bytes_of q es)) (sym (is_eq-slice_cmp q n))
    ∙ ap (λ r. cond (eq_by_cmp (slice_cmp nat_cmp) q n) (Some bytes) r) (sym (named_is q es))
    ∙ sym (get-insert nat_list_cmp_total (files_of es) n bytes q))

module _ (name : List ℕ) (es : List NamedBytes) (i : ℕ) (e : NamedBytes) (below : i < length es) (here : e ≡ get_or es i e) (tie : bytes_eq name e.0 ≡ true) where
  first_here : drop i es ≡ e ∷ drop (suc i) es
  first_here = drop-cons es i e below ∙ ap (λ (x : NamedBytes). x ∷ drop (suc i) es) (sym here)

  -- where the search ends, the bytes are found
  pub hit_bytes : bytes_of name (drop i es) ≡ bytes_of name es → bytes_of name es ≡ option_map (λ (e : NamedBytes). e.1) (slice_get es i)
  hit_bytes left =
      sym left ∙ ap (bytes_of name) first_here ∙ ap (λ b. cond b (Some e.1) (bytes_of name (drop (suc i) es))) tie
      ∙ ap (option_map (λ (e : NamedBytes). e.1)) (sym (slice_get_read es (length es) i e refl below here))

  -- and an entry is put there
  pub hit_put : (b : List ℕ) → put_entry name b es ≡ take i es ++ put_entry name b (drop i es) → put_entry name b es ≡ slice_set es i (name, b)
  hit_put b left =
      left ∙ ap (λ (l : List NamedBytes). take i es ++ put_entry name b l) first_here
      ∙ ap (λ c. take i es ++ cond c ((name, b) ∷ drop (suc i) es) (e ∷ put_entry name b (drop (suc i) es))) tie
      ∙ sym (set_split es i (name, b) below)

-- bytes that were taken and those that are left are all
pub read_on : (bs : List ℕ) (from n : ℕ) → drop from bs ≡ take n (drop from bs) ++ drop (from + n) bs
read_on bs from n = sym (take-append-drop n (drop from bs)) ∙ ap (λ (l : List ℕ). take n (drop from bs) ++ l) (drop-drop n from bs)

-- a search that ends at a place found the bytes there
pub found_at : (n : List ℕ) (es : List NamedBytes) (i : ℕ) → i < length es → bytes_of n es ≡ option_map (λ (e : NamedBytes). e.1) (slice_get es i) → Some (bytes_at es i) ≡ get (files_of es) n
found_at n es i below found =
    let here = slice_get-get_or es i ([], []) below in
    ap (λ r. Some (option_map_or (λ (e : NamedBytes). e.1) r [])) here ∙ sym (found ∙ ap (option_map (λ (e : NamedBytes). e.1)) here) ∙ sym (named_is n es)

-- what a copy of the front of a slice from a place on leaves
pub read_from : (bs buf : List ℕ) (from n : ℕ) → take n buf ≡ take n (take (length bs - from) (drop from bs)) → drop from bs ≡ take n buf ++ drop (from + n) bs
read_from bs buf from n copied =
    let short : length (drop from bs) ≤ length bs - from = omega (arith, length-drop from bs) in
    read_on bs from n ∙ ap (λ (l : List ℕ). l ++ drop (from + n) bs) (sym (copied ∙ ap (take n) (take_all (length bs - from) (drop from bs) short)))

-- where nothing was read and there was room, nothing is left
pub read_none : (bs : List ℕ) (from room piece n : ℕ) → n ≡ min (min (length (take (length bs - from) (drop from bs))) room) piece → 0 < room → 1 ≤ piece → n ≡ 0 → drop (from + n) bs ≡ []
read_none bs from room piece n count some least none =
    let short : length (drop from bs) ≤ length bs - from = omega (arith, length-drop from bs) in
    let all = ap length (take_all (length bs - from) (drop from bs) short) in
    let gone : length (drop (from + n) bs) ≡ 0 = omega (arith, length-drop (from + n) bs, length-drop from bs, all) in
    by (drop (from + n) bs) gone
  where
    by : (l : List ℕ) → length l ≡ 0 → l ≡ []
    by [] e = refl
    by (x ∷ l) e = absurd (omega arith)
