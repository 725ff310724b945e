-- The walk over the desk's routes.
use Rattle.std.proofs.Common.{◌≡◌, ℕ, zero, suc, ◌-◌, ◌+◌, ◌<◌, Bool, true, false, true≢false, cond, ◌&&◌, ◌==◌, ltb, List, [], ◌∷◌, ◌++◌, length, Option, Some, None, refl, sym, ap, ap₂, ◌∙◌, arith, codes, ne_eqb, eq-eqb, nat_eq, drop}
use Rattle.std.specs.Bool.{⊤}
use Rattle.std.specs.Cmp.Lexicographic.{pointwise}
use Rattle.std.proofs.Math.Seq.{drop-append_seam}
use Rattle.std.proofs.lemmas.List.{length-append}
use Rattle.std.proofs.lemmas.Bool.{lt-ltb, eqb-true}
use Rattle.matchit.specs.Rows.{RowsOf}
use Rattle.matchit.specs.Seek.{seek, first, own, step, segment, has_slash, cuts, param_step, or_else}
use Rattle.std.specs.Option.{option_map, option_and_then}
use Rattle.matchit.specs.Router.{RouteOf}
use Rattle.desk_http.specs.declared.routes.Kind.{Kind}
use Rattle.desk_http.specs.declared.routes.Kind.TheVariants as kinds
use Rattle.desk_http.specs.Routes.{IsRoutes, chosen, at_root, below, last_piece, from_slash, past_prefix, is_plain}

and_false : (a : Bool) → (a && false) ≡ false
and_false true = refl
and_false false = refl

slash_parts : (x : ℕ) (xs : List ℕ) → has_slash (x ∷ xs) ≡ false → ((x == 47) ≡ false) × (has_slash xs ≡ false)
slash_parts x xs e = by (x == 47) refl e
  where
    by : (b : Bool) → (x == 47) ≡ b → cond b true (has_slash xs) ≡ false → ((x == 47) ≡ false) × (has_slash xs ≡ false)
    by true t e = absurd (true≢false e)
    by false t e = (t, e)

-- a text without a slash is one segment
whole_segment : (text : List ℕ) → has_slash text ≡ false → segment text ≡ text
whole_segment [] e = refl
whole_segment (x ∷ xs) e = let parts = slash_parts x xs e in rw (parts.0) (ap (λ (t : List ℕ). x ∷ t) (whole_segment xs parts.1))

-- and doesn't end in one
no_end : (n : ℕ) (text : List ℕ) → has_slash text ≡ false → pointwise nat_eq (47 ∷ []) (drop n text) ≡ false
no_end zero [] e = refl
no_end (suc n) [] e = refl
no_end (suc n) (x ∷ xs) e = no_end n xs (slash_parts x xs e).1
no_end zero (x ∷ xs) e = ap (λ b. b && pointwise nat_eq [] xs) (ne_eqb 47 x (λ same. true≢false (sym (eq-eqb x 47 (sym same)) ∙ (slash_parts x xs e).0)))

no_cut : (text : List ℕ) → has_slash text ≡ false → cuts (segment text) (47 ∷ []) ≡ false
no_cut text e =
    ap (λ (s : List ℕ). cuts s (47 ∷ [])) (whole_segment text e)
    ∙ ap (λ b. ltb 1 (length text) && b) (no_end (length text - 1) text e)
    ∙ and_false (ltb 1 (length text))

-- bytes are no other tokens
plain_parts : (c : ℕ) (cs : List ℕ) → is_plain (c ∷ cs) ≡ true → ((c == 256) ≡ false) × ((c == 257) ≡ false) × (is_plain cs ≡ true)
plain_parts c cs e = by (c == 256) (c == 257) refl refl e
  where
    by : (a b : Bool) → (c == 256) ≡ a → (c == 257) ≡ b → cond a false (cond b false (is_plain cs)) ≡ true → ((c == 256) ≡ false) × ((c == 257) ≡ false) × (is_plain cs ≡ true)
    by true b p q e = absurd (true≢false (sym e))
    by false true p q e = absurd (true≢false (sym e))
    by false false p q e = (p, q, e)

-- and the other way round
turned : (c n : ℕ) → (c == n) ≡ false → (n == c) ≡ false
turned c n e = ne_eqb n c (λ same. true≢false (sym (eq-eqb c n (sym same)) ∙ e))

-- what follows a prefix is plain, too
plain_from_slash : (cs : List ℕ) → is_plain cs ≡ true → is_plain (from_slash cs) ≡ true
plain_from_slash [] e = refl
plain_from_slash (c ∷ cs) e = by (plain_from_slash cs (plain_parts c cs e).2) (c == 47)
  where
    by : is_plain (from_slash cs) ≡ true → (b : Bool) → is_plain (cond b (c ∷ cs) (from_slash cs)) ≡ true
    by rest true = e
    by rest false = rest

abbrev IfPlain : Option (List ℕ) → Type 0
IfPlain None = ⊤
IfPlain (Some text) = is_plain text ≡ true

plain_after : (w path : List ℕ) → is_plain path ≡ true → IfPlain (past_prefix w path)
plain_after [] path e = e
plain_after (c ∷ cs) [] e = tt
plain_after (c ∷ cs) (x ∷ path) e = by (plain_after cs path (plain_parts x path e).2) (c == x)
  where
    by : IfPlain (past_prefix cs path) → (b : Bool) → IfPlain (cond b (past_prefix cs path) None)
    by rest true = rest
    by rest false = tt

-- the bytes before the first slash
abbrev piece : List ℕ → List ℕ
piece [] = []
piece (c ∷ cs) = cond (c == 47) [] (c ∷ piece cs)

segment_is : (cs : List ℕ) → has_slash cs ≡ true → segment cs ≡ piece cs ++ 47 ∷ []
segment_is [] e = absurd (true≢false (sym e))
segment_is (c ∷ cs) e = by (segment_is cs) (c == 47) refl e
  where
    by : (has_slash cs ≡ true → segment cs ≡ piece cs ++ 47 ∷ []) → (b : Bool) → (c == 47) ≡ b → cond b true (has_slash cs) ≡ true → cond b (c ∷ []) (c ∷ segment cs) ≡ cond b [] (c ∷ piece cs) ++ 47 ∷ []
    by rest true t e = ap (λ (x : ℕ). x ∷ []) (eqb-true c 47 t)
    by rest false t e = ap (λ (s : List ℕ). c ∷ s) (rest e)

cut_end : (m : List ℕ) → 0 < length m → cuts (m ++ 47 ∷ []) (47 ∷ []) ≡ true
cut_end m some =
    let len : length (m ++ 47 ∷ []) ≡ length m + 1 = length-append m (47 ∷ []) in
    let less : length (m ++ 47 ∷ []) - 1 ≡ length m = omega (arith, len) in
    ap₂ (λ (a b : Bool). a && b) (lt-ltb 1 (length (m ++ 47 ∷ [])) (omega (arith, len, some)))
    (ap (λ (k : ℕ). pointwise nat_eq (47 ∷ []) (drop k (m ++ 47 ∷ []))) less ∙ ap (pointwise nat_eq (47 ∷ [])) (drop-append_seam m (47 ∷ [])))

-- a text with a slash past its first byte is cut by it
cut_slash : (c : ℕ) (cs : List ℕ) → (c == 47) ≡ false → has_slash cs ≡ true → cuts (segment (c ∷ cs)) (47 ∷ []) ≡ true
cut_slash c cs t e =
    ap (λ (b : Bool). cuts (cond b (c ∷ []) (c ∷ segment cs)) (47 ∷ [])) t
    ∙ ap (λ (s : List ℕ). cuts (c ∷ s) (47 ∷ [])) (segment_is cs e)
    ∙ cut_end (c ∷ piece cs) (omega arith)

has_segment : (cs : List ℕ) → has_slash cs ≡ true → 0 < length (segment cs)
has_segment cs e = omega (arith, ap length (segment_is cs e) ∙ length-append (piece cs) (47 ∷ []))

module _ {K : Type 0} where
  abbrev none : RowsOf K
  none = []

  by_slash : (b : Bool) (n : ℕ) → (cond {A = ℕ × RowsOf K} b (0, none) (n, none)).1 ≡ none
  by_slash true n = refl
  by_slash false n = refl

  no_step : (path : List ℕ) → (param_step none path).1 ≡ none
  unfolding param_step
  no_step path = by_slash (has_slash path) (length path)

  -- without rows there is no route
  no_rows : (n : ℕ) (path : List ℕ) → seek n none path ≡ None
  unfolding seek
  no_rows n [] = refl
  no_rows (suc n) (b ∷ path) = no_rows n path
  no_rows zero (b ∷ path) =
      let k : ℕ = (param_step none (b ∷ path)).0 - 1 in
      ap₂ or_else (no_rows 0 path) (ap (λ o. or_else o None) (ap (λ (rs : RowsOf K). seek k rs path) (no_step (b ∷ path)) ∙ no_rows k path))

  -- what is skipped to the end
  skipped : (rs : RowsOf K) (path : List ℕ) → seek (length path) rs path ≡ own rs
  unfolding seek
  skipped rs [] = refl
  skipped rs (b ∷ path) = skipped rs path

  -- each row with these tokens in front
  abbrev prefixed : List ℕ → RowsOf K → RowsOf K
  prefixed w [] = []
  prefixed w ((t, k) ∷ rs) = (w ++ t, k) ∷ prefixed w rs

  prefixed_nil : (rs : RowsOf K) → prefixed [] rs ≡ rs
  prefixed_nil [] = refl
  prefixed_nil ((t, k) ∷ rs) = ap (λ (r : RowsOf K). (t, k) ∷ r) (prefixed_nil rs)

  step_hit : (b c : ℕ) (cs : List ℕ) (rs : RowsOf K) → (c == b) ≡ true → step b (prefixed (c ∷ cs) rs) ≡ prefixed cs rs
  step_hit b c cs [] e = refl
  step_hit b c cs ((t, k) ∷ rs) e = rw (e) (ap (λ (r : RowsOf K). (cs ++ t, k) ∷ r) (step_hit b c cs rs e))

  step_miss : (b c : ℕ) (cs : List ℕ) (rs : RowsOf K) → (c == b) ≡ false → step b (prefixed (c ∷ cs) rs) ≡ none
  step_miss b c cs [] e = refl
  step_miss b c cs ((t, k) ∷ rs) e = rw (e) (step_miss b c cs rs e)

  own_prefixed : (c : ℕ) (cs : List ℕ) (rs : RowsOf K) → own (prefixed (c ∷ cs) rs) ≡ None
  own_prefixed c cs [] = refl
  own_prefixed c cs ((t, k) ∷ rs) = own_prefixed c cs rs

  or_none : (o : Option K) → or_else o None ≡ o
  or_none None = refl
  or_none (Some k) = refl

  -- where no row goes on with a parameter, the next byte decides
  one_step : (rows : RowsOf K) (b : ℕ) (path : List ℕ) → step 256 rows ≡ none → step 257 rows ≡ none → seek 0 rows (b ∷ path) ≡ seek 0 (step b rows) path
  unfolding seek
  one_step rows b path no_param no_all =
      let k : ℕ = (param_step none (b ∷ path)).0 - 1 in
      rw (no_param, no_all) (
      ap (λ (o : Option K). or_else (seek 0 (step b rows) path) (or_else o None)) (ap (λ (rs : RowsOf K). seek k rs path) (no_step (b ∷ path)) ∙ no_rows k path)
      ∙ or_none (seek 0 (step b rows) path))

  -- bytes in front of all rows
  walk : (w : List ℕ) (rs : RowsOf K) (path : List ℕ) → is_plain w ≡ true → seek 0 (prefixed w rs) path ≡ option_and_then (λ (rest : List ℕ). seek 0 rs rest) (past_prefix w path)
  unfolding seek
  walk [] rs path e = ap (λ (r : RowsOf K). seek 0 r path) (prefixed_nil rs)
  walk (c ∷ cs) rs [] e = own_prefixed c cs rs
  walk (c ∷ cs) rs (x ∷ path) e =
      let p = plain_parts c cs e in
      one_step (prefixed (c ∷ cs) rs) x path (step_miss 256 c cs rs p.0) (step_miss 257 c cs rs p.1) ∙ by (walk cs rs path p.2) (c == x) refl
    where
      by : seek 0 (prefixed cs rs) path ≡ option_and_then (λ (rest : List ℕ). seek 0 rs rest) (past_prefix cs path) → (b : Bool) → (c == x) ≡ b → seek 0 (step x (prefixed (c ∷ cs) rs)) path ≡ option_and_then (λ (rest : List ℕ). seek 0 rs rest) (cond b (past_prefix cs path) None)
      by more true t = ap (λ (r : RowsOf K). seek 0 r path) (step_hit x c cs rs t) ∙ more
      by more false t = ap (λ (r : RowsOf K). seek 0 r path) (step_miss x c cs rs t) ∙ no_rows 0 path

  -- what is skipped up to a slash
  skip_to : (rs : RowsOf K) (cs : List ℕ) → has_slash cs ≡ true → seek (length (segment cs) - 1) rs cs ≡ seek 0 rs (from_slash cs)
  unfolding seek
  skip_to rs [] e = absurd (true≢false (sym e))
  skip_to rs (c ∷ cs) e = by (skip_to rs cs) (c == 47) refl e
    where
      more : (has_slash cs ≡ true → seek (length (segment cs) - 1) rs cs ≡ seek 0 rs (from_slash cs)) → (s : List ℕ) → has_slash cs ≡ true → segment cs ≡ s → seek (suc (length s) - 1) rs (c ∷ cs) ≡ seek 0 rs (from_slash cs)
      more go [] e same = absurd (omega (arith, has_segment cs e, ap length same))
      more go (x ∷ s) e same =
          let two : suc (length (x ∷ s)) - 1 ≡ suc (length s) = omega arith in
          let one : length s ≡ length (segment cs) - 1 = omega (arith, ap length same) in
          ap (λ (n : ℕ). seek n rs (c ∷ cs)) two ∙ ap (λ (n : ℕ). seek n rs cs) one ∙ go e

      by : (has_slash cs ≡ true → seek (length (segment cs) - 1) rs cs ≡ seek 0 rs (from_slash cs)) → (b : Bool) → (c == 47) ≡ b → cond b true (has_slash cs) ≡ true → seek (length (cond b (c ∷ []) (c ∷ segment cs)) - 1) rs (c ∷ cs) ≡ seek 0 rs (cond b (c ∷ cs) (from_slash cs))
      by go true t e = refl
      by go false t e = more go (segment cs) e refl

  -- the rows below `/projects/`, and those after a name
  abbrev under : K → K → RowsOf K
  under part project = (256 ∷ codes "/parts/" ++ 256 ∷ [], part) ∷ (256 ∷ [], project) ∷ []

  abbrev after_name : K → K → RowsOf K
  after_name part project = (codes "/parts/" ++ 256 ∷ [], part) ∷ ([], project) ∷ []

  abbrev in_parts : K → RowsOf K
  in_parts part = (codes "/parts/" ++ 256 ∷ [], part) ∷ []

  abbrev last : K → RowsOf K
  last part = (256 ∷ [], part) ∷ []

  abbrev pub three : K → K → K → RowsOf K
  three part project projects = (codes "/projects/" ++ 256 ∷ codes "/parts/" ++ 256 ∷ [], part) ∷ (codes "/projects/" ++ 256 ∷ [], project) ∷ (codes "/projects", projects) ∷ []

  abbrev root : K → K → K → RowsOf K
  root part project projects = (47 ∷ 256 ∷ codes "/parts/" ++ 256 ∷ [], part) ∷ (47 ∷ 256 ∷ [], project) ∷ ([], projects) ∷ []

  abbrev ends_here : K → RowsOf K
  ends_here part = ([], part) ∷ []

  -- where all rows go on with a parameter, what it takes decides
  param_only : (rows : RowsOf K) (c : ℕ) (cs : List ℕ) (r : ℕ × RowsOf K) → step c rows ≡ none → step 257 rows ≡ none → param_step (step 256 rows) (c ∷ cs) ≡ r → seek 0 rows (c ∷ cs) ≡ seek (r.0 - 1) r.1 cs
  unfolding seek
  param_only rows c cs r no_byte no_all is =
      ap₂ or_else
      (ap (λ (rs : RowsOf K). seek 0 rs cs) no_byte ∙ no_rows 0 cs)
      (ap₂ or_else (ap (λ (x : ℕ × RowsOf K). seek (x.0 - 1) x.1 cs) is) (ap own no_all) ∙ or_none (seek (r.0 - 1) r.1 cs))

  to_end : (rs : RowsOf K) (c : ℕ) (cs : List ℕ) → seek (length (c ∷ cs) - 1) rs cs ≡ own rs
  to_end rs c cs =
      let one_less : length (c ∷ cs) - 1 ≡ length cs = omega arith in
      ap (λ (n : ℕ). seek n rs cs) one_less ∙ skipped rs cs

  last_step : (part : K) (c : ℕ) (cs : List ℕ) → param_step (ends_here part) (c ∷ cs) ≡ cond (has_slash (c ∷ cs)) (0, none) (length (c ∷ cs), ends_here part)
  unfolding param_step
  last_step part c cs = refl

  at_last : (part : K) (text : List ℕ) → is_plain text ≡ true → seek 0 (last part) text ≡ last_piece part text
  unfolding seek
  at_last part [] e = refl
  at_last part (c ∷ cs) e =
      let p = plain_parts c cs e in
      param_only (last part) c cs _ (rw (turned c 256 p.0) refl) refl (last_step part c cs) ∙ by (has_slash (c ∷ cs))
    where
      by : (b : Bool) → seek ((cond {A = ℕ × RowsOf K} b (0, none) (length (c ∷ cs), ends_here part)).0 - 1) (cond {A = ℕ × RowsOf K} b (0, none) (length (c ∷ cs), ends_here part)).1 cs ≡ cond b None (Some part)
      by true = no_rows (0 - 1) cs
      by false = to_end (ends_here part) c cs

  name_missed : (part project : K) (c : ℕ) (cs : List ℕ) → cuts (segment (c ∷ cs)) (47 ∷ []) ≡ false → param_step (after_name part project) (c ∷ cs) ≡ cond (has_slash (c ∷ cs)) (0, none) (length (c ∷ cs), after_name part project)
  unfolding param_step
  name_missed part project c cs e = rw (e) refl

  name_hit : (part project : K) (c : ℕ) (cs : List ℕ) → cuts (segment (c ∷ cs)) (47 ∷ []) ≡ true → param_step (after_name part project) (c ∷ cs) ≡ (length (segment (c ∷ cs)) - 1, in_parts part)
  unfolding param_step
  name_hit part project c cs e = rw (e) refl

  and_same : (f g : List ℕ → Option K) (o : Option (List ℕ)) → IfPlain o → ((t : List ℕ) → is_plain t ≡ true → f t ≡ g t) → option_and_then f o ≡ option_and_then g o
  and_same f g None plain same = refl
  and_same f g (Some t) plain same = same t plain

  at_parts : (part : K) (text : List ℕ) → is_plain text ≡ true → seek 0 (in_parts part) text ≡ option_and_then (last_piece part) (past_prefix (codes "/parts/") text)
  at_parts part text e =
      walk (codes "/parts/") (last part) text refl
      ∙ and_same (λ (t : List ℕ). seek 0 (last part) t) (last_piece part) (past_prefix (codes "/parts/") text) (plain_after (codes "/parts/") text e) (at_last part)

  at_below : (part project : K) (text : List ℕ) → is_plain text ≡ true → seek 0 (under part project) text ≡ below part project text
  unfolding seek
  at_below part project [] e = refl
  at_below part project (c ∷ cs) e = by (c == 47) refl
    where
      p : ((c == 256) ≡ false) × ((c == 257) ≡ false) × (is_plain cs ≡ true)
      p = plain_parts c cs e

      no_byte : step c (under part project) ≡ none
      no_byte = rw (turned c 256 p.0) refl

      to_name : (r : ℕ × RowsOf K) → param_step (after_name part project) (c ∷ cs) ≡ r → seek 0 (under part project) (c ∷ cs) ≡ seek (r.0 - 1) r.1 cs
      to_name r is = param_only (under part project) c cs r no_byte refl is

      slashed : (b : Bool) → (c == 47) ≡ false → has_slash cs ≡ b → seek 0 (under part project) (c ∷ cs) ≡ cond b (option_and_then (last_piece part) (past_prefix (codes "/parts/") (from_slash cs))) (Some project)
      slashed true t h =
          let len : length (segment (c ∷ cs)) - 1 - 1 ≡ length (segment cs) - 1 = omega (arith, ap (λ (b : Bool). length (cond b (c ∷ []) (c ∷ segment cs))) t) in
          to_name _ (name_hit part project c cs (cut_slash c cs t h))
          ∙ ap (λ (n : ℕ). seek n (in_parts part) cs) len
          ∙ skip_to (in_parts part) cs h
          ∙ at_parts part (from_slash cs) (plain_from_slash cs p.2)
      slashed false t h =
          let no_slash : has_slash (c ∷ cs) ≡ false = ap (λ (b : Bool). cond b true (has_slash cs)) t ∙ h in
          to_name _ (name_missed part project c cs (no_cut (c ∷ cs) no_slash) ∙ ap (λ (b : Bool). cond {A = ℕ × RowsOf K} b (0, none) (length (c ∷ cs), after_name part project)) no_slash)
          ∙ to_end (after_name part project) c cs

      by : (b : Bool) → (c == 47) ≡ b → seek 0 (under part project) (c ∷ cs) ≡ cond b None (cond (has_slash cs) (option_and_then (last_piece part) (past_prefix (codes "/parts/") (from_slash cs))) (Some project))
      by true t =
          let no_cut_here : cuts (segment (c ∷ cs)) (47 ∷ []) ≡ false = ap (λ (b : Bool). cuts (cond b (c ∷ []) (c ∷ segment cs)) (47 ∷ [])) t in
          to_name _ (name_missed part project c cs no_cut_here ∙ ap (λ (b : Bool). cond {A = ℕ × RowsOf K} (cond b true (has_slash cs)) (0, none) (length (c ∷ cs), after_name part project)) t)
          ∙ no_rows (0 - 1) cs
      by false t = slashed (has_slash cs) t refl

  at_the_root : (part project projects : K) (text : List ℕ) → is_plain text ≡ true → seek 0 (root part project projects) text ≡ at_root part project projects text
  unfolding seek
  at_the_root part project projects [] e = refl
  at_the_root part project projects (c ∷ cs) e = one_step (root part project projects) c cs refl refl ∙ by (47 == c) refl
    where
      by : (b : Bool) → (47 == c) ≡ b → seek 0 (step c (root part project projects)) cs ≡ cond b (below part project cs) None
      by true t = ap (λ (rs : RowsOf K). seek 0 rs cs) (rw (t) refl) ∙ at_below part project cs (plain_parts c cs e).2
      by false t = ap (λ (rs : RowsOf K). seek 0 rs cs) (rw (t) refl) ∙ no_rows 0 cs

  pub at_path : (part project projects : K) (path : List ℕ) → is_plain path ≡ true → first (three part project projects) path ≡ chosen part project projects path
  at_path part project projects path e =
      walk (codes "/projects") (root part project projects) path refl
      ∙ and_same (λ (t : List ℕ). seek 0 (root part project projects) t) (at_root part project projects) (past_prefix (codes "/projects") path) (plain_after (codes "/projects") path e) (at_the_root part project projects)

-- ---- the values of the routes

module _ {K L : Type 0} (f : K → L) where
  map_and_then : (g : List ℕ → Option K) (h : List ℕ → Option L) (o : Option (List ℕ)) → ((t : List ℕ) → option_map f (g t) ≡ h t) → option_map f (option_and_then g o) ≡ option_and_then h o
  map_and_then g h None same = refl
  map_and_then g h (Some t) same = same t

  map_cond : (b : Bool) (x y : Option K) → option_map f (cond b x y) ≡ cond b (option_map f x) (option_map f y)
  map_cond true x y = refl
  map_cond false x y = refl

  map_last : (part : K) (text : List ℕ) → option_map f (last_piece part text) ≡ last_piece (f part) text
  map_last part [] = refl
  map_last part (c ∷ cs) = map_cond (has_slash (c ∷ cs)) None (Some part)

  map_below : (part project : K) (text : List ℕ) → option_map f (below part project text) ≡ below (f part) (f project) text
  map_below part project [] = refl
  map_below part project (c ∷ cs) =
      let parts = option_and_then (last_piece part) (past_prefix (codes "/parts/") (from_slash cs)) in
      map_cond (c == 47) None (cond (has_slash cs) parts (Some project))
      ∙ ap (cond (c == 47) None) (map_cond (has_slash cs) parts (Some project) ∙ ap (λ (o : Option L). cond (has_slash cs) o (Some (f project))) (map_and_then (last_piece part) (last_piece (f part)) (past_prefix (codes "/parts/") (from_slash cs)) (map_last part)))

  map_root : (part project projects : K) (text : List ℕ) → option_map f (at_root part project projects text) ≡ at_root (f part) (f project) (f projects) text
  map_root part project projects [] = refl
  map_root part project projects (c ∷ cs) = map_cond (47 == c) (below part project cs) None ∙ ap (λ (o : Option L). cond (47 == c) o None) (map_below part project cs)

  map_chosen : (part project projects : K) (path : List ℕ) → option_map f (chosen part project projects path) ≡ chosen (f part) (f project) (f projects) path
  map_chosen part project projects path = map_and_then (at_root part project projects) (at_root (f part) (f project) (f projects)) (past_prefix (codes "/projects") path) (map_root part project projects)

-- ---- the router

abbrev Route : Type 0
Route = RouteOf Kind

pub has_routes : (part project projects : Route) → part.value ≡ kinds.Part → project.value ≡ kinds.Project → projects.value ≡ kinds.Projects → IsRoutes (three part project projects)
has_routes part project projects p q r path plain =
    ap (option_map (λ (x : Route). x.value)) (at_path part project projects path plain)
    ∙ map_chosen (λ (x : Route). x.value) part project projects path
    ∙ rw (p, q, r) refl
