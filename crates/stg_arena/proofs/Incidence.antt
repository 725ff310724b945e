-- A walk gives the live other ends that have a weight, in ascending order.
use Rattle.std.proofs.Common.{◌≡◌, ◌≢◌, ◌<◌, ◌≤◌, ◌⊎◌, ◌+◌, ◌-◌, ◌∷◌, ℕ, zero, suc, Bool, true, false, ◌&&◌, cond, List, length, ltb, leb, eqb, eq-eqb, subst, sym, ap, ◌∙◌, refl, inl, inr, zero-add, arith}
use Rattle.std.specs.List.{filter}
use Rattle.std.proofs.lemmas.Bool.{cases_eq, cases_lt, cases_order, cond_both, ne_eqb, le-leb, lt-leb, and_left}
use Rattle.stg_arena.specs.declared.end.End.{End}
use Rattle.stg_arena.specs.declared.end.Way.{Way}
use Rattle.stg_arena.specs.Ends.{other}
use Rattle.stg_arena.specs.ArenaView.{Layout, none, count_of, cell_at, end_of, head_of, removed_at, until_of, side, times_of, IsLaid, IsTimed}
use Rattle.stg_arena.specs.RingWalk.{items_from, cell_weight, is_item, item_of, items_left_from, items_left}
use Rattle.stg_arena.specs.WalkItems.{weighted_from, weighted}
use Rattle.stg_arena.specs.Incidence.{weight_along}
use Rattle.stg_arena.specs.LinkHistory.{IsNextAt}
use Rattle.stg_arena.proofs.RemovalTimes.{until_by}
use Rattle.stg_arena.proofs.RingWalk.{items_left_step}
use Rattle.stg_arena.proofs.LinksOneSide.{head_on}
use Rattle.stg_arena.proofs.ArenaInvariant.{crossed_of}
use Rattle.stg_arena.proofs.RingWeights.{none_by, here_by}
use Rattle.stg_arena.proofs.Lists.{same_map}

-- numbers without a weight are passed over
pub weighted_skip : (w : ℕ → ℕ) (j k m : ℕ) → ((i : ℕ) → j ≤ i → i < j + k → w i ≡ 0) → weighted_from w j (k + m) ≡ weighted_from w (j + k) m
weighted_skip w j zero m off = ap (weighted_from w j) (let e : 0 + m ≡ m = omega arith in e) ∙ ap (λ z. weighted_from w z m) (let e : j ≡ j + 0 = omega arith in e)
weighted_skip w j (suc k) m off =
    ap (weighted_from w j) (let e : suc k + m ≡ suc (k + m) = omega arith in e)
    ∙ ap (λ x. cond (ltb 0 x) ((j, x) ∷ weighted_from w (j + 1) (k + m)) (weighted_from w (j + 1) (k + m))) (off j (omega arith) (omega arith))
    ∙ weighted_skip w (j + 1) k m (λ i l h. off i (omega arith) (omega arith))
    ∙ ap (λ z. weighted_from w z m) (let e : j + 1 + k ≡ j + suc k = omega arith in e)

-- what weighs something at a cell
weighs : (live : Bool) (f w : ℕ) (rest : List (ℕ × ℕ)) → cond (live && ltb 0 w) ((f, w) ∷ rest) rest ≡ cond (ltb 0 (cond live w 0)) ((f, cond live w 0) ∷ rest) rest
weighs true f w rest = refl
weighs false f w rest = refl

module _ (l : Layout) (b : End) (k : ℕ) (way : Way) (laid : IsLaid l) (timed : IsTimed l) (small : k < none) (live : removed_at l b k ≡ none) where
  far : ℕ → ℕ
  far c = end_of (other b) (cell_at l.cells c)

  -- the cells of k before the cell x end below j
  record IsBehind (x j : ℕ) : Type 0 where
    behind : (c : ℕ) → c < x → c < length l.cells → end_of b (cell_at l.cells c) ≡ k → (end_of (other b) (cell_at l.cells c) ≡ none) ⊎ (end_of (other b) (cell_at l.cells c) < j)

  -- those from x on end at j or later
  record IsAhead (x j : ℕ) : Type 0 where
    ahead : (c : ℕ) → x ≤ c → c < length l.cells → end_of b (cell_at l.cells c) ≡ k → (j ≤ end_of (other b) (cell_at l.cells c)) × (end_of (other b) (cell_at l.cells c) < count_of l (other b))

  no_weight : (j : ℕ) → ((c : ℕ) → c < length l.cells → end_of b (cell_at l.cells c) ≡ k → end_of (other b) (cell_at l.cells c) ≢ j) → weight_along l b way k j ≡ 0
  no_weight j apart = ap (λ w. cond (leb (length l.removals) (removed_at l (other b) j)) w 0) (none_by l b way k j apart) ∙ cond_both (leb (length l.removals) (removed_at l (other b) j)) 0 0 (λ z. z ≡ 0) (λ e. refl) (λ e. refl)

  -- a cell lives where its other end does
  until_far : (c : ℕ) → end_of b (cell_at l.cells c) ≡ k → leb (length l.removals) (until_of l c) ≡ leb (length l.removals) (removed_at l (other b) (end_of (other b) (cell_at l.cells c)))
  until_far c key = elim (cases_lt (removed_at l (other b) (end_of (other b) (cell_at l.cells c))) (length l.removals)) [
    | inl low ↦ lt-leb (length l.removals) (until_of l c) (omega (arith, until_by b l c)) ∙ sym (lt-leb (length l.removals) (removed_at l (other b) (end_of (other b) (cell_at l.cells c))) low)
    | inr high ↦ le-leb (length l.removals) (until_of l c) (omega (arith, until_by b l c, ap (removed_at l b) key, timed.room, timed.small)) ∙ sym (le-leb (length l.removals) (removed_at l (other b) (end_of (other b) (cell_at l.cells c))) high)
  ]

  items_along : (m x j r : ℕ) → x + m ≡ length l.cells → j + r ≡ count_of l (other b) → IsBehind x j → IsAhead x j → items_from (is_item l b k way) (item_of l b way) x m ≡ weighted_from (weight_along l b way k) j r
  items_along zero x j r cells ends back front =
      sym (ap (weighted_from (weight_along l b way k) j) (let e : r ≡ r + 0 = omega arith in e)
      ∙ weighted_skip (weight_along l b way k) j r 0 (λ i low high. no_weight i (λ c h key same. elim (back.behind c (omega arith) h key) [ inl z ↦ absurd (omega (arith, laid.sizes (other b))) | inr z ↦ absurd (omega arith) ])))
  items_along (suc m) x j r cells ends back front = elim (cases_eq (end_of b (cell_at l.cells x)) k) [
    | inr other ↦
        ap (λ t. cond t (item_of l b way x ∷ items_from (is_item l b k way) (item_of l b way) (suc x) m) (items_from (is_item l b k way) (item_of l b way) (suc x) m))
        (and_left (eqb (end_of b (cell_at l.cells x)) k) (leb (length l.removals) (until_of l x) && ltb 0 (cell_weight way (cell_at l.cells x))) (ne_eqb (end_of b (cell_at l.cells x)) k other))
        ∙ items_along m (suc x) j r (omega arith) ends
        (record { behind = λ c low h key. elim (cases_eq c x) [ inl e ↦ absurd (other (ap (λ c. end_of b (cell_at l.cells c)) (sym e) ∙ key)) | inr ne ↦ back.behind c (omega arith) h key ] })
        (record { ahead = λ c low h key. front.ahead c (omega arith) h key })
    | inl key ↦ here key (λ i n e. items_along m (suc x) i n (omega arith) e)
  ]
    where
      lx : x < length l.cells
      lx = omega arith

      here : end_of b (cell_at l.cells x) ≡ k → ((i n : ℕ) → i + n ≡ count_of l (other b) → IsBehind (suc x) i → IsAhead (suc x) i → items_from (is_item l b k way) (item_of l b way) (suc x) m ≡ weighted_from (weight_along l b way k) i n) → items_from (is_item l b k way) (item_of l b way) x (suc m) ≡ weighted_from (weight_along l b way k) j r
      here key go =
          let f = end_of (other b) (cell_at l.cells x) in
          let w = cell_weight way (cell_at l.cells x) in
          let bounds = front.ahead x (omega arith) lx key in
          let at_f : weight_along l b way k f ≡ cond (leb (length l.removals) (removed_at l (other b) f)) w 0 =
          ap (λ v. cond (leb (length l.removals) (removed_at l (other b) f)) v 0) (here_by l b way k f x lx key refl (λ d h ne e g. ne ((crossed_of b l laid).cross d x h lx (e ∙ sym key) g))) in
          let rest = go (f + 1) (r - (f - j) - 1) (omega (arith, bounds.0, bounds.1))
          (record {
            behind = λ c low h same. elim (cases_eq c x) [
              | inl e ↦ inr (omega (arith, ap (λ c. end_of (other b) (cell_at l.cells c)) e))
              | inr ne ↦ elim (back.behind c (omega arith) h same) [ inl z ↦ inl z | inr z ↦ inr (omega (arith, bounds.0)) ]
            ];
          })
          (record {
            ahead = λ c low h same.
                let after = laid.ascending b x c (omega arith) h (key ∙ sym same) in
                elim after.up [ inl z ↦ absurd (omega (arith, bounds.1, laid.sizes (other b))) | inr z ↦ (omega arith, (front.ahead c (omega arith) h same).1) ];
          }) in
          ap (λ t. cond t ((f, w) ∷ items_from (is_item l b k way) (item_of l b way) (suc x) m) (items_from (is_item l b k way) (item_of l b way) (suc x) m))
          (rw (eq-eqb (end_of b (cell_at l.cells x)) k key) (ap (λ z. z && ltb 0 w) (until_far x key)))
          ∙ weighs (leb (length l.removals) (removed_at l (other b) f)) f w (items_from (is_item l b k way) (item_of l b way) (suc x) m)
          ∙ (λ i. cond (ltb 0 (sym at_f i)) ((f, sym at_f i) ∷ rest i) (rest i))
          ∙ sym (ap (weighted_from (weight_along l b way k) j) (let e : r ≡ (f - j) + suc (r - (f - j) - 1) = omega (arith, bounds.0, bounds.1) in e)
          ∙ weighted_skip (weight_along l b way k) j (f - j) (suc (r - (f - j) - 1)) (λ i low high. no_weight i (λ c h same to.
          elim (cases_order c x) [
            | inl e ↦ absurd (omega (arith, ap (λ c. end_of (other b) (cell_at l.cells c)) e))
            | inr (inl before) ↦ elim (back.behind c before h same) [ inl z ↦ absurd (omega (arith, laid.sizes (other b), bounds.1)) | inr z ↦ absurd (omega arith) ]
            | inr (inr after) ↦ elim (laid.ascending b x c after h (key ∙ sym same)).up [ inl z ↦ absurd (omega (arith, bounds.1, laid.sizes (other b))) | inr z ↦ absurd (omega arith) ]
          ]))
          ∙ ap (λ z. weighted_from (weight_along l b way k) z (suc (r - (f - j) - 1))) (let e : j + (f - j) ≡ f = omega (arith, bounds.0) in e))

  -- what the walk from the head on has to give
  pub walk_along : k < count_of l b → items_left_from l b k way (suc (head_of l b k)) ≡ weighted (count_of l (other b)) (weight_along l b way k)
  walk_along range =
      let head = laid.heads b k range in
      items_along (length l.cells - suc (head_of l b k)) (suc (head_of l b k)) 0 (count_of l (other b)) (omega (arith, head.below)) (zero-add (count_of l (other b)))
      (record {
        behind = λ c low h key. elim (cases_eq c (head_of l b k)) [
          | inl e ↦ inl (ap (λ c. end_of (other b) (cell_at l.cells c)) e ∙ head.far)
          | inr ne ↦ absurd (omega (arith, (crossed_of b l laid).own_heads.least (head_of l b k) c head.below h (eq-eqb (end_of (other b) (cell_at l.cells (head_of l b k))) none head.far) (head.key ∙ sym key)))
        ];
      })
      (record {
        ahead = λ c low h key.
            let after = laid.ascending b (head_of l b k) c (omega arith) h (head.key ∙ sym key) in
            elim (laid.bounded (other b) c h) [ inl z ↦ absurd (after.no_head z) | inr z ↦ (omega arith, z) ];
      })

-- what is left at the first cell after the head
pub walk_starts : (l : Layout) (b : End) (k : ℕ) (way : Way) (h x : ℕ) → IsLaid l → IsTimed l → k < count_of l b → removed_at l b k ≡ none → h ≡ head_of l b k → IsNextAt (side l.cells b) (side l.cells (other b)) (times_of l) (length l.removals) h x → items_left l b k way x ≡ weighted (count_of l (other b)) (weight_along l b way k)
walk_starts l b k way h x laid timed range live head f =
    let small : k < none = omega (arith, laid.sizes b) in
    let P : ℕ → Type 0 = λ h. IsNextAt (side l.cells b) (side l.cells (other b)) (times_of l) (length l.removals) h x in
    sym (items_left_step l b k way (head_of l b k) x (record { live = head_on b k l laid timed range live; key = (laid.heads b k range).key }) small (subst P head f))
    ∙ walk_along l b k way laid timed small live range

-- numbers with the same weights give the same list
pub weighted_same : (n m : ℕ) (f h : ℕ → ℕ) → n ≡ m → ((k : ℕ) → k < n → f k ≡ h k) → weighted n f ≡ weighted m h
weighted_same n m f h e same =
    ap (filter (λ (x : ℕ × ℕ). ltb 0 x.1)) (same_map (λ k. (k, f k)) (λ k. (k, h k)) n (λ k d. ap (λ w. (k, w)) (same k d)))
    ∙ ap (λ n. weighted n h) e
