-- What stays of an arena while it gets new places.
use Rattle.std.proofs.Common.{◌≡◌, ◌≢◌, ◌<◌, ◌≤◌, ◌+◌, ◌-◌, ◌∷◌, [], ℕ, zero, suc, Bool, false, ◌&&◌, cond, min, length, ltb, leb, eqb, sym, ap, ◌∙◌, refl, inl, inr, zero-add, arith}
use Rattle.std.proofs.lemmas.Bool.{cases_lt, and_left, ne_eqb, lt-ltb, le-ltb}
use Rattle.std.proofs.lemmas.List.{length-append}
use Rattle.std.proofs.lemmas.List.FromFn.{filter_of_map_range_with_len_more}
use Rattle.stg_arena.specs.declared.end.Way.{Way}
use Rattle.stg_arena.specs.declared.end.End.TheVariants.{Place, Trans}
use Rattle.stg_arena.specs.Ends.{other}
use Rattle.stg_arena.specs.declared.cell.Cell.{Cell}
use Rattle.stg_arena.specs.declared.cell.Spot.{Spot}
use Rattle.stg_arena.specs.ArenaView.{Layout, none, cell_at, end_of, removed_at, until_of, head_cell, IsLaid, IsTimed, IsPushedCell, IsPushedPlace}
use Rattle.stg_arena.specs.RingWalk.{items_from, cell_weight, is_item, item_of, items_left_from, items_left, IsWalking}
use Rattle.stg_arena.specs.WalkItems.{weighted}
use Rattle.stg_arena.specs.Appends.{IsAppended}
use Rattle.stg_arena.proofs.RemovalTimes.{depth_now}
use Rattle.stg_arena.proofs.LayoutAppend.{push_length, push_new}
use Rattle.stg_arena.proofs.RingWalk.{items_skip}
use Rattle.stg_arena.proofs.Extends.{extended_refl, extended_trans, extended_cell, extended_place, extended_old, extended_length}

-- an arena appends nothing to itself
pub appended_refl : (t n : ℕ) (l : Layout) → IsAppended t n l l
appended_refl t n l = record { later = extended_refl n l; removals = refl; same = λ b k. refl; others = λ c low h. absurd (omega arith) }

-- what is appended twice is appended
pub appended_trans : (t n : ℕ) (l l' l'' : Layout) → IsAppended t n l l' → IsAppended t n l' l'' → IsAppended t n l l''
appended_trans t n l l' l'' f g = record {
  later = extended_trans n l l' l'' f.later g.later;
  removals = g.removals ∙ f.removals;
  same = λ b k. g.same b k ∙ f.same b k;
  others = λ c low h. elim (cases_lt c (length l'.cells)) [
    | inl old ↦ λ e. f.others c low old (sym (ap (λ x. x.trans) (extended_old n l' l'' c g.later old)) ∙ e)
    | inr new ↦ g.others c new h
  ];
}

-- a lower bound on the new places serves as well
pub appended_lower : (t n m : ℕ) (l l' : Layout) → m ≤ n → IsAppended t n l l' → IsAppended t m l l'
appended_lower t n m l l' low g = record {
  later = record {
    more = g.later.more;
    cells = g.later.cells;
    new_cells = λ c h. let x = g.later.new_cells c h in record { above = omega (arith, x.above); is_arc = x.is_arc; live = x.live };
    places = g.later.places;
    trans = g.later.trans;
    tokens = λ p h. g.later.tokens p (omega arith);
    live = g.later.live;
    longer = g.later.longer;
    removed = g.later.removed;
    rooms = g.later.rooms;
  };
  removals = g.removals;
  same = g.same;
  others = g.others;
}

-- one more cell is appended
pub appended_cell : (t n : ℕ) (a : Cell) (l l' : Layout) → IsTimed l → IsPushedCell a l l' → n ≤ a.place → a.place < none → a.trans ≢ t → IsAppended t n l l'
appended_cell t n a l l' timed q above is_arc other = record {
  later = extended_cell n a l l' timed q above is_arc;
  removals = q.pushed.removals;
  same = q.pushed.same;
  others = λ c low h. λ e. other (sym (ap (λ x. x.trans) (push_new a l l' q.pushed)) ∙ ap (λ c. (cell_at l'.cells c).trans) (let z : length l.cells ≡ c = omega (arith, push_length a l l' q.pushed) in z) ∙ e);
}

-- one more place is appended
pub appended_place : (t n : ℕ) (s : Spot) (l l' : Layout) → IsTimed l → IsLaid l → IsPushedPlace s l l' → n ≤ length l.places → t < none → IsAppended t n l l'
appended_place t n s l l' timed laid q above small = record {
  later = extended_place n s l l' timed laid q above;
  removals = q.pushed.removals;
  same = q.pushed.same;
  others = λ c low h. λ e. absurd (omega (arith, ap (λ x. x.trans) (push_new (head_cell l) l l' q.pushed), ap (λ c. (cell_at l'.cells c).trans) (let z : length l.cells ≡ c = omega (arith, push_length (head_cell l) l l' q.pushed) in z), e));
}

-- one more number
pub weighted_more : (n : ℕ) (w : ℕ → ℕ) → length (weighted (n + 1) w) ≡ length (weighted n w) + min 1 (w n)
weighted_more n w =
    ap (length {A = ℕ × ℕ}) (filter_of_map_range_with_len_more (λ (x : ℕ × ℕ). ltb 0 x.1) (λ k. (k, w k)) 0 n n (zero-add n))
    ∙ length-append (weighted n w) (cond (ltb 0 (w n)) ((n, w n) ∷ []) [])
    ∙ ap (λ m. length (weighted n w) + m) (one (w n))
  where
    one : (k : ℕ) → length {A = ℕ × ℕ} (cond (ltb 0 k) ((n, k) ∷ []) []) ≡ min 1 k
    one k = elim (cases_lt 0 k) [
      | inl some ↦ rw (lt-ltb 0 k some) (let e : 1 ≡ min 1 k = omega arith in e)
      | inr none ↦ rw (le-ltb 0 k none) (let e : 0 ≡ min 1 k = omega arith in e)
    ]

-- with more numbers, no fewer have a weight
pub weighted_up : (k n m : ℕ) (w : ℕ → ℕ) → n + k ≡ m → length (weighted n w) ≤ length (weighted m w)
weighted_up zero n m w e = omega (arith, ap (λ k. length (weighted k w)) (let z : n ≡ m = omega arith in z))
weighted_up (suc k) n m w e = omega (arith, weighted_more n w, weighted_up k (n + 1) m w (omega arith))

-- what is left of a walk round t is the same
items_same : (on on' : ℕ → Bool) (item item' : ℕ → ℕ × ℕ) (m x : ℕ) → ((e : ℕ) → x ≤ e → e < x + m → on' e ≡ on e) → ((e : ℕ) → x ≤ e → e < x + m → item' e ≡ item e) → items_from on' item' x m ≡ items_from on item x m
items_same on on' item item' zero x a b = refl
items_same on on' item item' (suc m) x a b =
    let e = a x (omega arith) (omega arith) in
    let f = b x (omega arith) (omega arith) in
    let rest = items_same on on' item item' m (suc x) (λ e l h. a e (omega arith) (omega arith)) (λ e l h. b e (omega arith) (omega arith)) in
    λ i. cond (e i) (f i ∷ rest i) (rest i)

items_end : (on : ℕ → Bool) (item : ℕ → ℕ × ℕ) (m k x : ℕ) → ((e : ℕ) → x + m ≤ e → e < x + m + k → on e ≡ false) → items_from on item x (m + k) ≡ items_from on item x m
items_end on item zero k x off = ap (items_from on item x) (let e : 0 + k ≡ k + 0 = omega arith in e) ∙ items_skip on item x k 0 (λ e l h. off e (omega arith) (omega arith))
items_end on item (suc m) k x off =
    ap (items_from on item x) (let e : suc m + k ≡ suc (m + k) = omega arith in e)
    ∙ ap (λ r. cond (on x) (item x ∷ r) r) (items_end on item m k (suc x) (λ e l h. off e (omega arith) (omega arith)))

module _ (t n : ℕ) (l l' : Layout) (g : IsAppended t n l l') where
  until_same : (c : ℕ) → c < length l.cells → until_of l' c ≡ until_of l c
  until_same c h =
      ap (λ x. min (removed_at l' Place x.place) (removed_at l' Trans x.trans)) (extended_old n l l' c g.later h)
      ∙ ap (λ x. min x (removed_at l' Trans (cell_at l.cells c).trans)) (g.same Place (cell_at l.cells c).place)
      ∙ ap (λ x. min (removed_at l Place (cell_at l.cells c).place) x) (g.same Trans (cell_at l.cells c).trans)

  -- what a walk round t has still to give stays
  pub items_left_appended : (way : Way) (y : ℕ) → y < length l.cells → items_left l' Trans t way y ≡ items_left l Trans t way y
  items_left_appended way y h =
      let long = extended_length n l l' g.later in
      ap (λ x. cond (eqb x.place none) [] (items_left_from l' Trans t way y)) (extended_old n l l' y g.later h)
      ∙ ap (cond (eqb (cell_at l.cells y).place none) [])
      (ap (items_from (is_item l' Trans t way) (item_of l' Trans way) y) (let e : length l'.cells - y ≡ (length l.cells - y) + length g.later.more = omega arith in e)
      ∙ items_end (is_item l' Trans t way) (item_of l' Trans way) (length l.cells - y) (length g.later.more) y
      (λ e low high. and_left (eqb (cell_at l'.cells e).trans t) (leb (length l'.removals) (until_of l' e) && ltb 0 (cell_weight way (cell_at l'.cells e))) (ne_eqb (cell_at l'.cells e).trans t (g.others e (omega arith) (omega arith))))
      ∙ items_same (is_item l Trans t way) (is_item l' Trans t way) (item_of l Trans way) (item_of l' Trans way) (length l.cells - y) y
      (λ e low high.
      let there : e < length l.cells = omega arith in
      let a = extended_old n l l' e g.later there in
      let u = until_same e there in
      λ i. eqb (a i).trans t && (leb (length (g.removals i)) (u i) && ltb 0 (cell_weight way (a i))))
      (λ e low high. let a = extended_old n l l' e g.later (omega arith) in λ i. ((a i).place, cell_weight way (a i))))

  -- a walk round t stands where it stood
  pub walking_appended : (y : ℕ) → IsWalking l Trans t y → IsWalking l' Trans t y
  walking_appended y w =
      let h : y < length l.cells = omega (arith, w.live.below, depth_now l) in
      let a = extended_old n l l' y g.later h in
      record {
        live = record {
          below = omega (arith, depth_now l', extended_length n l l' g.later);
          live = omega (arith, until_same y h, ap length g.removals, w.live.live);
          part = ap (λ x. eqb (end_of (other (other Trans)) x) none) a ∙ w.live.part;
        };
        key = ap (λ x. x.trans) a ∙ w.key;
      }
