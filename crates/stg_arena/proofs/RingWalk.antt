-- A walk through a ring gives the live cells of a place or a transition, in ascending order.
use Rattle.std.proofs.Common.{◌≡◌, ◌≢◌, ◌<◌, ◌≤◌, ◌+◌, ◌-◌, ◌∷◌, ℕ, zero, suc, Bool, false, ◌&&◌, cond, length, ltb, leb, eqb, eq-eqb, subst, sym, ap, ◌∙◌, refl, inl, inr, arith, List}
use Rattle.std.proofs.lemmas.Bool.{cases_Bool, ne_eqb, lt-ltb, le-leb, leb-true, eqb-true, and_left, and_right}
use Rattle.stg_arena.specs.declared.end.End.{End}
use Rattle.stg_arena.specs.declared.end.Way.{Way}
use Rattle.stg_arena.specs.Ends.{other}
use Rattle.stg_arena.specs.Ring.{stop}
use Rattle.stg_arena.specs.LinkHistory.{IsNextAt}
use Rattle.stg_arena.specs.ArenaView.{Layout, none, cell_at, end_of, side, until_of, times_of}
use Rattle.stg_arena.specs.RingWalk.{items_from, cell_weight, is_item, item_of, items_left_from, items_left, IsWalking, IsPassing, IsLive, IsNextCell}
use Rattle.stg_arena.proofs.Rings.{stop_head, stop_other}
use Rattle.stg_arena.proofs.RemovalTimes.{depth_now}
use Rattle.stg_arena.proofs.ArenaInvariant.{other_other}
use Rattle.stg_arena.specs.declared.links.Link.{Link}
use Rattle.stg_arena.specs.inner.Links.{next_at, IsHeld}

-- between x and the next cell of the ring no cell is an item
nothing : (l : Layout) (b : End) (k : ℕ) (way : Way) (x y e : ℕ) → IsWalking l b k x → k < none → IsNextAt (side l.cells b) (side l.cells (other b)) (times_of l) (length l.removals) x y → x < e → e < stop (side l.cells b) (length l.cells) y → e < length l.cells → is_item l b k way e ≡ false
nothing l b k way x y e w small f low high h =
    elim (cases_Bool (eqb (end_of b (cell_at l.cells e)) k)) [
      | inr z ↦ and_left (eqb (end_of b (cell_at l.cells e)) k) (leb (length l.removals) (until_of l e) && ltb 0 (cell_weight way (cell_at l.cells e))) z
      | inl z ↦ and_right (eqb (end_of b (cell_at l.cells e)) k) (leb (length l.removals) (until_of l e) && ltb 0 (cell_weight way (cell_at l.cells e))) (elim (cases_Bool (leb (length l.removals) (until_of l e))) [
        | inr q ↦ and_left (leb (length l.removals) (until_of l e)) (ltb 0 (cell_weight way (cell_at l.cells e))) q
        | inl q ↦
            let key = eqb-true (end_of b (cell_at l.cells e)) k z in
            let P : ℕ → Type 0 = λ n. e < stop (side l.cells b) n y in
            absurd (f.gap e low (subst P (sym (depth_now l)) high)
            (record { below = omega (arith, depth_now l); live = leb-true (length l.removals) (until_of l e) q; part = rw (other_other b) (ne_eqb (end_of b (cell_at l.cells e)) none (λ y. absurd (omega arith))) })
            (key ∙ sym w.key))
      ])
    ]

-- cells that are off give nothing
pub items_skip : (on : ℕ → Bool) (item : ℕ → ℕ × ℕ) (x k m : ℕ) → ((e : ℕ) → x ≤ e → e < x + k → on e ≡ false) → items_from on item x (k + m) ≡ items_from on item (x + k) m
items_skip on item x zero m off = ap (λ z. items_from on item x z) (let e : 0 + m ≡ m = omega arith in e) ∙ ap (λ z. items_from on item z m) (let e : x ≡ x + 0 = omega arith in e)
items_skip on item x (suc k) m off =
    ap (λ z. items_from on item x z) (let e : suc k + m ≡ suc (k + m) = omega arith in e)
    ∙ ap (λ b. cond b (item x ∷ items_from on item (suc x) (k + m)) (items_from on item (suc x) (k + m))) (off x (omega arith) (omega arith))
    ∙ items_skip on item (suc x) k m (λ e l h. off e (omega arith) (omega arith))
    ∙ ap (λ z. items_from on item z m) (let e : suc x + k ≡ x + suc k = omega arith in e)

-- between x and the next cell of the ring there is nothing
pub items_left_step : (l : Layout) (b : End) (k : ℕ) (way : Way) (x y : ℕ) → IsWalking l b k x → k < none → IsNextAt (side l.cells b) (side l.cells (other b)) (times_of l) (length l.removals) x y
    → items_left_from l b k way (suc x) ≡ items_left l b k way y
items_left_step l b k way x y w small f =
    let n = length l.cells in
    let now = depth_now l in
    elim (cases_Bool (eqb (end_of (other b) (cell_at l.cells y)) none)) [
      | inl h ↦ rw h (
          ap (items_from (is_item l b k way) (item_of l b way) (suc x)) (let e : n - suc x ≡ (n - suc x) + 0 = omega arith in e)
          ∙ items_skip (is_item l b k way) (item_of l b way) (suc x) (n - suc x) 0 (λ e low high. nothing l b k way x y e w small f (omega arith) (omega (arith, stop_head (side l.cells b) n y h)) (omega arith)))
      | inr h ↦ rw h (
          let low : x < y = omega (arith, f.order, stop_other (side l.cells b) ((times_of l).count (length l.removals)) y h) in
          let ly : y < n = omega (arith, f.to_below) in
          ap (items_from (is_item l b k way) (item_of l b way) (suc x)) (let e : n - suc x ≡ (y - suc x) + (n - y) = omega arith in e)
          ∙ items_skip (is_item l b k way) (item_of l b way) (suc x) (y - suc x) (n - y) (λ e low high. nothing l b k way x y e w small f (omega arith) (omega (arith, stop_other (side l.cells b) n y h)) (omega arith))
          ∙ ap (λ z. items_from (is_item l b k way) (item_of l b way) z (n - y)) (let e : suc x + (y - suc x) ≡ y = omega arith in e))
    ]

-- at a cell that is no head, what is left begins with it, if it has a weight
pub items_left_here : (l : Layout) (b : End) (k : ℕ) (way : Way) (x y : ℕ) → IsWalking l b k x → k < none → end_of (other b) (cell_at l.cells x) ≢ none → IsNextAt (side l.cells b) (side l.cells (other b)) (times_of l) (length l.removals) x y
    → items_left l b k way x ≡ cond (ltb 0 (cell_weight way (cell_at l.cells x))) (item_of l b way x ∷ items_left l b k way y) (items_left l b k way y)
items_left_here l b k way x y w small arc f =
    let n = length l.cells in
    let lx : x < n = omega (arith, f.from_below, depth_now l) in
    rw (ne_eqb (end_of (other b) (cell_at l.cells x)) none arc) (
    ap (items_from (is_item l b k way) (item_of l b way) x) (let e : n - x ≡ suc (n - suc x) = omega arith in e)
    ∙ ap (λ t. cond t (item_of l b way x ∷ items_left_from l b k way (suc x)) (items_left_from l b k way (suc x)))
    (rw (eq-eqb (end_of b (cell_at l.cells x)) k w.key) (rw (le-leb (length l.removals) (until_of l x) w.live.live) refl))
    ∙ ap (λ r. cond (ltb 0 (cell_weight way (cell_at l.cells x))) (item_of l b way x ∷ r) r) (items_left_step l b k way x y w small f))

-- the walk goes on in the ring
pub walk_on : (l : Layout) (b : End) (k x y : ℕ) → IsWalking l b k x → IsNextAt (side l.cells b) (side l.cells (other b)) (times_of l) (length l.removals) x y → IsWalking l b k y
walk_on l b k x y w f = record { live = f.to; key = sym f.same ∙ w.key }

-- a cell without a weight of this kind is passed over
pub pass_on : (l : Layout) (b : End) (k : ℕ) (way : Way) (from at far y far' : ℕ) → IsPassing l b k way from at far → far ≢ none → cell_weight way (cell_at l.cells at) ≡ 0 → k < none → IsNextAt (side l.cells b) (side l.cells (other b)) (times_of l) (length l.removals) at y → far' ≡ end_of (other b) (cell_at l.cells y) → IsPassing l b k way from y far'
pass_on l b k way from at far y far' p arc weightless small f here = record {
  walking = walk_on l b k at y p.walking f;
  here = here;
  same =
      let e = items_left_here l b k way at y p.walking small (λ z. arc (p.here ∙ z)) f in
      sym (e ∙ ap (λ w. cond (ltb 0 w) (item_of l b way at ∷ items_left l b k way y) (items_left l b k way y)) weightless) ∙ p.same;
}

-- a cell with a weight of this kind is the first item that is left
pub walk_first : (l : Layout) (b : End) (k : ℕ) (way : Way) (from at far y : ℕ) → IsPassing l b k way from at far → far ≢ none → 0 < cell_weight way (cell_at l.cells at) → k < none → IsNextAt (side l.cells b) (side l.cells (other b)) (times_of l) (length l.removals) at y
    → items_left l b k way from ≡ item_of l b way at ∷ items_left l b k way y
walk_first l b k way from at far y p arc some small f =
    sym p.same ∙ items_left_here l b k way at y p.walking small (λ z. arc (p.here ∙ z)) f
    ∙ ap (λ t. cond t (item_of l b way at ∷ items_left l b k way y) (items_left l b k way y)) (lt-ltb 0 (cell_weight way (cell_at l.cells at)) some)

-- the link of a live cell leads to the next one
pub next_cell : (l : Layout) (b : End) (links : List Link) (c : ℕ) → IsHeld (side l.cells b) (side l.cells (other b)) (times_of l) links → IsLive l b c → IsNextCell l b c (next_at links c)
next_cell l b links c held live = held.rings.forward c live.below live

-- each live cell has a link
pub link_there : (l : Layout) (b : End) (links : List Link) (c : ℕ) → IsHeld (side l.cells b) (side l.cells (other b)) (times_of l) links → IsLive l b c → c < length links
link_there l b links c held live = omega (arith, held.long, live.below)
