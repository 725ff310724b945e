-- The weights between places and transitions, read off a ring.
use Rattle.std.proofs.Common.{◌≡◌, ◌≢◌, ◌<◌, ◌⊎◌, ◌+◌, ◌++◌, ◌∷◌, [], ℕ, zero, suc, List, cond, ◌&&◌, length, eqb, eq-eqb, sym, ap, ◌∙◌, refl, inl, inr, arith}
use Rattle.std.proofs.lemmas.Bool.{cases_eq, cases_lt, cases_Bool, cases_order, false≢true, ne_eqb, and_left, and_right}
use Rattle.std.proofs.lemmas.List.Sums.{sum_by-cons, sum_by_push}
use Rattle.stg_arena.specs.declared.end.End.{End}
use Rattle.stg_arena.specs.declared.end.Way.{Way}
use Rattle.stg_arena.specs.declared.end.End.TheVariants.{Place, Trans}
use Rattle.stg_arena.specs.Ends.{other}
use Rattle.stg_arena.specs.declared.cell.Cell.{Cell}
use Rattle.stg_arena.specs.Ring.{stop}
use Rattle.stg_arena.specs.LinkHistory.{IsNextAt, IsOn}
use Rattle.stg_arena.specs.ArenaView.{Layout, none, cell_at, end_of, side, removed_at, until_of, times_of, IsLaid, IsTimed}
use Rattle.stg_arena.specs.RingWalk.{cell_weight, IsWalking}
use Rattle.stg_arena.specs.Incidence.{weight, weight_by}
use Rattle.stg_arena.proofs.Rings.{stop_head, stop_other}
use Rattle.stg_arena.proofs.RemovalTimes.{depth_now, until_by}
use Rattle.stg_arena.proofs.ArenaInvariant.{crossed_of, other_other}

-- what one cell adds to the weight between p and t
abbrev pub share : Way → ℕ → ℕ → Cell → ℕ
share way p t a = cond (eqb a.place p && eqb a.trans t) (cell_weight way a) 0

-- a cell of others adds nothing
pub share_none : (way : Way) (p t : ℕ) (a : Cell) → (a.place ≡ p → a.trans ≢ t) → share way p t a ≡ 0
share_none way p t a other = elim (cases_eq a.place p) [
  | inl e ↦ rw (and_right (eqb a.place p) (eqb a.trans t) (ne_eqb a.trans t (other e))) refl
  | inr e ↦ rw (and_left (eqb a.place p) (eqb a.trans t) (ne_eqb a.place p e)) refl
]

-- a cell of both adds its weight
pub share_here : (way : Way) (p t : ℕ) (a : Cell) → a.place ≡ p → a.trans ≡ t → share way p t a ≡ cell_weight way a
share_here way p t a e f = rw (eq-eqb a.place p e) (rw (eq-eqb a.trans t f) refl)

-- without a cell there is no weight
pub weight_none : (cells : List Cell) (way : Way) (p t : ℕ) → ((c : ℕ) → c < length cells → (cell_at cells c).place ≡ p → (cell_at cells c).trans ≢ t) → weight cells way p t ≡ 0
weight_none [] way p t other = refl
weight_none (a ∷ cells) way p t other = omega (arith, sum_by-cons (share way p t) a cells, share_none way p t a (other 0 (omega arith)), weight_none cells way p t (λ c h. other (suc c) (omega arith)))

-- the weight is that of the one cell
pub weight_here : (cells : List Cell) (way : Way) (p t c : ℕ) → c < length cells → (cell_at cells c).place ≡ p → (cell_at cells c).trans ≡ t → ((d : ℕ) → d < length cells → d ≢ c → (cell_at cells d).place ≡ p → (cell_at cells d).trans ≢ t) → weight cells way p t ≡ cell_weight way (cell_at cells c)
weight_here [] way p t c h e f sole = absurd (omega arith)
weight_here (a ∷ cells) way p t zero h e f sole = omega (arith, sum_by-cons (share way p t) a cells, share_here way p t a e f, weight_none cells way p t (λ c h. sole (suc c) (omega arith) (omega arith)))
weight_here (a ∷ cells) way p t (suc c) h e f sole = omega (arith, sum_by-cons (share way p t) a cells, share_none way p t a (sole 0 (omega arith) (omega arith)), weight_here cells way p t c (omega arith) e f (λ d h ne. sole (suc d) (omega arith) (λ z. absurd (omega arith))))

-- one more cell
pub weight_push : (cells : List Cell) (a : Cell) (way : Way) (p t : ℕ) → weight (cells ++ a ∷ []) way p t ≡ weight cells way p t + share way p t a
weight_push cells a way p t = sum_by_push (share way p t) cells a

-- without a cell there is no weight, seen from either end
pub none_by : (l : Layout) (b : End) (way : Way) (k j : ℕ) → ((c : ℕ) → c < length l.cells → end_of b (cell_at l.cells c) ≡ k → end_of (other b) (cell_at l.cells c) ≢ j) → weight_by l b way k j ≡ 0
none_by l Place way k j other = weight_none l.cells way k j other
none_by l Trans way k j other = weight_none l.cells way j k (λ c h e f. other c h f e)

-- the weight is that of the one cell, seen from either end
pub here_by : (l : Layout) (b : End) (way : Way) (k j c : ℕ) → c < length l.cells → end_of b (cell_at l.cells c) ≡ k → end_of (other b) (cell_at l.cells c) ≡ j → ((d : ℕ) → d < length l.cells → d ≢ c → end_of b (cell_at l.cells d) ≡ k → end_of (other b) (cell_at l.cells d) ≢ j) → weight_by l b way k j ≡ cell_weight way (cell_at l.cells c)
here_by l Place way k j c h e f sole = weight_here l.cells way k j c h e f sole
here_by l Trans way k j c h e f sole = weight_here l.cells way j k c h f e (λ d r ne x y. sole d r ne y x)

-- the weight at a cell of a ring
pub ring_here : (l : Layout) (b : End) (way : Way) (k x : ℕ) → IsLaid l → IsWalking l b k x → weight_by l b way k (end_of (other b) (cell_at l.cells x)) ≡ cell_weight way (cell_at l.cells x)
ring_here l b way k x laid w =
    let lx : x < length l.cells = omega (arith, w.live.below, depth_now l) in
    here_by l b way k (end_of (other b) (cell_at l.cells x)) x lx w.key refl (λ d r ne e f. ne ((crossed_of b l laid).cross d x r lx (e ∙ sym w.key) f))

-- where a number at the other end lies between two cells
pub record IsBetween (l : Layout) (b : End) (x y j : ℕ) : Type 0 where
  pub above : (end_of (other b) (cell_at l.cells x) ≡ none) ⊎ (end_of (other b) (cell_at l.cells x) < j)
  pub below : (end_of (other b) (cell_at l.cells y) ≡ none) ⊎ (j < end_of (other b) (cell_at l.cells y))

-- between two cells of a ring all weights are 0
pub ring_gap : (l : Layout) (b : End) (way : Way) (k x y j : ℕ) → IsLaid l → IsTimed l → IsWalking l b k x → IsNextAt (side l.cells b) (side l.cells (other b)) (times_of l) (length l.removals) x y → k < none → removed_at l b k ≡ none → j < none → removed_at l (other b) j ≡ none → IsBetween l b x y j → weight_by l b way k j ≡ 0
ring_gap l b way k x y j laid t w f small live here there between = none_by l b way k j (λ c h e z. apart c h e z)
  where
    above : (c : ℕ) → end_of (other b) (cell_at l.cells c) ≡ j → end_of (other b) (cell_at l.cells x) ≢ none → end_of (other b) (cell_at l.cells x) < j
    above c z arc = elim between.above [ inl e ↦ absurd (arc e) | inr lt ↦ lt ]

    on : (c : ℕ) → c < length l.cells → end_of b (cell_at l.cells c) ≡ k → end_of (other b) (cell_at l.cells c) ≡ j → IsOn (side l.cells (other b)) (record { own = side l.cells b; other = side l.cells (other b); size = (times_of l).count (length l.removals); until = until_of l; now = length l.removals }) c
    on c h e z = record {
      below = omega (arith, depth_now l);
      live = omega (arith, until_by b l c, ap (removed_at l b) e, ap (removed_at l (other b)) z, t.room, t.small);
      part = rw (other_other b) (ne_eqb (end_of b (cell_at l.cells c)) none (λ q. absurd (omega arith)));
    }

    apart : (c : ℕ) → c < length l.cells → end_of b (cell_at l.cells c) ≡ k → end_of (other b) (cell_at l.cells c) ≢ j
    apart c h e z =
        let lx : x < length l.cells = omega (arith, f.from_below, depth_now l) in
        let ly : y < length l.cells = omega (arith, f.to_below, depth_now l) in
        elim (cases_order c x) [
          | inl same ↦ elim between.above [
            | inl q ↦ absurd (omega (arith, ap (λ c. end_of (other b) (cell_at l.cells c)) same))
            | inr q ↦ absurd (omega (arith, ap (λ c. end_of (other b) (cell_at l.cells c)) same))
          ]
          | inr (inl before) ↦
              let a = laid.ascending b c x before lx (e ∙ sym w.key) in
              elim a.up [
                | inl q ↦ absurd (omega arith)
                | inr q ↦ absurd (omega (arith, above c z a.no_head))
              ]
          | inr (inr after) ↦ elim (cases_lt c (stop (side l.cells b) ((times_of l).count (length l.removals)) y)) [
            | inl inside ↦ f.gap c after inside (on c h e z) (e ∙ sym w.key)
            | inr outside ↦ elim (cases_Bool (eqb (end_of (other b) (cell_at l.cells y)) none)) [
              | inl head ↦ absurd (omega (arith, stop_head (side l.cells b) ((times_of l).count (length l.removals)) y head, depth_now l))
              | inr arc ↦ elim (cases_eq y c) [
                | inl same ↦ elim between.below [
                  | inl q ↦ absurd (omega (arith, ap (λ c. end_of (other b) (cell_at l.cells c)) same))
                  | inr q ↦ absurd (omega (arith, ap (λ c. end_of (other b) (cell_at l.cells c)) same))
                ]
                | inr ne ↦
                    let a = laid.ascending b y c (omega (arith, stop_other (side l.cells b) ((times_of l).count (length l.removals)) y arc)) h (sym f.same ∙ w.key ∙ sym e) in
                    elim between.below [
                      | inl q ↦ absurd (false≢true (sym arc ∙ eq-eqb (end_of (other b) (cell_at l.cells y)) none q))
                      | inr q ↦ elim a.up [ inl r ↦ absurd (false≢true (sym arc ∙ eq-eqb (end_of (other b) (cell_at l.cells y)) none r)) | inr r ↦ absurd (omega arith) ]
                    ]
              ]
            ]
          ]
        ]
