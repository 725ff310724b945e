-- What stays of an arena through edits.
use Rattle.std.proofs.Common.{◌≡◌, ◌<◌, ◌≤◌, ◌+◌, ◌-◌, ◌++◌, ◌∷◌, [], ℕ, List, length, leb, subst, sym, ap, ◌∙◌, refl, inl, inr, arith}
use Rattle.std.proofs.lemmas.Bool.{cases_lt, le-leb, leb-true}
use Rattle.std.proofs.lemmas.List.{append-nil, append_assoc, get_or_append_left, get_or-append_right, length-append}
use Rattle.std.proofs.lemmas.List.Sums.{sum_by-append}
use Rattle.stg_arena.specs.declared.end.End.{End}
use Rattle.stg_arena.specs.declared.end.Way.{Way}
use Rattle.stg_arena.specs.declared.end.End.TheVariants.{Place, Trans}
use Rattle.stg_arena.specs.declared.cell.Cell.{Cell}
use Rattle.stg_arena.specs.declared.cell.Spot.{Spot}
use Rattle.stg_arena.specs.ArenaView.{Layout, none, no_cell, no_spot, cell_at, spot_at, end_of, removed_at, head_cell, IsLaid, IsTimed, IsRemoved, IsPushed, IsPushedCell, IsPushedPlace}
use Rattle.stg_arena.specs.Incidence.{weight}
use Rattle.stg_arena.specs.Extends.{IsNewCell, IsExtended, HasAllCells, IsRevivedTo}
use Rattle.stg_arena.proofs.RemovalTimes.{removals_length, removal_old, timed_back, live_same}
use Rattle.stg_arena.proofs.LayoutAppend.{removal_same}
use Rattle.stg_arena.proofs.RingWeights.{share, weight_none}

-- an arena extends itself
pub extended_refl : (n : ℕ) (l : Layout) → IsExtended n l l
extended_refl n l = record {
  more = [];
  cells = sym (append-nil l.cells);
  new_cells = λ c h. absurd (omega arith);
  places = omega arith;
  trans = refl;
  tokens = λ p h. refl;
  live = λ s b k h. refl;
  longer = omega arith;
  removed = λ s h. refl;
  rooms = refl;
}

-- an element of a list and then another
arc_left : (xs ys : List Cell) (c : ℕ) → c < length xs → cell_at (xs ++ ys) c ≡ cell_at xs c
arc_left xs ys c h = get_or_append_left xs ys no_cell c h

arc_right : (xs ys : List Cell) (c : ℕ) → length xs ≤ c → cell_at (xs ++ ys) c ≡ cell_at ys (c - length xs)
arc_right xs ys c h = get_or-append_right xs ys (length xs) c no_cell refl h

-- an extension of an extension is one
pub extended_trans : (n : ℕ) (l l' l'' : Layout) → IsExtended n l l' → IsExtended n l' l'' → IsExtended n l l''
extended_trans n l l' l'' f g = record {
  more = f.more ++ g.more;
  cells = g.cells ∙ ap (λ xs. xs ++ g.more) f.cells ∙ append_assoc l.cells f.more g.more;
  new_cells = λ c h. elim (cases_lt c (length f.more)) [
    | inl low ↦ let P : Cell → Type 0 = IsNewCell n l in subst P (sym (arc_left f.more g.more c low)) (f.new_cells c low)
    | inr high ↦ let P : Cell → Type 0 = IsNewCell n l in subst P (sym (arc_right f.more g.more c high)) (back (cell_at g.more (c - length f.more)) (g.new_cells (c - length f.more) (omega (arith, length-append f.more g.more))))
  ];
  places = omega (arith, f.places, g.places);
  trans = g.trans ∙ f.trans;
  tokens = λ p h. g.tokens p h ∙ f.tokens p h;
  live = λ s b k h. g.live s b k (omega (arith, f.longer)) ∙ f.live s b k h;
  longer = omega (arith, f.longer, g.longer);
  removed = λ s h. g.removed s (omega (arith, f.longer)) ∙ f.removed s h;
  rooms = g.rooms ∙ f.rooms;
}
  where
    back : (a : Cell) → IsNewCell n l' a → IsNewCell n l a
    back a x = record {
      above = x.above;
      is_arc = x.is_arc;
      live = λ b. leb-true (length l.removals) (removed_at l b (end_of b a)) (sym (f.live (length l.removals) b (end_of b a) (omega arith)) ∙ le-leb (length l.removals) (removed_at l' b (end_of b a)) (omega (arith, f.longer, x.live b)));
    }

-- when a node is removed
pub extended_removed : (n : ℕ) (b : End) (k : ℕ) (l l' : Layout) → IsTimed l → IsRemoved b k l l' → IsExtended n l l'
extended_removed n b k l l' t g = record {
  more = [];
  cells = g.cells ∙ sym (append-nil l.cells);
  new_cells = λ c h. absurd (omega arith);
  places = omega (arith, g.as_many Place);
  trans = g.as_many Trans;
  tokens = λ p h. g.tokens p;
  live = λ s c j h. live_same b k l l' s c j g (omega (arith, t.room, t.small)) h;
  longer = omega (arith, removals_length b k l l' g);
  removed = λ s h. removal_old b k l l' s g h;
  rooms = g.rooms;
}

-- a cell that is put behind the others is a new one
pub one_new_cell : (n : ℕ) (l l' : Layout) (a : Cell) → IsTimed l → IsPushed a l l' → n ≤ a.place → a.place < none → (c : ℕ) → c < length (a ∷ []) → IsNewCell n l (cell_at (a ∷ []) c)
one_new_cell n l l' a t p above is_arc c h =
    let P : ℕ → Type 0 = λ c. IsNewCell n l (cell_at (a ∷ []) c) in
    subst P (let z : 0 ≡ c = omega arith in z) (record { above = above; is_arc = is_arc; live = λ b. omega (arith, p.live b, t.room, t.small) })

-- when a cell is put there
pub extended_cell : (n : ℕ) (a : Cell) (l l' : Layout) → IsTimed l → IsPushedCell a l l' → n ≤ a.place → a.place < none → IsExtended n l l'
extended_cell n a l l' t q above is_arc = record {
  more = a ∷ [];
  cells = q.pushed.cells;
  new_cells = one_new_cell n l l' a t q.pushed above is_arc;
  places = omega (arith, ap length q.places);
  trans = ap length q.trans;
  tokens = λ p h. ap (λ xs. (spot_at xs p).tokens) q.places;
  live = λ s b k h. ap (leb s) (q.pushed.same b k);
  longer = omega (arith, ap length q.pushed.removals);
  removed = λ s h. removal_same a l l' s q.pushed h;
  rooms = q.pushed.rooms;
}

-- when a place is put there
pub extended_place : (n : ℕ) (s : Spot) (l l' : Layout) → IsTimed l → IsLaid l → IsPushedPlace s l l' → n ≤ length l.places → IsExtended n l l'
extended_place n s l l' t laid q above = record {
  more = head_cell l ∷ [];
  cells = q.pushed.cells;
  new_cells = one_new_cell n l l' (head_cell l) t q.pushed above (omega (arith, laid.places, laid.most_places));
  places = omega (arith, ap length q.places, length-append l.places (s ∷ []));
  trans = ap length q.trans;
  tokens = λ p h. ap (λ xs. (spot_at xs p).tokens) q.places ∙ ap (λ x. x.tokens) (get_or_append_left l.places (s ∷ []) no_spot p (omega arith));
  live = λ s b k h. ap (leb s) (q.pushed.same b k);
  longer = omega (arith, ap length q.pushed.removals);
  removed = λ s h. removal_same (head_cell l) l l' s q.pushed h;
  rooms = q.pushed.rooms;
}

-- the cells are the old ones, and then the new ones
pub extended_length : (n : ℕ) (l l' : Layout) (f : IsExtended n l l') → length l'.cells ≡ length l.cells + length f.more
extended_length n l l' f = ap length f.cells ∙ length-append l.cells f.more

-- an old cell stays
pub extended_old : (n : ℕ) (l l' : Layout) (c : ℕ) → IsExtended n l l' → c < length l.cells → cell_at l'.cells c ≡ cell_at l.cells c
extended_old n l l' c f h = ap (λ xs. cell_at xs c) f.cells ∙ arc_left l.cells f.more c h

-- a cell past the old ones is a new one
pub extended_new : (n : ℕ) (l l' : Layout) (c : ℕ) → IsExtended n l l' → length l.cells ≤ c → c < length l'.cells → IsNewCell n l (cell_at l'.cells c)
extended_new n l l' c f low h =
    let P : Cell → Type 0 = IsNewCell n l in
    subst P (sym (ap (λ xs. cell_at xs c) f.cells ∙ arc_right l.cells f.more c low)) (f.new_cells (c - length l.cells) (omega (arith, extended_length n l l' f)))

-- the weights of the places below n are the same
pub extended_weight : (n : ℕ) (l l' : Layout) (way : Way) (p t : ℕ) → IsExtended n l l' → p < n → weight l'.cells way p t ≡ weight l.cells way p t
extended_weight n l l' way p t f h =
    ap (λ xs. weight xs way p t) f.cells ∙ sum_by-append (share way p t) l.cells f.more
    ∙ ap (λ w. weight l.cells way p t + w) (weight_none f.more way p t (λ c d e. absurd (omega (arith, (f.new_cells c d).above))))
    ∙ omega arith

-- on the way back, nothing is revived yet
pub back_refl : (m : ℕ) (l : Layout) → m ≤ length l.removals → HasAllCells m l → IsRevivedTo m l l
back_refl m l low all = record { later = λ n. extended_refl n l; cells = refl; places = refl; reached = low; all = all }

-- one step back
pub back_step : (m : ℕ) (b : End) (k : ℕ) (l l' l'' : Layout) → IsRevivedTo m l l' → m < length l'.removals → IsTimed l' → IsRemoved b k l'' l' → IsRevivedTo m l l''
back_step m b k l l' l'' back low timed g =
    let long = removals_length b k l'' l' g in
    record {
      later = λ n. extended_trans n l'' l' l (extended_removed n b k l'' l' (timed_back b k l'' l' g timed) g) (back.later n);
      cells = sym g.cells ∙ back.cells;
      places = sym (g.as_many Place) ∙ back.places;
      reached = omega arith;
      all = record { cells = λ s from h. sym (ap (λ x. x.cells) (removal_old b k l'' l' s g h)) ∙ back.all.cells s from (omega arith) ∙ ap length g.cells };
    }
