-- The loop by which the places round a transition are removed.
use Rattle.std.proofs.Common.{◌≡◌, ◌≢◌, ◌<◌, ◌≤◌, ◌⊎◌, ◌+◌, ℕ, length, min, eqb, subst, sym, ap, ◌∙◌, refl, inl, inr, arith}
use Rattle.std.proofs.lemmas.Bool.{cases_lt, cases_eq, cases_order, ne_eqb}
use Rattle.stg_arena.specs.declared.end.End.TheVariants.{Place, Trans}
use Rattle.stg_arena.specs.declared.end.Way.TheVariants.{Take, Give}
use Rattle.stg_arena.specs.Ends.{other}
use Rattle.stg_arena.specs.LinkHistory.{IsNextAt}
use Rattle.stg_arena.specs.ArenaView.{Layout, none, cell_at, removed_at, side, times_of, removal_at, IsLaid, IsTimed, IsArena}
use Rattle.stg_arena.specs.RingWalk.{IsWalking}
use Rattle.stg_arena.specs.Incidence.{weight}
use Rattle.stg_arena.proofs.Rings.{stop_other}
use Rattle.stg_arena.proofs.RemovalTimes.{depth_now, removals_length, removal_old, removal_new, removals_short}
use Rattle.stg_arena.proofs.RingWeights.{ring_here, ring_gap}
use Rattle.stg_arena.proofs.RingWalk.{walk_on}
use Rattle.stg_arena.proofs.Extends.{extended_refl, extended_trans, extended_removed}
use Rattle.stg_edit.specs.inner.RemovedPlaces.{weights_at, touch, IsRemovedAtCell, IsFewer, ArePlacesRemoved}
use Rattle.stg_edit.proofs.PairPlaces.{at_trans, is_arc}

-- the walk round t is at x
pub record IsRemovingPlaces (t : ℕ) (l l' : Layout) (x : ℕ) : Type 0 where
  pub so_far : ArePlacesRemoved t (cell_at l.cells x).place l l'
  pub walking : IsWalking l' Trans t x

-- between two cells of the walk nothing is touched
pub untouched_between : (l : Layout) (t x z p : ℕ) → IsLaid l → IsTimed l → t < length l.trans → removed_at l Trans t ≡ none → IsWalking l Trans t x → IsNextAt (side l.cells Trans) (side l.cells Place) (times_of l) (length l.removals) x z → ((cell_at l.cells x).place ≡ none) ⊎ ((cell_at l.cells x).place < p) → p < (cell_at l.cells z).place → p < none → removed_at l Place p ≡ none → touch l t p ≡ 0
untouched_between l t x z p laid timed range live w f above below small there =
    let small_t : t < none = omega (arith, laid.sizes Trans) in
    omega (
      arith,
      ring_gap l Trans Take t x z p laid timed w f small_t live small there (record { above = above; below = inr below }),
      ring_gap l Trans Give t x z p laid timed w f small_t live small there (record { above = above; below = inr below }),
    )

-- the walk stands at the first cell
pub removing_starts : (t : ℕ) (l : Layout) (x : ℕ) → IsLaid l → IsTimed l → t < length l.trans → removed_at l Trans t ≡ none → IsNextAt (side l.cells Trans) (side l.cells Place) (times_of l) (length l.removals) t x → IsRemovingPlaces t l l x
removing_starts t l x laid timed range live f =
    let at = at_trans l t laid timed range live in
    record {
      so_far = record {
        arena = record { laid = laid; timed = timed };
        fewer = record { later = λ n. extended_refl n l; cells = refl; places = refl; trans = λ k. refl; all = record { cells = λ s from h. absurd (omega arith) } };
        removed = λ p low inside there some. absurd (omega (arith, untouched_between l t t x p laid timed range live at f (inl (laid.heads Trans t range).far) low (omega (arith, laid.sizes Place)) there));
        ahead = λ p h. refl;
        untouched = λ p h. refl;
        removed_before = λ p h. refl;
      };
      walking = walk_on l Trans t t x at f;
    }

-- what is known of the place at a cell of the walk
pub record IsAtPlace (l : Layout) (x : ℕ) : Type 0 where
  pub there : x < length l.cells
  pub inside : (cell_at l.cells x).place < length l.places
  pub live : removed_at l Place (cell_at l.cells x).place ≡ none

-- the place at a cell of the walk lives
pub at_place : (l : Layout) (t x : ℕ) → IsLaid l → IsTimed l → t < length l.trans → IsWalking l Trans t x → x ≢ t → IsAtPlace l x
at_place l t x laid timed range w other =
    let there : x < length l.cells = omega (arith, w.live.below, depth_now l) in
    record {
      there = there;
      inside = elim (laid.bounded Place x there) [ inl e ↦ absurd (is_arc l t x laid range w other e) | inr e ↦ e ];
      live = timed.alive Place (cell_at l.cells x).place (omega (arith, w.live.live));
    }

module _ (t : ℕ) (l l' : Layout) (x z : ℕ) (j : IsRemovingPlaces t l l' x) (laid : IsLaid l') (timed : IsTimed l') (range : t < length l'.trans) (live : removed_at l' Trans t ≡ none) (other : x ≢ t)
    (f : IsNextAt (side l'.cells Trans) (side l'.cells Place) (times_of l') (length l'.removals) x z) where
  a : IsAtPlace l' x
  a = at_place l' t x laid timed range j.walking other

  fewer : IsFewer l l'
  fewer = j.so_far.fewer

  same_x : (cell_at l.cells x).place ≡ (cell_at l'.cells x).place
  same_x = ap (λ xs. (cell_at xs x).place) (sym fewer.cells)

  same_z : (cell_at l.cells z).place ≡ (cell_at l'.cells z).place
  same_z = ap (λ xs. (cell_at xs z).place) (sym fewer.cells)

  same_touch : (p : ℕ) → touch l t p ≡ touch l' t p
  same_touch p = ap (λ xs. weight xs Take p t + weight xs Give p t) (sym fewer.cells)

  -- the walk goes up
  up : (cell_at l'.cells x).place < (cell_at l'.cells z).place
  up = elim (cases_eq z t) [
    | inl e ↦ omega (arith, a.inside, laid.sizes Place, (laid.heads Trans t range).far, ap (λ c. (cell_at l'.cells c).place) e)
    | inr ne ↦
        let arc = is_arc l' t z laid range (walk_on l' Trans t x z j.walking f) ne in
        let low : x < z = omega (arith, f.order, stop_other (side l'.cells Trans) ((times_of l').count (length l'.removals)) z (ne_eqb (cell_at l'.cells z).place none arc)) in
        elim (laid.ascending Trans x z low (omega (arith, f.to_below, depth_now l')) f.same).up [ inl e ↦ absurd (omega (arith, a.inside, laid.sizes Place)) | inr e ↦ e ]
  ]

  touch_here : touch l' t (cell_at l'.cells x).place ≡ weights_at l' x
  touch_here = omega (arith, ring_here l' Trans Take t x laid j.walking, ring_here l' Trans Give t x laid j.walking)

  -- which places below the next cell had a weight
  below_next : (p : ℕ) → p < (cell_at l'.cells z).place → (cell_at l'.cells x).place < p → p < length l'.places → removed_at l Place p ≡ none → touch l' t p ≡ 0
  below_next p low high inside there =
      untouched_between l' t x z p laid timed range live j.walking f (inr high) low (omega (arith, laid.sizes Place)) (j.so_far.ahead p (omega (arith, same_x)) ∙ there)

  -- the walk goes on once the place is removed
  pub removing_on : (l'' : Layout) → IsRemovedAtCell x l' l'' → IsArena l'' → IsRemovingPlaces t l l'' z
  removing_on l'' (inl (none_there, same)) arena = let P : Layout → Type 0 = λ l''. IsRemovingPlaces t l l'' z in subst P (sym same) (record {
    so_far = record {
      arena = j.so_far.arena;
      fewer = fewer;
      removed = λ p low inside there some. elim (cases_order p (cell_at l'.cells x).place) [
        | inl e ↦ absurd (omega (arith, same_touch p, ap (touch l' t) e, touch_here))
        | inr (inl before) ↦ j.so_far.removed p (omega (arith, same_x)) inside there some
        | inr (inr after) ↦ absurd (omega (arith, same_touch p, below_next p (omega (arith, same_z)) after (omega (arith, fewer.places)) there))
      ];
      ahead = λ p h. j.so_far.ahead p (omega (arith, same_x, same_z, up));
      untouched = j.so_far.untouched;
      removed_before = j.so_far.removed_before;
    };
    walking = walk_on l' Trans t x z j.walking f;
  })
  removing_on l'' (inr (some_there, g)) arena =
      let long = removals_length Place (cell_at l'.cells x).place l' l'' g in
      record {
        so_far = record {
          arena = arena;
          fewer = record {
            later = λ n. extended_trans n l l' l'' (fewer.later n) (extended_removed n Place (cell_at l'.cells x).place l' l'' timed g);
            cells = g.cells ∙ fewer.cells;
            places = g.as_many Place ∙ fewer.places;
            trans = λ k. g.far k ∙ fewer.trans k;
            all = record {
              cells = λ s from h. elim (cases_lt s (length l'.removals)) [
                | inl old ↦ ap (λ x. x.cells) (removal_old Place (cell_at l'.cells x).place l' l'' s g old) ∙ fewer.all.cells s from old ∙ sym (ap length g.cells)
                | inr new ↦ ap (λ s. (removal_at l'' s).cells) (let e : s ≡ length l'.removals = omega arith in e) ∙ ap (λ x. x.cells) (removal_new Place (cell_at l'.cells x).place l' l'' g) ∙ sym (ap length g.cells)
              ];
            };
          };
          removed = λ p low inside there some. elim (cases_order p (cell_at l'.cells x).place) [
            | inl e ↦ omega (arith, ap (removed_at l'' Place) e, g.here, long)
            | inr (inl before) ↦ omega (arith, g.others p (λ e. absurd (omega arith)), j.so_far.removed p (omega (arith, same_x)) inside there some, long)
            | inr (inr after) ↦ absurd (omega (arith, same_touch p, below_next p (omega (arith, same_z, ap (λ xs. (cell_at xs z).place) g.cells)) after (omega (arith, fewer.places)) there))
          ];
          ahead = λ p h. g.others p (λ e. absurd (omega (arith, same_z, up, ap (λ xs. (cell_at xs z).place) g.cells))) ∙ j.so_far.ahead p (omega (arith, same_x, same_z, up, ap (λ xs. (cell_at xs z).place) g.cells));
          untouched = λ p h. elim (cases_eq p (cell_at l'.cells x).place) [
            | inl e ↦ absurd (omega (arith, same_touch p, ap (touch l' t) e, touch_here))
            | inr ne ↦ g.others p ne ∙ j.so_far.untouched p h
          ];
          removed_before = λ p h. g.others p (λ e. h (sym (j.so_far.removed_before p h) ∙ ap (removed_at l' Place) e ∙ a.live)) ∙ j.so_far.removed_before p h;
        };
        walking =
            let w = walk_on l' Trans t x z j.walking f in
            let e = ap (λ xs. cell_at xs z) g.cells in
            record {
              live = record {
                below = omega (arith, w.live.below, depth_now l', depth_now l'', ap length g.cells);
                live = omega (
                  arith,
                  ap (λ x. min (removed_at l'' Place x.place) (removed_at l'' Trans x.trans)) e,
                  g.others (cell_at l'.cells z).place (λ e. absurd (omega (arith, up))),
                  g.far (cell_at l'.cells z).trans,
                  timed.alive Place (cell_at l'.cells z).place (omega (arith, w.live.live)),
                  timed.alive Trans (cell_at l'.cells z).trans (omega (arith, w.live.live)),
                  long,
                  timed.room,
                  timed.small,
                );
                part = ap (λ x. eqb x.trans none) e ∙ w.live.part;
              };
              key = ap (λ x. x.trans) e ∙ w.key;
            };
      }

-- there is room for the removal of a place that lives
pub removals_room_for : (l : Layout) (x : ℕ) → IsTimed l → IsLaid l → IsAtPlace l x → l.rooms.places + length l.trans ≤ l.rooms.removals → length l.removals < l.rooms.removals
removals_room_for l x timed laid a long = omega (arith, removals_short l Place (cell_at l.cells x).place timed a.inside a.live, laid.places)

-- at the end the places round t are removed
pub removing_ends : (t : ℕ) (l l' : Layout) (x : ℕ) → IsRemovingPlaces t l l' x → IsLaid l' → t < length l'.trans → x ≡ t → ArePlacesRemoved t none l l'
removing_ends t l l' x j laid range e =
    let P : ℕ → Type 0 = λ end. ArePlacesRemoved t end l l' in
    subst P (ap (λ xs. (cell_at xs x).place) (sym j.so_far.fewer.cells) ∙ ap (λ c. (cell_at l'.cells c).place) e ∙ (laid.heads Trans t range).far) j.so_far
