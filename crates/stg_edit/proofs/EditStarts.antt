-- Where the edits began, when one more begins and when the last is undone.
use Rattle.std.proofs.Common.{◌≡◌, ◌<◌, ◌≤◌, ◌⊎◌, ◌+◌, ◌-◌, ◌++◌, ◌∷◌, [], ℕ, List, length, subst, sym, ap, ◌∙◌, refl, inl, inr, arith}
use Rattle.std.proofs.lemmas.Bool.{cases_lt, le-leb, leb-true}
use Rattle.std.proofs.lemmas.List.{get_or_past, get_or_default, get_or-map, length-map, same_lists, map-append, length-append, get_or_append_left, get_or-append_right}
use Rattle.stg_arena.specs.declared.end.End.{End}
use Rattle.stg_arena.specs.declared.end.End.TheVariants.{Place}
use Rattle.stg_arena.specs.declared.cell.Rooms.{Rooms}
use Rattle.stg_arena.specs.ArenaView.{Layout, cell_at, end_of, removed_at, removal_at, IsLaid, IsTimed, IsRemoved}
use Rattle.stg_arena.specs.Extends.{IsExtended, HasAllCells, IsRevivedTo}
use Rattle.stg_arena.specs.Truncation.{CanTruncate, IsTruncated}
use Rattle.stg_arena.proofs.Extends.{extended_old, extended_new, extended_length, extended_trans}
use Rattle.stg_arena.proofs.RemovalTimes.{removals_length, removal_new}
use Rattle.stg_arena.proofs.LayoutTruncate.{truncated_places}
use Rattle.stg_arena.proofs.MoreRoom.{with_rooms, removed_at_same}
use Rattle.stg_edit.specs.declared.edit_start.EditStart.{EditStart}
use Rattle.stg_edit.specs.inner.DraftAt.{Base, draft_at, now_of, past_of, present_start, start_at, AreEditStarts}
use Rattle.stg_edit.proofs.DraftChanges.{draft_extended}

-- the drafts of the past are the same
pub past_same : (base : Base) (l l' : Layout) (starts : List EditStart) → ((i : ℕ) → i < length starts → draft_at base l' (start_at l starts i).moment (start_at l starts i).places ≡ draft_at base l (start_at l starts i).moment (start_at l starts i).places) → past_of base l' starts ≡ past_of base l starts
past_same base l l' starts same =
    same_lists _ _ (length-map starts (λ m. draft_at base l' m.moment m.places) ∙ sym (length-map starts (λ m. draft_at base l m.moment m.places)))
    (λ k d h. let r : k < length starts = rw length-map at h in
    get_or-map (λ m. draft_at base l' m.moment m.places) starts k (present_start l) d r ∙ same k r ∙ sym (get_or-map (λ m. draft_at base l m.moment m.places) starts k (present_start l) d r))

-- past all edits stands the present
start_end : (l : Layout) (starts : List EditStart) → start_at l starts (length starts) ≡ present_start l
start_end l starts = get_or_past starts (length starts) (present_start l) (omega arith)

-- what a draft was at a moment before it is after a while
moment_back : (n : ℕ) (l l' : Layout) (s : ℕ) (b : End) (k : ℕ) → IsExtended n l l' → s ≤ length l.removals → s ≤ removed_at l b k → s ≤ removed_at l' b k
moment_back n l l' s b k f h d = leb-true s (removed_at l' b k) (f.live s b k h ∙ le-leb s (removed_at l b k) d)

moment_on : (n : ℕ) (l l' : Layout) (s : ℕ) (b : End) (k : ℕ) → IsExtended n l l' → s ≤ length l.removals → s ≤ removed_at l' b k → s ≤ removed_at l b k
moment_on n l l' s b k f h d = leb-true s (removed_at l b k) (sym (f.live s b k h) ∙ le-leb s (removed_at l' b k) d)

-- the last edit is taken back: l' is the arena after, l the one before, with the edit's start
module _ (l l' : Layout) (starts : List EditStart) (m : EditStart) (is : present_start l' ≡ m) (f : IsExtended m.places l' l) where
  same_start : (i : ℕ) → i ≤ length starts → start_at l' starts i ≡ start_at l (starts ++ m ∷ []) i
  same_start i h = elim (cases_lt i (length starts)) [
    | inl low ↦ get_or_default starts i (present_start l') (present_start l) low ∙ sym (get_or_append_left starts (m ∷ []) (present_start l) i low)
    | inr high ↦ get_or_past starts i (present_start l') high ∙ is ∙ sym (get_or-append_right starts (m ∷ []) (length starts) i (present_start l) refl high ∙ ap (λ k. start_at l (m ∷ []) k) (let z : i - length starts ≡ 0 = omega arith in z))
  ]

  longer : length (starts ++ m ∷ []) ≡ length starts + 1
  longer = length-append starts (m ∷ [])

  last_moment : (start_at l' starts (length starts)).moment ≡ length l'.removals
  last_moment = ap (λ x. x.moment) (start_end l' starts)

  last_cells : (start_at l' starts (length starts)).cells ≡ length l'.cells
  last_cells = ap (λ x. x.cells) (start_end l' starts)

  -- the starts of the edits that are left
  pub starts_back : AreEditStarts l (starts ++ m ∷ []) → AreEditStarts l' starts
  starts_back are_starts = record {
    up = up;
    places_up = λ i j le h. omega (arith, ap (λ x. x.places) (same_start i (omega arith)), ap (λ x. x.places) (same_start j h), are_starts.places_up i j le (omega (arith, longer)));
    cells_up = cells_up;
    before = λ i s h low. omega (arith, ap (λ x. x.cells) (f.removed s (omega (arith, up i (length starts) h (omega arith), last_moment))), ap (λ x. x.cells) (same_start i h), are_starts.before i s (omega (arith, longer)) (omega (arith, ap (λ x. x.moment) (same_start i h))));
    during = λ i s h low high.
        sym (ap (λ x. x.cells) (f.removed s (omega (arith, up (i + 1) (length starts) (omega arith) (omega arith), last_moment))))
        ∙ are_starts.during i s (omega (arith, longer)) (omega (arith, ap (λ x. x.moment) (same_start i (omega arith)))) (omega (arith, ap (λ x. x.moment) (same_start (i + 1) (omega arith))))
        ∙ sym (ap (λ x. x.cells) (same_start (i + 1) (omega arith)));
    older = λ i c h low.
        let there : c < length l'.cells = omega (arith, cells_up i (length starts) h (omega arith), last_cells) in
        let same = ap (λ x. x.place) (extended_old m.places l' l c f there) in
        elim (are_starts.older i c (omega (arith, longer)) (omega (arith, ap (λ x. x.cells) (same_start i h)))) [ inl e ↦ inl (sym same ∙ e) | inr e ↦ inr (omega (arith, same, ap (λ x. x.places) (same_start i h))) ];
    newer = λ i c h low there.
        let same = ap (λ x. x.place) (extended_old m.places l' l c f there) in
        let was = are_starts.newer i c (omega (arith, longer)) (omega (arith, ap (λ x. x.cells) (same_start i h))) (omega (arith, extended_length m.places l' l f)) in
        (omega (arith, was.0, same, ap (λ x. x.places) (same_start i h)), omega (arith, was.1, same));
    born = λ i c b h low there.
        moment_on m.places l' l (start_at l' starts i).moment b (end_of b (cell_at l'.cells c)) f (omega (arith, up i (length starts) h (omega arith), last_moment))
        (omega (arith, ap (λ x. removed_at l b (end_of b x)) (extended_old m.places l' l c f there), are_starts.born i c b (omega (arith, longer)) (omega (arith, ap (λ x. x.cells) (same_start i h))) (omega (arith, extended_length m.places l' l f)), ap (λ x. x.moment) (same_start i h)));
  }
    where
      up : (i j : ℕ) → i ≤ j → j ≤ length starts → (start_at l' starts i).moment ≤ (start_at l' starts j).moment
      up i j le h = omega (arith, ap (λ x. x.moment) (same_start i (omega arith)), ap (λ x. x.moment) (same_start j h), are_starts.up i j le (omega (arith, longer)))

      cells_up : (i j : ℕ) → i ≤ j → j ≤ length starts → (start_at l' starts i).cells ≤ (start_at l' starts j).cells
      cells_up i j le h = omega (arith, ap (λ x. x.cells) (same_start i (omega arith)), ap (λ x. x.cells) (same_start j h), are_starts.cells_up i j le (omega (arith, longer)))

  -- the past without the last draft
  pub past_less : (base : Base) → AreEditStarts l (starts ++ m ∷ []) → past_of base l (starts ++ m ∷ []) ≡ past_of base l' starts ++ now_of base l' ∷ []
  past_less base are_starts =
      let marked' = starts_back are_starts in
      map-append (λ m. draft_at base l m.moment m.places) starts (m ∷ [])
      ∙ (λ i. past_same base l' l starts (λ j h. draft_extended base m.places l' l (start_at l' starts j).moment (start_at l' starts j).places f
      (omega (arith, marked'.places_up j (length starts) (omega arith) (omega arith), ap (λ x. x.places) (start_end l' starts), ap (λ x. x.places) is))
      (omega (arith, marked'.up j (length starts) (omega arith) (omega arith), last_moment))) i
      ++ (ap (λ m. draft_at base l m.moment m.places) (sym is) ∙ draft_extended base m.places l' l (length l'.removals) (length l'.places) f (omega (arith, ap (λ x. x.places) is)) (omega arith)) i ∷ [])

-- one more edit
module _ (l l' : Layout) (starts : List EditStart) (m : EditStart) (is : m ≡ present_start l) (f : IsExtended (length l.places) l l') where
  old_start : (i : ℕ) → i ≤ length starts → start_at l' (starts ++ m ∷ []) i ≡ start_at l starts i
  old_start i h = elim (cases_lt i (length starts)) [
    | inl low ↦ get_or_append_left starts (m ∷ []) (present_start l') i low ∙ get_or_default starts i (present_start l') (present_start l) low
    | inr high ↦
        get_or-append_right starts (m ∷ []) (length starts) i (present_start l') refl high
        ∙ ap (λ k. start_at l' (m ∷ []) k) (let z : i - length starts ≡ 0 = omega arith in z)
        ∙ is ∙ sym (get_or_past starts i (present_start l) high)
  ]

  new_start : (i : ℕ) → i ≡ length starts + 1 → start_at l' (starts ++ m ∷ []) i ≡ present_start l'
  new_start i e = get_or_past (starts ++ m ∷ []) i (present_start l') (omega (arith, length-append starts (m ∷ [])))

  -- which start it is
  which : (i : ℕ) → i ≤ length (starts ++ m ∷ []) → (i ≤ length starts) ⊎ (i ≡ length starts + 1)
  which i h = elim (cases_lt (length starts) i) [ inl high ↦ inr (omega (arith, length-append starts (m ∷ []))) | inr low ↦ inl low ]

  -- the starts with one more edit
  pub starts_more : AreEditStarts l starts → IsLaid l' → IsTimed l' → HasAllCells (length l.removals) l' → AreEditStarts l' (starts ++ m ∷ [])
  starts_more are_starts laid timed all = record {
    up = λ i j le h. elim (which j h) [
      | inl low ↦ omega (arith, ap (λ x. x.moment) (old_start i (omega arith)), ap (λ x. x.moment) (old_start j low), are_starts.up i j le low)
      | inr high ↦ elim (which i (omega arith)) [
        | inl low ↦ omega (arith, ap (λ x. x.moment) (old_start i low), ap (λ x. x.moment) (new_start j high), are_starts.up i (length starts) low (omega arith), ap (λ x. x.moment) (start_end l starts), f.longer)
        | inr e ↦ omega (arith, ap (λ x. x.moment) (new_start i e), ap (λ x. x.moment) (new_start j high))
      ]
    ];
    places_up = λ i j le h. elim (which j h) [
      | inl low ↦ omega (arith, ap (λ x. x.places) (old_start i (omega arith)), ap (λ x. x.places) (old_start j low), are_starts.places_up i j le low)
      | inr high ↦ elim (which i (omega arith)) [
        | inl low ↦ omega (arith, ap (λ x. x.places) (old_start i low), ap (λ x. x.places) (new_start j high), are_starts.places_up i (length starts) low (omega arith), ap (λ x. x.places) (start_end l starts), f.places)
        | inr e ↦ omega (arith, ap (λ x. x.places) (new_start i e), ap (λ x. x.places) (new_start j high))
      ]
    ];
    cells_up = λ i j le h. elim (which j h) [
      | inl low ↦ omega (arith, ap (λ x. x.cells) (old_start i (omega arith)), ap (λ x. x.cells) (old_start j low), are_starts.cells_up i j le low)
      | inr high ↦ elim (which i (omega arith)) [
        | inl low ↦ omega (arith, ap (λ x. x.cells) (old_start i low), ap (λ x. x.cells) (new_start j high), are_starts.cells_up i (length starts) low (omega arith), ap (λ x. x.cells) (start_end l starts), extended_length (length l.places) l l' f)
        | inr e ↦ omega (arith, ap (λ x. x.cells) (new_start i e), ap (λ x. x.cells) (new_start j high))
      ]
    ];
    before = λ i s h low. elim (which i h) [
      | inl old ↦
          let early : s < length l.removals = omega (arith, ap (λ x. x.moment) (old_start i old), are_starts.up i (length starts) old (omega arith), ap (λ x. x.moment) (start_end l starts)) in
          omega (arith, ap (λ x. x.cells) (f.removed s early), ap (λ x. x.cells) (old_start i old), are_starts.before i s old (omega (arith, ap (λ x. x.moment) (old_start i old))))
      | inr e ↦ omega (arith, ap (λ x. x.cells) (new_start i e), timed.cells s (omega (arith, ap (λ x. x.moment) (new_start i e))))
    ];
    during = λ i s h low high. elim (cases_lt i (length starts)) [
      | inl old ↦
          let early : s < length l.removals = omega (arith, ap (λ x. x.moment) (old_start (i + 1) (omega arith)), are_starts.up (i + 1) (length starts) (omega arith) (omega arith), ap (λ x. x.moment) (start_end l starts)) in
          ap (λ x. x.cells) (f.removed s early)
          ∙ are_starts.during i s old (omega (arith, ap (λ x. x.moment) (old_start i (omega arith)))) (omega (arith, ap (λ x. x.moment) (old_start (i + 1) (omega arith))))
          ∙ sym (ap (λ x. x.cells) (old_start (i + 1) (omega arith)))
      | inr new ↦
          let last : i ≡ length starts = omega (arith, length-append starts (m ∷ [])) in
          all.cells s (omega (arith, ap (λ x. x.moment) (old_start i (omega arith)), ap (λ i. (start_at l starts i).moment) last, ap (λ x. x.moment) (start_end l starts))) (omega (arith, ap (λ x. x.moment) (new_start (i + 1) (omega arith))))
          ∙ sym (ap (λ x. x.cells) (new_start (i + 1) (omega arith)))
    ];
    older = λ i c h low. elim (which i h) [
      | inl old ↦
          let early : c < length l.cells = omega (arith, ap (λ x. x.cells) (old_start i old), are_starts.cells_up i (length starts) old (omega arith), ap (λ x. x.cells) (start_end l starts)) in
          let same = ap (λ x. x.place) (extended_old (length l.places) l l' c f early) in
          elim (are_starts.older i c old (omega (arith, ap (λ x. x.cells) (old_start i old)))) [ inl e ↦ inl (same ∙ e) | inr e ↦ inr (omega (arith, same, ap (λ x. x.places) (old_start i old))) ]
      | inr e ↦ elim (laid.bounded Place c (omega (arith, ap (λ x. x.cells) (new_start i e)))) [ inl z ↦ inl z | inr z ↦ inr (omega (arith, ap (λ x. x.places) (new_start i e))) ]
    ];
    newer = λ i c h low there. elim (which i h) [
      | inl old ↦ elim (cases_lt c (length l.cells)) [
        | inl early ↦
            let same = ap (λ x. x.place) (extended_old (length l.places) l l' c f early) in
            let was = are_starts.newer i c old (omega (arith, ap (λ x. x.cells) (old_start i old))) early in
            (omega (arith, was.0, same, ap (λ x. x.places) (old_start i old)), omega (arith, was.1, same))
        | inr late ↦
            let new_cells = extended_new (length l.places) l l' c f late there in
            (omega (arith, new_cells.above, ap (λ x. x.places) (old_start i old), are_starts.places_up i (length starts) old (omega arith), ap (λ x. x.places) (start_end l starts)), new_cells.is_arc)
      ]
      | inr e ↦ absurd (omega (arith, ap (λ x. x.cells) (new_start i e)))
    ];
    born = λ i c b h low there. elim (which i h) [
      | inl old ↦
          let moment : (start_at l' (starts ++ m ∷ []) i).moment ≤ length l.removals = omega (arith, ap (λ x. x.moment) (old_start i old), are_starts.up i (length starts) old (omega arith), ap (λ x. x.moment) (start_end l starts)) in
          moment_back (length l.places) l l' (start_at l' (starts ++ m ∷ []) i).moment b (end_of b (cell_at l'.cells c)) f moment
          (elim (cases_lt c (length l.cells)) [
            | inl early ↦ omega (arith, ap (λ x. removed_at l b (end_of b x)) (extended_old (length l.places) l l' c f early), are_starts.born i c b old (omega (arith, ap (λ x. x.cells) (old_start i old))) early, ap (λ x. x.moment) (old_start i old))
            | inr late ↦ omega (arith, (extended_new (length l.places) l l' c f late there).live b)
          ])
      | inr e ↦ absurd (omega (arith, ap (λ x. x.cells) (new_start i e)))
    ];
  }

  -- the past with one more draft
  pub past_more : (base : Base) → AreEditStarts l starts → past_of base l' (starts ++ m ∷ []) ≡ past_of base l starts ++ now_of base l ∷ []
  past_more base are_starts =
      map-append (λ m. draft_at base l' m.moment m.places) starts (m ∷ [])
      ∙ (λ i. past_same base l l' starts (λ j h. draft_extended base (length l.places) l l' (start_at l starts j).moment (start_at l starts j).places f
      (omega (arith, are_starts.places_up j (length starts) (omega arith) (omega arith), ap (λ x. x.places) (start_end l starts)))
      (omega (arith, are_starts.up j (length starts) (omega arith) (omega arith), ap (λ x. x.moment) (start_end l starts)))) i
      ++ (ap (λ m. draft_at base l' m.moment m.places) is ∙ draft_extended base (length l.places) l l' (length l.removals) (length l.places) f (omega arith) (omega arith)) i ∷ [])

-- when one node is removed, all cells are there
pub all_cells_removed : (b : End) (k : ℕ) (l l' : Layout) → IsRemoved b k l l' → HasAllCells (length l.removals) l'
all_cells_removed b k l l' g = record {
  cells = λ s from h. ap (λ s. (removal_at l' s).cells) (let e : s ≡ length l.removals = omega (arith, removals_length b k l l' g) in e) ∙ ap (λ x. x.cells) (removal_new b k l l' g) ∙ sym (ap length g.cells);
}

-- what an edit's start says when it is taken back
pub record IsLastStart (l : Layout) (m : EditStart) : Type 0 where
  pub within : m.moment ≤ length l.removals
  pub all : HasAllCells m.moment l
  pub can : (l' : Layout) → IsRevivedTo m.moment l l' → length l'.removals ≡ m.moment → IsTimed l' → CanTruncate m.places m.cells l'

-- what is so of the last start
pub last_start : (l : Layout) (starts : List EditStart) (m : EditStart) → AreEditStarts l (starts ++ m ∷ []) → IsTimed l → IsLaid l → IsLastStart l m
last_start l starts m are_starts timed laid =
    record {
      within = omega (arith, ap (λ x. x.moment) last, are_starts.up (length starts) (length starts + 1) (omega arith) (omega (arith, long)), ap (λ x. x.moment) end);
      all = record { cells = λ s from h. are_starts.during (length starts) s (omega (arith, long)) (omega (arith, ap (λ x. x.moment) last)) (omega (arith, ap (λ x. x.moment) end)) ∙ ap (λ x. x.cells) end };
      can = λ l' back moment timed'.
          let f = back.later 0 in
          let cells_up = are_starts.cells_up (length starts) (length starts + 1) (omega arith) (omega (arith, long)) in
          record {
            kept = omega (arith, cells_up, ap (λ x. x.cells) last, ap (λ x. x.cells) end, ap length back.cells);
            few = omega (arith, are_starts.places_up (length starts) (length starts + 1) (omega arith) (omega (arith, long)), ap (λ x. x.places) last, ap (λ x. x.places) end, back.places);
            older = λ c h. elim (are_starts.older (length starts) c (omega (arith, long)) (omega (arith, ap (λ x. x.cells) last))) [
              | inl e ↦ inl (ap (λ xs. (cell_at xs c).place) back.cells ∙ e)
              | inr e ↦ inr (omega (arith, ap (λ xs. (cell_at xs c).place) back.cells, ap (λ x. x.places) last))
            ];
            newer = λ c from h.
                let z = are_starts.newer (length starts) c (omega (arith, long)) (omega (arith, ap (λ x. x.cells) last)) (omega (arith, ap length back.cells)) in
                (omega (arith, z.0, ap (λ xs. (cell_at xs c).place) back.cells, ap (λ x. x.places) last), omega (arith, z.1, ap (λ xs. (cell_at xs c).place) back.cells));
            live = λ c b from h.
                timed'.alive b (end_of b (cell_at l'.cells c))
                (moment_on 0 l' l (length l'.removals) b (end_of b (cell_at l'.cells c)) f (omega arith)
                (omega (arith, are_starts.born (length starts) c b (omega (arith, long)) (omega (arith, ap (λ x. x.cells) last)) (omega (arith, ap length back.cells)), ap (λ xs. removed_at l b (end_of b (cell_at xs c))) back.cells, ap (λ x. x.moment) last)));
            late = λ s h. omega (arith, ap (λ x. x.cells) (f.removed s h), are_starts.before (length starts) s (omega (arith, long)) (omega (arith, ap (λ x. x.moment) last)), ap (λ x. x.cells) last);
          };
    }
  where
    long : length (starts ++ m ∷ []) ≡ length starts + 1
    long = length-append starts (m ∷ [])

    last : start_at l (starts ++ m ∷ []) (length starts) ≡ m
    last = get_or-append_right starts (m ∷ []) (length starts) (length starts) (present_start l) refl (omega arith) ∙ ap (λ k. start_at l (m ∷ []) k) (let z : length starts - length starts ≡ 0 = omega arith in z)

    end : start_at l (starts ++ m ∷ []) (length starts + 1) ≡ present_start l
    end = get_or_past (starts ++ m ∷ []) (length starts + 1) (present_start l) (omega (arith, long))

-- the arena is where the edit began
pub taken_back : (l l' l'' : Layout) (m : EditStart) → length l'.removals ≡ m.moment → IsTruncated m.places m.cells l' l'' → length l''.cells ≡ m.cells → IsLaid l'' → present_start l'' ≡ m
taken_back l l' l'' m moment popped cells laid =
    let same_removals = ap length popped.removals ∙ moment in
    let fewer = truncated_places m.places m.cells l'' laid popped.can cells in
    let places : length l''.places ≡ m.places = omega (arith, popped.can.few) in
    λ i. record { moment = same_removals i; places = places i; cells = cells i }

-- the last edit was taken back, from l to l'
pub record IsUndone (base : Base) (all starts : List EditStart) (m : EditStart) (l l' : Layout) : Type 0 where
  pub later : IsExtended m.places l' l
  pub are_starts : AreEditStarts l' starts
  pub past : past_of base l all ≡ past_of base l' starts ++ now_of base l' ∷ []
  pub slim : length l.places + length l'.cells ≤ length l.cells + length l'.places

-- the last edit is taken back
pub is_undone : (base : Base) (l l' l'' : Layout) (all starts : List EditStart) (m : EditStart) → all ≡ starts ++ m ∷ [] → AreEditStarts l all → IsTimed l → IsLaid l → IsRevivedTo m.moment l l' → length l'.removals ≡ m.moment → IsTimed l' → ((n : ℕ) → CanTruncate n m.cells l' → IsTruncated n m.cells l' l'') → length l''.cells ≡ m.cells → IsLaid l'' → IsUndone base all starts m l l''
is_undone base l l' l'' all starts m ends are_starts0 timed laid back reached timed' pops cells laid'' =
    let P : List EditStart → Type 0 = λ ms. AreEditStarts l ms in
    let are_starts : AreEditStarts l (starts ++ m ∷ []) = subst P ends are_starts0 in
    let popped = pops m.places ((last_start l starts m are_starts timed laid).can l' back reached timed') in
    let later = extended_trans m.places l'' l' l popped.later (back.later m.places) in
    let is = taken_back l l' l'' m reached popped cells laid'' in
    record {
      later = later;
      are_starts = starts_back l l'' starts m is later are_starts;
      past = ap (past_of base l) ends ∙ past_less l l'' starts m is later base are_starts;
      slim = omega (arith, popped.slim, ap length back.cells, back.places);
    }

-- without edits
pub starts_first : (l : Layout) → IsTimed l → IsLaid l → AreEditStarts l []
starts_first l timed laid = record {
  up = λ i j le h. omega arith;
  places_up = λ i j le h. omega arith;
  cells_up = λ i j le h. omega arith;
  before = λ i s h low. timed.cells s low;
  during = λ i s h low high. absurd (omega arith);
  older = λ i c h low. laid.bounded Place c low;
  newer = λ i c h low there. absurd (omega arith);
  born = λ i c b h low there. absurd (omega arith);
}

-- the starts stay with more room
pub starts_more_room : (l : Layout) (rooms : Rooms) (starts : List EditStart) → AreEditStarts l starts → AreEditStarts (with_rooms l rooms) starts
starts_more_room l rooms starts m = record {
  up = m.up;
  places_up = m.places_up;
  cells_up = m.cells_up;
  before = m.before;
  during = m.during;
  older = m.older;
  newer = m.newer;
  born = λ i c b h low there. omega (arith, removed_at_same l rooms b (end_of b (cell_at l.cells c)), m.born i c b h low there);
}
