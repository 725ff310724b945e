-- The loop that merges the arcs of two places.
use Rattle.std.proofs.Common.{◌^◌, ◌≡◌, ◌≢◌, ◌<◌, ◌≤◌, ◌+◌, ◌-◌, ℕ, true, cond, min, length, eqb, leb, eq-eqb, subst, sym, ap, ◌∙◌, refl, inl, inr, arith}
use Rattle.std.proofs.lemmas.Bool.{cases_eq, cases_lt, cond_both, ne_eqb, le-leb}
use Rattle.stg_arena.specs.declared.end.Way.{Way}
use Rattle.stg_arena.specs.declared.end.End.TheVariants.{Place, Trans}
use Rattle.stg_arena.specs.declared.end.Way.TheVariants.{Take, Give}
use Rattle.stg_arena.specs.declared.cell.Cell.{Cell}
use Rattle.stg_arena.specs.LinkHistory.{IsNextAt}
use Rattle.stg_arena.specs.ArenaView.{Layout, none, spot_at, side, removed_at, head_of, times_of, IsLaid, IsTimed, IsPastAll, IsArena}
use Rattle.stg_arena.specs.RingWalk.{cell_weight, IsWalking}
use Rattle.stg_arena.specs.Incidence.{weight}
use Rattle.stg_arena.specs.Appends.{IsAppended}
use Rattle.stg_arena.proofs.RemovalTimes.{depth_now}
use Rattle.stg_arena.proofs.RingWalk.{walk_on}
use Rattle.stg_arena.proofs.RingWeights.{ring_here, ring_gap}
use Rattle.stg_arena.proofs.LinksOneSide.{head_on}
use Rattle.stg_arena.proofs.Appends.{appended_refl, appended_trans}
use Rattle.stg_edit.specs.inner.DraftAt.{weight_at}
use Rattle.stg_edit.specs.inner.RowMerge.{far, share_at, IsMerged, IsStep, IsPut, IsPutAllowed, KeepsAllButCells, CanMerge, merged_weight, merged_arcs}
use Rattle.stg_edit.proofs.Counted.{arcs_up, arcs_more}
use Rattle.stg_edit.proofs.RowStep.{row_step, past_none, merge_step, IsClear, IsMerging}

-- all transitions below u are done, the walks stand at x and y
pub record IsOnTheWay (l l' : Layout) (p q t n u x y : ℕ) : Type 0 where
  pub arena : IsArena l'
  pub merging : IsMerging l' p q t n u x y
  pub least : u ≡ min (far l' x) (far l' y)
  pub kept : KeepsAllButCells l l'
  pub others : (way : Way) (r v : ℕ) → r ≢ n → weight l'.cells way r v ≡ weight l.cells way r v
  pub appended : IsAppended t n l l'
  pub room : length l'.cells ≤ length l.cells + merged_arcs l t p q (min u (length l.trans))

-- the walk along a ring begins at its head
pub at_head : (l : Layout) (p : ℕ) → IsLaid l → IsTimed l → p < length l.places → removed_at l Place p ≡ none → IsWalking l Place p (head_of l Place p)
at_head l p laid t range live = record { live = head_on Place p l laid t range live; key = (laid.heads Place p range).key }

-- before the first cell of a ring there is nothing
before_first : (l : Layout) (p x v : ℕ) (way : Way) → IsLaid l → IsTimed l → p < length l.places → removed_at l Place p ≡ none → IsNextAt (side l.cells Place) (side l.cells Trans) (times_of l) (length l.removals) (head_of l Place p) x → v < none → removed_at l Trans v ≡ none → v < far l x → weight l.cells way p v ≡ 0
before_first l p x v way laid t range live f small lv low = ring_gap l Place way p (head_of l Place p) x v laid t (at_head l p laid t range live) f (omega (arith, laid.sizes Place)) live small lv (record { above = inl (laid.heads Place p range).far; below = inr low })

first_clear : (l : Layout) (p x u : ℕ) → IsLaid l → IsTimed l → p < length l.places → removed_at l Place p ≡ none → IsNextAt (side l.cells Place) (side l.cells Trans) (times_of l) (length l.removals) (head_of l Place p) x → u ≤ far l x → IsClear l p u x
first_clear l p x u laid t range live f low = record {
  walking = walk_on l Place p (head_of l Place p) x (at_head l p laid t range live) f;
  ahead = low;
  clear = λ way v small lv above below. before_first l p x v way laid t range live f small lv below;
}

-- before the first transition
pub merge_starts : (l : Layout) (p q t u x y : ℕ) → IsLaid l → IsTimed l → CanMerge l p q t → IsNextAt (side l.cells Place) (side l.cells Trans) (times_of l) (length l.removals) (head_of l Place p) x → IsNextAt (side l.cells Place) (side l.cells Trans) (times_of l) (length l.removals) (head_of l Place q) y → u ≡ min (far l x) (far l y) → IsOnTheWay l l p q t (length l.places - 1) u x y
merge_starts l p q t u x y laid timed can f g least = record {
  arena = can.arena;
  merging = record {
    first = first_clear l p x u laid timed (omega (arith, can.first)) can.live_first f (omega arith);
    second = first_clear l q y u laid timed (omega (arith, can.second)) can.live_second g (omega arith);
    done = λ way v small lv low.
        let a = before_first l p x v way laid timed (omega (arith, can.first)) can.live_first f small lv (omega arith) in
        let b = before_first l q y v way laid timed (omega (arith, can.second)) can.live_second g small lv (omega arith) in
        let z : weight l.cells way p v + weight l.cells way q v ≡ 0 = omega (arith, a, b) in
        past_none l (length l.places - 1) 0 v way (past_all 0) (omega arith) small ∙ sym (ap (cond (eqb v t) 0) z ∙ cond_both (eqb v t) 0 0 (λ z. z ≡ 0) (λ e. refl) (λ e. refl));
    past = past_all u;
  };
  least = least;
  kept = record { places = refl; trans = refl; removals = refl; rooms = refl };
  others = λ way r v ne. refl;
  appended = appended_refl t (length l.places - 1) l;
  room = omega arith;
}
  where
    past_all : (u : ℕ) → IsPastAll l (length l.places - 1) u
    past_all u = record { past = λ c h e. inl (can.no_arcs c h e) }

-- what the places have at u
row_here : (l : Layout) (p u x : ℕ) (way : Way) → IsLaid l → u < none → removed_at l Trans u ≡ none → IsClear l p u x → weight l.cells way p u ≡ share_at l way x u
row_here l p u x way laid small live c = elim (cases_eq (far l x) u) [
  | inl e ↦ rw (eq-eqb (far l x) u e) (ap (weight l.cells way p) (sym e) ∙ ring_here l Place way p x laid c.walking)
  | inr ne ↦ rw (ne_eqb (far l x) u ne) (c.clear way u small live (omega arith) (omega (arith, c.ahead)))
]

-- while the loop runs, u is a transition that lives
pub record IsAtWork (l0 l : Layout) (p q u : ℕ) : Type 0 where
  pub small : u < none
  pub range : u < length l.trans
  pub live : removed_at l Trans u ≡ none
  pub live_first : removed_at l Place p ≡ none
  pub live_second : removed_at l Place q ≡ none
  pub sums : (way : Way) → weight l.cells way p u + weight l.cells way q u < 2 ^ 32

at_far : (l : Layout) (p x u : ℕ) → IsLaid l → IsTimed l → IsWalking l Place p x → far l x ≡ u → u ≢ none → (u < length l.trans) × (removed_at l Trans u ≡ none)
at_far l p x u laid t w e arc =
    let h : x < length l.cells = omega (arith, w.live.below, depth_now l) in (
      elim (laid.bounded Trans x h) [ inl z ↦ absurd (arc (sym e ∙ z)) | inr z ↦ omega arith ],
      ap (removed_at l Trans) (sym e) ∙ t.alive Trans (far l x) (omega (arith, w.live.live)),
    )

-- what is so of u while the loop runs
pub at_work : (l0 l : Layout) (p q t u x y : ℕ) → IsLaid l → IsTimed l → CanMerge l0 p q t → IsOnTheWay l0 l p q t (length l0.places - 1) u x y → u ≢ none → IsAtWork l0 l p q u
at_work l0 l p q t u x y laid timed can state arc =
    let f : (u < length l.trans) × (removed_at l Trans u ≡ none) = elim (cases_lt (far l y) (far l x)) [
      | inl low ↦ at_far l q y u laid timed state.merging.second.walking (let e : far l y ≡ u = omega (arith, state.least) in e) arc
      | inr high ↦ at_far l p x u laid timed state.merging.first.walking (let e : far l x ≡ u = omega (arith, state.least) in e) arc
    ] in
    record {
      small = omega (arith, f.0, laid.sizes Trans);
      range = f.0;
      live = f.1;
      live_first = ap (λ xs. (spot_at xs p).removed_at) state.kept.places ∙ can.live_first;
      live_second = ap (λ xs. (spot_at xs q).removed_at) state.kept.places ∙ can.live_second;
      sums = λ way. omega (arith, state.others way p u (λ e. absurd (omega (arith, can.first))), state.others way q u (λ e. absurd (omega (arith, can.second))), can.sums way u (omega (arith, f.0, ap length state.kept.trans)) (sym (state.appended.same Trans u) ∙ f.1));
    }

-- what stands at the cells x and y is what the places have at u together, and fits 32 bits
pub shares_here : (l0 l : Layout) (p q t u x y : ℕ) (way : Way) → IsLaid l → IsTimed l → CanMerge l0 p q t → IsOnTheWay l0 l p q t (length l0.places - 1) u x y → u ≢ none → (share_at l way x u + share_at l way y u ≡ weight l.cells way p u + weight l.cells way q u) × (share_at l way x u + share_at l way y u < 2 ^ 32)
shares_here l0 l p q t u x y way laid timed can state arc =
    let work = at_work l0 l p q t u x y laid timed can state arc in
    let first = row_here l p u x way laid work.small work.live state.merging.first in
    let second = row_here l q u y way laid work.small work.live state.merging.second in
    (omega (arith, first, second), omega (arith, first, second, work.sums way))

-- the weights at u that the new place gets
weight_there : (l0 l : Layout) (p q t u x y : ℕ) (way : Way) → CanMerge l0 p q t → IsOnTheWay l0 l p q t (length l0.places - 1) u x y → IsTimed l0 → removed_at l Trans u ≡ none → u ≢ t → merged_weight l0 t p q way u ≡ weight l.cells way p u + weight l.cells way q u
weight_there l0 l p q t u x y way can state timed live ne =
    let on : leb (length l0.removals) (removed_at l0 Trans u) ≡ true = le-leb (length l0.removals) (removed_at l0 Trans u) (omega (arith, state.appended.same Trans u, timed.room, timed.small)) in
    ap (λ z. cond z 0 (weight_at l0 (length l0.removals) way u p + weight_at l0 (length l0.removals) way u q)) (ne_eqb u t ne)
    ∙ ap (λ z. cond z (weight l0.cells way p u) 0 + cond z (weight l0.cells way q u) 0) on
    ∙ omega (arith, state.others way p u (λ e. absurd (omega (arith, can.first))), state.others way q u (λ e. absurd (omega (arith, can.second))))

-- the arcs so far, and the one at u
arcs_there : (l0 l : Layout) (p q t u x y : ℕ) → CanMerge l0 p q t → IsOnTheWay l0 l p q t (length l0.places - 1) u x y → IsTimed l0 → removed_at l Trans u ≡ none → merged_arcs l0 t p q u + cond (eqb u t) 0 (min 1 (weight l.cells Take p u + weight l.cells Take q u + (weight l.cells Give p u + weight l.cells Give q u))) ≤ merged_arcs l0 t p q (u + 1)
arcs_there l0 l p q t u x y can state timed live =
    let more = arcs_more (merged_weight l0 t p q Take) (merged_weight l0 t p q Give) u in
    elim (cases_eq u t) [
      | inl e ↦ rw (eq-eqb u t e) (omega (arith, more))
      | inr ne ↦ rw (ne_eqb u t ne) (omega (arith, more, weight_there l0 l p q t u x y Take can state timed live ne, weight_there l0 l p q t u x y Give can state timed live ne))
    ]

-- the weights at u may be put
pub allowed : (l0 l : Layout) (p q t u x y w : ℕ) → IsTimed l0 → IsLaid l → IsTimed l → CanMerge l0 p q t → IsOnTheWay l0 l p q t (length l0.places - 1) u x y → u ≢ none → w ≡ weight l.cells Take p u + weight l.cells Take q u + (weight l.cells Give p u + weight l.cells Give q u) → IsPutAllowed l t u w
allowed l0 l p q t u x y w timed0 laid timed can state arc is =
    let work = at_work l0 l p q t u x y laid timed can state arc in
    let long = ap length state.kept.places in
    let e : length l.places - 1 ≡ length l0.places - 1 = omega arith in
    record {
      arena = record { laid = laid; timed = timed };
      place = omega (arith, can.last);
      live_place = ap (removed_at l Place) e ∙ ap (λ xs. (spot_at xs (length l0.places - 1)).removed_at) state.kept.places ∙ can.live_last;
      trans = work.range;
      live_trans = work.live;
      after = let P : ℕ → Type 0 = λ n. IsPastAll l n u in subst P (sym e) state.merging.past;
      room = λ ne some.
          let there = arcs_there l0 l p q t u x y can state timed0 work.live in
          let one : cond (eqb u t) 0 (min 1 (weight l.cells Take p u + weight l.cells Take q u + (weight l.cells Give p u + weight l.cells Give q u))) ≡ 1 = ap (λ z. cond z 0 (min 1 (weight l.cells Take p u + weight l.cells Take q u + (weight l.cells Give p u + weight l.cells Give q u)))) (ne_eqb u t ne) ∙ omega arith in
          let trans = ap length state.kept.trans in
          omega (arith, state.room, ap (merged_arcs l0 t p q) (let z : min u (length l0.trans) ≡ u = omega (arith, work.range) in z), there, one, arcs_up (merged_weight l0 t p q Take) (merged_weight l0 t p q Give) (u + 1) (length l0.trans) (omega (arith, work.range)), can.room, ap (λ r. r.cells) state.kept.rooms);
    }

-- one turn of the loop
merge_on : (l0 l l' : Layout) (p q t u x y x' y' u' : ℕ) (w : Way → ℕ) → IsTimed l0 → IsLaid l → IsTimed l → CanMerge l0 p q t → IsOnTheWay l0 l p q t (length l0.places - 1) u x y → u ≢ none → IsStep l u x x' → IsStep l u y y' → ((way : Way) → w way ≡ weight l.cells way p u + weight l.cells way q u) → IsPut l l' t (length l.places - 1) u w → KeepsAllButCells l l' → IsAppended t (length l.places - 1) l l' → IsArena l' → length l'.cells ≤ length l.cells + cond (eqb u t) 0 (min 1 (w Take + w Give)) → u' ≡ min (far l' x') (far l' y') → IsOnTheWay l0 l' p q t (length l0.places - 1) u' x' y' × (u < u') × (x' < length l'.cells) × (y' < length l'.cells)
merge_on l0 l l' p q t u x y x' y' u' w timed0 laid timed can state arc step_x step_y sums put0 kept appended arena' few least =
    let work = at_work l0 l p q t u x y laid timed can state arc in
    let long = ap length state.kept.places in
    let e : length l.places - 1 ≡ length l0.places - 1 = omega arith in
    let put : IsPut l l' t (length l0.places - 1) u w = let P : ℕ → Type 0 = λ n. IsPut l l' t n u w in subst P e put0 in
    let sx = row_step l p u x x' laid timed (omega (arith, laid.sizes Place, can.first)) work.live_first work.small state.merging.first step_x in
    let sy = row_step l q u y y' laid timed (omega (arith, laid.sizes Place, can.second)) work.live_second work.small state.merging.second step_y in
    let ex = put.ends p x' sx.walking in
    let ey = put.ends q y' sy.walking in
    let more : u < u' = omega (arith, sx.ahead, sy.ahead) in (
      record {
        arena = arena';
        merging = let P : ℕ → Type 0 = λ u. IsMerging l' p q t (length l0.places - 1) u x' y' in
            subst P (let z : min (far l x') (far l y') ≡ u' = omega arith in z)
            (merge_step l l' p q t (length l0.places - 1) u x y x' y' w (λ z. absurd (omega (arith, can.first))) (λ z. absurd (omega (arith, can.second))) work.small work.live state.merging sx sy sums put);
        least = least;
        kept = record { places = kept.places ∙ state.kept.places; trans = kept.trans ∙ state.kept.trans; removals = kept.removals ∙ state.kept.removals; rooms = kept.rooms ∙ state.kept.rooms };
        others = λ way r v ne. put.others way r v ne ∙ state.others way r v ne;
        appended = appended_trans t (length l0.places - 1) l0 l l' state.appended (let P : ℕ → Type 0 = λ n. IsAppended t n l l' in subst P e appended);
        room = omega (
          arith,
          few,
          ap (λ m. cond (eqb u t) 0 (min 1 m)) (let z : w Take + w Give ≡ weight l.cells Take p u + weight l.cells Take q u + (weight l.cells Give p u + weight l.cells Give q u) = omega (arith, sums Take, sums Give) in z),
          state.room,
          ap (merged_arcs l0 t p q) (let z : min u (length l0.trans) ≡ u = omega (arith, work.range, ap length state.kept.trans) in z),
          arcs_there l0 l p q t u x y can state timed0 work.live,
          arcs_up (merged_weight l0 t p q Take) (merged_weight l0 t p q Give) (u + 1) (min u' (length l0.trans)) (omega (arith, more, work.range, ap length state.kept.trans)),
        );
      },
      more,
      omega (arith, (put.walking p x' sx.walking).live.below, depth_now l'),
      omega (arith, (put.walking q y' sy.walking).live.below, depth_now l'),
    )

-- one turn of the loop, with what stands at the cells x and y
pub merge_turn : (l0 l l' : Layout) (p q t u x y x' y' u' take give : ℕ) → IsTimed l0 → IsLaid l → IsTimed l → CanMerge l0 p q t → IsOnTheWay l0 l p q t (length l0.places - 1) u x y → u ≢ none → IsStep l u x x' → IsStep l u y y' → take ≡ share_at l Take x u + share_at l Take y u → give ≡ share_at l Give x u + share_at l Give y u → IsPut l l' t (length l.places - 1) u (λ b. cell_weight b (record { place = length l.places - 1; trans = u; take = take; give = give })) → KeepsAllButCells l l' → IsAppended t (length l.places - 1) l l' → IsArena l' → length l'.cells ≤ length l.cells + cond (eqb u t) 0 (min 1 (take + give)) → u' ≡ min (far l' x') (far l' y') → IsOnTheWay l0 l' p q t (length l0.places - 1) u' x' y' × (u < u') × (x' < length l'.cells) × (y' < length l'.cells)
merge_turn l0 l l' p q t u x y x' y' u' take give timed0 laid timed can state arc step_x step_y taken given put kept appended arena' few least =
    let a : Cell = record { place = length l.places - 1; trans = u; take = take; give = give } in
    let sums : (b : Way) → cell_weight b a ≡ weight l.cells b p u + weight l.cells b q u = λ b. elim b as (λ b. cell_weight b a ≡ weight l.cells b p u + weight l.cells b q u) [
      | Take ↦ taken ∙ (shares_here l0 l p q t u x y Take laid timed can state arc).0
      | Give ↦ given ∙ (shares_here l0 l p q t u x y Give laid timed can state arc).0
    ] in
    merge_on l0 l l' p q t u x y x' y' u' (λ b. cell_weight b a) timed0 laid timed can state arc step_x step_y sums put kept appended arena' few least

-- after the last turn the arcs are merged
pub merge_ends : (l0 l : Layout) (p q t u x y : ℕ) → IsLaid l0 → CanMerge l0 p q t → IsOnTheWay l0 l p q t (length l0.places - 1) u x y → u ≡ none → IsMerged l0 l p q t (length l0.places - 1)
merge_ends l0 l p q t u x y laid can state end =
    let all : min u (length l0.trans) ≡ length l0.trans = omega (arith, laid.sizes Trans) in
    record {
      arena = state.arena;
      kept = state.kept;
      others = state.others;
      sums = λ way v small live.
          state.merging.done way v small (state.appended.same Trans v ∙ live) (omega (arith, small, end))
          ∙ ap (cond (eqb v t) 0) (let z : weight l.cells way p v + weight l.cells way q v ≡ weight l0.cells way p v + weight l0.cells way q v =
          omega (arith, state.others way p v (λ e. absurd (omega (arith, can.first))), state.others way q v (λ e. absurd (omega (arith, can.second)))) in z);
      appended = state.appended;
      few = omega (arith, state.room, ap (merged_arcs l0 t p q) all);
    }
