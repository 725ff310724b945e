-- Places that are made for pairs, one after the other.
use Rattle.std.proofs.Common.{◌≡◌, ◌<◌, ◌≤◌, ◌+◌, ◌-◌, ◌++◌, ◌∷◌, [], ℕ, suc, List, cond, length, leb, eqb, subst, sym, ap, ◌∙◌, refl, inl, inr, arith}
use Rattle.std.specs.List.{sum_by}
use Rattle.std.proofs.lemmas.Bool.{cases_lt, cases_eq}
use Rattle.std.proofs.lemmas.List.{length-append, get_or_append_left, get_or-append_right, get_or_past}
use Rattle.std.proofs.lemmas.List.Sums.{sum_by-append, sum_by-cons}
use Rattle.stg_arena.specs.declared.end.Way.{Way}
use Rattle.stg_arena.specs.declared.end.End.TheVariants.{Place, Trans}
use Rattle.stg_arena.specs.declared.cell.Spot.{Spot}
use Rattle.stg_arena.specs.ArenaView.{Layout, none, no_spot, cell_at, spot_at, removed_at, head_cell, IsLaid, IsTimed, IsPushedPlace, IsArena}
use Rattle.stg_arena.specs.Incidence.{weight}
use Rattle.stg_arena.specs.WalkItems.{weighted}
use Rattle.stg_arena.specs.Appends.{IsAppended}
use Rattle.stg_arena.proofs.LayoutAppend.{push_length, push_old, push_new}
use Rattle.stg_arena.proofs.Incidence.{weighted_same}
use Rattle.stg_arena.proofs.Extends.{extended_weight}
use Rattle.stg_arena.proofs.Appends.{appended_refl, appended_trans, appended_lower, appended_place}
use Rattle.stg_edit.specs.inner.DraftAt.{weight_at}
use Rattle.stg_edit.specs.inner.RowMerge.{merged_weight, merged_arcs, CanMerge, IsMerged}
use Rattle.stg_edit.specs.inner.NewPlaces.{pair_at, pair_arcs, IsPairFit, CanMake, IsMadeOf, IsMade}
use Rattle.stg_arena.specs.declared.end.Way.TheVariants.{Take, Give}

-- no place is made for no pair
pub made_nil : (t : ℕ) (l : Layout) → IsArena l → IsMade t [] l l
made_nil t l arena = record { arena = arena; appended = appended_refl t (length l.places) l; places = omega arith; each = λ k h. absurd (omega arith); cells = omega arith }

-- sums of equal numbers
pub sum_same : (f h : ℕ × ℕ → ℕ) (ps : List (ℕ × ℕ)) → ((k : ℕ) → k < length ps → f (pair_at ps k) ≡ h (pair_at ps k)) → sum_by f ps ≡ sum_by h ps
sum_same f h [] same = refl
sum_same f h (x ∷ ps) same = sum_by-cons f x ps ∙ (λ i. same 0 (omega arith) i + sum_same f h ps (λ k d. same (suc k) (omega arith)) i) ∙ sym (sum_by-cons h x ps)

-- a place of l is merged in l' as in l
module _ (t n : ℕ) (l l' : Layout) (g : IsAppended t n l l') where
  weight_at_same : (way : Way) (v p : ℕ) → p < n → weight_at l' (length l'.removals) way v p ≡ weight_at l (length l.removals) way v p
  weight_at_same way v p h =
      (λ i. cond (leb (length (g.removals i)) (g.same Trans v i)) (weight l'.cells way p v) 0)
      ∙ ap (λ w. cond (leb (length l.removals) (removed_at l Trans v)) w 0) (extended_weight n l l' way p v g.later h)

  -- a pair has as many arcs as before
  pub merged_same : (p q : ℕ) → p < n → q < n → merged_arcs l' t p q (length l'.trans) ≡ merged_arcs l t p q (length l.trans)
  merged_same p q hp hq =
      let one : (way : Way) → weighted (length l'.trans) (merged_weight l' t p q way) ≡ weighted (length l.trans) (merged_weight l t p q way) =
      λ way. weighted_same (length l'.trans) (length l.trans) (merged_weight l' t p q way) (merged_weight l t p q way) g.later.trans
      (λ v h. λ i. cond (eqb v t) 0 (weight_at_same way v p hp i + weight_at_same way v q hq i)) in
      λ i. length (one Take i) + length (one Give i)

  -- a pair fits as before
  pub fit_same : (x : ℕ × ℕ) → x.0 < n → x.1 < n → n ≤ length l.places → IsPairFit l x → IsPairFit l' x
  fit_same x hp hq low f = record {
    first = omega (arith, g.later.places);
    second = omega (arith, g.later.places);
    live_first = g.same Place x.0 ∙ f.live_first;
    live_second = g.same Place x.1 ∙ f.live_second;
    tokens = omega (arith, g.later.tokens x.0 hp, g.later.tokens x.1 hq, f.tokens);
    sums = λ way v inside live. omega (arith, extended_weight n l l' way x.0 v g.later hp, extended_weight n l l' way x.1 v g.later hq, f.sums way v (omega (arith, g.later.trans)) (sym (g.same Trans v) ∙ live));
  }

-- the pairs of the rest
pair_right : (ps qs : List (ℕ × ℕ)) (k : ℕ) → pair_at (ps ++ qs) (length ps + k) ≡ pair_at qs k
pair_right ps qs k = get_or-append_right ps qs (length ps) (length ps + k) (0, 0) refl (omega arith) ∙ ap (pair_at qs) (let e : length ps + k - length ps ≡ k = omega arith in e)

-- the first pairs fit
pub can_first : (t : ℕ) (ps qs : List (ℕ × ℕ)) (l : Layout) → CanMake t (ps ++ qs) l → CanMake t ps l
can_first t ps qs l c = record {
  arena = c.arena;
  fit = λ k h. let P : ℕ × ℕ → Type 0 = IsPairFit l in subst P (get_or_append_left ps qs (0, 0) k h) (c.fit k (omega (arith, length-append ps qs)));
  places = omega (arith, c.places, length-append ps qs);
  cells = omega (arith, c.cells, length-append ps qs, sum_by-append (pair_arcs l t) ps qs);
}

can_fit : (t : ℕ) (ps qs : List (ℕ × ℕ)) (l : Layout) → CanMake t (ps ++ qs) l → (k : ℕ) → k < length qs → IsPairFit l (pair_at qs k)
can_fit t ps qs l c k h = let P : ℕ × ℕ → Type 0 = IsPairFit l in subst P (pair_right ps qs k) (c.fit (length ps + k) (omega (arith, length-append ps qs)))

-- the other pairs fit once the first have their places
pub can_rest : (t : ℕ) (ps qs : List (ℕ × ℕ)) (l l' : Layout) → CanMake t (ps ++ qs) l → IsMade t ps l l' → CanMake t qs l'
can_rest t ps qs l l' c m =
    let same = sum_same (pair_arcs l' t) (pair_arcs l t) qs (λ k h. let f = can_fit t ps qs l c k h in merged_same t (length l.places) l l' m.appended (pair_at qs k).0 (pair_at qs k).1 f.first f.second) in
    record {
      arena = m.arena;
      fit = λ k h. let f = can_fit t ps qs l c k h in fit_same t (length l.places) l l' m.appended (pair_at qs k) f.first f.second (omega arith) f;
      places = omega (arith, c.places, m.places, length-append ps qs, ap (λ r. r.places) m.appended.later.rooms);
      cells = omega (arith, c.cells, m.cells, length-append ps qs, sum_by-append (pair_arcs l t) ps qs, same, ap (λ r. r.cells) m.appended.later.rooms);
    }

-- places are made for the first pairs and then for the others
pub made_append : (t : ℕ) (ps qs : List (ℕ × ℕ)) (l l' l'' : Layout) → CanMake t (ps ++ qs) l → IsMade t ps l l' → IsMade t qs l' l'' → IsMade t (ps ++ qs) l l''
made_append t ps qs l l' l'' c m m' =
    let same = sum_same (pair_arcs l' t) (pair_arcs l t) qs (λ k h. let f = can_fit t ps qs l c k h in merged_same t (length l.places) l l' m.appended (pair_at qs k).0 (pair_at qs k).1 f.first f.second) in
    record {
      arena = m'.arena;
      appended = appended_trans t (length l.places) l l' l'' m.appended (appended_lower t (length l'.places) (length l.places) l' l'' (omega (arith, m.places)) m'.appended);
      places = omega (arith, m.places, m'.places, length-append ps qs);
      each = λ k h. elim (cases_lt k (length ps)) [
        | inl low ↦ let P : ℕ × ℕ → Type 0 = IsMadeOf t l l'' (length l.places + k) in subst P (sym (get_or_append_left ps qs (0, 0) k low)) (early k low)
        | inr high ↦
            let r : k - length ps < length qs = omega (arith, length-append ps qs) in
            let P : ℕ → Type 0 = λ k. IsMadeOf t l l'' (length l.places + k) (pair_at (ps ++ qs) k) in
            let Q : ℕ × ℕ → Type 0 = IsMadeOf t l l'' (length l.places + (length ps + (k - length ps))) in
            subst P (let e : length ps + (k - length ps) ≡ k = omega arith in e) (subst Q (sym (pair_right ps qs (k - length ps))) (late (k - length ps) r))
      ];
      cells = omega (arith, m.cells, m'.cells, length-append ps qs, sum_by-append (pair_arcs l t) ps qs, same);
    }
  where
    early : (k : ℕ) → k < length ps → IsMadeOf t l l'' (length l.places + k) (pair_at ps k)
    early k low =
        let e = m.each k low in
        let below : length l.places + k < length l'.places = omega (arith, m.places) in
        record {
          tokens = m'.appended.later.tokens (length l.places + k) below ∙ e.tokens;
          sums = λ way v small live. extended_weight (length l'.places) l' l'' way (length l.places + k) v m'.appended.later below ∙ e.sums way v small live;
        }

    late : (k : ℕ) → k < length qs → IsMadeOf t l l'' (length l.places + (length ps + k)) (pair_at qs k)
    late k h =
        let e = m'.each k h in
        let f = can_fit t ps qs l c k h in
        let x = pair_at qs k in
        let at : length l.places + (length ps + k) ≡ length l'.places + k = omega (arith, m.places) in
        record {
          tokens = ap (λ r. (spot_at l''.places r).tokens) at ∙ e.tokens ∙ (λ i. m.appended.later.tokens x.0 f.first i + m.appended.later.tokens x.1 f.second i);
          sums = λ way v small live.
              ap (λ r. weight l''.cells way r v) at ∙ e.sums way v small (m.appended.same Trans v ∙ live)
              ∙ (λ i. cond (eqb v t) 0 (extended_weight (length l.places) l l' way x.0 v m.appended.later f.first i + extended_weight (length l.places) l l' way x.1 v m.appended.later f.second i));
        }

-- one place
pub can_merge : (t : ℕ) (x : ℕ × ℕ) (l l' : Layout) (s : Spot) → t < none → IsTimed l → IsLaid l → CanMake t (x ∷ []) l → IsPushedPlace s l l' → IsArena l' → CanMerge l' x.0 x.1 t
can_merge t x l l' s small timed laid c q arena =
    let f = c.fit 0 (omega arith) in
    let g = appended_place t (length l.places) s l l' timed laid q (omega arith) small in
    let more : length l'.places ≡ length l.places + 1 = ap length q.places ∙ length-append l.places (s ∷ []) ∙ omega arith in
    let last : length l'.places - 1 ≡ length l.places = omega arith in
    record {
      arena = arena;
      last = omega arith;
      live_last = ap (removed_at l' Place) last ∙ q.pushed.same Place (length l.places) ∙ ap (λ x. x.removed_at) (get_or_past l.places (length l.places) no_spot (omega arith));
      first = omega (arith, f.first);
      second = omega (arith, f.second);
      live_first = q.pushed.same Place x.0 ∙ f.live_first;
      live_second = q.pushed.same Place x.1 ∙ f.live_second;
      no_arcs = λ c h e. elim (cases_eq c (length l.cells)) [
        | inl z ↦ ap (λ c. (cell_at l'.cells c).trans) z ∙ ap (λ x. x.trans) (push_new (head_cell l) l l' q.pushed)
        | inr z ↦
            let old : c < length l.cells = omega (arith, push_length (head_cell l) l l' q.pushed) in
            let o = ap (λ x. x.place) (push_old (head_cell l) l l' c q.pushed old) in
            elim (laid.bounded Place c old) [ inl y ↦ absurd (omega (arith, o, e, last, laid.places, laid.most_places)) | inr y ↦ absurd (omega (arith, o, e, last)) ]
      ];
      room = omega (arith, push_length (head_cell l) l l' q.pushed, merged_same t (length l.places) l l' g x.0 x.1 f.first f.second, c.cells, sum_by-cons (pair_arcs l t) x [], ap (λ r. r.cells) q.pushed.rooms);
      sums = λ way v inside live. omega (arith, extended_weight (length l.places) l l' way x.0 v g.later f.first, extended_weight (length l.places) l l' way x.1 v g.later f.second, f.sums way v (omega (arith, ap length q.trans)) (sym (q.pushed.same Trans v) ∙ live));
    }

-- one place is made
pub made_one : (t : ℕ) (x : ℕ × ℕ) (l l' l'' : Layout) (s : Spot) → t < none → IsTimed l → IsLaid l → CanMake t (x ∷ []) l → IsPushedPlace s l l' → s.tokens ≡ (spot_at l.places x.0).tokens + (spot_at l.places x.1).tokens → IsMerged l' l'' x.0 x.1 t (length l'.places - 1) → IsMade t (x ∷ []) l l''
made_one t x l l' l'' s small timed laid c q tokens j =
    let f = c.fit 0 (omega arith) in
    let g = appended_place t (length l.places) s l l' timed laid q (omega arith) small in
    record {
      arena = j.arena;
      appended = appended_trans t (length l.places) l l' l'' g (appended_lower t (length l'.places - 1) (length l.places) l' l'' (omega (arith, more)) j.appended);
      places = omega (arith, ap length j.kept.places, more);
      each = λ k h. let P : ℕ → Type 0 = λ k. IsMadeOf t l l'' (length l.places + k) (pair_at (x ∷ []) k) in
          subst P (let e : 0 ≡ k = omega arith in e) (here g f);
      cells = omega (arith, j.few, merged_same t (length l.places) l l' g x.0 x.1 f.first f.second, push_length (head_cell l) l l' q.pushed, sum_by-cons (pair_arcs l t) x []);
    }
  where
    more : length l'.places ≡ length l.places + 1
    more = ap length q.places ∙ length-append l.places (s ∷ []) ∙ omega arith

    spot : spot_at l''.places (length l.places) ≡ s
    spot = ap (λ xs. spot_at xs (length l.places)) (j.kept.places ∙ q.places)
        ∙ get_or-append_right l.places (s ∷ []) (length l.places) (length l.places) no_spot refl (omega arith)
        ∙ ap (spot_at (s ∷ [])) (let z : length l.places - length l.places ≡ 0 = omega arith in z)

    here : IsAppended t (length l.places) l l' → IsPairFit l x → IsMadeOf t l l'' (length l.places + 0) x
    here g f = let P : ℕ → Type 0 = λ n. IsMadeOf t l l'' n x in
        subst P (let e : length l.places ≡ length l.places + 0 = omega arith in e) (record {
          tokens = ap (λ s. s.tokens) spot ∙ tokens;
          sums = λ way v v_small live.
              ap (λ r. weight l''.cells way r v) (let e : length l.places ≡ length l'.places - 1 = omega (arith, more) in e)
              ∙ j.sums way v v_small (q.pushed.same Trans v ∙ live)
              ∙ (λ i. cond (eqb v t) 0 (extended_weight (length l.places) l l' way x.0 v g.later f.first i + extended_weight (length l.places) l l' way x.1 v g.later f.second i));
        })
