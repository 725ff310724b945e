-- What is counted of an arena is what the draft has.
use Rattle.std.proofs.Common.{◌≡◌, ◌<◌, ◌≤◌, ◌+◌, ◌-◌, ◌*◌, ◌||◌, ◌++◌, ◌∷◌, [], get_or, ℕ, cond, List, map, length, sum_by, is_some, ltb, leb, refl, sym, subst, ap, ◌∙◌, inl, inr, arith}
use Rattle.std.specs.List.{range_with_len}
use Rattle.std.proofs.lemmas.Bool.{cases_Bool}
use Rattle.std.proofs.lemmas.List.{map-append, length-map, length-append, same_lists, get_or_append_left, get_or-append_right}
use Rattle.std.proofs.lemmas.List.FromFn.{length-range_with_len, length-map-range_with_len}
use Rattle.std.proofs.lemmas.List.Sums.{sum_by-cons, length-filter, count_by-le-length}
use Rattle.stg_net.specs.declared.limits.TheConstants.Limits.{PART}
use Rattle.stg_net.specs.Graph.{Graph, IsPlace, place_at, place_numbers, takes, gives}
use Rattle.stg_net.specs.Contraction.{is_touched, contracted}
use Rattle.stg_arena.specs.declared.end.End.{End}
use Rattle.stg_arena.specs.declared.end.Way.{Way}
use Rattle.stg_arena.specs.declared.end.End.TheVariants.{Place, Trans}
use Rattle.stg_arena.specs.declared.end.Way.TheVariants.{Take, Give}
use Rattle.stg_arena.specs.Incidence.{weight_along, weight}
use Rattle.stg_arena.specs.ArenaView.{Layout, none, removed_at, IsTimed, IsRemoved}
use Rattle.stg_arena.proofs.RemovalTimes.{removals_length, alive}
use Rattle.stg_edit.specs.declared.editor.Editor.TheInside.{Inside}
use Rattle.stg_edit.specs.declared.size.Size.{Size}
use Rattle.stg_edit.specs.Counted.{live_places, count_arcs_at, count_arcs}
use Rattle.stg_edit.specs.inner.DraftAt.{Base, table_at, draft_name, draft_at, now_of, past_of}
use Rattle.stg_edit.specs.Editing.{Editing}
use Rattle.stg_edit.specs.inner.Nodes.{IsNode, without_node}
use Rattle.stg_edit.specs.Replacing.{new_places}
use Rattle.stg_edit.specs.inner.Sizes.{size_of, IsSized, plus, minus, arcs_of_node, size_at, size_from, is_round, round_below, size_round}
use Rattle.stg_edit.specs.inner.Table.{table_place}
use Rattle.stg_edit.specs.inner.View.{base, IsEditor}
use Rattle.stg_edit.specs.Walks.{taken_places, given_places}
use Rattle.stg_edit.proofs.DraftWalks.{weight_in, weight_now, along_place, along_trans}
use Rattle.stg_edit.proofs.Counted.{weighted_few}
use Rattle.stg_edit.proofs.DraftChanges.{place_lives, trans_lives, draft_without}
use Rattle.stg_edit.proofs.DraftOfLive.{is_place_now}
use Rattle.stg_edit.proofs.Replacing.{IsReplaced}
use Rattle.stg_edit.proofs.SizeLoops.{arcs_few, sum_few}
use Rattle.stg_edit.proofs.PlaceSums.{sum_range, sum_filter, count_filter, arcs_sum, touched_places, touched_live, new_live, size_without_place, size_without_trans, size_contracted}

-- the draft now is the one before without the node that was removed
pub now_without : (b : End) (base : Base) (k : ℕ) (l l' : Layout) → IsRemoved b k l l' → IsTimed l → now_of base l' ≡ without_node b (now_of base l) k
now_without b base k l l' g timed =
    ap (λ s. draft_at base l' s (length l'.places)) (removals_length b k l l' g)
    ∙ ap (draft_at base l' (length l.removals + 1)) (g.as_many Place)
    ∙ draft_without b base k l l' (length l.places) g timed

-- what is left, where both are known together
pub minus_plus : (a less all : Size) → plus a less ≡ all → minus all less ≡ a
minus_plus a less all e =
    let places : all.places - less.places ≡ a.places = omega (arith, ap (λ (s : Size). s.places) e) in
    let arcs : all.arcs - less.arcs ≡ a.arcs = omega (arith, ap (λ (s : Size). s.arcs) e) in
    λ i. record { places = places i; arcs = arcs i }

-- a draft with few transitions has few arcs
pub arcs_bounded : (g : Graph) → length g.trans ≤ PART.trans → count_arcs g ≤ 2000 * length g.places
arcs_bounded g few =
    let most : PART.trans ≡ 1000 = refl in
    omega (
      arith,
      arcs_sum g,
      sum_few (count_arcs_at g) (place_numbers g) (λ p. omega (arith, few, most, weighted_few (length g.trans) (λ t. takes g t p), weighted_few (length g.trans) (λ t. gives g t p))),
      length-range_with_len 0 (length g.places),
    )

-- no more places are live than there are
pub places_bounded : (g : Graph) → length (live_places g) ≤ length g.places
places_bounded g = omega (
  arith,
  length-filter (λ p. is_some (place_at g p)) (place_numbers g),
  count_by-le-length (λ p. is_some (place_at g p)) (place_numbers g),
  length-range_with_len 0 (length g.places),
)

ones : (xs : List ℕ) → sum_by (λ p. 1) xs ≡ length xs
ones [] = refl
ones (x ∷ xs) = omega (arith, sum_by-cons (λ p. 1) x xs, ones xs)

module _ (base : Base) (l : Layout) (timed : IsTimed l) where
  places_long : length (now_of base l).places ≡ length l.places
  places_long = length-map-range_with_len (table_place (length l.trans) (table_at l (length l.removals))) 0 (length l.places)

  -- the arcs at a live place
  place_arcs_now : (p : ℕ) → p < length l.places → removed_at l Place p ≡ none → arcs_of_node l Place p ≡ count_arcs_at (now_of base l) p
  place_arcs_now p inside live = λ i. length (along_place base l Take p timed inside live i) + length (along_place base l Give p timed inside live i)

  -- the arcs at a live transition
  trans_arcs_now : (t : ℕ) → t < length l.trans → removed_at l Trans t ≡ none → arcs_of_node l Trans t ≡ length (taken_places (now_of base l) t) + length (given_places (now_of base l) t)
  trans_arcs_now t inside live = λ i. length (along_trans base l Take t timed inside live i) + length (along_trans base l Give t timed inside live i)

  -- what the draft has without a live node, and what is removed with it
  pub size_deleted : (b : End) (k : ℕ) → IsNode b (now_of base l) k → plus (size_of (without_node b (now_of base l) k)) (size_at l b k) ≡ size_of (now_of base l)
  size_deleted Place p live =
      let at = place_lives base p l timed live in
      let less = size_without_place (now_of base l) p live in
      let arcs : count_arcs (without_node Place (now_of base l) p) + arcs_of_node l Place p ≡ count_arcs (now_of base l) = omega (arith, less.1, place_arcs_now p at.0 at.1) in
      λ i. record { places = less.0 i; arcs = arcs i }
  size_deleted Trans t live =
      let at = trans_lives base t l timed live in
      let less = size_without_trans (now_of base l) t live in
      let places : length (live_places (without_node Trans (now_of base l) t)) + 0 ≡ length (live_places (now_of base l)) = omega (arith, less.0) in
      let arcs : count_arcs (without_node Trans (now_of base l) t) + arcs_of_node l Trans t ≡ count_arcs (now_of base l) = omega (arith, less.1, trans_arcs_now t at.0 at.1) in
      λ i. record { places = places i; arcs = arcs i }

  -- live places from a number on have their arcs
  pub arcs_from : (first n : ℕ) → ((p : ℕ) → first ≤ p → p < first + n → (p < length l.places) × (removed_at l Place p ≡ none)) → sum_by (arcs_of_node l Place) (range_with_len first n) ≡ sum_by (count_arcs_at (now_of base l)) (range_with_len first n)
  arcs_from first n live = sum_range (arcs_of_node l Place) (count_arcs_at (now_of base l)) n first (λ p low high. place_arcs_now p (live p low high).0 (live p low high).1)

  -- a draft of which all places are live
  pub size_whole : ((p : ℕ) → p < length l.places → removed_at l Place p ≡ none) → size_from l 0 ≡ size_of (now_of base l)
  size_whole live = λ i. record { places = places i; arcs = arcs i }
    where
      n : length l.places - 0 ≡ length (now_of base l).places
      n = omega (arith, places_long)

      one : (p : ℕ) → p < length (now_of base l).places → ◌≡◌ {A = ℕ} (cond (is_some (place_at (now_of base l) p)) 1 0) 1
      one p inside = let low : p < length l.places = omega (arith, places_long) in ap {B = ℕ} (λ z. cond z 1 0) (is_place_now base l p timed (low, live p low))

      places : length l.places - 0 ≡ length (live_places (now_of base l))
      places = omega (
        arith,
        n,
        count_filter (λ p. is_some (place_at (now_of base l) p)) (place_numbers (now_of base l)),
        sum_range (λ p. cond (is_some (place_at (now_of base l) p)) 1 0) (λ p. 1) (length (now_of base l).places) 0 (λ p low high. one p (omega (arith, high))),
        ones (place_numbers (now_of base l)),
        length-range_with_len 0 (length (now_of base l).places),
      )

      arcs : sum_by (arcs_of_node l Place) (range_with_len 0 (length l.places - 0)) ≡ count_arcs (now_of base l)
      arcs =
          arcs_from 0 (length l.places - 0) (λ p low high. let inside : p < length l.places = omega (arith, high) in (inside, live p inside))
          ∙ ap (λ k. sum_by (count_arcs_at (now_of base l)) (range_with_len 0 k)) n
          ∙ sym (arcs_sum (now_of base l))

  -- the places round a live transition are those of the draft
  pub size_touched : (t : ℕ) → t < length l.trans → removed_at l Trans t ≡ none → size_round l t ≡ record { places = length (touched_places (now_of base l) t); arcs = sum_by (count_arcs_at (now_of base l)) (touched_places (now_of base l) t) }
  size_touched t range live = λ i. record { places = places i; arcs = arcs i }
    where
      n : ℕ
      n = length l.places

      along : (way : Way) (p : ℕ) → p < length l.places → weight_along l Trans way t p ≡ weight_in (now_of base l) way t p
      along way p inside = sym (weight_now base l way t p inside range ∙ ap (λ z. cond (leb (length l.removals) (removed_at l Place p)) (cond z (weight l.cells way p t) 0) 0) (alive l Trans t timed live))

      same : (p : ℕ) → p < length l.places → is_round l t p ≡ is_touched (now_of base l) t p
      same p inside = λ i. ltb 0 (along Take p inside i) || ltb 0 (along Give p inside i)

      each : (p : ℕ) → p < length l.places → cond (is_round l t p) (arcs_of_node l Place p) 0 ≡ cond (is_touched (now_of base l) t p) (count_arcs_at (now_of base l) p) 0
      each p inside = ap (λ z. cond z (arcs_of_node l Place p) 0) (same p inside) ∙ elim (cases_Bool (is_touched (now_of base l) t p)) [
        | inl round ↦
            let at = place_lives base p l timed (touched_live (now_of base l) t p round) in
            ap (λ k. cond (is_touched (now_of base l) t p) k 0) (place_arcs_now p at.0 at.1)
        | inr apart ↦ rw apart refl
      ]

      numbers : range_with_len 0 (length l.places) ≡ place_numbers (now_of base l)
      numbers = ap (range_with_len 0) (sym places_long)

      places : length (round_below l t (length l.places)) ≡ length (touched_places (now_of base l) t)
      places =
          count_filter (is_round l t) (range_with_len 0 (length l.places))
          ∙ sum_range (λ p. cond (is_round l t p) 1 0) (λ p. cond (is_touched (now_of base l) t p) 1 0) (length l.places) 0 (λ p low high. ap {B = ℕ} (λ z. cond z 1 0) (same p (omega (arith, high))))
          ∙ ap (sum_by (λ p. cond (is_touched (now_of base l) t p) 1 0)) numbers
          ∙ sym (count_filter (is_touched (now_of base l) t) (place_numbers (now_of base l)))

      arcs : sum_by (arcs_of_node l Place) (round_below l t (length l.places)) ≡ sum_by (count_arcs_at (now_of base l)) (touched_places (now_of base l) t)
      arcs =
          sum_filter (arcs_of_node l Place) (is_round l t) (range_with_len 0 (length l.places))
          ∙ sum_range (λ p. cond (is_round l t p) (arcs_of_node l Place p) 0) (λ p. cond (is_touched (now_of base l) t p) (count_arcs_at (now_of base l) p) 0) (length l.places) 0 (λ p low high. each p (omega (arith, high)))
          ∙ ap (sum_by (λ p. cond (is_touched (now_of base l) t p) (count_arcs_at (now_of base l) p) 0)) numbers
          ∙ sym (sum_filter (count_arcs_at (now_of base l)) (is_touched (now_of base l) t) (place_numbers (now_of base l)))

-- how the counts go on where t was contracted, from l to l'
pub record IsResized (base : Base) (t : ℕ) (l l' : Layout) : Type 0 where
  pub live : (p : ℕ) → length l.places ≤ p → p < length l'.places → removed_at l' Place p ≡ none
  pub whole : plus (size_of (now_of base l')) (size_round l t) ≡ plus (size_of (now_of base l)) (size_from l' (length l.places))
  pub few_places : length (live_places (now_of base l)) + (length l'.places - length l.places) ≤ length l'.places
  pub few_arcs : count_arcs (now_of base l) + (size_from l' (length l.places)).arcs ≤ 2000 * length l'.places

pub is_resized : (base : Base) (t : ℕ) (l l' : Layout) → IsTimed l → IsTimed l' → length l.trans ≤ PART.trans → t < length l.trans → removed_at l Trans t ≡ none → IsReplaced base t l l' → IsResized base t l l'
is_resized base t l l' timed timed' few range removed r = record {
  live = λ p low high. (lives p low high).1;
  whole = λ i. record { places = places i; arcs = arcs i };
  few_places = omega (arith, places_bounded (now_of base l), places_long base l timed, r.places);
  few_arcs = omega (
    arith,
    r.places,
    places_long base l timed,
    arcs_bounded (now_of base l) (omega (arith, few, length-map-range_with_len (draft_name l base.names (length l.removals)) 0 (length l.trans))),
    sum_few (arcs_of_node l' Place) (range_with_len (length l.places) (length l'.places - length l.places)) (λ p. arcs_few l' p (omega (arith, few, r.later.trans))),
    length-range_with_len (length l.places) (length l'.places - length l.places),
  );
}
  where
    new : length l'.places - length l.places ≡ new_places (now_of base l) t
    new = omega (arith, r.places)

    lives : (p : ℕ) → length l.places ≤ p → p < length l'.places → (p < length l'.places) × (removed_at l' Place p ≡ none)
    lives p low high =
        let P : Graph → Type 0 = λ g. IsPlace g p in
        place_lives base p l' timed' (subst P (sym r.now) (new_live (now_of base l) t p (omega (arith, low, places_long base l timed)) (omega (arith, high, r.places, places_long base l timed))))

    made : sum_by (arcs_of_node l' Place) (range_with_len (length l.places) (length l'.places - length l.places)) ≡ sum_by (count_arcs_at (contracted (now_of base l) t)) (range_with_len (length (now_of base l).places) (new_places (now_of base l) t))
    made =
        arcs_from base l' timed' (length l.places) (length l'.places - length l.places) (λ p low high. lives p low (omega (arith, high)))
        ∙ (λ i. sum_by (count_arcs_at (r.now i)) (range_with_len (sym (places_long base l timed) i) (new i)))

    places : length (live_places (now_of base l')) + length (round_below l t (length l.places)) ≡ length (live_places (now_of base l)) + (length l'.places - length l.places)
    places = omega (arith, ap (λ h. length (live_places h)) r.now, ap (λ (s : Size). s.places) (size_touched base l timed t range removed), (size_contracted (now_of base l) t).0, new)

    arcs : count_arcs (now_of base l') + sum_by (arcs_of_node l Place) (round_below l t (length l.places)) ≡ count_arcs (now_of base l) + sum_by (arcs_of_node l' Place) (range_with_len (length l.places) (length l'.places - length l.places))
    arcs = omega (arith, ap count_arcs r.now, ap (λ (s : Size). s.arcs) (size_touched base l timed t range removed), (size_contracted (now_of base l) t).1, made)

-- lists with an element behind that are the same
pub same_ends : {X : Type 0} (xs ys : List X) (x y : X) → xs ++ x ∷ [] ≡ ys ++ y ∷ [] → (xs ≡ ys) × (x ≡ y)
same_ends xs ys x y e =
    let long : length xs ≡ length ys = omega (arith, ap length e, length-append xs (x ∷ []), length-append ys (y ∷ [])) in (
      same_lists xs ys long (λ k d low. sym (get_or_append_left xs (x ∷ []) d k low) ∙ ap (λ zs. get_or zs k d) e ∙ get_or_append_left ys (y ∷ []) d k (omega (arith, low, long))),
      sym (get_or-append_right xs (x ∷ []) (length xs) (length xs) x refl (omega arith) ∙ ap (λ k. get_or (x ∷ []) k x) (let z : length xs - length xs ≡ 0 = omega arith in z))
          ∙ ap (λ zs. get_or zs (length xs) x) e
          ∙ get_or-append_right ys (y ∷ []) (length xs) (length xs) x (sym long) (omega arith) ∙ ap (λ k. get_or (y ∷ []) k x) (let z : length xs - length xs ≡ 0 = omega arith in z),
    )

-- an edit is over: the draft before it joins the past
pub sized_more : (e : Editing) (size size' : Size) (sizes sizes' : List Size) (now : Graph) (past : List Graph) → IsSized e size sizes → past ≡ e.past ++ e.now ∷ [] → size' ≡ size_of now → sizes' ≡ sizes ++ size ∷ [] → (size' ≡ size_of now) × (sizes' ≡ map size_of past)
sized_more e size size' sizes sizes' now past s before here more = (
  here,
  more ∙ (λ i. s.past_sized i ++ s.now_sized i ∷ []) ∙ sym (map-append size_of e.past (e.now ∷ [])) ∙ ap (map size_of) (sym before),
)

-- an edit is taken back
pub sized_less : (e : Editing) (size size' : Size) (sizes sizes' : List Size) (now : Graph) (past : List Graph) → IsSized e size sizes → e.past ≡ past ++ now ∷ [] → sizes ≡ sizes' ++ size' ∷ [] → (sizes' ≡ map size_of past) × (size' ≡ size_of now)
sized_less e size size' sizes sizes' now past s before less =
    same_ends sizes' (map size_of past) size' (size_of now) (sym less ∙ s.past_sized ∙ ap (map size_of) before ∙ map-append size_of past (now ∷ []))

-- as many sizes are kept as there are edits
pub sizes_long : (e : Inside) → IsEditor e → length e.sizes.items ≡ length e.starts.items
sizes_long e fit = ap length fit.sized.past_sized ∙ length-map (past_of (base e) e.arena e.starts.items) size_of ∙ length-map e.starts.items (λ m. draft_at (base e) e.arena m.moment m.places)
