-- The net of a draft is the draft with other numbers.
use Rattle.std.proofs.Common.{◌≡◌, ℕ, ◌<◌, Bool, List, length, get_or, slice_index, AllPairs, Option, Some, None, is_some, refl, sym, ap, ◌∙◌, inl, inr, arith}
use Rattle.std.proofs.lemmas.Bool.{cases_lt, cases_order}
use Rattle.std.proofs.lemmas.List.{get_or_past, length-map, get_or-map as get_or-map_in}
use Rattle.stg_net.specs.Graph.{Graph, Place, IsPlace, IsTrans, place_at, full_name_at, tokens_in, taken_by, given_by, is_among}
use Rattle.stg_net.specs.Initial.{graph_of}
use Rattle.stg_net.specs.Net.{NetLists}
use Rattle.stg_net.specs.Ordered.{new_number}
use Rattle.stg_laws.specs.Renumbered.{IsRenumbered}
use Rattle.stg_edit.specs.Counted.{live_places}
use Rattle.stg_edit.specs.Compacted.{IsNetOf, live_trans, packed}
use Rattle.stg_edit.proofs.Compacting.{kept_ascend, kept_number, kept_at}
use Rattle.stg_derive.proofs.StepEffects.{live_place_below, live_trans_below}

-- the numbers of g that the numbers of the net stand for; what is past the end stands for what was never there
abbrev pub old_place : Graph → ℕ → ℕ
old_place g r = get_or (live_places g) r (length g.places)

-- the same of transitions
abbrev pub old_trans : Graph → ℕ → ℕ
old_trans g u = get_or (live_trans g) u (length g.trans)

ascend_differ : (xs : List ℕ) → AllPairs (λ x y. x < y) xs → (i j d : ℕ) → i < length xs → j < length xs → get_or xs i d ≡ get_or xs j d → i ≡ j
ascend_differ xs up i j d hi hj e = elim (cases_order i j) [
  | inl same ↦ same
  | inr o ↦ elim o [
    | inl l ↦ absurd (omega (arith, up i j d l hj, e))
    | inr l ↦ absurd (omega (arith, up j i d l hi, e))
  ]
]

packed_some : (trans : List ℕ) (o : Option Place) → is_some (packed trans o) ≡ is_some o
packed_some trans None = refl
packed_some trans (Some x) = refl

packed_tokens : (trans : List ℕ) (o : Option Place) → tokens_in (packed trans o) ≡ tokens_in o
packed_tokens trans None = refl
packed_tokens trans (Some x) = refl

packed_taken : (trans : List ℕ) (u d : ℕ) (o : Option Place) → u < length trans → taken_by u (packed trans o) ≡ taken_by (get_or trans u d) o
packed_taken trans u d None below = refl
packed_taken trans u d (Some x) below = get_or-map_in (slice_index x.taken) trans u d 0 below

packed_given : (trans : List ℕ) (u d : ℕ) (o : Option Place) → u < length trans → given_by u (packed trans o) ≡ given_by (get_or trans u d) o
packed_given trans u d None below = refl
packed_given trans u d (Some x) below = get_or-map_in (slice_index x.given) trans u d 0 below

module _ (n : NetLists) (g : Graph) (own : List ℕ) (m : NetLists) (is : IsNetOf n.signals g own m) where
  abbrev pub h : Graph
  h = graph_of m

  places_long : length h.places ≡ length (live_places g)
  places_long = ap length is.places ∙ length-map (live_places g) (λ p. packed (live_trans g) (place_at g p))

  trans_long : length h.trans ≡ length (live_trans g)
  trans_long = ap length is.trans ∙ length-map (live_trans g) (full_name_at g)

  place_here : (r : ℕ) → place_at h r ≡ packed (live_trans g) (place_at g (old_place g r))
  place_here r = elim (cases_lt r (length (live_places g))) [
    | inl l ↦ ap (λ xs. get_or xs r None) is.places ∙ get_or-map_in (λ p. packed (live_trans g) (place_at g p)) (live_places g) r (length g.places) None l
    | inr past ↦
        let none : place_at g (old_place g r) ≡ None = ap (place_at g) (get_or_past (live_places g) r (length g.places) past) ∙ get_or_past g.places (length g.places) None (omega arith) in
        get_or_past h.places r None (omega (arith, past, places_long)) ∙ ap (packed (live_trans g)) (sym none)
  ]

  trans_below : (u : ℕ) → IsTrans h u → u < length (live_trans g)
  trans_below u live = omega (arith, live_trans_below h u live, trans_long)

  place_below : (r : ℕ) → IsPlace h r → r < length (live_places g)
  place_below r live = omega (arith, live_place_below h r live, places_long)

  name_here : (u : ℕ) → u < length (live_trans g) → full_name_at h u ≡ full_name_at g (old_trans g u)
  name_here u below = ap (λ xs. get_or xs u None) is.trans ∙ get_or-map_in (full_name_at g) (live_trans g) u (length g.trans) None below

  pub draft_renumbers : ((s : List ℕ) → is_among h.known s ≡ is_among g.known s) → IsRenumbered g (graph_of m)
  draft_renumbers known = record {
    place = old_place g;
    trans = old_trans g;
    place_there = λ r live. sym (packed_some (live_trans g) (place_at g (old_place g r))) ∙ sym (ap is_some (place_here r)) ∙ live;
    place_from = λ p live.
        let q : ℕ → Bool = λ k. is_some (place_at g k) in
        let below = live_place_below g p live in
        let r = new_number (live_places g) p in
        let there = kept_number q (length g.places) p below live in
        let back = kept_at q (length g.places) p (length g.places) below live in
        (r, ap is_some (place_here r) ∙ packed_some (live_trans g) (place_at g (old_place g r)) ∙ ap (λ k. is_some (place_at g k)) back ∙ live, back);
    place_differ = λ q r a b e. ascend_differ (live_places g) (kept_ascend (λ k. is_some (place_at g k)) (length g.places)) q r (length g.places) (place_below q a) (place_below r b) e;
    trans_from = λ t live.
        let q : ℕ → Bool = λ k. is_some (full_name_at g k) in
        let below = live_trans_below g t live in
        let u = new_number (live_trans g) t in
        let there = kept_number q (length g.trans) t below live in
        let back = kept_at q (length g.trans) t (length g.trans) below live in
        (u, ap is_some (name_here u there) ∙ ap (λ k. is_some (full_name_at g k)) back ∙ live, back);
    trans_differ = λ u v a b e. ascend_differ (live_trans g) (kept_ascend (λ k. is_some (full_name_at g k)) (length g.trans)) u v (length g.trans) (trans_below u a) (trans_below v b) e;
    names = λ u live. sym (name_here u (trans_below u live));
    tokens = λ r. ap tokens_in (place_here r) ∙ packed_tokens (live_trans g) (place_at g (old_place g r));
    taken = λ u r live. ap (taken_by u) (place_here r) ∙ packed_taken (live_trans g) u (length g.trans) (place_at g (old_place g r)) (trans_below u live);
    given = λ u r live. ap (given_by u) (place_here r) ∙ packed_given (live_trans g) u (length g.trans) (place_at g (old_place g r)) (trans_below u live);
    known = known;
  }
