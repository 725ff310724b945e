-- The drafts of an editor, when a place or a transition is removed, and when it is revived.
use Rattle.std.proofs.Common.{◌≡◌, ◌<◌, ◌≤◌, ◌+◌, ◌-◌, ℕ, true, cond, map, length, set, Some, None, leb, is_some, slice_get, sym, ap, ◌∙◌, refl, inl, inr, zero-add, arith}
use Rattle.std.specs.List.{range_with_len}
use Rattle.std.proofs.lemmas.Bool.{cases_lt, cases_Bool, false≢true, le-leb, lt-leb, leb-true}
use Rattle.std.proofs.lemmas.List.{get_or_past}
use Rattle.std.proofs.lemmas.List.FromFn.{length-map-range_with_len, get_or-map-range_with_len}
use Rattle.stg_net.specs.Graph.{place_at, full_name_at}
use Rattle.stg_net.specs.Contraction.{without_place, without_trans, without_arcs_of}
use Rattle.stg_net.specs.Initial.{weight_list}
use Rattle.stg_arena.specs.declared.end.End.{End}
use Rattle.stg_arena.specs.declared.end.Way.{Way}
use Rattle.stg_arena.specs.declared.end.End.TheVariants.{Place, Trans}
use Rattle.stg_arena.specs.declared.end.Way.TheVariants.{Take, Give}
use Rattle.stg_arena.proofs.Lists.{same_map}
use Rattle.stg_arena.specs.ArenaView.{Layout, none, spot_at, removed_at, count_of, IsTimed, IsRemoved}
use Rattle.stg_arena.specs.Incidence.{weight}
use Rattle.stg_arena.specs.Extends.{IsExtended}
use Rattle.stg_arena.proofs.Extends.{extended_weight}
use Rattle.stg_edit.specs.inner.Table.{Table, table_place, table_places}
use Rattle.stg_edit.proofs.DraftTables.{map_but}
use Rattle.stg_edit.proofs.Lists.{map-after}
use Rattle.stg_edit.specs.inner.DraftAt.{weight_at, table_at, Base, draft_name, draft_at, now_of}
use Rattle.stg_edit.specs.inner.Nodes.{IsNode, without_node}
use Rattle.stg_edit.specs.inner.View.{spare_of}

-- places made of tables that agree
pub same_place : (n : ℕ) (x y : Table) (p : ℕ) → x.is_live p ≡ y.is_live p → x.tokens p ≡ y.tokens p → ((t : ℕ) → x.take_weight t p ≡ y.take_weight t p) → ((t : ℕ) → x.give_weight t p ≡ y.give_weight t p) → table_place n x p ≡ table_place n y p
same_place n x y p live tokens taken given =
    let a = same_map (λ t. x.take_weight t p) (λ t. y.take_weight t p) n (λ t h. taken t) in
    let b = same_map (λ t. x.give_weight t p) (λ t. y.give_weight t p) n (λ t h. given t) in
    λ i. cond (live i) (Some (record { tokens = tokens i; taken = a i; given = b i })) None

-- one moment later all else is the same
live_later : (b : End) (k : ℕ) (l l' : Layout) (c : End) (j : ℕ) → IsRemoved b k l l' → IsTimed l → removed_at l' c j ≡ removed_at l c j → leb (length l.removals + 1) (removed_at l' c j) ≡ leb (length l.removals) (removed_at l c j)
live_later b k l l' c j g t same = elim (cases_lt (removed_at l c j) (length l.removals)) [
  | inl low ↦ lt-leb (length l.removals + 1) (removed_at l' c j) (omega arith) ∙ sym (lt-leb (length l.removals) (removed_at l c j) low)
  | inr high ↦ le-leb (length l.removals + 1) (removed_at l' c j) (omega (arith, t.alive c j high, t.room, t.small)) ∙ sym (le-leb (length l.removals) (removed_at l c j) high)
]

draft_without_place : (base : Base) (k : ℕ) (l l' : Layout) (n : ℕ) → IsRemoved Place k l l' → IsTimed l → draft_at base l' (length l.removals + 1) n ≡ without_place (draft_at base l (length l.removals) n) k
draft_without_place base k l l' n g t =
    let places = map_but (table_place (length l.trans) (table_at l (length l.removals))) (table_place (length l'.trans) (table_at l' (length l.removals + 1))) n k None
    (λ p r ne. ap (λ m. table_place m (table_at l' (length l.removals + 1)) p) (g.as_many Trans)
    ∙ same_place (length l.trans) (table_at l' (length l.removals + 1)) (table_at l (length l.removals)) p (live_later Place k l l' Place p g t (g.others p ne)) (g.tokens p) (λ u. weights Take u p) (λ u. weights Give u p))
    (ap (λ z. cond z (Some (record { tokens = (spot_at l'.places k).tokens; taken = weight_list (length l'.trans) (λ u. weight_at l' (length l.removals + 1) Take u k); given = weight_list (length l'.trans) (λ u. weight_at l' (length l.removals + 1) Give u k) })) None)
    (lt-leb (length l.removals + 1) (removed_at l' Place k) (omega (arith, g.here)))) in
    let trans = ap (λ m. map (draft_name l' base.names (length l.removals + 1)) (range_with_len 0 m)) (g.as_many Trans)
    ∙ same_map (draft_name l' base.names (length l.removals + 1)) (draft_name l base.names (length l.removals)) (length l.trans) (λ u r. ap (λ z. cond z (slice_get base.names u) None) (live_later Place k l l' Trans u g t (g.far u))) in
    λ i. record { places = places i; trans = trans i; known = base.known; first_places = base.first_places }
  where
    weights : (way : Way) (u p : ℕ) → weight_at l' (length l.removals + 1) way u p ≡ weight_at l (length l.removals) way u p
    weights way u p = ap (λ z. cond z (weight l'.cells way p u) 0) (live_later Place k l l' Trans u g t (g.far u))
        ∙ ap (λ xs. cond (leb (length l.removals) (removed_at l Trans u)) (weight xs way p u) 0) g.cells

draft_without_trans : (base : Base) (k : ℕ) (l l' : Layout) (n : ℕ) → IsRemoved Trans k l l' → IsTimed l → draft_at base l' (length l.removals + 1) n ≡ without_trans (draft_at base l (length l.removals) n) k
draft_without_trans base k l l' n g t =
    let places = same_map (table_place (length l'.trans) (table_at l' (length l.removals + 1))) (λ p. without_arcs_of k (table_place (length l.trans) (table_at l (length l.removals)) p)) n (λ p r. here p)
    ∙ map-after (λ p. without_arcs_of k (table_place (length l.trans) (table_at l (length l.removals)) p)) (without_arcs_of k) (table_place (length l.trans) (table_at l (length l.removals))) (λ p. refl) (range_with_len 0 n) in
    let trans = ap (λ m. map (draft_name l' base.names (length l.removals + 1)) (range_with_len 0 m)) (g.as_many Trans)
    ∙ map_but (draft_name l base.names (length l.removals)) (draft_name l' base.names (length l.removals + 1)) (length l.trans) k None
    (λ u r ne. ap (λ z. cond z (slice_get base.names u) None) (live_later Trans k l l' Trans u g t (g.others u ne)))
    (ap (λ z. cond z (slice_get base.names k) None) (lt-leb (length l.removals + 1) (removed_at l' Trans k) (omega (arith, g.here)))) in
    λ i. record { places = places i; trans = trans i; known = base.known; first_places = base.first_places }
  where
    weights : (way : Way) (p : ℕ) → weight_list (length l'.trans) (λ u. weight_at l' (length l.removals + 1) way u p) ≡ set (weight_list (length l.trans) (λ u. weight_at l (length l.removals) way u p)) k 0
    weights way p = ap (λ m. weight_list m (λ u. weight_at l' (length l.removals + 1) way u p)) (g.as_many Trans)
        ∙ map_but (λ u. weight_at l (length l.removals) way u p) (λ u. weight_at l' (length l.removals + 1) way u p) (length l.trans) k 0
        (λ u r ne. ap (λ z. cond z (weight l'.cells way p u) 0) (live_later Trans k l l' Trans u g t (g.others u ne)) ∙ ap (λ xs. cond (leb (length l.removals) (removed_at l Trans u)) (weight xs way p u) 0) g.cells)
        (ap (λ z. cond z (weight l'.cells way p k) 0) (lt-leb (length l.removals + 1) (removed_at l' Trans k) (omega (arith, g.here))))

    here : (p : ℕ) → table_place (length l'.trans) (table_at l' (length l.removals + 1)) p ≡ without_arcs_of k (table_place (length l.trans) (table_at l (length l.removals)) p)
    here p = elim (cases_Bool (leb (length l.removals) (removed_at l Place p))) [
      | inl z ↦ rw (z, live_later Trans k l l' Place p g t (g.far p) ∙ z) (let a = weights Take p in let b = weights Give p in let c = g.tokens p in λ i. Some (record { tokens = c i; taken = a i; given = b i }))
      | inr z ↦ rw (z, live_later Trans k l l' Place p g t (g.far p) ∙ z) refl
    ]

-- a live place of the draft is a live node
pub place_lives : (base : Base) (p : ℕ) (l : Layout) → IsTimed l → is_some (place_at (now_of base l) p) ≡ true → (p < count_of l Place) × (removed_at l Place p ≡ none)
place_lives base p l t live = elim (cases_lt p (length l.places)) [
  | inr past ↦ absurd (false≢true (rw (get_or_past (table_places (length l.places) (length l.trans) (table_at l (length l.removals))) p None (rw length-map-range_with_len past)) at live))
  | inl h ↦ (
    h,
    elim (cases_Bool (leb (length l.removals) (removed_at l Place p))) [
      | inl b ↦ t.alive Place p (leb-true (length l.removals) (removed_at l Place p) b)
      | inr b ↦ absurd (false≢true (rw b at (rw (get_or-map-range_with_len (table_place (length l.trans) (table_at l (length l.removals))) 0 (length l.places) p p None h (zero-add p)) at live)))
    ],
  )
]

-- a live transition of the draft is live in the arena
pub trans_lives : (base : Base) (u : ℕ) (l : Layout) → IsTimed l → is_some (full_name_at (now_of base l) u) ≡ true → (u < count_of l Trans) × (removed_at l Trans u ≡ none)
trans_lives base u l t live = elim (cases_lt u (length l.trans)) [
  | inr past ↦ absurd (false≢true (rw (get_or_past (map (draft_name l base.names (length l.removals)) (range_with_len 0 (length l.trans))) u None (rw length-map-range_with_len past)) at live))
  | inl h ↦ (
    h,
    elim (cases_Bool (leb (length l.removals) (removed_at l Trans u))) [
      | inl b ↦ t.alive Trans u (leb-true (length l.removals) (removed_at l Trans u) b)
      | inr b ↦ absurd (false≢true (rw b at (rw (get_or-map-range_with_len (draft_name l base.names (length l.removals)) 0 (length l.trans) u u None h (zero-add u)) at live)))
    ],
  )
]

-- a live node of the draft is a live node
pub node_lives : (b : End) (base : Base) (k : ℕ) (l : Layout) → IsTimed l → IsNode b (now_of base l) k → (k < count_of l b) × (removed_at l b k ≡ none)
node_lives Place base k l t live = place_lives base k l t live
node_lives Trans base k l t live = trans_lives base k l t live

-- the draft after a node was removed
pub draft_without : (b : End) (base : Base) (k : ℕ) (l l' : Layout) (n : ℕ) → IsRemoved b k l l' → IsTimed l → draft_at base l' (length l.removals + 1) n ≡ without_node b (draft_at base l (length l.removals) n) k
draft_without Place base k l l' n g t = draft_without_place base k l l' n g t
draft_without Trans base k l l' n g t = draft_without_trans base k l l' n g t

-- what is spare stays when a node is removed
pub spare_removed : (b : End) (k : ℕ) (l l' : Layout) (edits : ℕ) → IsRemoved b k l l' → spare_of l' edits ≡ spare_of l edits
spare_removed b k l l' edits g =
    let places = g.as_many Place in
    λ i. record { edits = edits; places = (g.rooms i).places - places i; arcs = (g.rooms i).cells - length (g.cells i) - ((g.rooms i).places - places i) }

-- a draft before is the same
pub draft_extended : (base : Base) (n : ℕ) (l l' : Layout) (s m : ℕ) → IsExtended n l l' → m ≤ n → s ≤ length l.removals → draft_at base l' s m ≡ draft_at base l s m
draft_extended base n l l' s m f low h =
    let places = same_map (table_place (length l'.trans) (table_at l' s)) (table_place (length l.trans) (table_at l s)) m (λ p r.
    ap (λ k. table_place k (table_at l' s) p) f.trans
    ∙ same_place (length l.trans) (table_at l' s) (table_at l s) p (f.live s Place p h) (f.tokens p (omega arith)) (λ t. weights Take t p (omega arith)) (λ t. weights Give t p (omega arith))) in
    let trans = ap (λ k. map (draft_name l' base.names s) (range_with_len 0 k)) f.trans
    ∙ same_map (draft_name l' base.names s) (draft_name l base.names s) (length l.trans) (λ t r. ap (λ z. cond z (slice_get base.names t) None) (f.live s Trans t h)) in
    λ i. record { places = places i; trans = trans i; known = base.known; first_places = base.first_places }
  where
    weights : (way : Way) (t p : ℕ) → p < n → weight_at l' s way t p ≡ weight_at l s way t p
    weights way t p r = ap (λ z. cond z (weight l'.cells way p t) 0) (f.live s Trans t h)
        ∙ ap (λ w. cond (leb s (removed_at l Trans t)) w 0) (extended_weight n l l' way p t f r)
