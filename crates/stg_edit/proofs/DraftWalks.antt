-- The walks round a live place or transition give the arcs of the draft.
use Rattle.std.proofs.Common.{◌≡◌, ◌<◌, ℕ, Bool, true, false, cond, length, leb, Some, None, sym, ap, ◌∙◌, refl, zero-add}
use Rattle.std.proofs.lemmas.List.FromFn.{get_or-map-range_with_len, length-map-range_with_len}
use Rattle.stg_net.specs.Graph.{Graph, place_at, takes, gives, taken_by, given_by}
use Rattle.stg_arena.specs.declared.end.Way.{Way}
use Rattle.stg_arena.specs.declared.end.End.TheVariants.{Place, Trans}
use Rattle.stg_arena.specs.declared.end.Way.TheVariants.{Take, Give}
use Rattle.stg_arena.specs.ArenaView.{Layout, none, count_of, removed_at, IsTimed}
use Rattle.stg_arena.specs.Incidence.{weight, weight_along}
use Rattle.stg_arena.specs.WalkItems.{weighted}
use Rattle.stg_arena.proofs.RemovalTimes.{alive}
use Rattle.stg_arena.proofs.Incidence.{weighted_same}
use Rattle.stg_edit.specs.inner.Table.{table_place}
use Rattle.stg_edit.specs.inner.DraftAt.{Base, weight_at, table_at, draft_name, now_of}
use Rattle.stg_edit.proofs.DraftOfLive.{draft_place}
use Rattle.stg_arena.specs.declared.end.End.{End}
use Rattle.stg_arena.specs.Ends.{other}
use Rattle.stg_edit.specs.inner.Nodes.{walk_arcs}

-- the weight of the arc between t and p, out of p or into it
abbrev pub weight_in : Graph → Way → ℕ → ℕ → ℕ
weight_in g Take t p = takes g t p
weight_in g Give t p = gives g t p

-- the weight that the draft has
pub weight_now : (base : Base) (l : Layout) (way : Way) (t p : ℕ) → p < length l.places → t < length l.trans → weight_in (now_of base l) way t p ≡ cond (leb (length l.removals) (removed_at l Place p)) (weight_at l (length l.removals) way t p) 0
weight_now base l Take t p there inside = go (leb (length l.removals) (removed_at l Place p)) refl (get_or-map-range_with_len (table_place (length l.trans) (table_at l (length l.removals))) 0 (length l.places) p p None there (zero-add p))
  where
    go : (z : Bool) → leb (length l.removals) (removed_at l Place p) ≡ z → place_at (now_of base l) p ≡ table_place (length l.trans) (table_at l (length l.removals)) p → takes (now_of base l) t p ≡ cond z (weight_at l (length l.removals) Take t p) 0
    go true e at = ap (taken_by t) (at ∙ ap (λ z. cond z (Some (draft_place l p)) None) e) ∙ get_or-map-range_with_len (λ t. weight_at l (length l.removals) Take t p) 0 (length l.trans) t t 0 inside (zero-add t)
    go false e at = ap (taken_by t) (at ∙ ap (λ z. cond z (Some (draft_place l p)) None) e)
weight_now base l Give t p there inside = go (leb (length l.removals) (removed_at l Place p)) refl (get_or-map-range_with_len (table_place (length l.trans) (table_at l (length l.removals))) 0 (length l.places) p p None there (zero-add p))
  where
    go : (z : Bool) → leb (length l.removals) (removed_at l Place p) ≡ z → place_at (now_of base l) p ≡ table_place (length l.trans) (table_at l (length l.removals)) p → gives (now_of base l) t p ≡ cond z (weight_at l (length l.removals) Give t p) 0
    go true e at = ap (given_by t) (at ∙ ap (λ z. cond z (Some (draft_place l p)) None) e) ∙ get_or-map-range_with_len (λ t. weight_at l (length l.removals) Give t p) 0 (length l.trans) t t 0 inside (zero-add t)
    go false e at = ap (given_by t) (at ∙ ap (λ z. cond z (Some (draft_place l p)) None) e)

-- the walk round a live transition
pub along_trans : (base : Base) (l : Layout) (way : Way) (t : ℕ) → IsTimed l → t < length l.trans → removed_at l Trans t ≡ none → weighted (count_of l Place) (weight_along l Trans way t) ≡ weighted (length (now_of base l).places) (weight_in (now_of base l) way t)
along_trans base l way t timed inside live =
    weighted_same (length l.places) (length (now_of base l).places) (weight_along l Trans way t) (weight_in (now_of base l) way t)
    (sym (length-map-range_with_len (table_place (length l.trans) (table_at l (length l.removals))) 0 (length l.places)))
    (λ p h. sym (weight_now base l way t p h inside ∙ ap (λ z. cond (leb (length l.removals) (removed_at l Place p)) (cond z (weight l.cells way p t) 0) 0) (alive l Trans t timed live)))

-- the walk round a live place
pub along_place : (base : Base) (l : Layout) (way : Way) (p : ℕ) → IsTimed l → p < length l.places → removed_at l Place p ≡ none → weighted (count_of l Trans) (weight_along l Place way p) ≡ weighted (length (now_of base l).trans) (λ t. weight_in (now_of base l) way t p)
along_place base l way p timed there live =
    weighted_same (length l.trans) (length (now_of base l).trans) (weight_along l Place way p) (λ t. weight_in (now_of base l) way t p)
    (sym (length-map-range_with_len (draft_name l base.names (length l.removals)) 0 (length l.trans)))
    (λ t h. sym (weight_now base l way t p there h ∙ ap (λ z. cond z (weight_at l (length l.removals) way t p) 0) (alive l Place p timed live)))

-- the walk round a live place or transition
pub along : (base : Base) (l : Layout) (b : End) (way : Way) (k : ℕ) → IsTimed l → k < count_of l b → removed_at l b k ≡ none → weighted (count_of l (other b)) (weight_along l b way k) ≡ walk_arcs (now_of base l) b way k
along base l Place Take p timed there live = along_place base l Take p timed there live
along base l Place Give p timed there live = along_place base l Give p timed there live
along base l Trans Take t timed there live = along_trans base l Take t timed there live
along base l Trans Give t timed there live = along_trans base l Give t timed there live
