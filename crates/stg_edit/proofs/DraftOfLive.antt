-- What the draft has of a live place and of a live transition.
use Rattle.std.proofs.Common.{◌≡◌, ◌≢◌, ◌<◌, ◌==◌, ℕ, true, false, ◌||◌, cond, List, [], ◌∷◌, map, length, All, AllPairs, Some, None, is_some, slice_get, eqb, leb, ◌⊎◌, eq-eqb, refl, sym, ap, ◌∙◌, inl, inr, zero-add, arith, ◌↔◌, ◌≤◌}
use Rattle.std.specs.List.{list_any}
use Rattle.std.specs.Str.{bytes_eq}
use Rattle.std.proofs.lemmas.Bool.{cases_order, cases_lt, cases_Bool, false_from_ne_true, false≢true, ne_eqb}
use Rattle.std.proofs.lemmas.List.Elements.{All-head, All-tail}
use Rattle.std.proofs.lemmas.List.FromFn.{get_or-map-range_with_len, length-map-range_with_len}
use Rattle.std.proofs.lemmas.List.{get_or_past}
use Rattle.std.proofs.lemmas.Option.{slice_get-get_or}
use Rattle.std.proofs.lemmas.Slice.Eq.{bytes_eq-Decides}
use Rattle.stg_net.specs.declared.signal.Signal.{Signal}
use Rattle.stg_net.specs.Net.{signal_at}
use Rattle.stg_net.specs.Graph.{Graph, Place as DraftPlace, FullName, IsPlace, IsTrans, IsDummy, place_at, full_name_at, tokens_at, tokens_in, takes, gives, taken_by, given_by, is_among, has_signal_of}
use Rattle.stg_net.specs.Initial.{weight_list}
use Rattle.stg_arena.specs.declared.end.End.TheVariants.{Trans, Place}
use Rattle.stg_arena.specs.declared.end.Way.TheVariants.{Take, Give}
use Rattle.stg_arena.specs.ArenaView.{Layout, count_of, none, removed_at, spot_at, IsTimed}
use Rattle.stg_arena.specs.Incidence.{weight}
use Rattle.stg_arena.proofs.RemovalTimes.{alive}
use Rattle.stg_edit.specs.inner.Table.{table_place, table_places}
use Rattle.stg_edit.specs.inner.DraftAt.{Base, weight_at, table_at, draft_name, now_of}

-- a live place of the arena is the place that the table makes
abbrev pub draft_place : Layout → ℕ → DraftPlace
draft_place l p = record {
  tokens = (spot_at l.places p).tokens;
  taken = weight_list (length l.trans) (λ t. weight_at l (length l.removals) Take t p);
  given = weight_list (length l.trans) (λ t. weight_at l (length l.removals) Give t p);
}

-- what the draft has of a live place
pub place_now : (base : Base) (l : Layout) (p : ℕ) → IsTimed l → p < length l.places → removed_at l Place p ≡ none → place_at (now_of base l) p ≡ Some (draft_place l p)
place_now base l p t range live =
    get_or-map-range_with_len (table_place (length l.trans) (table_at l (length l.removals))) 0 (length l.places) p p None range (zero-add p)
    ∙ ap (λ z. cond z (Some (draft_place l p)) None) (alive l Place p t live)

-- what the draft has of a live transition
pub name_now : (base : Base) (l : Layout) (t : ℕ) → IsTimed l → t < length l.trans → removed_at l Trans t ≡ none → full_name_at (now_of base l) t ≡ slice_get base.names t
name_now base l t timed range live =
    get_or-map-range_with_len (draft_name l base.names (length l.removals)) 0 (length l.trans) t t None range (zero-add t)
    ∙ ap (λ z. cond z (slice_get base.names t) None) (alive l Trans t timed live)

-- a live place of the arena is live in the draft
pub is_place_now : (base : Base) (l : Layout) (p : ℕ) → IsTimed l → (p < count_of l Place) × (removed_at l Place p ≡ none) → IsPlace (now_of base l) p
is_place_now base l p t live = ap is_some (place_now base l p t live.0 live.1)

-- a live transition of the arena is live in the draft
pub is_trans_now : (base : Base) (l : Layout) (u : ℕ) → IsTimed l → length base.names ≡ length l.trans → (u < count_of l Trans) × (removed_at l Trans u ≡ none) → IsTrans (now_of base l) u
is_trans_now base l u t long live = rw (name_now base l u t live.0 live.1) (some u base.names (omega (arith, live.0)))
  where
    some : (k : ℕ) (xs : List FullName) → k < length xs → is_some (slice_get xs k) ≡ true
    some k [] h = absurd (omega arith)
    some k (x ∷ xs) h = ap is_some (slice_get-get_or (x ∷ xs) k x h)

-- the tokens of a live place
pub tokens_now : (base : Base) (l : Layout) (p : ℕ) → IsTimed l → p < length l.places → removed_at l Place p ≡ none → tokens_at (now_of base l) p ≡ (spot_at l.places p).tokens
tokens_now base l p t range live = ap tokens_in (place_now base l p t range live)

-- of signals with different names, equal names are one number
same_signal : (signals : List Signal) → AllPairs (λ (s t : Signal). s.name ≢ t.name) signals → (s t : ℕ) → s < length signals → t < length signals → bytes_eq (signal_at signals s).name (signal_at signals t).name ≡ eqb s t
same_signal signals differ s t hs ht = elim (cases_order s t) [
  | inl e ↦ (bytes_eq-Decides (signal_at signals s).name (signal_at signals t).name).1 (ap (λ k. (signal_at signals k).name) e) ∙ sym (eq-eqb s t e)
  | inr (inl low) ↦ apart (λ e. differ s t _ low ht e) ∙ sym (ne_eqb s t (λ e. absurd (omega arith)))
  | inr (inr high) ↦ apart (λ e. differ t s _ high hs (sym e)) ∙ sym (ne_eqb s t (λ e. absurd (omega arith)))
]
  where
    apart : ((signal_at signals s).name ≡ (signal_at signals t).name → ⊥) → bytes_eq (signal_at signals s).name (signal_at signals t).name ≡ false
    apart ne = false_from_ne_true (bytes_eq (signal_at signals s).name (signal_at signals t).name) (λ e. ne ((bytes_eq-Decides (signal_at signals s).name (signal_at signals t).name).0 e))

-- a signal's name is among the known ones exactly where its number is
pub among_known : (signals : List Signal) (known : List ℕ) (t : ℕ) → AllPairs (λ (s t : Signal). s.name ≢ t.name) signals → All (λ s. s < length signals) known → t < length signals → is_among (map (λ s. (signal_at signals s).name) known) (signal_at signals t).name ≡ list_any (λ k. k == t) known
among_known signals [] t differ there h = refl
among_known signals (s ∷ known) t differ there h =
    (λ i. same_signal signals differ s t (All-head (λ s. s < length signals) s known there) h i || among_known signals known t differ (All-tail (λ s. s < length signals) s known there) h i)

-- a live transition is a dummy exactly where its signal isn't among the known ones
pub dummy_now : (g : Graph) (t : ℕ) (name : FullName) → full_name_at g t ≡ Some name → (is_among g.known name.signal ≡ false) ↔ IsDummy g t
dummy_now g t name here = (
  λ hidden. record { live = ap is_some here; hidden = ap (has_signal_of g.known) here ∙ hidden },
  λ dummy. sym (ap (has_signal_of g.known) here) ∙ dummy.hidden,
)

-- there is a name at each number of the list
some_name : (k : ℕ) (xs : List FullName) → k < length xs → is_some (slice_get xs k) ≡ true
some_name k [] h = absurd (omega arith)
some_name k (x ∷ xs) h = ap is_some (slice_get-get_or (x ∷ xs) k x h)

-- a transition that isn't live has a moment of removal
removal_moment : (base : Base) (l : Layout) (t : ℕ) → length base.names ≡ length l.trans → t < length l.trans → is_some (full_name_at (now_of base l) t) ≡ false → leb (length l.removals) (removed_at l Trans t) ≡ false
removal_moment base l t long inside removed =
    let at : full_name_at (now_of base l) t ≡ draft_name l base.names (length l.removals) t = get_or-map-range_with_len (draft_name l base.names (length l.removals)) 0 (length l.trans) t t None inside (zero-add t) in
    false_from_ne_true (leb (length l.removals) (removed_at l Trans t))
    (λ live. false≢true (sym removed ∙ ap is_some at ∙ ap (λ z. is_some (cond z (slice_get base.names t) None)) live ∙ some_name t base.names (omega (arith, long, inside))))

-- a place of the draft, live or not
draft_place_cases : (base : Base) (l : Layout) (p : ℕ) → (place_at (now_of base l) p ≡ None) ⊎ (place_at (now_of base l) p ≡ Some (draft_place l p))
draft_place_cases base l p = elim (cases_lt p (length l.places)) [
  | inl low ↦
      let at : place_at (now_of base l) p ≡ table_place (length l.trans) (table_at l (length l.removals)) p = get_or-map-range_with_len (table_place (length l.trans) (table_at l (length l.removals))) 0 (length l.places) p p None low (zero-add p) in
      elim (cases_Bool (leb (length l.removals) (removed_at l Place p))) [
        | inl live ↦ inr (at ∙ ap (λ z. cond z (Some (draft_place l p)) None) live)
        | inr removed ↦ inl (at ∙ ap (λ z. cond z (Some (draft_place l p)) None) removed)
      ]
  | inr past ↦ inl (get_or_past (table_places (length l.places) (length l.trans) (table_at l (length l.removals))) p None (omega (arith, past, length-map-range_with_len (table_place (length l.trans) (table_at l (length l.removals))) 0 (length l.places))))
]

-- a transition that isn't live has no weights
pub weightless_removed : (base : Base) (l : Layout) (t p : ℕ) → length base.names ≡ length l.trans → t < length l.trans → is_some (full_name_at (now_of base l) t) ≡ false → (takes (now_of base l) t p ≡ 0) × (gives (now_of base l) t p ≡ 0)
weightless_removed base l t p long inside removed =
    let moment = removal_moment base l t long inside removed in
    let s = length l.removals in
    elim (draft_place_cases base l p) [
      | inl none ↦ (ap (taken_by t) none, ap (given_by t) none)
      | inr some ↦ (
        ap (taken_by t) some ∙ get_or-map-range_with_len (λ t. weight_at l s Take t p) 0 (length l.trans) t t 0 inside (zero-add t) ∙ ap (λ z. cond z (weight l.cells Take p t) 0) moment,
        ap (given_by t) some ∙ get_or-map-range_with_len (λ t. weight_at l s Give t p) 0 (length l.trans) t t 0 inside (zero-add t) ∙ ap (λ z. cond z (weight l.cells Give p t) 0) moment,
      )
    ]

-- nor has one past the last
pub weightless_past : (base : Base) (l : Layout) (t p : ℕ) → length l.trans ≤ t → (takes (now_of base l) t p ≡ 0) × (gives (now_of base l) t p ≡ 0)
weightless_past base l t p past =
    let s = length l.removals in
    elim (draft_place_cases base l p) [
      | inl none ↦ (ap (taken_by t) none, ap (given_by t) none)
      | inr some ↦ (
        ap (taken_by t) some ∙ get_or_past (weight_list (length l.trans) (λ t. weight_at l s Take t p)) t 0 (omega (arith, past, length-map-range_with_len (λ t. weight_at l s Take t p) 0 (length l.trans))),
        ap (given_by t) some ∙ get_or_past (weight_list (length l.trans) (λ t. weight_at l s Give t p)) t 0 (omega (arith, past, length-map-range_with_len (λ t. weight_at l s Give t p) 0 (length l.trans))),
      )
    ]
