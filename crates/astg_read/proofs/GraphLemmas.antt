-- The graph as the keys and entries of its maps.
use Rattle.std.proofs.Common.{◌≡◌, ℕ, ◌+◌, List, [], ◌∷◌, ◌++◌, true, false, ◌<◌, nat_lt, inl, inr, unwrap_or, min, map, length, position, None, Some, Option, refl, sym, ap, ◌∙◌, arith, append-nil, length-append}
use Rattle.std.proofs.lemmas.List.Concat.{flat_map-append}
use Rattle.std.proofs.lemmas.Bool.{cases_lt, lt-ltb, le-ltb}
use Rattle.std.specs.List.{list_any}
use Rattle.std.specs.Map.{keys_of}
use Rattle.indexmap.specs.IndexSet.{insert_key}
use Rattle.stg_net.specs.declared.trans.TransName.{TransName}
use Rattle.stg_net.specs.contracts.trans.TransNamePartialEq.TheImpl as transitions
use Rattle.astg_read.specs.declared.text_graph.TextPlace.{TextPlace}
use Rattle.astg_read.specs.declared.text_graph.Ends.{Ends}
use Rattle.astg_read.specs.contracts.text_graph.TextPlacePartialEq.TheImpl as places
use Rattle.astg_read.specs.contracts.text_graph.EndsPartialEq.TheImpl as ends
use Rattle.astg_read.specs.Lists.{with_new}
use Rattle.astg_read.specs.Nodes.{Node, Trans, same_trans}
use Rattle.astg_read.specs.Nodes as At
use Rattle.astg_read.specs.Graphs.{TextArc, PlaceAt, same_text_arc, same_place, arcs, arcs_of, node_arcs}
use Rattle.astg_read.specs.inner.Views.{place_view, weighed_view}
use Rattle.astg_read.proofs.Keyed.{any-seen, position-seen, position-entry, keys-with_new}
use Rattle.astg_read.proofs.NumberLemmas.{any-found, any-missing}
use Rattle.astg_read.proofs.SameLemmas.{trans-same, places-same, ends-same}

-- a transition is added where it isn't there
pub trans-with_new : (ts : List TransName) (t : TransName) → insert_key (transitions.eq-value).it ts t ≡ with_new same_trans ts t
trans-with_new ts t = (λ j. insert_key (λ a b. trans-same a b j) ts t)

-- a place is added where it isn't there
pub places-with_new : (ps : List TextPlace) (p : TextPlace) → map place_view (insert_key (places.eq-value).it ps p) ≡ with_new same_place (map place_view ps) (place_view p)
places-with_new ps p = keys-with_new (places.eq-value).it same_place place_view p (places-same p) ps

-- a place is among the keys where it is among those seen
pub place-among : (ps : List TextPlace) (p : TextPlace) → list_any ((places.eq-value).it p) ps ≡ list_any (same_place (place_view p)) (map place_view ps)
place-among ps p = any-seen ((places.eq-value).it p) (same_place (place_view p)) place_view (places-same p) ps

-- a place's index among the keys is its number
pub position-places : (ps : List TextPlace) (p : TextPlace) → position ((places.eq-value).it p) ps ≡ position (same_place (place_view p)) (map place_view ps)
position-places ps p = position-seen ((places.eq-value).it p) (same_place (place_view p)) place_view (places-same p) ps

-- the index of two ends among the keys is that of the text arc
position-text_arcs : (e : Ends) (w : Option ℕ) (es : List (Ends × Option ℕ)) → position ((ends.eq-value).it e) (keys_of es) ≡ position (same_text_arc (weighed_view (e, w))) (map weighed_view es)
position-text_arcs e w es = position-entry ((ends.eq-value).it e) (same_text_arc (weighed_view (e, w))) weighed_view (λ x. ends-same e x.0) es

pub found-text_arc : (e : Ends) (w : Option ℕ) (es : List (Ends × Option ℕ)) (ps : List TextArc) (n : ℕ) → map weighed_view es ≡ ps → Some n ≡ position ((ends.eq-value).it e) (keys_of es) → list_any (same_text_arc (weighed_view (e, w))) ps ≡ true
found-text_arc e w es ps n view at = any-found (same_text_arc (weighed_view (e, w))) ps n (sym (at ∙ position-text_arcs e w es ∙ ap (position (same_text_arc (weighed_view (e, w)))) view))

pub missing-text_arc : (e : Ends) (w : Option ℕ) (es : List (Ends × Option ℕ)) (ps : List TextArc) → map weighed_view es ≡ ps → None ≡ position ((ends.eq-value).it e) (keys_of es) → list_any (same_text_arc (weighed_view (e, w))) ps ≡ false
missing-text_arc e w es ps view at = any-missing (same_text_arc (weighed_view (e, w))) ps (sym (at ∙ position-text_arcs e w es ∙ ap (position (same_text_arc (weighed_view (e, w)))) view))

-- one more text arc has its own arcs more
pub arc_total-more : (ps : List TextArc) (p : TextArc) (old count new : ℕ) → old ≡ min (length (arcs [] [] ps)) 18446744073709551615 → count ≡ length (arcs_of [] [] p) → new ≡ min (old + count) 18446744073709551615
    → new ≡ min (length (arcs [] [] (ps ++ p ∷ []))) 18446744073709551615
arc_total-more ps p old count new h k s =
    let e : length (arcs [] [] (ps ++ p ∷ [])) ≡ length (arcs [] [] ps) + length (arcs_of [] [] p) =
    ap length (flat_map-append (arcs_of [] []) ps (p ∷ []) ∙ ap (λ xs. arcs [] [] ps ++ xs) (append-nil (arcs_of [] [] p))) ∙ length-append (arcs [] [] ps) (arcs_of [] [] p) in
    omega (arith, e, h, k, s)

between-length : (ts : List TransName) (ps : List PlaceAt) (w : ℕ) (m n : Node) → length (node_arcs [] [] w m n) ≡ length (node_arcs ts ps w m n)
between-length ts ps w (Trans t) (Trans u) = refl
between-length ts ps w (Trans t) (At.Place q) = refl
between-length ts ps w (At.Place p) (Trans u) = refl
between-length ts ps w (At.Place p) (At.Place q) = refl

-- how many arcs there are doesn't depend on their numbers
arcs-length : (ts : List TransName) (ps : List PlaceAt) (text_arcs : List TextArc) → length (arcs [] [] text_arcs) ≡ length (arcs ts ps text_arcs)
arcs-length ts ps [] = refl
arcs-length ts ps (p ∷ text_arcs) =
    length-append (arcs_of [] [] p) (arcs [] [] text_arcs)
    ∙ (λ j. between-length ts ps (unwrap_or p.weight 1) p.source p.target j + arcs-length ts ps text_arcs j)
    ∙ sym (length-append (arcs_of ts ps p) (arcs ts ps text_arcs))

-- too many arcs are told by the count
pub arcs-over : (ts : List TransName) (ps : List PlaceAt) (text_arcs : List TextArc) (most : ℕ) → most < 4294967296 → nat_lt most (min (length (arcs [] [] text_arcs)) 18446744073709551615) ≡ nat_lt most (length (arcs ts ps text_arcs))
arcs-over ts ps text_arcs most small = elim (cases_lt most (length (arcs ts ps text_arcs))) [
  | inl h ↦ lt-ltb most (min (length (arcs [] [] text_arcs)) 18446744073709551615) (omega (arith, h, small, arcs-length ts ps text_arcs)) ∙ sym (lt-ltb most (length (arcs ts ps text_arcs)) h)
  | inr h ↦ le-ltb most (min (length (arcs [] [] text_arcs)) 18446744073709551615) (omega (arith, h, arcs-length ts ps text_arcs)) ∙ sym (le-ltb most (length (arcs ts ps text_arcs)) h)
]
