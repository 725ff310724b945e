-- The arcs of one more text arc.
use Rattle.std.proofs.Common.{◌≡◌, ℕ, List, [], ◌∷◌, ◌++◌, map, length-append, arith, Option, sym, ap, subst, ◌∙◌, append_assoc, append-nil}
use Rattle.std.proofs.lemmas.Bool.{or_parts, and_parts}
use Rattle.std.proofs.lemmas.List.Concat.{flat_map-append}
use Rattle.std.specs.List.{list_any, list_all}
use Rattle.stg_net.specs.declared.trans.TransName.{TransName}
use Rattle.stg_net.specs.Building.{Building}
use Rattle.astg_read.specs.declared.text_graph.Ends.{Ends}
use Rattle.astg_read.specs.inner.Construction.{AreReady, IsReady, with_all_arcs}
use Rattle.astg_read.specs.Graphs.{TextArc, PlaceAt, same_text_arc, arcs, arcs_of}
use Rattle.astg_read.specs.Lists.{has_repeat}
use Rattle.astg_read.specs.inner.Views.{weighed_view}
use Rattle.astg_read.specs.inner.WellFormed.{is_weighed}
use Rattle.astg_read.proofs.WellFormedGraph.{text_arcs-append}

module _ (b : Building) (ts : List TransName) (ps : List PlaceAt) (p : TextArc) (rest : List TextArc) where
  -- the others are ready after the first
  ready-after : AreReady b ts ps (p ∷ rest) → AreReady (with_all_arcs b (arcs_of ts ps p)) ts ps rest
  ready-after r =
      let w = and_parts (is_weighed b.limits.weight p) (list_all (is_weighed b.limits.weight) rest) r.weighed in
      let f = or_parts (list_any (same_text_arc p) r.done) (has_repeat same_text_arc (r.done ++ p ∷ []) rest) r.fresh in
      record {
        trans_are = r.trans_are;
        places_are = r.places_are;
        trans_fit = r.trans_fit;
        places_fit = r.places_fit;
        least = r.least;
        done = r.done ++ p ∷ [];
        arcs_are = ap (λ xs. xs ++ arcs_of ts ps p) r.arcs_are ∙ sym (flat_map-append (arcs_of ts ps) r.done (p ∷ []) ∙ ap (λ xs. arcs ts ps r.done ++ xs) (append-nil (arcs_of ts ps p)));
        done_there = text_arcs-append ts ps r.done (p ∷ []) r.done_there (r.there.0, tt);
        there = r.there.1;
        weighed = w.1;
        fresh = f.1;
        room = omega (arith, r.room, length-append (arcs_of ts ps p) (arcs ts ps rest), length-append b.lists.arcs (arcs_of ts ps p));
      }

  -- the first one is ready
  ready-first : AreReady b ts ps (p ∷ rest) → IsReady b ts ps p
  ready-first r =
      let w = and_parts (is_weighed b.limits.weight p) (list_all (is_weighed b.limits.weight) rest) r.weighed in
      let f = or_parts (list_any (same_text_arc p) r.done) (has_repeat same_text_arc (r.done ++ p ∷ []) rest) r.fresh in
      record {
        trans_are = r.trans_are;
        places_are = r.places_are;
        trans_fit = r.trans_fit;
        places_fit = r.places_fit;
        least = r.least;
        done = r.done;
        arcs_are = r.arcs_are;
        done_there = r.done_there;
        there = r.there.0;
        weighed = w.0;
        fresh = f.0;
        room = omega (arith, r.room, length-append (arcs_of ts ps p) (arcs ts ps rest));
      }

  arcs-after : with_all_arcs (with_all_arcs b (arcs_of ts ps p)) (arcs ts ps rest) ≡ with_all_arcs b (arcs ts ps (p ∷ rest))
  arcs-after = ap (λ xs. record b { lists = record (b.lists) { arcs = xs } }) (append_assoc b.lists.arcs (arcs_of ts ps p) (arcs ts ps rest))

-- the next of the entries is ready
pub next-first : (b : Building) (ts : List TransName) (ps : List PlaceAt) (e : Ends) (w : Option ℕ) (rest all : List (Ends × Option ℕ)) → all ≡ (e, w) ∷ rest
    → AreReady b ts ps (map weighed_view all) → IsReady b ts ps (weighed_view (e, w))
next-first b ts ps e w rest all same r = ready-first b ts ps (weighed_view (e, w)) (map weighed_view rest) (subst (λ es. AreReady b ts ps (map weighed_view es)) same r)

-- and so are those after it
pub next-ready : (b new : Building) (ts : List TransName) (ps : List PlaceAt) (e : Ends) (w : Option ℕ) (rest all : List (Ends × Option ℕ)) → all ≡ (e, w) ∷ rest
    → new ≡ with_all_arcs b (arcs_of ts ps (weighed_view (e, w))) → AreReady b ts ps (map weighed_view all) → AreReady new ts ps (map weighed_view rest)
next-ready b new ts ps e w rest all same grown r =
    subst (λ (x : Building). AreReady x ts ps (map weighed_view rest)) (sym grown)
    (ready-after b ts ps (weighed_view (e, w)) (map weighed_view rest) (subst (λ es. AreReady b ts ps (map weighed_view es)) same r))

pub next-arcs : (b new : Building) (ts : List TransName) (ps : List PlaceAt) (e : Ends) (w : Option ℕ) (rest all : List (Ends × Option ℕ)) → all ≡ (e, w) ∷ rest
    → new ≡ with_all_arcs b (arcs_of ts ps (weighed_view (e, w))) → with_all_arcs new (arcs ts ps (map weighed_view rest)) ≡ with_all_arcs b (arcs ts ps (map weighed_view all))
next-arcs b new ts ps e w rest all same grown =
    ap (λ (x : Building). with_all_arcs x (arcs ts ps (map weighed_view rest))) grown
    ∙ arcs-after b ts ps (weighed_view (e, w)) (map weighed_view rest)
    ∙ ap (λ es. with_all_arcs b (arcs ts ps (map weighed_view es))) (sym same)
