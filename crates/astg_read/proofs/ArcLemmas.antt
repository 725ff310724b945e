-- The arcs of different text arcs have different ends.
use Rattle.std.proofs.Common.{◌≡◌, ◌≢◌, ℕ, ◌+◌, ◌<◌, zero, suc, List, [], ◌∷◌, ◌++◌, Bool, true, false, cond, not, ◌||◌, ◌&&◌, nat_eq, nat_le, ◌≤◌, drop, get_or, length, position, unwrap_or, inl, inr, refl, sym, ap, subst, ◌∙◌, Some, None, Option, All, arith}
use Rattle.std.proofs.lemmas.Bool.{cases_Bool, or_parts, and_parts, and_from, true≢false, false≢true, eqb-true, leb-true}
use Rattle.std.proofs.lemmas.List.Elements.{All-nil, All-cons, All-append}
use Rattle.std.proofs.lemmas.Slice.Eq.{bytes_eq-Decides}
use Rattle.std.specs.List.{list_any, position_or_len}
use Rattle.stg_net.specs.declared.trans.TransName.{TransName}
use Rattle.stg_net.specs.declared.arc.NetArc.{NetArc}
use Rattle.std.specs.Option.{option_map_or}
use Rattle.stg_net.specs.Building.{Building, HasEnds}
use Rattle.astg_read.specs.inner.Construction.{IsReady}
use Rattle.astg_read.specs.Targets.{is_weight}
use Rattle.stg_net.specs.Net.{is_edge}
use Rattle.stg_net.proofs.Edges.{is_edge-true}
use Rattle.astg_read.specs.Nodes.{Node, Trans, Place, same_trans, same_node}
use Rattle.astg_read.specs.Lists.{has_repeat}
use Rattle.astg_read.specs.Graphs.{TextArc, PlaceAt, Named, Between, same_text_arc, same_place, trans_number, place_number, node_arcs, arcs_of, arcs}
use Rattle.astg_read.specs.inner.WellFormed.{IsNodeIn, IsBetweenIn, AreTextArcsIn}
use Rattle.astg_read.proofs.NumberLemmas.{position_there, same_trans-refl, found_within}

pub trans-eq : (t u : TransName) → same_trans t u ≡ true → t ≡ u
trans-eq t u h =
    let q = and_parts (nat_eq t.signal u.signal) (is_edge t.edge u.edge && nat_eq t.index u.index) h in
    let r = and_parts (is_edge t.edge u.edge) (nat_eq t.index u.index) q.1 in
    (λ j. record { signal = eqb-true t.signal u.signal q.0 j; edge = is_edge-true t.edge u.edge r.0 j; index = eqb-true t.index u.index r.1 j })

pub place-eq : (p q : PlaceAt) → same_place p q ≡ true → p ≡ q
place-eq (Named p) (Named q) h = ap Named ((bytes_eq-Decides p q).0 h)
place-eq (Named p) (Between t u) h = absurd (false≢true h)
place-eq (Between t u) (Named q) h = absurd (false≢true h)
place-eq (Between t u) (Between v w) h = let q = and_parts (same_trans t v) (same_trans u w) h in (λ j. Between (trans-eq t v q.0 j) (trans-eq u w q.1 j))

-- what has the same number is the same
module _ {X : Type 0} (same : X → X → Bool) (eq : (x y : X) → same x y ≡ true → x ≡ y) where
  first-same : (xs : List X) (x y : X) → list_any (same x) xs ≡ true → list_any (same y) xs ≡ true → position_or_len (same x) xs ≡ position_or_len (same y) xs → x ≡ y
  first-same [] x y h k e = absurd (false≢true h)
  first-same (z ∷ zs) x y h k e = elim (cases_Bool (same x z)) [
    | inl a ↦ elim (cases_Bool (same y z)) [
      | inl b ↦ eq x z a ∙ sym (eq y z b)
      | inr b ↦ absurd (omega (arith, e, ap {B = ℕ} (λ c. cond (not c) (1 + position_or_len (same x) zs) 0) a, ap {B = ℕ} (λ c. cond (not c) (1 + position_or_len (same y) zs) 0) b))
    ]
    | inr a ↦ elim (cases_Bool (same y z)) [
      | inl b ↦ absurd (omega (arith, e, ap {B = ℕ} (λ c. cond (not c) (1 + position_or_len (same x) zs) 0) a, ap {B = ℕ} (λ c. cond (not c) (1 + position_or_len (same y) zs) 0) b))
      | inr b ↦ first-same zs x y (sym (ap (λ c. c || list_any (same x) zs) a) ∙ h) (sym (ap (λ c. c || list_any (same y) zs) b) ∙ k)
          (omega (arith, e, ap {B = ℕ} (λ c. cond (not c) (1 + position_or_len (same x) zs) 0) a, ap {B = ℕ} (λ c. cond (not c) (1 + position_or_len (same y) zs) 0) b))
    ]
  ]

  number-same : (xs : List X) (x y : X) → list_any (same x) xs ≡ true → list_any (same y) xs ≡ true → unwrap_or (position (same x) xs) 0 ≡ unwrap_or (position (same y) xs) 0 → x ≡ y
  number-same xs x y h k e = first-same xs x y h k (sym (ap (λ o. unwrap_or o 0) (position_there (same x) xs h)) ∙ e ∙ ap (λ o. unwrap_or o 0) (position_there (same y) xs k))

-- a number that stands for something there is below the length
pub number-below : {X : Type 0} (same : X → X → Bool) (xs : List X) (x : X) → list_any (same x) xs ≡ true → unwrap_or (position (same x) xs) 0 < length xs
number-below same xs x h = omega (arith, ap (λ o. unwrap_or o 0) (position_there (same x) xs h), found_within (same x) xs h)

-- what an arc says: its place, its transition and its way
pub record Arrow : Type 0 where
  pub place : PlaceAt
  pub trans : TransName
  pub into : Bool

abbrev pub IsArrowIn : List TransName → List PlaceAt → Arrow → Type 0
IsArrowIn ts ps a = (list_any (same_trans a.trans) ts ≡ true) × (list_any (same_place a.place) ps ≡ true)

abbrev pub arc_of : List TransName → List PlaceAt → ℕ → Arrow → NetArc
arc_of ts ps w a = record { place = place_number ps a.place; trans = trans_number ts a.trans; into = a.into; weight = w }

-- arcs with the same ends say the same
pub arrows-same : (ts : List TransName) (ps : List PlaceAt) (v w : ℕ) (a b : Arrow) → IsArrowIn ts ps a → IsArrowIn ts ps b → HasEnds (arc_of ts ps v a) (arc_of ts ps w b) → a ≡ b
arrows-same ts ps v w a b h k e =
    let p = number-same same_place place-eq ps b.place a.place k.1 h.1 e.same_place in
    let t = number-same same_trans trans-eq ts b.trans a.trans k.0 h.0 e.same_trans in
    (λ j. record { place = sym p j; trans = sym t j; into = sym e.same_way j })

-- the nodes between which an arrow goes
abbrev pub nodes_by : Bool → TransName → PlaceAt → Node × Node
nodes_by true t (Named p) = (Trans t, Place p)
nodes_by false t (Named p) = (Place p, Trans t)
nodes_by b t (Between u v) = (Trans u, Trans v)

abbrev pub nodes_of : Arrow → Node × Node
nodes_of a = nodes_by a.into a.trans a.place

-- an arc between two nodes that are there
pub record IsArcFrom (ts : List TransName) (ps : List PlaceAt) (m n : Node) (b : NetArc) : Type 0 where
  pub arrow : Arrow
  pub weight : ℕ
  pub is : b ≡ arc_of ts ps weight arrow
  pub source : (nodes_of arrow).0 ≡ m
  pub target : (nodes_of arrow).1 ≡ n
  pub inside : IsArrowIn ts ps arrow

abbrev pub AllArcs : (NetArc → Type 0) → List NetArc → Type 0
AllArcs Q [] = Unit {0}
AllArcs Q (b ∷ bs) = Q b × AllArcs Q bs

-- each arc of two nodes that are there is such
pub arcs-from : (ts : List TransName) (ps : List PlaceAt) (w : ℕ) (m n : Node) → IsNodeIn ts ps m → IsNodeIn ts ps n → IsBetweenIn ps m n → AllArcs (IsArcFrom ts ps m n) (node_arcs ts ps w m n)
arcs-from ts ps w (Trans t) (Place p) h k l = (record { arrow = record { place = Named p; trans = t; into = true }; weight = w; is = refl; source = refl; target = refl; inside = (h, k) }, tt)
arcs-from ts ps w (Place p) (Trans t) h k l = (record { arrow = record { place = Named p; trans = t; into = false }; weight = w; is = refl; source = refl; target = refl; inside = (k, h) }, tt)
arcs-from ts ps w (Trans t) (Trans u) h k l = (
  record { arrow = record { place = Between t u; trans = t; into = true }; weight = 1; is = refl; source = refl; target = refl; inside = (h, l) },
  (record { arrow = record { place = Between t u; trans = u; into = false }; weight = 1; is = refl; source = refl; target = refl; inside = (k, l) }, tt),
)
arcs-from ts ps w (Place p) (Place q) h k l = tt

same_node-refl : (n : Node) → same_node n n ≡ true
same_node-refl (Trans t) = same_trans-refl t
same_node-refl (Place p) = (bytes_eq-Decides p p).1 refl

-- arcs of different pairs of nodes have different ends
arcs-apart : (ts : List TransName) (ps : List PlaceAt) (m n k l : Node) (a b : NetArc) → IsArcFrom ts ps m n a → IsArcFrom ts ps k l b → (same_node m k && same_node n l) ≡ false → HasEnds a b → ⊥
arcs-apart ts ps m n k l a b f g h e =
    let e2 : HasEnds (arc_of ts ps f.weight f.arrow) (arc_of ts ps g.weight g.arrow) = subst (λ x. HasEnds x (arc_of ts ps g.weight g.arrow)) f.is (subst (λ y. HasEnds a y) g.is e) in
    let same = arrows-same ts ps f.weight g.weight f.arrow g.arrow f.inside g.inside e2 in
    let s : m ≡ k = sym f.source ∙ ap (λ (x : Arrow). (nodes_of x).0) same ∙ g.source in
    let t : n ≡ l = sym f.target ∙ ap (λ (x : Arrow). (nodes_of x).1) same ∙ g.target in
    true≢false (sym (and_from (same_node m k) (same_node n l) (ap (same_node m) (sym s) ∙ same_node-refl m) (ap (same_node n) (sym t) ∙ same_node-refl n)) ∙ h)

all-from : {Q : NetArc → Type 0} (R : NetArc → Type 0) → ((b : NetArc) → Q b → R b) → (bs : List NetArc) → AllArcs Q bs → All R bs
all-from R f [] h = All-nil R
all-from R f (b ∷ bs) h = All-cons R b bs (f b h.0) (all-from R f bs h.1)

-- an arc of a text arc that didn't stand before is fresh among the arcs before
pub arc-fresh : (ts : List TransName) (ps : List PlaceAt) (p : TextArc) (a : NetArc) (done : List TextArc) → IsArcFrom ts ps p.source p.target a → AreTextArcsIn ts ps done → list_any (same_text_arc p) done ≡ false
    → All (λ b. HasEnds a b → ⊥) (arcs ts ps done)
arc-fresh ts ps p a [] f h k = All-nil (λ b. HasEnds a b → ⊥)
arc-fresh ts ps p a (q ∷ done) f h k =
    let parts = or_parts (same_text_arc p q) (list_any (same_text_arc p) done) k in
    All-append (λ b. HasEnds a b → ⊥) (arcs_of ts ps q) (arcs ts ps done)
    (all-from (λ b. HasEnds a b → ⊥) (λ b g. arcs-apart ts ps p.source p.target q.source q.target a b f g parts.0) (arcs_of ts ps q)
    (arcs-from ts ps (unwrap_or q.weight 1) q.source q.target h.0.source_there h.0.target_there h.0.between_there))
    (arc-fresh ts ps p a done f h.1 parts.1)

-- the transitions so far, where the next one stands nowhere among them
all-other : (x : TransName) (seen : List TransName) → list_any (same_trans x) seen ≡ false → All (λ t. t ≢ x) seen
all-other x [] h = All-nil (λ t. t ≢ x)
all-other x (t ∷ seen) h =
    let q = or_parts (same_trans x t) (list_any (same_trans x) seen) h in
    All-cons (λ t. t ≢ x) t seen (λ e. true≢false (sym (ap (same_trans x) e ∙ same_trans-refl x) ∙ q.0)) (all-other x seen q.1)

pub next-other : (seen ts : List TransName) (i : ℕ) (d : TransName) → i < length ts → has_repeat same_trans seen (drop i ts) ≡ false → All (λ t. t ≢ get_or ts i d) seen
next-other seen [] i d below h = absurd (omega (arith, below))
next-other seen (t ∷ ts) zero d below h = all-other t seen (or_parts (list_any (same_trans t) seen) (has_repeat same_trans (seen ++ t ∷ []) ts) h).0
next-other seen (t ∷ ts) (suc i) d below h = next-other seen ts i d (omega (arith, below)) h

-- what an arc has to meet to be added
pub record Meets (b : Building) (a : NetArc) : Type 0 where
  pub place : a.place < length b.lists.tokens
  pub trans : a.trans < length b.lists.trans
  pub fresh : All (λ c. HasEnds a c → ⊥) b.lists.arcs

-- what each arc of the next text arc meets
module _ (b : Building) (ts : List TransName) (ps : List PlaceAt) (p : TextArc) (r : IsReady b ts ps p) where
  pub trans-below : (t : TransName) → list_any (same_trans t) ts ≡ true → trans_number ts t < length b.lists.trans
  trans-below t h = omega (arith, number-below same_trans ts t h, r.trans_are)

  pub place-below : (q : PlaceAt) → list_any (same_place q) ps ≡ true → place_number ps q < length b.lists.tokens
  place-below q h = omega (arith, number-below same_place ps q h, r.places_are)

  by_weight : (o : Option ℕ) → option_map_or (λ w. is_weight b.limits.weight (Some w)) o true ≡ true → (1 ≤ unwrap_or o 1) × (unwrap_or o 1 ≤ b.limits.weight)
  by_weight None h = (omega arith, r.least)
  by_weight (Some w) h = let q = and_parts (nat_le 1 w) (nat_le w b.limits.weight) h in (leb-true 1 w q.0, leb-true w b.limits.weight q.1)

  pub weight-fits : (1 ≤ unwrap_or p.weight 1) × (unwrap_or p.weight 1 ≤ b.limits.weight)
  weight-fits = by_weight p.weight r.weighed

  pub arc-new : (a : NetArc) → IsArcFrom ts ps p.source p.target a → All (λ c. HasEnds a c → ⊥) b.lists.arcs
  arc-new a f = subst (All (λ c. HasEnds a c → ⊥)) (sym r.arcs_are) (arc-fresh ts ps p a r.done f r.done_there r.fresh)

  pub meets : (a : NetArc) → IsArcFrom ts ps p.source p.target a → Meets b a
  meets a f = record {
    place = subst (λ (y : NetArc). y.place < length b.lists.tokens) (sym f.is) (place-below f.arrow.place f.inside.1);
    trans = subst (λ (y : NetArc). y.trans < length b.lists.trans) (sym f.is) (trans-below f.arrow.trans f.inside.0);
    fresh = arc-new a f;
  }

-- an arc of the other way is fresh after the first one
pub second-fresh : (xs : List NetArc) (a c : NetArc) → a.into ≡ true → c.into ≡ false → All (λ x. HasEnds c x → ⊥) xs → All (λ x. HasEnds c x → ⊥) (xs ++ a ∷ [])
second-fresh xs a c h k all = All-append (λ x. HasEnds c x → ⊥) xs (a ∷ []) all (All-cons (λ x. HasEnds c x → ⊥) a [] (λ e. true≢false (sym h ∙ e.same_way ∙ k)) (All-nil (λ x. HasEnds c x → ⊥)))
