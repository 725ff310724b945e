-- Arcs whose ends differ can be put in the order of a net.
use Rattle.std.proofs.Common.{◌≡◌, suc, ◌⊎◌, inl, inr, List, [], ◌∷◌, get_or, Bool, true, false, All, AllPairs, refl, sym, arith}
use Rattle.std.specs.List.Sorted.{IsPermutation}
use Rattle.std.proofs.lemmas.Bool.{cases_order}
use Rattle.std.proofs.lemmas.List.Elements.{All-nil, All-cons, All-head, All-tail}
use Rattle.std.proofs.lemmas.List.Kept.{AllPairs-cons}
use Rattle.std.proofs.lemmas.List.Sorted.{All-permutation, IsPermutation-refl, IsPermutation-cons, IsPermutation-sym, IsPermutation-trans, IsPermutation-middle}
use Rattle.stg_net.specs.declared.arc.NetArc.{NetArc}
use Rattle.stg_net.specs.Building.{HasEnds}
use Rattle.stg_net.specs.Net.{IsBefore}

-- their ends differ
abbrev pub AreApart : NetArc → NetArc → Type 0
AreApart a b = HasEnds a b → ⊥

before_trans : (a b c : NetArc) → IsBefore a b → IsBefore b c → IsBefore a c
before_trans a b c h k = grind arith

-- of two arcs whose ends differ, one is before the other
which_first : (a b : NetArc) → AreApart a b → IsBefore a b ⊎ IsBefore b a
which_first a b apart = elim (cases_order a.place b.place) [
  | inl p ↦ elim (cases_order a.trans b.trans) [
    | inl t ↦ by_way a.into b.into refl refl p t
    | inr o ↦ elim o [ inl l ↦ inl (inr (p, inl l)) | inr l ↦ inr (inr (sym p, inl l)) ]
  ]
  | inr o ↦ elim o [ inl l ↦ inl (inl l) | inr l ↦ inr (inl l) ]
]
  where
    by_way : (v w : Bool) → a.into ≡ v → b.into ≡ w → a.place ≡ b.place → a.trans ≡ b.trans
        → IsBefore a b ⊎ IsBefore b a
    by_way true true v w p t =
        absurd (apart (record { same_place = sym p; same_trans = sym t; same_way = rw (v, w) refl }))
    by_way false false v w p t =
        absurd (apart (record { same_place = sym p; same_trans = sym t; same_way = rw (v, w) refl }))
    by_way false true v w p t = inl (inr (p, inr (t, (v, w))))
    by_way true false v w p t = inr (inr (sym p, inr (sym t, (w, v))))

-- the arcs in the order of a net
pub record IsOrderOf (arcs : List NetArc) : Type 0 where
  pub list : List NetArc
  pub moved : IsPermutation arcs list
  pub ordered : AllPairs IsBefore list

tail : (R : NetArc → NetArc → Type 0) (x : NetArc) (xs : List NetArc) → AllPairs R (x ∷ xs)
    → AllPairs R xs
tail R x xs all i j d lt below = all (suc i) (suc j) d (omega (arith, lt)) (omega (arith, below))

head : (R : NetArc → NetArc → Type 0) (x : NetArc) (xs : List NetArc) → AllPairs R (x ∷ xs)
    → All (R x) xs
head R x xs all k d below = all 0 (suc k) d (omega arith) (omega (arith, below))

-- one more arc, put in its place
with_arc : (x : NetArc) (ys : List NetArc) → AllPairs IsBefore ys → All (AreApart x) ys
    → IsOrderOf (x ∷ ys)
with_arc x [] ordered apart =
    record { list = x ∷ []; moved = IsPermutation-refl (x ∷ []); ordered = AllPairs-cons IsBefore x [] (All-nil (IsBefore x)) ordered }
with_arc x (y ∷ ys) ordered apart = elim (which_first x y (All-head (AreApart x) y ys apart)) [
  | inl first ↦ record {
    list = x ∷ y ∷ ys;
    moved = IsPermutation-refl (x ∷ y ∷ ys);
    ordered = AllPairs-cons IsBefore x (y ∷ ys) (All-cons (IsBefore x) y ys first (λ k d below. before_trans x y (get_or ys k d) first (head IsBefore y ys ordered k d below))) ordered;
  }
  | inr later ↦
      let r = with_arc x ys (tail IsBefore y ys ordered) (All-tail (AreApart x) y ys apart) in
      let behind = All-permutation (IsBefore y) (x ∷ ys) r.list r.moved (All-cons (IsBefore y) x ys later (head IsBefore y ys ordered)) in record {
        list = y ∷ r.list;
        moved = IsPermutation-trans (x ∷ y ∷ ys) (y ∷ x ∷ ys) (y ∷ r.list) (IsPermutation-sym (y ∷ x ∷ ys) (x ∷ y ∷ ys) (IsPermutation-middle (y ∷ []) x ys)) (IsPermutation-cons y (x ∷ ys) r.list r.moved);
        ordered = AllPairs-cons IsBefore y r.list behind r.ordered;
      }
]

-- arcs whose ends differ have an order
pub order_of : (arcs : List NetArc) → AllPairs AreApart arcs → IsOrderOf arcs
order_of [] apart =
    record { list = []; moved = IsPermutation-refl []; ordered = λ i j d lt below. absurd (omega (arith, below)) }
order_of (x ∷ xs) apart =
    let rest = order_of xs (tail AreApart x xs apart) in
    let r = with_arc x rest.list rest.ordered (All-permutation (AreApart x) xs rest.list rest.moved (head AreApart x xs apart)) in record {
      list = r.list;
      moved = IsPermutation-trans (x ∷ xs) (x ∷ rest.list) r.list (IsPermutation-cons x xs rest.list rest.moved) r.moved;
      ordered = r.ordered;
    }
