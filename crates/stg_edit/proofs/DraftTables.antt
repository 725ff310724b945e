-- When places made of functions are those of a contracted graph.
use Rattle.std.proofs.Common.{◌≡◌, ◌≢◌, ℕ, ◌+◌, ◌-◌, ◌<◌, ◌≤◌, List, ◌++◌, map, length, get_or, set, true, false, cond, Option, Some, eqb, refl, sym, ◌∙◌, ap, inl, inr, zero-add, arith}
use Rattle.std.specs.List.{range_with_len}
use Rattle.std.proofs.lemmas.Bool.{cases_eq, cases_lt, cases_Bool}
use Rattle.std.proofs.lemmas.List.{length-set, get_or-set_same, get_or-set_other, same_lists, length-map, length-append, get_or_append_left, get_or-append_right, get_or-map}
use Rattle.std.proofs.lemmas.List.FromFn.{length-map-range_with_len, get_or-map-range_with_len}
use Rattle.stg_net.specs.Graph.{Graph, Place, place_at, tokens_at, takes, gives}
use Rattle.stg_net.specs.Contraction.{contracted, pairs_round, remaining_place, pair_place, is_touched}
use Rattle.stg_arena.proofs.Lists.{same_map}
use Rattle.stg_edit.specs.inner.Table.{Table, table_place, table_places}

-- a list made of a function, changed at one place
pub map_but : {X : Type 0} (f h : ℕ → X) (n p : ℕ) (x : X) → ((q : ℕ) → q < n → q ≢ p → h q ≡ f q) → h p ≡ x → map h (range_with_len 0 n) ≡ set (map f (range_with_len 0 n)) p x
map_but f h n p x others here = same_lists _ _ (length-map-range_with_len h 0 n ∙ sym (length-set (map f (range_with_len 0 n)) p x ∙ length-map-range_with_len f 0 n))
    (λ k d l. let in_range : k < n = rw (← length-map-range_with_len h 0 n) l in
    get_or-map-range_with_len h 0 n k k d in_range (zero-add k) ∙ elim (cases_eq k p) [
      | inl e ↦ rw e (here ∙ sym (get_or-set_same (map f (range_with_len 0 n)) p x d (rw length-map-range_with_len (let m : p < n = omega arith in m))))
      | inr other ↦ others k in_range other ∙ sym (get_or-set_other (map f (range_with_len 0 n)) p k x d other ∙ get_or-map-range_with_len f 0 n k k d in_range (zero-add k))
    ])

-- a list made of a function, which is a list and then another
pub map_appends : {X : Type 0} (f : ℕ → X) (n : ℕ) (h : ℕ → X) (ys : List X) → ((k : ℕ) → k < n → f k ≡ h k) → ((k : ℕ) (d : X) → k < length ys → f (n + k) ≡ get_or ys k d) → map f (range_with_len 0 (n + length ys)) ≡ map h (range_with_len 0 n) ++ ys
map_appends f n h ys old new = same_lists _ _
    (length-map-range_with_len f 0 (n + length ys) ∙ sym (length-append (map h (range_with_len 0 n)) ys ∙ ap (λ k. k + length ys) (length-map-range_with_len h 0 n)))
    (λ k d l. let in_range : k < n + length ys = rw (← length-map-range_with_len f 0 (n + length ys)) l in
    get_or-map-range_with_len f 0 (n + length ys) k k d in_range (zero-add k) ∙ elim (cases_lt k n) [
      | inl low ↦ old k low ∙ sym (get_or_append_left (map h (range_with_len 0 n)) ys d k (rw length-map-range_with_len low) ∙ get_or-map-range_with_len h 0 n k k d low (zero-add k))
      | inr high ↦ rest k d high in_range
    ])
  where
    rest : (k : ℕ) (d : _) → n ≤ k → k < n + length ys → f k ≡ get_or (map h (range_with_len 0 n) ++ ys) k d
    rest k d high l = ap f (let e : k ≡ n + (k - n) = omega arith in e) ∙ new (k - n) d (omega arith) ∙ sym (get_or-append_right (map h (range_with_len 0 n)) ys n k d (length-map-range_with_len h 0 n) high)

-- the functions y stand for the graph in which t is contracted
pub record IsContractedTable (g : Graph) (t : ℕ) (y : Table) : Type 0 where
  pub removed : (p : ℕ) → p < length g.places → is_touched g t p ≡ true → y.is_live p ≡ false
  pub kept : (p : ℕ) → p < length g.places → is_touched g t p ≡ false → table_place (length g.trans) y p ≡ place_at g p
  pub live : (k : ℕ) → k < length (pairs_round g t) → y.is_live (length g.places + k) ≡ true
  pub tokens : (k p q : ℕ) → k < length (pairs_round g t) → get_or (pairs_round g t) k (0, 0) ≡ (p, q) → y.tokens (length g.places + k) ≡ tokens_at g p + tokens_at g q
  pub taken : (k p q u : ℕ) → k < length (pairs_round g t) → get_or (pairs_round g t) k (0, 0) ≡ (p, q) → u < length g.trans → y.take_weight u (length g.places + k) ≡ cond (eqb u t) 0 (takes g u p + takes g u q)
  pub given : (k p q u : ℕ) → k < length (pairs_round g t) → get_or (pairs_round g t) k (0, 0) ≡ (p, q) → u < length g.trans → y.give_weight u (length g.places + k) ≡ cond (eqb u t) 0 (gives g u p + gives g u q)

-- such functions make the places of the contracted graph
pub contracted_table : (g : Graph) (t : ℕ) (y : Table) → IsContractedTable g t y → table_places (length g.places + length (pairs_round g t)) (length g.trans) y ≡ (contracted g t).places
contracted_table g t y s =
    ap (λ n. map (table_place (length g.trans) y) (range_with_len 0 (length g.places + n))) (sym (length-map (pairs_round g t) (pair_place g t)))
    ∙ map_appends (table_place (length g.trans) y) (length g.places) (remaining_place g t) (map (pair_place g t) (pairs_round g t)) old new
  where
    old : (p : ℕ) → p < length g.places → table_place (length g.trans) y p ≡ remaining_place g t p
    old p l = elim (cases_Bool (is_touched g t p)) [ inl b ↦ rw b (rw (s.removed p l b)) | inr b ↦ rw b (s.kept p l b) ]

    there : (k : ℕ) → k < length (pairs_round g t) → table_place (length g.trans) y (length g.places + k) ≡ pair_place g t (get_or (pairs_round g t) k (0, 0))
    there k l =
        let pq = get_or (pairs_round g t) k (0, 0) in
        let tokens = s.tokens k pq.0 pq.1 l refl in
        let taken = same_map (λ u. y.take_weight u (length g.places + k)) (λ u. cond (eqb u t) 0 (takes g u pq.0 + takes g u pq.1)) (length g.trans) (λ u h. s.taken k pq.0 pq.1 u l refl h) in
        let given = same_map (λ u. y.give_weight u (length g.places + k)) (λ u. cond (eqb u t) 0 (gives g u pq.0 + gives g u pq.1)) (length g.trans) (λ u h. s.given k pq.0 pq.1 u l refl h) in
        rw (s.live k l) (λ i. Some (record { tokens = tokens i; taken = taken i; given = given i }))

    new : (k : ℕ) (d : Option Place) → k < length (map (pair_place g t) (pairs_round g t)) → table_place (length g.trans) y (length g.places + k) ≡ get_or (map (pair_place g t) (pairs_round g t)) k d
    new k d l = let m : k < length (pairs_round g t) = rw length-map at l in there k m ∙ sym (get_or-map (pair_place g t) (pairs_round g t) k (0, 0) d m)
