-- Bounds of the places and arcs that a contraction makes.
use Rattle.std.proofs.Common.{◌≡◌, ◌==◌, ℕ, ◌+◌, ◌≤◌, ◌*◌, if◌then◌else◌, Bool, cond, nat_lt, List, [], ◌∷◌, length, get_or, map, filter, All, refl, sym, ap, ◌∙◌, arith}
use Rattle.std.specs.List.{range_with_len, count_by, flat_map}
use Rattle.std.proofs.Math.Nat.{mul-le-mul_right}
use Rattle.std.proofs.lemmas.List.{length-map}
use Rattle.std.proofs.lemmas.List.Concat.{length-flat_map}
use Rattle.std.proofs.lemmas.List.Sums.{length-filter, sum_by-cons, sum_by-le}
use Rattle.stg_net.specs.Graph.{Graph, takes, gives}
use Rattle.stg_net.specs.Contraction.{pairs_round, places_before, places_after}
use Rattle.stg_arena.specs.WalkItems.{weighted}
use Rattle.stg_edit.specs.Walks.{taken_places, given_places}
use Rattle.stg_edit.specs.Replacing.{new_places, new_arcs, arcs_of_pair}
use Rattle.stg_edit.proofs.Counted.{weighted_few}

-- as many pass where each is paired with its weight
count_by-map : {X Y : Type 0} (p : Y → Bool) (f : X → Y) (xs : List X) → count_by p (map f xs) ≡ count_by (λ x. p (f x)) xs
count_by-map p f [] = refl
count_by-map p f (x ∷ xs) =
    sum_by-cons (λ y. cond (p y) 1 0) (f x) (map f xs) ∙ ap (λ n. cond (p (f x)) 1 0 + n) (count_by-map p f xs) ∙ sym (sum_by-cons (λ y. cond (p (f y)) 1 0) x xs)

-- a walk is as long as the list of the numbers that have a weight
length-weighted : (count : ℕ) (weight : ℕ → ℕ) → length (weighted count weight) ≡ length (filter (λ k. nat_lt 0 (weight k)) (range_with_len 0 count))
length-weighted count weight =
    length-filter (λ (x : ℕ × ℕ). nat_lt 0 x.1) (map (λ k. (k, weight k)) (range_with_len 0 count))
    ∙ count_by-map (λ (x : ℕ × ℕ). nat_lt 0 x.1) (λ k. (k, weight k)) (range_with_len 0 count)
    ∙ sym (length-filter (λ k. nat_lt 0 (weight k)) (range_with_len 0 count))

-- the pairs of an element of each list
pairs-le : (ps qs : List ℕ) → length (flat_map (λ p. map {B = ℕ × ℕ} (λ q. (p, q)) qs) ps) ≤ length ps * length qs
pairs-le ps qs =
    let f : ℕ → List (ℕ × ℕ) = λ p. map (λ q. (p, q)) qs in
    let few : All (λ p. length (f p) ≤ length qs) ps = λ i d below. row (get_or ps i d) in
    omega (arith, length-flat_map f ps, sum_by-le (λ p. length (f p)) (length qs) ps few)
  where
    row : (p : ℕ) → length (map {B = ℕ × ℕ} (λ q. (p, q)) qs) ≤ length qs
    row p = omega (arith, length-map {B = ℕ × ℕ} qs (λ q. (p, q)))

-- the new places are at most the arcs before t times those after it
pub new_places-le : (g : Graph) (t : ℕ) → new_places g t ≤ length (taken_places g t) * length (given_places g t)
new_places-le g t = rw (length-weighted (length g.places) (takes g t)) (rw (length-weighted (length g.places) (gives g t)) (pairs-le (places_before g t) (places_after g t)))

-- the arcs of a new place
arcs_of_pair-le : (g : Graph) (t : ℕ) (x : ℕ × ℕ) → arcs_of_pair g t x ≤ length g.trans * 2
arcs_of_pair-le g t x =
    let taken : ℕ → ℕ = λ u. if u == t then 0 else takes g u x.0 + takes g u x.1 in
    let given : ℕ → ℕ = λ u. if u == t then 0 else gives g u x.0 + gives g u x.1 in
    omega (arith, weighted_few (length g.trans) taken, weighted_few (length g.trans) given)

-- each new place has at most two arcs at each transition
pub new_arcs-le : (g : Graph) (t places : ℕ) → new_places g t ≤ places → new_arcs g t ≤ places * (length g.trans * 2)
new_arcs-le g t places room =
    let few : All (λ x. arcs_of_pair g t x ≤ length g.trans * 2) (pairs_round g t) = λ i d below. arcs_of_pair-le g t (get_or (pairs_round g t) i d) in
    omega (arith, sum_by-le (arcs_of_pair g t) (length g.trans * 2) (pairs_round g t) few, mul-le-mul_right {m = new_places g t} {n = places} (length g.trans * 2) room)
