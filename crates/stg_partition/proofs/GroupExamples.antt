-- The plain groups of the nets of Examples.
use Rattle.std.proofs.Common.{◌≡◌, ◌<◌, ◌&&◌, ◌||◌, ℕ, zero, suc, not, Bool, true, List, [], ◌∷◌, length, get_or, All, Any, AllPairs, Contains, IsTrue, refl, sym, ap, ◌∙◌, subst, arith}
use Rattle.std.specs.List.{list_all, range_with_len}
use Rattle.std.specs.List.Sorted.{IsStrictlyIncreasing}
use Rattle.std.proofs.lemmas.Bool.{and_parts, false≢true}
use Rattle.std.proofs.lemmas.List.Elements.{All-nil, All-cons}
use Rattle.std.proofs.lemmas.List.FromFn.{length-range_with_len, get_or-range_with_len}
use Rattle.std.proofs.lemmas.List.Sums.{AllPass-from_list_all}
use Rattle.stg_net.specs.Net.{NetLists}
use Rattle.stg_net.specs.Component.{is_one_of}
use Rattle.stg_net.proofs.Members.{contained-one_of}
use Rattle.stg_laws.specs.Groups.{is_driven_at, share_place, in_conflict, known_to, LeadsTo, AreJoined, IsPlainGroup, least_own}
use Rattle.stg_laws.specs.PlainGroups.{Group, ArePlainGroups}
use Rattle.stg_laws.proofs.SignalConflicts.{driven_there, joined_itself}
use Rattle.stg_partition.proofs.Examples.{bus, shared, linked}

-- whether all that is in conflict with an own signal is own
abbrev stays : NetLists → List ℕ → Bool
stays n own = list_all (λ x. list_all (λ y. not (in_conflict n x y) || is_one_of own y) (range_with_len 0 (length n.signals))) own

conflict_own : (n : NetLists) (own : List ℕ) (x y : ℕ) → stays n own ≡ true → Contains own x → in_conflict n x y ≡ true → Contains own y
conflict_own n own x y e c f =
    let parts = and_parts (is_driven_at n.signals x && is_driven_at n.signals y) (share_place n x y) f in
    let there = driven_there n y (and_parts (is_driven_at n.signals x) (is_driven_at n.signals y) parts.0).1 in
    let tests : ℕ → Bool = λ k. list_all (λ j. not (in_conflict n k j) || is_one_of own j) (range_with_len 0 (length n.signals)) in
    let own_passes : tests x ≡ true = ap tests (sym c.2) ∙ AllPass-from_list_all tests own e c.0 x c.1 in
    let test : ℕ → Bool = λ j. not (in_conflict n x j) || is_one_of own j in
    let at : get_or (range_with_len 0 (length n.signals)) y 0 ≡ y = omega (arith, get_or-range_with_len 0 (length n.signals) y 0 there) in
    let passes : test y ≡ true = ap test (sym at) ∙ AllPass-from_list_all test (range_with_len 0 (length n.signals)) own_passes y 0 (omega (arith, there, length-range_with_len 0 (length n.signals))) in
    let own_y : is_one_of own y ≡ true = rw f at passes in
    contained-one_of own y own_y

leads_own : (n : NetLists) (own : List ℕ) (x y : ℕ) (path : List ℕ) → stays n own ≡ true → Contains own x → LeadsTo n x path y → Contains own y
leads_own n own x y [] e c leads = subst (λ s. Contains own s) leads c
leads_own n own x y (z ∷ path) e c leads = leads_own n own z y path e (conflict_own n own x z e c leads.0) leads.1

-- a list of joined signals from which no conflict leads out
group_of_joined : (n : NetLists) (s : ℕ) (own : List ℕ) → is_driven_at n.signals s ≡ true → IsStrictlyIncreasing (s ∷ own) → All (AreJoined n s) (s ∷ own) → stays n (s ∷ own) ≡ true → IsPlainGroup n (s ∷ own)
group_of_joined n s own driven ascends joins e = record {
  driven = driven;
  ascends = ascends;
  joined = λ y. (λ c. subst (AreJoined n s) c.2 (joins c.0 y c.1), λ j. leads_own n (s ∷ own) s y j.path e (0, omega arith, refl) j.leads);
}

-- one signal that is in conflict with no other one
single : (n : NetLists) (s : ℕ) → is_driven_at n.signals s ≡ true → stays n (s ∷ []) ≡ true → IsPlainGroup n (s ∷ [])
single n s driven e = group_of_joined n s [] driven (λ k below. absurd (omega arith)) (All-cons (AreJoined n s) s [] (joined_itself n s s refl) (All-nil (AreJoined n s))) e

abbrev group : List ℕ → List ℕ → Group
group own known = record { own = own; known = known }

abbrev bus_groups : List Group
bus_groups = group (2 ∷ []) (0 ∷ 1 ∷ 2 ∷ 3 ∷ []) ∷ group (3 ∷ []) (0 ∷ 1 ∷ 3 ∷ []) ∷ group (4 ∷ []) (3 ∷ 4 ∷ []) ∷ []

-- the outputs of the bus controller are groups of their own
bus_are_plain : ArePlainGroups bus bus_groups
bus_are_plain = record {
  plain = plain;
  whole = whole;
  ordered = ordered;
  known = known;
}
  where
    plain : All (λ (g : Group). IsPlainGroup bus g.own) bus_groups
    plain zero d below = single bus 2 refl refl
    plain (suc zero) d below = single bus 3 refl refl
    plain (suc (suc zero)) d below = single bus 4 refl refl
    plain (suc (suc (suc k))) d below = absurd (omega arith)

    whole : (s : ℕ) → IsTrue (is_driven_at bus.signals s) → Any (λ (g : Group). Contains g.own s) bus_groups
    whole zero e = absurd (false≢true e)
    whole (suc zero) e = absurd (false≢true e)
    whole (suc (suc zero)) e = (0, group (2 ∷ []) (0 ∷ 1 ∷ 2 ∷ 3 ∷ []), omega arith, refl, (0, omega arith, refl))
    whole (suc (suc (suc zero))) e = (1, group (3 ∷ []) (0 ∷ 1 ∷ 3 ∷ []), omega arith, refl, (0, omega arith, refl))
    whole (suc (suc (suc (suc zero)))) e = (2, group (4 ∷ []) (3 ∷ 4 ∷ []), omega arith, refl, (0, omega arith, refl))
    whole (suc (suc (suc (suc (suc s))))) e = absurd (false≢true e)

    ordered : AllPairs (λ (g h : Group). least_own g.own < least_own h.own) bus_groups
    ordered zero zero d lt below = absurd (omega arith)
    ordered zero (suc zero) d lt below = omega arith
    ordered zero (suc (suc zero)) d lt below = omega arith
    ordered (suc zero) (suc (suc zero)) d lt below = omega arith
    ordered (suc i) zero d lt below = absurd (omega arith)
    ordered (suc i) (suc zero) d lt below = absurd (omega arith)
    ordered (suc (suc i)) (suc (suc zero)) d lt below = absurd (omega arith)
    ordered i (suc (suc (suc k))) d lt below = absurd (omega arith)

    known : All (λ (g : Group). g.known ≡ known_to bus g.own) bus_groups
    known zero d below = refl
    known (suc zero) d below = refl
    known (suc (suc zero)) d below = refl
    known (suc (suc (suc k))) d below = absurd (omega arith)

-- the output that shares its place with an input
shared_are_plain : ArePlainGroups shared (group (2 ∷ []) (0 ∷ 1 ∷ 2 ∷ []) ∷ [])
shared_are_plain = record { plain = plain; whole = whole; ordered = λ i k d lt below. absurd (omega arith); known = known }
  where
    plain : All (λ (g : Group). IsPlainGroup shared g.own) (group (2 ∷ []) (0 ∷ 1 ∷ 2 ∷ []) ∷ [])
    plain zero d below = single shared 2 refl refl
    plain (suc k) d below = absurd (omega arith)

    whole : (s : ℕ) → IsTrue (is_driven_at shared.signals s) → Any (λ (g : Group). Contains g.own s) (group (2 ∷ []) (0 ∷ 1 ∷ 2 ∷ []) ∷ [])
    whole zero e = absurd (false≢true e)
    whole (suc zero) e = absurd (false≢true e)
    whole (suc (suc zero)) e = (0, group (2 ∷ []) (0 ∷ 1 ∷ 2 ∷ []), omega arith, refl, (0, omega arith, refl))
    whole (suc (suc (suc s))) e = absurd (false≢true e)

    known : All (λ (g : Group). g.known ≡ known_to shared g.own) (group (2 ∷ []) (0 ∷ 1 ∷ 2 ∷ []) ∷ [])
    known zero d below = refl
    known (suc k) d below = absurd (omega arith)

-- three signals, linked by the one in the middle
linked_are_plain : ArePlainGroups linked (group (0 ∷ 1 ∷ 2 ∷ []) (0 ∷ 1 ∷ 2 ∷ []) ∷ [])
linked_are_plain = record { plain = plain; whole = whole; ordered = λ i k d lt below. absurd (omega arith); known = known }
  where
    rises : IsStrictlyIncreasing (0 ∷ 1 ∷ 2 ∷ [])
    rises zero below = omega arith
    rises (suc zero) below = omega arith
    rises (suc (suc k)) below = absurd (omega arith)

    joins : All (AreJoined linked 0) (0 ∷ 1 ∷ 2 ∷ [])
    joins zero d below = record { path = []; leads = refl }
    joins (suc zero) d below = record { path = 1 ∷ []; leads = (refl, refl) }
    joins (suc (suc zero)) d below = record { path = 1 ∷ 2 ∷ []; leads = (refl, (refl, refl)) }
    joins (suc (suc (suc k))) d below = absurd (omega arith)

    plain : All (λ (g : Group). IsPlainGroup linked g.own) (group (0 ∷ 1 ∷ 2 ∷ []) (0 ∷ 1 ∷ 2 ∷ []) ∷ [])
    plain zero d below = group_of_joined linked 0 (1 ∷ 2 ∷ []) refl rises joins refl
    plain (suc k) d below = absurd (omega arith)

    whole : (s : ℕ) → IsTrue (is_driven_at linked.signals s) → Any (λ (g : Group). Contains g.own s) (group (0 ∷ 1 ∷ 2 ∷ []) (0 ∷ 1 ∷ 2 ∷ []) ∷ [])
    whole zero e = (0, group (0 ∷ 1 ∷ 2 ∷ []) (0 ∷ 1 ∷ 2 ∷ []), omega arith, refl, (0, omega arith, refl))
    whole (suc zero) e = (0, group (0 ∷ 1 ∷ 2 ∷ []) (0 ∷ 1 ∷ 2 ∷ []), omega arith, refl, (1, omega arith, refl))
    whole (suc (suc zero)) e = (0, group (0 ∷ 1 ∷ 2 ∷ []) (0 ∷ 1 ∷ 2 ∷ []), omega arith, refl, (2, omega arith, refl))
    whole (suc (suc (suc s))) e = absurd (false≢true e)

    known : All (λ (g : Group). g.known ≡ known_to linked g.own) (group (0 ∷ 1 ∷ 2 ∷ []) (0 ∷ 1 ∷ 2 ∷ []) ∷ [])
    known zero d below = refl
    known (suc k) d below = absurd (omega arith)
