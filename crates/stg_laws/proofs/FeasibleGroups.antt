-- Plain groups are feasible, and feasible groups are closed and few.
use Rattle.std.proofs.Common.{◌≡◌, ◌≢◌, ℕ, ◌<◌, ◌≤◌, true, List, [], length, get_or, map, All, AllPairs, Contains, sym, ◌∙◌, subst, arith, refl}
use Rattle.std.specs.List.{list_any}
use Rattle.std.proofs.Math.Dec.{eqb}
use Rattle.std.proofs.lemmas.Bool.{eqb-true}
use Rattle.std.proofs.lemmas.Bool.Decides.{Decides-eqb}
use Rattle.std.proofs.lemmas.List.{get_or-map, get_or_default, length-map}
use Rattle.std.proofs.lemmas.Map.Made.{IsDistinct-from_AllPairs}
use Rattle.std.proofs.lemmas.Map.Steps.{length-le_from_distinct_below}
use Rattle.stg_net.specs.Net.{NetLists, IsNet}
use Rattle.stg_net.specs.Initial.{graph_of}
use Rattle.stg_net.proofs.Members.{first_least}
use Rattle.stg_laws.specs.Closed.{IsClosed}
use Rattle.stg_laws.specs.Groups.{names_at, IsPlainGroup, least_own}
use Rattle.stg_laws.specs.PlainGroups.{Group, ArePlainGroups, IsFeasibleGroup, AreFeasible, AreClosed}
use Rattle.stg_laws.proofs.KnownSignals.{passing, known_closes}
use Rattle.stg_laws.proofs.SignalConflicts.{joined_back, joined_driven, joined_itself, joined_on, joined_once, driven_there}

member : (own : List ℕ) (k d : ℕ) → k < length own → Contains own (get_or own k d)
member own k d inside = (k, inside, get_or_default own k (get_or own k d) d inside)

-- a plain group has its least signal
plain_least : (n : NetLists) (own : List ℕ) → IsPlainGroup n own → Contains own (least_own own)
plain_least n own plain = (plain.joined (least_own own)).1 (joined_itself n (least_own own) (least_own own) refl)

plain_group_feasible : (n : NetLists) (groups : List Group) → ArePlainGroups n groups → All (IsFeasibleGroup n) groups
plain_group_feasible n groups a k d inside =
    let g = get_or groups k d in
    let plain = a.plain k d inside in
    record {
      driven = λ i e within. joined_driven n (least_own g.own) (get_or g.own i e) plain.driven ((plain.joined (get_or g.own i e)).0 (member g.own i e within));
      ascends = plain.ascends;
      has_one = omega (arith, (plain_least n g.own plain).1);
      known = a.known k d inside;
    }

-- groups with a common signal have one least signal
common_least : (n : NetLists) (own other : List ℕ) (s : ℕ) → IsPlainGroup n own → IsPlainGroup n other → Contains own s → Contains other s → least_own own ≡ least_own other
common_least n own other s plain also mine theirs =
    let x = least_own own in
    let y = least_own other in
    let there = (plain.joined s).0 mine in
    let back = (also.joined s).0 theirs in
    let one = (plain.joined y).1 (joined_on n x s y there (joined_back n y s back)) in
    let two = (also.joined x).1 (joined_on n y s x back (joined_back n x s there)) in
    omega (arith, first_least own y plain.ascends one, first_least other x also.ascends two)

-- plain groups are feasible
pub plain_feasible : (n : NetLists) (groups : List Group) → ArePlainGroups n groups → AreFeasible n groups
plain_feasible n groups a = record {
  feasible = plain_group_feasible n groups a;
  whole = a.whole;
  apart = λ i j d up inside s mine theirs.
      let same = common_least n (get_or groups i d).own (get_or groups j d).own s (a.plain i d (omega (arith, up, inside))) (a.plain j d inside) mine theirs in
      absurd (omega (arith, same, a.ordered i j d up inside));
  together = λ x y conflict k d inside has.
      let own = (get_or groups k d).own in
      let plain = a.plain k d inside in
      (plain.joined y).1 (joined_on n (least_own own) x y ((plain.joined x).0 has) (joined_once n x y conflict));
}

-- the own signals of a feasible group are signals of the net
pub own_there : (n : NetLists) (g : Group) → IsFeasibleGroup n g → All (λ s. s < length n.signals) g.own
own_there n g feasible k d inside = driven_there n (get_or g.own k d) (feasible.driven k d inside)

-- each feasible group is closed
pub feasible_closed : (n : NetLists) (groups : List Group) → IsNet n → AreFeasible n groups → AreClosed n groups
feasible_closed n groups net a k d inside =
    let g = get_or groups k d in
    let feasible = a.feasible k d inside in
    let P : List ℕ → Type 0 = λ known. IsClosed (graph_of n) (names_at n g.own) (names_at n known) in
    subst P (sym feasible.known) (known_closes n g.own net (own_there n g feasible))

abbrev firsts : List Group → List ℕ
firsts groups = map (λ (g : Group). least_own g.own) groups

-- a feasible group has its least signal
feasible_first : (n : NetLists) (g : Group) → IsFeasibleGroup n g → Contains g.own (least_own g.own)
feasible_first n g feasible = member g.own 0 0 feasible.has_one

first_at : (groups : List Group) (k d : ℕ) (g : Group) → k < length groups → get_or (firsts groups) k d ≡ least_own (get_or groups k g).own
first_at groups k d g inside = get_or-map (λ (x : Group). least_own x.own) groups k g d inside

many_firsts : (groups : List Group) → length (firsts groups) ≡ length groups
many_firsts groups = length-map groups (λ (x : Group). least_own x.own)

-- no two feasible groups have one least signal
firsts_differ : (n : NetLists) (groups : List Group) (nowhere : Group) → AreFeasible n groups → AllPairs (λ x y. x ≢ y) (firsts groups)
firsts_differ n groups nowhere a i j d up inside same =
    let below : j < length groups = omega (arith, inside, many_firsts groups) in
    let g = get_or groups i nowhere in
    let h = get_or groups j nowhere in
    let s = least_own h.own in
    let one : least_own g.own ≡ s = sym (first_at groups i d nowhere (omega (arith, up, below))) ∙ same ∙ first_at groups j d nowhere below in
    a.apart i j nowhere up below s (subst (Contains g.own) one (feasible_first n g (a.feasible i nowhere (omega (arith, up, below))))) (feasible_first n h (a.feasible j nowhere below))

-- the least signals of feasible groups are signals of the net
firsts_there : (n : NetLists) (groups : List Group) (nowhere : Group) → AreFeasible n groups → (q : ℕ) → list_any (eqb q) (firsts groups) ≡ true → q < length n.signals
firsts_there n groups nowhere a q found =
    let f = passing (eqb q) (firsts groups) found in
    let below : f.at < length groups = omega (arith, f.inside, many_firsts groups) in
    let g = get_or groups f.at nowhere in
    let same : q ≡ least_own g.own = eqb-true q f.item f.passes ∙ sym (f.item_is 0) ∙ first_at groups f.at 0 nowhere below in
    let feasible = a.feasible f.at nowhere below in
    omega (arith, same, own_there n g feasible 0 0 feasible.has_one)

-- there are at most as many feasible groups as signals
pub feasible_few : (n : NetLists) (groups : List Group) → AreFeasible n groups → length groups ≤ length n.signals
feasible_few n groups a =
    let nowhere : Group = record { own = []; known = [] } in
    omega (arith, many_firsts groups, length-le_from_distinct_below (firsts groups) (length n.signals) (IsDistinct-from_AllPairs Decides-eqb (firsts groups) (firsts_differ n groups nowhere a)) (firsts_there n groups nowhere a))
