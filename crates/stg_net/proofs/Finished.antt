-- What a builder holds is a net, once its arcs are sorted.
use Rattle.std.proofs.Common.{◌≡◌, ◌≢◌, ℕ, ◌+◌, ◌<◌, ◌≤◌, ◌⊎◌, Bool, true, false, true≢false, Ordering, List, [], ◌∷◌, length, map, get_or, All, AllPairs, sym, ◌∙◌, arith}
use Rattle.std.specs.List.{IsDistinct, AllByRecursion}
use Rattle.std.specs.List.Sorted.{IsPermutation, IsSorted}
use Rattle.std.specs.Map.{keys_of}
use Rattle.std.specs.Ordering.{ordering_then, nat_cmp, bool_cmp, is_lt}
use Rattle.std.proofs.lemmas.Bool.Decides.{nat_tests}
use Rattle.std.proofs.lemmas.List.{length-map}
use Rattle.std.proofs.lemmas.List.Elements.{All-nil, All-cons}
use Rattle.std.proofs.lemmas.List.Kept.{AllPairs-cons}
use Rattle.std.proofs.lemmas.List.Sorted.{All-permutation, length_permutation}
use Rattle.std.proofs.lemmas.Slice.Eq.{bytes_eq-Decides}
use Rattle.stg_net.specs.declared.signal.Signal.{Signal}
use Rattle.stg_net.specs.declared.signal.Kind.{Kind}
use Rattle.stg_net.specs.declared.arc.NetArc.{NetArc}
use Rattle.stg_net.specs.declared.builder.NetBuilder.TheInside.{Inside}
use Rattle.stg_net.specs.Net.{IsNet, IsBefore, IsArcOf, IsWithin}
use Rattle.stg_net.specs.Building.{HasEnds}
use Rattle.stg_net.specs.Builder.{Name, name_eq, entry_signal, IsBuilder}
use Rattle.stg_net.proofs.Pairs.{AllPairs-permutation, AllPairs-from_adjacent}

-- the order in which a sort puts arcs
abbrev arc_cmp : NetArc → NetArc → Ordering
arc_cmp a b = ordering_then (nat_cmp a.place b.place) (ordering_then (nat_cmp a.trans b.trans) (ordering_then (bool_cmp a.into b.into) (nat_cmp a.weight b.weight)))

apart : (x y : Name) → name_eq x y ≡ false → x.items ≢ y.items
apart x y unlike same = true≢false (sym ((bytes_eq-Decides x.items y.items).1 same) ∙ unlike)

first_apart : (e : Name × Kind) (es : List (Name × Kind)) → AllByRecursion (λ k. name_eq e.0 k ≡ false) (keys_of es) → All (λ (t : Signal). e.0.items ≢ t.name) (map entry_signal es)
first_apart e [] unlike = All-nil _
first_apart e (f ∷ es) unlike = All-cons (λ (t : Signal). e.0.items ≢ t.name) (entry_signal f) (map entry_signal es) (apart e.0 f.0 unlike.0) (first_apart e es unlike.1)

names_apart : (es : List (Name × Kind)) → IsDistinct name_eq (keys_of es) → AllPairs (λ (s t : Signal). s.name ≢ t.name) (map entry_signal es)
unfolding IsDistinct
names_apart [] unlike = λ i j d lt below. absurd (omega arith)
names_apart (e ∷ es) unlike = AllPairs-cons (λ (s t : Signal). s.name ≢ t.name) (entry_signal e) (map entry_signal es) (first_apart e es unlike.0) (names_apart es unlike.1)

-- of two arcs with different ends, the one that isn't after the other is before it
in_order : (p q t u v w : ℕ) (a b : Bool) → is_lt (ordering_then (nat_cmp q p) (ordering_then (nat_cmp u t) (ordering_then (bool_cmp b a) (nat_cmp w v)))) ≡ false
    → ((q ≡ p) × (u ≡ t) × (b ≡ a) → ⊥) → (p < q) ⊎ ((p ≡ q) × ((t < u) ⊎ ((t ≡ u) × ((a ≡ false) × (b ≡ true)))))
in_order p q t u v w true true unlike ends = grind (arith, nat_tests)
in_order p q t u v w true false unlike ends = grind (arith, nat_tests)
in_order p q t u v w false true unlike ends = grind (arith, nat_tests)
in_order p q t u v w false false unlike ends = grind (arith, nat_tests)

-- an arc before one that is before a third is before the third
pub before_trans : (x y z : NetArc) → IsBefore x y → IsBefore y z → IsBefore x z
before_trans x y z p q = grind arith

arcs_in_order : (xs ys : List NetArc) → IsPermutation xs ys → AllPairs (λ a c. HasEnds a c → ⊥) xs → IsSorted arc_cmp ys → AllPairs IsBefore ys
arcs_in_order xs ys moved ends sorted =
    let still = AllPairs-permutation (λ (a c : NetArc). HasEnds a c → ⊥)
    (λ a c unlike same. unlike (record { same_place = sym same.same_place; same_trans = sym same.same_trans; same_way = sym same.same_way })) xs ys moved ends in
    AllPairs-from_adjacent IsBefore before_trans ys
    (λ k d below.
    let a = get_or ys k d in
    let c = get_or ys (k + 1) d in
    in_order a.place c.place a.trans c.trans a.weight c.weight a.into c.into (sorted k d (omega arith) below)
    (λ same. still k (k + 1) d (omega arith) below (record { same_place = same.0; same_trans = same.1; same_way = same.2 })))

-- the lists of a builder, with its arcs sorted, are a net
pub finished : (b : Inside) (signals : List Signal) (arcs : List NetArc) → IsBuilder b → signals ≡ map entry_signal b.signals.entries → IsPermutation b.arcs.items arcs → IsSorted arc_cmp arcs
    → IsNet (record { signals = signals; trans = b.trans.items; tokens = b.tokens.items; arcs = arcs })
finished b signals arcs holds same moved sorted = record {
  signal_names = rw same (names_apart b.signals.entries holds.names);
  trans_names = holds.trans_names;
  trans_signals = rw (same, length-map b.signals.entries entry_signal) holds.trans_signals;
  arcs = All-permutation (IsArcOf (length b.tokens.items) (length b.trans.items)) _ _ moved holds.arcs_there;
  ordered = arcs_in_order b.arcs.items arcs moved holds.distinct sorted;
  signals_fit = rw (same, length-map b.signals.entries entry_signal) (omega (arith, holds.signals, holds.signals_fit));
  trans_fit = omega (arith, holds.trans, holds.trans_fit);
  places_fit = omega (arith, holds.places, holds.places_fit);
}

pub finished_within : (b : Inside) (signals : List Signal) (arcs : List NetArc) → IsBuilder b → signals ≡ map entry_signal b.signals.entries → IsPermutation b.arcs.items arcs
    → IsWithin b.limits (record { signals = signals; trans = b.trans.items; tokens = b.tokens.items; arcs = arcs })
finished_within b signals arcs holds same moved = record {
  signals = rw (same, length-map b.signals.entries entry_signal) holds.signals;
  trans = holds.trans;
  places = holds.places;
  arcs = rw (length_permutation _ _ moved) holds.arcs;
  tokens = holds.tokens;
  weights = All-permutation (λ (a : NetArc). a.weight ≤ b.limits.weight) _ _ moved holds.weights;
}
