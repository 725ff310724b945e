-- The groups that good rows name.
use Rattle.std.proofs.Common.{◌≡◌, ◌<◌, ℕ, true, List, [], length, get_or, map, Contains, refl, sym, ap, ◌∙◌, subst, arith}
use Rattle.std.specs.List.{list_all}
use Rattle.std.specs.Str.{bytes_eq}
use Rattle.std.proofs.lemmas.Bool.{and_parts}
use Rattle.std.proofs.lemmas.List.{get_or-map, get_or_default, length-map}
use Rattle.std.proofs.lemmas.List.Folds.{list_any_at}
use Rattle.std.proofs.lemmas.List.Sums.{AllPass-from_list_all}
use Rattle.std.proofs.lemmas.Slice.Eq.{bytes_eq-Decides}
use Rattle.stg_net.specs.declared.signal.Signal.{Signal}
use Rattle.stg_net.specs.Graph.{is_among}
use Rattle.stg_net.specs.Net.{NetLists, IsNet, signal_at}
use Rattle.stg_net.proofs.Signals.{one_signal}
use Rattle.stg_laws.specs.Stgs.{is_driven}
use Rattle.stg_laws.specs.Groups.{is_driven_at}
use Rattle.stg_laws.specs.PlainGroups.{Group, IsFeasibleGroup}
use Rattle.stg_laws.proofs.KnownSignals.{passing, passing_contained}
use Rattle.stg_partition.specs.PartitionText.{GroupRow, is_output_named, names_output}
use Rattle.stg_partition.specs.Partition.{is_named_in, own_of, row_group}
use Rattle.stg_partition.specs.inner.Naming.{AreNamedGroups}
use Rattle.stg_partition.proofs.GoodRows.{AreGoodRows}
use Rattle.stg_partition.proofs.Numbers.{numbers_increase, contained_passes}

-- an output or internal signal of the net has the name
pub record IsOutput (n : NetLists) (name : List ℕ) : Type 0 where
  pub signal : ℕ
  pub there : signal < length n.signals
  pub driven : is_driven_at n.signals signal ≡ true
  pub name_is : (signal_at n.signals signal).name ≡ name

output_named : (n : NetLists) (name : List ℕ) → names_output n.signals name ≡ true → IsOutput n name
output_named n name e =
    let f = passing (is_output_named name) n.signals e in
    let parts = and_parts (is_driven f.item.kind) (bytes_eq f.item.name name) f.passes in
    let at : signal_at n.signals f.at ≡ f.item = f.item_is (signal_at [] 0) in
    record {
      signal = f.at;
      there = f.inside;
      driven = ap (λ (s : Signal). is_driven s.kind) at ∙ parts.0;
      name_is = ap (λ (s : Signal). s.name) at ∙ (bytes_eq-Decides f.item.name name).0 parts.1;
    }

-- a name that stands in a row of outputs is that of an output or internal signal
among_output : (n : NetLists) (row : GroupRow) (name : List ℕ) → list_all (names_output n.signals) row ≡ true → is_among row name ≡ true → IsOutput n name
among_output n row name outputs e =
    let f = passing (λ known. bytes_eq known name) row e in
    let same : f.item ≡ name = (bytes_eq-Decides f.item name).0 f.passes in
    let passes = AllPass-from_list_all (names_output n.signals) row outputs f.at [] f.inside in
    output_named n name (ap (names_output n.signals) (sym same) ∙ ap (names_output n.signals) (sym (f.item_is [])) ∙ passes)

named_driven : (n : NetLists) (row : GroupRow) (s : ℕ) → IsNet n → list_all (names_output n.signals) row ≡ true → Contains (own_of n row) s → is_driven_at n.signals s ≡ true
named_driven n row s net outputs c =
    let p = contained_passes (is_named_in n.signals row) (length n.signals) s c in
    let o = among_output n row (signal_at n.signals s).name outputs p.passes in
    ap (is_driven_at n.signals) (sym (one_signal n o.signal s net o.there p.below o.name_is)) ∙ o.driven

has_own : (n : NetLists) (row : GroupRow) → 0 < length row → list_all (names_output n.signals) row ≡ true → 0 < length (own_of n row)
has_own n row some outputs =
    let name = get_or row 0 [] in
    let o = output_named n name (AllPass-from_list_all (names_output n.signals) row outputs 0 [] some) in
    let named : is_named_in n.signals row o.signal ≡ true =
    list_any_at (λ known. bytes_eq known (signal_at n.signals o.signal).name) row 0 [] some ((bytes_eq-Decides name (signal_at n.signals o.signal).name).1 (sym o.name_is)) in
    let c = passing_contained (is_named_in n.signals row) (length n.signals) o.signal o.there named in
    omega (arith, c.1)

row_feasible : (n : NetLists) (row : GroupRow) → IsNet n → 0 < length row → list_all (names_output n.signals) row ≡ true → IsFeasibleGroup n (row_group n row)
row_feasible n row net some outputs = record {
  driven = λ k d inside. named_driven n row (get_or (own_of n row) k d) net outputs (k, inside, get_or_default (own_of n row) k (get_or (own_of n row) k d) d inside);
  ascends = numbers_increase (is_named_in n.signals row) (length n.signals);
  has_one = has_own n row some outputs;
  known = refl;
}

-- good rows name groups that are feasible each, and have no signal in common
pub rows_named : (n : NetLists) (rows : List GroupRow) → IsNet n → AreGoodRows n.signals rows → AreNamedGroups n (map (row_group n) rows)
rows_named n rows net good = record {
  feasible = λ k d inside.
      let there = below k inside in
      subst (IsFeasibleGroup n) (sym (at k d there)) (row_feasible n (get_or rows k []) net (good.has_one k [] there) (good.outputs k [] there));
  apart = λ i j d up inside s mine theirs.
      let there = below j inside in
      let before : i < length rows = omega (arith, up, there) in
      let P : Group → Type 0 = λ group. Contains group.own s in
      let one = contained_passes (is_named_in n.signals (get_or rows i [])) (length n.signals) s (subst P (at i d before) mine) in
      let two = contained_passes (is_named_in n.signals (get_or rows j [])) (length n.signals) s (subst P (at j d there) theirs) in
      good.apart i j [] up there (signal_at n.signals s).name one.passes two.passes;
}
  where
    below : (k : ℕ) → k < length (map (row_group n) rows) → k < length rows
    below k inside = omega (arith, inside, length-map rows (row_group n))

    at : (k : ℕ) (d : Group) → k < length rows → get_or (map (row_group n) rows) k d ≡ row_group n (get_or rows k [])
    at k d there = get_or-map (row_group n) rows k [] d there
