-- A settled net has the signals of its group.
use Rattle.std.proofs.Common.{◌≡◌, ℕ, ◌<◌, Bool, true, false, cond, List, [], length, refl, sym, ap, ◌∙◌, inl, inr}
use Rattle.std.specs.List.{range_with_len}
use Rattle.std.proofs.lemmas.Bool.{cases_Bool, false≢true}
use Rattle.stg_net.specs.declared.signal.Kind.{Kind}
use Rattle.stg_net.specs.declared.signal.Kind.TheVariants.{Input, Output, Internal}
use Rattle.stg_net.specs.Component.{is_one_of, shared_kind, component_kind, component}
use Rattle.stg_net.specs.Net.{NetLists, IsNet, signal_at, is_kind}
use Rattle.stg_net.specs.Ordered.{numbers_where, signal_order, new_number}
use Rattle.stg_net.proofs.Members.{one_of-contained, contained-one_of, Contains-range}
use Rattle.stg_net.proofs.ComponentSignals.{component-IsNet}
use Rattle.stg_laws.specs.Stgs.{stg_of, is_driven}
use Rattle.stg_laws.proofs.Components.{driven_own, own_driven, in_old_order, in_new_order, declares-component_kind, kind_given}
use Rattle.stg_laws.proofs.Declaring.{Declares, declared, found}
use Rattle.stg_laws.proofs.Wiring.{is_any, net_known, IsGroupComponent}
use Rattle.stg_partition.proofs.Numbers.{contained_passes}
use Rattle.stg_laws.proofs.KnownSignals.{passing_contained}
use Rattle.stg_decomp.specs.Settled.{settled}

-- what passes as internal is own, not shared, and internal
pub internal_own_kind : (a b : Bool) (kind : Kind) → is_kind Internal (cond a (cond b (shared_kind kind) kind) Input) ≡ true → (a ≡ true) × (b ≡ false) × (is_kind Internal kind ≡ true)
internal_own_kind false b kind e = absurd (false≢true e)
internal_own_kind true false kind e = (refl, refl, e)
internal_own_kind true true Input e = absurd (false≢true e)
internal_own_kind true true Output e = absurd (false≢true e)
internal_own_kind true true Internal e = absurd (false≢true e)

-- the signals of m, and those of the settled net
module _ (m : NetLists) (net : IsNet m) (shared : List ℕ) where
  all : List ℕ
  all = range_with_len 0 (length m.signals)

  seen : NetLists
  seen = component all shared m

  seen_net : IsNet seen
  unfolding seen
  seen_net = component-IsNet all shared m net

  -- a signal of the settled net is one of m
  pub settled_there : (test : Kind → Bool) (s : List ℕ) (r : ℕ) → Declares (settled shared m).signals test s r → (j : ℕ) × Declares m.signals (λ kind. test (component_kind (range_with_len 0 (length m.signals)) shared j kind)) s j
  unfolding seen all
  settled_there test s r d = let o = in_old_order seen test s r d in (o.0, declares-component_kind all shared m test s o.0 o.1)

  pub settled_here : (test : Kind → Bool) (s : List ℕ) (j : ℕ) → Declares m.signals (λ kind. test (component_kind (range_with_len 0 (length m.signals)) shared j kind)) s j → (r : ℕ) × Declares (settled shared m).signals test s r
  unfolding seen all seen_net
  settled_here test s j d = (new_number (signal_order seen.signals) j, in_new_order seen test s j seen_net (kind_given all shared m test s j d))

all_one_of : (m : NetLists) (j : ℕ) → j < length m.signals → is_one_of (range_with_len 0 (length m.signals)) j ≡ true
all_one_of m j below = one_of-contained (range_with_len 0 (length m.signals)) j (Contains-range (length m.signals) j below)

-- the signals of m are the known ones of n, and the own ones keep their kinds
pub record HasSignalsOf (n : NetLists) (own known : List ℕ) (m : NetLists) : Type 0 where
  pub there : (test : Kind → Bool) (s : List ℕ) (j : ℕ) → Declares m.signals test s j → (k : ℕ) × Declares n.signals (λ kind. test (component_kind own [] k kind)) s k × (is_one_of known k ≡ true)
  pub here : (test : Kind → Bool) (s : List ℕ) (k : ℕ) → Declares n.signals (λ kind. test (component_kind own [] k kind)) s k → is_one_of known k ≡ true → (j : ℕ) × Declares m.signals test s j

-- the numbers of n whose names pass a test
abbrev pub named_numbers : NetLists → (List ℕ → Bool) → List ℕ
named_numbers n test = numbers_where (λ k. test (signal_at n.signals k).name) (length n.signals)

module _ (n : NetLists) (own known : List ℕ) (m : NetLists) (net : IsNet m) (signals_of : HasSignalsOf n own known m) (own_known : (k : ℕ) → is_one_of own k ≡ true → is_one_of known k ≡ true) (others : List ℕ → Bool) where
  shared : List ℕ
  shared = numbers_where (λ s. others (signal_at m.signals s).name) (length m.signals)

  pub settled_is_group_component : IsGroupComponent n own known (named_numbers n others) (stg_of (settled (numbers_where (λ s. others (signal_at m.signals s).name) (length m.signals)) m))
  unfolding shared
  settled_is_group_component = record {
    driven = λ s drive.
        let a = declared is_driven (settled shared m).signals s drive in
        let b = settled_there m net shared is_driven s a.0 a.1 in
        let o = driven_own (is_one_of (range_with_len 0 (length m.signals)) b.0) (is_one_of shared b.0) (signal_at m.signals b.0).kind b.1.passes in
        let c = signals_of.there is_driven s b.0 (record { there = b.1.there; passes = o.1; named = b.1.named }) in
        let p = driven_own (is_one_of own c.0) false (signal_at n.signals c.0).kind c.1.passes in
        (c.0, record { there = c.1.there; passes = p.1; named = c.1.named }, p.0);
    drives_own = λ s k d mine.
        let p = own_driven (is_one_of own k) false (signal_at n.signals k).kind mine d.passes in
        let c = signals_of.here is_driven s k (record { there = d.there; passes = p; named = d.named }) (own_known k mine) in
        let q = own_driven (is_one_of (range_with_len 0 (length m.signals)) c.0) (is_one_of shared c.0) (signal_at m.signals c.0).kind (all_one_of m c.0 c.1.there) c.1.passes in
        let b = settled_here m net shared is_driven s c.0 (record { there = c.1.there; passes = q; named = c.1.named }) in
        found is_driven (settled shared m).signals s b.0 b.1;
    known_all = λ s knowing.
        let a = net_known (settled shared m) s knowing in
        let b = settled_there m net shared is_any s a.0 a.1 in
        let c = signals_of.there is_any s b.0 (record { there = b.1.there; passes = refl; named = b.1.named }) in
        (c.0, record { there = c.1.there; passes = refl; named = c.1.named }, c.2);
    not_shared = λ s internal.
        let a = declared (is_kind Internal) (settled shared m).signals s internal in
        let b = settled_there m net shared (is_kind Internal) s a.0 a.1 in
        let o = internal_own_kind (is_one_of (range_with_len 0 (length m.signals)) b.0) (is_one_of shared b.0) (signal_at m.signals b.0).kind b.1.passes in
        let c = signals_of.there (is_kind Internal) s b.0 (record { there = b.1.there; passes = o.2; named = b.1.named }) in
        let p = internal_own_kind (is_one_of own c.0) false (signal_at n.signals c.0).kind c.1.passes in
        (c.0, record { there = c.1.there; passes = refl; named = c.1.named }, p.0, not_among s b.0 c.0 b.1.there b.1.named c.1.named o.1);
  }
    where
      not_among : (s : List ℕ) (j k : ℕ) → j < length m.signals → (signal_at m.signals j).name ≡ s → (signal_at n.signals k).name ≡ s → is_one_of shared j ≡ false → is_one_of (named_numbers n others) k ≡ false
      not_among s j k below a b none = elim (cases_Bool (is_one_of (named_numbers n others) k)) [
        | inr e ↦ e
        | inl e ↦
            let pass = (contained_passes (λ k. others (signal_at n.signals k).name) (length n.signals) k (contained-one_of (named_numbers n others) k e)).passes in
            let here : others (signal_at m.signals j).name ≡ true = ap others (a ∙ sym b) ∙ pass in
            absurd (false≢true (sym none ∙ one_of-contained shared j (passing_contained (λ s. others (signal_at m.signals s).name) (length m.signals) j below here)))
      ]
