-- A net that was built is a specification's.
use Rattle.std.proofs.Common.{◌≡◌, ℕ, ◌≤◌, ◌<◌, List, [], ◌∷◌, Bool, true, false, ◌||◌, inl, inr, nat_lt, IsTrue, map, length, All, sym, ap, subst, ◌∙◌, arith, rules}
use Rattle.std.proofs.lemmas.Bool.{and_parts, or_parts, ltb-true, lt-ltb, cases_lt, true≢false}
use Rattle.std.proofs.lemmas.List.{length-map}
use Rattle.std.proofs.lemmas.List.Elements.{All-nil, All-cons}
use Rattle.std.specs.List.{list_any, list_all}
use Rattle.stg_net.specs.declared.limits.Limits.{Limits}
use Rattle.stg_net.specs.declared.limits.TheConstants.Limits.{PART}
use Rattle.stg_net.specs.declared.signal.Signal.{Signal}
use Rattle.stg_net.specs.declared.trans.TransName.{TransName}
use Rattle.stg_net.specs.declared.spec.PlaceName.{PlaceName}
use Rattle.stg_net.specs.Net.{NetLists, IsWithin}
use Rattle.stg_net.specs.Names.{is_name}
use Rattle.stg_net.specs.Spec.{IsSpec, IsPlaceNameOf}
use Rattle.astg_read.specs.ReadLimits.{AreLimits}
use Rattle.astg_read.specs.inner.Construction.{AreReady, IsBuilt, said_by}
use Rattle.astg_read.specs.Graphs.{TextArc, PlaceAt, Named, Between}
use Rattle.astg_read.specs.inner.Growth.{GraphLists}
use Rattle.astg_read.specs.Said.{arcs_in}
use Rattle.astg_read.specs.Rules.{has_too_many}
use Rattle.stg_net.specs.Building.{Building}
use Rattle.astg_read.specs.Nodes.{same_trans}
use Rattle.astg_read.specs.Reading.{place_name}
use Rattle.astg_read.specs.inner.WellFormed.{is_weighed, is_named, is_trans_in, is_place_in, IsWellFormed}
use Rattle.astg_read.proofs.ArcLemmas.{number-below}

is_true : (b : Bool) → b ≡ true → IsTrue b
is_true b h = subst (λ x. IsTrue x) (sym h) (search rules)

named-all : (ss : List Signal) → list_all is_named ss ≡ true → All (λ (s : Signal). IsTrue (is_name s.name)) ss
named-all [] h = All-nil (λ (s : Signal). IsTrue (is_name s.name))
named-all (s ∷ ss) h =
    let q = and_parts (is_named s) (list_all is_named ss) h in
    All-cons (λ (s : Signal). IsTrue (is_name s.name)) s ss (is_true (is_name s.name) q.0) (named-all ss q.1)

small-all : (n : ℕ) (ts : List TransName) → list_all (is_trans_in n) ts ≡ true → All (λ (t : TransName). t.index < 1000000000) ts
small-all n [] h = All-nil (λ (t : TransName). t.index < 1000000000)
small-all n (t ∷ ts) h =
    let q = and_parts (is_trans_in n t) (list_all (is_trans_in n) ts) h in
    let r = and_parts (nat_lt t.signal n) (nat_lt t.index 1000000000) q.0 in
    All-cons (λ (t : TransName). t.index < 1000000000) t ts (ltb-true t.index 1000000000 r.1) (small-all n ts q.1)

name-there : (ts : List TransName) (p : PlaceAt) → is_place_in ts p ≡ true → IsPlaceNameOf (length ts) (place_name ts p)
name-there ts (Named name) h = tt
name-there ts (Between t u) h =
    let q = and_parts (list_any (same_trans t) ts) (list_any (same_trans u) ts) h in
    (number-below same_trans ts t q.0, number-below same_trans ts u q.1)

names-there : (ts : List TransName) (ps : List PlaceAt) → list_all (is_place_in ts) ps ≡ true → All (IsPlaceNameOf (length ts)) (map (place_name ts) ps)
names-there ts [] h = All-nil (IsPlaceNameOf (length ts))
names-there ts (p ∷ ps) h =
    let q = and_parts (is_place_in ts p) (list_all (is_place_in ts) ps) h in
    All-cons (IsPlaceNameOf (length ts)) (place_name ts p) (map (place_name ts) ps) (name-there ts p q.0) (names-there ts ps q.1)

-- within smaller limits
pub within-part : (l : Limits) (n : NetLists) → AreLimits l → IsWithin l n → IsWithin PART n
within-part l n a w = record {
  signals = omega (arith, w.signals, a.signals);
  trans = omega (arith, w.trans, a.trans);
  places = omega (arith, w.places, a.places);
  arcs = omega (arith, w.arcs, a.arcs);
  tokens = (λ k d below. let h = w.tokens k d below in omega (arith, h, a.weight));
  weights = (λ k d below. let h = w.weights k d below in omega (arith, h, a.weight));
}

pub spec-from : (l : Limits) (most : ℕ) (ss : List Signal) (g : GraphLists) (f : PlaceAt → ℕ) (n : NetLists) (names : List PlaceName) → AreLimits l → IsWellFormed most (said_by ss g) → IsWithin l n
    → IsBuilt ss g (map f g.places) (record { net = n; place_names = names }) → IsSpec (record { net = n; place_names = names })
spec-from l most ss g f n names a s w b = record {
  is_net = b.is_net;
  within = within-part l n a w;
  well_named = record {
    names = subst (λ xs. All (λ (s : Signal). IsTrue (is_name s.name)) xs) (sym b.signals_are) (named-all ss s.named);
    indices = subst (λ xs. All (λ (t : TransName). t.index < 1000000000) xs) (sym b.trans_are) (small-all (length ss) g.trans s.trans_there);
  };
  each_named = ap length b.names_are ∙ length-map g.places (place_name g.trans) ∙ sym (length-map g.places f) ∙ sym (ap length b.tokens_are);
  in_range = subst (λ xs. All (IsPlaceNameOf (length n.trans)) xs) (sym b.names_are)
      (subst (λ ts. All (IsPlaceNameOf (length ts)) (map (place_name g.trans) g.places)) (sym b.trans_are) (names-there g.trans g.places s.places_there));
}

at-most : (n m : ℕ) → nat_lt n m ≡ false → m ≤ n
at-most n m h = elim (cases_lt n m) [ inl a ↦ absurd (true≢false (sym (lt-ltb n m a) ∙ h)) | inr b ↦ b ]

-- the counts are within the limits
pub counts-within : (l : Limits) (ss : List Signal) (g : GraphLists) → has_too_many l (said_by ss g) ≡ false
    → (length g.trans ≤ l.trans) × (length g.places ≤ l.places) × (length (arcs_in (said_by ss g)) ≤ l.arcs)
counts-within l ss g h =
    let x = or_parts (nat_lt l.signals (length ss) || nat_lt l.trans (length g.trans) || nat_lt l.places (length g.places)) (nat_lt l.arcs (length (arcs_in (said_by ss g)))) h in
    let y = or_parts (nat_lt l.signals (length ss) || nat_lt l.trans (length g.trans)) (nat_lt l.places (length g.places)) x.0 in
    let z = or_parts (nat_lt l.signals (length ss)) (nat_lt l.trans (length g.trans)) y.0 in
    (at-most l.trans (length g.trans) z.1, at-most l.places (length g.places) y.1, at-most l.arcs (length (arcs_in (said_by ss g))) x.1)

-- and fit
pub counts-fit : (l : Limits) (ss : List Signal) (g : GraphLists) → AreLimits l → has_too_many l (said_by ss g) ≡ false → (length g.trans < 4294967296) × (length g.places < 4294967296)
counts-fit l ss g a h =
    let w = counts-within l ss g h in (omega (arith, w.0, a.trans), omega (arith, w.1, a.places))

-- a net with the signals, transitions and places is ready for the arcs
pub ready-from : (l : Limits) (ss : List Signal) (g : GraphLists) (b : Building) (ts : List TransName) (ps : List PlaceAt) (qs : List TextArc) → ts ≡ g.trans → ps ≡ g.places → qs ≡ g.text_arcs
    → b.limits ≡ l → b.lists.trans ≡ g.trans → length b.lists.tokens ≡ length g.places → b.lists.arcs ≡ [] → AreLimits l → IsWellFormed l.weight (said_by ss g) → has_too_many l (said_by ss g) ≡ false → AreReady b ts ps qs
ready-from l ss g b ts ps qs t p q limits trans tokens none a s h =
    let fit = counts-fit l ss g a h in
    let base : AreReady b g.trans g.places g.text_arcs = record {
      trans_are = ap length (sym trans);
      places_are = sym tokens;
      trans_fit = fit.0;
      places_fit = fit.1;
      least = subst (λ (x : Limits). 1 ≤ x.weight) (sym limits) a.least;
      done = [];
      arcs_are = none;
      done_there = tt;
      there = s.text_arcs_there;
      weighed = ap (λ (x : Limits). list_all (is_weighed x.weight) g.text_arcs) limits ∙ s.weighed;
      fresh = s.text_arcs_differ;
      room = omega (arith, ap length none, ap (λ (x : Limits). x.arcs) limits, (counts-within l ss g h).2);
    } in
    subst (λ x. AreReady b x ps qs) (sym t) (subst (λ x. AreReady b g.trans x qs) (sym p) (subst (λ x. AreReady b g.trans g.places x) (sym q) base))
