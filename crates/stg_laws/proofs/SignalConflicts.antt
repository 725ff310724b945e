-- Conflicts and the lists that lead along them.
use Rattle.std.proofs.Common.{◌≡◌, ℕ, ◌<◌, ◌&&◌, ◌==◌, not, Bool, true, false, List, [], ◌∷◌, ◌++◌, length, get_or, refl, sym, ap, ◌∙◌, subst, arith, inl, inr}
use Rattle.std.specs.List.{list_any, range_with_len}
use Rattle.std.proofs.lemmas.Bool.{and_parts, and_from, not-true, cases_lt, eqb-true, false≢true}
use Rattle.std.proofs.lemmas.List.{get_or_past}
use Rattle.std.proofs.lemmas.List.Folds.{list_any_at}
use Rattle.std.proofs.lemmas.List.FromFn.{length-range_with_len, get_or-range_with_len}
use Rattle.stg_net.specs.declared.signal.Kind.TheVariants.{Input}
use Rattle.stg_net.specs.declared.signal.Signal.{Signal}
use Rattle.stg_net.specs.declared.arc.NetArc.{NetArc}
use Rattle.stg_net.specs.Net.{NetLists}
use Rattle.stg_laws.specs.Stgs.{is_driven}
use Rattle.stg_laws.proofs.KnownSignals.{passing}
use Rattle.stg_laws.specs.Groups.{signal_of, is_driven_at, takes_from, share_place, in_conflict, LeadsTo, AreJoined}

pub and_turn : (b c : Bool) → (b && c) ≡ true → (c && b) ≡ true
and_turn b c e = let p = and_parts b c e in and_from c b p.1 p.0

-- an arc by which a transition of s takes from p
pub record Taker (n : NetLists) (s p : ℕ) : Type 0 where
  pub at : ℕ
  pub inside : at < length n.arcs
  pub arc : NetArc
  pub arc_is : (d : NetArc) → get_or n.arcs at d ≡ arc
  pub out : arc.into ≡ false
  pub place_is : arc.place ≡ p
  pub signal_is : signal_of n arc ≡ s

pub taker : (n : NetLists) (s p : ℕ) → takes_from n s p ≡ true → Taker n s p
taker n s p e =
    let f = passing (λ (a : NetArc). not a.into && (a.place == p) && (signal_of n a == s)) n.arcs e in
    let outer = and_parts (not f.item.into && (f.item.place == p)) (signal_of n f.item == s) f.passes in
    let inner = and_parts (not f.item.into) (f.item.place == p) outer.0 in
    record {
      at = f.at;
      inside = f.inside;
      arc = f.item;
      arc_is = f.item_is;
      out = not-true f.item.into inner.0;
      place_is = eqb-true f.item.place p inner.1;
      signal_is = eqb-true (signal_of n f.item) s outer.1;
    }

-- a driven signal stands among the signals
pub driven_there : (n : NetLists) (s : ℕ) → is_driven_at n.signals s ≡ true → s < length n.signals
driven_there n s e = elim (cases_lt s (length n.signals)) [
  | inl l ↦ l
  | inr past ↦ absurd (false≢true (sym (ap (λ (x : Signal). is_driven x.kind) (get_or_past n.signals s (record { name = []; kind = Input }) past)) ∙ e))
]

-- a place from which transitions of both take
pub record Shared (n : NetLists) (x y : ℕ) : Type 0 where
  pub place : ℕ
  pub x_takes : takes_from n x place ≡ true
  pub y_takes : takes_from n y place ≡ true

pub shared : (n : NetLists) (x y : ℕ) → share_place n x y ≡ true → Shared n x y
shared n x y e =
    let f = passing (λ p. takes_from n x p && takes_from n y p) (range_with_len 0 (length n.tokens)) e in
    let parts = and_parts (takes_from n x f.item) (takes_from n y f.item) f.passes in
    record { place = f.item; x_takes = parts.0; y_takes = parts.1 }

pub share_at : (n : NetLists) (x y p : ℕ) → p < length n.tokens → takes_from n x p ≡ true → takes_from n y p ≡ true → share_place n x y ≡ true
share_at n x y p inside x_takes y_takes =
    let test : ℕ → Bool = λ q. takes_from n x q && takes_from n y q in
    list_any_at test (range_with_len 0 (length n.tokens)) p 0 (omega (arith, inside, length-range_with_len 0 (length n.tokens)))
    (let at : get_or (range_with_len 0 (length n.tokens)) p 0 ≡ p = omega (arith, get_or-range_with_len 0 (length n.tokens) p 0 inside) in ap test at ∙ and_from (takes_from n x p) (takes_from n y p) x_takes y_takes)

pub conflict_at : (n : NetLists) (x y p : ℕ) → p < length n.tokens → is_driven_at n.signals x ≡ true → is_driven_at n.signals y ≡ true → takes_from n x p ≡ true → takes_from n y p ≡ true → in_conflict n x y ≡ true
conflict_at n x y p inside out_x out_y x_takes y_takes = and_from (is_driven_at n.signals x && is_driven_at n.signals y) (share_place n x y) (and_from (is_driven_at n.signals x) (is_driven_at n.signals y) out_x out_y) (share_at n x y p inside x_takes y_takes)

share_turn : (n : NetLists) (x y : ℕ) (ps : List ℕ) → list_any (λ p. takes_from n x p && takes_from n y p) ps ≡ true → list_any (λ p. takes_from n y p && takes_from n x p) ps ≡ true
share_turn n x y ps e =
    let f = passing (λ p. takes_from n x p && takes_from n y p) ps e in
    let test : ℕ → Bool = λ p. takes_from n y p && takes_from n x p in
    list_any_at test ps f.at 0 f.inside (ap test (f.item_is 0) ∙ and_turn (takes_from n x f.item) (takes_from n y f.item) f.passes)

pub conflict_turn : (n : NetLists) (x y : ℕ) → in_conflict n x y ≡ true → in_conflict n y x ≡ true
conflict_turn n x y e =
    let parts = and_parts (is_driven_at n.signals x && is_driven_at n.signals y) (share_place n x y) e in
    and_from (is_driven_at n.signals y && is_driven_at n.signals x) (share_place n y x) (and_turn (is_driven_at n.signals x) (is_driven_at n.signals y) parts.0) (share_turn n x y (range_with_len 0 (length n.tokens)) parts.1)

-- the list that leads to y and then on to z
leads_on : (n : NetLists) (x y z : ℕ) (path more : List ℕ) → LeadsTo n x path y → LeadsTo n y more z → LeadsTo n x (path ++ more) z
leads_on n x y z [] more e f = let P : ℕ → Type 0 = λ s. LeadsTo n s more z in subst P (sym e) f
leads_on n x y z (s ∷ path) more e f = (e.0, leads_on n s y z path more e.1 f)

pub joined_on : (n : NetLists) (x y z : ℕ) → AreJoined n x y → AreJoined n y z → AreJoined n x z
joined_on n x y z j k = record { path = j.path ++ k.path; leads = leads_on n x y z j.path k.path j.leads k.leads }

pub joined_itself : (n : NetLists) (x y : ℕ) → x ≡ y → AreJoined n x y
joined_itself n x y e = record { path = []; leads = e }

pub joined_once : (n : NetLists) (x y : ℕ) → in_conflict n x y ≡ true → AreJoined n x y
joined_once n x y e = record { path = y ∷ []; leads = (e, refl) }

leads_back : (n : NetLists) (x y : ℕ) (path : List ℕ) → LeadsTo n x path y → AreJoined n y x
leads_back n x y [] e = joined_itself n y x (sym e)
leads_back n x y (z ∷ path) e = joined_on n y z x (leads_back n z y path e.1) (joined_once n z x (conflict_turn n x z e.0))

pub joined_back : (n : NetLists) (x y : ℕ) → AreJoined n x y → AreJoined n y x
joined_back n x y j = leads_back n x y j.path j.leads

leads_driven : (n : NetLists) (x y : ℕ) (path : List ℕ) → is_driven_at n.signals x ≡ true → LeadsTo n x path y → is_driven_at n.signals y ≡ true
leads_driven n x y [] out e = let P : ℕ → Type 0 = λ s. is_driven_at n.signals s ≡ true in subst P e out
leads_driven n x y (z ∷ path) out e =
    let outer = and_parts (is_driven_at n.signals x && is_driven_at n.signals z) (share_place n x z) e.0 in
    leads_driven n z y path (and_parts (is_driven_at n.signals x) (is_driven_at n.signals z) outer.0).1 e.1

-- what is joined with an output is one
pub joined_driven : (n : NetLists) (x y : ℕ) → is_driven_at n.signals x ≡ true → AreJoined n x y → is_driven_at n.signals y ≡ true
joined_driven n x y out j = leads_driven n x y j.path out j.leads
