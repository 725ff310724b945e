-- Leaders stay right from arc to arc, and in the end signals in conflict have one leader.
use Rattle.std.proofs.Common.{◌≡◌, ◌≢◌, ℕ, ◌+◌, ◌<◌, ◌≤◌, ◌&&◌, ◌⊎◌, not, min, max, true, false, List, [], ◌∷◌, length, get_or, All, IfSome, Option, Some, None, IsTrue, refl, sym, ap, ◌∙◌, subst, arith, eq-eqb, inl, inr, get_or-set_same, get_or-set_other, length-set}
use Rattle.std.proofs.Math.ListN.{set}
use Rattle.std.specs.List.{range_with_len}
use Rattle.std.proofs.lemmas.Bool.{and_parts, not-true, cases_Bool, cases_eq, cases_lt, ne_eqb}
use Rattle.std.proofs.lemmas.Option.{same_Some}
use Rattle.std.proofs.lemmas.List.{get_or_default, get_or_past}
use Rattle.std.proofs.lemmas.List.FromFn.{length-range_with_len, get_or-range_with_len}
use Rattle.stg_net.specs.declared.arc.NetArc.{NetArc}
use Rattle.stg_net.specs.Net.{NetLists, IsNet}
use Rattle.stg_laws.specs.Groups.{signal_of, is_driven_at, takes_from, share_place, in_conflict, LeadsTo, AreJoined}
use Rattle.stg_partition.specs.inner.Joining.{own_taker, relabelled_leader, merged_leader, taker_at, with_first, with_taker, new_leader, IsLedWith, IsLed, IsJoining}
use Rattle.stg_laws.proofs.KnownSignals.{takes_by}
use Rattle.stg_laws.proofs.SignalConflicts.{taker, shared, conflict_at, joined_on, joined_itself, joined_once, joined_back}

-- the leader of a signal
abbrev pub leader_of : List ℕ → ℕ → ℕ
leader_of leaders s = get_or leaders s 0

relabelled_leader-from : (from to : ℕ) → relabelled_leader from to from ≡ to
relabelled_leader-from from to = rw (eq-eqb from from refl) refl

relabelled_leader-other : (from to x : ℕ) → x ≢ from → relabelled_leader from to x ≡ x
relabelled_leader-other from to x other = rw (ne_eqb x from other) refl

-- leaders that are the same at each signal
led_same : (n : NetLists) (old new : List ℕ) → length new ≡ length old → ((s : ℕ) → s < length old → leader_of new s ≡ leader_of old s) → IsLed n old → IsLed n new
led_same n old new long same led = record {
  long = long ∙ led.long;
  joined = λ x y hx hy e. led.joined x y (omega (arith, hx, long)) (omega (arith, hy, long)) (sym (same x (omega (arith, hx, long))) ∙ e ∙ same y (omega (arith, hy, long)));
  low = λ x h. omega (arith, same x (omega (arith, h, long)), led.low x (omega (arith, h, long)));
  fixed = λ x h.
      let inside : x < length old = omega (arith, h, long) in
      ap (leader_of new) (same x inside) ∙ same (leader_of old x) (omega (arith, led.low x inside)) ∙ led.fixed x inside ∙ sym (same x inside);
}

-- two signals in conflict, of which low has the lesser leader
pub record AreMerged (n : NetLists) (leaders : List ℕ) (from to : ℕ) : Type 0 where
  pub high : ℕ
  pub low : ℕ
  pub high_there : high < length leaders
  pub low_there : low < length leaders
  pub high_leads : leader_of leaders high ≡ from
  pub low_leads : leader_of leaders low ≡ to
  pub below : to ≤ from
  pub are_joined : AreJoined n high low

led_merged : (n : NetLists) (old new : List ℕ) (from to : ℕ) → length new ≡ length old → AreMerged n old from to → ((s : ℕ) → s < length old → leader_of new s ≡ relabelled_leader from to (leader_of old s)) → IsLed n old → IsLed n new
led_merged n old new from to long m moved led = record {
  long = long ∙ led.long;
  joined = λ x y hx hy e. joined_new x y (omega (arith, hx, long)) (omega (arith, hy, long)) e;
  low = λ x h. low_new x (omega (arith, h, long));
  fixed = λ x h. fixed_new x (omega (arith, h, long));
}
  where
    at_from : (x : ℕ) → x < length old → leader_of old x ≡ from → leader_of new x ≡ to
    at_from x h e = moved x h ∙ ap (relabelled_leader from to) e ∙ relabelled_leader-from from to

    at_other : (x : ℕ) → x < length old → leader_of old x ≢ from → leader_of new x ≡ leader_of old x
    at_other x h e = moved x h ∙ relabelled_leader-other from to (leader_of old x) e

    low_new : (x : ℕ) → x < length old → leader_of new x ≤ x
    low_new x h = elim (cases_eq (leader_of old x) from) [
      | inl e ↦ omega (arith, at_from x h e, led.low x h, e, m.below)
      | inr e ↦ omega (arith, at_other x h e, led.low x h)
    ]

    to_there : to < length old
    to_there = omega (arith, m.low_leads, led.low m.low m.low_there, m.low_there)

    to_fixed : leader_of old to ≡ to
    to_fixed = ap (leader_of old) (sym m.low_leads) ∙ led.fixed m.low m.low_there ∙ m.low_leads

    new_to : leader_of new to ≡ to
    new_to = elim (cases_eq (leader_of old to) from) [
      | inl e ↦ at_from to to_there e
      | inr e ↦ at_other to to_there e ∙ to_fixed
    ]

    fixed_new : (x : ℕ) → x < length old → leader_of new (leader_of new x) ≡ leader_of new x
    fixed_new x h = elim (cases_eq (leader_of old x) from) [
      | inl e ↦ ap (leader_of new) (at_from x h e) ∙ new_to ∙ sym (at_from x h e)
      | inr e ↦
          let same = led.fixed x h in
          ap (leader_of new) (at_other x h e) ∙ at_other (leader_of old x) (omega (arith, led.low x h, h)) (λ f. e (sym same ∙ f)) ∙ same ∙ sym (at_other x h e)
    ]

    across : (x y : ℕ) → x < length old → y < length old → leader_of old x ≡ from → leader_of old y ≡ to → AreJoined n x y
    across x y hx hy e f =
        joined_on n x m.high y (led.joined x m.high hx m.high_there (e ∙ sym m.high_leads))
        (joined_on n m.high m.low y m.are_joined (led.joined m.low y m.low_there hy (m.low_leads ∙ sym f)))

    joined_new : (x y : ℕ) → x < length old → y < length old → leader_of new x ≡ leader_of new y → AreJoined n x y
    joined_new x y hx hy e = elim (cases_eq (leader_of old x) from) [
      | inl a ↦ elim (cases_eq (leader_of old y) from) [
        | inl b ↦ led.joined x y hx hy (a ∙ sym b)
        | inr b ↦ across x y hx hy a (sym (at_other y hy b) ∙ sym e ∙ at_from x hx a)
      ]
      | inr a ↦ elim (cases_eq (leader_of old y) from) [
        | inl b ↦ joined_back n y x (across y x hy hx b (sym (at_other x hx a) ∙ e ∙ at_from y hy b))
        | inr b ↦ led.joined x y hx hy (sym (at_other x hx a) ∙ e ∙ at_other y hy b)
      ]
    ]

-- the leaders after two signals in conflict are joined
led_joined : (n : NetLists) (old new : List ℕ) (x y : ℕ) → length new ≡ length old → x < length old → y < length old → AreJoined n x y → ((s : ℕ) → s < length old → leader_of new s ≡ merged_leader old x y (leader_of old s)) → IsLed n old → IsLed n new
led_joined n old new x y long hx hy j moved led = led_merged n old new (max (leader_of old x) (leader_of old y)) (min (leader_of old x) (leader_of old y)) long merged moved led
  where
    merged : AreMerged n old (max (leader_of old x) (leader_of old y)) (min (leader_of old x) (leader_of old y))
    merged = elim (cases_lt (leader_of old x) (leader_of old y)) [
      | inl l ↦ record { high = y; low = x; high_there = hy; low_there = hx; high_leads = omega arith; low_leads = omega arith; below = omega arith; are_joined = joined_back n x y j }
      | inr l ↦ record { high = x; low = y; high_there = hx; low_there = hy; high_leads = omega arith; low_leads = omega arith; below = omega arith; are_joined = j }
    ]

-- what an own taker is
pub record IsOwn (n : NetLists) (a : NetArc) (s : ℕ) : Type 0 where
  pub out : a.into ≡ false
  pub output : is_driven_at n.signals s ≡ true
  pub signal_is : signal_of n a ≡ s

pub own_parts : (n : NetLists) (a : NetArc) (s : ℕ) → own_taker n a ≡ Some s → IsOwn n a s
own_parts n a s e = elim (cases_Bool (not a.into && is_driven_at n.signals (signal_of n a))) [
  | inl t ↦
      let same : signal_of n a ≡ s = same_Some (signal_of n a) s (rw t at e) in
      let parts = and_parts (not a.into) (is_driven_at n.signals (signal_of n a)) t in
      record { out = not-true a.into parts.0; output = ap (is_driven_at n.signals) (sym same) ∙ parts.1; signal_is = same }
  | inr f ↦ let none : None ≡ Some s = rw f at e in absurd (cc)
]

pub own_whole : (n : NetLists) (a : NetArc) (s : ℕ) → IsOwn n a s → own_taker n a ≡ Some s
own_whole n a s w = rw w.out (rw (ap (is_driven_at n.signals) w.signal_is ∙ w.output) (ap Some w.signal_is))

pub signal_there : (n : NetLists) (i : ℕ) (d : NetArc) → IsNet n → i < length n.arcs → signal_of n (get_or n.arcs i d) < length n.signals
signal_there n i d net inside = net.trans_signals (get_or n.arcs i d).trans _ (net.arcs i d inside).trans_there

own_there : (n : NetLists) (i s : ℕ) (d : NetArc) → IsNet n → i < length n.arcs → own_taker n (get_or n.arcs i d) ≡ Some s → s < length n.signals
own_there n i s d net inside e = omega (arith, (own_parts n (get_or n.arcs i d) s e).signal_is, signal_there n i d net inside)

pub taker_there : (takers : List (Option ℕ)) (size p t : ℕ) → All (λ taker. IfSome taker (λ s. s < size)) takers → taker_at takers p ≡ Some t → t < size
taker_there takers size p t below e = elim (cases_lt p (length takers)) [
  | inl h ↦ let P : Option ℕ → Type 0 = λ o. IfSome o (λ s. s < size) in subst P e (below p None h)
  | inr h ↦ let none : None ≡ Some t = sym (get_or_past takers p None h) ∙ e in absurd (cc)
]

-- joining more signals keeps what is led together
abbrev KeepsLeading : List ℕ → List ℕ → Type 0
KeepsLeading old new = (x y : ℕ) → x < length old → y < length old → leader_of old x ≡ leader_of old y → leader_of new x ≡ leader_of new y

kept_with : (old new : List ℕ) (o q : Option ℕ) → KeepsLeading old new → ((s : ℕ) → o ≡ Some s → s < length old) → ((t : ℕ) → q ≡ Some t → t < length old) → IsLedWith old o q → IsLedWith new o q
kept_with old new None q keeps o_there q_there led = tt
kept_with old new (Some s) None keeps o_there q_there led = led
kept_with old new (Some s) (Some t) keeps o_there q_there led = keeps s t (o_there s refl) (q_there t refl) led

-- an arc that changes no taker
joining_kept : (n : NetLists) (i : ℕ) (old new : List ℕ) (takers after : List (Option ℕ)) (a : NetArc) → IsNet n → i < length n.arcs → ((d : NetArc) → get_or n.arcs i d ≡ a) → IsJoining n i old takers
    → length new ≡ length old → after ≡ takers → IsLed n new → KeepsLeading old new → IsLedWith new (own_taker n a) (taker_at takers a.place) → IsJoining n (i + 1) new after
joining_kept n i old new takers after a net inside a_is j long same led keeps here =
    let P : List (Option ℕ) → Type 0 = λ xs. IsJoining n (i + 1) new xs in
    subst P (sym same) (record {
      led = led;
      wide = j.wide;
      below = subst (λ size. All (λ taker. IfSome taker (λ s. s < size)) takers) (sym long) j.below;
      own = j.own;
      arcs = λ k d below. elim (cases_lt k i) [
        | inl l ↦ kept_with old new (own_taker n (get_or n.arcs k d)) (taker_at takers (get_or n.arcs k d).place) keeps
            (λ s e. omega (arith, own_there n k s d net (omega (arith, inside)) e, j.led.long))
            (λ t e. taker_there takers (length old) (get_or n.arcs k d).place t j.below e)
            (j.arcs k d l)
        | inr r ↦
            let Q : ℕ → Type 0 = λ m. IsLedWith new (own_taker n (get_or n.arcs m d)) (taker_at takers (get_or n.arcs m d).place) in
            let R : NetArc → Type 0 = λ b. IsLedWith new (own_taker n b) (taker_at takers b.place) in
            subst Q (omega (arith, below, r)) (subst R (sym (a_is d)) here)
      ];
    })

-- an arc that gives its place a taker
joining_first : (n : NetLists) (i s : ℕ) (old new : List ℕ) (takers after : List (Option ℕ)) (a : NetArc) → IsNet n → i < length n.arcs → ((d : NetArc) → get_or n.arcs i d ≡ a) → IsJoining n i old takers
    → length new ≡ length old → own_taker n a ≡ Some s → taker_at takers a.place ≡ None → after ≡ set takers a.place (Some s) → IsLed n new → KeepsLeading old new → IsJoining n (i + 1) new after
joining_first n i s old new takers after a net inside a_is j long own_is none same led keeps =
    let P : List (Option ℕ) → Type 0 = λ xs. IsJoining n (i + 1) new xs in
    subst P (sym same) (record {
      led = led;
      wide = length-set takers a.place (Some s) ∙ j.wide;
      below = below;
      own = own;
      arcs = arcs;
    })
  where
    place_there : a.place < length takers
    place_there =
        let low : a.place < length n.tokens = subst (λ (b : NetArc). b.place < length n.tokens) (a_is a) (net.arcs i a inside).place_there in
        omega (arith, low, j.wide)

    at_place : taker_at (set takers a.place (Some s)) a.place ≡ Some s
    at_place = get_or-set_same takers a.place (Some s) None place_there

    at_other : (p : ℕ) → p ≢ a.place → taker_at (set takers a.place (Some s)) p ≡ taker_at takers p
    at_other p other = get_or-set_other takers a.place p (Some s) None other

    s_there : s < length new
    s_there =
        let P : NetArc → Type 0 = λ b. own_taker n b ≡ Some s in
        omega (arith, own_there n i s a net inside (subst P (sym (a_is a)) own_is), j.led.long, long)

    below : All (λ taker. IfSome taker (λ t. t < length new)) (set takers a.place (Some s))
    below k d h = elim (cases_eq k a.place) [
      | inl e ↦
          let P : Option ℕ → Type 0 = λ o. IfSome o (λ t. t < length new) in
          let Q : ℕ → Type 0 = λ m. P (get_or (set takers a.place (Some s)) m d) in
          subst Q (sym e) (subst P (sym (get_or-set_same takers a.place (Some s) d place_there)) s_there)
      | inr e ↦
          let P : Option ℕ → Type 0 = λ o. IfSome o (λ t. t < length new) in
          subst P (sym (get_or-set_other takers a.place k (Some s) d e)) (subst (λ size. IfSome (get_or takers k d) (λ t. t < size)) (sym long) (j.below k d (omega (arith, h, length-set takers a.place (Some s)))))
    ]

    own : (p t : ℕ) → taker_at (set takers a.place (Some s)) p ≡ Some t → IsTrue (is_driven_at n.signals t) × IsTrue (takes_from n t p)
    own p t e = elim (cases_eq p a.place) [
      | inr other ↦ j.own p t (sym (at_other p other) ∙ e)
      | inl here ↦
          let t_is : s ≡ t = same_Some s t (sym (ap (taker_at (set takers a.place (Some s))) here ∙ at_place) ∙ e) in
          let parts = own_parts n a s own_is in
          let takes : takes_from n (signal_of n a) a.place ≡ true = takes_by n a i inside (a_is a) parts.out in
          let P : ℕ → Type 0 = λ q. takes_from n t q ≡ true in
          let Q : ℕ → Type 0 = λ x. takes_from n x a.place ≡ true in
          (ap (is_driven_at n.signals) (sym t_is) ∙ parts.output, subst P (sym here) (subst Q (parts.signal_is ∙ t_is) takes))
    ]

    none_led : (o : Option ℕ) → IsLedWith old o None → (q : Option ℕ) → IsLedWith new o q
    none_led None h q = tt
    none_led (Some x) h q = absurd h

    earlier : (k : ℕ) (d : NetArc) → k < i → IsLedWith new (own_taker n (get_or n.arcs k d)) (taker_at (set takers a.place (Some s)) (get_or n.arcs k d).place)
    earlier k d l = elim (cases_eq (get_or n.arcs k d).place a.place) [
      | inl e ↦
          let P : Option ℕ → Type 0 = λ q. IsLedWith old (own_taker n (get_or n.arcs k d)) q in
          none_led (own_taker n (get_or n.arcs k d)) (subst P (ap (taker_at takers) e ∙ none) (j.arcs k d l)) (taker_at (set takers a.place (Some s)) (get_or n.arcs k d).place)
      | inr e ↦
          let P : Option ℕ → Type 0 = λ q. IsLedWith new (own_taker n (get_or n.arcs k d)) q in
          subst P (sym (at_other (get_or n.arcs k d).place e)) (kept_with old new (own_taker n (get_or n.arcs k d)) (taker_at takers (get_or n.arcs k d).place) keeps
          (λ x f. omega (arith, own_there n k x d net (omega (arith, inside)) f, j.led.long))
          (λ t f. taker_there takers (length old) (get_or n.arcs k d).place t j.below f)
          (j.arcs k d l))
    ]

    here : IsLedWith new (own_taker n a) (taker_at (set takers a.place (Some s)) a.place)
    here =
        let P : Option ℕ → Type 0 = λ o. IsLedWith new o (taker_at (set takers a.place (Some s)) a.place) in
        let Q : Option ℕ → Type 0 = λ q. IsLedWith new (Some s) q in
        subst P (sym own_is) (subst Q (sym at_place) refl)

    arcs : (k : ℕ) (d : NetArc) → k < i + 1 → IsLedWith new (own_taker n (get_or n.arcs k d)) (taker_at (set takers a.place (Some s)) (get_or n.arcs k d).place)
    arcs k d below = elim (cases_lt k i) [
      | inl l ↦ earlier k d l
      | inr r ↦
          let Q : ℕ → Type 0 = λ m. IsLedWith new (own_taker n (get_or n.arcs m d)) (taker_at (set takers a.place (Some s)) (get_or n.arcs m d).place) in
          let R : NetArc → Type 0 = λ b. IsLedWith new (own_taker n b) (taker_at (set takers a.place (Some s)) b.place) in
          subst Q (omega (arith, below, r)) (subst R (sym (a_is d)) here)
    ]

to_least : (from to x : ℕ) → (x ≡ from) ⊎ (x ≡ to) → relabelled_leader from to x ≡ to
to_least from to x e = elim (cases_eq x from) [
  | inl f ↦ ap (relabelled_leader from to) f ∙ relabelled_leader-from from to
  | inr f ↦ elim e [ inl g ↦ absurd (f g) | inr g ↦ relabelled_leader-other from to x f ∙ g ]
]

one_of : (a b x : ℕ) → (x ≡ a) ⊎ (x ≡ b) → (x ≡ max a b) ⊎ (x ≡ min a b)
one_of a b x e = elim (cases_lt a b) [
  | inl l ↦ elim e [ inl f ↦ inr (omega arith) | inr f ↦ inl (omega arith) ]
  | inr l ↦ elim e [ inl f ↦ inl (omega arith) | inr f ↦ inr (omega arith) ]
]

-- the leaders and takers after one more arc
pub joining_more : (n : NetLists) (i : ℕ) (old new : List ℕ) (takers after : List (Option ℕ)) (a : NetArc) → IsNet n → i < length n.arcs → ((d : NetArc) → get_or n.arcs i d ≡ a) → IsJoining n i old takers → length new ≡ length old
    → after ≡ with_taker (own_taker n a) a.place takers → ((s : ℕ) → s < length old → leader_of new s ≡ new_leader (own_taker n a) (taker_at takers a.place) old (leader_of old s)) → IsJoining n (i + 1) new after
joining_more n i old new takers after a net inside a_is j long told moved = go (own_taker n a) (taker_at takers a.place) refl refl
  where
    Moved : Option ℕ → Option ℕ → Type 0
    Moved o q = (s : ℕ) → s < length old → leader_of new s ≡ new_leader o q old (leader_of old s)

    kept : ((s : ℕ) → s < length old → leader_of new s ≡ leader_of old s) → KeepsLeading old new
    kept same x y hx hy e = same x hx ∙ e ∙ sym (same y hy)

    place_there : a.place < length n.tokens
    place_there = subst (λ (b : NetArc). b.place < length n.tokens) (a_is a) (net.arcs i a inside).place_there

    clash : (s t : ℕ) → own_taker n a ≡ Some s → taker_at takers a.place ≡ Some t → ((x : ℕ) → x < length old → leader_of new x ≡ merged_leader old t s (leader_of old x)) → IsJoining n (i + 1) new after
    clash s t own_is taker_is moves =
        let s_there : s < length old = omega (arith, own_there n i s a net inside (ap (own_taker n) (a_is a) ∙ own_is), j.led.long) in
        let t_there : t < length old = taker_there takers (length old) a.place t j.below taker_is in
        let parts = own_parts n a s own_is in
        let s_takes : takes_from n s a.place ≡ true = ap (λ x. takes_from n x a.place) (sym parts.signal_is) ∙ takes_by n a i inside (a_is a) parts.out in
        let taken = j.own a.place t taker_is in
        let are = joined_once n t s (conflict_at n t s a.place place_there taken.0 parts.output taken.1 s_takes) in
        let high = max (leader_of old t) (leader_of old s) in
        let low = min (leader_of old t) (leader_of old s) in
        let same : leader_of new s ≡ leader_of new t =
        moves s s_there ∙ to_least high low (leader_of old s) (one_of (leader_of old t) (leader_of old s) (leader_of old s) (inr refl))
        ∙ sym (moves t t_there ∙ to_least high low (leader_of old t) (one_of (leader_of old t) (leader_of old s) (leader_of old t) (inl refl))) in
        let P : Option ℕ → Type 0 = λ o. IsLedWith new o (taker_at takers a.place) in
        let Q : Option ℕ → Type 0 = λ q. IsLedWith new (Some s) q in
        joining_kept n i old new takers after a net inside a_is j long
        (told ∙ ap (λ o. with_taker o a.place takers) own_is ∙ ap (λ q. with_first q s a.place takers) taker_is)
        (led_joined n old new t s long t_there s_there are moves j.led)
        (λ x y hx hy e. moves x hx ∙ ap (merged_leader old t s) e ∙ sym (moves y hy))
        (subst P (sym own_is) (subst Q (sym taker_is) same))

    go : (o q : Option ℕ) → own_taker n a ≡ o → taker_at takers a.place ≡ q → IsJoining n (i + 1) new after
    go None q own_is taker_is =
        let same : (s : ℕ) → s < length old → leader_of new s ≡ leader_of old s = λ s h. moved s h ∙ ap (λ o. new_leader o (taker_at takers a.place) old (leader_of old s)) own_is in
        let P : Option ℕ → Type 0 = λ o. IsLedWith new o (taker_at takers a.place) in
        joining_kept n i old new takers after a net inside a_is j long (told ∙ ap (λ o. with_taker o a.place takers) own_is) (led_same n old new long same j.led) (kept same) (subst P (sym own_is) tt)
    go (Some s) None own_is taker_is =
        let same : (x : ℕ) → x < length old → leader_of new x ≡ leader_of old x = λ x h. moved x h ∙ ap (λ o. new_leader o (taker_at takers a.place) old (leader_of old x)) own_is ∙ ap (λ q. new_leader (Some s) q old (leader_of old x)) taker_is in
        joining_first n i s old new takers after a net inside a_is j long own_is taker_is
        (told ∙ ap (λ o. with_taker o a.place takers) own_is ∙ ap (λ q. with_first q s a.place takers) taker_is)
        (led_same n old new long same j.led) (kept same)
    go (Some s) (Some t) own_is taker_is =
        clash s t own_is taker_is (λ x h. moved x h ∙ ap (λ o. new_leader o (taker_at takers a.place) old (leader_of old x)) own_is ∙ ap (λ q. new_leader (Some s) q old (leader_of old x)) taker_is)

-- at first each signal leads itself, and no place has a taker
pub joining_none : (n : NetLists) (leaders : List ℕ) (takers : List (Option ℕ)) → leaders ≡ range_with_len 0 (length n.signals) → length takers ≡ length n.tokens → ((p : ℕ) → taker_at takers p ≡ None) → IsJoining n 0 leaders takers
joining_none n leaders takers same wide none = record {
  led = record {
    long = long;
    joined = λ x y hx hy e. joined_itself n x y (sym (at x hx) ∙ e ∙ at y hy);
    low = λ x h. omega (arith, at x h);
    fixed = λ x h. ap (leader_of leaders) (at x h);
  };
  wide = wide;
  below = λ k d h.
      let P : Option ℕ → Type 0 = λ o. IfSome o (λ s. s < length leaders) in
      subst P (sym (get_or_default takers k d None h ∙ none k)) tt;
  own = λ p s e. let f : None ≡ Some s = sym (none p) ∙ e in absurd (cc);
  arcs = λ i d below. absurd (omega arith);
}
  where
    long : length leaders ≡ length n.signals
    long = ap length same ∙ length-range_with_len 0 (length n.signals)

    at : (x : ℕ) → x < length leaders → leader_of leaders x ≡ x
    at x h =
        let inside : x < length n.signals = omega (arith, h, long) in
        ap (λ xs. leader_of xs x) same ∙ (let e : get_or (range_with_len 0 (length n.signals)) x 0 ≡ x = omega (arith, get_or-range_with_len 0 (length n.signals) x 0 inside) in e)

-- each own taker is led with the taker of its place
taker_led : (n : NetLists) (leaders : List ℕ) (takers : List (Option ℕ)) (s p : ℕ) → IsJoining n (length n.arcs) leaders takers → is_driven_at n.signals s ≡ true → takes_from n s p ≡ true → IsLedWith leaders (Some s) (taker_at takers p)
taker_led n leaders takers s p j output takes =
    let t = taker n s p takes in
    let P : NetArc → Type 0 = λ a. IsLedWith leaders (own_taker n a) (taker_at takers a.place) in
    let Q : Option ℕ → Type 0 = λ o. IsLedWith leaders o (taker_at takers t.arc.place) in
    let R : ℕ → Type 0 = λ q. IsLedWith leaders (Some s) (taker_at takers q) in
    let own = own_whole n t.arc s (record { out = t.out; output = output; signal_is = t.signal_is }) in
    subst R t.place_is (subst Q own (subst P (t.arc_is t.arc) (j.arcs t.at t.arc t.inside)))

-- the taker of a place from which an output takes
pub record Led (leaders : List ℕ) (takers : List (Option ℕ)) (s p : ℕ) : Type 0 where
  pub by : ℕ
  pub by_is : taker_at takers p ≡ Some by
  pub same : leader_of leaders s ≡ leader_of leaders by

pub led_by : (n : NetLists) (leaders : List ℕ) (takers : List (Option ℕ)) (s p : ℕ) → IsJoining n (length n.arcs) leaders takers → is_driven_at n.signals s ≡ true → takes_from n s p ≡ true → Led leaders takers s p
led_by n leaders takers s p j output takes = go (taker_at takers p) refl (taker_led n leaders takers s p j output takes)
  where
    go : (q : Option ℕ) → taker_at takers p ≡ q → IsLedWith leaders (Some s) q → Led leaders takers s p
    go None e h = absurd h
    go (Some t) e h = record { by = t; by_is = e; same = h }

-- signals in conflict have one leader
conflict_led : (n : NetLists) (leaders : List ℕ) (takers : List (Option ℕ)) (x y : ℕ) → IsJoining n (length n.arcs) leaders takers → in_conflict n x y ≡ true → leader_of leaders x ≡ leader_of leaders y
conflict_led n leaders takers x y j e =
    let outer = and_parts (is_driven_at n.signals x && is_driven_at n.signals y) (share_place n x y) e in
    let outputs = and_parts (is_driven_at n.signals x) (is_driven_at n.signals y) outer.0 in
    let s = shared n x y outer.1 in
    let one = led_by n leaders takers x s.place j outputs.0 s.x_takes in
    let other = led_by n leaders takers y s.place j outputs.1 s.y_takes in
    one.same ∙ ap (leader_of leaders) (same_Some one.by other.by (sym one.by_is ∙ other.by_is)) ∙ sym other.same

leads_led : (n : NetLists) (leaders : List ℕ) (takers : List (Option ℕ)) (x y : ℕ) (path : List ℕ) → IsJoining n (length n.arcs) leaders takers → LeadsTo n x path y → leader_of leaders x ≡ leader_of leaders y
leads_led n leaders takers x y [] j e = ap (leader_of leaders) e
leads_led n leaders takers x y (z ∷ path) j e = conflict_led n leaders takers x z j e.0 ∙ leads_led n leaders takers z y path j e.1

-- in the end, joined signals have one leader
pub joined_led : (n : NetLists) (leaders : List ℕ) (takers : List (Option ℕ)) (x y : ℕ) → IsJoining n (length n.arcs) leaders takers → AreJoined n x y → leader_of leaders x ≡ leader_of leaders y
joined_led n leaders takers x y j joins = leads_led n leaders takers x y joins.path j joins.leads
