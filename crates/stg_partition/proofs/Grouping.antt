-- The groups of the leaders are the plain groups.
use Rattle.std.proofs.Common.{◌≡◌, ◌↔◌, ℕ, ◌<◌, ◌&&◌, ◌||◌, ◌==◌, Bool, true, List, length, get_or, map, All, Any, AllPairs, Contains, slice_index, Option, Some, None, IsTrue, refl, sym, ap, ◌∙◌, subst, arith, eq-eqb, inl, inr}
use Rattle.std.specs.Cmp.{both_ways}
use Rattle.std.specs.List.{list_any, range_with_len}
use Rattle.std.proofs.lemmas.Bool.{and_parts, and_from, or_left, or_right, or_cases, eqb-true, ne_eqb, false≢true}
use Rattle.std.proofs.lemmas.List.{get_or-map, length-map}
use Rattle.std.proofs.lemmas.List.Folds.{list_any_at}
use Rattle.std.proofs.lemmas.List.Kept.{AllPairs-from_increasing}
use Rattle.stg_net.specs.declared.arc.NetArc.{NetArc}
use Rattle.stg_net.specs.Net.{NetLists, IsNet}
use Rattle.stg_net.specs.Ordered.{numbers_where}
use Rattle.stg_net.specs.Component.{is_one_of}
use Rattle.stg_net.proofs.Givers.{numbers_where-agree}
use Rattle.stg_net.proofs.Members.{one_of-contained, contained-one_of}
use Rattle.stg_laws.specs.Groups.{signal_of, is_driven_at, takes_from, is_at, own_take_from, is_known_to, known_to, AreJoined, IsPlainGroup, least_own}
use Rattle.stg_laws.specs.PlainGroups.{Group, ArePlainGroups}
use Rattle.stg_partition.specs.inner.Joining.{taker_at, is_led, brings, AreFlags, is_known_by, group_of, is_leader, IsJoining}
use Rattle.stg_laws.proofs.KnownSignals.{at_by, passing, own_takes, known_at, passing_contained}
use Rattle.stg_laws.proofs.SignalConflicts.{driven_there, joined_driven}
use Rattle.stg_partition.proofs.Leading.{leader_of, taker_there, led_by, joined_led}
use Rattle.stg_partition.proofs.Numbers.{numbers_increase, numbers_pass, contained_passes, first_number}

module _ (n : NetLists) (leaders : List ℕ) (takers : List (Option ℕ)) (j : IsJoining n (length n.arcs) leaders takers) where
  abbrev own_of : ℕ → List ℕ
  own_of l = numbers_where (λ s. slice_index leaders s == l) (length leaders)

  own_led : (l s : ℕ) → Contains (own_of l) s → (s < length leaders) × (leader_of leaders s ≡ l)
  own_led l s c = let p = contained_passes (λ k. slice_index leaders k == l) (length leaders) s c in (p.below, eqb-true (leader_of leaders s) l p.passes)

  led_own : (l s : ℕ) → s < length leaders → leader_of leaders s ≡ l → Contains (own_of l) s
  led_own l s below e = passing_contained (λ k. slice_index leaders k == l) (length leaders) s below (eq-eqb (leader_of leaders s) l e)

  driven_below : (s : ℕ) → is_driven_at n.signals s ≡ true → s < length leaders
  driven_below s e = omega (arith, driven_there n s e, j.led.long)

  least_is : (l : ℕ) → l < length leaders → leader_of leaders l ≡ l → least_own (own_of l) ≡ l
  least_is l below e =
      first_number (λ s. slice_index leaders s == l) (length leaders) l below (eq-eqb (leader_of leaders l) l e)
      (λ k lower. ne_eqb (leader_of leaders k) l (λ f. absurd (omega (arith, f, j.led.low k (omega arith), lower))))

  joins : (l s : ℕ) → is_driven_at n.signals l ≡ true → leader_of leaders l ≡ l → Contains (own_of l) s ↔ AreJoined n l s
  joins l s output e = (
    λ c. let p = own_led l s c in j.led.joined l s (driven_below l output) p.0 (e ∙ sym p.1),
    λ a. led_own l s (driven_below s (joined_driven n l s output a)) (sym (joined_led n leaders takers l s j a) ∙ e),
  )

  -- the group of a leader
  plain_group : (l : ℕ) → is_driven_at n.signals l ≡ true → leader_of leaders l ≡ l → IsPlainGroup n (own_of l)
  plain_group l output e =
      let least = least_is l (driven_below l output) e in
      let P : ℕ → Type 0 = λ k. (s : ℕ) → Contains (own_of l) s ↔ AreJoined n k s in
      record {
        driven = ap (is_driven_at n.signals) least ∙ output;
        ascends = numbers_increase (λ s. slice_index leaders s == l) (length leaders);
        joined = subst P (sym least) (λ s. joins l s output e);
      }

  -- a group knows what an arc brings to it
  brings_known : (l s p t : ℕ) → p < length n.tokens → taker_at takers p ≡ Some t → leader_of leaders t ≡ l → is_at n s p ≡ true → is_known_to n (own_of l) s ≡ true
  brings_known l s p t inside taker e at =
      let own_t = led_own l t (taker_there takers (length leaders) p t j.below taker) e in
      known_at n (own_of l) s p inside (own_takes n (own_of l) t p own_t (j.own p t taker).1) at

  -- the taker that leads to the group
  pub record LedBy (l p : ℕ) : Type 0 where
    pub taker : ℕ
    pub taker_is : taker_at takers p ≡ Some taker
    pub leads : leader_of leaders taker ≡ l

  led_taker : (l p : ℕ) → is_led leaders l (taker_at takers p) ≡ true → LedBy l p
  led_taker l p e = go (taker_at takers p) refl e
    where
      go : (q : Option ℕ) → taker_at takers p ≡ q → is_led leaders l q ≡ true → LedBy l p
      go None f h = absurd (false≢true h)
      go (Some t) f h = record { taker = t; taker_is = f; leads = eqb-true (leader_of leaders t) l h }

  brought_known : (l s : ℕ) → IsNet n → list_any (brings n leaders takers l s) n.arcs ≡ true → is_known_to n (own_of l) s ≡ true
  brought_known l s net e =
      let f = passing (brings n leaders takers l s) n.arcs e in
      let parts = and_parts (is_led leaders l (taker_at takers f.item.place)) (signal_of n f.item == s) f.passes in
      let by = led_taker l f.item.place parts.0 in
      let signal = eqb-true (signal_of n f.item) s parts.1 in
      let P : ℕ → Type 0 = λ x. is_at n x f.item.place ≡ true in
      let low = subst (λ (a : NetArc). a.place < length n.tokens) (f.item_is f.item) (net.arcs f.at f.item f.inside).place_there in
      brings_known l s f.item.place by.taker low by.taker_is by.leads (subst P signal (at_by n f.item f.at f.inside (f.item_is f.item)))

  own_is_known : (l s : ℕ) → s < length leaders → leader_of leaders s ≡ l → is_known_to n (own_of l) s ≡ true
  own_is_known l s below e =
      or_left (is_one_of (own_of l) s) (list_any (λ p. own_take_from n (own_of l) p && is_at n s p) (range_with_len 0 (length n.tokens)))
      (one_of-contained (own_of l) s (led_own l s below e))

  own_leads : (l s : ℕ) → is_one_of (own_of l) s ≡ true → leader_of leaders s ≡ l
  own_leads l s e = (own_led l s (contained-one_of (own_of l) s e)).1

  place_brought : (l s p : ℕ) → is_driven_at n.signals l ≡ true → leader_of leaders l ≡ l → own_take_from n (own_of l) p ≡ true → is_at n s p ≡ true → list_any (brings n leaders takers l s) n.arcs ≡ true
  place_brought l s p output e takes at =
      let o = passing (λ x. takes_from n x p) (own_of l) takes in
      let own = own_led l o.item (o.at, o.inside, o.item_is o.item) in
      let out = joined_driven n l o.item output (j.led.joined l o.item (driven_below l output) own.0 (e ∙ sym own.1)) in
      let by = led_by n leaders takers o.item p j out o.passes in
      let f = passing (λ (a : NetArc). (a.place == p) && (signal_of n a == s)) n.arcs at in
      let parts = and_parts (f.item.place == p) (signal_of n f.item == s) f.passes in
      let here : taker_at takers f.item.place ≡ Some by.by = ap (taker_at takers) (eqb-true f.item.place p parts.0) ∙ by.by_is in
      let led : is_led leaders l (taker_at takers f.item.place) ≡ true = ap (is_led leaders l) here ∙ eq-eqb (leader_of leaders by.by) l (sym by.same ∙ own.1) in
      list_any_at (brings n leaders takers l s) n.arcs f.at f.item f.inside
      (ap (brings n leaders takers l s) (f.item_is f.item) ∙ and_from (is_led leaders l (taker_at takers f.item.place)) (signal_of n f.item == s) led parts.1)

  known_brought : (l s : ℕ) → is_driven_at n.signals l ≡ true → leader_of leaders l ≡ l → is_known_to n (own_of l) s ≡ true → ((slice_index leaders s == l) || list_any (brings n leaders takers l s) n.arcs) ≡ true
  known_brought l s output e known = elim (or_cases (is_one_of (own_of l) s) (list_any (λ p. own_take_from n (own_of l) p && is_at n s p) (range_with_len 0 (length n.tokens))) known) [
    | inl own ↦ or_left (slice_index leaders s == l) (list_any (brings n leaders takers l s) n.arcs) (eq-eqb (leader_of leaders s) l (own_leads l s own))
    | inr at ↦
        let f = passing (λ p. own_take_from n (own_of l) p && is_at n s p) (range_with_len 0 (length n.tokens)) at in
        let parts = and_parts (own_take_from n (own_of l) f.item) (is_at n s f.item) f.passes in
        or_right (slice_index leaders s == l) (list_any (brings n leaders takers l s) n.arcs) (place_brought l s f.item output e parts.0 parts.1)
  ]

  -- what the group's flags tell is what it has to know
  known_same : (flags : List Bool) (l : ℕ) → IsNet n → AreFlags n leaders takers flags → is_driven_at n.signals l ≡ true → leader_of leaders l ≡ l → (group_of leaders flags l).known ≡ known_to n (own_of l)
  known_same flags l net are output e =
      ap (numbers_where (is_known_by leaders flags l)) j.led.long
      ∙ numbers_where-agree (is_known_by leaders flags l) (is_known_to n (own_of l)) (length n.signals) (λ s below. same s (omega (arith, below, j.led.long)))
    where
      same : (s : ℕ) → s < length leaders → is_known_by leaders flags l s ≡ is_known_to n (own_of l) s
      same s below =
          ap (λ b. (slice_index leaders s == l) || b) (are l s below)
          ∙ both_ways ((slice_index leaders s == l) || list_any (brings n leaders takers l s) n.arcs) (is_known_to n (own_of l) s)
          (λ h. elim (or_cases (slice_index leaders s == l) (list_any (brings n leaders takers l s) n.arcs) h) [
            | inl led ↦ own_is_known l s below (eqb-true (leader_of leaders s) l led)
            | inr seen ↦ brought_known l s net seen
          ])
          (known_brought l s output e)

  abbrev first_ones : List ℕ
  first_ones = numbers_where (is_leader n leaders) (length leaders)

  pub record Leads (l : ℕ) : Type 0 where
    pub below : l < length leaders
    pub output : is_driven_at n.signals l ≡ true
    pub itself : leader_of leaders l ≡ l

  leads_at : (k d : ℕ) → k < length first_ones → Leads (get_or first_ones k d)
  leads_at k d inside =
      let p = numbers_pass (is_leader n leaders) (length leaders) k d inside in
      let l = get_or first_ones k d in
      let parts = and_parts (is_driven_at n.signals l) (slice_index leaders l == l) p.passes in
      record { below = p.below; output = parts.0; itself = eqb-true (leader_of leaders l) l parts.1 }

  -- the leader of an output is a first one
  leader_first : (s : ℕ) → is_driven_at n.signals s ≡ true → Contains first_ones (leader_of leaders s)
  leader_first s output =
      let below = driven_below s output in
      let l = leader_of leaders s in
      let fixed = j.led.fixed s below in
      let l_below : l < length leaders = omega (arith, j.led.low s below, below) in
      let out = joined_driven n s l output (j.led.joined s l below l_below (sym fixed)) in
      passing_contained (is_leader n leaders) (length leaders) l l_below (and_from (is_driven_at n.signals l) (slice_index leaders l == l) out (eq-eqb (leader_of leaders l) l fixed))

  abbrev group : List Bool → ℕ → Group
  group flags l = group_of leaders flags l

  abbrev all_groups : List Bool → List Group
  all_groups flags = map (group flags) first_ones

  inside : (flags : List Bool) (k : ℕ) → k < length (all_groups flags) → k < length first_ones
  inside flags k below = omega (arith, below, length-map first_ones (group flags))

  group_at : (flags : List Bool) (k : ℕ) (d : Group) → k < length (all_groups flags) → get_or (all_groups flags) k d ≡ group flags (get_or first_ones k 0)
  group_at flags k d below = get_or-map (group flags) first_ones k 0 d (inside flags k below)

  each_group : (flags : List Bool) (P : Group → Type 0) → ((l : ℕ) → Leads l → P (group flags l)) → All P (all_groups flags)
  each_group flags P holds k d below = subst P (sym (group_at flags k d below)) (holds (get_or first_ones k 0) (leads_at k 0 (inside flags k below)))

  least_at : (flags : List Bool) (k : ℕ) (d : Group) → k < length (all_groups flags) → least_own (get_or (all_groups flags) k d).own ≡ get_or first_ones k 0
  least_at flags k d below =
      let l = leads_at k 0 (inside flags k below) in
      ap (λ (g : Group). least_own g.own) (group_at flags k d below) ∙ least_is (get_or first_ones k 0) l.below l.itself

  groups_rise : (flags : List Bool) → AllPairs (λ (g h : Group). least_own g.own < least_own h.own) (all_groups flags)
  groups_rise flags i k d lt below =
      let rise = AllPairs-from_increasing first_ones (numbers_increase (is_leader n leaders) (length leaders)) i k 0 lt (inside flags k below) in
      omega (arith, rise, least_at flags i d (omega (arith, lt, below)), least_at flags k d below)

  groups_whole : (flags : List Bool) (s : ℕ) → IsTrue (is_driven_at n.signals s) → Any (λ (g : Group). Contains g.own s) (all_groups flags)
  groups_whole flags s output =
      let c = leader_first s output in
      let g = group flags (leader_of leaders s) in (
        c.0,
        g,
        omega (arith, c.1, length-map first_ones (group flags)),
        get_or-map (group flags) first_ones c.0 (leader_of leaders s) g c.1 ∙ ap (group flags) c.2,
        led_own (leader_of leaders s) s (driven_below s output) refl,
      )

  -- the groups of all leaders
  pub plain_groups_of : (flags : List Bool) (groups : List Group) → IsNet n → AreFlags n leaders takers flags → groups ≡ map (group_of leaders flags) first_ones → ArePlainGroups n groups
  plain_groups_of flags groups net are same = subst (ArePlainGroups n) (sym same) (record {
    plain = each_group flags (λ g. IsPlainGroup n g.own) (λ l leads. plain_group l leads.output leads.itself);
    whole = groups_whole flags;
    ordered = groups_rise flags;
    known = each_group flags (λ g. g.known ≡ known_to n g.own) (λ l leads. known_same flags l net are leads.output leads.itself);
  })
