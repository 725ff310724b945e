-- The search for the least clash of one signal finds the least.
use Rattle.std.proofs.Common.{◌≡◌, ◌⊎◌, ◌<◌, ◌≤◌, ◌+◌, ◌↔◌, ◌&&◌, ℕ, zero, suc, true, false, List, [], ◌∷◌, length, ltb, Option, Some, None, is_some, IfSome, refl, sym, ap, ◌∙◌, subst, inl, inr, arith}
use Rattle.std.proofs.lemmas.Bool.{and_parts, cases_Bool, cases_lt, lt-ltb, le-ltb, ltb-true, false≢true}
use Rattle.std.proofs.lemmas.List.{get_or_past}
use Rattle.std.proofs.lemmas.Option.{same_Some}
use Rattle.std.proofs.lemmas.Slice.Eq.{bytes_eq-Decides}
use Rattle.stg_net.specs.declared.signal.Signal.{Signal}
use Rattle.stg_net.specs.Net.{signal_at}
use Rattle.stg_net.specs.Graph.{Graph, FullName, IsTrans, full_name_at, has_signal_of, is_among, taken_by, takes}
use Rattle.stg_net.proofs.Edges.{is_edge-true, is_edge-itself}
use Rattle.stg_arena.specs.WalkItems.{weighted_from}
use Rattle.stg_laws.specs.Cuts.{Label, label_of}
use Rattle.stg_laws.specs.Conflict.{HasNoAutoConflict, IsClash, IsLeastClash}
use Rattle.stg_laws.specs.Deterministic.{AreRivals}
use Rattle.stg_laws.proofs.Names.{named, live_from}
use Rattle.stg_conflict.specs.Hidden.{with_only}
use Rattle.stg_conflict.specs.declared.clash.Clash.{Clash}
use Rattle.stg_conflict.specs.inner.Labels.{are_alike, is_of_signal}
use Rattle.stg_conflict.specs.inner.Search.{lesser}
use Rattle.stg_conflict.specs.inner.HiddenSearch.{walked, later_clash, least_with_taker, least_at_place, least_of_trans, least_below, least_of_signal}
use Rattle.stg_conflict.proofs.Orders.{IsLesser, IsReached, lesser_first, lesser_second, lesser_one}
use Rattle.stg_conflict.proofs.Clashing.{no_clash}

-- what was found is one of those of which P holds, and none of these is lesser
pub record IsLeastOf (P : Clash → Type 0) (found : Option Clash) : Type 0 where
  pub sound : (c : Clash) → found ≡ Some c → P c
  pub reaches : (c : Clash) → P c → IsReached found c

least_same : (P Q : Clash → Type 0) (o : Option Clash) → ((c : Clash) → P c → Q c) → ((c : Clash) → Q c → P c)
    → IsLeastOf P o → IsLeastOf Q o
least_same P Q o to from l = record { sound = λ c e. to c (l.sound c e); reaches = λ c q. l.reaches c (from c q) }

not_before_itself : (c : Clash) → IsLesser c c → ⊥
not_before_itself c l = grind arith

-- the lesser one is the least of one more
lesser_least : (P : Clash → Type 0) (x o : Option Clash) → IsLeastOf P o → IsLeastOf (λ c. P c ⊎ (x ≡ Some c)) (lesser x o)
lesser_least P x o l = record {
  sound = λ c e. elim (lesser_one x o c e) [ inl here ↦ inr here | inr there ↦ inl (l.sound c there) ];
  reaches = λ c r. elim r [
    | inl p ↦ lesser_second x o c (l.reaches c p)
    | inr e ↦ lesser_first x o c (subst (λ y. IsReached y c) (sym e) (not_before_itself c))
  ];
}

-- Q holds of the clash and of a number that has a weight
pub record Has (Q : ℕ → Clash → Type 0) (w : ℕ → ℕ) (a m : ℕ) (c : Clash) : Type 0 where
  pub number : ℕ
  pub low : a ≤ number
  pub high : number < a + m
  pub some : 0 < w number
  pub holds : Q number c

-- the step finds the least of one more set
abbrev Finds : (ℕ → Option Clash → Option Clash) → (ℕ → Clash → Type 0) → Type 1
Finds step Q = (k : ℕ) (P : Clash → Type 0) (o : Option Clash) → IsLeastOf P o → IsLeastOf (λ c. P c ⊎ Q k c) (step k o)

-- and so do the steps along a walk
walked_least : (step : ℕ → Option Clash → Option Clash) (Q : ℕ → Clash → Type 0) (w : ℕ → ℕ) (m a : ℕ) (P : Clash → Type 0) (o : Option Clash) → Finds step Q → IsLeastOf P o
    → IsLeastOf (λ c. P c ⊎ Has Q w a m c) (walked step o (weighted_from w a m))
walked_least step Q w zero a P o finds l = least_same P (λ c. P c ⊎ Has Q w a 0 c) o (λ c p. inl p) (λ c h. elim h [ inl p ↦ p | inr f ↦ absurd (omega (arith, f.low, f.high)) ]) l
walked_least step Q w (suc m) a P o finds l = elim (cases_lt 0 (w a)) [
  | inl some ↦ rw (lt-ltb 0 (w a) some) (least_same (λ c. (P c ⊎ Q a c) ⊎ Has Q w (a + 1) m c) (λ c. P c ⊎ Has Q w a (suc m) c) _ (first some) back (walked_least step Q w m (a + 1) (λ c. P c ⊎ Q a c) (step a o) finds (finds a P o l)))
  | inr none ↦ rw (le-ltb 0 (w a) none) (least_same (λ c. P c ⊎ Has Q w (a + 1) m c) (λ c. P c ⊎ Has Q w a (suc m) c) _ over (skip none) (walked_least step Q w m (a + 1) P o finds l))
]
  where
    later : (c : Clash) → Has Q w (a + 1) m c → Has Q w a (suc m) c
    later c h = record { number = h.number; low = omega (arith, h.low); high = omega (arith, h.high); some = h.some; holds = h.holds }

    first : 0 < w a → (c : Clash) → (P c ⊎ Q a c) ⊎ Has Q w (a + 1) m c → P c ⊎ Has Q w a (suc m) c
    first some c (inl (inl p)) = inl p
    first some c (inl (inr q)) = inr (record { number = a; low = omega arith; high = omega arith; some = some; holds = q })
    first some c (inr h) = inr (later c h)

    back : (c : Clash) → P c ⊎ Has Q w a (suc m) c → (P c ⊎ Q a c) ⊎ Has Q w (a + 1) m c
    back c (inl p) = inl (inl p)
    back c (inr h) = elim (cases_lt a h.number) [
      | inl past ↦ inr (record { number = h.number; low = omega (arith, past); high = omega (arith, h.high); some = h.some; holds = h.holds })
      | inr up_to ↦ let e : h.number ≡ a = omega (arith, up_to, h.low) in inl (inr (subst (λ k. Q k c) e h.holds))
    ]

    over : (c : Clash) → P c ⊎ Has Q w (a + 1) m c → P c ⊎ Has Q w a (suc m) c
    over c (inl p) = inl p
    over c (inr h) = inr (later c h)

    skip : w a ≤ 0 → (c : Clash) → P c ⊎ Has Q w a (suc m) c → P c ⊎ Has Q w (a + 1) m c
    skip none c (inl p) = inl p
    skip none c (inr h) = elim (cases_lt a h.number) [
      | inl past ↦ inr (record { number = h.number; low = omega (arith, past); high = omega (arith, h.high); some = h.some; holds = h.holds })
      | inr up_to ↦ let e : h.number ≡ a = omega (arith, up_to, h.low) in absurd (omega (arith, none, subst (λ k. 0 < w k) e h.some))
    ]

-- the clashes of t with a taker of p, and those of t
abbrev AtPlace : Graph → ℕ → ℕ → Clash → Type 0
AtPlace g t p c = Has (λ u c. later_clash g t p u ≡ Some c) (λ u. takes g u p) 0 (length g.trans) c

abbrev OfTrans : Graph → ℕ → Clash → Type 0
OfTrans g t c = Has (AtPlace g t) (takes g t) 0 (length g.places) c

taker_finds : (g : Graph) (t p : ℕ) → Finds (least_with_taker g t p) (λ u c. later_clash g t p u ≡ Some c)
taker_finds g t p u P o l = lesser_least P (later_clash g t p u) o l

place_finds : (g : Graph) (t : ℕ) → Finds (least_at_place g t) (AtPlace g t)
place_finds g t p P o l = walked_least (least_with_taker g t p) (λ u c. later_clash g t p u ≡ Some c) (λ u. takes g u p) (length g.trans) 0 P o (taker_finds g t p) l

trans_finds : (g : Graph) → Finds (least_of_trans g) (OfTrans g)
trans_finds g t P o l = walked_least (least_at_place g t) (AtPlace g t) (takes g t) (length g.places) 0 P o (place_finds g t) l

-- a clash of a transition of the signal below n
pub record Below (signals : List Signal) (s : ℕ) (g : Graph) (n : ℕ) (c : Clash) : Type 0 where
  pub number : ℕ
  pub high : number < n
  pub of_signal : is_of_signal signals s g number ≡ true
  pub clashes : OfTrans g number c

below_finds : (signals : List Signal) (s : ℕ) (g : Graph) (n : ℕ) → IsLeastOf (Below signals s g n) (least_below signals s g n)
below_finds signals s g zero = record { sound = λ c e. absurd (nothing c e); reaches = λ c b. absurd (omega (arith, b.high)) }
  where
    nothing : (c : Clash) → None ≡ Some c → ⊥
    nothing c e = absurd (cc)
below_finds signals s g (suc n) = elim (cases_Bool (is_of_signal signals s g n)) [
  | inl is ↦ rw is (least_same (λ c. Below signals s g n c ⊎ OfTrans g n c) (Below signals s g (suc n)) _ (to is) from (trans_finds g n (Below signals s g n) (least_below signals s g n) (below_finds signals s g n)))
  | inr other ↦ rw other (least_same (Below signals s g n) (Below signals s g (suc n)) _ up (down other) (below_finds signals s g n))
]
  where
    up : (c : Clash) → Below signals s g n c → Below signals s g (suc n) c
    up c b = record { number = b.number; high = omega (arith, b.high); of_signal = b.of_signal; clashes = b.clashes }

    to : is_of_signal signals s g n ≡ true → (c : Clash) → Below signals s g n c ⊎ OfTrans g n c → Below signals s g (suc n) c
    to is c (inl b) = up c b
    to is c (inr o) = record { number = n; high = omega arith; of_signal = is; clashes = o }

    from : (c : Clash) → Below signals s g (suc n) c → Below signals s g n c ⊎ OfTrans g n c
    from c b = elim (cases_lt b.number n) [
      | inl low ↦ inl (record { number = b.number; high = low; of_signal = b.of_signal; clashes = b.clashes })
      | inr high ↦ let e : b.number ≡ n = omega (arith, high, b.high) in inr (subst (λ t. OfTrans g t c) e b.clashes)
    ]

    down : is_of_signal signals s g n ≡ false → (c : Clash) → Below signals s g (suc n) c → Below signals s g n c
    down other c b = elim (cases_lt b.number n) [
      | inl low ↦ record { number = b.number; high = low; of_signal = b.of_signal; clashes = b.clashes }
      | inr high ↦ let e : b.number ≡ n = omega (arith, high, b.high) in absurd (false≢true (sym (ap (is_of_signal signals s g) e ∙ other) ∙ b.of_signal))
    ]

-- what is of the signal is live
pub of_signal_live : (known : List (List ℕ)) (o : Option FullName) → has_signal_of known o ≡ true → is_some o ≡ true
of_signal_live known None e = absurd (false≢true e)
of_signal_live known (Some x) e = refl

alike_live : (o p : Option FullName) → are_alike o p ≡ true → is_some p ≡ true
alike_live None p e = absurd (false≢true e)
alike_live (Some x) None e = absurd (false≢true e)
alike_live (Some x) (Some y) e = refl

-- names that pass the test have one label, and the other way round
pub alike_label : (x y : FullName) → are_alike (Some x) (Some y) ≡ true → label_of x ≡ label_of y
alike_label x y e =
    let parts = and_parts _ _ e in
    let signals : x.signal ≡ y.signal = (bytes_eq-Decides x.signal y.signal).0 parts.0 in
    let edges = is_edge-true x.edge y.edge parts.1 in
    λ i. record { signal = signals i; edge = edges i }

pub label_alike : (x y : FullName) → label_of x ≡ label_of y → are_alike (Some x) (Some y) ≡ true
label_alike x y e =
    let signals : x.signal ≡ y.signal = ap (λ (l : Label). l.signal) e in
    let edges : x.edge ≡ y.edge = ap (λ (l : Label). l.edge) e in
    rw ((bytes_eq-Decides x.signal y.signal).1 signals) (rw edges (is_edge-itself y.edge))

-- a live transition has a number of the list, and a place from which something is taken too
pub trans_below : (g : Graph) (t : ℕ) → IsTrans g t → t < length g.trans
trans_below g t live = elim (cases_lt t (length g.trans)) [ inl l ↦ l | inr past ↦ absurd (false≢true (sym (ap is_some (get_or_past g.trans t None past)) ∙ live)) ]

pub place_below : (g : Graph) (t p : ℕ) → 0 < takes g t p → p < length g.places
place_below g t p some = elim (cases_lt p (length g.places)) [ inl l ↦ l | inr past ↦ absurd (omega (arith, some, ap (taken_by t) (get_or_past g.places p None past))) ]

-- the test finds rivals of the signal
pub rivals_of_signal : (signals : List Signal) (s : ℕ) (g : Graph) (t u : ℕ) → (t ≡ u → ⊥) → is_of_signal signals s g t ≡ true → are_alike (full_name_at g t) (full_name_at g u) ≡ true
    → AreRivals (with_only signals s g) t u
rivals_of_signal signals s g t u differ of_signal alike =
    let name = (signal_at signals s).name in
    let x = named g t (of_signal_live (name ∷ []) (full_name_at g t) of_signal) in
    let y = named g u (alike_live (full_name_at g t) (full_name_at g u) alike) in
    let same = alike_label x.name y.name (sym (λ i. are_alike (x.has i) (y.has i)) ∙ alike) in
    record {
      differ = differ;
      t_known = of_signal;
      u_known = ap (has_signal_of (name ∷ [])) y.has ∙ ap (λ (l : Label). is_among (name ∷ []) l.signal) (sym same) ∙ sym (ap (has_signal_of (name ∷ [])) x.has) ∙ of_signal;
      t_name = x.name;
      u_name = y.name;
      t_has = x.has;
      u_has = y.has;
      same = same;
    }

-- and finds them all
pub rivals_alike : (g : Graph) (t u : ℕ) → AreRivals g t u → are_alike (full_name_at g t) (full_name_at g u) ≡ true
rivals_alike g t u r = (λ i. are_alike (r.t_has i) (r.u_has i)) ∙ label_alike r.t_name r.u_name r.same

-- what the search goes through are the clashes of the graph in which the signal alone is known
module _ (signals : List Signal) (s : ℕ) (g : Graph) where
  clash_is : (t p u : ℕ) (c : Clash) → is_of_signal signals s g t ≡ true → 0 < takes g t p → 0 < takes g u p → later_clash g t p u ≡ Some c → IsClash (with_only signals s g) c.t1 c.t2 c.place
  clash_is t p u c of_signal t_takes u_takes e = elim (cases_Bool (ltb t u && are_alike (full_name_at g t) (full_name_at g u))) [
    | inr fails ↦ absurd (nothing (rw fails at e))
    | inl passes ↦
        let parts = and_parts (ltb t u) (are_alike (full_name_at g t) (full_name_at g u)) passes in
        let up = ltb-true t u parts.0 in
        let c_is : record { t1 = t; t2 = u; place = p } ≡ c = same_Some _ c (rw passes at e) in
        subst (λ (c : Clash). IsClash (with_only signals s g) c.t1 c.t2 c.place) c_is
        (record {
          conflict = record { rivals = rivals_of_signal signals s g t u (λ same. omega (arith, up, same)) of_signal parts.1; t_takes = t_takes; u_takes = u_takes };
          ascends = up;
        })
  ]
    where
      nothing : None ≡ Some c → ⊥
      nothing e = absurd (cc)

  found_clash : (c : Clash) → Below signals s g (length g.trans) c → IsClash (with_only signals s g) c.t1 c.t2 c.place
  found_clash c b =
      let at = b.clashes.holds in
      clash_is b.number b.clashes.number at.number c b.of_signal b.clashes.some at.some at.holds

  clash_found : (c : Clash) → IsClash (with_only signals s g) c.t1 c.t2 c.place → Below signals s g (length g.trans) c
  clash_found c k =
      let r = k.conflict.rivals in
      let t_live = live_from g c.t1 r.t_name r.t_has in
      let u_live = live_from g c.t2 r.u_name r.u_has in
      record {
        number = c.t1;
        high = trans_below g c.t1 t_live;
        of_signal = r.t_known;
        clashes = record {
          number = c.place;
          low = omega arith;
          high = omega (arith, place_below g c.t1 c.place k.conflict.t_takes);
          some = k.conflict.t_takes;
          holds = record {
            number = c.t2;
            low = omega arith;
            high = omega (arith, trans_below g c.t2 u_live);
            some = k.conflict.u_takes;
            holds = rw (lt-ltb c.t1 c.t2 k.ascends) (rw (rivals_alike (with_only signals s g) c.t1 c.t2 r) refl);
          };
        };
      }

  -- the search finds the least clash
  least_is : IsLeastOf (λ c. IsClash (with_only signals s g) c.t1 c.t2 c.place) (least_of_signal signals s g)
  least_is = least_same (Below signals s g (length g.trans)) (λ c. IsClash (with_only signals s g) c.t1 c.t2 c.place) (least_of_signal signals s g) found_clash clash_found (below_finds signals s g (length g.trans))

  -- and none exactly where there is none
  pub none_hidden : (o : Option Clash) → o ≡ least_of_signal signals s g → (o ≡ None) ↔ HasNoAutoConflict (with_only signals s g)
  none_hidden o is = (
    λ e. no_clash (with_only signals s g) (λ t u p k. let c : Clash = record { t1 = t; t2 = u; place = p } in subst (λ o. IsReached o c) (sym is ∙ e) (least_is.reaches c k)),
    λ none. is ∙ go (least_of_signal signals s g) refl none,
  )
    where
      go : (o : Option Clash) → least_of_signal signals s g ≡ o → HasNoAutoConflict (with_only signals s g) → o ≡ None
      go None e none = refl
      go (Some c) e none = absurd (none c.t1 c.t2 c.place (least_is.sound c e).conflict)

  pub least_hidden : (o : Option Clash) → o ≡ least_of_signal signals s g → IfSome o (λ c. IsLeastClash (with_only signals s g) c.t1 c.t2 c.place)
  least_hidden None is = tt
  least_hidden (Some c) is = record {
    clash = least_is.sound c (sym is);
    least = λ v w q k. let d : Clash = record { t1 = v; t2 = w; place = q } in subst (λ o. IsReached o d) (sym is) (least_is.reaches d k);
  }
