-- The links, when a cell is put behind the others, and when it is taken off again.
use Rattle.std.proofs.Common.{◌≡◌, ◌≢◌, ◌<◌, ◌≤◌, ◌+◌, ℕ, List, true, false, length, subst, sym, ◌∙◌, refl, inl, inr, arith}
use Rattle.std.proofs.lemmas.Bool.{cases_eq, cases_Bool, false≢true}
use Rattle.stg_arena.specs.declared.links.Link.{Link}
use Rattle.stg_arena.specs.Ring.{Side, IsNext}
use Rattle.stg_arena.specs.inner.Links.{IsLinked, HasHeads, next_at, prev_at, IsUnlinked, IsRelinked, IsHeld, IsSameBelow}
use Rattle.stg_arena.specs.LinkHistory.{IsOn, Times, frame_at, IsNextAt}
use Rattle.stg_arena.proofs.Rings.{stop_head, stop_other, unlinked_ring, relinked_ring, shorter, IsWithout}
use Rattle.stg_arena.proofs.RingRemoval.{next_same, linked_same}

-- from t to t' there is one more cell, n, which is live
pub record IsMore (own other own' other' : Side) (t t' : Times) (n : ℕ) : Type 0 where
  pub size : t.count t.depth ≡ n
  pub size' : t'.count t'.depth ≡ n + 1
  pub depth : t'.depth ≡ t.depth
  pub until : (e : ℕ) → e < n → t'.until e ≡ t.until e
  pub live : t.depth ≤ t'.until n
  pub before : (s : ℕ) → s < t.depth → t'.count s ≡ t.count s
  pub bound : (s : ℕ) → s < t.depth → t.count s ≤ n
  pub own_key : (e : ℕ) → e < n → own'.key e ≡ own.key e
  pub own_head : (e : ℕ) → e < n → own'.head e ≡ own.head e
  pub other_head : (e : ℕ) → e < n → other'.head e ≡ other.head e
  pub heads : HasHeads own' (n + 1)

-- the same two cells are next to each other where there is room for one more
carry : (s s' : Side) (n n' : ℕ) (on : ℕ → Type 0) (c d : ℕ) → n ≤ n' → ((e : ℕ) → on e → e < n) → ((e : ℕ) → e < n → s'.key e ≡ s.key e) → ((e : ℕ) → e < n → s'.head e ≡ s.head e) → IsNext s n on c d → IsNext s' n' on c d
carry s s' n n' on c d le below key head f = record {
  from = f.from;
  to = f.to;
  from_below = omega (arith, f.from_below);
  to_below = omega (arith, f.to_below);
  same = key c f.from_below ∙ f.same ∙ sym (key d f.to_below);
  order = elim (cases_Bool (s.head d)) [
    | inl h ↦ omega (arith, stop_head s' n' d (head d f.to_below ∙ h), f.from_below)
    | inr h ↦ omega (arith, stop_other s' n' d (head d f.to_below ∙ h), stop_other s n d h, f.order)
  ];
  gap = λ e l m o k. f.gap e l (elim (cases_Bool (s.head d)) [
    | inl h ↦ omega (arith, stop_head s n d h, below e o)
    | inr h ↦ omega (arith, stop_other s' n' d (head d f.to_below ∙ h), stop_other s n d h)
  ]) o (sym (key e (below e o)) ∙ k ∙ key c f.from_below);
}

carry_back : (s s' : Side) (n n' : ℕ) (on : ℕ → Type 0) (c d : ℕ) → n ≤ n' → ((e : ℕ) → on e → e < n) → ((e : ℕ) → e < n → s'.key e ≡ s.key e) → ((e : ℕ) → e < n → s'.head e ≡ s.head e) → IsNext s' n' on c d → IsNext s n on c d
carry_back s s' n n' on c d le below key head f =
    let lc = below c f.from in
    let ld = below d f.to in
    record {
      from = f.from;
      to = f.to;
      from_below = lc;
      to_below = ld;
      same = sym (key c lc) ∙ f.same ∙ key d ld;
      order = elim (cases_Bool (s.head d)) [
        | inl h ↦ omega (arith, stop_head s n d h)
        | inr h ↦ omega (arith, stop_other s' n' d (head d ld ∙ h), stop_other s n d h, f.order)
      ];
      gap = λ e l m o k. f.gap e l (elim (cases_Bool (s.head d)) [
        | inl h ↦ omega (arith, stop_head s' n' d (head d ld ∙ h), below e o)
        | inr h ↦ omega (arith, stop_other s' n' d (head d ld ∙ h), stop_other s n d h)
      ]) o (key e (below e o) ∙ k ∙ sym (key c lc));
    }

-- what was right at the removal of a cell is right still
old_at : (own other own' other' : Side) (t t' : Times) (n s c d : ℕ) → IsMore own other own' other' t t' n → s < t.depth → IsNextAt own other t s c d → IsNextAt own' other' t' s c d
old_at own other own' other' t t' n s c d m l f =
    let b = m.bound s l in
    let P : ℕ → Type 0 = λ k. IsNext own' k (IsOn other' (frame_at own' other' t' s)) c d in
    subst P (sym (m.before s l)) (next_same own' (t.count s) (IsOn other (frame_at own other t s)) (IsOn other' (frame_at own' other' t' s)) c d
    (λ e o. record { below = rw (m.before s l) o.below; live = omega (arith, m.until e (omega (arith, o.below)), o.live); part = m.other_head e (omega (arith, o.below)) ∙ o.part })
    (λ e o. let h : e < t.count s = rw (m.before s l) at o.below in record { below = h; live = omega (arith, m.until e (omega arith), o.live); part = sym (m.other_head e (omega arith)) ∙ o.part })
    (carry own own' (t.count s) (t.count s) (IsOn other (frame_at own other t s)) c d (omega arith) (λ e o. o.below) (λ e h. m.own_key e (omega arith)) (λ e h. m.own_head e (omega arith)) f))

at_old : (own other own' other' : Side) (t t' : Times) (n s c d : ℕ) → IsMore own other own' other' t t' n → s < t.depth → IsNextAt own' other' t' s c d → IsNextAt own other t s c d
at_old own other own' other' t t' n s c d m l f =
    let b = m.bound s l in
    let P : ℕ → Type 0 = λ k. IsNext own' k (IsOn other' (frame_at own' other' t' s)) c d in
    let g : IsNext own' (t.count s) (IsOn other' (frame_at own' other' t' s)) c d = subst P (m.before s l) f in
    carry_back own own' (t.count s) (t.count s) (IsOn other (frame_at own other t s)) c d (omega arith) (λ e o. o.below) (λ e h. m.own_key e (omega arith)) (λ e h. m.own_head e (omega arith))
    (next_same own' (t.count s) (IsOn other' (frame_at own' other' t' s)) (IsOn other (frame_at own other t s)) c d
    (λ e o. let h : e < t.count s = rw (m.before s l) at o.below in record { below = h; live = omega (arith, m.until e (omega arith), o.live); part = sym (m.other_head e (omega arith)) ∙ o.part })
    (λ e o. record { below = rw (m.before s l) o.below; live = omega (arith, m.until e (omega (arith, o.below)), o.live); part = m.other_head e (omega (arith, o.below)) ∙ o.part })
    g)

-- which cells are on
pub less_on : (own other own' other' : Side) (t t' : Times) (n e : ℕ) → IsMore own other own' other' t t' n → IsOn other (frame_at own other t t.depth) e → IsOn other' (frame_at own' other' t' t'.depth) e
less_on own other own' other' t t' n e m o =
    let l : e < n = omega (arith, o.below, m.size) in
    record { below = omega (arith, m.size'); live = omega (arith, m.depth, m.until e l, o.live); part = m.other_head e l ∙ o.part }

on_less : (own other own' other' : Side) (t t' : Times) (n e : ℕ) → IsMore own other own' other' t t' n → e ≢ n → IsOn other' (frame_at own' other' t' t'.depth) e → IsOn other (frame_at own other t t.depth) e
on_less own other own' other' t t' n e m ne o =
    let l : e < n = omega (arith, o.below, m.size') in
    record { below = omega (arith, m.size); live = omega (arith, m.depth, m.until e l, o.live); part = sym (m.other_head e l) ∙ o.part }

without_last : (own other own' other' : Side) (t t' : Times) (n : ℕ) → IsMore own other own' other' t t' n → IsWithout (IsOn other' (frame_at own' other' t' t'.depth)) (IsOn other (frame_at own other t t.depth)) n
without_last own other own' other' t t' n m = record {
  kept = λ e o ne. on_less own other own' other' t t' n e m ne o;
  was = λ e o. less_on own other own' other' t t' n e m o;
  removed = λ e o same. absurd (omega (arith, o.below, m.size));
}

-- the old rings, with room for one more
carried : (own other own' other' : Side) (t t' : Times) (n : ℕ) (old mid : List Link) → IsMore own other own' other' t t' n → IsHeld own other t old → IsSameBelow n old mid → IsLinked own' (n + 1) (IsOn other (frame_at own other t t.depth)) (next_at mid) (prev_at mid)
carried own other own' other' t t' n old mid m held same = record {
  forward = λ c l o. let h : c < n = omega (arith, o.below, m.size) in rw (same.next c h) (up c (next_at old c) (held.rings.forward c o.below o));
  back = λ c l o. let h : c < n = omega (arith, o.below, m.size) in rw (same.prev c h) (up (prev_at old c) c (held.rings.back c o.below o));
}
  where
    up : (c d : ℕ) → IsNext own (t.count t.depth) (IsOn other (frame_at own other t t.depth)) c d → IsNext own' (n + 1) (IsOn other (frame_at own other t t.depth)) c d
    up c d f = carry own own' (t.count t.depth) (n + 1) (IsOn other (frame_at own other t t.depth)) c d (omega (arith, m.size)) (λ e o. o.below)
        (λ e h. m.own_key e (omega (arith, m.size))) (λ e h. m.own_head e (omega (arith, m.size))) f

-- the links of all cells, once the rings are right and those of the removed cells are the same
appended : (own other own' other' : Side) (t t' : Times) (n : ℕ) (old new : List Link) → IsMore own other own' other' t t' n → IsHeld own other t old → length new ≡ n + 1 → ((c : ℕ) → c < n → t.until c < t.depth → next_at new c ≡ next_at old c) → ((c : ℕ) → c < n → t.until c < t.depth → prev_at new c ≡ prev_at old c) → IsLinked own' (n + 1) (IsOn other' (frame_at own' other' t' t'.depth)) (next_at new) (prev_at new) → IsHeld own' other' t' new
appended own other own' other' t t' n old new m held long next prev rings = record {
  rings = let P : ℕ → Type 0 = λ k. IsLinked own' k (IsOn other' (frame_at own' other' t' t'.depth)) (next_at new) (prev_at new) in subst P (sym m.size') rings;
  forward = λ c s l p low until.
      let h : c < n = before c s l low until in
      let u = m.until c h in
      rw (next c h (omega (arith, m.depth))) (old_at own other own' other' t t' n s c (next_at old c) m (omega (arith, m.depth)) (held.forward c s (omega (arith, m.size)) (sym (m.other_head c h) ∙ p) (omega (arith, m.depth)) (sym u ∙ until)));
  back = λ c s l p low until.
      let h : c < n = before c s l low until in
      let u = m.until c h in
      rw (prev c h (omega (arith, m.depth))) (old_at own other own' other' t t' n s (prev_at old c) c m (omega (arith, m.depth)) (held.back c s (omega (arith, m.size)) (sym (m.other_head c h) ∙ p) (omega (arith, m.depth)) (sym u ∙ until)));
  long = long ∙ sym m.size';
}
  where
    before : (c s : ℕ) → c < t'.count t'.depth → s < t'.depth → t'.until c ≡ s → c < n
    before c s l low until = elim (cases_eq c n) [
      | inl e ↦ absurd (let P : ℕ → Type 0 = λ x. t'.until x ≡ s in omega (arith, subst P e until, m.live, m.depth))
      | inr e ↦ omega (arith, m.size')
    ]

-- a cell that has no part on this side
pub grown_apart : (own other own' other' : Side) (t t' : Times) (n : ℕ) (old new : List Link) → IsMore own other own' other' t t' n → IsHeld own other t old → length new ≡ n + 1 → IsSameBelow n old new → other'.head n ≡ true → IsHeld own' other' t' new
grown_apart own other own' other' t t' n old new m held long same h = appended own other own' other' t t' n old new m held long (λ c l d. same.next c l) (λ c l d. same.prev c l)
    (linked_same own' (n + 1) (IsOn other (frame_at own other t t.depth)) (IsOn other' (frame_at own' other' t' t'.depth)) (next_at new) (prev_at new)
    (λ e o. less_on own other own' other' t t' n e m o)
    (λ e o. on_less own other own' other' t t' n e m (λ k. false≢true (sym o.part ∙ rw k h)) o)
    (carried own other own' other' t t' n old new m held same))

-- a head, whose ring has no other cell
pub grown_head : (own other own' other' : Side) (t t' : Times) (n : ℕ) (old new : List Link) → IsMore own other own' other' t t' n → IsHeld own other t old → length new ≡ n + 1 → IsSameBelow n old new → own'.head n ≡ true → ((e : ℕ) → e < n → own.key e ≢ own'.key n) → next_at new n ≡ n → prev_at new n ≡ n → IsHeld own' other' t' new
grown_head own other own' other' t t' n old new m held long same h lone next prev = appended own other own' other' t t' n old new m held long (λ c l d. same.next c l) (λ c l d. same.prev c l)
    (record {
      forward = λ c l o. elim (cases_eq c n) [
        | inl e ↦ rw e (rw next (alone (let P : ℕ → Type 0 = λ x. IsOn other' (frame_at own' other' t' t'.depth) x in subst P e o)))
        | inr e ↦ longer' c (next_at new c) ((carried own other own' other' t t' n old new m held same).forward c l (on_less own other own' other' t t' n c m e o))
      ];
      back = λ c l o. elim (cases_eq c n) [
        | inl e ↦ rw e (rw prev (alone (let P : ℕ → Type 0 = λ x. IsOn other' (frame_at own' other' t' t'.depth) x in subst P e o)))
        | inr e ↦ longer' (prev_at new c) c ((carried own other own' other' t t' n old new m held same).back c l (on_less own other own' other' t t' n c m e o))
      ];
    })
  where
    alone : IsOn other' (frame_at own' other' t' t'.depth) n → IsNext own' (n + 1) (IsOn other' (frame_at own' other' t' t'.depth)) n n
    alone o = record {
      from = o;
      to = o;
      from_below = omega arith;
      to_below = omega arith;
      same = refl;
      order = omega (arith, stop_head own' (n + 1) n h);
      gap = λ e l k o'. absurd (omega (arith, stop_head own' (n + 1) n h));
    }

    longer' : (c d : ℕ) → IsNext own' (n + 1) (IsOn other (frame_at own other t t.depth)) c d → IsNext own' (n + 1) (IsOn other' (frame_at own' other' t' t'.depth)) c d
    longer' c d f = record {
      from = less_on own other own' other' t t' n c m f.from;
      to = less_on own other own' other' t t' n d m f.to;
      from_below = f.from_below;
      to_below = f.to_below;
      same = f.same;
      order = f.order;
      gap = λ e l k o. elim (cases_eq e n) [
        | inl z ↦ let lc : c < n = omega (arith, f.from.below, m.size) in
            λ q. lone c lc (sym (m.own_key c lc) ∙ sym q ∙ rw z refl)
        | inr z ↦ f.gap e l k (on_less own other own' other' t t' n e m z o)
      ];
    }

-- a cell that goes to the end of a ring
pub grown_cell : (own other own' other' : Side) (t t' : Times) (n h : ℕ) (old mid new : List Link) → IsMore own other own' other' t t' n → IsHeld own other t old → length new ≡ n + 1 → IsSameBelow n old mid → own'.head n ≡ false → other'.head n ≡ false → IsOn other (frame_at own other t t.depth) h → own.head h ≡ true → own.key h ≡ own'.key n → prev_at mid n ≡ prev_at old h → next_at mid n ≡ h → IsRelinked mid new n → IsHeld own' other' t' new
grown_cell own other own' other' t t' n h old mid new m held long same arc part on head key prev next u =
    let f = held.rings.back h on.below on in
    let la : prev_at old h < n = omega (arith, f.from_below, m.size) in
    let lh : h < n = omega (arith, on.below, m.size) in
    let here : IsOn other' (frame_at own' other' t' t'.depth) n = record { below = omega (arith, m.size'); live = omega (arith, m.live, m.depth); part = part } in
    let hh : own'.head h ≡ true = m.own_head h lh ∙ head in
    let before : IsNext own' (n + 1) (IsOn other' (frame_at own' other' t' t'.depth)) (prev_at mid n) n = rw prev (record {
      from = less_on own other own' other' t t' n (prev_at old h) m f.from;
      to = here;
      from_below = omega arith;
      to_below = omega arith;
      same = m.own_key (prev_at old h) la ∙ f.same ∙ key;
      order = omega (arith, stop_other own' (n + 1) n arc);
      gap = λ e l k o q. let le : e < n = omega (arith, stop_other own' (n + 1) n arc) in
          f.gap e l (omega (arith, stop_head own (t.count t.depth) h head, m.size)) (on_less own other own' other' t t' n e m (λ z. absurd (omega arith)) o) (sym (m.own_key e le) ∙ q ∙ m.own_key (prev_at old h) la);
    }) in
    let after : IsNext own' (n + 1) (IsOn other' (frame_at own' other' t' t'.depth)) n (next_at mid n) = rw next (record {
      from = here;
      to = less_on own other own' other' t t' n h m on;
      from_below = omega arith;
      to_below = omega arith;
      same = sym key ∙ sym (m.own_key h lh);
      order = omega (arith, stop_head own' (n + 1) h hh);
      gap = λ e l k o. absurd (omega (arith, stop_head own' (n + 1) h hh));
    }) in
    appended own other own' other' t t' n old new m held long
    (λ c l d. u.0.others c (λ e. absurd (omega (arith, f.from.live, (let q : t.until (prev_at old h) < t.depth = rw (← prev) (rw (← e) d) in q)))) ∙ same.next c l)
    (λ c l d. u.1.others c (λ e. absurd (omega (arith, on.live, (let q : t.until h < t.depth = rw (← next) (rw (← e) d) in q)))) ∙ same.prev c l)
    (relinked_ring own' (n + 1) (IsOn other' (frame_at own' other' t' t'.depth)) (IsOn other (frame_at own other t t.depth)) n (next_at mid) (prev_at mid) (next_at new) (prev_at new) m.heads
    (carried own other own' other' t t' n old mid m held same) arc (without_last own other own' other' t t' n m) before after u.0 u.1)

-- the links of the cells that are left, once the last cell is out of its ring
shrunk : (own other own' other' : Side) (t t' : Times) (n : ℕ) (links mid new : List Link) → IsMore own other own' other' t t' n → IsHeld own' other' t' links → length new ≡ n → ((c : ℕ) → c < n → t.until c < t.depth → next_at new c ≡ next_at links c) → ((c : ℕ) → c < n → t.until c < t.depth → prev_at new c ≡ prev_at links c) → IsSameBelow n mid new → IsLinked own' (n + 1) (IsOn other (frame_at own other t t.depth)) (next_at mid) (prev_at mid) → IsHeld own other t new
shrunk own other own' other' t t' n links mid new m held long next prev same ring = record {
  rings = record {
    forward = λ c l o. let h : c < n = omega (arith, m.size) in rw (same.next c h) (down c (next_at mid c) (ring.forward c (omega arith) o));
    back = λ c l o. let h : c < n = omega (arith, m.size) in rw (same.prev c h) (down (prev_at mid c) c (ring.back c (omega arith) o));
  };
  forward = λ c s l p low until.
      let h : c < n = omega (arith, m.size) in
      let u = m.until c h in
      rw (next c h (omega arith)) (at_old own other own' other' t t' n s c (next_at links c) m low (held.forward c s (omega (arith, m.size')) (m.other_head c h ∙ p) (omega (arith, m.depth)) (u ∙ until)));
  back = λ c s l p low until.
      let h : c < n = omega (arith, m.size) in
      let u = m.until c h in
      rw (prev c h (omega arith)) (at_old own other own' other' t t' n s (prev_at links c) c m low (held.back c s (omega (arith, m.size')) (m.other_head c h ∙ p) (omega (arith, m.depth)) (u ∙ until)));
  long = long ∙ sym m.size;
}
  where
    down : (c d : ℕ) → IsNext own' (n + 1) (IsOn other (frame_at own other t t.depth)) c d → IsNext own (t.count t.depth) (IsOn other (frame_at own other t t.depth)) c d
    down c d f = carry_back own own' (t.count t.depth) (n + 1) (IsOn other (frame_at own other t t.depth)) c d (omega (arith, m.size)) (λ e o. o.below)
        (λ e h. m.own_key e (omega (arith, m.size))) (λ e h. m.own_head e (omega (arith, m.size))) f

-- all rings of the longer arena, as they are now
rings_now : (own other own' other' : Side) (t t' : Times) (n : ℕ) (links : List Link) → IsMore own other own' other' t t' n → IsHeld own' other' t' links → IsLinked own' (n + 1) (IsOn other' (frame_at own' other' t' t'.depth)) (next_at links) (prev_at links)
rings_now own other own' other' t t' n links m held = let P : ℕ → Type 0 = λ k. IsLinked own' k (IsOn other' (frame_at own' other' t' t'.depth)) (next_at links) (prev_at links) in subst P m.size' held.rings

-- the links without the last cell, which has no part on this side
pub shrunk_apart : (own other own' other' : Side) (t t' : Times) (n : ℕ) (links new : List Link) → IsMore own other own' other' t t' n → IsHeld own' other' t' links → length new ≡ n → IsSameBelow n links new → other'.head n ≡ true → IsHeld own other t new
shrunk_apart own other own' other' t t' n links new m held long same h = shrunk own other own' other' t t' n links links new m held long (λ c l d. same.next c l) (λ c l d. same.prev c l) same
    (linked_same own' (n + 1) (IsOn other' (frame_at own' other' t' t'.depth)) (IsOn other (frame_at own other t t.depth)) (next_at links) (prev_at links)
    (λ e o. on_less own other own' other' t t' n e m (λ k. false≢true (sym o.part ∙ rw k h)) o)
    (λ e o. less_on own other own' other' t t' n e m o)
    (rings_now own other own' other' t t' n links m held))

-- the links without the last cell, which is a head on this side
pub shrunk_head : (own other own' other' : Side) (t t' : Times) (n : ℕ) (links new : List Link) → IsMore own other own' other' t t' n → IsHeld own' other' t' links → length new ≡ n → IsSameBelow n links new → own'.head n ≡ true → IsHeld own other t new
shrunk_head own other own' other' t t' n links new m held long same h =
    let rings = rings_now own other own' other' t t' n links m held in
    let w = without_last own other own' other' t t' n m in
    shrunk own other own' other' t t' n links links new m held long (λ c l d. same.next c l) (λ c l d. same.prev c l) same (record {
      forward = λ c l o. let f = rings.forward c l (w.was c o) in shorter own' (n + 1) (IsOn other' (frame_at own' other' t' t'.depth)) (IsOn other (frame_at own other t t.depth)) n c (next_at links c) w f (w.removed c o)
          (λ e. absurd (omega (arith, o.below, m.size, m.heads.least n c (omega arith) l h (rw (← e) (sym f.same)))));
      back = λ c l o. let f = rings.back c l (w.was c o) in shorter own' (n + 1) (IsOn other' (frame_at own' other' t' t'.depth)) (IsOn other (frame_at own other t t.depth)) n (prev_at links c) c w f
          (λ e. absurd (omega (arith, o.below, m.size, m.heads.least n c (omega arith) l h (rw (← e) f.same))))
          (w.removed c o);
    })

-- the links without the last cell, which stood in a ring on this side
pub shrunk_cell : (own other own' other' : Side) (t t' : Times) (n : ℕ) (links mid new : List Link) → IsMore own other own' other' t t' n → IsHeld own' other' t' links → length new ≡ n → IsSameBelow n mid new → own'.head n ≡ false → other'.head n ≡ false → IsUnlinked links mid n → IsHeld own other t new
shrunk_cell own other own' other' t t' n links mid new m held long same arc part u =
    let rings = rings_now own other own' other' t t' n links m held in
    let here : IsOn other' (frame_at own' other' t' t'.depth) n = record { below = omega (arith, m.size'); live = omega (arith, m.live, m.depth); part = part } in
    let before = rings.back n (omega arith) here in
    let after = rings.forward n (omega arith) here in
    shrunk own other own' other' t t' n links mid new m held long
    (λ c l d. same.next c l ∙ u.0.others c (λ e. absurd (omega (arith, before.from.live, m.depth, m.until c l, (let q : t'.until c ≡ t'.until (prev_at links n) = rw e refl in q)))))
    (λ c l d. same.prev c l ∙ u.1.others c (λ e. absurd (omega (arith, after.to.live, m.depth, m.until c l, (let q : t'.until c ≡ t'.until (next_at links n) = rw e refl in q)))))
    same
    (unlinked_ring own' (n + 1) (IsOn other' (frame_at own' other' t' t'.depth)) (IsOn other (frame_at own other t t.depth)) n (next_at links) (prev_at links) (next_at mid) (prev_at mid) m.heads rings (omega arith) here arc (without_last own other own' other' t t' n m) u.0 u.1)
