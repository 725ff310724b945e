-- The walk through one ring that unlinks its cells on the other side, or links them again.
use Rattle.std.proofs.Common.{◌≡◌, ◌≢◌, ◌<◌, ◌⊎◌, ℕ, List, false, cond, length, ◌-◌, eqb, eq-eqb, subst, sym, ◌∙◌, refl, inl, inr, arith}
use Rattle.std.proofs.lemmas.Bool.{cases_eq, cases_lt, cases_Bool, cases_order, false≢true, ne_eqb}
use Rattle.stg_arena.specs.Ends.{other}
use Rattle.stg_arena.specs.declared.links.Link.{Link}
use Rattle.stg_arena.specs.Ring.{Side, stop, IsNext}
use Rattle.stg_arena.specs.inner.Links.{IsLinked, next_at, prev_at, IsUnlinked, IsRelinked}
use Rattle.stg_arena.specs.LinkHistory.{Frame, IsOn}
use Rattle.stg_arena.specs.inner.RingChange.{IsRing, IsFrom, IsUpTo, CanUnlink, IsRingUnlinked, CanRelink, IsRingRelinked}
use Rattle.stg_arena.proofs.Rings.{stop_head, stop_other, unlinked_ring, relinked_ring}

-- where the walk through the ring of h stands
pub record IsAt (f : Frame) (h x : ℕ) : Type 0 where
  pub on : IsOn f.other f x
  pub same : f.own.key x ≡ f.own.key h

-- while the ring of h is unlinked: the walk is at x
pub record IsUnlinking (own old new : List Link) (h x : ℕ) : Type 0 where
  pub at : (f : Frame) → CanUnlink f own old h → IsAt f h x
  pub hidden : (f : Frame) → CanUnlink f own old h → IsRingUnlinked f h (stop f.own f.size x) old new

-- while the ring of h is linked again: the walk is at x
pub record IsRelinking (own old new : List Link) (h x : ℕ) : Type 0 where
  pub at : (f : Frame) → CanRelink f own old h → IsAt f h x
  pub shown : (f : Frame) → CanRelink f own old h → IsRingRelinked f h (stop f.own f.size x) old new

-- the same rings, where the same cells are on
pub next_same : (s : Side) (n : ℕ) (on on' : ℕ → Type 0) (c d : ℕ) → ((e : ℕ) → on e → on' e) → ((e : ℕ) → on' e → on e) → IsNext s n on c d → IsNext s n on' c d
next_same s n on on' c d to from f = record {
  from = to c f.from;
  to = to d f.to;
  from_below = f.from_below;
  to_below = f.to_below;
  same = f.same;
  order = f.order;
  gap = λ e l h o. f.gap e l h (from e o);
}

-- links that are the same are right where these are
pub linked_same : (s : Side) (n : ℕ) (on on' : ℕ → Type 0) (next prev : ℕ → ℕ) → ((e : ℕ) → on e → on' e) → ((e : ℕ) → on' e → on e) → IsLinked s n on next prev → IsLinked s n on' next prev
linked_same s n on on' next prev to from ring = record {
  forward = λ c l o. next_same s n on on' c (next c) to from (ring.forward c l (from c o));
  back = λ c l o. next_same s n on on' (prev c) c to from (ring.back c l (from c o));
}

-- a cell of the ring that isn't its head is none of a ring's heads
not_head : (f : Frame) (own : List Link) (h x : ℕ) → IsRing f own h → IsAt f h x → x ≢ h → f.own.head x ≡ false
not_head f own h x ring at other = elim (cases_Bool (f.own.head x)) [
  | inl b ↦ absurd (other (omega (arith, ring.own_heads.least x h at.on.below ring.on.below b at.same, ring.own_heads.least h x ring.on.below at.on.below ring.head (sym at.same))))
  | inr b ↦ b
]

-- a live cell of the ring that takes part on the other side also takes part on its own
on_both : (f : Frame) (own : List Link) (h e : ℕ) → IsRing f own h → IsOn f.own f e → f.own.key e ≡ f.own.key h → IsOn f.other f e
on_both f own h e ring o k = record { below = o.below; live = o.live; part = ring.proper e o.below k }

-- the head is the first
after_head : (f : Frame) (own : List Link) (h e : ℕ) → IsRing f own h → IsOn f.own f e → f.own.key e ≡ f.own.key h → h < e
after_head f own h e ring o k = elim (cases_eq h e) [
  | inl same ↦ absurd (false≢true (sym o.part ∙ rw (← same) ring.head))
  | inr other ↦ omega (arith, ring.own_heads.least h e ring.on.below o.below ring.head (sym k))
]

start_at : (f : Frame) (own : List Link) (h : ℕ) → IsRing f own h → IsAt f h (next_at own h)
start_at f own h ring = let g = ring.next h ring.on refl in record { on = g.to; same = sym g.same }

step_at : (f : Frame) (own : List Link) (h x : ℕ) → IsRing f own h → IsAt f h x → IsAt f h (next_at own x)
step_at f own h x ring at = let g = ring.next x at.on at.same in record { on = g.to; same = sym g.same ∙ at.same }

-- another cell of a ring of the other side that has a cell of the ring isn't frozen
outside : (f : Frame) (own : List Link) (h x a c : ℕ) → IsRing f own h → IsAt f h x → IsOn f.own f a → f.other.key a ≡ f.other.key x → a ≢ x → (f.own.key c ≡ f.own.key h) ⊎ (f.until c < f.now) → c ≢ a
outside f own h x a c ring at o k other frozen e = elim frozen [
  | inl mine ↦ other (ring.cross a x o.below at.on.below (rw (← e) (mine ∙ sym at.same)) k)
  | inr dead ↦ absurd (omega (arith, o.live, (let d : f.until a < f.now = rw (← e) dead in d)))
]

-- the two cells beside x on the other side aren't x
beside : (s : Side) (n : ℕ) (on : ℕ → Type 0) (a x : ℕ) → s.head x ≡ false → IsNext s n on a x → a ≢ x
beside s n on a x h f e = absurd (omega (arith, (let l : a < x = rw (stop_other s n x h) at f.order in l)))

beyond : (s : Side) (n : ℕ) (on : ℕ → Type 0) (x d : ℕ) → s.head x ≡ false → IsNext s n on x d → d ≢ x
beyond s n on x d h f e = absurd (omega (arith, stop_other s n d (rw e h), f.order))

-- the walk stands at the first cell
pub unlink_start : (f : Frame) (own old : List Link) (h : ℕ) → CanUnlink f own old h → IsRingUnlinked f h (stop f.own f.size (next_at own h)) old old
unlink_start f own old h can =
    let g = can.ring.next h can.ring.on refl in
    record {
      rings = linked_same f.other f.size (IsOn f.own f) (IsFrom f h (stop f.own f.size (next_at own h))) (next_at old) (prev_at old)
          (λ e o. record {
            on = o;
            late = λ k. elim (cases_lt e (stop f.own f.size (next_at own h))) [
              | inl l ↦ absurd (g.gap e (after_head f own h e can.ring o k) l (on_both f own h e can.ring o k) k)
              | inr l ↦ l
            ];
          })
          (λ e o. o.on)
          can.rings;
      frozen = record { next = λ c o. refl; prev = λ c o. refl };
    }

-- one cell more is unlinked
pub unlink_step : (f : Frame) (own old mid new : List Link) (h x : ℕ) → CanUnlink f own old h → IsAt f h x → x ≢ h → IsRingUnlinked f h (stop f.own f.size x) old mid → IsUnlinked mid new x → IsRingUnlinked f h (stop f.own f.size (next_at own x)) old new
unlink_step f own old mid new h x can at other hidden u =
    let g = can.ring.next x at.on at.same in
    let nh = not_head f own h x can.ring at other in
    let s : stop f.own f.size x ≡ x = stop_other f.own f.size x nh in
    let here : IsFrom f h (stop f.own f.size x) x = record { on = record { below = at.on.below; live = at.on.live; part = nh }; late = λ k. omega arith } in
    let before = hidden.rings.back x at.on.below here in
    let after = hidden.rings.forward x at.on.below here in
    record {
      rings = unlinked_ring f.other f.size (IsFrom f h (stop f.own f.size x)) (IsFrom f h (stop f.own f.size (next_at own x))) x (next_at mid) (prev_at mid) (next_at new) (prev_at new) can.ring.other_heads hidden.rings at.on.below here at.on.part
          (record {
            kept = λ e o ne. record {
              on = o.on;
              late = λ k. elim (cases_lt e (stop f.own f.size (next_at own x))) [
                | inl l ↦ absurd (g.gap e (let m : x < e = omega (arith, o.late k) in m) l (on_both f own h e can.ring o.on k) (k ∙ sym at.same))
                | inr l ↦ l
              ];
            };
            was = λ e o. record { on = o.on; late = λ k. omega (arith, o.late k, g.order) };
            removed = λ e o same. absurd (omega (arith, o.late (rw same at.same), g.order));
          })
          u.0 u.1;
      frozen = record {
        next = λ c z. u.0.others c (outside f own h x (prev_at mid x) c can.ring at before.from.on before.same (beside f.other f.size (IsFrom f h (stop f.own f.size x)) (prev_at mid x) x at.on.part before) z) ∙ hidden.frozen.next c z;
        prev = λ c z. u.1.others c (outside f own h x (next_at mid x) c can.ring at after.to.on (sym after.same) (beyond f.other f.size (IsFrom f h (stop f.own f.size x)) x (next_at mid x) at.on.part after) z) ∙ hidden.frozen.prev c z;
      };
    }

-- no cell is unlinked yet
pub unlink_starts : (own old : List Link) (h : ℕ) → IsUnlinking own old old h (next_at own h)
unlink_starts own old h = record { at = λ f can. start_at f own h can.ring; hidden = λ f can. unlink_start f own old h can }

-- the walk unlinks its cell and goes on
pub unlink_steps : (own old mid new : List Link) (h x : ℕ) → IsUnlinking own old mid h x → x ≢ h → IsUnlinked mid new x → IsUnlinking own old new h (next_at own x)
unlink_steps own old mid new h x unlinking other u = record {
  at = λ f can. step_at f own h x can.ring (unlinking.at f can);
  hidden = λ f can. unlink_step f own old mid new h x can (unlinking.at f can) other (unlinking.hidden f can) u;
}

-- at the head the ring is unlinked
pub unlink_ends : (own old new : List Link) (h x : ℕ) → IsUnlinking own old new h x → x ≡ h → (f : Frame) → CanUnlink f own old h → IsRingUnlinked f h f.size old new
unlink_ends own old new h x unlinking same f can = let P : ℕ → Type 0 = λ m. IsRingUnlinked f h m old new in
    subst P (stop_head f.own f.size x (rw same can.ring.head)) (unlinking.hidden f can)

-- the cell and those beside it are there
pub record IsSafe (own other : List Link) (x : ℕ) : Type 0 where
  pub walk : x < length own
  pub here : x < length other
  pub prev : prev_at other x < length other
  pub next : next_at other x < length other

-- the cell that is unlinked and those beside it are there
pub unlink_safe : (own old mid : List Link) (h x : ℕ) → IsUnlinking own old mid h x → x ≢ h → length mid ≡ length old → (f : Frame) → CanUnlink f own old h → IsSafe own mid x
unlink_safe own old mid h x unlinking other long f can =
    let at = unlinking.at f can in
    let hidden = unlinking.hidden f can in
    let nh = not_head f own h x can.ring at other in
    let here : IsFrom f h (stop f.own f.size x) x = record { on = record { below = at.on.below; live = at.on.live; part = nh }; late = λ k. omega (arith, stop_other f.own f.size x nh) } in
    record {
      walk = omega (arith, at.on.below, can.own_long);
      here = omega (arith, at.on.below, can.other_long);
      prev = omega (arith, (hidden.rings.back x at.on.below here).from_below, can.other_long);
      next = omega (arith, (hidden.rings.forward x at.on.below here).to_below, can.other_long);
    }

-- the walk ends
pub smaller : (f : Frame) (own : List Link) (h x : ℕ) → IsRing f own h → length own ≡ f.size → IsAt f h x → x ≢ h → cond (eqb (next_at own x) h) 0 (length own - next_at own x) < cond (eqb x h) 0 (length own - x)
smaller f own h x ring long at other = rw (ne_eqb x h other) (elim (cases_eq (next_at own x) h) [
  | inl e ↦ rw (eq-eqb (next_at own x) h e) (omega (arith, at.on.below))
  | inr else ↦ rw (ne_eqb (next_at own x) h else) (omega (arith, at.on.below, (ring.next x at.on at.same).order, stop_other f.own f.size (next_at own x) (not_head f own h (next_at own x) ring (step_at f own h x ring at) else)))
])

-- the walk stands at the first cell
pub relink_start : (f : Frame) (own old : List Link) (h : ℕ) → CanRelink f own old h → IsRingRelinked f h (stop f.own f.size (next_at own h)) old old
relink_start f own old h can =
    let g = can.ring.next h can.ring.on refl in
    record {
      rings = linked_same f.other f.size (IsUpTo f h 0) (IsUpTo f h (stop f.own f.size (next_at own h))) (next_at old) (prev_at old)
          (λ e o. record { on = o.on; early = λ k. absurd (omega (arith, o.early k)) })
          (λ e o. record { on = o.on; early = λ k. absurd (g.gap e (after_head f own h e can.ring o.on k) (o.early k) (on_both f own h e can.ring o.on k) k) })
          can.rings;
      frozen = record { next = λ c o. refl; prev = λ c o. refl };
    }

-- the cells that stood beside x on the other side are on when x comes back
up_to : (f : Frame) (own old : List Link) (h x m a : ℕ) → CanRelink f own old h → IsAt f h x → IsOn f.own f a → f.other.key a ≡ f.other.key x → a ≢ x → IsUpTo f h m a
up_to f own old h x m a can at o k other = record { on = o; early = λ mine. absurd (other (can.ring.cross a x o.below at.on.below (mine ∙ sym at.same) k)) }

-- one cell more is linked again
pub relink_step : (f : Frame) (own old mid new : List Link) (h x : ℕ) → CanRelink f own old h → IsAt f h x → x ≢ h → IsRingRelinked f h (stop f.own f.size x) old mid → IsRelinked mid new x → IsRingRelinked f h (stop f.own f.size (next_at own x)) old new
relink_step f own old mid new h x can at other shown u =
    let g = can.ring.next x at.on at.same in
    let nh = not_head f own h x can.ring at other in
    let s : stop f.own f.size x ≡ x = stop_other f.own f.size x nh in
    let here : IsOn f.own f x = record { below = at.on.below; live = at.on.live; part = nh } in
    let there : IsUpTo f h (stop f.own f.size (next_at own x)) x = record { on = here; early = λ k. g.order } in
    let b = can.back x here at.same in
    let a = can.forward x here at.same in
    let before : IsNext f.other f.size (IsUpTo f h (stop f.own f.size (next_at own x))) (prev_at mid x) x = rw (shown.frozen.prev x (inl at.same)) (record {
      from = up_to f own old h x (stop f.own f.size (next_at own x)) (prev_at old x) can at b.from b.same (beside f.other f.size (IsOn f.own f) (prev_at old x) x at.on.part b);
      to = there;
      from_below = b.from_below;
      to_below = b.to_below;
      same = b.same;
      order = b.order;
      gap = λ e l m o. b.gap e l m o.on;
    }) in
    let after : IsNext f.other f.size (IsUpTo f h (stop f.own f.size (next_at own x))) x (next_at mid x) = rw (shown.frozen.next x (inl at.same)) (record {
      from = there;
      to = up_to f own old h x (stop f.own f.size (next_at own x)) (next_at old x) can at a.to (sym a.same) (beyond f.other f.size (IsOn f.own f) x (next_at old x) at.on.part a);
      from_below = a.from_below;
      to_below = a.to_below;
      same = a.same;
      order = a.order;
      gap = λ e l m o. a.gap e l m o.on;
    }) in
    record {
      rings = relinked_ring f.other f.size (IsUpTo f h (stop f.own f.size (next_at own x))) (IsUpTo f h (stop f.own f.size x)) x (next_at mid) (prev_at mid) (next_at new) (prev_at new) can.ring.other_heads shown.rings at.on.part
          (record {
            kept = λ e o ne. record {
              on = o.on;
              early = λ k. elim (cases_order e x) [
                | inl same ↦ absurd (ne same)
                | inr (inl under) ↦ omega arith
                | inr (inr over) ↦ absurd (g.gap e over (o.early k) (on_both f own h e can.ring o.on k) (k ∙ sym at.same))
              ];
            };
            was = λ e o. record { on = o.on; early = λ k. omega (arith, o.early k, g.order) };
            removed = λ e o same. absurd (omega (arith, o.early (rw same at.same)));
          })
          before after u.0 u.1;
      frozen = record {
        next = λ c z. u.0.others c (outside f own h x (prev_at mid x) c can.ring at before.from.on before.same (beside f.other f.size (IsUpTo f h (stop f.own f.size (next_at own x))) (prev_at mid x) x at.on.part before) z) ∙ shown.frozen.next c z;
        prev = λ c z. u.1.others c (outside f own h x (next_at mid x) c can.ring at after.to.on (sym after.same) (beyond f.other f.size (IsUpTo f h (stop f.own f.size (next_at own x))) x (next_at mid x) at.on.part after) z) ∙ shown.frozen.prev c z;
      };
    }

-- no cell is linked again yet
pub relink_starts : (own old : List Link) (h : ℕ) → IsRelinking own old old h (next_at own h)
relink_starts own old h = record { at = λ f can. start_at f own h can.ring; shown = λ f can. relink_start f own old h can }

-- the walk links its cell again and goes on
pub relink_steps : (own old mid new : List Link) (h x : ℕ) → IsRelinking own old mid h x → x ≢ h → IsRelinked mid new x → IsRelinking own old new h (next_at own x)
relink_steps own old mid new h x relinking other u = record {
  at = λ f can. step_at f own h x can.ring (relinking.at f can);
  shown = λ f can. relink_step f own old mid new h x can (relinking.at f can) other (relinking.shown f can) u;
}

-- at the head the ring is linked again
pub relink_ends : (own old new : List Link) (h x : ℕ) → IsRelinking own old new h x → x ≡ h → (f : Frame) → CanRelink f own old h → IsRingRelinked f h f.size old new
relink_ends own old new h x relinking same f can = let P : ℕ → Type 0 = λ m. IsRingRelinked f h m old new in
    subst P (stop_head f.own f.size x (rw same can.ring.head)) (relinking.shown f can)

-- the cell that is linked again and those beside it are there
pub relink_safe : (own old mid : List Link) (h x : ℕ) → IsRelinking own old mid h x → x ≢ h → length mid ≡ length old → (f : Frame) → CanRelink f own old h → IsSafe own mid x
relink_safe own old mid h x relinking other long f can =
    let at = relinking.at f can in
    let shown = relinking.shown f can in
    let nh = not_head f own h x can.ring at other in
    let here : IsOn f.own f x = record { below = at.on.below; live = at.on.live; part = nh } in
    record {
      walk = omega (arith, at.on.below, can.own_long);
      here = omega (arith, at.on.below, can.other_long);
      prev = omega (arith, shown.frozen.prev x (inl at.same), (can.back x here at.same).from_below, can.other_long);
      next = omega (arith, shown.frozen.next x (inl at.same), (can.forward x here at.same).to_below, can.other_long);
    }
