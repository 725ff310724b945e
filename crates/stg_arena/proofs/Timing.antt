-- The links at each moment, when one more ring is unlinked, and when it is linked again.
use Rattle.std.proofs.Common.{◌≡◌, ◌≢◌, ◌<◌, ◌≤◌, ℕ, List, length, subst, sym, ◌∙◌, refl, inl, inr, arith, ◌+◌, true, false}
use Rattle.std.proofs.lemmas.Bool.{cases_eq, cases_lt}
use Rattle.stg_arena.specs.declared.links.Link.{Link}
use Rattle.stg_arena.specs.Ring.{Side, IsNext}
use Rattle.stg_arena.specs.inner.Links.{IsLinked, HasHeads, next_at, prev_at, IsHeld}
use Rattle.stg_arena.specs.LinkHistory.{IsOn, Times, frame_at, IsNextAt}
use Rattle.stg_arena.specs.inner.RingChange.{IsFrom, IsUpTo, CanUnlink, IsRingUnlinked, CanRelink, IsRingRelinked}
use Rattle.stg_arena.proofs.RingRemoval.{next_same, linked_same}

-- from the moment now to the next, the cells with the key k are removed
pub record IsCut (own : Side) (k : ℕ) (t t' : Times) : Type 0 where
  pub depth : t'.depth ≡ t.depth + 1
  pub cut : (e : ℕ) → own.key e ≡ k → t.depth ≤ t.until e → t'.until e ≡ t.depth
  pub dead : (e : ℕ) → t.until e < t.depth → t'.until e ≡ t.until e
  pub others : (e : ℕ) → own.key e ≢ k → t'.until e ≡ t.until e
  pub later : (e : ℕ) → t.depth ≤ t.until e → t.depth < t.until e
  pub before : (s : ℕ) → s ≤ t.depth → t'.count s ≡ t.count s
  pub size : t'.count t'.depth ≡ t.count t.depth

-- what never changes: heads are least, and a cell is told by its two keys
pub record IsCrossed (own other : Side) (n : ℕ) : Type 0 where
  pub own_heads : HasHeads own n
  pub other_heads : HasHeads other n
  pub cross : (c d : ℕ) → c < n → d < n → own.key c ≡ own.key d → other.key c ≡ other.key d → c ≡ d

-- h is the head of a ring whose cells take part on the other side, all but h
pub record IsHeadOf (own other : Side) (n h : ℕ) : Type 0 where
  pub below : h < n
  pub head : own.head h ≡ true
  pub proper : (e : ℕ) → e < n → own.key e ≡ own.key h → other.head e ≡ false

-- until the moment t.depth the same cells are on in both
stays : (own : Side) (k : ℕ) (t t' : Times) (s e : ℕ) → IsCut own k t t' → s ≤ t.depth → s ≤ t.until e → s ≤ t'.until e
stays own k t t' s e c l o = elim (cases_lt (t.until e) t.depth) [
  | inl low ↦ omega (arith, c.dead e low)
  | inr high ↦ elim (cases_eq (own.key e) k) [
    | inl same ↦ omega (arith, c.cut e same high)
    | inr other ↦ omega (arith, c.others e other)
  ]
]

stayed : (own : Side) (k : ℕ) (t t' : Times) (s e : ℕ) → IsCut own k t t' → s ≤ t.depth → s ≤ t'.until e → s ≤ t.until e
stayed own k t t' s e c l o = elim (cases_lt (t.until e) t.depth) [
  | inl low ↦ omega (arith, c.dead e low)
  | inr high ↦ omega arith
]

-- which cells are on at the next moment
goes_on : (own : Side) (k : ℕ) (t t' : Times) (e : ℕ) → IsCut own k t t' → own.key e ≢ k → t.depth ≤ t.until e → t'.depth ≤ t'.until e
goes_on own k t t' e c other o = omega (arith, c.depth, c.others e other, c.later e o)

went_on : (own : Side) (k : ℕ) (t t' : Times) (e : ℕ) → IsCut own k t t' → t'.depth ≤ t'.until e → t.depth ≤ t.until e
went_on own k t t' e c o = elim (cases_lt (t.until e) t.depth) [ inl low ↦ absurd (omega (arith, c.depth, c.dead e low)) | inr high ↦ high ]

not_in : (own : Side) (k : ℕ) (t t' : Times) (e : ℕ) → IsCut own k t t' → t'.depth ≤ t'.until e → own.key e ≢ k
not_in own k t t' e c o same = absurd (omega (arith, c.depth, c.cut e same (went_on own k t t' e c o)))

-- rings at a moment up to t.depth are the same in both; one side cuts, and the rings are of either side
same_at : (cuts own other : Side) (k : ℕ) (t t' : Times) (s a b : ℕ) → IsCut cuts k t t' → s ≤ t.depth → IsNextAt own other t s a b → IsNextAt own other t' s a b
same_at cuts own other k t t' s a b c l f =
    let P : ℕ → Type 0 = λ n. IsNext own n (IsOn other (frame_at own other t' s)) a b in
    subst P (sym (c.before s l)) (next_same own (t.count s) (IsOn other (frame_at own other t s)) (IsOn other (frame_at own other t' s)) a b
    (λ e o. record { below = rw (c.before s l) o.below; live = stays cuts k t t' s e c l o.live; part = o.part })
    (λ e o. record { below = rw (c.before s l) at o.below; live = stayed cuts k t t' s e c l o.live; part = o.part })
    f)

at_same : (cuts own other : Side) (k : ℕ) (t t' : Times) (s a b : ℕ) → IsCut cuts k t t' → s ≤ t.depth → IsNextAt own other t' s a b → IsNextAt own other t s a b
at_same cuts own other k t t' s a b c l f =
    let P : ℕ → Type 0 = λ n. IsNext own n (IsOn other (frame_at own other t s)) a b in
    subst P (c.before s l) (next_same own (t'.count s) (IsOn other (frame_at own other t' s)) (IsOn other (frame_at own other t s)) a b
    (λ e o. record { below = rw (c.before s l) at o.below; live = stayed cuts k t t' s e c l o.live; part = o.part })
    (λ e o. record { below = rw (c.before s l) o.below; live = stays cuts k t t' s e c l o.live; part = o.part })
    f)

-- what `unlink_all` wants
pub can_unlink : (own other : Side) (t : Times) (h : ℕ) (owns others : List Link) → IsCrossed own other (t.count t.depth) → IsHeadOf own other (t.count t.depth) h → t.depth ≤ t.until h → IsHeld own other t owns → IsHeld other own t others → CanUnlink (frame_at own other t t.depth) owns others h
can_unlink own other t h owns others x head live mine theirs = record {
  ring = record {
    head = head.head;
    on = record { below = head.below; live = live; part = head.proper h head.below refl };
    next = λ c o k. mine.rings.forward c o.below o;
    own_heads = x.own_heads;
    other_heads = x.other_heads;
    cross = x.cross;
    proper = head.proper;
  };
  rings = linked_same other (t.count t.depth) (IsOn own (frame_at other own t t.depth)) (IsOn own (frame_at own other t t.depth)) (next_at others) (prev_at others)
      (λ e o. record { below = o.below; live = o.live; part = o.part }) (λ e o. record { below = o.below; live = o.live; part = o.part }) theirs.rings;
  own_long = mine.long;
  other_long = theirs.long;
}

-- the links that `unlink_all` leaves
pub unlinked_own : (own other : Side) (t t' : Times) (k : ℕ) (owns : List Link) → IsCut own k t t' → IsHeld own other t owns → IsHeld own other t' owns
unlinked_own own other t t' k owns cut mine = record {
  rings = record {
    forward = λ c l o. later c (next_at owns c) o (not_in own k t t' c cut o.live) (mine.rings.forward c (rw cut.size at l) (early c o));
    back = λ c l o. later' c (prev_at owns c) o (not_in own k t t' c cut o.live) (mine.rings.back c (rw cut.size at l) (early c o));
  };
  forward = λ c s l p low until. elim (cases_lt (t.until c) t.depth) [
    | inl dead ↦ same_at own own other k t t' s c (next_at owns c) cut (omega (arith, cut.dead c dead)) (mine.forward c s (rw cut.size at l) p (omega (arith, cut.dead c dead)) (sym (cut.dead c dead) ∙ until))
    | inr alive ↦ let e = now c s alive until low in rw e (same_at own own other k t t' t.depth c (next_at owns c) cut (omega arith) (mine.rings.forward c (rw cut.size at l) (record { below = rw cut.size at l; live = alive; part = p })))
  ];
  back = λ c s l p low until. elim (cases_lt (t.until c) t.depth) [
    | inl dead ↦ same_at own own other k t t' s (prev_at owns c) c cut (omega (arith, cut.dead c dead)) (mine.back c s (rw cut.size at l) p (omega (arith, cut.dead c dead)) (sym (cut.dead c dead) ∙ until))
    | inr alive ↦ let e = now c s alive until low in rw e (same_at own own other k t t' t.depth (prev_at owns c) c cut (omega arith) (mine.rings.back c (rw cut.size at l) (record { below = rw cut.size at l; live = alive; part = p })))
  ];
  long = mine.long ∙ sym cut.size;
}
  where
    early : (c : ℕ) → IsOn other (frame_at own other t' t'.depth) c → IsOn other (frame_at own other t t.depth) c
    early c o = record { below = rw cut.size at o.below; live = went_on own k t t' c cut o.live; part = o.part }

    now : (c s : ℕ) → t.depth ≤ t.until c → t'.until c ≡ s → s < t'.depth → s ≡ t.depth
    now c s alive until low = elim (cases_eq (own.key c) k) [
      | inl e ↦ omega (arith, cut.cut c e alive)
      | inr e ↦ absurd (omega (arith, cut.depth, cut.others c e, cut.later c alive))
    ]

    later : (c d : ℕ) → IsOn other (frame_at own other t' t'.depth) c → own.key c ≢ k → IsNextAt own other t t.depth c d → IsNextAt own other t' t'.depth c d
    later c d o ne f = record {
      from = o;
      to = record { below = rw cut.size f.to_below; live = goes_on own k t t' d cut (λ e. ne (f.same ∙ e)) f.to.live; part = f.to.part };
      from_below = rw cut.size f.from_below;
      to_below = rw cut.size f.to_below;
      same = f.same;
      order = rw cut.size f.order;
      gap = λ e l m o. f.gap e l (rw cut.size at m) (early e o);
    }

    later' : (c d : ℕ) → IsOn other (frame_at own other t' t'.depth) c → own.key c ≢ k → IsNextAt own other t t.depth d c → IsNextAt own other t' t'.depth d c
    later' c d o ne f = record {
      from = record { below = rw cut.size f.from_below; live = goes_on own k t t' d cut (λ e. ne (sym f.same ∙ e)) f.from.live; part = f.from.part };
      to = o;
      from_below = rw cut.size f.from_below;
      to_below = rw cut.size f.to_below;
      same = f.same;
      order = rw cut.size f.order;
      gap = λ e l m o. f.gap e l (rw cut.size at m) (early e o);
    }

-- the links of the other side after a removal
pub unlinked_other : (own other : Side) (t t' : Times) (h : ℕ) (old new : List Link) → IsCut own (own.key h) t t' → length new ≡ length old → IsHeld other own t old → IsRingUnlinked (frame_at own other t t.depth) h (t.count t.depth) old new → IsHeld other own t' new
unlinked_other own other t t' h old new cut long theirs unlinked = record {
  rings = let P : ℕ → Type 0 = λ n. IsLinked other n (IsOn own (frame_at other own t' t'.depth)) (next_at new) (prev_at new) in
      subst P (sym cut.size) (linked_same other (t.count t.depth) (IsFrom (frame_at own other t t.depth) h (t.count t.depth)) (IsOn own (frame_at other own t' t'.depth)) (next_at new) (prev_at new)
      (λ e o. record {
        below = rw cut.size o.on.below;
        live = goes_on own (own.key h) t t' e cut (λ k. absurd (omega (arith, o.late k, o.on.below))) o.on.live;
        part = o.on.part;
      })
      (λ e o. record {
        on = record { below = rw cut.size at o.below; live = went_on own (own.key h) t t' e cut o.live; part = o.part };
        late = λ k. absurd (not_in own (own.key h) t t' e cut o.live k);
      })
      unlinked.rings);
  forward = λ c s l p low until. elim (cases_lt (t.until c) t.depth) [
    | inl dead ↦ rw (unlinked.frozen.next c (inr dead)) (same_at own other own (own.key h) t t' s c (next_at old c) cut (omega (arith, cut.dead c dead)) (theirs.forward c s (rw cut.size at l) p (omega (arith, cut.dead c dead)) (sym (cut.dead c dead) ∙ until)))
    | inr alive ↦ elim (cases_eq (own.key c) (own.key h)) [
      | inl e ↦ rw (unlinked.frozen.next c (inl e)) (rw (let n : s ≡ t.depth = omega (arith, cut.cut c e alive) in n) (same_at own other own (own.key h) t t' t.depth c (next_at old c) cut (omega arith) (theirs.rings.forward c (rw cut.size at l) (record { below = rw cut.size at l; live = alive; part = p }))))
      | inr e ↦ absurd (omega (arith, cut.depth, cut.others c e, cut.later c alive))
    ]
  ];
  back = λ c s l p low until. elim (cases_lt (t.until c) t.depth) [
    | inl dead ↦ rw (unlinked.frozen.prev c (inr dead)) (same_at own other own (own.key h) t t' s (prev_at old c) c cut (omega (arith, cut.dead c dead)) (theirs.back c s (rw cut.size at l) p (omega (arith, cut.dead c dead)) (sym (cut.dead c dead) ∙ until)))
    | inr alive ↦ elim (cases_eq (own.key c) (own.key h)) [
      | inl e ↦ rw (unlinked.frozen.prev c (inl e)) (rw (let n : s ≡ t.depth = omega (arith, cut.cut c e alive) in n) (same_at own other own (own.key h) t t' t.depth (prev_at old c) c cut (omega arith) (theirs.rings.back c (rw cut.size at l) (record { below = rw cut.size at l; live = alive; part = p }))))
      | inr e ↦ absurd (omega (arith, cut.depth, cut.others c e, cut.later c alive))
    ]
  ];
  long = long ∙ theirs.long ∙ sym cut.size;
}

-- what `relink_all` wants
pub can_relink : (own other : Side) (t t' : Times) (h : ℕ) (owns others : List Link) → IsCut own (own.key h) t t' → IsCrossed own other (t.count t.depth) → IsHeadOf own other (t.count t.depth) h → t.depth ≤ t.until h → IsHeld own other t' owns → IsHeld other own t' others → CanRelink (frame_at own other t t.depth) owns others h
can_relink own other t t' h owns others cut x head live mine theirs = record {
  ring = record {
    head = head.head;
    on = record { below = head.below; live = live; part = head.proper h head.below refl };
    next = λ c o k. at_same own own other (own.key h) t t' t.depth c (next_at owns c) cut (omega arith) (mine.forward c t.depth (rw cut.size o.below) o.part (omega (arith, cut.depth)) (cut.cut c k o.live));
    own_heads = x.own_heads;
    other_heads = x.other_heads;
    cross = x.cross;
    proper = head.proper;
  };
  rings = let P : ℕ → Type 0 = λ n. IsLinked other n (IsUpTo (frame_at own other t t.depth) h 0) (next_at others) (prev_at others) in
      subst P cut.size (linked_same other (t'.count t'.depth) (IsOn own (frame_at other own t' t'.depth)) (IsUpTo (frame_at own other t t.depth) h 0) (next_at others) (prev_at others)
      (λ e o. record {
        on = record { below = rw cut.size at o.below; live = went_on own (own.key h) t t' e cut o.live; part = o.part };
        early = λ k. absurd (not_in own (own.key h) t t' e cut o.live k);
      })
      (λ e o. record {
        below = rw cut.size o.on.below;
        live = goes_on own (own.key h) t t' e cut (λ k. absurd (omega (arith, o.early k))) o.on.live;
        part = o.on.part;
      })
      theirs.rings);
  back = λ c o k. flip (prev_at others c) c (at_same own other own (own.key h) t t' t.depth (prev_at others c) c cut (omega arith) (theirs.back c t.depth (rw cut.size o.below) o.part (omega (arith, cut.depth)) (cut.cut c k o.live)));
  forward = λ c o k. flip c (next_at others c) (at_same own other own (own.key h) t t' t.depth c (next_at others c) cut (omega arith) (theirs.forward c t.depth (rw cut.size o.below) o.part (omega (arith, cut.depth)) (cut.cut c k o.live)));
  own_long = mine.long ∙ cut.size;
  other_long = theirs.long ∙ cut.size;
}
  where
    flip : (a b : ℕ) → IsNextAt other own t t.depth a b → IsNext other (t.count t.depth) (IsOn own (frame_at own other t t.depth)) a b
    flip a b f = next_same other (t.count t.depth) (IsOn own (frame_at other own t t.depth)) (IsOn own (frame_at own other t t.depth)) a b
        (λ e o. record { below = o.below; live = o.live; part = o.part }) (λ e o. record { below = o.below; live = o.live; part = o.part }) f

-- the links that `relink_all` leaves
pub relinked_own : (own other : Side) (t t' : Times) (k : ℕ) (owns : List Link) → IsCut own k t t' → IsHeld own other t' owns → IsHeld own other t owns
relinked_own own other t t' k owns cut mine = record {
  rings = record {
    forward = λ c l o. elim (cases_eq (own.key c) k) [
      | inl e ↦ at_same own own other k t t' t.depth c (next_at owns c) cut (omega arith) (mine.forward c t.depth (rw cut.size l) o.part (omega (arith, cut.depth)) (cut.cut c e o.live))
      | inr e ↦ earlier c (next_at owns c) o e (mine.rings.forward c (rw cut.size l) (late c o e))
    ];
    back = λ c l o. elim (cases_eq (own.key c) k) [
      | inl e ↦ at_same own own other k t t' t.depth (prev_at owns c) c cut (omega arith) (mine.back c t.depth (rw cut.size l) o.part (omega (arith, cut.depth)) (cut.cut c e o.live))
      | inr e ↦ earlier' c (prev_at owns c) o e (mine.rings.back c (rw cut.size l) (late c o e))
    ];
  };
  forward = λ c s l p low until. at_same own own other k t t' s c (next_at owns c) cut (omega arith) (mine.forward c s (rw cut.size l) p (omega (arith, cut.depth)) (cut.dead c (omega arith) ∙ until));
  back = λ c s l p low until. at_same own own other k t t' s (prev_at owns c) c cut (omega arith) (mine.back c s (rw cut.size l) p (omega (arith, cut.depth)) (cut.dead c (omega arith) ∙ until));
  long = mine.long ∙ cut.size;
}
  where
    late : (c : ℕ) → IsOn other (frame_at own other t t.depth) c → own.key c ≢ k → IsOn other (frame_at own other t' t'.depth) c
    late c o ne = record { below = rw cut.size o.below; live = goes_on own k t t' c cut ne o.live; part = o.part }

    early : (c : ℕ) → IsOn other (frame_at own other t' t'.depth) c → IsOn other (frame_at own other t t.depth) c
    early c o = record { below = rw cut.size at o.below; live = went_on own k t t' c cut o.live; part = o.part }

    earlier : (c d : ℕ) → IsOn other (frame_at own other t t.depth) c → own.key c ≢ k → IsNextAt own other t' t'.depth c d → IsNextAt own other t t.depth c d
    earlier c d o ne f = record {
      from = o;
      to = early d f.to;
      from_below = rw cut.size at f.from_below;
      to_below = rw cut.size at f.to_below;
      same = f.same;
      order = rw cut.size at f.order;
      gap = λ e l m o same. f.gap e l (rw cut.size m) (late e o (λ z. ne (sym same ∙ z))) same;
    }

    earlier' : (c d : ℕ) → IsOn other (frame_at own other t t.depth) c → own.key c ≢ k → IsNextAt own other t' t'.depth d c → IsNextAt own other t t.depth d c
    earlier' c d o ne f = record {
      from = early d f.from;
      to = o;
      from_below = rw cut.size at f.from_below;
      to_below = rw cut.size at f.to_below;
      same = f.same;
      order = rw cut.size at f.order;
      gap = λ e l m o same. f.gap e l (rw cut.size m) (late e o (λ z. ne (sym f.same ∙ sym same ∙ z))) same;
    }

-- the links of the other side after a revival
pub relinked_other : (own other : Side) (t t' : Times) (h : ℕ) (old new : List Link) → IsCut own (own.key h) t t' → length new ≡ length old → IsHeld other own t' old → IsRingRelinked (frame_at own other t t.depth) h (t.count t.depth) old new → IsHeld other own t new
relinked_other own other t t' h old new cut long theirs relinked = record {
  rings = linked_same other (t.count t.depth) (IsUpTo (frame_at own other t t.depth) h (t.count t.depth)) (IsOn own (frame_at other own t t.depth)) (next_at new) (prev_at new)
      (λ e o. record { below = o.on.below; live = o.on.live; part = o.on.part })
      (λ e o. record { on = record { below = o.below; live = o.live; part = o.part }; early = λ k. o.below })
      relinked.rings;
  forward = λ c s l p low until. rw (relinked.frozen.next c (inr (let d : t.until c < t.depth = omega arith in d))) (at_same own other own (own.key h) t t' s c (next_at old c) cut (omega arith) (theirs.forward c s (rw cut.size l) p (omega (arith, cut.depth)) (cut.dead c (omega arith) ∙ until)));
  back = λ c s l p low until. rw (relinked.frozen.prev c (inr (let d : t.until c < t.depth = omega arith in d))) (at_same own other own (own.key h) t t' s (prev_at old c) c cut (omega arith) (theirs.back c s (rw cut.size l) p (omega (arith, cut.depth)) (cut.dead c (omega arith) ∙ until)));
  long = long ∙ theirs.long ∙ cut.size;
}
