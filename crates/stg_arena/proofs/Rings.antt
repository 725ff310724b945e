-- How a ring changes when one cell is unlinked, and when it is linked again.
use Rattle.std.proofs.Common.{◌≡◌, ◌≢◌, ◌<◌, ℕ, true, false, subst, sym, ◌∙◌, inl, inr, arith}
use Rattle.std.proofs.lemmas.Bool.{cases_eq, cases_Bool, cases_order}
use Rattle.stg_arena.specs.Ring.{Side, stop, IsNext}
use Rattle.stg_arena.specs.inner.Links.{HasHeads, IsLinked, IsBut}

-- the cells that are on, but for x
pub record IsWithout (on less : ℕ → Type 0) (x : ℕ) : Type 0 where
  pub kept : (e : ℕ) → on e → e ≢ x → less e
  pub was : (e : ℕ) → less e → on e
  pub removed : (e : ℕ) → less e → e ≢ x

-- a cell has one cell before it
pub sole_before : (s : Side) (n : ℕ) (on : ℕ → Type 0) (a c x : ℕ) → IsNext s n on a x → IsNext s n on c x → a ≡ c
sole_before s n on a c x f g = elim (cases_order a c) [
  | inl e ↦ e
  | inr (inl low) ↦ absurd (f.gap c low g.order g.from (g.same ∙ sym f.same))
  | inr (inr low) ↦ absurd (g.gap a low f.order f.from (f.same ∙ sym g.same))
]

-- the way to a head ends past all cells
pub stop_head : (s : Side) (n d : ℕ) → s.head d ≡ true → stop s n d ≡ n
stop_head s n d h = rw h

-- the way to any other cell ends there
pub stop_other : (s : Side) (n d : ℕ) → s.head d ≡ false → stop s n d ≡ d
stop_other s n d h = rw h

-- a cell has one cell after it
pub sole_after : (s : Side) (n : ℕ) (on : ℕ → Type 0) (c d e : ℕ) → HasHeads s n → IsNext s n on c d → IsNext s n on c e → d ≡ e
sole_after s n on c d e h f g = elim (cases_order d e) [
  | inl same ↦ same
  | inr (inl low) ↦ absurd (less d e f g low)
  | inr (inr low) ↦ absurd (less e d g f low)
]
  where
    less : (d e : ℕ) → IsNext s n on c d → IsNext s n on c e → d < e → ⊥
    less d e f g low = elim (cases_Bool (s.head d)) [
      | inl b ↦ elim (cases_Bool (s.head e)) [
        | inl b' ↦ absurd (omega (arith, h.least e d g.to_below f.to_below b' (sym g.same ∙ f.same)))
        | inr b' ↦ f.gap e (rw (stop_other s n e b') at g.order) (rw (stop_head s n d b) g.to_below) g.to (sym g.same)
      ]
      | inr b ↦ elim (cases_Bool (s.head e)) [
        | inl b' ↦ absurd (omega (arith, h.least e d g.to_below f.to_below b' (sym g.same ∙ f.same)))
        | inr b' ↦ g.gap d (rw (stop_other s n d b) at f.order) (rw (stop_other s n e b') low) f.to (sym f.same)
      ]
    ]

-- a cell that is off is passed over
pub shorter : (s : Side) (n : ℕ) (on less : ℕ → Type 0) (x c d : ℕ) → IsWithout on less x → IsNext s n on c d → c ≢ x → d ≢ x → IsNext s n less c d
shorter s n on less x c d w f c' d' = record {
  from = w.kept c f.from c';
  to = w.kept d f.to d';
  from_below = f.from_below;
  to_below = f.to_below;
  same = f.same;
  order = f.order;
  gap = λ e l h o. f.gap e l h (w.was e o);
}

-- where x was in between, the cells on its two sides are now next to each other
pub closed : (s : Side) (n : ℕ) (on less : ℕ → Type 0) (a x d : ℕ) → IsWithout on less x → s.head x ≡ false → IsNext s n on a x → IsNext s n on x d → IsNext s n less a d
closed s n on less a x d w h f g =
    let low : a < x = rw (stop_other s n x h) at f.order in
    record {
      from = w.kept a f.from (λ e. absurd (omega arith));
      to = w.kept d g.to (λ e. absurd (omega (arith, stop_other s n d (rw (← e) at h), g.order)));
      from_below = f.from_below;
      to_below = g.to_below;
      same = f.same ∙ g.same;
      order = let o = g.order in omega arith;
      gap = λ e l h' o. elim (cases_order e x) [
        | inl same ↦ absurd (w.removed e o same)
        | inr (inl under) ↦ f.gap e l (rw (stop_other s n x h) under) (w.was e o)
        | inr (inr over) ↦ λ k. g.gap e over h' (w.was e o) (k ∙ f.same)
      ];
    }

-- x is unlinked
pub unlinked_ring : (s : Side) (n : ℕ) (on less : ℕ → Type 0) (x : ℕ) (next prev next' prev' : ℕ → ℕ) → HasHeads s n → IsLinked s n on next prev → x < n → on x → s.head x ≡ false → IsWithout on less x → IsBut next next' (prev x) (next x) → IsBut prev prev' (next x) (prev x) → IsLinked s n less next' prev'
unlinked_ring s n on less x next prev next' prev' heads ring l here h w bn bp = record {
  forward = λ c l' o. elim (cases_eq c (prev x)) [
    | inl e ↦ rw e (rw bn.here (closed s n on less (prev x) x (next x) w h (ring.back x l here) (ring.forward x l here)))
    | inr other ↦ rw (bn.others c other) (shorter s n on less x c (next c) w (ring.forward c l' (w.was c o)) (w.removed c o)
        (λ e. other (sole_before s n on c (prev x) x (let P : ℕ → Type 0 = λ y. IsNext s n on c y in subst P e (ring.forward c l' (w.was c o))) (ring.back x l here))))
  ];
  back = λ c l' o. elim (cases_eq c (next x)) [
    | inl e ↦ rw e (rw bp.here (closed s n on less (prev x) x (next x) w h (ring.back x l here) (ring.forward x l here)))
    | inr other ↦ rw (bp.others c other) (shorter s n on less x (prev c) c w (ring.back c l' (w.was c o))
        (λ e. other (sole_after s n on x c (next x) heads (let P : ℕ → Type 0 = λ y. IsNext s n on y c in subst P e (ring.back c l' (w.was c o))) (ring.forward x l here)))
        (w.removed c o))
  ];
}

-- a cell comes back that isn't in between
longer : (s : Side) (n : ℕ) (on less : ℕ → Type 0) (x c d : ℕ) → IsWithout on less x → IsNext s n less c d → (c < x → x < stop s n d → s.key x ≢ s.key c) → IsNext s n on c d
longer s n on less x c d w f out = record {
  from = w.was c f.from;
  to = w.was d f.to;
  from_below = f.from_below;
  to_below = f.to_below;
  same = f.same;
  order = f.order;
  gap = λ e l h o. elim (cases_eq e x) [
    | inl same ↦ rw same (out (omega arith) (omega arith))
    | inr other ↦ f.gap e l h (w.kept e o other)
  ];
}

-- x is linked again
pub relinked_ring : (s : Side) (n : ℕ) (on less : ℕ → Type 0) (x : ℕ) (next prev next' prev' : ℕ → ℕ) → HasHeads s n → IsLinked s n less next prev → s.head x ≡ false → IsWithout on less x → IsNext s n on (prev x) x → IsNext s n on x (next x) → IsBut next next' (prev x) x → IsBut prev prev' (next x) x → IsLinked s n on next' prev'
relinked_ring s n on less x next prev next' prev' heads ring h w before after bn bp =
    let low : prev x < x = rw (stop_other s n x h) at before.order in
    record {
      forward = λ c l o. elim (cases_eq c (prev x)) [
        | inl e ↦ rw e (rw bn.here before)
        | inr other ↦ rw (bn.others c other) (elim (cases_eq c x) [
          | inl e ↦ rw e after
          | inr else ↦ longer s n on less x c (next c) w (ring.forward c l (w.kept c o else)) (λ under over k. elim (cases_order c (prev x)) [
            | inl e ↦ other e
            | inr (inl left) ↦ (ring.forward c l (w.kept c o else)).gap (prev x) left (let f : prev x < stop s n (next c) = omega arith in f) (w.kept (prev x) before.from (λ e. absurd (omega arith))) (before.same ∙ k)
            | inr (inr right) ↦ before.gap c right (rw (stop_other s n x h) under) o (sym k ∙ sym before.same)
          ])
        ])
      ];
      back = λ c l o. elim (cases_eq c (next x)) [
        | inl e ↦ rw e (rw bp.here after)
        | inr other ↦ rw (bp.others c other) (elim (cases_eq c x) [
          | inl e ↦ rw e before
          | inr else ↦ longer s n on less x (prev c) c w (ring.back c l (w.kept c o else)) (λ under over k. apart c l o other else under over k)
        ])
      ];
    }
  where
    apart : (c : ℕ) → c < n → on c → c ≢ next x → c ≢ x → prev c < x → x < stop s n c → s.key x ≢ s.key (prev c)
    apart c l o other else under over k =
        let f = ring.back c l (w.kept c o else) in
        let low : prev x < x = rw (stop_other s n x h) at before.order in
        elim (cases_Bool (s.head c)) [
          | inl hc ↦ elim (cases_Bool (s.head (next x))) [
            | inl hd ↦ other (omega (arith, heads.least c (next x) l after.to_below hc (sym f.same ∙ sym k ∙ after.same), heads.least (next x) c after.to_below l hd (sym after.same ∙ k ∙ f.same)))
            | inr hd ↦ f.gap (next x) (let g : prev c < next x = omega (arith, rw (stop_other s n (next x) hd) at after.order) in g) (rw (stop_head s n c hc) after.to_below) (w.kept (next x) after.to (λ e. absurd (omega (arith, rw (stop_other s n (next x) hd) at after.order)))) (sym after.same ∙ k)
          ]
          | inr hc ↦ elim (cases_Bool (s.head (next x))) [
            | inl hd ↦ after.gap c (rw (stop_other s n c hc) at over) (rw (stop_head s n (next x) hd) l) o (sym (k ∙ f.same))
            | inr hd ↦ elim (cases_order c (next x)) [
              | inl e ↦ other e
              | inr (inl left) ↦ after.gap c (rw (stop_other s n c hc) at over) (rw (stop_other s n (next x) hd) left) o (sym (k ∙ f.same))
              | inr (inr right) ↦ f.gap (next x) (let g : prev c < next x = omega (arith, rw (stop_other s n (next x) hd) at after.order) in g) (rw (stop_other s n c hc) right) (w.kept (next x) after.to (λ e. absurd (omega (arith, rw (stop_other s n (next x) hd) at after.order)))) (sym after.same ∙ k)
            ]
          ]
        ]
