-- The arcs of two places are merged into those of a new one: what one step along a ring gives.
use Rattle.std.proofs.Common.{◌≡◌, ◌≢◌, ◌<◌, ◌≤◌, ◌+◌, ℕ, cond, min, length, eqb, eq-eqb, subst, sym, ap, ◌∙◌, refl, inl, inr, arith}
use Rattle.std.proofs.lemmas.Bool.{cases_eq, cases_Bool, cases_order, cond_both, ne_eqb, eqb-true}
use Rattle.stg_arena.specs.declared.end.Way.{Way}
use Rattle.stg_arena.specs.declared.end.End.TheVariants.{Place, Trans}
use Rattle.stg_arena.specs.Ends.{other}
use Rattle.stg_arena.specs.LinkHistory.{IsNextAt}
use Rattle.stg_arena.specs.ArenaView.{Layout, none, cell_at, side, removed_at, times_of, IsLaid, IsTimed, IsPastAll, IsPushedCell}
use Rattle.stg_arena.specs.RingWalk.{cell_weight, IsWalking}
use Rattle.stg_arena.specs.Incidence.{weight}
use Rattle.stg_arena.proofs.Rings.{stop_other}
use Rattle.stg_arena.proofs.RemovalTimes.{depth_now}
use Rattle.stg_arena.proofs.RingWalk.{walk_on}
use Rattle.stg_arena.proofs.RingWeights.{ring_here, ring_gap, weight_none, weight_push, share, share_none, share_here}
use Rattle.stg_arena.proofs.LinksAppend.{less_on}
use Rattle.stg_arena.proofs.LayoutAppend.{more_of, push_old, push_new, push_length}
use Rattle.stg_arena.specs.declared.cell.Cell.{Cell}
use Rattle.stg_edit.specs.inner.RowMerge.{far, IsStep, IsPut}

-- between u and the transition where the walk stands there is nothing
pub record IsClear (l : Layout) (p u x : ℕ) : Type 0 where
  pub walking : IsWalking l Place p x
  pub ahead : u ≤ far l x
  pub clear : (way : Way) (v : ℕ) → v < none → removed_at l Trans v ≡ none → u ≤ v → v < far l x → weight l.cells way p v ≡ 0

-- the walk along the ring of p is past u
pub record IsStepped (l : Layout) (p u x y : ℕ) : Type 0 where
  pub walking : IsWalking l Place p y
  pub ahead : u < far l y
  pub clear : (way : Way) (v : ℕ) → v < none → removed_at l Trans v ≡ none → u < v → v < far l y → weight l.cells way p v ≡ 0
  pub here : (way : Way) → removed_at l Trans u ≡ none → weight l.cells way p u ≡ cond (eqb (far l x) u) (cell_weight way (cell_at l.cells x)) 0

-- all transitions below u are done: the new place n has there the sums of p and q, but nothing at t
pub record IsMerging (l : Layout) (p q t n u x y : ℕ) : Type 0 where
  pub first : IsClear l p u x
  pub second : IsClear l q u y
  pub done : (way : Way) (v : ℕ) → v < none → removed_at l Trans v ≡ none → v < u → weight l.cells way n v ≡ cond (eqb v t) 0 (weight l.cells way p v + weight l.cells way q v)
  pub past : IsPastAll l n u

-- one step along a ring
pub row_step : (l : Layout) (p u x y : ℕ) → IsLaid l → IsTimed l → p < none → removed_at l Place p ≡ none → u < none → IsClear l p u x → IsStep l u x y → IsStepped l p u x y
row_step l p u x y laid t small live bound c step = elim (cases_eq (far l x) u) [
  | inl e ↦ moved e (step.moved e)
  | inr ne ↦ let P : ℕ → Type 0 = λ y. IsStepped l p u x y in subst P (sym (step.stayed ne)) (record {
    walking = c.walking;
    ahead = omega (arith, c.ahead);
    clear = λ way v small live low high. c.clear way v small live (omega arith) high;
    here = λ way live. rw (ne_eqb (far l x) u ne) (c.clear way u bound live (omega arith) (omega (arith, c.ahead)));
  })
]
  where
    moved : far l x ≡ u → IsNextAt (side l.cells Place) (side l.cells Trans) (times_of l) (length l.removals) x y → IsStepped l p u x y
    moved e f = record {
      walking = walk_on l Place p x y c.walking f;
      ahead = elim (cases_Bool (eqb (far l y) none)) [
        | inl h ↦ omega (arith, eqb-true (far l y) none h)
        | inr h ↦
            let low : x < y = omega (arith, f.order, stop_other (side l.cells Place) ((times_of l).count (length l.removals)) y h) in
            let ly : y < length l.cells = omega (arith, f.to_below, depth_now l) in
            elim (laid.ascending Place x y low ly f.same).up [ inl z ↦ absurd (omega arith) | inr z ↦ omega arith ]
      ];
      clear = λ way v small' live' low high. ring_gap l Place way p x y v laid t c.walking f small live small' live' (record { above = inr (let q : far l x < v = omega arith in q); below = inr high });
      here = λ way live'. rw (eq-eqb (far l x) u e) (ap (weight l.cells way p) (sym e) ∙ ring_here l Place way p x laid c.walking);
    }

-- past all its arcs a place has no weights
pub past_none : (l : Layout) (n u v : ℕ) (way : Way) → IsPastAll l n u → u ≤ v → v < none → weight l.cells way n v ≡ 0
past_none l n u v way past low small = weight_none l.cells way n v (λ c h e z. elim (past.past c h e) [ inl y ↦ absurd (omega arith) | inr y ↦ absurd (omega arith) ])

-- the transitions up to u are done
pub merge_step : (l l' : Layout) (p q t n u x y x' y' : ℕ) (w : Way → ℕ) → p ≢ n → q ≢ n → u < none → removed_at l Trans u ≡ none → IsMerging l p q t n u x y → IsStepped l p u x x' → IsStepped l q u y y' → ((way : Way) → w way ≡ weight l.cells way p u + weight l.cells way q u) → IsPut l l' t n u w → IsMerging l' p q t n (min (far l x') (far l y')) x' y'
merge_step l l' p q t n u x y x' y' w pn qn small live j sx sy sums put = record {
  first = record {
    walking = put.walking p x' sx.walking;
    ahead = omega (arith, put.ends p x' sx.walking);
    clear = λ way v sv lv low high. put.others way p v pn ∙ sx.clear way v sv (sym (put.same v) ∙ lv) (omega (arith, sx.ahead, sy.ahead)) (omega (arith, put.ends p x' sx.walking));
  };
  second = record {
    walking = put.walking q y' sy.walking;
    ahead = omega (arith, put.ends q y' sy.walking);
    clear = λ way v sv lv low high. put.others way q v qn ∙ sy.clear way v sv (sym (put.same v) ∙ lv) (omega (arith, sx.ahead, sy.ahead)) (omega (arith, put.ends q y' sy.walking));
  };
  done = λ way v sv lv below. done way v sv (sym (put.same v) ∙ lv) below ∙ ap (cond (eqb v t) 0) (sum way v);
  past = record { past = λ c h e. elim (put.past.past c h e) [ inl z ↦ inl z | inr z ↦ inr (omega (arith, sx.ahead, sy.ahead)) ] };
}
  where
    sum : (way : Way) (v : ℕ) → weight l.cells way p v + weight l.cells way q v ≡ weight l'.cells way p v + weight l'.cells way q v
    sum way v = omega (arith, put.others way p v pn, put.others way q v qn)

    done : (way : Way) (v : ℕ) → v < none → removed_at l Trans v ≡ none → v < min (far l x') (far l y') → weight l'.cells way n v ≡ cond (eqb v t) 0 (weight l.cells way p v + weight l.cells way q v)
    done way v sv lv below = elim (cases_order v u) [
      | inl e ↦ rw e (put.here way ∙ ap (cond (eqb u t) 0) (sums way))
      | inr (inl low) ↦ put.mine way v (λ e. absurd (omega arith)) ∙ j.done way v sv lv low
      | inr (inr high) ↦ put.mine way v (λ e. absurd (omega arith)) ∙ past_none l n u v way j.past (omega arith) sv
          ∙ sym (ap (cond (eqb v t) 0) (let z : weight l.cells way p v + weight l.cells way q v ≡ 0 = omega (arith, sx.clear way v sv lv high (omega arith), sy.clear way v sv lv high (omega arith)) in z) ∙ cond_both (eqb v t) 0 0 (λ z. z ≡ 0) (λ e. refl) (λ e. refl))
    ]

-- a push puts its weights
pub put_cell : (a : Cell) (l l' : Layout) (t n u : ℕ) → IsPushedCell a l l' → IsLaid l → IsLaid l' → IsTimed l → a.place ≡ n → a.trans ≡ u → u ≢ t → IsPastAll l n u → u < none → IsPut l l' t n u (λ way. cell_weight way a)
put_cell a l l' t n u q laid laid' timed place trans other past small = record {
  others = λ way r v ne. push way r v ∙ (let z = share_none way r v a (λ e. absurd (ne (sym e ∙ place))) in omega (arith, z));
  mine = λ way v ne. push way n v ∙ (let z = share_none way n v a (λ e f. ne (sym f ∙ trans)) in omega (arith, z));
  here = λ way. push way n u ∙ (let z = share_here way n u a place trans in let y = past_none l n u u way past (omega arith) small in let s : weight l.cells way n u + share way n u a ≡ cell_weight way a = omega (arith, z, y) in rw (ne_eqb u t other) s);
  same = λ v. q.pushed.same Trans v;
  walking = λ k z w. record {
    live = less_on (side l.cells Place) (side l.cells Trans) (side l'.cells Place) (side l'.cells Trans) (times_of l) (times_of l') (length l.cells) z (more_of a l l' Place q.pushed laid' timed) w.live;
    key = ap (λ x. x.place) (push_old a l l' z q.pushed (omega (arith, w.live.below, depth_now l))) ∙ w.key;
  };
  ends = λ k z w. ap (λ x. x.trans) (push_old a l l' z q.pushed (omega (arith, w.live.below, depth_now l)));
  past = record {
    past = λ c h e. elim (cases_eq c (length l.cells)) [
      | inl z ↦ inr (omega (arith, ap (λ c. (cell_at l'.cells c).trans) z, ap (λ x. x.trans) (push_new a l l' q.pushed)))
      | inr z ↦
          let h' : c < length l.cells = omega (arith, push_length a l l' q.pushed) in
          let o = push_old a l l' c q.pushed h' in
          elim (past.past c h' (sym (ap (λ x. x.place) o) ∙ e)) [ inl y ↦ inl (ap (λ x. x.trans) o ∙ y) | inr y ↦ inr (omega (arith, ap (λ x. x.trans) o)) ]
    ];
  };
}
  where
    push : (way : Way) (r v : ℕ) → weight l'.cells way r v ≡ weight l.cells way r v + share way r v a
    push way r v = ap (λ xs. weight xs way r v) q.pushed.cells ∙ weight_push l.cells a way r v

-- where u is t, or the weights are 0, nothing is put
pub put_none : (l : Layout) (t n u : ℕ) (w : Way → ℕ) → ((way : Way) → cond (eqb u t) 0 (w way) ≡ 0) → IsPastAll l n u → u < none → IsPut l l t n u w
put_none l t n u w nothing past small = record {
  others = λ way r v ne. refl;
  mine = λ way v ne. refl;
  here = λ way. past_none l n u u way past (omega arith) small ∙ sym (nothing way);
  same = λ v. refl;
  walking = λ k z w. w;
  ends = λ k z w. refl;
  past = record { past = λ c h e. elim (past.past c h e) [ inl z ↦ inl z | inr z ↦ inr (omega arith) ] };
}
