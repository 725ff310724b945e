-- The arena's whole invariant on links, when one ring is unlinked and when it is linked again.
use Rattle.std.proofs.Common.{◌≡◌, ◌<◌, ◌≤◌, ℕ, eq-eqb, inl, inr, List, length, subst, sym, ap, ◌∙◌, refl, arith}
use Rattle.std.proofs.lemmas.Bool.{eqb-true, ne_eqb, cases_order, cases_lt}
use Rattle.std.proofs.lemmas.List.{get_or_past}
use Rattle.stg_arena.specs.declared.end.End.{End}
use Rattle.stg_arena.specs.declared.end.End.TheVariants.{Place, Trans}
use Rattle.stg_arena.specs.Ends.{other}
use Rattle.stg_arena.specs.declared.cell.Cell.{Cell}
use Rattle.stg_arena.specs.declared.links.Link.{Link}
use Rattle.stg_arena.specs.inner.Links.{HasHeads, links_of, IsHeld}
use Rattle.stg_arena.specs.inner.RingChange.{CanUnlink, IsRingUnlinked, CanRelink, IsRingRelinked}
use Rattle.stg_arena.specs.LinkHistory.{frame_at}
use Rattle.stg_arena.specs.ArenaView.{Layout, none, no_spot, cell_at, end_of, side, removed_at, count_of, head_of, until_of, times_of, IsLaid, IsTimed, IsRemoved}
use Rattle.stg_arena.proofs.Timing.{can_unlink, unlinked_own, unlinked_other, can_relink, relinked_own, relinked_other, IsCut, IsCrossed, IsHeadOf}
use Rattle.stg_arena.proofs.RemovalTimes.{cut_of, depth_now, until_by}

-- the two sides' links are as the layout says
pub record AreHeld (b : End) (l : Layout) (owns others : List Link) : Type 0 where
  pub own : IsHeld (side l.cells b) (side l.cells (other b)) (times_of l) owns
  pub other : IsHeld (side l.cells (other b)) (side l.cells b) (times_of l) others

-- of two cells with the same keys on both sides neither is the later one
pub crossed_of : (b : End) (l : Layout) → IsLaid l → IsCrossed (side l.cells b) (side l.cells (other b)) (length l.cells)
crossed_of b l laid = record {
  own_heads = heads_of b;
  other_heads = heads_of (other b);
  cross = λ c d lc ld k j. elim (cases_order c d) [
    | inl e ↦ e
    | inr (inl low) ↦ absurd (apart c d low ld k j)
    | inr (inr low) ↦ absurd (apart d c low lc (sym k) (sym j))
  ];
}
  where
    apart : (c d : ℕ) → c < d → d < length l.cells → end_of b (cell_at l.cells c) ≡ end_of b (cell_at l.cells d) → end_of (other b) (cell_at l.cells c) ≡ end_of (other b) (cell_at l.cells d) → ⊥
    apart c d low ld k j = let a = laid.ascending b c d low ld k in elim a.up [ inl e ↦ a.no_head (sym j ∙ e) | inr lt ↦ absurd (omega (arith, j)) ]

    heads_of : (b : End) → HasHeads (side l.cells b) (length l.cells)
    heads_of b = record {
      least = λ d e ld le h k. elim (cases_lt e d) [
        | inl low ↦ absurd ((laid.ascending b e d low ld (sym k)).no_head (eqb-true (end_of (other b) (cell_at l.cells d)) none h))
        | inr high ↦ high
      ];
    }

crossed_now : (b : End) (l : Layout) → IsLaid l → IsCrossed (side l.cells b) (side l.cells (other b)) ((times_of l).count (times_of l).depth)
crossed_now b l laid = let P : ℕ → Type 0 = λ n. IsCrossed (side l.cells b) (side l.cells (other b)) n in subst P (sym (depth_now l)) (crossed_of b l laid)

-- the other end of the other end
pub other_other : (b : End) → other (other b) ≡ b
other_other Place = refl
other_other Trans = refl

head_now : (b : End) (k : ℕ) (l : Layout) → IsLaid l → k < count_of l b → IsHeadOf (side l.cells b) (side l.cells (other b)) ((times_of l).count (times_of l).depth) (head_of l b k)
head_now b k l laid range =
    let h = laid.heads b k range in
    record {
      below = omega (arith, depth_now l, h.below);
      head = eq-eqb (end_of (other b) (cell_at l.cells (head_of l b k))) none h.far;
      proper = λ e le same. rw (other_other b) (ne_eqb (end_of b (cell_at l.cells e)) none (λ z. absurd (omega (arith, laid.sizes b, h.key, (let q : end_of b (cell_at l.cells e) ≡ end_of b (cell_at l.cells (head_of l b k)) = same in q)))));
    }

removed_at_none : (b : End) (l : Layout) → IsLaid l → removed_at l b none ≡ none
removed_at_none Place l laid = ap (λ x. x.removed_at) (get_or_past l.places none no_spot (laid.sizes Place))
removed_at_none Trans l laid = get_or_past l.trans none none (laid.sizes Trans)

-- a head lives as long as its node
pub head_until : (b : End) (k : ℕ) (l : Layout) → IsLaid l → IsTimed l → k < count_of l b → removed_at l b k ≡ none → length l.removals ≤ until_of l (head_of l b k)
head_until b k l laid t range live =
    let h = laid.heads b k range in
    omega (arith, until_by b l (head_of l b k), ap (removed_at l b) h.key, live, ap (removed_at l (other b)) h.far, removed_at_none (other b) l laid, t.room, t.small)

-- the ring of a live node can be unlinked
pub to_unlink : (b : End) (k : ℕ) (l : Layout) (owns others : List Link) → IsLaid l → IsTimed l → AreHeld b l owns others → k < count_of l b → removed_at l b k ≡ none → CanUnlink (frame_at (side l.cells b) (side l.cells (other b)) (times_of l) (length l.removals)) owns others (head_of l b k)
to_unlink b k l owns others laid t held range live = can_unlink (side l.cells b) (side l.cells (other b)) (times_of l) (head_of l b k) owns others (crossed_now b l laid) (head_now b k l laid range) (head_until b k l laid t range live) held.own held.other

-- the links are right once the ring of a removed node is unlinked
pub unlinked_held : (b : End) (k : ℕ) (l l' : Layout) (owns old new : List Link) → IsRemoved b k l l' → IsLaid l → IsTimed l → AreHeld b l owns old → length new ≡ length old → IsRingUnlinked (frame_at (side l.cells b) (side l.cells (other b)) (times_of l) (length l.removals)) (head_of l b k) ((times_of l).count (length l.removals)) old new → AreHeld b l' owns new
unlinked_held b k l l' owns old new g laid t held long h =
    let cut = cut_of b k l l' g t in
    let key = (laid.heads b k g.in_range).key in
    let P : ℕ → Type 0 = λ x. IsCut (side l.cells b) x (times_of l) (times_of l') in
    let O : List Cell → Type 0 = λ xs. IsHeld (side xs b) (side xs (other b)) (times_of l') owns in
    let N : List Cell → Type 0 = λ xs. IsHeld (side xs (other b)) (side xs b) (times_of l') new in
    record {
      own = subst O (sym g.cells) (unlinked_own (side l.cells b) (side l.cells (other b)) (times_of l) (times_of l') k owns cut held.own);
      other = subst N (sym g.cells) (unlinked_other (side l.cells b) (side l.cells (other b)) (times_of l) (times_of l') (head_of l b k) old new (subst P (sym key) cut) long held.other h);
    }

-- the ring of the node that was removed last can be linked again
pub to_relink : (b : End) (k : ℕ) (l l' : Layout) (owns others : List Link) → IsRemoved b k l l' → IsLaid l → IsTimed l → AreHeld b l' owns others → CanRelink (frame_at (side l.cells b) (side l.cells (other b)) (times_of l) (length l.removals)) owns others (head_of l b k)
to_relink b k l l' owns others g laid t held =
    let cut = cut_of b k l l' g t in
    let key = (laid.heads b k g.in_range).key in
    let P : ℕ → Type 0 = λ x. IsCut (side l.cells b) x (times_of l) (times_of l') in
    let O : List Cell → Type 0 = λ xs. IsHeld (side xs b) (side xs (other b)) (times_of l') owns in
    let N : List Cell → Type 0 = λ xs. IsHeld (side xs (other b)) (side xs b) (times_of l') others in
    can_relink (side l.cells b) (side l.cells (other b)) (times_of l) (times_of l') (head_of l b k) owns others (subst P (sym key) cut) (crossed_now b l laid) (head_now b k l laid g.in_range) (head_until b k l laid t g.in_range g.was) (subst O g.cells held.own) (subst N g.cells held.other)

-- the links are right once that ring is linked again
pub relinked_held : (b : End) (k : ℕ) (l l' : Layout) (owns old new : List Link) → IsRemoved b k l l' → IsLaid l → IsTimed l → AreHeld b l' owns old → length new ≡ length old → IsRingRelinked (frame_at (side l.cells b) (side l.cells (other b)) (times_of l) (length l.removals)) (head_of l b k) ((times_of l).count (length l.removals)) old new → AreHeld b l owns new
relinked_held b k l l' owns old new g laid t held long h =
    let cut = cut_of b k l l' g t in
    let key = (laid.heads b k g.in_range).key in
    let P : ℕ → Type 0 = λ x. IsCut (side l.cells b) x (times_of l) (times_of l') in
    let O : List Cell → Type 0 = λ xs. IsHeld (side xs b) (side xs (other b)) (times_of l') owns in
    let N : List Cell → Type 0 = λ xs. IsHeld (side xs (other b)) (side xs b) (times_of l') old in
    record {
      own = relinked_own (side l.cells b) (side l.cells (other b)) (times_of l) (times_of l') k owns cut (subst O g.cells held.own);
      other = relinked_other (side l.cells b) (side l.cells (other b)) (times_of l) (times_of l') (head_of l b k) old new (subst P (sym key) cut) long (subst N g.cells held.other) h;
    }

-- what holds of both sides holds as each of them sees it
pub held_by : (b : End) (l : Layout) (by_place by_trans : List Link) → AreHeld Place l by_place by_trans → AreHeld b l (links_of b by_place by_trans) (links_of (other b) by_place by_trans)
held_by Place l by_place by_trans h = h
held_by Trans l by_place by_trans h = record { own = h.other; other = h.own }

-- and the other way round
pub held_both : (b : End) (l : Layout) (by_place by_trans : List Link) → AreHeld b l (links_of b by_place by_trans) (links_of (other b) by_place by_trans) → AreHeld Place l by_place by_trans
held_both Place l by_place by_trans h = h
held_both Trans l by_place by_trans h = record { own = h.other; other = h.own }

-- both sides' links after the ring of a node was unlinked
pub held_removed : (b : End) (k : ℕ) (l l' : Layout) (by_place by_trans by_place' by_trans' : List Link) → IsRemoved b k l l' → IsLaid l → IsTimed l → AreHeld Place l by_place by_trans → links_of b by_place' by_trans' ≡ links_of b by_place by_trans → length (links_of (other b) by_place' by_trans') ≡ length (links_of (other b) by_place by_trans) → IsRingUnlinked (frame_at (side l.cells b) (side l.cells (other b)) (times_of l) (length l.removals)) (head_of l b k) ((times_of l).count (length l.removals)) (links_of (other b) by_place by_trans) (links_of (other b) by_place' by_trans') → AreHeld Place l' by_place' by_trans'
held_removed b k l l' by_place by_trans by_place' by_trans' g laid t held kept long h =
    let P : List Link → Type 0 = λ own. AreHeld b l' own (links_of (other b) by_place' by_trans') in
    held_both b l' by_place' by_trans' (subst P (sym kept) (unlinked_held b k l l' (links_of b by_place by_trans) (links_of (other b) by_place by_trans) (links_of (other b) by_place' by_trans') g laid t (held_by b l by_place by_trans held) long h))

-- both sides' links after the ring of a node was linked again
pub held_revived : (b : End) (k : ℕ) (l l' : Layout) (by_place by_trans by_place' by_trans' : List Link) → IsRemoved b k l l' → IsLaid l → IsTimed l → AreHeld Place l' by_place by_trans → links_of b by_place' by_trans' ≡ links_of b by_place by_trans → length (links_of (other b) by_place' by_trans') ≡ length (links_of (other b) by_place by_trans) → IsRingRelinked (frame_at (side l.cells b) (side l.cells (other b)) (times_of l) (length l.removals)) (head_of l b k) ((times_of l).count (length l.removals)) (links_of (other b) by_place by_trans) (links_of (other b) by_place' by_trans') → AreHeld Place l by_place' by_trans'
held_revived b k l l' by_place by_trans by_place' by_trans' g laid t held kept long h =
    let P : List Link → Type 0 = λ own. AreHeld b l own (links_of (other b) by_place' by_trans') in
    held_both b l by_place' by_trans' (subst P (sym kept) (relinked_held b k l l' (links_of b by_place by_trans) (links_of (other b) by_place by_trans) (links_of (other b) by_place' by_trans') g laid t (held_by b l' by_place by_trans held) long h))
