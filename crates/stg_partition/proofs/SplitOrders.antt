-- The order of splits, and the lesser of two.
use Rattle.std.proofs.Common.{◌≡◌, ◌⊎◌, ◌<◌, true, false, Option, Some, None, arith, inl, inr}
use Rattle.std.proofs.lemmas.Bool.{cases_Bool, false≢true}
use Rattle.std.proofs.lemmas.Bool.Decides.{nat_tests}
use Rattle.stg_partition.specs.declared.splits.Split.{Split}
use Rattle.stg_partition.specs.inner.Splits.{is_lesser_split, lesser_split}

-- c is the lesser: by the first signal, then by the second, then by the place
abbrev pub IsLesser : Split → Split → Type 0
IsLesser c d = (c.x < d.x) ⊎ ((c.x ≡ d.x) × ((c.y < d.y) ⊎ ((c.y ≡ d.y) × (c.place < d.place))))

lesser_trans : (c d e : Split) → IsLesser c d → IsLesser d e → IsLesser c e
lesser_trans c d e p q = grind arith

-- of three splits, the second is before the third or not before the first, where the first is before the third
lesser_either : (c d e : Split) → IsLesser c e → IsLesser c d ⊎ IsLesser d e
lesser_either c d e p = grind arith

lesser_sound : (c d : Split) → is_lesser_split c d ≡ true → IsLesser c d
lesser_sound c d e = grind (arith, nat_tests)

lesser_whole : (c d : Split) → IsLesser c d → is_lesser_split c d ≡ true
lesser_whole c d p = grind (arith, nat_tests)

pub not_lesser_itself : (c : Split) → ¬ IsLesser c c
not_lesser_itself c p = grind arith

-- a split was found, and d isn't before it
abbrev pub IsReached : Option Split → Split → Type 0
IsReached None d = ⊥
IsReached (Some c) d = ¬ IsLesser d c

pub lesser_first : (x y : Option Split) (d : Split) → IsReached x d → IsReached (lesser_split x y) d
lesser_first None y d r = absurd r
lesser_first (Some c) None d r = r
lesser_first (Some c) (Some e) d r = elim (cases_Bool (is_lesser_split e c)) [
  | inl b ↦ rw b (λ p. r (lesser_trans d e c p (lesser_sound e c b)))
  | inr b ↦ rw b r
]

pub lesser_second : (x y : Option Split) (d : Split) → IsReached y d → IsReached (lesser_split x y) d
lesser_second None y d r = r
lesser_second (Some c) None d r = absurd r
lesser_second (Some c) (Some e) d r = elim (cases_Bool (is_lesser_split e c)) [
  | inl b ↦ rw b r
  | inr b ↦ rw b (λ p. elim (lesser_either d e c p) [ inl q ↦ r q | inr q ↦ false≢true (turned e c b q) ])
]
  where
    turned : (e c : Split) → is_lesser_split e c ≡ false → IsLesser e c → false ≡ true
    turned e c b q = rw b at (lesser_whole e c q)

-- the lesser is one of the two
pub lesser_one : (x y : Option Split) (c : Split) → lesser_split x y ≡ Some c → (x ≡ Some c) ⊎ (y ≡ Some c)
lesser_one None y c e = inr e
lesser_one (Some d) None c e = inl e
lesser_one (Some d) (Some f) c e = elim (cases_Bool (is_lesser_split f d)) [
  | inl b ↦ inr (rw b at e)
  | inr b ↦ inl (rw b at e)
]

-- what is reached lets a split be reached that isn't before it
pub reached_up : (x : Option Split) (c d : Split) → IsReached x c → ¬ IsLesser d c → IsReached x d
reached_up None c d r up = absurd r
reached_up (Some e) c d r up = λ p. elim (lesser_either d c e p) [ inl q ↦ up q | inr q ↦ r q ]
