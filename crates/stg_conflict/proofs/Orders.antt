-- The order of clashes, and the lesser of two.
use Rattle.std.proofs.Common.{◌≡◌, ◌⊎◌, ◌<◌, true, false, Option, Some, None, arith, inl, inr}
use Rattle.std.proofs.lemmas.Bool.{cases_Bool, false≢true}
use Rattle.std.proofs.lemmas.Bool.Decides.{nat_tests}
use Rattle.stg_conflict.specs.declared.clash.Clash.{Clash}
use Rattle.stg_conflict.specs.inner.Search.{is_lesser, lesser}

-- c is the lesser: by the first transition, then by the second, then by the place
abbrev pub IsLesser : Clash → Clash → Type 0
IsLesser c d = (c.t1 < d.t1) ⊎ ((c.t1 ≡ d.t1) × ((c.t2 < d.t2) ⊎ ((c.t2 ≡ d.t2) × (c.place < d.place))))

before_trans : (c d e : Clash) → IsLesser c d → IsLesser d e → IsLesser c e
before_trans c d e p q = grind arith

-- of three clashes, the second is before the third or not before the first, where the first is before the third
before_either : (c d e : Clash) → IsLesser c e → IsLesser c d ⊎ IsLesser d e
before_either c d e p = grind arith

lesser_sound : (c d : Clash) → is_lesser c d ≡ true → IsLesser c d
lesser_sound c d e = grind (arith, nat_tests)

before_whole : (c d : Clash) → IsLesser c d → is_lesser c d ≡ true
before_whole c d p = grind (arith, nat_tests)

-- a clash was found, and d isn't before it
abbrev pub IsReached : Option Clash → Clash → Type 0
IsReached None d = ⊥
IsReached (Some c) d = ¬ IsLesser d c

pub lesser_first : (x y : Option Clash) (d : Clash) → IsReached x d → IsReached (lesser x y) d
lesser_first None y d r = absurd r
lesser_first (Some c) None d r = r
lesser_first (Some c) (Some e) d r = elim (cases_Bool (is_lesser e c)) [
  | inl b ↦ rw b (λ p. r (before_trans d e c p (lesser_sound e c b)))
  | inr b ↦ rw b r
]

pub lesser_second : (x y : Option Clash) (d : Clash) → IsReached y d → IsReached (lesser x y) d
lesser_second None y d r = r
lesser_second (Some c) None d r = absurd r
lesser_second (Some c) (Some e) d r = elim (cases_Bool (is_lesser e c)) [
  | inl b ↦ rw b r
  | inr b ↦ rw b (λ p. elim (before_either d e c p) [ inl q ↦ r q | inr q ↦ false≢true (sym_false e c b q) ])
]
  where
    sym_false : (e c : Clash) → is_lesser e c ≡ false → IsLesser e c → false ≡ true
    sym_false e c b q = rw b at (before_whole e c q)

-- the lesser is one of the two
pub lesser_one : (x y : Option Clash) (c : Clash) → lesser x y ≡ Some c → (x ≡ Some c) ⊎ (y ≡ Some c)
lesser_one None y c e = inr e
lesser_one (Some d) None c e = inl e
lesser_one (Some d) (Some f) c e = elim (cases_Bool (is_lesser f d)) [
  | inl b ↦ inr (rw b at e)
  | inr b ↦ inl (rw b at e)
]
