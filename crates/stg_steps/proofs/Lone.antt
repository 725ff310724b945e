-- Rows of one word, which tell no record and no deletion.
use Rattle.std.proofs.Common.{◌≡◌, ◌≤◌, ◌<◌, ℕ, List, [], ◌∷◌, length, Option, None, Bor, refl, arith}
use Rattle.stg_net.specs.Net.{NetLists}
use Rattle.stg_derive.specs.declared.step.Step.{Step}
use Rattle.stg_derive.specs.declared.part.Restore.{Restore}
use Rattle.stg_steps.specs.LogText.{LogRow}
use Rattle.stg_steps.specs.inner.Taking.{lent_words}
use Rattle.stg_steps.specs.inner.Reading.{restore_in, drop_in}

pub lone_drop : (words : LogRow) (row : List (Bor (List ℕ))) → 1 ≤ length row → length row < 2 → ◌≡◌ {A = Option Step} None (drop_in words (lent_words row))
lone_drop words [] some few = absurd (omega (arith, some))
lone_drop words (w ∷ []) some few = refl
lone_drop words (w ∷ x ∷ row) some few = absurd (omega (arith, few))

pub lone_restore : (n : NetLists) (words : LogRow) (row : List (Bor (List ℕ))) → 1 ≤ length row → length row < 2 → ◌≡◌ {A = Option Restore} None (restore_in n words (lent_words row))
lone_restore n words [] some few = absurd (omega (arith, some))
lone_restore n words (w ∷ []) some few = refl
lone_restore n words (w ∷ x ∷ row) some few = absurd (omega (arith, few))
