-- A sitting with one more link at its end.
use Rattle.std.proofs.Common.{◌≡◌, ◌∙◌, ℕ, zero, suc, ◌+◌, List, [], ◌∷◌, ◌++◌, drop, refl, sym, ap, subst, arith}
use Rattle.std.proofs.lemmas.List.{drop-drop}
use Rattle.io_shelf.specs.Doors.{SeenLink, first_link}
use Rattle.job_keeper.specs.declared.project.Project.{Project}
use Rattle.desij.specs.Sitting.{IsServed, IsSitting, first_links}

pub sitting-more : (before : List Project) (coming finished : List SeenLink) (mid : List Project) (came done : SeenLink) (after : List Project)
    → IsSitting before coming finished mid → IsServed mid came done after → IsSitting before (coming ++ came ∷ []) (finished ++ done ∷ []) after
sitting-more before [] [] mid came done after s e = (after, subst (λ ps. IsServed ps came done after) s e, refl)
sitting-more before [] (d ∷ ds) mid came done after s e = absurd s
sitting-more before (c ∷ cs) [] mid came done after s e = absurd s
sitting-more before (c ∷ cs) (d ∷ ds) mid came done after s e = (s.0, s.1, sitting-more s.0 cs ds mid came done after s.2 e)

pub drop-nothing : (ls : List SeenLink) → drop 0 ls ≡ ls
drop-nothing [] = refl
drop-nothing (l ∷ ls) = refl

-- one more link comes
pub first_links-more : (n : ℕ) (coming : List SeenLink) → first_links (suc n) coming ≡ first_links n coming ++ first_link (drop n coming) ∷ []
first_links-more zero coming = ap (λ (ls : List SeenLink). first_link ls ∷ []) (sym (drop-nothing coming))
first_links-more (suc n) coming =
    let later : 1 + n ≡ suc n = omega arith in
    ap (λ (ls : List SeenLink). first_link coming ∷ ls)
    (first_links-more n (drop 1 coming)
    ∙ ap (λ (ls : List SeenLink). first_links n (drop 1 coming) ++ first_link ls ∷ []) (drop-drop n 1 coming ∙ ap (λ (k : ℕ). drop k coming) later))
