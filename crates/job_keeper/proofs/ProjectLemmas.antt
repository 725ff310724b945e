-- Projects that come and go.
use Rattle.std.proofs.Common.{◌≡◌, ◌≢◌, ℕ, Bool, true, false, true≢false, cond, not, List, [], ◌∷◌, None, Some, IsTrue, refl, sym, ◌∙◌}
use Rattle.std.specs.List.{All}
use Rattle.std.proofs.lemmas.List.Quantifiers.{all_pairs_push}
use Rattle.std.proofs.lemmas.List.Kept.{AllPairs-filter}
use Rattle.std.proofs.lemmas.List.Elements.{All-filter, All-push, All-cons, All-nil, All-get_or}
use Rattle.std.proofs.lemmas.Option.{none-some}
use Rattle.std.proofs.lemmas.Slice.Eq.{bytes_eq-Decides}
use Rattle.job_keeper.specs.declared.project.Project.{Project}
use Rattle.job_keeper.specs.Projects.{is_project_name, is_called, project_of, with_project, without_project, AreProjects}

-- where no project is called so, each has another name
pub other_names : (name : List ℕ) (ps : List Project) → project_of name ps ≡ None
    → All (λ (p : Project). p.name ≢ name) ps
other_names name [] none = All-nil (λ (p : Project). p.name ≢ name)
other_names name (p ∷ ps) none = by (is_called name p) refl none (other_names name ps)
  where
    by : (b : Bool) → is_called name p ≡ b → cond b (Some p) (project_of name ps) ≡ None
        → (project_of name ps ≡ None → All (λ (q : Project). q.name ≢ name) ps)
        → All (λ (q : Project). q.name ≢ name) (p ∷ ps)
    by true called none rest = absurd (none-some p (sym none))
    by false differs none rest =
        All-cons (λ (q : Project). q.name ≢ name) p ps
        (λ same. true≢false (sym ((bytes_eq-Decides name p.name).1 (sym same)) ∙ differs))
        (rest none)

-- a project of a new name may stand last
pub added_are : (ps : List Project) (p : Project) → IsTrue (is_project_name p.name)
    → project_of p.name ps ≡ None → AreProjects ps → AreProjects (with_project p ps)
added_are ps p named new are =
    let others = other_names p.name ps new in
    record {
      named = All-push (λ (q : Project). IsTrue (is_project_name q.name)) ps p are.named named;
      distinct = all_pairs_push (λ (q r : Project). q.name ≢ r.name) ps p are.distinct (λ k d below. All-get_or (λ (q : Project). q.name ≢ p.name) ps k d below others);
    }

-- and those of other names are projects too
pub others_are : (name : List ℕ) (ps : List Project) → AreProjects ps
    → AreProjects (without_project name ps)
others_are name ps are = record {
  named = All-filter (λ p. not (is_called name p)) (λ (q : Project). IsTrue (is_project_name q.name)) ps are.named;
  distinct = AllPairs-filter (λ (q r : Project). q.name ≢ r.name) (λ p. not (is_called name p)) ps are.distinct;
}
