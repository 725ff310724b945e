-- The test of projects decides that they are ones.
use Rattle.std.proofs.Common.{◌≡◌, ◌≢◌, ℕ, suc, Bool, true, false, true≢false, cond, ◌&&◌, List, [], ◌∷◌, Option, None, Some, is_none, IsTrue, ◌↔◌, refl, sym, ◌∙◌, arith}
use Rattle.std.specs.List.{All}
use Rattle.std.proofs.lemmas.List.Kept.{AllPairs-cons}
use Rattle.std.proofs.lemmas.List.Elements.{All-cons, All-nil, All-head, All-tail, All-from_get_or, All-weaker}
use Rattle.std.proofs.lemmas.Bool.{and_parts}
use Rattle.std.proofs.lemmas.Slice.Eq.{bytes_eq-Decides}
use Rattle.job_keeper.specs.declared.project.Project.{Project}
use Rattle.job_keeper.specs.Projects.{is_project_name, is_called, project_of, AreProjects}
use Rattle.job_keeper.specs.inner.Clear.{are_clear}
use Rattle.job_keeper.proofs.ProjectLemmas.{other_names}

abbrev Named : Project → Type 0
Named p = IsTrue (is_project_name p.name)

abbrev Differ : Project → Project → Type 0
Differ p q = p.name ≢ q.name

-- where all others have another name, no project is found
none_called : (name : List ℕ) (ps : List Project) → All (λ (q : Project). name ≢ q.name) ps
    → project_of name ps ≡ None
none_called name [] others = refl
none_called name (q ∷ ps) others =
    by (is_called name q) refl (none_called name ps (All-tail (λ (q : Project). name ≢ q.name) q ps others))
  where
    by : (b : Bool) → is_called name q ≡ b → project_of name ps ≡ None
        → cond b (Some q) (project_of name ps) ≡ None
    by true called rest =
        absurd (All-head (λ (q : Project). name ≢ q.name) q ps others ((bytes_eq-Decides name q.name).0 called))
    by false differs rest = rest

is_new : (found : Option Project) → is_none found ≡ true → found ≡ None
is_new None is = refl
is_new (Some p) is = absurd (true≢false (sym is))

-- projects that pass the test are ones
pub clear_are : (ps : List Project) → are_clear ps ≡ true → AreProjects ps
clear_are [] clear = record {
  named = All-nil Named;
  distinct = λ i j d before below. absurd (omega (arith, before, below));
}
clear_are (p ∷ ps) clear =
    let rest = and_parts (is_project_name p.name && is_none (project_of p.name ps)) (are_clear ps) clear in
    let first = and_parts (is_project_name p.name) (is_none (project_of p.name ps)) rest.0 in
    by first.0 (is_new (project_of p.name ps) first.1) (clear_are ps rest.1)
  where
    by : Named p → project_of p.name ps ≡ None → AreProjects ps → AreProjects (p ∷ ps)
    by named new are =
        let others = All-weaker (λ (q : Project). q.name ≢ p.name) (Differ p) (λ q differ same. differ (sym same)) ps (other_names p.name ps new) in
        record {
          named = All-cons Named p ps named are.named;
          distinct = AllPairs-cons Differ p ps others are.distinct;
        }

-- and projects pass it
pub are_clear_all : (ps : List Project) → AreProjects ps → are_clear ps ≡ true
are_clear_all [] are = refl
are_clear_all (p ∷ ps) are =
    by (All-head Named p ps are.named)
    (none_called p.name ps (All-from_get_or (Differ p) ps p (λ i below. are.distinct 0 (suc i) p (omega arith) (omega (arith, below)))))
    (are_clear_all ps (record {
      named = All-tail Named p ps are.named;
      distinct = λ i j d before below. are.distinct (suc i) (suc j) d (omega (arith, before)) (omega (arith, below));
    }))
  where
    by : is_project_name p.name ≡ true → project_of p.name ps ≡ None → are_clear ps ≡ true
        → (is_project_name p.name && is_none (project_of p.name ps) && are_clear ps) ≡ true
    by named new rest = rw (named, new, rest) refl

-- the test decides
pub are_projects_is : (b : Bool) (ps : List Project) → b ≡ are_clear ps → IsTrue b ↔ AreProjects ps
are_projects_is b ps is =
    (λ holds. clear_are ps (sym is ∙ holds), λ are. is ∙ are_clear_all ps are)
