-- What is asked twice changes projects once.
use Rattle.std.proofs.Common.{◌≡◌, ℕ, Bool, true, false, cond, not, List, [], ◌∷◌, ◌++◌, length, codes, arith, Option, None, Some, Result, Ok, Err, inl, inr, refl, sym, subst, ap, ◌∙◌}
use Rattle.std.specs.List.{find}
use Rattle.std.specs.Option.{option_or}
use Rattle.std.specs.Str.{bytes_eq}
use Rattle.std.proofs.lemmas.List.Folds.{find-append}
use Rattle.std.proofs.lemmas.Option.{none-some}
use Rattle.std.proofs.lemmas.Slice.Eq.{bytes_eq-Decides}
use Rattle.stg_net.specs.declared.limits.Limits.{Limits}
use Rattle.stg_net.specs.declared.limits.TheConstants.Limits.{SPEC}
use Rattle.stg_net.specs.Initial.{graph_of}
use Rattle.stg_net.specs.Spec.{SpecLists}
use Rattle.stg_laws.specs.Conflict.{HasNoAutoConflict}
use Rattle.astg_read.specs.declared.rule.Rule.{Rule}
use Rattle.astg_read.specs.Reading.{Meaning, Fault, IsSpecOf}
use Rattle.astg_read.specs.Standing.{StandsFor, IsUnread}
use Rattle.astg_read.proofs.OneSpec.{one_spec}
use Rattle.job_keeper.specs.declared.project.Project.{Project}
use Rattle.job_keeper.specs.Projects.{is_called, project_of, with_project, without_project}
use Rattle.desk_http.specs.Answering.{Answer, IsAdded, IsAnswerTo, IsPutAnswer, about, added, failure, standing}
use Rattle.desk_http.specs.Making.{Makes}
use Rattle.desk_http.specs.Repeating.{AddedIsToldAgain, ChangesOnce, RepeatsChangeNothing}
use Rattle.desk_http.proofs.OneAsked.{asks_one}
use Rattle.desk_http.specs.declared.asked.Asked.{Asked}
use Rattle.desk_http.specs.declared.asked.Asked.TheVariants as asked
use Rattle.desk_http.specs.declared.making.Made.{Made}
use Rattle.desk_http.specs.declared.making.Made.TheVariants as made

abbrev reading_ok : Meaning → Result Meaning Fault
reading_ok m = Ok m

-- a text stands for one specification
stands_once : (limits : Limits) (text : List ℕ) (s r : SpecLists) → StandsFor limits text s → StandsFor limits text r → s ≡ r
stands_once limits text s r a b =
    let same : reading_ok a.meaning ≡ reading_ok b.meaning = sym a.reads ∙ b.reads in
    let meaning : b.meaning ≡ a.meaning = cc in
    one_spec a.meaning s r a.is (subst (λ m. IsSpecOf m r) meaning b.is)

-- a text that stands for a specification isn't unread
stands_read : (limits : Limits) (text : List ℕ) (s : SpecLists) (rule : Rule) (line : ℕ) → StandsFor limits text s → IsUnread limits text rule line → ⊥
stands_read limits text s rule line stands unread = let never : Ok stands.meaning ≡ Err (let f : Fault = record { rule = rule; line = line } in f) = sym stands.reads ∙ unread in cc

-- a text isn't both made into parts and refused
pub not_both : (text : List ℕ) (texts : List (List ℕ)) (body : List ℕ) → Makes text (made.Parts texts) → Makes text (made.Refused body) → ⊥
not_both text texts body parts (inl rule) = stands_read SPEC text parts.spec rule.rule rule.line parts.stands rule.unread
not_both text texts body parts (inr clash) =
    let same = stands_once SPEC text parts.spec clash.spec parts.stands clash.stands in
    let P : SpecLists → Type 0 = λ s. HasNoAutoConflict (graph_of s.net) in
    subst P same parts.no_clash clash.clash.t1 clash.clash.t2 clash.clash.place clash.least.clash.conflict

-- of the names without one, none has it
none_left : (name : List ℕ) (ps : List Project) → project_of name (without_project name ps) ≡ None
none_left name [] = refl
none_left name (p ∷ ps) = by (is_called name p) refl (none_left name ps)
  where
    by : (b : Bool) → is_called name p ≡ b → project_of name (without_project name ps) ≡ None → project_of name (cond (not b) (p ∷ without_project name ps) (without_project name ps)) ≡ None
    by true called rest = rest
    by false other rest = ap (λ (b : Bool). cond b (Some p) (project_of name (without_project name ps))) other ∙ rest

-- where none has it, all are left
all_left : (name : List ℕ) (ps : List Project) → project_of name ps ≡ None → without_project name ps ≡ ps
all_left name [] none = refl
all_left name (p ∷ ps) none = by (is_called name p) none (all_left name ps)
  where
    by : (b : Bool) → cond b (Some p) (project_of name ps) ≡ None → (project_of name ps ≡ None → without_project name ps ≡ ps) → cond (not b) (p ∷ without_project name ps) (without_project name ps) ≡ p ∷ ps
    by true found rest = absurd (none-some p (sym found))
    by false found rest = ap (λ (t : List Project). p ∷ t) (rest found)

-- a project that stands last is found, where none before has its name
found_last : (name text : List ℕ) (parts : List (List ℕ)) (ps : List Project) (p : Project) → p ≡ record { name = name; text = text; parts = parts } → project_of name ps ≡ None → project_of name (with_project p ps) ≡ Some p
found_last name text parts ps p is none =
    let called : is_called name p ≡ true = (bytes_eq-Decides name p.name).1 (sym (ap (λ (q : Project). q.name) is)) in
    find-append (is_called name) ps (p ∷ [])
    ∙ ap (λ (o : Option Project). option_or o (project_of name (p ∷ []))) none
    ∙ ap (λ (b : Bool). cond b (Some p) None) called

module _ (name text : List ℕ) (now : List Project) (second : Answer) (again : IsPutAnswer name text (project_of name now) now second) where
  -- a name that stands
  stands : (p : Project) → project_of name now ≡ Some p → second.1 ≡ now
  stands p there = ap (λ (a : Answer). a.1) (subst (λ (o : Option Project). IsPutAnswer name text o now second) there again)

  -- a text that is refused
  refused : (body : List ℕ) → Makes text (made.Refused body) → project_of name now ≡ None → second.1 ≡ now
  refused body makes none = by add.made add.makes add.is
    where
      add : IsAdded name text now second
      add = subst (λ (o : Option Project). IsPutAnswer name text o now second) none again

      by : (m : Made) → Makes text m → second ≡ added name text m now → second.1 ≡ now
      by (made.Parts texts) other is = absurd (not_both text texts body other makes)
      by (made.Refused other) m is = ap (λ (a : Answer). a.1) is

  -- after a PUT of a name that none had
  after_added : (before : List Project) (first : Answer) (m : Made) → Makes text m → first ≡ added name text m before → project_of name before ≡ None → project_of name now ≡ project_of name first.1 → second.1 ≡ now
  after_added before first (made.Parts texts) makes is none same =
      let p : Project = record { name = name; text = text; parts = texts } in
      stands p (same ∙ ap (λ (a : Answer). project_of name a.1) is ∙ found_last name text texts before p refl none)
  after_added before first (made.Refused body) makes is none same = refused body makes (same ∙ ap (λ (a : Answer). project_of name a.1) is ∙ none)

  after_put : (before : List Project) (first : Answer) (found : Option Project) → project_of name before ≡ found → IsPutAnswer name text found before first → project_of name now ≡ project_of name first.1 → second.1 ≡ now
  after_put before first None e put same = after_added before first put.made put.makes put.is e same
  after_put before first (Some p) e put same = stands p (same ∙ ap (λ (a : Answer). project_of name a.1) put ∙ e)

-- what is asked twice changes projects once
pub changes_once : (a : Asked) → ChangesOnce a
changes_once asked.BadRequest before now first second one same two = ap (λ (x : Answer). x.1) two
changes_once asked.NoPath before now first second one same two = ap (λ (x : Answer). x.1) two
changes_once (asked.NoMethod kind) before now first second one same two = ap (λ (x : Answer). x.1) two
changes_once asked.NoLength before now first second one same two = ap (λ (x : Answer). x.1) two
changes_once asked.TooLarge before now first second one same two = ap (λ (x : Answer). x.1) two
changes_once asked.List before now first second one same two = ap (λ (x : Answer). x.1) two
changes_once (asked.Get name) before now first second one same two = ap (λ (x : Answer). x.1) two
changes_once (asked.Part name k) before now first second one same two = ap (λ (x : Answer). x.1) two
changes_once (asked.Put name text) before now first second one same two = after_put name text now second two before first (project_of name before) refl one same
changes_once (asked.Delete name) before now first second one same two =
    ap (λ (x : Answer). x.1) two
    ∙ all_left name now (same ∙ ap (λ (x : Answer). project_of name x.1) one ∙ none_left name before)

-- a request that comes twice changes projects once
pub repeats_change_nothing : RepeatsChangeNothing
repeats_change_nothing bytes a before now first second asks one same two =
    let once : one.asked ≡ a = asks_one bytes one.asked a one.asks asks in
    let twice : two.asked ≡ a = asks_one bytes two.asked a two.asks asks in
    changes_once a before now first second
    (subst (λ (x : Asked). IsAnswerTo x before first) once one.answers) same
    (subst (λ (x : Asked). IsAnswerTo x now second) twice two.answers)

module _ (name text : List ℕ) (now : List Project) (second : Answer) (again : IsPutAnswer name text (project_of name now) now second) where
  -- the same text again
  same_text : (p : Project) → p.text ≡ text → project_of name now ≡ Some p → second.0.status ≡ 200
  same_text p is there =
      let called : bytes_eq text p.text ≡ true = (bytes_eq-Decides text p.text).1 (sym is) in
      ap (λ (a : Answer). a.0.status) (subst (λ (o : Option Project). IsPutAnswer name text o now second) there again)
      ∙ ap (λ (b : Bool). (cond b (about 200 name (length p.parts)) (failure 409 (codes "taken"))).status) called

  -- after a PUT that added its project
  after_made : (before : List Project) (first : Answer) (m : Made) → first ≡ added name text m before → first.0.status ≡ 201 → project_of name before ≡ None → project_of name now ≡ project_of name first.1 → second.0.status ≡ 200
  after_made before first (made.Parts texts) is created none same =
      let p : Project = record { name = name; text = text; parts = texts } in
      same_text p refl (same ∙ ap (λ (a : Answer). project_of name a.1) is ∙ found_last name text texts before p refl none)
  after_made before first (made.Refused body) is created none same =
      let refused : first.0.status ≡ 422 = ap (λ (a : Answer). a.0.status) is in
      absurd (omega (arith, refused, created))

-- a name that stands isn't answered 201
none_made : (name text : List ℕ) (p : Project) → (standing name p text).status ≡ 201 → ⊥
none_made name text p = by (bytes_eq text p.text)
  where
    by : (b : Bool) → (cond b (about 200 name (length p.parts)) (failure 409 (codes "taken"))).status ≡ 201 → ⊥
    by true is = omega arith
    by false is = omega arith

-- a PUT that added a project is answered 200 again
pub added_is_told_again : AddedIsToldAgain
added_is_told_again name text before now first second one created same two = by (project_of name before) refl one
  where
    by : (found : Option Project) → project_of name before ≡ found → IsPutAnswer name text found before first → second.0.status ≡ 200
    by None none put = after_made name text now second two before first put.made put.is created none same
    by (Some p) there put = absurd (none_made name text p (sym (ap (λ (a : Answer). a.0.status) put) ∙ created))
