-- Projects over which a reply is given, where a keeper doesn't tell its own.
use Rattle.std.proofs.Common.{◌≡◌, ℕ, Bool, true, false, cond, if◌then◌else◌, List, [], ◌∷◌, length, map, Option, None, Some, Result, Ok, Err, IfOk, codes, arith, refl, sym, subst, ap, ◌∙◌, ◌⊎◌, inl, inr}
use Rattle.std.specs.Option.{option_map, option_and_then}
use Rattle.std.specs.Str.{bytes_eq}
use Rattle.std.proofs.lemmas.Slice.Eq.{bytes_eq-Decides}
use Rattle.job_keeper.specs.declared.keeper.KeepError.{KeepError}
use Rattle.job_keeper.specs.declared.project.Project.{Project}
use Rattle.job_keeper.specs.Projects.{project_names, project_of, without_project}
use Rattle.desk_http.specs.Answering.{IsAnswerTo, IsGiven, IsPutAnswer, about, added, failure, found_part, found_project, json, missing_failure, part_of, removed, standing}
use Rattle.desk_http.specs.Making.{Makes}
use Rattle.desk_http.specs.Replies.{list_body, removed_body}
use Rattle.desk_http.specs.declared.asked.Asked.{Asked}
use Rattle.desk_http.specs.declared.asked.Asked.TheVariants as asked
use Rattle.desk_http.specs.declared.making.Made.{Made}
use Rattle.desk_http.specs.declared.making.Made.TheVariants as made
use Rattle.desk_http.specs.declared.reply.Reply.{Reply}

-- a project with another name
abbrev renamed : List ℕ → Project → Project
renamed name p = record { name = name; text = p.text; parts = p.parts }

-- the projects of which that name finds this one
abbrev under : List ℕ → Option Project → List Project
under name None = []
under name (Some p) = renamed name p ∷ []

same_bytes : (bs : List ℕ) → bytes_eq bs bs ≡ true
same_bytes bs = (bytes_eq-Decides bs bs).1 refl

found_under : (name : List ℕ) (found : Option Project) → project_of name (under name found) ≡ option_map (renamed name) found
found_under name None = refl
found_under name (Some p) = ap (λ (b : Bool). cond b (Some (renamed name p)) None) (same_bytes name)

-- of no project
abbrev nameless : List ℕ → Project
nameless name = record { name = name; text = []; parts = [] }

names_of : (names : List (List ℕ)) → project_names (map nameless names) ≡ names
names_of [] = refl
names_of (n ∷ ns) = ap (λ (t : List (List ℕ)). n ∷ t) (names_of ns)

pub given_list : (names : List (List ℕ)) (reply : Reply) → reply ≡ json 200 (list_body names) → IsGiven asked.List reply
given_list names reply is = record {
  projects = map nameless names;
  after = map nameless names;
  answers = ap (λ (r : Reply). (r, map nameless names)) (is ∙ ap (λ (ns : List (List ℕ)). json 200 (list_body ns)) (sym (names_of names)));
}

same_found : (name : List ℕ) (found : Option Project) → found_project name found ≡ found_project name (option_map (renamed name) found)
same_found name None = refl
same_found name (Some p) = refl

pub given_project : (name : List ℕ) (found : Option Project) (reply : Reply) → reply ≡ found_project name found → IsGiven (asked.Get name) reply
given_project name found reply is = record {
  projects = under name found;
  after = under name found;
  answers = ap (λ (r : Reply). (r, under name found)) (is ∙ same_found name found ∙ ap (found_project name) (sym (found_under name found)));
}

same_part : (name : List ℕ) (k : ℕ) (found : Option Project) → option_and_then (part_of k) found ≡ option_and_then (part_of k) (option_map (renamed name) found)
same_part name k None = refl
same_part name k (Some p) = refl

pub given_part : (name : List ℕ) (k : ℕ) (found : Option Project) (reply : Reply) → reply ≡ found_part (option_and_then (part_of k) found) → IsGiven (asked.Part name k) reply
given_part name k found reply is = record {
  projects = under name found;
  after = under name found;
  answers = ap (λ (r : Reply). (r, under name found)) (is ∙ ap found_part (same_part name k found ∙ ap (option_and_then (part_of k)) (sym (found_under name found))));
}

-- a DELETE of a name that a project has
pub given_removed : (name : List ℕ) (reply : Reply) → reply ≡ json 200 (removed_body name) → IsGiven (asked.Delete name) reply
given_removed name reply is = record {
  projects = under name (Some (nameless name));
  after = without_project name (under name (Some (nameless name)));
  answers = ap (λ (r : Reply). (r, without_project name (under name (Some (nameless name))))) (is ∙ ap (removed name) (sym (found_under name (Some (nameless name)))));
}

-- and of one that none has
pub given_missing : (name : List ℕ) (reply : Reply) → reply ≡ missing_failure → IsGiven (asked.Delete name) reply
given_missing name reply is = record { projects = []; after = []; answers = ap (λ (r : Reply). (r, [])) is }

-- a PUT of a name that a project has
pub given_standing : (name text : List ℕ) (p : Project) (reply : Reply) → reply ≡ standing name p text → IsGiven (asked.Put name text) reply
given_standing name text p reply is = record {
  projects = under name (Some p);
  after = under name (Some p);
  answers = subst (λ (o : Option Project). IsPutAnswer name text o (under name (Some p)) (reply, under name (Some p))) (sym (found_under name (Some p))) (ap (λ (r : Reply). (r, under name (Some p))) is);
}

-- a text that isn't this one
longer : (bs : List ℕ) → bytes_eq bs (0 ∷ bs) ≡ false
longer bs = by (bytes_eq bs (0 ∷ bs)) refl
  where
    by : (b : Bool) → bytes_eq bs (0 ∷ bs) ≡ b → b ≡ false
    by false e = refl
    by true e = absurd (omega (arith, ap length ((bytes_eq-Decides bs (0 ∷ bs)).0 e)))

-- where another was faster
pub given_taken : (name text : List ℕ) (reply : Reply) → reply ≡ failure 409 (codes "taken") → IsGiven (asked.Put name text) reply
given_taken name text reply is =
    let p : Project = record { name = name; text = 0 ∷ text; parts = [] } in
    given_standing name text p reply (is ∙ ap (λ (b : Bool). if b then about 200 name 0 else failure 409 (codes "taken")) (sym (longer text)))

-- of a name that none has
pub given_added : (name text : List ℕ) (m : Made) (reply : Reply) → Makes text m → reply ≡ (added name text m []).0 → IsGiven (asked.Put name text) reply
given_added name text m reply makes is = record {
  projects = [];
  after = (added name text m []).1;
  answers = record { made = m; makes = makes; is = ap (λ (r : Reply). (r, (added name text m []).1)) is };
}

-- a reply that the bytes decide
pub given_by_bytes : (asked a : Asked) (r reply : Reply) → asked ≡ a → IsAnswerTo a [] (r, []) → reply ≡ r → IsGiven asked reply
given_by_bytes asked a r reply same answers is = record {
  projects = [];
  after = [];
  answers = subst (λ (b : Asked). IsAnswerTo b [] (reply, [])) (sym same) (subst (λ (x : Reply). IsAnswerTo a [] (x, [])) (sym is) answers);
}

-- a PUT whose parts are made, where the name is added or another was faster
pub given_parts : (name text : List ℕ) (parts : List (List ℕ)) (result : Result Reply KeepError) → Makes text (made.Parts parts) → IfOk result (λ reply. (reply ≡ about 201 name (length parts)) ⊎ (reply ≡ failure 409 (codes "taken"))) → IfOk result (λ reply. IsGiven (asked.Put name text) reply)
given_parts name text parts (Ok reply) makes (inl is) = given_added name text (made.Parts parts) reply makes is
given_parts name text parts (Ok reply) makes (inr is) = given_taken name text reply is
given_parts name text parts (Err e) makes given = given
