-- What `clap` makes of words of the form.
use Rattle.std.proofs.Common.{◌≡◌, ℕ, ◌&&◌, Bool, true, false, cond, true≢false, List, [], ◌∷◌, Option, None, Some, is_some, refl, sym, ap, ◌∙◌, subst, codes}
use Rattle.std.specs.Str.{bytes_eq}
use Rattle.std.specs.Option.{option_map, option_and_then, option_to_list, IsSomeAnd}
use Rattle.clap.specs.Words.{Row, first_of, first_value, matches_of, one_of, one_text, rows_of, takes}
use Rattle.clap.specs.Walk.{has_row, with_values, walk_from, nothing_held}
use Rattle.clap.specs.declared.parser.matches.ValueSource.TheVariants.{DefaultValue}
use Rattle.clap.specs.declared.parser.matches.Found.{Found}
use Rattle.clap.specs.declared.builder.value_parser.Reading.TheVariants as reading
use Rattle.clap.proofs.OnLiterals.{clap_on_literals}
use Rattle.clap.proofs.WalkLemmas.{first_value-rows, one_text-rows}
use Rattle.desij_words.specs.declared.words.form.Action.{Action}
use Rattle.desij_words.specs.declared.words.form.Action.TheVariants as action
use Rattle.desij_words.specs.Words.{Text, Command, Decompose, Measure, Given, Argument, Positional, Workers, Partition, Steps, given_in, values_of, nothing_given, is_file_word, spec_from, count_from, workers_from, partition_from, steps_from, decompose_of, measure_of, asked_in}
use Rattle.desij_words.specs.Matches.{HasValues, IsDecompose, IsMeasure, flag_text}
use Rattle.desij_words.specs.inner.Pass.{has, nothing_met, may_follow, action_in}
use Rattle.desij_words.proofs.WordLemmas.{none_some, some_same}
use Rattle.desij_words.proofs.FormLemmas.{AsksFor, Tells, action_in-tells, asked-some, decompose-fine, measure-fine}
use Rattle.desij_words.proofs.ClapRows.{Use, id_in, shown, is_used, rows_for, cond_same, defaulted, value-found, flag-found, or_default, first, value-first}
use Rattle.desij_words.proofs.ClapWalks.{app, Goal, uses, takes-all, settled_idle}

-- ---- the walk from the start

nothing-used : (what : Action) (name : Argument) → is_used (id_in what name) [] ≡ has nothing_met name
nothing-used what Positional = refl
nothing-used what Workers = refl
nothing-used what Partition = refl
nothing-used what Steps = refl

start : (what : Action) (rest : List Text) (gs : List Given) → may_follow what rest (nothing_met, None) ≡ true → given_in rest None ≡ Some gs → Goal what rest (uses what gs) (walk_from nothing_held)
start action.Decompose rest gs e g = takes-all action.Decompose rest None tt nothing_met [] gs (walk_from nothing_held) e g (nothing-used action.Decompose) (None, [], refl, settled_idle action.Decompose [])
start action.Measure rest gs e g = takes-all action.Measure rest None tt nothing_met [] gs (walk_from nothing_held) e g (nothing-used action.Measure) (None, [], refl, settled_idle action.Measure [])

-- the command takes all words of the form
pub takes-form : (what : Action) (name : Text) (rest : List Text) (gs : List Given) → may_follow what rest (nothing_met, None) ≡ true → given_in rest None ≡ Some gs → takes (app what) (name ∷ rest) ≡ true
unfolding clap_on_literals
takes-form action.Decompose name rest gs e f =
    let g = start action.Decompose rest gs e f in
    rw (g.0, g.1.2, g.1.3.settles) refl
takes-form action.Measure name rest gs e f =
    let g = start action.Measure rest gs e f in
    rw (g.0, g.1.2, g.1.3.settles) refl

-- the rows of the matches
abbrev pub rows_found : Action → List Use → List Row
rows_found action.Decompose us = cond (has_row (codes "steps") (rows_for us)) (rows_for us) (with_values (codes "steps") reading.AsWritten DefaultValue (codes "false" ∷ []) (rows_for us))
rows_found action.Measure us = rows_for us

rows-form : (what : Action) (name : Text) (rest : List Text) (gs : List Given) → may_follow what rest (nothing_met, None) ≡ true → given_in rest None ≡ Some gs → matches_of (app what) (name ∷ rest) ≡ rows_found what (uses what gs)
unfolding clap_on_literals
rows-form action.Decompose name rest gs e f =
    let g = start action.Decompose rest gs e f in
    let us = rows_for (uses action.Decompose gs) in
    let whole = rows_found action.Decompose (uses action.Decompose gs) in
    rw (g.1.2, g.1.3.rows, cond_same (has_row (codes "spec") us) us, cond_same (has_row (codes "workers") us) us, cond_same (has_row (codes "partition") us) us)
    (cond_same (has_row (codes "help") whole) whole)
rows-form action.Measure name rest gs e f =
    let g = start action.Measure rest gs e f in
    let us = rows_for (uses action.Measure gs) in
    rw (g.1.2, g.1.3.rows, cond_same (has_row (codes "count") us) us, cond_same (has_row (codes "workers") us) us)
    (cond_same (has_row (codes "help") us) us)

-- ---- the values

unshown : (name : Argument) (o : Option Text) → bytes_eq (codes "steps") (id_in action.Decompose name) ≡ false → option_map (shown name) o ≡ o
unshown Positional None e = refl
unshown Positional (Some v) e = refl
unshown Workers None e = refl
unshown Workers (Some v) e = refl
unshown Partition None e = refl
unshown Partition (Some v) e = refl
unshown Steps o e = absurd (true≢false e)

found-value : (what : Action) (name : Argument) (gs : List Given) → bytes_eq (codes "steps") (id_in what name) ≡ false → bytes_eq (codes "steps") (id_in action.Decompose name) ≡ false → first_of (id_in what name) (rows_found what (uses what gs)) ≡ first (values_of name gs)
found-value action.Decompose name gs e f =
    let us = uses action.Decompose gs in
    defaulted (id_in action.Decompose name) (codes "steps") (has_row (codes "steps") (rows_for us)) reading.AsWritten (codes "false" ∷ []) (rows_for us) e
    ∙ value-found (id_in action.Decompose name) us ∙ value-first action.Decompose name gs ∙ unshown name (first (values_of name gs)) f
found-value action.Measure name gs e f = value-found (id_in action.Measure name) (uses action.Measure gs) ∙ value-first action.Measure name gs ∙ unshown name (first (values_of name gs)) f

-- a parse with these rows has the values of the words
record HasRows (what : Action) (gs : List Given) (found : Found) : Type 0 where
  value : (name : Argument) → bytes_eq (codes "steps") (id_in what name) ≡ false → bytes_eq (codes "steps") (id_in action.Decompose name) ≡ false → first_value found (id_in what name) ≡ first (values_of name gs)
  flag : one_text found (codes "steps") ≡ one_of (codes "steps") (rows_found what (uses what gs))

has_rows : (what : Action) (gs : List Given) (found : Found) → rows_of found ≡ rows_found what (uses what gs) → HasRows what gs found
has_rows what gs found e = record {
  value = λ name p q. first_value-rows found (id_in what name) ∙ ap (first_of (id_in what name)) e ∙ found-value what name gs p q;
  flag = one_text-rows found (codes "steps") ∙ ap (one_of (codes "steps")) e;
}

pub and_then-is : {A B : Type 0} (o : Option A) (f : A → Option B) (y : B) → option_and_then f o ≡ Some y → (x : A) × (o ≡ Some x) × (f x ≡ Some y)
and_then-is None f y e = absurd (none_some y e)
and_then-is (Some x) f y e = (x, refl, e)

spec-first : (vs : List Text) (v : Text) → spec_from vs ≡ Some v → first vs ≡ Some v
spec-first [] v e = e
spec-first (w ∷ []) v e = by (is_file_word w) e
  where
    by : (b : Bool) → cond b (Some w) None ≡ Some v → Some w ≡ Some v
    by true e = e
    by false e = absurd (none_some v e)
spec-first (w ∷ x ∷ vs) v e = absurd (none_some v e)

count-first : (vs : List Text) (o : Option ℕ) → is_some o ≡ true → count_from vs ≡ o → count_from (option_to_list (first vs)) ≡ o
count-first [] o h e = e
count-first (w ∷ []) o h e = e
count-first (w ∷ x ∷ vs) o h e = absurd (true≢false (sym (ap is_some e ∙ h)))

workers-first : (vs : List Text) (o : Option ℕ) → is_some o ≡ true → workers_from vs ≡ o → workers_from (option_to_list (first vs)) ≡ o
workers-first [] o h e = e
workers-first (w ∷ []) o h e = e
workers-first (w ∷ x ∷ vs) o h e = absurd (true≢false (sym (ap is_some e ∙ h)))

partition-first : (vs : List Text) (p : Option Text) → partition_from vs ≡ Some p → first vs ≡ p
partition-first [] p e = some_same None p e
partition-first (w ∷ []) p e = by (is_file_word w) e
  where
    by : (b : Bool) → option_map Some (cond b (Some w) None) ≡ Some p → Some w ≡ p
    by true e = some_same (Some w) p e
    by false e = absurd (none_some p e)
partition-first (w ∷ x ∷ vs) p e = absurd (none_some p e)

steps-first : (vs : List Text) (b : Bool) → steps_from vs ≡ Some b → or_default (codes "false") (option_map (shown Steps) (first vs)) ≡ Some (flag_text b)
steps-first [] b e = ap (λ c. Some (flag_text c)) (some_same false b e)
steps-first (w ∷ []) b e = ap (λ c. Some (flag_text c)) (some_same true b e)
steps-first (w ∷ x ∷ vs) b e = absurd (none_some b e)

-- what is found is what the words of `decompose` give
decompose-values : (gs : List Given) (command : Command) (found : Found) → rows_of found ≡ rows_found action.Decompose (uses action.Decompose gs) → decompose_of gs ≡ Some command → HasValues found command
decompose-values gs command found e made =
    let h = has_rows action.Decompose gs found e in
    let s = and_then-is (spec_from (values_of Positional gs)) _ command made in
    let n = and_then-is (workers_from (values_of Workers gs)) _ command s.2 in
    let p = and_then-is (partition_from (values_of Partition gs)) _ command n.2 in
    let f = and_then-is (steps_from (values_of Steps gs)) _ command p.2 in
    let is : Decompose s.0 n.0 p.0 f.0 ≡ command = some_same (Decompose s.0 n.0 p.0 f.0) command f.2 in
    let told : HasValues found (Decompose s.0 n.0 p.0 f.0) = (
      h.value Positional refl refl ∙ spec-first (values_of Positional gs) s.0 s.1,
      ap (λ o. workers_from (option_to_list o)) (h.value Workers refl refl) ∙ workers-first (values_of Workers gs) (Some n.0) refl n.1,
      h.value Partition refl refl ∙ partition-first (values_of Partition gs) p.0 p.1,
      h.flag ∙ flag-found (codes "steps") (codes "false") (uses action.Decompose gs) refl ∙ ap (or_default (codes "false")) (value-first action.Decompose Steps gs) ∙ steps-first (values_of Steps gs) f.0 f.1,
    ) in
    subst (HasValues found) is told

pub measure-made : (gs : List Given) (command : Command) → measure_of gs ≡ Some command
    → option_and_then (λ count. option_and_then (λ workers. Some (Measure count workers)) (workers_from (values_of Workers gs))) (count_from (values_of Positional gs)) ≡ Some command
measure-made gs command made = by (nothing_given (values_of Partition gs)) (nothing_given (values_of Steps gs)) made
  where
    by : (a b : Bool) → cond (a && b) (option_and_then (λ count. option_and_then (λ workers. Some (Measure count workers)) (workers_from (values_of Workers gs))) (count_from (values_of Positional gs))) None ≡ Some command
        → option_and_then (λ count. option_and_then (λ workers. Some (Measure count workers)) (workers_from (values_of Workers gs))) (count_from (values_of Positional gs)) ≡ Some command
    by true true e = e
    by true false e = absurd (none_some command e)
    by false b e = absurd (none_some command e)

measure-values : (gs : List Given) (command : Command) (found : Found) → rows_of found ≡ rows_found action.Measure (uses action.Measure gs) → measure_of gs ≡ Some command → HasValues found command
measure-values gs command found e made =
    let h = has_rows action.Measure gs found e in
    let s = and_then-is (count_from (values_of Positional gs)) _ command (measure-made gs command made) in
    let n = and_then-is (workers_from (values_of Workers gs)) _ command s.2 in
    let is : Measure s.0 n.0 ≡ command = some_same (Measure s.0 n.0) command n.2 in
    let told : HasValues found (Measure s.0 n.0) = (
      ap (λ o. count_from (option_to_list o)) (h.value Positional refl refl) ∙ count-first (values_of Positional gs) (Some s.0) refl s.1,
      ap (λ o. workers_from (option_to_list o)) (h.value Workers refl refl) ∙ workers-first (values_of Workers gs) (Some n.0) refl n.1,
    ) in
    subst (HasValues found) is told

-- ---- words of the form

pub asked-decompose : (words : List Text) (a : AsksFor decompose_of (codes "decompose") words) → asked_in words ≡ Some a.command
asked-decompose words a = ap asked_in a.first ∙ ap (option_and_then decompose_of) a.gives ∙ a.made

pub asked-measure : (words : List Text) (a : AsksFor measure_of (codes "measure") words) → asked_in words ≡ Some a.command
asked-measure words a = ap asked_in a.first ∙ ap (option_and_then measure_of) a.gives ∙ a.made

decompose-follow : (words : List Text) (a : AsksFor decompose_of (codes "decompose") words) → may_follow action.Decompose a.rest (nothing_met, None) ≡ true
decompose-follow words a = sym (asked-some action.Decompose decompose_of decompose-fine a.rest) ∙ rw (a.gives, a.made) refl

measure-follow : (words : List Text) (a : AsksFor measure_of (codes "measure") words) → may_follow action.Measure a.rest (nothing_met, None) ≡ true
measure-follow words a = sym (asked-some action.Measure measure_of measure-fine a.rest) ∙ rw (a.gives, a.made) refl

pub decompose-takes : (words : List Text) → AsksFor decompose_of (codes "decompose") words → takes (app action.Decompose) words ≡ true
decompose-takes words a = subst (λ ws. takes (app action.Decompose) ws ≡ true) (sym a.first) (takes-form action.Decompose (codes "decompose") a.rest a.gs (decompose-follow words a) a.gives)

pub measure-takes : (words : List Text) → AsksFor measure_of (codes "measure") words → takes (app action.Measure) words ≡ true
measure-takes words a = subst (λ ws. takes (app action.Measure) ws ≡ true) (sym a.first) (takes-form action.Measure (codes "measure") a.rest a.gs (measure-follow words a) a.gives)

pub decompose-has : (words : List Text) (found : Found) → AsksFor decompose_of (codes "decompose") words → rows_of found ≡ matches_of (app action.Decompose) words → IsSomeAnd (asked_in words) (HasValues found)
decompose-has words found a e =
    let rows = e ∙ ap (matches_of (app action.Decompose)) a.first ∙ rows-form action.Decompose (codes "decompose") a.rest a.gs (decompose-follow words a) a.gives in
    subst (λ (o : Option Command). IsSomeAnd o (HasValues found)) (sym (asked-decompose words a)) (decompose-values a.gs a.command found rows a.made)

pub measure-has : (words : List Text) (found : Found) → AsksFor measure_of (codes "measure") words → rows_of found ≡ matches_of (app action.Measure) words → IsSomeAnd (asked_in words) (HasValues found)
measure-has words found a e =
    let rows = e ∙ ap (matches_of (app action.Measure)) a.first ∙ rows-form action.Measure (codes "measure") a.rest a.gs (measure-follow words a) a.gives in
    subst (λ (o : Option Command). IsSomeAnd o (HasValues found)) (sym (asked-measure words a)) (measure-values a.gs a.command found rows a.made)

-- which command was asked for

measured : (gs : List Given) (command : Command) → measure_of gs ≡ Some command → IsMeasure command
measured gs command made =
    let s = and_then-is (count_from (values_of Positional gs)) _ command (measure-made gs command made) in
    let n = and_then-is (workers_from (values_of Workers gs)) _ command s.2 in
    subst IsMeasure (some_same (Measure s.0 n.0) command n.2) tt

decomposed : (gs : List Given) (command : Command) → decompose_of gs ≡ Some command → IsDecompose command
decomposed gs command made =
    let s = and_then-is (spec_from (values_of Positional gs)) _ command made in
    let n = and_then-is (workers_from (values_of Workers gs)) _ command s.2 in
    let p = and_then-is (partition_from (values_of Partition gs)) _ command n.2 in
    let f = and_then-is (steps_from (values_of Steps gs)) _ command p.2 in
    subst IsDecompose (some_same (Decompose s.0 n.0 p.0 f.0) command f.2) tt

not_both : (command : Command) → IsDecompose command → IsMeasure command → ⊥
not_both (Decompose spec workers partition steps) p q = q
not_both (Measure count workers) p q = p

pub decompose-asks : (words : List Text) → IsSomeAnd (asked_in words) IsDecompose → AsksFor decompose_of (codes "decompose") words
decompose-asks words h = by (action_in words) (action_in-tells words)
  where
    by : (o : Option Action) → Tells words o → AsksFor decompose_of (codes "decompose") words
    by None e = absurd (subst (λ (o : Option Command). IsSomeAnd o IsDecompose) e h)
    by (Some action.Decompose) a = a
    by (Some action.Measure) a = absurd (not_both a.command (subst (λ (o : Option Command). IsSomeAnd o IsDecompose) (asked-measure words a) h) (measured a.gs a.command a.made))

pub measure-asks : (words : List Text) → IsSomeAnd (asked_in words) IsMeasure → AsksFor measure_of (codes "measure") words
measure-asks words h = by (action_in words) (action_in-tells words)
  where
    by : (o : Option Action) → Tells words o → AsksFor measure_of (codes "measure") words
    by None e = absurd (subst (λ (o : Option Command). IsSomeAnd o IsMeasure) e h)
    by (Some action.Decompose) a = absurd (not_both a.command (decomposed a.gs a.command a.made) (subst (λ (o : Option Command). IsSomeAnd o IsMeasure) (asked-decompose words a) h))
    by (Some action.Measure) a = a

-- what the pass finds is what the words ask for
abbrev pub IsActionOf : Option Action → Option Command → Type 0
IsActionOf None command = command ≡ None
IsActionOf (Some action.Decompose) command = IsSomeAnd command IsDecompose
IsActionOf (Some action.Measure) command = IsSomeAnd command IsMeasure

pub action-asked : (words : List Text) → IsActionOf (action_in words) (asked_in words)
action-asked words = by (action_in words) (action_in-tells words)
  where
    by : (o : Option Action) → Tells words o → IsActionOf o (asked_in words)
    by None e = e
    by (Some action.Decompose) a = subst (λ (o : Option Command). IsSomeAnd o IsDecompose) (sym (asked-decompose words a)) (decomposed a.gs a.command a.made)
    by (Some action.Measure) a = subst (λ (o : Option Command). IsSomeAnd o IsMeasure) (sym (asked-measure words a)) (measured a.gs a.command a.made)
