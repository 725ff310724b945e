-- The commands of `clap` take all words of the form.
use Rattle.std.proofs.Common.{◌≡◌, ℕ, Bool, true, false, not, ◌&&◌, ◌||◌, ◌==◌, true≢false, cond, nat_le, List, [], ◌∷◌, ◌++◌, map, append_assoc, append-nil, Option, None, Some, is_some, refl, sym, ap, ap₂, ◌∙◌, subst, arith, codes, fold}
use Rattle.std.specs.List.{list_all}
use Rattle.std.specs.Str.{bytes_eq}
use Rattle.std.specs.Str.Parse.{digits_value}
use Rattle.std.specs.Option.{option_map}
use Rattle.std.proofs.lemmas.Bool.{eqb-true, leb-true}
use Rattle.std.proofs.lemmas.List.Folds.{list_any-append}
use Rattle.std.proofs.lemmas.Slice.Eq.{bytes_eq-Decides}
use Rattle.clap.specs.Words.{App, Row, Rule, is_simple, new_app, new_rule, with_rule}
use Rattle.clap.specs.Walk.{Held, Walk, Waiting, walked, settled_rows, idle, option, is_pending}
use Rattle.clap.specs.Takes.{walk_passes, turn_passes, settle_passes}
use Rattle.clap.specs.Simple.{Shape, built}
use Rattle.clap.specs.declared.builder.action.ArgAction.TheVariants.{SetTrue}
use Rattle.clap.proofs.OnLiterals.{clap_on_literals}
use Rattle.stg_net.specs.Names.{is_digit}
use Rattle.desij_words.specs.declared.words.form.Action.{Action}
use Rattle.desij_words.specs.declared.words.form.Action.TheVariants as action
use Rattle.desij_words.specs.declared.words.form.Met.{Met}
use Rattle.desij_words.specs.Words.{Text, Given, Argument, Positional, Workers, Partition, Steps, WordKind, Gives, Asks, Unknown, after_prefix, or_gives, begins_with_dash, begins_number, is_file_word, is_same, number_up_to, word_kind, at_word, given_in}
use Rattle.desij_words.specs.inner.Pass.{allows, has, with_argument, PassPoint, point_at, follow, may_follow}
use Rattle.desij_words.proofs.WordLemmas.{none_some, some_same, after_is}
use Rattle.desij_words.proofs.FormLemmas.{and_false}
use Rattle.desij_words.proofs.ClapRows.{Use, positional_id, id_in, use_in, is_used, or_true, or_none, rows_for, no_row, added, IsPlain, file-plain, same-ids}

abbrev pub workers_rule : Rule
workers_rule = record (new_rule (codes "workers")) { long = Some (codes "workers") }

abbrev pub partition_rule : Rule
partition_rule = record (new_rule (codes "partition")) { long = Some (codes "partition") }

abbrev pub steps_rule : Rule
steps_rule = record (new_rule (codes "steps")) { long = Some (codes "steps"); action = Some SetTrue }

abbrev pub app : Action → App
app action.Decompose = with_rule (with_rule (with_rule (with_rule (new_app (codes "decompose")) (new_rule (codes "spec"))) workers_rule) partition_rule) steps_rule
app action.Measure = with_rule (with_rule (new_app (codes "measure")) (new_rule (codes "count"))) workers_rule

abbrev pub shape : Action → Shape
shape what = (built (app what)).top

abbrev pub rules : Action → List Rule
rules what = (shape what).rules

pub is_simple-app : (what : Action) → is_simple (app what) ≡ true
unfolding clap_on_literals
is_simple-app action.Decompose = refl
is_simple-app action.Measure = refl

-- ---- where the walk stands

abbrev pub Pending : Type 0
Pending = Option (Text × List Text)

abbrev place : Action → List Use → ℕ
place what us = cond (is_used (positional_id what) us) 2 1

abbrev held : Pending → List Row → Held
held p r = record { rows = r; pending = p; skip = 0 }

abbrev pub standing : Action → Pending → List Row → Waiting → List Use → Walk
standing what p r waiting us = record { held = held p r; waiting = waiting; position = place what us; is_trailing = false; stopped = None }

pub record Idle (what : Action) (us : List Use) (p : Pending) (r : List Row) : Type 0 where
  pub settles : settle_passes (rules what) false (held p r) ≡ true
  pub rows : settled_rows (rules what) p r ≡ rows_for us

abbrev pub Stage : Action → Option Argument → List Use → Walk → Type 0
Stage what None us w = (p : Pending) × (r : List Row) × (w ≡ standing what p r idle us) × Idle what us p r
Stage what (Some name) us w = w ≡ standing what (Some (id_in what name, [])) (rows_for us) (option (id_in what name)) us

-- a turn passes, and leaves the walk at that stage
abbrev Turns : Action → Option Argument → List Use → Walk → Text → Type 0
Turns what wait us w word = (turn_passes (shape what) [] w word ≡ true) × Stage what wait us (walked (rules what) [] w word)

pub settled_idle : (what : Action) (us : List Use) → Idle what us None (rows_for us)
settled_idle what us = record { settles = refl; rows = refl }

-- ---- single words

place-other : (what : Action) (id v : Text) (us : List Use) → bytes_eq id (positional_id what) ≡ false → place what (us ++ (id, v) ∷ []) ≡ place what us
place-other what id v us e = ap (λ b. cond b 2 1) (list_any-append (λ (u : Use). bytes_eq u.0 (positional_id what)) us ((id, v) ∷ []) ∙ ap (λ b. is_used (positional_id what) us || (b || false)) e ∙ or_none (is_used (positional_id what) us))

place-positional : (what : Action) (v : Text) (us : List Use) → bytes_eq (positional_id what) (positional_id what) ≡ true → place what (us ++ (positional_id what, v) ∷ []) ≡ 2
place-positional what v us e = ap (λ b. cond b 2 1) (list_any-append (λ (u : Use). bytes_eq u.0 (positional_id what)) us ((positional_id what, v) ∷ []) ∙ ap (λ b. is_used (positional_id what) us || (b || false)) e ∙ or_true (is_used (positional_id what) us))

abbrev d : Action
d = action.Decompose

abbrev m : Action
m = action.Measure

-- `--steps`

flag-passes : (us : List Use) (p : Pending) (r : List Row) → Idle d us p r → is_used (codes "steps") us ≡ false → turn_passes (shape d) [] (standing d p r idle us) (codes "--steps") ≡ true
unfolding clap_on_literals
flag-passes us p r is e = rw (is.settles, is.rows, no_row (codes "steps") us e) refl

flag-stands : (us : List Use) (p : Pending) (r : List Row) → Idle d us p r → is_used (codes "steps") us ≡ false
    → walked (rules d) [] (standing d p r idle us) (codes "--steps") ≡ standing d None (rows_for (us ++ (codes "steps", codes "true") ∷ [])) idle (us ++ (codes "steps", codes "true") ∷ [])
unfolding clap_on_literals
flag-stands us p r is e = rw (is.rows, added (codes "steps") (codes "true") us e, place-other d (codes "steps") (codes "true") us refl) refl

-- `--workers=N`

workers_has-passes : (what : Action) (v : Text) (us : List Use) (p : Pending) (r : List Row) → Idle what us p r → is_used (codes "workers") us ≡ false → turn_passes (shape what) [] (standing what p r idle us) (codes "--workers=" ++ v) ≡ true
unfolding clap_on_literals
workers_has-passes action.Decompose v us p r is e = rw (is.settles, is.rows, no_row (codes "workers") us e) refl
workers_has-passes action.Measure v us p r is e = rw (is.settles, is.rows, no_row (codes "workers") us e) refl

workers_has-stands : (what : Action) (v : Text) (us : List Use) (p : Pending) (r : List Row) → Idle what us p r → is_used (codes "workers") us ≡ false
    → walked (rules what) [] (standing what p r idle us) (codes "--workers=" ++ v) ≡ standing what None (rows_for (us ++ (codes "workers", v) ∷ [])) idle (us ++ (codes "workers", v) ∷ [])
unfolding clap_on_literals
workers_has-stands action.Decompose v us p r is e = rw (is.rows, added (codes "workers") v us e, place-other d (codes "workers") v us refl) refl
workers_has-stands action.Measure v us p r is e = rw (is.rows, added (codes "workers") v us e, place-other m (codes "workers") v us refl) refl

-- `--workers N`

workers_asks-passes : (what : Action) (us : List Use) (p : Pending) (r : List Row) → Idle what us p r → turn_passes (shape what) [] (standing what p r idle us) (codes "--workers") ≡ true
unfolding clap_on_literals
workers_asks-passes action.Decompose us p r is = rw (is.settles) refl
workers_asks-passes action.Measure us p r is = rw (is.settles) refl

workers_asks-stands : (what : Action) (us : List Use) (p : Pending) (r : List Row) → Idle what us p r
    → walked (rules what) [] (standing what p r idle us) (codes "--workers") ≡ standing what (Some (codes "workers", [])) (rows_for us) (option (codes "workers")) us
unfolding clap_on_literals
workers_asks-stands action.Decompose us p r is = rw (is.rows) refl
workers_asks-stands action.Measure us p r is = rw (is.rows) refl

workers_value-passes : (what : Action) (w : Text) (us : List Use) → IsPlain w → turn_passes (shape what) [] (standing what (Some (codes "workers", [])) (rows_for us) (option (codes "workers")) us) w ≡ true
unfolding clap_on_literals
workers_value-passes action.Decompose w us plain = rw (plain.no_dashes, plain.no_long, plain.no_short) refl
workers_value-passes action.Measure w us plain = rw (plain.no_dashes, plain.no_long, plain.no_short) refl

workers_value-stands : (what : Action) (w : Text) (us : List Use) → IsPlain w
    → walked (rules what) [] (standing what (Some (codes "workers", [])) (rows_for us) (option (codes "workers")) us) w ≡ standing what (Some (codes "workers", w ∷ [])) (rows_for us) idle (us ++ (codes "workers", w) ∷ [])
unfolding clap_on_literals
workers_value-stands action.Decompose w us plain = rw (plain.no_dashes, plain.no_long, plain.no_short, place-other d (codes "workers") w us refl) refl
workers_value-stands action.Measure w us plain = rw (plain.no_dashes, plain.no_long, plain.no_short, place-other m (codes "workers") w us refl) refl

workers-idle : (what : Action) (v : Text) (us : List Use) → is_used (codes "workers") us ≡ false → Idle what (us ++ (codes "workers", v) ∷ []) (Some (codes "workers", v ∷ [])) (rows_for us)
workers-idle action.Decompose v us e = record { settles = rw (no_row (codes "workers") us e) refl; rows = added (codes "workers") v us e }
workers-idle action.Measure v us e = record { settles = rw (no_row (codes "workers") us e) refl; rows = added (codes "workers") v us e }

-- `--partition=FILE`

partition_has-passes : (v : Text) (us : List Use) (p : Pending) (r : List Row) → Idle d us p r → is_used (codes "partition") us ≡ false → turn_passes (shape d) [] (standing d p r idle us) (codes "--partition=" ++ v) ≡ true
unfolding clap_on_literals
partition_has-passes v us p r is e = rw (is.settles, is.rows, no_row (codes "partition") us e) refl

partition_has-stands : (v : Text) (us : List Use) (p : Pending) (r : List Row) → Idle d us p r → is_used (codes "partition") us ≡ false
    → walked (rules d) [] (standing d p r idle us) (codes "--partition=" ++ v) ≡ standing d None (rows_for (us ++ (codes "partition", v) ∷ [])) idle (us ++ (codes "partition", v) ∷ [])
unfolding clap_on_literals
partition_has-stands v us p r is e = rw (is.rows, added (codes "partition") v us e, place-other d (codes "partition") v us refl) refl

-- `--partition FILE`

partition_asks-passes : (us : List Use) (p : Pending) (r : List Row) → Idle d us p r → turn_passes (shape d) [] (standing d p r idle us) (codes "--partition") ≡ true
unfolding clap_on_literals
partition_asks-passes us p r is = rw (is.settles) refl

partition_asks-stands : (us : List Use) (p : Pending) (r : List Row) → Idle d us p r
    → walked (rules d) [] (standing d p r idle us) (codes "--partition") ≡ standing d (Some (codes "partition", [])) (rows_for us) (option (codes "partition")) us
unfolding clap_on_literals
partition_asks-stands us p r is = rw (is.rows) refl

partition_value-passes : (w : Text) (us : List Use) → IsPlain w → turn_passes (shape d) [] (standing d (Some (codes "partition", [])) (rows_for us) (option (codes "partition")) us) w ≡ true
unfolding clap_on_literals
partition_value-passes w us plain = rw (plain.no_dashes, plain.no_long, plain.no_short) refl

partition_value-stands : (w : Text) (us : List Use) → IsPlain w
    → walked (rules d) [] (standing d (Some (codes "partition", [])) (rows_for us) (option (codes "partition")) us) w ≡ standing d (Some (codes "partition", w ∷ [])) (rows_for us) idle (us ++ (codes "partition", w) ∷ [])
unfolding clap_on_literals
partition_value-stands w us plain = rw (plain.no_dashes, plain.no_long, plain.no_short, place-other d (codes "partition") w us refl) refl

partition-idle : (v : Text) (us : List Use) → is_used (codes "partition") us ≡ false → Idle d (us ++ (codes "partition", v) ∷ []) (Some (codes "partition", v ∷ [])) (rows_for us)
partition-idle v us e = record { settles = rw (no_row (codes "partition") us e) refl; rows = added (codes "partition") v us e }

-- a word that is no option's

word-passes : (what : Action) (w : Text) (us : List Use) (p : Pending) (r : List Row) → Idle what us p r → is_used (positional_id what) us ≡ false → IsPlain w → turn_passes (shape what) [] (standing what p r idle us) w ≡ true
unfolding clap_on_literals
word-passes action.Decompose w us p r is e plain = rw (plain.no_dashes, plain.no_long, plain.no_short, e, and_false (is_pending (new_rule (codes "spec")) p), is.settles) refl
word-passes action.Measure w us p r is e plain = rw (plain.no_dashes, plain.no_long, plain.no_short, e, and_false (is_pending (new_rule (codes "count")) p), is.settles) refl

word-stands : (what : Action) (w : Text) (us : List Use) (p : Pending) (r : List Row) → Idle what us p r → is_used (positional_id what) us ≡ false → IsPlain w
    → walked (rules what) [] (standing what p r idle us) w ≡ standing what (Some (positional_id what, w ∷ [])) (rows_for us) idle (us ++ (positional_id what, w) ∷ [])
unfolding clap_on_literals
word-stands action.Decompose w us p r is e plain = rw (plain.no_dashes, plain.no_long, plain.no_short, e, and_false (is_pending (new_rule (codes "spec")) p), is.rows, place-positional d w us refl) refl
word-stands action.Measure w us p r is e plain = rw (plain.no_dashes, plain.no_long, plain.no_short, e, and_false (is_pending (new_rule (codes "count")) p), is.rows, place-positional m w us refl) refl

word-idle : (what : Action) (v : Text) (us : List Use) → is_used (positional_id what) us ≡ false → Idle what (us ++ (positional_id what, v) ∷ []) (Some (positional_id what, v ∷ [])) (rows_for us)
word-idle action.Decompose v us e = record { settles = rw (no_row (codes "spec") us e) refl; rows = added (codes "spec") v us e }
word-idle action.Measure v us e = record { settles = rw (no_row (codes "count") us e) refl; rows = added (codes "count") v us e }

-- ---- what a word is

abbrev GivesIn : Argument → Text → Text → Type 0
GivesIn Positional v w = v ≡ w
GivesIn Workers v w = w ≡ codes "--workers=" ++ v
GivesIn Partition v w = w ≡ codes "--partition=" ++ v
GivesIn Steps v w = w ≡ codes "--steps"

abbrev AsksIn : Argument → Text → Type 0
AsksIn Positional w = ⊥
AsksIn Workers w = w ≡ codes "--workers"
AsksIn Partition w = w ≡ codes "--partition"
AsksIn Steps w = ⊥

abbrev Shape_of : WordKind → Text → Type 0
Shape_of (Gives name v) w = GivesIn name v w
Shape_of (Asks name) w = AsksIn name w
Shape_of Unknown w = Unit {0}

pick : (b : Bool) (x y : WordKind) (w : Text) → (b ≡ true → Shape_of x w) → Shape_of y w → Shape_of (cond b x y) w
pick true x y w f g = f refl
pick false x y w f g = g

pick-gives : (name : Argument) (o : Option Text) (next : WordKind) (w : Text) → ((v : Text) → o ≡ Some v → GivesIn name v w) → Shape_of next w → Shape_of (or_gives name o next) w
pick-gives name None next w f g = g
pick-gives name (Some v) next w f g = f v refl

word-shape : (w : Text) → Shape_of (word_kind w) w
word-shape w =
    let plain = cond (begins_with_dash w) Unknown (Gives Positional w) in
    let with_partition = or_gives Partition (after_prefix (codes "--partition=") w) plain in
    let with_workers = or_gives Workers (after_prefix (codes "--workers=") w) with_partition in
    let asks_partition = cond (bytes_eq w (codes "--partition")) (Asks Partition) with_workers in
    let asks_workers = cond (bytes_eq w (codes "--workers")) (Asks Workers) asks_partition in
    pick (bytes_eq w (codes "--steps")) (Gives Steps []) asks_workers w (λ e. (bytes_eq-Decides w (codes "--steps")).0 e)
    (pick (bytes_eq w (codes "--workers")) (Asks Workers) asks_partition w (λ e. (bytes_eq-Decides w (codes "--workers")).0 e)
    (pick (bytes_eq w (codes "--partition")) (Asks Partition) with_workers w (λ e. (bytes_eq-Decides w (codes "--partition")).0 e)
    (pick-gives Workers (after_prefix (codes "--workers=") w) with_partition w (λ v e. after_is (codes "--workers=") w v e)
    (pick-gives Partition (after_prefix (codes "--partition=") w) plain w (λ v e. after_is (codes "--partition=") w v e)
    (pick (begins_with_dash w) Unknown (Gives Positional w) w (λ e. tt) refl)))))

-- ---- allowed values are no flags

number-file : (w : Text) → begins_number w ≡ true → is_file_word w ≡ true
number-file [] e = e
number-file (c ∷ cs) e = by (nat_le 49 c) refl e (c == 45) refl
  where
    by : (b : Bool) → nat_le 49 c ≡ b → (b && nat_le c 57) ≡ true → (q : Bool) → (c == 45) ≡ q → not q ≡ true
    by true h e true p = absurd (omega (arith, leb-true 49 c h, eqb-true c 45 p))
    by true h e false p = refl
    by false h e q p = absurd (true≢false (sym e))

number-begins : (most : ℕ) (w : Text) → is_some (number_up_to most w) ≡ true → begins_number w ≡ true
number-begins most w e = by (begins_number w) (list_all is_digit w) (nat_le (digits_value 10 w) most) e
  where
    by : (a b q : Bool) → is_some (cond ((a && b) && q) (Some (digits_value 10 w)) None) ≡ true → a ≡ true
    by true b q e = refl
    by false b q e = absurd (true≢false (sym e))

pub number-plain : (most : ℕ) (w : Text) → is_some (number_up_to most w) ≡ true → IsPlain w
number-plain most w e = file-plain w (number-file w (number-begins most w e))

-- ---- turns

move_to : (what : Action) (wait : Option Argument) (us : List Use) (seen word : Text) (w at : Walk) → word ≡ seen → w ≡ at → Turns what wait us at seen → Turns what wait us w word
move_to what wait us seen word w at e f t = subst (λ x. Turns what wait us w x) (sym e) (subst (λ x. Turns what wait us x seen) (sym f) t)

abbrev after_use : Action → Argument → Text → List Use → List Use
after_use what name v us = us ++ use_in what (name, v) ∷ []

-- a word that gives a value
turn-gives : (what : Action) (name : Argument) (v word : Text) (us : List Use) (w : Walk) → GivesIn name v word → allows what name v ≡ true → is_used (id_in what name) us ≡ false → Stage what None us w → Turns what None (after_use what name v us) w word
turn-gives action.Decompose Positional v word us w is good new s =
    let plain = file-plain v good in
    move_to d None (after_use d Positional v us) v word w (standing d s.0 s.1 idle us) (sym is) s.2
    (word-passes d v us s.0 s.1 s.3 new plain, (Some (codes "spec", v ∷ []), rows_for us, word-stands d v us s.0 s.1 s.3 new plain, word-idle d v us new))
turn-gives action.Measure Positional v word us w is good new s =
    let plain = number-plain 248 v good in
    move_to m None (after_use m Positional v us) v word w (standing m s.0 s.1 idle us) (sym is) s.2
    (word-passes m v us s.0 s.1 s.3 new plain, (Some (codes "count", v ∷ []), rows_for us, word-stands m v us s.0 s.1 s.3 new plain, word-idle m v us new))
turn-gives what Workers v word us w is good new s =
    move_to what None (after_use what Workers v us) (codes "--workers=" ++ v) word w (standing what s.0 s.1 idle us) is s.2
    (workers_has-passes what v us s.0 s.1 s.3 new, (None, rows_for (after_use what Workers v us), workers_has-stands what v us s.0 s.1 s.3 new, settled_idle what (after_use what Workers v us)))
turn-gives action.Decompose Partition v word us w is good new s =
    move_to d None (after_use d Partition v us) (codes "--partition=" ++ v) word w (standing d s.0 s.1 idle us) is s.2
    (partition_has-passes v us s.0 s.1 s.3 new, (None, rows_for (after_use d Partition v us), partition_has-stands v us s.0 s.1 s.3 new, settled_idle d (after_use d Partition v us)))
turn-gives action.Measure Partition v word us w is good new s = absurd (true≢false (sym good))
turn-gives action.Decompose Steps v word us w is good new s =
    move_to d None (after_use d Steps v us) (codes "--steps") word w (standing d s.0 s.1 idle us) is s.2
    (flag-passes us s.0 s.1 s.3 new, (None, rows_for (after_use d Steps v us), flag-stands us s.0 s.1 s.3 new, settled_idle d (after_use d Steps v us)))
turn-gives action.Measure Steps v word us w is good new s = absurd (true≢false (sym good))

-- which options a command has
abbrev pub HasOption : Action → Argument → Type 0
HasOption what Positional = ⊥
HasOption what Workers = Unit {0}
HasOption action.Decompose Partition = Unit {0}
HasOption action.Measure Partition = ⊥
HasOption what Steps = ⊥

-- an option whose value is the next word
turn-asks : (what : Action) (name : Argument) (word : Text) (us : List Use) (w : Walk) → HasOption what name → AsksIn name word → Stage what None us w → Turns what (Some name) us w word
turn-asks what Positional word us w offered is s = absurd is
turn-asks what Workers word us w offered is s =
    move_to what (Some Workers) us (codes "--workers") word w (standing what s.0 s.1 idle us) is s.2
    (workers_asks-passes what us s.0 s.1 s.3, workers_asks-stands what us s.0 s.1 s.3)
turn-asks action.Decompose Partition word us w offered is s =
    move_to d (Some Partition) us (codes "--partition") word w (standing d s.0 s.1 idle us) is s.2
    (partition_asks-passes us s.0 s.1 s.3, partition_asks-stands us s.0 s.1 s.3)
turn-asks action.Measure Partition word us w offered is s = absurd offered
turn-asks what Steps word us w offered is s = absurd is

-- the value that was asked for
turn-value : (what : Action) (name : Argument) (v : Text) (us : List Use) (w : Walk) → HasOption what name → allows what name v ≡ true → is_used (id_in what name) us ≡ false → Stage what (Some name) us w → Turns what None (after_use what name v us) w v
turn-value what Positional v us w offered good new s = absurd offered
turn-value action.Decompose Workers v us w offered good new s =
    let plain = number-plain 64 v good in
    move_to d None (after_use d Workers v us) v v w _ refl s
    (workers_value-passes d v us plain, (Some (codes "workers", v ∷ []), rows_for us, workers_value-stands d v us plain, workers-idle d v us new))
turn-value action.Measure Workers v us w offered good new s =
    let plain = number-plain 64 v good in
    move_to m None (after_use m Workers v us) v v w _ refl s
    (workers_value-passes m v us plain, (Some (codes "workers", v ∷ []), rows_for us, workers_value-stands m v us plain, workers-idle m v us new))
turn-value action.Decompose Partition v us w offered good new s =
    let plain = file-plain v good in
    move_to d None (after_use d Partition v us) v v w _ refl s
    (partition_value-passes v us plain, (Some (codes "partition", v ∷ []), rows_for us, partition_value-stands v us plain, partition-idle v us new))
turn-value action.Measure Partition v us w offered good new s = absurd offered
turn-value what Steps v us w offered good new s = absurd offered

-- ---- the walk over the words

abbrev pub Goal : Action → List Text → List Use → Walk → Type 0
Goal what ws fin w = (walk_passes (shape what) [] w ws ≡ true) × Stage what None fin (fold (walked (rules what) []) w ws)

-- the names that have their value are those that are used
abbrev pub Tracks : Action → Met → List Use → Type 0
Tracks what met us = (name : Argument) → is_used (id_in what name) us ≡ has met name

abbrev pub uses : Action → List Given → List Use
uses what gs = map (use_in what) gs

-- the option that waits is one of the command's
abbrev pub IsOffered : Action → Option Argument → Type 0
IsOffered what None = Unit {0}
IsOffered what (Some name) = HasOption what name

abbrev pub Later : Action → List Text → Type 0
Later what ws = (wait : Option Argument) → IsOffered what wait → (met : Met) (us : List Use) (gs : List Given) (w : Walk) → may_follow what ws (met, wait) ≡ true → given_in ws wait ≡ Some gs → Tracks what met us → Stage what wait us w → Goal what ws (us ++ uses what gs) w

has-with : (met : Met) (name other : Argument) → has (with_argument met name) other ≡ (has met other || is_same other name)
has-with met Positional Positional = sym (or_true met.positional)
has-with met Workers Workers = sym (or_true met.workers)
has-with met Partition Partition = sym (or_true met.partition)
has-with met Steps Steps = sym (or_true met.steps)
has-with met name other = sym (or_none (has met other))

tracks-more : (what : Action) (met : Met) (us : List Use) (name : Argument) (v : Text) → Tracks what met us → Tracks what (with_argument met name) (after_use what name v us)
tracks-more what met us name v tracks = λ other.
    list_any-append (λ (u : Use). bytes_eq u.0 (id_in what other)) us (use_in what (name, v) ∷ [])
    ∙ ap₂ (λ a b. a || (b || false)) (tracks other) (same-ids what name other)
    ∙ ap (λ b. has met other || b) (or_none (is_same other name))
    ∙ sym (has-with met name other)

-- one more value, where it may follow
record OneMore (what : Action) (met : Met) (name : Argument) (v : Text) (rest : PassPoint → Bool) : Type 0 where
  new : has met name ≡ false
  good : allows what name v ≡ true
  later : rest (with_argument met name, None) ≡ true

one-more : (what : Action) (met : Met) (name : Argument) (v : Text) (rest : PassPoint → Bool) → follow (point_at what met (Gives name v)) rest ≡ true → OneMore what met name v rest
one-more what met name v rest e = by (has met name) (allows what name v) refl refl e
  where
    by : (a b : Bool) → has met name ≡ a → allows what name v ≡ b → follow (option_map (λ (n : Met). (n, None)) (cond (a || not b) None (Some (with_argument met name)))) rest ≡ true → OneMore what met name v rest
    by true b p q e = absurd (true≢false (sym e))
    by false true p q e = record { new = p; good = q; later = e }
    by false false p q e = absurd (true≢false (sym e))

-- the value before the others
in_front : (g : Given) (o : Option (List Given)) (gs : List Given) → option_map (λ (more : List Given). g ∷ more) o ≡ Some gs → (more : List Given) × (o ≡ Some more) × (gs ≡ g ∷ more)
in_front g None gs e = absurd (none_some gs e)
in_front g (Some more) gs e = (more, refl, sym (some_same (g ∷ more) gs e))

join : (what : Action) (word : Text) (ws : List Text) (fin : List Use) (w : Walk) → turn_passes (shape what) [] w word ≡ true → Goal what ws fin (walked (rules what) [] w word) → Goal what (word ∷ ws) fin w
unfolding walk_passes
join what word ws fin w t g = (rw (t) g.0, g.1)

nil-passes : (what : Action) (w : Walk) → walk_passes (shape what) [] w [] ≡ true
unfolding walk_passes
nil-passes what w = refl

-- a value was given, and the words go on
step-gives : (what : Action) (name : Argument) (v word : Text) (ws : List Text) (met : Met) (us : List Use) (gs : List Given) (w : Walk)
    → ((good : allows what name v ≡ true) → (new : is_used (id_in what name) us ≡ false) → Turns what None (after_use what name v us) w word)
    → follow (point_at what met (Gives name v)) (may_follow what ws) ≡ true → option_map (λ (more : List Given). (name, v) ∷ more) (given_in ws None) ≡ Some gs
    → Tracks what met us → Later what ws → Goal what (word ∷ ws) (us ++ uses what gs) w
step-gives what name v word ws met us gs w turn e g tracks later =
    let o = one-more what met name v (may_follow what ws) e in
    let f = in_front (name, v) (given_in ws None) gs g in
    let t = turn o.good (tracks name ∙ o.new) in
    let us' : List Use = after_use what name v us in
    let after : Goal what ws (us' ++ uses what f.0) (walked (rules what) [] w word) = later None tt (with_argument met name) us' f.0 (walked (rules what) [] w word) o.later f.1 (tracks-more what met us name v tracks) t.1 in
    let ends : us' ++ uses what f.0 ≡ us ++ uses what gs = append_assoc us (use_in what (name, v) ∷ []) (uses what f.0) ∙ ap (λ (more : List Given). us ++ uses what more) (sym f.2) in
    join what word ws (us ++ uses what gs) w t.0 (subst (λ fin. Goal what ws fin (walked (rules what) [] w word)) ends after)

-- a command without the option gives it no value
offers : (what : Action) (name : Argument) (word : Text) (ws : List Text) (met : Met) → AsksIn name word → may_follow what ws (met, Some name) ≡ true → HasOption what name
offers what Positional word ws met is e = absurd is
offers what Workers word ws met is e = tt
offers action.Decompose Partition word ws met is e = tt
offers action.Measure Partition word [] met is e = absurd (true≢false (sym (sym (and_false met.positional) ∙ e)))
offers action.Measure Partition word (v ∷ ws) met is e =
    let o = one-more action.Measure met Partition v (may_follow action.Measure ws) e in
    absurd (true≢false (sym o.good))
offers what Steps word ws met is e = absurd is

at_none : (what : Action) (x : WordKind) (word : Text) (ws : List Text) (met : Met) (us : List Use) (gs : List Given) (w : Walk) → Shape_of x word
    → follow (point_at what met x) (may_follow what ws) ≡ true → at_word x (given_in ws) ≡ Some gs → Tracks what met us → Stage what None us w → Later what ws → Goal what (word ∷ ws) (us ++ uses what gs) w
at_none what (Gives name v) word ws met us gs w is e g tracks s later =
    step-gives what name v word ws met us gs w (λ good new. turn-gives what name v word us w is good new s) e g tracks later
at_none what (Asks name) word ws met us gs w is e g tracks s later =
    let offered = offers what name word ws met is e in
    let t = turn-asks what name word us w offered is s in
    join what word ws (us ++ uses what gs) w t.0 (later (Some name) offered met us gs (walked (rules what) [] w word) e g tracks t.1)
at_none what Unknown word ws met us gs w is e g tracks s later = absurd (none_some gs g)

pub takes-all : (what : Action) (ws : List Text) → Later what ws
takes-all what [] None offered met us gs w e g tracks s =
    (nil-passes what w, subst (λ (more : List Given). Stage what None (us ++ uses what more) w) (some_same [] gs g) (subst (λ fin. Stage what None fin w) (sym (append-nil us)) s))
takes-all what [] (Some name) offered met us gs w e g tracks s = absurd (none_some gs g)
takes-all what (word ∷ ws) None offered met us gs w e g tracks s = at_none what (word_kind word) word ws met us gs w (word-shape word) e g tracks s (takes-all what ws)
takes-all what (word ∷ ws) (Some name) offered met us gs w e g tracks s =
    step-gives what name word word ws met us gs w (λ good new. turn-value what name word us w offered good new s) e g tracks (takes-all what ws)
