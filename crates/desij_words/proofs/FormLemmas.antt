-- The pass over the words ends well on exactly those of the form.
use Rattle.std.proofs.Common.{◌≡◌, ◌∙◌, sym, ap, ap₂, subst, refl, Bool, true, false, not, cond, ◌&&◌, ◌||◌, true≢false, List, [], ◌∷◌, Option, None, Some, is_some, codes}
use Rattle.std.specs.Option.{option_map, option_and_then}
use Rattle.std.specs.Str.{bytes_eq}
use Rattle.std.proofs.lemmas.Slice.Eq.{bytes_eq-Decides}
use Rattle.desij_words.specs.declared.words.form.Action.{Action}
use Rattle.desij_words.specs.declared.words.form.Action.TheVariants as action
use Rattle.desij_words.specs.declared.words.form.Met.{Met}
use Rattle.desij_words.specs.Words.{Text, Command, Given, Argument, Positional, Workers, Partition, Steps, WordKind, Gives, Asks, Unknown, is_file_word, as_file, number_up_to, word_kind, at_word, given_in, values_of, nothing_given, spec_from, count_from, workers_from, partition_from, steps_from, decompose_of, measure_of, asked_in}
use Rattle.desij_words.specs.inner.Pass.{allows, has, nothing_met, with_argument, PassPoint, point_at, follow, may_follow, action_where, action_in}

-- ---- truth values

pub and_false : (a : Bool) → (a && false) ≡ false
and_false true = refl
and_false false = refl

pub and_true : (a : Bool) → (a && true) ≡ a
and_true true = refl
and_true false = refl

cond_false : (b : Bool) → cond b false false ≡ false
cond_false true = refl
cond_false false = refl

and_cond : (a b z : Bool) → (a && cond b false z) ≡ cond b false (a && z)
and_cond true b z = refl
and_cond false b z = sym (cond_false b)

-- ---- the values of a name

-- a name that may have a value has at most one, and none where it has one already
abbrev pub at_most_one : Bool → (Text → Bool) → List Text → Bool
at_most_one is_met fits [] = true
at_most_one is_met fits (v ∷ []) = not is_met && fits v
at_most_one is_met fits (v ∷ w ∷ more) = false

-- and one that needs a value has just one
abbrev pub just_one : Bool → (Text → Bool) → List Text → Bool
just_one is_met fits [] = is_met
just_one is_met fits (v ∷ []) = not is_met && fits v
just_one is_met fits (v ∷ w ∷ more) = false

at_most_one-more : (b : Bool) (f : Text → Bool) (v : Text) (vs : List Text) → at_most_one b f (v ∷ vs) ≡ ((not b && f v) && at_most_one true f vs)
at_most_one-more b f v [] = sym (and_true (not b && f v))
at_most_one-more b f v (w ∷ []) = sym (and_false (not b && f v))
at_most_one-more b f v (w ∷ x ∷ vs) = sym (and_false (not b && f v))

just_one-more : (b : Bool) (f : Text → Bool) (v : Text) (vs : List Text) → just_one b f (v ∷ vs) ≡ ((not b && f v) && just_one true f vs)
just_one-more b f v [] = sym (and_true (not b && f v))
just_one-more b f v (w ∷ []) = sym (and_false (not b && f v))
just_one-more b f v (w ∷ x ∷ vs) = sym (and_false (not b && f v))

-- the values that are given fit where these names have theirs
abbrev pub fine : Action → Met → List Given → Bool
fine what met gs =
    just_one met.positional (allows what Positional) (values_of Positional gs)
    && (at_most_one met.workers (allows what Workers) (values_of Workers gs)
    && (at_most_one met.partition (allows what Partition) (values_of Partition gs)
    && at_most_one met.steps (allows what Steps) (values_of Steps gs)))

abbrev pub fine_or_none : Action → Met → Option (List Given) → Bool
fine_or_none what met None = false
fine_or_none what met (Some gs) = fine what met gs

pull : (b f y r : Bool) → (((not b && f) && y) && r) ≡ cond (b || not f) false (y && r)
pull true f y r = refl
pull false true y r = refl
pull false false y r = refl

pull-last : (b f y : Bool) → ((not b && f) && y) ≡ cond (b || not f) false y
pull-last true f y = refl
pull-last false true y = refl
pull-last false false y = refl

-- one more value in front
fine-more : (what : Action) (met : Met) (name : Argument) (v : Text) (gs : List Given) → fine what met ((name, v) ∷ gs) ≡ cond (has met name || not (allows what name v)) false (fine what (with_argument met name) gs)
fine-more what met Positional v gs =
    let r = at_most_one met.workers (allows what Workers) (values_of Workers gs) && (at_most_one met.partition (allows what Partition) (values_of Partition gs) && at_most_one met.steps (allows what Steps) (values_of Steps gs)) in
    ap (λ b. b && r) (just_one-more met.positional (allows what Positional) v (values_of Positional gs))
    ∙ pull met.positional (allows what Positional v) (just_one true (allows what Positional) (values_of Positional gs)) r
fine-more what met Workers v gs =
    let a = just_one met.positional (allows what Positional) (values_of Positional gs) in
    let y = at_most_one true (allows what Workers) (values_of Workers gs) in
    let r = at_most_one met.partition (allows what Partition) (values_of Partition gs) && at_most_one met.steps (allows what Steps) (values_of Steps gs) in
    ap (λ b. a && (b && r)) (at_most_one-more met.workers (allows what Workers) v (values_of Workers gs))
    ∙ ap (λ b. a && b) (pull met.workers (allows what Workers v) y r)
    ∙ and_cond a (met.workers || not (allows what Workers v)) (y && r)
fine-more what met Partition v gs =
    let a = just_one met.positional (allows what Positional) (values_of Positional gs) in
    let b = at_most_one met.workers (allows what Workers) (values_of Workers gs) in
    let y = at_most_one true (allows what Partition) (values_of Partition gs) in
    let r = at_most_one met.steps (allows what Steps) (values_of Steps gs) in
    let is_refused = met.partition || not (allows what Partition v) in
    ap (λ x. a && (b && (x && r))) (at_most_one-more met.partition (allows what Partition) v (values_of Partition gs))
    ∙ ap (λ x. a && (b && x)) (pull met.partition (allows what Partition v) y r)
    ∙ ap (λ x. a && x) (and_cond b is_refused (y && r))
    ∙ and_cond a is_refused (b && (y && r))
fine-more what met Steps v gs =
    let a = just_one met.positional (allows what Positional) (values_of Positional gs) in
    let b = at_most_one met.workers (allows what Workers) (values_of Workers gs) in
    let d = at_most_one met.partition (allows what Partition) (values_of Partition gs) in
    let y = at_most_one true (allows what Steps) (values_of Steps gs) in
    let is_refused = met.steps || not (allows what Steps v) in
    ap (λ x. a && (b && (d && x))) (at_most_one-more met.steps (allows what Steps) v (values_of Steps gs) ∙ pull-last met.steps (allows what Steps v) y)
    ∙ ap (λ x. a && (b && x)) (and_cond d is_refused y)
    ∙ ap (λ x. a && x) (and_cond b is_refused (d && y))
    ∙ and_cond a is_refused (b && (d && y))

-- ---- the pass

gives-follow : (what : Action) (met : Met) (name : Argument) (v : Text) (o : Option (List Given)) (rest : PassPoint → Bool) → ((m : Met) → rest (m, None) ≡ fine_or_none what m o)
    → follow (point_at what met (Gives name v)) rest ≡ fine_or_none what met (option_map (λ (gs : List Given). (name, v) ∷ gs) o)
gives-follow what met name v o rest later = by (has met name || not (allows what name v)) o later ∙ whole o
  where
    by : (b : Bool) (o : Option (List Given)) → ((m : Met) → rest (m, None) ≡ fine_or_none what m o)
        → follow (option_map (λ (m : Met). (m, None)) (cond b None (Some (with_argument met name)))) rest ≡ cond b false (fine_or_none what (with_argument met name) o)
    by true o later = refl
    by false o later = later (with_argument met name)

    whole : (o : Option (List Given)) → cond (has met name || not (allows what name v)) false (fine_or_none what (with_argument met name) o) ≡ fine_or_none what met (option_map (λ (gs : List Given). (name, v) ∷ gs) o)
    whole None = cond_false (has met name || not (allows what name v))
    whole (Some gs) = sym (fine-more what met name v gs)

word-follow : (what : Action) (met : Met) (x : WordKind) (rest : PassPoint → Bool) (later : Option Argument → Option (List Given)) → ((m : Met) (name : Option Argument) → rest (m, name) ≡ fine_or_none what m (later name))
    → follow (point_at what met x) rest ≡ fine_or_none what met (at_word x later)
word-follow what met (Gives name v) rest later same = gives-follow what met name v (later None) rest (λ m. same m None)
word-follow what met (Asks name) rest later same = same met (Some name)
word-follow what met Unknown rest later same = refl

-- the words may follow exactly where the values that they give fit
pub may_follow-fine : (what : Action) (words : List Text) (met : Met) (name : Option Argument) → may_follow what words (met, name) ≡ fine_or_none what met (given_in words name)
may_follow-fine what [] met None = refl
may_follow-fine what [] met (Some name) = and_false met.positional
may_follow-fine what (word ∷ words) met None = word-follow what met (word_kind word) (may_follow what words) (given_in words) (λ m name. may_follow-fine what words m name)
may_follow-fine what (word ∷ words) met (Some name) = gives-follow what met name word (given_in words None) (may_follow what words) (λ m. may_follow-fine what words m None)

-- ---- the commands

and_then-some : {A B : Type 0} (o : Option A) (f : A → Option B) (b c : Bool) → is_some o ≡ b → ((x : A) → is_some (f x) ≡ c) → is_some (option_and_then f o) ≡ (b && c)
and_then-some None f b c e h = subst (λ x. false ≡ (x && c)) e refl
and_then-some (Some x) f b c e h = subst (λ y. is_some (f x) ≡ (y && c)) e (h x)

file-some : (w : Text) → is_some (as_file w) ≡ is_file_word w
file-some w = by (is_file_word w)
  where
    by : (b : Bool) → is_some (cond b (Some w) None) ≡ b
    by true = refl
    by false = refl

map-some : {A B : Type 0} (f : A → B) (o : Option A) → is_some (option_map f o) ≡ is_some o
map-some f None = refl
map-some f (Some x) = refl

spec-some : (vs : List Text) → is_some (spec_from vs) ≡ just_one false is_file_word vs
spec-some [] = refl
spec-some (v ∷ []) = file-some v
spec-some (v ∷ w ∷ vs) = refl

count-some : (vs : List Text) → is_some (count_from vs) ≡ just_one false (λ v. is_some (number_up_to 248 v)) vs
count-some [] = refl
count-some (v ∷ []) = refl
count-some (v ∷ w ∷ vs) = refl

workers-some : (vs : List Text) → is_some (workers_from vs) ≡ at_most_one false (λ v. is_some (number_up_to 64 v)) vs
workers-some [] = refl
workers-some (v ∷ []) = refl
workers-some (v ∷ w ∷ vs) = refl

partition-some : (vs : List Text) → is_some (partition_from vs) ≡ at_most_one false is_file_word vs
partition-some [] = refl
partition-some (v ∷ []) = map-some Some (as_file v) ∙ file-some v
partition-some (v ∷ w ∷ vs) = refl

steps-some : (vs : List Text) → is_some (steps_from vs) ≡ at_most_one false (λ v. true) vs
steps-some [] = refl
steps-some (v ∷ []) = refl
steps-some (v ∷ w ∷ vs) = refl

none-empty : (vs : List Text) → nothing_given vs ≡ at_most_one false (λ v. false) vs
none-empty [] = refl
none-empty (v ∷ []) = refl
none-empty (v ∷ w ∷ vs) = refl

pub decompose-fine : (gs : List Given) → is_some (decompose_of gs) ≡ fine action.Decompose nothing_met gs
decompose-fine gs =
    let steps_fit = at_most_one false (allows action.Decompose Steps) (values_of Steps gs) in
    let partition_fits = at_most_one false (allows action.Decompose Partition) (values_of Partition gs) in
    let workers_fit = at_most_one false (allows action.Decompose Workers) (values_of Workers gs) in
    let spec_fits = just_one false (allows action.Decompose Positional) (values_of Positional gs) in
    and_then-some (spec_from (values_of Positional gs)) _ spec_fits (workers_fit && (partition_fits && (steps_fit && true))) (spec-some (values_of Positional gs)) (λ spec.
    and_then-some (workers_from (values_of Workers gs)) _ workers_fit (partition_fits && (steps_fit && true)) (workers-some (values_of Workers gs)) (λ workers.
    and_then-some (partition_from (values_of Partition gs)) _ partition_fits (steps_fit && true) (partition-some (values_of Partition gs)) (λ partition.
    and_then-some (steps_from (values_of Steps gs)) _ steps_fit true (steps-some (values_of Steps gs)) (λ steps. refl))))
    ∙ ap (λ b. spec_fits && (workers_fit && (partition_fits && b))) (and_true steps_fit)

guarded : {A : Type 0} (t s p w : Bool) (o : Option A) → is_some o ≡ (p && (w && true)) → is_some (cond (t && s) o None) ≡ (p && (w && (t && s)))
guarded true true p w o e = e
guarded true false p w o e = sym (ap (λ b. p && b) (and_false w) ∙ and_false p)
guarded false s p w o e = sym (ap (λ b. p && b) (and_false w) ∙ and_false p)

pub measure-fine : (gs : List Given) → is_some (measure_of gs) ≡ fine action.Measure nothing_met gs
measure-fine gs =
    let steps_fit = at_most_one false (allows action.Measure Steps) (values_of Steps gs) in
    let partition_fits = at_most_one false (allows action.Measure Partition) (values_of Partition gs) in
    let workers_fit = at_most_one false (allows action.Measure Workers) (values_of Workers gs) in
    let count_fits = just_one false (allows action.Measure Positional) (values_of Positional gs) in
    guarded (nothing_given (values_of Partition gs)) (nothing_given (values_of Steps gs)) count_fits workers_fit _
    (and_then-some (count_from (values_of Positional gs)) _ count_fits (workers_fit && true) (count-some (values_of Positional gs)) (λ count.
    and_then-some (workers_from (values_of Workers gs)) _ workers_fit true (workers-some (values_of Workers gs)) (λ workers. refl)))
    ∙ ap₂ (λ t s. count_fits && (workers_fit && (t && s))) (none-empty (values_of Partition gs)) (none-empty (values_of Steps gs))

-- ---- the first word

-- the words after the first give these values, which make this command
pub record AsksFor (of_values : List Given → Option Command) (name : Text) (words : List Text) : Type 0 where
  pub rest : List Text
  pub gs : List Given
  pub command : Command
  pub first : words ≡ name ∷ rest
  pub gives : given_in rest None ≡ Some gs
  pub made : of_values gs ≡ Some command

of_some : {A : Type 0} (o : Option A) → is_some o ≡ true → (x : A) × (o ≡ Some x)
of_some None e = absurd (true≢false (sym e))
of_some (Some x) e = (x, refl)

abbrev pub IsMadeBy : Action → (List Given → Option Command) → Type 0
IsMadeBy what of_values = (gs : List Given) → is_some (of_values gs) ≡ fine what nothing_met gs

made-some : (what : Action) (of_values : List Given → Option Command) → IsMadeBy what of_values → (o : Option (List Given)) → is_some (option_and_then of_values o) ≡ fine_or_none what nothing_met o
made-some what of_values same None = refl
made-some what of_values same (Some gs) = same gs

pub asked-some : (what : Action) (of_values : List Given → Option Command) → IsMadeBy what of_values → (words : List Text) → is_some (option_and_then of_values (given_in words None)) ≡ may_follow what words (nothing_met, None)
asked-some what of_values same words = made-some what of_values same (given_in words None) ∙ sym (may_follow-fine what words nothing_met None)

asks : (of_values : List Given → Option Command) (name first : Text) (rest : List Text) → first ≡ name → is_some (option_and_then of_values (given_in rest None)) ≡ true → AsksFor of_values name (first ∷ rest)
asks of_values name first rest e h = by (given_in rest None) refl h
  where
    by : (o : Option (List Given)) → given_in rest None ≡ o → is_some (option_and_then of_values o) ≡ true → AsksFor of_values name (first ∷ rest)
    by None g h = absurd (true≢false (sym h))
    by (Some gs) g h =
        let made = of_some (of_values gs) h in
        record { rest = rest; gs = gs; command = made.0; first = ap (λ (w : Text). w ∷ rest) e; gives = g; made = made.1 }

is_none : {A : Type 0} (o : Option A) → is_some o ≡ false → o ≡ None
is_none None e = refl
is_none (Some x) e = absurd (true≢false e)

-- what the pass says of the words
abbrev pub Tells : List Text → Option Action → Type 0
Tells words None = asked_in words ≡ None
Tells words (Some action.Decompose) = AsksFor decompose_of (codes "decompose") words
Tells words (Some action.Measure) = AsksFor measure_of (codes "measure") words

pub action_in-tells : (words : List Text) → Tells words (action_in words)
action_in-tells [] = refl
action_in-tells (first ∷ rest) = by (bytes_eq first (codes "decompose")) (bytes_eq first (codes "measure")) refl refl
  where
    chosen : Bool → Bool → Option Command
    chosen d m = cond d (option_and_then decompose_of (given_in rest None)) (cond m (option_and_then measure_of (given_in rest None)) None)

    decomposes : (b : Bool) → is_some (option_and_then decompose_of (given_in rest None)) ≡ b → bytes_eq first (codes "decompose") ≡ true → Tells (first ∷ rest) (action_where b action.Decompose)
    decomposes true e d = asks decompose_of (codes "decompose") first rest ((bytes_eq-Decides first (codes "decompose")).0 d) e
    decomposes false e d = rw (d) (is_none (option_and_then decompose_of (given_in rest None)) e)

    measures : (b : Bool) → is_some (option_and_then measure_of (given_in rest None)) ≡ b → bytes_eq first (codes "decompose") ≡ false → bytes_eq first (codes "measure") ≡ true → Tells (first ∷ rest) (action_where b action.Measure)
    measures true e d m = asks measure_of (codes "measure") first rest ((bytes_eq-Decides first (codes "measure")).0 m) e
    measures false e d m = rw (d, m) (is_none (option_and_then measure_of (given_in rest None)) e)

    by : (d m : Bool) → bytes_eq first (codes "decompose") ≡ d → bytes_eq first (codes "measure") ≡ m
        → Tells (first ∷ rest) (cond d (action_where (may_follow action.Decompose rest (nothing_met, None)) action.Decompose) (cond m (action_where (may_follow action.Measure rest (nothing_met, None)) action.Measure) None))
    by true m p q = decomposes (may_follow action.Decompose rest (nothing_met, None)) (asked-some action.Decompose decompose_of decompose-fine rest) p
    by false true p q = measures (may_follow action.Measure rest (nothing_met, None)) (asked-some action.Measure measure_of measure-fine rest) p q
    by false false p q = rw (p, q) refl
