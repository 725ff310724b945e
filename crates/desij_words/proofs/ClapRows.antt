-- The rows of `clap` for values that are given to names.
use Rattle.std.proofs.Common.{◌≡◌, Bool, true, false, not, ◌||◌, ◌==◌, true≢false, cond, List, [], ◌∷◌, ◌++◌, map, Option, None, Some, refl, sym, ap, ◌∙◌, subst, codes}
use Rattle.std.specs.List.{list_any}
use Rattle.std.specs.Str.{bytes_eq}
use Rattle.std.specs.Prelude.{find, filter, option_map, slice_get}
use Rattle.std.specs.Option.{option_and_then}
use Rattle.std.proofs.lemmas.Slice.Eq.{bytes_eq-Decides}
use Rattle.clap.specs.Words.{Row, first_of, one_of}
use Rattle.clap.specs.Walk.{has_row, with_values, without, more_values, row_text}
use Rattle.clap.specs.Lexer.{long_of, short_of, long_of_rest, short_of_rest, strip_byte}
use Rattle.clap.specs.declared.parser.matches.ValueSource.TheVariants.{CommandLine, DefaultValue}
use Rattle.clap.specs.declared.builder.value_parser.Reading.{Reading}
use Rattle.clap.specs.declared.builder.value_parser.Reading.TheVariants as reading
use Rattle.clap.proofs.WalkLemmas.{list_any-map, find-map}
use Rattle.desij_words.specs.declared.words.form.Action.{Action}
use Rattle.desij_words.specs.declared.words.form.Action.TheVariants as action
use Rattle.desij_words.specs.Words.{Text, Given, Argument, Positional, Workers, Partition, Steps, is_file_word, is_same, values_of}

-- a value that is used for an argument of that id
abbrev pub Use : Type 0
Use = Text × Text

-- the ids of the arguments
abbrev pub positional_id : Action → Text
positional_id action.Decompose = codes "spec"
positional_id action.Measure = codes "count"

abbrev pub id_in : Action → Argument → Text
id_in what Positional = positional_id what
id_in what Workers = codes "workers"
id_in what Partition = codes "partition"
id_in what Steps = codes "steps"

abbrev pub shown : Argument → Text → Text
shown Steps value = codes "true"
shown Positional value = value
shown Workers value = value
shown Partition value = value

abbrev pub use_in : Action → Given → Use
use_in what g = (id_in what g.0, shown g.0 g.1)

abbrev pub is_used : Text → List Use → Bool
is_used id us = list_any (λ (u : Use). bytes_eq u.0 id) us

-- the value that is used
abbrev pub value_of : Text → List Use → Option Text
value_of id us = option_map (λ (u : Use). u.1) (find (λ (u : Use). bytes_eq u.0 id) us)

-- ---- truth values

pub or_false : (a b : Bool) → (a || b) ≡ false → (a ≡ false) × (b ≡ false)
or_false true b e = absurd (true≢false e)
or_false false b e = (refl, e)

pub or_true : (a : Bool) → (a || true) ≡ true
or_true true = refl
or_true false = refl

pub or_none : (a : Bool) → (a || false) ≡ a
or_none true = refl
or_none false = refl

pub cond_same : {A : Type 0} (b : Bool) (x : A) → cond b x x ≡ x
cond_same true x = refl
cond_same false x = refl

-- ---- rows

abbrev pub row_for : Use → Row
row_for u = record { id = u.0; values = u.1 ∷ []; count = None; source = Some CommandLine; reading = reading.AsWritten }

abbrev pub rows_for : List Use → List Row
rows_for us = map row_for us

pub no_row : (id : Text) (us : List Use) → is_used id us ≡ false → has_row id (rows_for us) ≡ false
no_row id us e = sym (list_any-map (λ (r : Row). bytes_eq r.id id) row_for us) ∙ e

pub added : (id v : Text) (us : List Use) → is_used id us ≡ false
    → with_values id reading.AsWritten CommandLine (v ∷ []) (without id (rows_for us)) ≡ rows_for (us ++ (id, v) ∷ [])
added id v [] e = refl
added id v (u ∷ us) e =
    let parts = or_false (bytes_eq u.0 id) (is_used id us) e in
    rw (parts.0) (rw (parts.0) (ap (λ (rs : List Row). row_for u ∷ rs) (added id v us parts.1)))

-- ---- words that are no flags

pub record IsPlain (w : Text) : Type 0 where
  pub no_dashes : bytes_eq w (45 ∷ 45 ∷ []) ≡ false
  pub no_long : long_of w ≡ None
  pub no_short : short_of w ≡ None

not_true : (b : Bool) → not b ≡ true → b ≡ false
not_true true e = absurd (true≢false (sym e))
not_true false e = refl

pub file-plain : (w : Text) → is_file_word w ≡ true → IsPlain w
file-plain [] e = absurd (true≢false (sym e))
file-plain (c ∷ cs) e =
    let no_dash : (c == 45) ≡ false = not_true (c == 45) e in
    record {
      no_dashes = rw (no_dash) refl;
      no_long = ap (λ b. option_and_then long_of_rest (option_and_then (strip_byte 45) (cond b (Some cs) None))) no_dash;
      no_short = ap (λ b. option_and_then short_of_rest (cond b (Some cs) None)) no_dash;
    }

-- ---- the values of the rows

-- a default of another name changes no value
default_other : (id name : Text) (how : Reading) (vs : List Text) (rows : List Row) → bytes_eq name id ≡ false → first_of id (with_values name how DefaultValue vs rows) ≡ first_of id rows
default_other id name how vs [] e = rw (e) refl
default_other id name how vs (r ∷ rs) e = by (bytes_eq r.id name) refl (default_other id name how vs rs e)
  where
    same_id : bytes_eq r.id name ≡ true → bytes_eq r.id id ≡ false
    same_id t = subst (λ n. bytes_eq n id ≡ false) (sym ((bytes_eq-Decides r.id name).0 t)) e

    keep : (b : Bool) → first_of id (with_values name how DefaultValue vs rs) ≡ first_of id rs
        → option_and_then (λ (q : Row). slice_get q.values 0) (cond b (Some r) (find (λ (q : Row). bytes_eq q.id id) (with_values name how DefaultValue vs rs))) ≡ option_and_then (λ (q : Row). slice_get q.values 0) (cond b (Some r) (find (λ (q : Row). bytes_eq q.id id) rs))
    keep true rest = refl
    keep false rest = rest

    by : (b : Bool) → bytes_eq r.id name ≡ b → first_of id (with_values name how DefaultValue vs rs) ≡ first_of id rs
        → first_of id (cond b (more_values DefaultValue vs r ++ rs) (r ∷ with_values name how DefaultValue vs rs)) ≡ first_of id (r ∷ rs)
    by true t rest = rw (same_id t) refl
    by false t rest = keep (bytes_eq r.id id) rest

pub defaulted : (id name : Text) (b : Bool) (how : Reading) (vs : List Text) (rows : List Row) → bytes_eq name id ≡ false → first_of id (cond b rows (with_values name how DefaultValue vs rows)) ≡ first_of id rows
defaulted id name true how vs rows e = refl
defaulted id name false how vs rows e = default_other id name how vs rows e

pub value-found : (id : Text) (us : List Use) → first_of id (rows_for us) ≡ value_of id us
value-found id us = ap (option_and_then (λ (q : Row). slice_get q.values 0)) (sym (find-map (λ (q : Row). bytes_eq q.id id) row_for us)) ∙ by (find (λ (u : Use). bytes_eq u.0 id) us)
  where
    by : (o : Option Use) → option_and_then (λ (q : Row). slice_get q.values 0) (option_map row_for o) ≡ option_map (λ (u : Use). u.1) o
    by None = refl
    by (Some u) = refl

text-found : (id : Text) (us : List Use) → one_of id (rows_for us) ≡ value_of id us
text-found id us = ap (option_and_then row_text) (sym (find-map (λ (q : Row). bytes_eq q.id id) row_for us)) ∙ by (find (λ (u : Use). bytes_eq u.0 id) us)
  where
    by : (o : Option Use) → option_and_then row_text (option_map row_for o) ≡ option_map (λ (u : Use). u.1) o
    by None = refl
    by (Some u) = refl

-- the value, or that of the default
abbrev pub or_default : Text → Option Text → Option Text
or_default text None = Some text
or_default text (Some v) = Some v

default-found : (id text : Text) (us : List Use) → bytes_eq id id ≡ true → is_used id us ≡ false
    → one_of id (with_values id reading.AsWritten DefaultValue (text ∷ []) (rows_for us)) ≡ or_default text (value_of id us)
default-found id text [] same e = rw (same) refl
default-found id text (u ∷ us) same e =
    let parts = or_false (bytes_eq u.0 id) (is_used id us) e in
    rw (parts.0) (rw (parts.0) (default-found id text us same parts.1))

-- the value of a flag whose default is that text
pub flag-found : (id text : Text) (us : List Use) → bytes_eq id id ≡ true
    → one_of id (cond (has_row id (rows_for us)) (rows_for us) (with_values id reading.AsWritten DefaultValue (text ∷ []) (rows_for us))) ≡ or_default text (value_of id us)
flag-found id text us same = by (is_used id us) refl
  where
    used : (vs : List Use) → is_used id vs ≡ true → value_of id vs ≡ or_default text (value_of id vs)
    used [] e = absurd (true≢false (sym e))
    used (v ∷ vs) e = here (bytes_eq v.0 id) e (used vs)
      where
        here : (b : Bool) → (b || is_used id vs) ≡ true → (is_used id vs ≡ true → value_of id vs ≡ or_default text (value_of id vs))
            → option_map (λ (u : Use). u.1) (cond b (Some v) (find (λ (u : Use). bytes_eq u.0 id) vs)) ≡ or_default text (option_map (λ (u : Use). u.1) (cond b (Some v) (find (λ (u : Use). bytes_eq u.0 id) vs)))
        here true e later = refl
        here false e later = later e

    has : has_row id (rows_for us) ≡ is_used id us
    has = sym (list_any-map (λ (r : Row). bytes_eq r.id id) row_for us)

    by : (b : Bool) → is_used id us ≡ b
        → one_of id (cond (has_row id (rows_for us)) (rows_for us) (with_values id reading.AsWritten DefaultValue (text ∷ []) (rows_for us))) ≡ or_default text (value_of id us)
    by true e = rw (has ∙ e) (text-found id us ∙ used us e)
    by false e = rw (has ∙ e) (default-found id text us same e)

-- ---- the values of the names

pub same-ids : (what : Action) (a b : Argument) → bytes_eq (id_in what a) (id_in what b) ≡ is_same b a
same-ids action.Decompose Positional Positional = refl
same-ids action.Decompose Workers Workers = refl
same-ids action.Decompose Partition Partition = refl
same-ids action.Decompose Steps Steps = refl
same-ids action.Decompose a b = refl
same-ids action.Measure Positional Positional = refl
same-ids action.Measure Workers Workers = refl
same-ids action.Measure Partition Partition = refl
same-ids action.Measure Steps Steps = refl
same-ids action.Measure a b = refl

is_same-shown : (a b : Argument) (v : Text) → is_same b a ≡ true → shown a v ≡ shown b v
is_same-shown Positional Positional v e = refl
is_same-shown Workers Workers v e = refl
is_same-shown Partition Partition v e = refl
is_same-shown Steps Steps v e = refl
is_same-shown a b v e = absurd (true≢false (sym e))

abbrev pub first : List Text → Option Text
first [] = None
first (v ∷ vs) = Some v

-- what is used for the name is the first of its values
pub value-first : (what : Action) (name : Argument) (gs : List Given) → value_of (id_in what name) (map (use_in what) gs) ≡ option_map (shown name) (first (values_of name gs))
value-first what name [] = refl
value-first what name (g ∷ gs) = rw (same-ids what g.0 name) (by (is_same name g.0) refl (value-first what name gs))
  where
    by : (b : Bool) → is_same name g.0 ≡ b → value_of (id_in what name) (map (use_in what) gs) ≡ option_map (shown name) (first (values_of name gs))
        → option_map (λ (u : Use). u.1) (cond b (Some (use_in what g)) (find (λ (u : Use). bytes_eq u.0 (id_in what name)) (map (use_in what) gs))) ≡ option_map (shown name) (first (map (λ (g : Given). g.1) (cond b (g ∷ filter (λ (g : Given). is_same name g.0) gs) (filter (λ (g : Given). is_same name g.0) gs))))
    by true e later = ap Some (is_same-shown g.0 name g.1 e)
    by false e later = later
