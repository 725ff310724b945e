-- What `clap` makes of the words of a run that serves.
use Rattle.std.proofs.Common.{◌≡◌, ◌∙◌, sym, ap, refl, subst, ℕ, Bool, true, false, cond, true≢false, List, [], ◌∷◌, ◌++◌, Option, None, Some, IsSome, is_some, codes}
use Rattle.std.specs.Option.{IsSomeAnd, option_and_then, option_or}
use Rattle.std.specs.Str.{bytes_eq}
use Rattle.std.proofs.lemmas.Slice.Eq.{bytes_eq-Decides}
use Rattle.clap.specs.Words.{App, Row, Rule, first_of, first_value, matches_of, new_app, new_rule, rows_of, takes, with_rule, is_simple}
use Rattle.clap.specs.declared.parser.matches.Found.{Found}
use Rattle.clap.proofs.OnLiterals.{clap_on_literals}
use Rattle.clap.proofs.WalkLemmas.{first_value-rows}
use Rattle.desij_words.specs.Words.{Text, after_prefix, is_file_word, number_up_to}
use Rattle.desij_words.specs.Serving.{FindsServing, Serving, serving_from, serving_with, with_joined, with_next, serving_after, serving_in}
use Rattle.desij_words.proofs.WordLemmas.{after_is, none_some, some_same}
use Rattle.desij_words.proofs.ClapRows.{IsPlain, Use, file-plain, rows_for}
use Rattle.desij_words.proofs.ClapWalks.{number-plain}
use Rattle.desij_words.proofs.ClapMatches.{and_then-is}

abbrev pub database_rule : Rule
database_rule = record (new_rule (codes "database")) { long = Some (codes "database") }

abbrev pub serve_app : App
serve_app = with_rule (with_rule (with_rule (new_app (codes "serve")) (new_rule (codes "addr"))) (new_rule (codes "count"))) database_rule

pub is_simple-serve : is_simple serve_app ≡ true
unfolding clap_on_literals
is_simple-serve = refl

-- ---- where the option stands

-- where the option stands, and whether its value is the next word
data Layout : Type 0 where
  Bare : Layout
  JoinedFirst : Layout
  JoinedSecond : Layout
  JoinedLast : Layout
  NextFirst : Layout
  NextSecond : Layout
  NextLast : Layout

abbrev words_in : Layout → Text → Text → Text → List Text
words_in Bare file addr count = addr ∷ count ∷ []
words_in JoinedFirst file addr count = (codes "--database=" ++ file) ∷ addr ∷ count ∷ []
words_in JoinedSecond file addr count = addr ∷ (codes "--database=" ++ file) ∷ count ∷ []
words_in JoinedLast file addr count = addr ∷ count ∷ (codes "--database=" ++ file) ∷ []
words_in NextFirst file addr count = codes "--database" ∷ file ∷ addr ∷ count ∷ []
words_in NextSecond file addr count = addr ∷ codes "--database" ∷ file ∷ count ∷ []
words_in NextLast file addr count = addr ∷ count ∷ codes "--database" ∷ file ∷ []

-- the values in the order in which they are used
abbrev used_in : Layout → Text → Text → Text → List Use
used_in Bare file addr count = (codes "addr", addr) ∷ (codes "count", count) ∷ []
used_in JoinedFirst file addr count = (codes "database", file) ∷ (codes "addr", addr) ∷ (codes "count", count) ∷ []
used_in JoinedSecond file addr count = (codes "addr", addr) ∷ (codes "database", file) ∷ (codes "count", count) ∷ []
used_in JoinedLast file addr count = (codes "addr", addr) ∷ (codes "count", count) ∷ (codes "database", file) ∷ []
used_in NextFirst file addr count = (codes "database", file) ∷ (codes "addr", addr) ∷ (codes "count", count) ∷ []
used_in NextSecond file addr count = (codes "addr", addr) ∷ (codes "database", file) ∷ (codes "count", count) ∷ []
used_in NextLast file addr count = (codes "addr", addr) ∷ (codes "count", count) ∷ (codes "database", file) ∷ []

abbrev database_in : Layout → Text → Option Text
database_in Bare file = None
database_in _ file = Some file

-- ---- the walk over the words

takes-in : (l : Layout) (name file addr count : Text) → IsPlain file → IsPlain addr → IsPlain count → takes serve_app (name ∷ words_in l file addr count) ≡ true
unfolding clap_on_literals
takes-in Bare name file addr count f a c = rw (a.no_dashes, a.no_long, a.no_short, c.no_dashes, c.no_long, c.no_short) refl
takes-in JoinedFirst name file addr count f a c = rw (a.no_dashes, a.no_long, a.no_short, c.no_dashes, c.no_long, c.no_short) refl
takes-in JoinedSecond name file addr count f a c = rw (a.no_dashes, a.no_long, a.no_short, c.no_dashes, c.no_long, c.no_short) refl
takes-in JoinedLast name file addr count f a c = rw (a.no_dashes, a.no_long, a.no_short, c.no_dashes, c.no_long, c.no_short) refl
takes-in NextFirst name file addr count f a c = rw (f.no_dashes, f.no_long, f.no_short, a.no_dashes, a.no_long, a.no_short, c.no_dashes, c.no_long, c.no_short) refl
takes-in NextSecond name file addr count f a c = rw (a.no_dashes, a.no_long, a.no_short, f.no_dashes, f.no_long, f.no_short, c.no_dashes, c.no_long, c.no_short) refl
takes-in NextLast name file addr count f a c = rw (a.no_dashes, a.no_long, a.no_short, c.no_dashes, c.no_long, c.no_short, f.no_dashes, f.no_long, f.no_short) refl

rows-in : (l : Layout) (name file addr count : Text) → IsPlain file → IsPlain addr → IsPlain count → matches_of serve_app (name ∷ words_in l file addr count) ≡ rows_for (used_in l file addr count)
unfolding clap_on_literals
rows-in Bare name file addr count f a c = rw (a.no_dashes, a.no_long, a.no_short, c.no_dashes, c.no_long, c.no_short) refl
rows-in JoinedFirst name file addr count f a c = rw (a.no_dashes, a.no_long, a.no_short, c.no_dashes, c.no_long, c.no_short) refl
rows-in JoinedSecond name file addr count f a c = rw (a.no_dashes, a.no_long, a.no_short, c.no_dashes, c.no_long, c.no_short) refl
rows-in JoinedLast name file addr count f a c = rw (a.no_dashes, a.no_long, a.no_short, c.no_dashes, c.no_long, c.no_short) refl
rows-in NextFirst name file addr count f a c = rw (f.no_dashes, f.no_long, f.no_short, a.no_dashes, a.no_long, a.no_short, c.no_dashes, c.no_long, c.no_short) refl
rows-in NextSecond name file addr count f a c = rw (a.no_dashes, a.no_long, a.no_short, f.no_dashes, f.no_long, f.no_short, c.no_dashes, c.no_long, c.no_short) refl
rows-in NextLast name file addr count f a c = rw (a.no_dashes, a.no_long, a.no_short, c.no_dashes, c.no_long, c.no_short, f.no_dashes, f.no_long, f.no_short) refl

-- ---- words of the form have one of these layouts

record IsFrom (addr count : Text) (database : Option Text) (s : Serving) : Type 0 where
  addr_fits : is_file_word addr ≡ true
  addr_is : s.addr ≡ addr
  count_is : number_up_to 1000000 count ≡ Some s.count
  database_is : s.database ≡ database

file-is : (b : Bool) (word v : Text) → cond b (Some word) None ≡ Some v → (b ≡ true) × (word ≡ v)
file-is true word v e = (refl, some_same word v e)
file-is false word v e = absurd (none_some v e)

from-is : (addr count : Text) (database : Option Text) (s : Serving) → serving_from addr count database ≡ Some s → IsFrom addr count database s
from-is addr count database s e =
    let a = and_then-is (cond (is_file_word addr) (Some addr) None) _ s e in
    let fits = file-is (is_file_word addr) addr a.0 a.1 in
    let n = and_then-is (number_up_to 1000000 count) _ s a.2 in
    let is : record { addr = a.0; count = n.0; database = database } ≡ s = some_same (record { addr = a.0; count = n.0; database = database }) s n.2 in
    record {
      addr_fits = fits.0;
      addr_is = sym (ap (λ (t : Serving). t.addr) is) ∙ sym fits.1;
      count_is = n.1 ∙ ap (λ (t : Serving). Some t.count) is;
      database_is = sym (ap (λ (t : Serving). t.database) is);
    }

with-is : (file addr count : Text) (s : Serving) → serving_with file addr count ≡ Some s → (is_file_word file ≡ true) × IsFrom addr count (Some file) s
with-is file addr count s e =
    let f = and_then-is (cond (is_file_word file) (Some file) None) _ s e in
    let fits = file-is (is_file_word file) file f.0 f.1 in
    (fits.0, from-is addr count (Some file) s (ap (λ (v : Text). serving_from addr count (Some v)) fits.1 ∙ f.2))

joined-is : (word addr count : Text) (s : Serving) → with_joined word addr count ≡ Some s → (file : Text) × (word ≡ codes "--database=" ++ file) × (is_file_word file ≡ true) × IsFrom addr count (Some file) s
joined-is word addr count s e =
    let f = and_then-is (after_prefix (codes "--database=") word) _ s e in
    let w = with-is f.0 addr count s f.2 in
    (f.0, after_is (codes "--database=") word f.0 f.1, w.0, w.1)

next-is : (word file addr count : Text) (s : Serving) → with_next word file addr count ≡ Some s → (word ≡ codes "--database") × (is_file_word file ≡ true) × IsFrom addr count (Some file) s
next-is word file addr count s e = by (bytes_eq word (codes "--database")) refl e
  where
    by : (b : Bool) → bytes_eq word (codes "--database") ≡ b → cond b (serving_with file addr count) None ≡ Some s → (word ≡ codes "--database") × (is_file_word file ≡ true) × IsFrom addr count (Some file) s
    by true same e =
        let w = with-is file addr count s e in
        ((bytes_eq-Decides word (codes "--database")).0 same, w.0, w.1)
    by false same e = absurd (none_some s e)

-- the words that ask for this, with their layout
record IsLaid (words : List Text) (s : Serving) : Type 0 where
  name : Text
  layout : Layout
  file : Text
  addr : Text
  count : Text
  words_are : words ≡ name ∷ words_in layout file addr count
  file_fits : is_file_word file ≡ true
  values : IsFrom addr count (database_in layout file) s

-- the words after the first, with their layout
record IsLaidAfter (words : List Text) (s : Serving) : Type 0 where
  layout : Layout
  file : Text
  addr : Text
  count : Text
  words_are : words ≡ words_in layout file addr count
  file_fits : is_file_word file ≡ true
  values : IsFrom addr count (database_in layout file) s

laid-three : (a b c : Text) (s : Serving) → option_or (with_joined a b c) (option_or (with_joined b a c) (with_joined c a b)) ≡ Some s → IsLaidAfter (a ∷ b ∷ c ∷ []) s
laid-three a b c s e = by (with_joined a b c) (with_joined b a c) refl refl e
  where
    first : with_joined a b c ≡ Some s → IsLaidAfter (a ∷ b ∷ c ∷ []) s
    first e =
        let j = joined-is a b c s e in
        record { layout = JoinedFirst; file = j.0; addr = b; count = c; words_are = ap (λ (w : Text). w ∷ b ∷ c ∷ []) j.1; file_fits = j.2; values = j.3 }

    second : with_joined b a c ≡ Some s → IsLaidAfter (a ∷ b ∷ c ∷ []) s
    second e =
        let j = joined-is b a c s e in
        record { layout = JoinedSecond; file = j.0; addr = a; count = c; words_are = ap (λ (w : Text). a ∷ w ∷ c ∷ []) j.1; file_fits = j.2; values = j.3 }

    last : with_joined c a b ≡ Some s → IsLaidAfter (a ∷ b ∷ c ∷ []) s
    last e =
        let j = joined-is c a b s e in
        record { layout = JoinedLast; file = j.0; addr = a; count = b; words_are = ap (λ (w : Text). a ∷ b ∷ w ∷ []) j.1; file_fits = j.2; values = j.3 }

    by : (o p : Option Serving) → with_joined a b c ≡ o → with_joined b a c ≡ p → option_or o (option_or p (with_joined c a b)) ≡ Some s → IsLaidAfter (a ∷ b ∷ c ∷ []) s
    by (Some x) p f g e = first (f ∙ e)
    by None (Some x) f g e = second (g ∙ e)
    by None None f g e = last e

laid-four : (a b c d : Text) (s : Serving) → option_or (with_next a b c d) (option_or (with_next b c a d) (with_next c d a b)) ≡ Some s → IsLaidAfter (a ∷ b ∷ c ∷ d ∷ []) s
laid-four a b c d s e = by (with_next a b c d) (with_next b c a d) refl refl e
  where
    first : with_next a b c d ≡ Some s → IsLaidAfter (a ∷ b ∷ c ∷ d ∷ []) s
    first e =
        let j = next-is a b c d s e in
        record { layout = NextFirst; file = b; addr = c; count = d; words_are = ap (λ (w : Text). w ∷ b ∷ c ∷ d ∷ []) j.0; file_fits = j.1; values = j.2 }

    second : with_next b c a d ≡ Some s → IsLaidAfter (a ∷ b ∷ c ∷ d ∷ []) s
    second e =
        let j = next-is b c a d s e in
        record { layout = NextSecond; file = c; addr = a; count = d; words_are = ap (λ (w : Text). a ∷ w ∷ c ∷ d ∷ []) j.0; file_fits = j.1; values = j.2 }

    last : with_next c d a b ≡ Some s → IsLaidAfter (a ∷ b ∷ c ∷ d ∷ []) s
    last e =
        let j = next-is c d a b s e in
        record { layout = NextLast; file = d; addr = a; count = b; words_are = ap (λ (w : Text). a ∷ b ∷ w ∷ d ∷ []) j.0; file_fits = j.1; values = j.2 }

    by : (o p : Option Serving) → with_next a b c d ≡ o → with_next b c a d ≡ p → option_or o (option_or p (with_next c d a b)) ≡ Some s → IsLaidAfter (a ∷ b ∷ c ∷ d ∷ []) s
    by (Some x) p f g e = first (f ∙ e)
    by None (Some x) f g e = second (g ∙ e)
    by None None f g e = last e

laid-after : (words : List Text) (s : Serving) → serving_after words ≡ Some s → IsLaidAfter words s
laid-after [] s e = absurd (none_some s e)
laid-after (a ∷ []) s e = absurd (none_some s e)
laid-after (a ∷ b ∷ []) s e =
    let v = from-is a b None s e in
    record { layout = Bare; file = a; addr = a; count = b; words_are = refl; file_fits = v.addr_fits; values = v }
laid-after (a ∷ b ∷ c ∷ []) s e = laid-three a b c s e
laid-after (a ∷ b ∷ c ∷ d ∷ []) s e = laid-four a b c d s e
laid-after (a ∷ b ∷ c ∷ d ∷ f ∷ ws) s e = absurd (none_some s e)

laid : (words : List Text) (s : Serving) → serving_in words ≡ Some s → IsLaid words s
laid [] s e = absurd (none_some s e)
laid (first ∷ words) s e = by (bytes_eq first (codes "serve")) e
  where
    by : (b : Bool) → cond b (serving_after words) None ≡ Some s → IsLaid (first ∷ words) s
    by true e =
        let l = laid-after words s e in
        record { name = first; layout = l.layout; file = l.file; addr = l.addr; count = l.count; words_are = ap (λ (ws : List Text). first ∷ ws) l.words_are; file_fits = l.file_fits; values = l.values }
    by false e = absurd (none_some s e)

-- ---- what is found

found-addr : (l : Layout) (file addr count : Text) → first_of (codes "addr") (rows_for (used_in l file addr count)) ≡ Some addr
found-addr Bare file addr count = refl
found-addr JoinedFirst file addr count = refl
found-addr JoinedSecond file addr count = refl
found-addr JoinedLast file addr count = refl
found-addr NextFirst file addr count = refl
found-addr NextSecond file addr count = refl
found-addr NextLast file addr count = refl

found-count : (l : Layout) (file addr count : Text) → first_of (codes "count") (rows_for (used_in l file addr count)) ≡ Some count
found-count Bare file addr count = refl
found-count JoinedFirst file addr count = refl
found-count JoinedSecond file addr count = refl
found-count JoinedLast file addr count = refl
found-count NextFirst file addr count = refl
found-count NextSecond file addr count = refl
found-count NextLast file addr count = refl

found-database : (l : Layout) (file addr count : Text) → first_of (codes "database") (rows_for (used_in l file addr count)) ≡ database_in l file
found-database Bare file addr count = refl
found-database JoinedFirst file addr count = refl
found-database JoinedSecond file addr count = refl
found-database JoinedLast file addr count = refl
found-database NextFirst file addr count = refl
found-database NextSecond file addr count = refl
found-database NextLast file addr count = refl

-- the words have no flags but the option
record ArePlain (words : List Text) (s : Serving) : Type 0 where
  is : IsLaid words s
  file : IsPlain is.file
  addr : IsPlain is.addr
  count : IsPlain is.count

plain : (words : List Text) (s : Serving) → serving_in words ≡ Some s → ArePlain words s
plain words s e =
    let l = laid words s e in
    record {
      is = l;
      file = file-plain l.file l.file_fits;
      addr = file-plain l.addr l.values.addr_fits;
      count = number-plain 1000000 l.count (ap is_some l.values.count_is);
    }

serving-takes : (words : List Text) (s : Serving) → serving_in words ≡ Some s → takes serve_app words ≡ true
serving-takes words s e =
    let p = plain words s e in
    subst (λ (ws : List Text). takes serve_app ws ≡ true) (sym p.is.words_are)
    (takes-in p.is.layout p.is.name p.is.file p.is.addr p.is.count p.file p.addr p.count)

serving-finds : (words : List Text) (s : Serving) (found : Found) → serving_in words ≡ Some s → rows_of found ≡ matches_of serve_app words → FindsServing found s
serving-finds words s found e rows =
    let p = plain words s e in
    let v = p.is.values in
    let rows_are = rows ∙ ap (matches_of serve_app) p.is.words_are ∙ rows-in p.is.layout p.is.name p.is.file p.is.addr p.is.count p.file p.addr p.count in
    let finds = λ (id : Text). first_value-rows found id ∙ ap (first_of id) rows_are in
    record {
      addr = finds (codes "addr") ∙ found-addr p.is.layout p.is.file p.is.addr p.is.count ∙ ap Some (sym v.addr_is);
      count = ap (option_and_then (number_up_to 1000000)) (finds (codes "count") ∙ found-count p.is.layout p.is.file p.is.addr p.is.count) ∙ v.count_is;
      database = finds (codes "database") ∙ found-database p.is.layout p.is.file p.is.addr p.is.count ∙ sym v.database_is;
    }

-- the command takes all words of the form
pub serve-takes : (words : List Text) → IsSome (serving_in words) → takes serve_app words ≡ true
serve-takes words h = by (serving_in words) refl h
  where
    by : (o : Option Serving) → serving_in words ≡ o → IsSome o → takes serve_app words ≡ true
    by None e h = absurd (true≢false (sym h))
    by (Some s) e h = serving-takes words s e

-- what it finds is what the words ask for
pub serve-has : (words : List Text) (found : Found) → IsSome (serving_in words) → rows_of found ≡ matches_of serve_app words → IsSomeAnd (serving_in words) (FindsServing found)
serve-has words found h rows = by (serving_in words) refl h
  where
    by : (o : Option Serving) → serving_in words ≡ o → IsSome o → IsSomeAnd o (FindsServing found)
    by None e h = absurd (true≢false (sym h))
    by (Some s) e h = serving-finds words s found e rows
