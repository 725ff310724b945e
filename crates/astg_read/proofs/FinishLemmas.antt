-- The specification of what the lines say.
use Rattle.std.proofs.Common.{◌≡◌, ℕ, ◌≤◌, map, Some, None, Option, ◌∙◌, arith, not, ◌||◌, [], length, nat_lt}
use Rattle.stg_net.specs.declared.limits.Limits.{Limits}
use Rattle.stg_net.specs.Spec.{SpecLists}
use Rattle.astg_read.specs.inner.Construction.{IsBuilt, said_by}
use Rattle.astg_read.specs.Graphs.{PlaceAt}
use Rattle.astg_read.specs.inner.NoDummies.{without_dummies}
use Rattle.astg_read.specs.Said.{Said}
use Rattle.astg_read.specs.Markings.{entries_of, has_bad_entry, is_closing, starts_marking, after_close}
use Rattle.astg_read.specs.Reading.{IsSpecOf, meaning_of, tokens_by}
use Rattle.astg_read.specs.Rows.{Row}
use Rattle.astg_read.specs.inner.LineResult.{IsFaultless, IsGood, said_of}
use Rattle.astg_read.specs.declared.reader.Reader.{Reader}
use Rattle.astg_read.proofs.PlaceTokensLemmas.{tokens-within}
use Rattle.astg_read.proofs.Faultless.{good-some}
use Rattle.std.proofs.lemmas.Bool.{or_parts}
use Rattle.std.specs.List.{list_any}

-- signals and graph keep what the reader keeps
pub faultless-by : (l : Limits) (r : Reader) → IsFaultless l (said_of r) → IsFaultless l (said_by r.signals r.graph)
faultless-by l r k = record {
  few = k.few;
  counts = k.counts;
  good = tt;
  well_formed = record { named = k.well_formed.named; names_differ = k.well_formed.names_differ; trans_differ = k.well_formed.trans_differ; trans_there = k.well_formed.trans_there; places_there = k.well_formed.places_there; weighed = k.well_formed.weighed; text_arcs_there = k.well_formed.text_arcs_there; text_arcs_differ = k.well_formed.text_arcs_differ };
}

-- the tokens of a good marking are within the limit
pub tokens-good : (most : ℕ) (k : Said) (p : PlaceAt) (m : Option Row) → k.marking ≡ m → IsGood most k → tokens_by k.declared m p ≤ most
tokens-good most k p None e g = omega arith
tokens-good most k p (Some words) e g =
    let s = good-some most k words e g in
    let a = or_parts (not (starts_marking words) || has_bad_entry most k.declared k.places (list_any is_closing words) [] (entries_of words)) (nat_lt 0 (length (after_close words))) s.1 in
    let b = or_parts (not (starts_marking words)) (has_bad_entry most k.declared k.places (list_any is_closing words) [] (entries_of words)) a.0 in
    tokens-within most k.declared k.places (list_any is_closing words) [] (entries_of words) p b.1

-- what was built is what the lines stand for
pub spec-of : (r : Reader) (f : PlaceAt → ℕ) (s : SpecLists) → ((p : PlaceAt) → f p ≡ tokens_by (without_dummies r.signals) r.marking p) → IsBuilt r.signals r.graph (map f r.graph.places) s → IsSpecOf (meaning_of (said_of r)) s
spec-of r f s same b = record {
  signals = b.signals_are;
  trans = b.trans_are;
  tokens = b.tokens_are ∙ (λ j. map (λ p. same p j) r.graph.places);
  arcs = b.arcs_are;
  is_net = b.is_net;
  place_names = b.names_are;
}
