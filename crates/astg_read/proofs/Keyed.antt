-- The entries of a map and the keys of a set, seen as a list of other things.
use Rattle.std.proofs.Common.{◌≡◌, ◌+◌, List, [], ◌∷◌, ◌++◌, Bool, true, false, ◌||◌, cond, not, nat_lt, length, map, position, None, Some, refl, sym, ap, ◌∙◌, inl, inr}
use Rattle.std.specs.List.{list_any, position_or_len}
use Rattle.std.specs.Map.{keys_of}
use Rattle.std.proofs.lemmas.List.{map-append, length-map}
use Rattle.std.proofs.lemmas.Bool.{cases_Bool}
use Rattle.indexmap.specs.IndexMap.{IndexMap, insert_entry}
use Rattle.indexmap.specs.IndexSet.{insert_key}
use Rattle.indexmap.proofs.CallerLemmas.{insert_entry-new}
use Rattle.indexmap.proofs.MapLemmas.{Missing-position}
use Rattle.astg_read.specs.Lists.{with_new}

-- a test of keys finds what the same test of the things seen finds
module _ {K X : Type 0} (test : K → Bool) (same : X → Bool) (seen : K → X) (agree : (k : K) → test k ≡ same (seen k)) where
  pub any-seen : (ks : List K) → list_any test ks ≡ list_any same (map seen ks)
  any-seen [] = refl
  any-seen (k ∷ ks) = (λ j. agree k j || any-seen ks j)

  first-seen : (ks : List K) → position_or_len test ks ≡ position_or_len same (map seen ks)
  first-seen [] = refl
  first-seen (k ∷ ks) = (λ j. cond (not (agree k j)) (1 + first-seen ks j) 0)

  pub position-seen : (ks : List K) → position test ks ≡ position same (map seen ks)
  position-seen ks =
      let long : length ks ≡ length (map seen ks) = sym (length-map ks seen) in
      (λ j. cond (nat_lt (first-seen ks j) (long j)) (Some (first-seen ks j)) None)

-- the same of a map's keys, where the whole entry is seen
module _ {K V X : Type 0} (test : K → Bool) (same : X → Bool) (seen : K × V → X) (agree : (e : K × V) → test e.0 ≡ same (seen e)) where
  first-entry : (es : List (K × V)) → position_or_len test (keys_of es) ≡ position_or_len same (map seen es)
  first-entry [] = refl
  first-entry (e ∷ es) = (λ j. cond (not (agree e j)) (1 + first-entry es j) 0)

  pub position-entry : (es : List (K × V)) → position test (keys_of es) ≡ position same (map seen es)
  position-entry es =
      let long : length (keys_of es) ≡ length (map seen es) = length-map es _ ∙ sym (length-map es _) in
      (λ j. cond (nat_lt (first-entry es j) (long j)) (Some (first-entry es j)) None)

-- a new entry goes last
pub entries-new : {K V S X : Type 0} (eq : K → K → Bool) (seen : K × V → X) (m : IndexMap K V S) (k : K) (v : V)
    → position (eq k) (keys_of m.entries) ≡ None → map seen (insert_entry eq m.entries k v) ≡ map seen m.entries ++ seen (k, v) ∷ []
entries-new eq seen m k v none =
    ap (map seen) (insert_entry-new eq m k v (Missing-position (eq k) m.entries none).value)
    ∙ map-append seen m.entries ((k, v) ∷ [])

-- an inserted key goes last where it isn't there
pub keys-with_new : {K X : Type 0} (eq : K → K → Bool) (same : X → X → Bool) (seen : K → X) (k : K) → ((y : K) → eq k y ≡ same (seen k) (seen y))
    → (ks : List K) → map seen (insert_key eq ks k) ≡ with_new same (map seen ks) (seen k)
keys-with_new eq same seen k agree ks = elim (cases_Bool (list_any (eq k) ks)) [
  | inl h ↦ ap (λ b. map seen (cond b ks (ks ++ k ∷ []))) h ∙ sym (ap (λ b. cond b (map seen ks) (map seen ks ++ seen k ∷ [])) (sym (any-seen (eq k) (same (seen k)) seen agree ks) ∙ h))
  | inr h ↦ ap (λ b. map seen (cond b ks (ks ++ k ∷ []))) h ∙ map-append seen ks (k ∷ []) ∙ sym (ap (λ b. cond b (map seen ks) (map seen ks ++ seen k ∷ [])) (sym (any-seen (eq k) (same (seen k)) seen agree ks) ∙ h))
]

-- one that is found stays where it is, and one that isn't there goes last
pub with_new-found : {X : Type 0} (same : X → X → Bool) (xs : List X) (x : X) → list_any (same x) xs ≡ true → xs ≡ with_new same xs x
with_new-found same xs x h = sym (ap (λ b. cond b xs (xs ++ x ∷ [])) h)

pub with_new-new : {X : Type 0} (same : X → X → Bool) (xs : List X) (x : X) → list_any (same x) xs ≡ false → xs ++ x ∷ [] ≡ with_new same xs x
with_new-new same xs x h = sym (ap (λ b. cond b xs (xs ++ x ∷ [])) h)
