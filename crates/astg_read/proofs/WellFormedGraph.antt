-- What a line of the graph adds is there.
use Rattle.std.proofs.Common.{◌≡◌, ℕ, zero, List, [], ◌∷◌, ◌++◌, Bool, true, false, ◌||◌, ◌&&◌, nat_eq, length, filter_map, refl, sym, ap, subst, ◌∙◌, Some, None, Option, option_map, is_some, append-nil, arith}
use Rattle.astg_lex.proofs.ListLemmas.{all-append}
use Rattle.std.proofs.lemmas.Bool.{and_parts, and_from, false≢true, ne_eqb}
use Rattle.std.proofs.lemmas.Slice.Eq.{bytes_eq-Decides}
use Rattle.std.specs.List.{list_any, list_all, cons_option}
use Rattle.std.specs.Option.{option_map_or}
use Rattle.stg_net.specs.declared.trans.TransName.{TransName}
use Rattle.astg_read.specs.Rows.{Word, Row}
use Rattle.astg_read.specs.Header.{Declared}
use Rattle.astg_read.specs.Lists.{firsts}
use Rattle.astg_read.specs.Nodes.{Node, Trans, Place, same_trans, trans_of_word, trans_or_place, node_of}
use Rattle.astg_read.specs.Targets.{Target, targets_after, is_weight, group_weight, is_good_group}
use Rattle.astg_read.specs.Graphs.{TextArc, PlaceAt, Named, Between, same_place, node_trans, node_place, place_between, text_arc_of, text_arcs_on, trans_on, places_on}
use Rattle.astg_read.specs.inner.Growth.{trans_in, places_in}
use Rattle.astg_read.specs.inner.WellFormed.{is_trans_in, is_place_in, is_weighed, IsNodeIn, IsBetweenIn, IsTextArcIn, AreTextArcsIn}
use Rattle.astg_read.proofs.Repeats.{any-with_new}
use Rattle.astg_read.proofs.IndexLemmas.{IsGoodTrans, trans_of_word-good}
use Rattle.astg_read.proofs.NumberLemmas.{any-firsts, same_trans-refl}
use Rattle.astg_read.proofs.GrowthLemmas.{firsts-append}

pub same_place-refl : (p : PlaceAt) → same_place p p ≡ true
same_place-refl (Named p) = (bytes_eq-Decides p p).1 refl
same_place-refl (Between t u) = and_from (same_trans t t) (same_trans u u) (same_trans-refl t) (same_trans-refl u)

-- what is there stays there
node-more : (ts xs : List TransName) (ps ys : List PlaceAt) (n : Node) → IsNodeIn ts ps n → IsNodeIn (firsts same_trans ts xs) (firsts same_place ps ys) n
node-more ts xs ps ys (Trans t) h = any-firsts same_trans (same_trans t) ts xs h
node-more ts xs ps ys (Place p) h = any-firsts same_place (same_place (Named p)) ps ys h

between-more : (ps ys : List PlaceAt) (m n : Node) → IsBetweenIn ps m n → IsBetweenIn (firsts same_place ps ys) m n
between-more ps ys (Trans t) (Trans u) h = any-firsts same_place (same_place (Between t u)) ps ys h
between-more ps ys (Trans t) (Place q) h = tt
between-more ps ys (Place p) (Trans u) h = tt
between-more ps ys (Place p) (Place q) h = tt

text_arc-more : (ts xs : List TransName) (ps ys : List PlaceAt) (p : TextArc) → IsTextArcIn ts ps p → IsTextArcIn (firsts same_trans ts xs) (firsts same_place ps ys) p
text_arc-more ts xs ps ys p h = record {
  source_there = node-more ts xs ps ys p.source h.source_there;
  target_there = node-more ts xs ps ys p.target h.target_there;
  between_there = between-more ps ys p.source p.target h.between_there;
}

pub text_arcs-more : (ts xs : List TransName) (ps ys : List PlaceAt) (text_arcs : List TextArc) → AreTextArcsIn ts ps text_arcs → AreTextArcsIn (firsts same_trans ts xs) (firsts same_place ps ys) text_arcs
text_arcs-more ts xs ps ys [] h = tt
text_arcs-more ts xs ps ys (p ∷ text_arcs) h = (text_arc-more ts xs ps ys p h.0, text_arcs-more ts xs ps ys text_arcs h.1)

pub text_arcs-append : (ts : List TransName) (ps : List PlaceAt) (xs ys : List TextArc) → AreTextArcsIn ts ps xs → AreTextArcsIn ts ps ys → AreTextArcsIn ts ps (xs ++ ys)
text_arcs-append ts ps [] ys h k = k
text_arcs-append ts ps (x ∷ xs) ys h k = (h.0, text_arcs-append ts ps xs ys h.1 k)

-- a node that was added is there
node-added : (ts : List TransName) (ps : List PlaceAt) (n : Node) → IsNodeIn (firsts same_trans ts (node_trans n)) (firsts same_place ps (node_place n)) n
node-added ts ps (Trans t) = any-with_new same_trans ts t (same_trans-refl t)
node-added ts ps (Place p) = any-with_new same_place ps (Named p) (same_place-refl (Named p))

between-added : (ps : List PlaceAt) (m n : Node) → IsBetweenIn (firsts same_place ps (place_between m n)) m n
between-added ps (Trans t) (Trans u) = any-with_new same_place ps (Between t u) (same_place-refl (Between t u))
between-added ps (Trans t) (Place q) = tt
between-added ps (Place p) (Trans u) = tt
between-added ps (Place p) (Place q) = tt

-- each text arc has this source
abbrev HaveSource : Node → List TextArc → Type 0
HaveSource n [] = Unit {0}
HaveSource n (p ∷ ps) = (p.source ≡ n) × HaveSource n ps

-- the targets of these text arcs are added
targets-there : (n : Node) (text_arcs : List TextArc) (ts : List TransName) (ps : List PlaceAt) → HaveSource n text_arcs → IsNodeIn ts ps n → AreTextArcsIn (firsts same_trans ts (trans_in text_arcs)) (firsts same_place ps (places_in text_arcs)) text_arcs
targets-there n [] ts ps h s = tt
targets-there n (p ∷ text_arcs) ts ps h s =
    let ts1 = firsts same_trans ts (node_trans p.target) in
    let ps1 = firsts same_place ps (node_place p.target) in
    let ps2 = firsts same_place ps1 (place_between p.source p.target) in
    let here : IsTextArcIn ts1 ps2 p = record {
      source_there = subst (IsNodeIn ts1 ps2) (sym h.0) (node-more ts1 [] ps1 (place_between p.source p.target) n (node-more ts (node_trans p.target) ps (node_place p.target) n s));
      target_there = node-more ts1 [] ps1 (place_between p.source p.target) p.target (node-added ts ps p.target);
      between_there = between-added ps1 p.source p.target;
    } in
    let source : IsNodeIn ts1 ps2 n = node-more ts1 [] ps1 (place_between p.source p.target) n (node-more ts (node_trans p.target) ps (node_place p.target) n s) in
    let rest = targets-there n text_arcs ts1 ps2 h.1 source in
    let t : firsts same_trans ts (trans_in (p ∷ text_arcs)) ≡ firsts same_trans ts1 (trans_in text_arcs) = firsts-append same_trans ts (node_trans p.target) (trans_in text_arcs) in
    let q : firsts same_place ps (places_in (p ∷ text_arcs)) ≡ firsts same_place ps2 (places_in text_arcs) =
    firsts-append same_place ps (node_place p.target ++ place_between p.source p.target) (places_in text_arcs)
    ∙ ap (λ x. firsts same_place x (places_in text_arcs)) (firsts-append same_place ps (node_place p.target) (place_between p.source p.target)) in
    let P : List TransName → List PlaceAt → Type 0 = λ a b. AreTextArcsIn a b (p ∷ text_arcs) in
    subst (λ a. P a (firsts same_place ps (places_in (p ∷ text_arcs)))) (sym t) (subst (λ b. P (firsts same_trans ts1 (trans_in text_arcs)) b) (sym q) (text_arc-more ts1 (trans_in text_arcs) ps2 (places_in text_arcs) p here, rest))

-- the text arcs of a line have its source
abbrev by_text_arc : (n : Node) (o : Option TextArc) → Type 0
by_text_arc n None = Unit {0}
by_text_arc n (Some p) = p.source ≡ n

cons-source : (n : Node) (o : Option TextArc) (ps : List TextArc) → by_text_arc n o → HaveSource n ps → HaveSource n (cons_option o ps)
cons-source n None ps h k = k
cons-source n (Some p) ps h k = (h, k)

sources : (d : Declared) (w : Word) (ts : List Target) → HaveSource (node_of d w) (filter_map (text_arc_of d w) ts)
sources d w [] = tt
sources d w (t ∷ ts) = cons-source (node_of d w) (text_arc_of d w t) (filter_map (text_arc_of d w) ts) (by_word t.word) (sources d w ts)
  where
    by_word : (o : Option Word) → by_text_arc (node_of d w) (option_map (λ word. record { source = node_of d w; target = node_of d word; weight = group_weight t.group }) o)
    by_word None = tt
    by_word (Some v) = refl

-- the text arcs of a line are there after it
pub line-there : (d : Declared) (w : Word) (ws : Row) (ts : List TransName) (ps : List PlaceAt)
    → AreTextArcsIn (firsts same_trans (firsts same_trans ts (node_trans (node_of d w))) (trans_in (text_arcs_on d (w ∷ ws)))) (firsts same_place (firsts same_place ps (node_place (node_of d w))) (places_in (text_arcs_on d (w ∷ ws)))) (text_arcs_on d (w ∷ ws))
line-there d w ws ts ps =
    targets-there (node_of d w) (text_arcs_on d (w ∷ ws)) (firsts same_trans ts (node_trans (node_of d w))) (firsts same_place ps (node_place (node_of d w))) (sources d w (targets_after zero ws)) (node-added ts ps (node_of d w))

-- weights within the limit
weighed-some : (most : ℕ) (o : Option ℕ) → is_weight most o ≡ true → option_map_or (λ w. is_weight most (Some w)) o true ≡ true
weighed-some most None h = absurd (false≢true h)
weighed-some most (Some n) h = h

weighed-by : (most : ℕ) (group : Row) (b : Bool) → (nat_eq (length group) 0 || (b && is_weight most (group_weight group))) ≡ true → option_map_or (λ w. is_weight most (Some w)) (group_weight group) true ≡ true
weighed-by most [] b h = refl
weighed-by most (g ∷ gs) b h =
    let e : nat_eq (length (g ∷ gs)) 0 ≡ false = ne_eqb (length (g ∷ gs)) 0 (omega arith) in
    weighed-some most (group_weight (g ∷ gs)) (and_parts b (is_weight most (group_weight (g ∷ gs))) (sym (ap (λ a. a || (b && is_weight most (group_weight (g ∷ gs)))) e) ∙ h)).1

abbrev text_arc_weighed : ℕ → Option TextArc → Type 0
text_arc_weighed most None = Unit {0}
text_arc_weighed most (Some p) = is_weighed most p ≡ true

cons-weighed : (most : ℕ) (o : Option TextArc) (ps : List TextArc) → text_arc_weighed most o → list_all (is_weighed most) ps ≡ true → list_all (is_weighed most) (cons_option o ps) ≡ true
cons-weighed most None ps h k = k
cons-weighed most (Some p) ps h k = and_from (is_weighed most p) (list_all (is_weighed most) ps) h k

pub line-weighed : (most : ℕ) (d : Declared) (w : Word) (ts : List Target) → list_all (is_good_group most) ts ≡ true → list_all (is_weighed most) (filter_map (text_arc_of d w) ts) ≡ true
line-weighed most d w [] h = refl
line-weighed most d w (t ∷ ts) h =
    let q = and_parts (is_good_group most t) (list_all (is_good_group most) ts) h in
    cons-weighed most (text_arc_of d w t) (filter_map (text_arc_of d w) ts) (by_word t.word q.0) (line-weighed most d w ts q.1)
  where
    by_word : (o : Option Word) → (nat_eq (length t.group) 0 || (is_some o && is_weight most (group_weight t.group))) ≡ true
        → text_arc_weighed most (option_map (λ word. record { source = node_of d w; target = node_of d word; weight = group_weight t.group }) o)
    by_word None g = tt
    by_word (Some v) g = weighed-by most t.group true g

-- the transitions of a line have signals that are there
node-good : (d : Declared) (w : Word) → list_all (is_trans_in (length d.signals)) (node_trans (node_of d w)) ≡ true
node-good d w = by_trans (trans_of_word d w) (trans_of_word-good d w)
  where
    by_trans : (o : Option TransName) → IsGoodTrans (length d.signals) o → list_all (is_trans_in (length d.signals)) (node_trans (trans_or_place w o)) ≡ true
    by_trans None h = refl
    by_trans (Some t) h = and_from (is_trans_in (length d.signals) t) true h refl

abbrev target_good : Declared → Option TextArc → Type 0
target_good d None = Unit {0}
target_good d (Some p) = list_all (is_trans_in (length d.signals)) (node_trans p.target) ≡ true

cons-good : (d : Declared) (o : Option TextArc) (ps : List TextArc) → target_good d o → list_all (is_trans_in (length d.signals)) (trans_in ps) ≡ true → list_all (is_trans_in (length d.signals)) (trans_in (cons_option o ps)) ≡ true
cons-good d None ps h k = k
cons-good d (Some p) ps h k = all-append (is_trans_in (length d.signals)) (node_trans p.target) (trans_in ps) h k

targets-good : (d : Declared) (w : Word) (ts : List Target) → list_all (is_trans_in (length d.signals)) (trans_in (filter_map (text_arc_of d w) ts)) ≡ true
targets-good d w [] = refl
targets-good d w (t ∷ ts) = cons-good d (text_arc_of d w t) (filter_map (text_arc_of d w) ts) (by_word t.word) (targets-good d w ts)
  where
    by_word : (o : Option Word) → target_good d (option_map (λ word. record { source = node_of d w; target = node_of d word; weight = group_weight t.group }) o)
    by_word None = tt
    by_word (Some v) = node-good d v

pub line-good : (d : Declared) (w : Word) (ws : Row) → list_all (is_trans_in (length d.signals)) (trans_on d (w ∷ ws)) ≡ true
line-good d w ws =
    all-append (is_trans_in (length d.signals)) (node_trans (node_of d w) ++ []) (trans_in (text_arcs_on d (w ∷ ws)))
    (ap (list_all (is_trans_in (length d.signals))) (append-nil (node_trans (node_of d w))) ∙ node-good d w) (targets-good d w (targets_after zero ws))

-- the transitions of places stay there
place-wider : (ts xs : List TransName) (p : PlaceAt) → is_place_in ts p ≡ true → is_place_in (firsts same_trans ts xs) p ≡ true
place-wider ts xs (Named p) h = refl
place-wider ts xs (Between t u) h =
    let q = and_parts (list_any (same_trans t) ts) (list_any (same_trans u) ts) h in
    and_from (list_any (same_trans t) (firsts same_trans ts xs)) (list_any (same_trans u) (firsts same_trans ts xs)) (any-firsts same_trans (same_trans t) ts xs q.0) (any-firsts same_trans (same_trans u) ts xs q.1)

pub places-wider : (ts xs : List TransName) (ps : List PlaceAt) → list_all (is_place_in ts) ps ≡ true → list_all (is_place_in (firsts same_trans ts xs)) ps ≡ true
places-wider ts xs [] h = refl
places-wider ts xs (p ∷ ps) h =
    let q = and_parts (is_place_in ts p) (list_all (is_place_in ts) ps) h in
    and_from (is_place_in (firsts same_trans ts xs) p) (list_all (is_place_in (firsts same_trans ts xs)) ps) (place-wider ts xs p q.0) (places-wider ts xs ps q.1)

-- the places of a line have their transitions
node-places : (ts : List TransName) (n : Node) → list_all (is_place_in ts) (node_place n) ≡ true
node-places ts (Trans t) = refl
node-places ts (Place p) = refl

between-places : (ts : List TransName) (ps : List PlaceAt) (m n : Node) → IsNodeIn ts ps m → IsNodeIn ts ps n → list_all (is_place_in ts) (place_between m n) ≡ true
between-places ts ps (Trans t) (Trans u) h k = and_from (list_any (same_trans t) ts && list_any (same_trans u) ts) true (and_from (list_any (same_trans t) ts) (list_any (same_trans u) ts) h k) refl
between-places ts ps (Trans t) (Place q) h k = refl
between-places ts ps (Place p) (Trans u) h k = refl
between-places ts ps (Place p) (Place q) h k = refl

text_arcs-places : (ts : List TransName) (ps : List PlaceAt) (text_arcs : List TextArc) → AreTextArcsIn ts ps text_arcs → list_all (is_place_in ts) (places_in text_arcs) ≡ true
text_arcs-places ts ps [] h = refl
text_arcs-places ts ps (p ∷ text_arcs) h =
    all-append (is_place_in ts) (node_place p.target ++ place_between p.source p.target) (places_in text_arcs)
    (all-append (is_place_in ts) (node_place p.target) (place_between p.source p.target) (node-places ts p.target) (between-places ts ps p.source p.target h.0.source_there h.0.target_there))
    (text_arcs-places ts ps text_arcs h.1)

pub line-places : (d : Declared) (w : Word) (ws : Row) (ts : List TransName) (ps : List PlaceAt) → AreTextArcsIn ts ps (text_arcs_on d (w ∷ ws)) → list_all (is_place_in ts) (places_on d (w ∷ ws)) ≡ true
line-places d w ws ts ps h =
    all-append (is_place_in ts) (node_place (node_of d w) ++ []) (places_in (text_arcs_on d (w ∷ ws)))
    (ap (list_all (is_place_in ts)) (append-nil (node_place (node_of d w))) ∙ node-places ts (node_of d w)) (text_arcs-places ts ps (text_arcs_on d (w ∷ ws)) h)
