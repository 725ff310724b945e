-- Links are the places with one giver and one taker, and paths along them are chains.
use Rattle.std.proofs.Common.{◌≡◌, ◌≢◌, ◌<◌, ◌≤◌, ◌+◌, ◌==◌, ℕ, zero, suc, false, cond, List, [], ◌∷◌, length, map, sum_by, is_some, All, Option, Some, None, eq-eqb, refl, sym, ap, ◌∙◌, subst, inl, inr, arith}
use Rattle.std.proofs.lemmas.Bool.{cases_eq, cases_lt, cases_Bool, eqb-true, ne_eqb, lt-ltb, le-ltb, false≢true}
use Rattle.std.proofs.lemmas.List.Elements.{All-nil, All-cons, All-head, All-tail}
use Rattle.std.proofs.lemmas.List.Sums.{sum_by-cons}
use Rattle.stg_net.specs.Graph.{Graph, IsTrans, Place, place_at, given_by, tokens_at, takes, gives}
use Rattle.stg_edit.specs.Walks.{taking_trans, giving_trans}
use Rattle.stg_arena.specs.WalkItems.{weighted, weighted_from}
use Rattle.stg_edit.specs.Drafts.{IsWeightlessPastLast, IsWeightlessWhereRemoved}
use Rattle.stg_edit.proofs.Packing.{weighted_below}
use Rattle.stg_laws.specs.RedundantPlaces.{IsLink, IsChain, IsShortcut}
use Rattle.stg_contract.specs.inner.Weights.{weight_in}
use Rattle.stg_contract.proofs.WeightLists.{weight_in-weighted, live_where}
use Rattle.stg_redundant.specs.declared.chains.Link.{Link}
use Rattle.stg_redundant.specs.inner.Tests.{sole_of}
use Rattle.stg_redundant.specs.inner.Chains.{link_of, link_at, IsPath, tokens_on, HasPath}

-- a alone has a weight, which is 1
record IsSole (n : ℕ) (w : ℕ → ℕ) (a : ℕ) : Type 0 where
  pub below : a < n
  pub one : w a ≡ 1
  pub alone : (t : ℕ) → t < n → t ≢ a → w t ≡ 0

-- nothing is not something
pub none_some : {X : Type 0} (x : X) → None ≡ Some x → ⊥
none_some x e = absurd (cc)

-- the one number of a list with weight 1 is alone
sole_is : (n : ℕ) (w : ℕ → ℕ) (a : ℕ) → sole_of (weighted n w) ≡ Some a → IsSole n w a
sole_is n w a = go (weighted n w) refl
  where
    at : (xs : List (ℕ × ℕ)) → weighted n w ≡ xs → (t : ℕ) → t < n → w t ≡ weight_in t xs
    at xs e t low = sym (weight_in-weighted w n 0 t (omega arith) (omega (arith, low))) ∙ ap (weight_in t) e

    found : (x : ℕ × ℕ) → weighted n w ≡ x ∷ [] → x.1 ≡ 1 → x.0 ≡ a → IsSole n w a
    found x e one is =
        let low : a < n = omega (arith, is, All-head (λ (x : ℕ × ℕ). x.0 < n) x [] (subst (All (λ (x : ℕ × ℕ). x.0 < n)) e (weighted_below n w))) in
        record {
          below = low;
          one = at (x ∷ []) e a low ∙ ap (λ z. cond z x.1 0) (eq-eqb x.0 a is) ∙ one;
          alone = λ t l other. at (x ∷ []) e t l ∙ ap (λ z. cond z x.1 0) (ne_eqb x.0 t (λ s. other (sym s ∙ is)));
        }

    go : (xs : List (ℕ × ℕ)) → weighted n w ≡ xs → sole_of xs ≡ Some a → IsSole n w a
    go [] e s = absurd (none_some a s)
    go (x ∷ []) e s = elim (cases_Bool (x.1 == 1)) [
      | inl h ↦ found x e (eqb-true x.1 1 h) (let z : Some x.0 ≡ Some a = sym (ap (λ b. cond b (Some x.0) None) h) ∙ s in cc)
      | inr h ↦ absurd (none_some a (sym (ap (λ b. cond b (Some x.0) None) h) ∙ s))
    ]
    go (x ∷ y ∷ xs) e s = absurd (none_some a s)

-- a list without weights is empty
none_from : (w : ℕ → ℕ) (m i : ℕ) → ((t : ℕ) → i ≤ t → t < i + m → w t ≡ 0)
    → weighted_from w i m ≡ []
none_from w zero i none = refl
none_from w (suc m) i none = rw (le-ltb 0 (w i) (omega (arith, none i (omega arith) (omega arith)))) (none_from w m (i + 1) (λ t l h. none t (omega (arith, l)) (omega (arith, h))))

-- a list with one weight has one element
alone_from : (w : ℕ → ℕ) (a m i : ℕ) → i ≤ a → a < i + m → w a ≡ 1
    → ((t : ℕ) → i ≤ t → t < i + m → t ≢ a → w t ≡ 0) → weighted_from w i m ≡ (a, 1) ∷ []
alone_from w a zero i l h one alone = absurd (omega (arith, l, h))
alone_from w a (suc m) i l h one alone = elim (cases_eq i a) [
  | inl e ↦
      let rest = none_from w m (i + 1) (λ t low high. alone t (omega (arith, low)) (omega (arith, high)) (λ s. omega (arith, s, low, e))) in
      let here : w i ≡ 1 = ap w e ∙ one in
      rw (lt-ltb 0 (w i) (omega (arith, here))) (λ j. (e j, here j) ∷ rest j)
  | inr n ↦ rw (le-ltb 0 (w i) (omega (arith, alone i (omega arith) (omega arith) n)))
      (alone_from w a m (i + 1) (elim (cases_lt i a) [ inl k ↦ omega (arith, k) | inr k ↦ absurd (n (omega (arith, k, l))) ]) (omega (arith, h)) one (λ t low high. alone t (omega (arith, low)) (omega (arith, high))))
]

-- and where a number is alone with weight 1, it is the one of the list
sole_there : (n : ℕ) (w : ℕ → ℕ) (a : ℕ) → IsSole n w a → sole_of (weighted n w) ≡ Some a
sole_there n w a s = ap sole_of (alone_from w a n 0 (omega arith) (omega (arith, s.below)) s.one (λ t l h. s.alone t (omega (arith, h))))

-- a link of the graph
pub record IsLinkAt (g : Graph) (p : ℕ) (l : Link) : Type 0 where
  pub place : l.place ≡ p
  pub tokens : l.tokens ≡ tokens_at g p
  pub giver_below : l.giver < length g.trans
  pub taker_below : l.taker < length g.trans
  pub link : IsLink g l.giver l.taker p

-- what is found at a place is a link of the graph
pub link_is : (g : Graph) (p : ℕ) (l : Link) → IsWeightlessPastLast g → link_at g p ≡ Some l
    → IsLinkAt g p l
link_is g p l narrow = go (sole_of (giving_trans g p)) (sole_of (taking_trans g p)) refl refl
  where
    other : (w : ℕ → ℕ) (a : ℕ) → IsSole (length g.trans) w a → ((t : ℕ) → length g.trans ≤ t → w t ≡ 0) → (t : ℕ) → t ≢ a → w t ≡ 0
    other w a s past t n = elim (cases_lt t (length g.trans)) [ inl low ↦ s.alone t low n | inr high ↦ past t high ]

    made : (a b : ℕ) → sole_of (giving_trans g p) ≡ Some a → sole_of (taking_trans g p) ≡ Some b → IsLinkAt g p (record { place = p; giver = a; taker = b; tokens = tokens_at g p })
    made a b x y =
        let s = sole_is (length g.trans) (λ t. gives g t p) a x in
        let r = sole_is (length g.trans) (λ t. takes g t p) b y in
        record {
          place = refl;
          tokens = refl;
          giver_below = s.below;
          taker_below = r.below;
          link = record {
            given = s.one;
            one_giver = other (λ t. gives g t p) a s (λ t past. (narrow t p past).1);
            taken = r.one;
            one_taker = other (λ t. takes g t p) b r (λ t past. (narrow t p past).0);
          };
        }

    go : (x y : Option ℕ) → sole_of (giving_trans g p) ≡ x → sole_of (taking_trans g p) ≡ y → link_of g p x y ≡ Some l → IsLinkAt g p l
    go (Some a) (Some b) x y e = let z : record { place = p; giver = a; taker = b; tokens = tokens_at g p } ≡ l = cc in subst (IsLinkAt g p) z (made a b x y)
    go (Some a) None x y e = absurd (none_some l e)
    go None o x y e = absurd (none_some l e)

-- and a link of the graph is found at its place
pub link_there : (g : Graph) (p a b : ℕ) → IsWeightlessPastLast g → IsLink g a b p
    → link_at g p ≡ Some (record { place = p; giver = a; taker = b; tokens = tokens_at g p })
link_there g p a b narrow k = λ i. link_of g p (giver i) (taker i)
  where
    inside : (w : ℕ → ℕ) (t : ℕ) → w t ≡ 1 → ((t : ℕ) → length g.trans ≤ t → w t ≡ 0) → t < length g.trans
    inside w t one past = elim (cases_lt t (length g.trans)) [ inl low ↦ low | inr high ↦ absurd (omega (arith, one, past t high)) ]

    giver : sole_of (giving_trans g p) ≡ Some a
    giver = sole_there (length g.trans) (λ t. gives g t p) a (record { below = inside (λ t. gives g t p) a k.given (λ t past. (narrow t p past).1); one = k.given; alone = λ t low n. k.one_giver t n })

    taker : sole_of (taking_trans g p) ≡ Some b
    taker = sole_there (length g.trans) (λ t. takes g t p) b (record { below = inside (λ t. takes g t p) b k.taken (λ t past. (narrow t p past).0); one = k.taken; alone = λ t low n. k.one_taker t n })

-- what is no place is no link
pub no_link : (g : Graph) (p : ℕ) → is_some (place_at g p) ≡ false → link_at g p ≡ None
no_link g p gone = go (place_at g p) refl gone
  where
    go : (o : Option Place) → place_at g p ≡ o → is_some o ≡ false → link_at g p ≡ None
    go None e h = ap (λ xs. link_of g p (sole_of xs) (sole_of (taking_trans g p))) (none_from (λ t. gives g t p) (length g.trans) 0 (λ t l r. ap (given_by t) e))
    go (Some x) e h = absurd (false≢true (sym h))

-- a link stands at its place
pub link_place : (g : Graph) (n : ℕ) (l : Link) → link_at g n ≡ Some l → l.place ≡ n
link_place g n l e = go (sole_of (giving_trans g n)) (sole_of (taking_trans g n)) e
  where
    go : (x y : Option ℕ) → link_of g n x y ≡ Some l → l.place ≡ n
    go (Some a) (Some b) e = let z : record { place = n; giver = a; taker = b; tokens = tokens_at g n } ≡ l = cc in sym (ap (λ (l : Link). l.place) z)
    go (Some a) None e = absurd (none_some l e)
    go None o e = absurd (none_some l e)

-- one link stands at a place
pub one_link : (g : Graph) (n : ℕ) (k l : Link) → link_at g n ≡ Some k → link_at g n ≡ Some l → k ≡ l
one_link g n k l e f = let z : Some k ≡ Some l = sym e ∙ f in cc

-- a link at its own place is one of the graph
link_in : (g : Graph) (l : Link) → IsWeightlessPastLast g → link_at g l.place ≡ Some l
    → IsLinkAt g l.place l
link_in g l narrow e = link_is g l.place l narrow e

-- both ends of a link are live
pub giver_live : (g : Graph) (n : ℕ) (l : Link) → IsWeightlessPastLast g → IsWeightlessWhereRemoved g
    → link_at g n ≡ Some l → IsTrans g l.giver
giver_live g n l narrow gone e =
    let at = link_is g n l narrow e in
    live_where g l.giver (gives g l.giver n) (omega (arith, at.link.given)) (λ dead. (gone l.giver n at.giver_below dead).1)

pub taker_live : (g : Graph) (n : ℕ) (l : Link) → IsWeightlessPastLast g → IsWeightlessWhereRemoved g
    → link_at g n ≡ Some l → IsTrans g l.taker
taker_live g n l narrow gone e =
    let at = link_is g n l narrow e in
    live_where g l.taker (takes g l.taker n) (omega (arith, at.link.taken)) (λ dead. (gone l.taker n at.taker_below dead).0)

-- the places of a path are a chain
chain_from : (g : Graph) (p b : ℕ) → IsWeightlessPastLast g → (path : List Link) (a : ℕ)
    → IsPath g p a b path → IsChain g a b (map (λ (l : Link). l.place) path)
chain_from g p b narrow [] a e = e
chain_from g p b narrow (l ∷ path) a leads =
    let at = link_in g l narrow leads.0 in
    (l.taker, subst (λ x. IsLink g x l.taker l.place) leads.2 at.link, chain_from g p b narrow path l.taker leads.3)

-- none of them is p
others_from : (g : Graph) (p b : ℕ) (path : List Link) (a : ℕ) → IsPath g p a b path
    → All (λ q. q ≢ p) (map (λ (l : Link). l.place) path)
others_from g p b [] a e = All-nil (λ q. q ≢ p)
others_from g p b (l ∷ path) a leads = All-cons (λ q. q ≢ p) l.place (map (λ (l : Link). l.place) path) leads.1 (others_from g p b path l.taker leads.3)

-- they hold what the path holds
sum_from : (g : Graph) (p b : ℕ) → IsWeightlessPastLast g → (path : List Link) (a : ℕ)
    → IsPath g p a b path
    → sum_by (tokens_at g) (map (λ (l : Link). l.place) path) ≡ tokens_on path
sum_from g p b narrow [] a e = refl
sum_from g p b narrow (l ∷ path) a leads = omega (
  arith,
  sum_by-cons (tokens_at g) l.place (map (λ (l : Link). l.place) path),
  sum_by-cons (λ (l : Link). l.tokens) l path,
  (link_in g l narrow leads.0).tokens,
  sum_from g p b narrow path l.taker leads.3,
)

-- a link with a path beside it that holds at most its tokens is a shortcut
pub shortcut_is : (g : Graph) (p : ℕ) (l : Link) → IsWeightlessPastLast g → link_at g p ≡ Some l
    → l.giver ≢ l.taker → HasPath g l.place l.giver l.taker l.tokens 0
    → IsShortcut g p
shortcut_is g p l narrow e differ h =
    let at = link_is g p l narrow e in record {
      giver = l.giver;
      taker = l.taker;
      differ = differ;
      link = at.link;
      chain = map (λ (l : Link). l.place) h.path;
      leads = chain_from g l.place l.taker narrow h.path l.giver h.leads;
      apart = subst (λ x. All (λ q. q ≢ x) (map (λ (l : Link). l.place) h.path)) at.place (others_from g l.place l.taker h.path l.giver h.leads);
      held = omega (arith, sum_from g l.place l.taker narrow h.path l.giver h.leads, h.few, at.tokens);
    }

-- the path of a chain
record Paths (g : Graph) (p a b : ℕ) (chain : List ℕ) : Type 0 where
  path : List Link
  leads : IsPath g p a b path
  same : tokens_on path ≡ sum_by (tokens_at g) chain

-- the links of a chain are a path
path_from : (g : Graph) (p b : ℕ) → IsWeightlessPastLast g → (chain : List ℕ) (a : ℕ)
    → IsChain g a b chain → All (λ q. q ≢ p) chain → Paths g p a b chain
path_from g p b narrow [] a e others = record { path = []; leads = e; same = refl }
path_from g p b narrow (q ∷ chain) a leads others =
    let rest = path_from g p b narrow chain leads.0 leads.2 (All-tail (λ q. q ≢ p) q chain others) in
    let l : Link = record { place = q; giver = a; taker = leads.0; tokens = tokens_at g q } in
    record {
      path = l ∷ rest.path;
      leads = (link_there g q a leads.0 narrow leads.1, All-head (λ q. q ≢ p) q chain others, refl, rest.leads);
      same = omega (arith, sum_by-cons (λ (l : Link). l.tokens) l rest.path, sum_by-cons (tokens_at g) q chain, rest.same);
    }

-- a shortcut is a link with a path
shortcut_link : (g : Graph) (p : ℕ) → IsWeightlessPastLast g → (s : IsShortcut g p)
    → link_at g p ≡ Some (record { place = p; giver = s.giver; taker = s.taker; tokens = tokens_at g p })
shortcut_link g p narrow s = link_there g p s.giver s.taker narrow s.link

-- beside a shortcut a path leads that holds at most its tokens
shortcut_path : (g : Graph) (p : ℕ) → IsWeightlessPastLast g → (s : IsShortcut g p)
    → HasPath g p s.giver s.taker (tokens_at g p) 0
shortcut_path g p narrow s =
    let x = path_from g p s.taker narrow s.chain s.giver s.leads s.apart in
    record { path = x.path; leads = x.leads; few = omega (arith, x.same, s.held) }

-- the link of a shortcut is the one that is there
shortcut_same : (g : Graph) (p : ℕ) (l : Link) → IsWeightlessPastLast g → link_at g p ≡ Some l
    → (s : IsShortcut g p)
    → record { place = p; giver = s.giver; taker = s.taker; tokens = tokens_at g p } ≡ l
shortcut_same g p l narrow e s = same_some (record { place = p; giver = s.giver; taker = s.taker; tokens = tokens_at g p }) l (sym (shortcut_link g p narrow s) ∙ e)
  where
    same_some : (x y : Link) → Some x ≡ Some y → x ≡ y
    same_some x y e = cc

-- a link from a transition to itself is no shortcut
pub loop_no_shortcut : (g : Graph) (p : ℕ) (l : Link) → IsWeightlessPastLast g
    → link_at g p ≡ Some l → l.giver ≡ l.taker → IsShortcut g p → ⊥
loop_no_shortcut g p l narrow e loop s =
    let same = shortcut_same g p l narrow e s in
    s.differ (ap (λ (x : Link). x.giver) same ∙ loop ∙ sym (ap (λ (x : Link). x.taker) same))

-- a place that is no link is no shortcut
pub no_link_no_shortcut : (g : Graph) (p : ℕ) → IsWeightlessPastLast g → link_at g p ≡ None
    → IsShortcut g p → ⊥
no_link_no_shortcut g p narrow e s = none_some (record { place = p; giver = s.giver; taker = s.taker; tokens = tokens_at g p }) (sym e ∙ shortcut_link g p narrow s)

-- where a shortcut is, there is a path beside its link
pub shortcut_there : (g : Graph) (p : ℕ) (l : Link) → IsWeightlessPastLast g
    → link_at g p ≡ Some l → IsShortcut g p
    → HasPath g l.place l.giver l.taker l.tokens 0
shortcut_there g p l narrow e s =
    let P : Link → Type 0 = λ x. HasPath g x.place x.giver x.taker x.tokens 0 in
    subst P (shortcut_same g p l narrow e s) (shortcut_path g p narrow s)
