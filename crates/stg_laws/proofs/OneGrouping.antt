-- A net has one list of plain groups.
use Rattle.std.proofs.Common.{◌≡◌, ℕ, zero, suc, ◌<◌, ◌⊎◌, List, [], ◌∷◌, length, get_or, map, AllPairs, Contains, IsTrue, refl, sym, ap, ◌∙◌, subst, arith, inl, inr}
use Rattle.std.proofs.lemmas.List.{get_or-map, length-map, same_lists}
use Rattle.std.proofs.lemmas.List.Kept.{AllPairs-from_increasing}
use Rattle.stg_net.specs.Net.{NetLists}
use Rattle.stg_net.proofs.Members.{first_least}
use Rattle.stg_laws.specs.Groups.{is_driven_at, known_to, AreJoined, IsPlainGroup, least_own}
use Rattle.stg_laws.specs.PlainGroups.{Group, ArePlainGroups}
use Rattle.stg_laws.proofs.SignalConflicts.{joined_back}

abbrev Rise : List ℕ → Type 0
Rise xs = AllPairs (λ x y. x < y) xs

abbrev IsIn : List ℕ → List ℕ → Type 0
IsIn xs ys = (s : ℕ) → Contains xs s → Contains ys s

contained_head : (x : ℕ) (xs : List ℕ) → Contains (x ∷ xs) x
contained_head x xs = (0, omega arith, refl)

contained_tail : (x s : ℕ) (xs : List ℕ) → Contains xs s → Contains (x ∷ xs) s
contained_tail x s xs c = (suc c.0, omega (arith, c.1), c.2)

split : (x s : ℕ) (xs : List ℕ) → Contains (x ∷ xs) s → (s ≡ x) ⊎ Contains xs s
split x s xs c = go c.0 c.1 c.2
  where
    go : (k : ℕ) → k < length (x ∷ xs) → get_or (x ∷ xs) k s ≡ s → (s ≡ x) ⊎ Contains xs s
    go zero inside e = inl (sym e)
    go (suc k) inside e = inr (k, omega arith, e)

head_below : (x s : ℕ) (xs : List ℕ) → Rise (x ∷ xs) → Contains xs s → x < s
head_below x s xs rise c = omega (arith, rise 0 (suc c.0) s (omega arith) (omega (arith, c.1)), c.2)

tail_rise : (x : ℕ) (xs : List ℕ) → Rise (x ∷ xs) → Rise xs
tail_rise x xs rise i j d lt below = rise (suc i) (suc j) d (omega arith) (omega arith)

no_member : (s : ℕ) → Contains [] s → ⊥
no_member s c = absurd (omega (arith, c.1))

same_head : (x y : ℕ) (xs ys : List ℕ) → Rise (x ∷ xs) → Rise (y ∷ ys) → IsIn (x ∷ xs) (y ∷ ys) → IsIn (y ∷ ys) (x ∷ xs) → x ≡ y
same_head x y xs ys rise_x rise_y to from = elim (split y x ys (to x (contained_head x xs))) [
  | inl e ↦ e
  | inr c ↦ elim (split x y xs (from y (contained_head y ys))) [
    | inl e ↦ sym e
    | inr d ↦ absurd (omega (arith, head_below y x ys rise_y c, head_below x y xs rise_x d))
  ]
]

tail_in : (x y : ℕ) (xs ys : List ℕ) → x ≡ y → Rise (x ∷ xs) → IsIn (x ∷ xs) (y ∷ ys) → IsIn xs ys
tail_in x y xs ys same rise to s c = elim (split y s ys (to s (contained_tail x s xs c))) [
  | inl e ↦ absurd (omega (arith, e, same, head_below x s xs rise c))
  | inr d ↦ d
]

-- rising lists with the same members are one
pub same_members : (xs ys : List ℕ) → Rise xs → Rise ys → IsIn xs ys → IsIn ys xs → xs ≡ ys
same_members [] [] rise_x rise_y to from = refl
same_members [] (y ∷ ys) rise_x rise_y to from = absurd (no_member y (from y (contained_head y ys)))
same_members (x ∷ xs) [] rise_x rise_y to from = absurd (no_member x (to x (contained_head x xs)))
same_members (x ∷ xs) (y ∷ ys) rise_x rise_y to from =
    let same = same_head x y xs ys rise_x rise_y to from in
    (λ i. same i ∷ same_members xs ys (tail_rise x xs rise_x) (tail_rise y ys rise_y) (tail_in x y xs ys same rise_x to) (tail_in y x ys xs (sym same) rise_y from) i)

abbrev leasts : List Group → List ℕ
leasts groups = map (λ (g : Group). least_own g.own) groups

no_group : Group
no_group = record { own = []; known = [] }

least_at : (groups : List Group) (k d : ℕ) (g : Group) → k < length groups → get_or (leasts groups) k d ≡ least_own (get_or groups k g).own
least_at groups k d g inside = get_or-map (λ (x : Group). least_own x.own) groups k g d inside

leasts_rise : (n : NetLists) (groups : List Group) → ArePlainGroups n groups → Rise (leasts groups)
leasts_rise n groups a i j d lt below =
    let inside : j < length groups = omega (arith, below, length-map groups (λ (x : Group). least_own x.own)) in
    omega (arith, a.ordered i j no_group lt inside, least_at groups i d no_group (omega (arith, inside, lt)), least_at groups j d no_group inside)

-- a least signal of one list is one of the other
leasts_in : (n : NetLists) (groups others : List Group) → ArePlainGroups n groups → ArePlainGroups n others → IsIn (leasts groups) (leasts others)
leasts_in n groups others a b s c =
    let k = c.0 in
    let inside : k < length groups = omega (arith, c.1, length-map groups (λ (x : Group). least_own x.own)) in
    let g = get_or groups k no_group in
    let one : IsPlainGroup n g.own = a.plain k no_group inside in
    let s_is : least_own g.own ≡ s = sym (least_at groups k s no_group inside) ∙ c.2 in
    let output : IsTrue (is_driven_at n.signals s) = ap (is_driven_at n.signals) (sym s_is) ∙ one.driven in
    let found = b.whole s output in
    let m = found.0 in
    let other = found.1 in
    let two : IsPlainGroup n other.own = subst (λ (x : Group). IsPlainGroup n x.own) found.3 (b.plain m other found.2) in
    let back : AreJoined n (least_own other.own) s = (two.joined s).0 found.4 in
    let P : ℕ → Type 0 = λ x. AreJoined n x (least_own other.own) in
    let member = (one.joined (least_own other.own)).1 (subst P (sym s_is) (joined_back n (least_own other.own) s back)) in
    let same : least_own other.own ≡ s = omega (arith, first_least other.own s two.ascends found.4, first_least g.own (least_own other.own) one.ascends member, s_is) in (
      m,
      omega (arith, found.2, length-map others (λ (x : Group). least_own x.own)),
      least_at others m s other found.2 ∙ ap (λ (x : Group). least_own x.own) found.3 ∙ same,
    )

own_in : (n : NetLists) (one other : List ℕ) → IsPlainGroup n one → IsPlainGroup n other → least_own one ≡ least_own other → IsIn one other
own_in n one other a b same s c = let P : ℕ → Type 0 = λ x. AreJoined n x s in (b.joined s).1 (subst P same ((a.joined s).0 c))

same_own : (n : NetLists) (one other : List ℕ) → IsPlainGroup n one → IsPlainGroup n other → least_own one ≡ least_own other → one ≡ other
same_own n one other a b same =
    same_members one other (AllPairs-from_increasing one a.ascends) (AllPairs-from_increasing other b.ascends) (own_in n one other a b same) (own_in n other one b a (sym same))

-- a net has one list of plain groups
pub plain_groups-unique : (n : NetLists) (groups others : List Group) → ArePlainGroups n groups → ArePlainGroups n others → groups ≡ others
plain_groups-unique n groups others a b = same_lists groups others long each
  where
    least_same : leasts groups ≡ leasts others
    least_same = same_members (leasts groups) (leasts others) (leasts_rise n groups a) (leasts_rise n others b) (leasts_in n groups others a b) (leasts_in n others groups b a)

    long : length groups ≡ length others
    long = sym (length-map groups (λ (x : Group). least_own x.own)) ∙ ap (λ (xs : List ℕ). length xs) least_same ∙ length-map others (λ (x : Group). least_own x.own)

    each : (k : ℕ) (d : Group) → k < length groups → get_or groups k d ≡ get_or others k d
    each k d inside =
        let also : k < length others = omega (arith, inside, long) in
        let same : least_own (get_or groups k d).own ≡ least_own (get_or others k d).own =
        sym (least_at groups k 0 d inside) ∙ ap (λ xs. get_or xs k 0) least_same ∙ least_at others k 0 d also in
        let own = same_own n (get_or groups k d).own (get_or others k d).own (a.plain k d inside) (b.plain k d also) same in
        let known : (get_or groups k d).known ≡ (get_or others k d).known = a.known k d inside ∙ ap (known_to n) own ∙ sym (b.known k d also) in
        (λ i. record { own = own i; known = known i })
