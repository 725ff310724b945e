-- The full names of live transitions, and runs by their names.
use Rattle.std.proofs.Common.{◌≡◌, ℕ, List, [], ◌∷◌, ◌++◌, Option, Some, None, is_some, true, refl, sym, ◌∙◌, ap}
use Rattle.std.specs.List.{AllByRecursion, cons_option}
use Rattle.std.proofs.lemmas.Bool.{false≢true}
use Rattle.stg_net.specs.Graph.{Graph, FullName, IsTrans, full_name_at}
use Rattle.stg_net.specs.Run.{Marking, IsRunFrom, fired}
use Rattle.stg_laws.specs.Cuts.{names_of}
use Rattle.stg_laws.specs.Stgs.{HasDistinctNames}

-- the full name of t
pub record Named (g : Graph) (t : ℕ) : Type 0 where
  pub name : FullName
  pub has : full_name_at g t ≡ Some name

-- what is live has a full name
pub named : (g : Graph) (t : ℕ) → IsTrans g t → Named g t
named g t live = go (full_name_at g t) refl live
  where
    go : (o : Option FullName) → full_name_at g t ≡ o → is_some o ≡ true → Named g t
    go None e l = absurd (false≢true l)
    go (Some name) e l = record { name = name; has = e }

-- what has a full name is live
pub live_from : (g : Graph) (t : ℕ) (name : FullName) → full_name_at g t ≡ Some name → IsTrans g t
live_from g t name e = rw e

-- all transitions of the list are live
abbrev pub AreLive : Graph → List ℕ → Type 0
AreLive g w = AllByRecursion (IsTrans g) w

pub live_run : (g : Graph) (m : Marking) (w : List ℕ) → IsRunFrom g m w → AreLive g w
live_run g m [] run = tt
live_run g m (t ∷ w) run = (run.0.live, live_run g (fired g m t) w run.1)

-- where names tell the transitions apart, they tell the lists apart
pub same_from_names : (g : Graph) → HasDistinctNames g → (v w : List ℕ) → AreLive g v → AreLive g w → names_of g v ≡ names_of g w → v ≡ w
same_from_names g distinct [] [] a b e = refl
same_from_names g distinct [] (u ∷ w) a b e = let x = named g u b.0 in let f : [] ≡ x.name ∷ names_of g w = rw x.has at e in absurd (cc)
same_from_names g distinct (t ∷ v) [] a b e = let x = named g t a.0 in let f : x.name ∷ names_of g v ≡ [] = rw x.has at e in absurd (cc)
same_from_names g distinct (t ∷ v) (u ∷ w) a b e =
    let x = named g t a.0 in
    let y = named g u b.0 in
    let f : x.name ∷ names_of g v ≡ y.name ∷ names_of g w = rw (x.has, y.has) at e in
    let first : x.name ≡ y.name = cc in
    let rest : names_of g v ≡ names_of g w = cc in
    let here : t ≡ u = distinct t u x.name x.has (y.has ∙ ap Some (sym first)) in
    let later : v ≡ w = same_from_names g distinct v w a.1 b.1 rest in
    cc

-- one more transition has one more name
pub names_last : (g : Graph) (v : List ℕ) (t : ℕ) (name : FullName) → full_name_at g t ≡ Some name → names_of g (v ++ t ∷ []) ≡ names_of g v ++ name ∷ []
names_last g [] t name has = rw has refl
names_last g (u ∷ v) t name has = go (full_name_at g u) (names_last g v t name has)
  where
    go : (o : Option FullName) → names_of g (v ++ t ∷ []) ≡ names_of g v ++ name ∷ [] → cons_option o (names_of g (v ++ t ∷ [])) ≡ cons_option o (names_of g v) ++ name ∷ []
    go None e = e
    go (Some x) e = ap (λ names. x ∷ names) e

-- a list with one more name has one more transition
pub record SplitsLast (g : Graph) (v w : List ℕ) (name : FullName) : Type 0 where
  pub last : ℕ
  pub is_last : w ≡ v ++ last ∷ []
  pub has : full_name_at g last ≡ Some name

pub split_last : (g : Graph) → HasDistinctNames g → (v w : List ℕ) (name : FullName) → AreLive g v → AreLive g w → names_of g w ≡ names_of g v ++ name ∷ [] → SplitsLast g v w name
split_last g distinct [] [] name a b e = absurd (cc)
split_last g distinct [] (u ∷ []) name a b e =
    let y = named g u b.0 in
    let f : y.name ∷ [] ≡ name ∷ [] = rw y.has at e in
    let same : y.name ≡ name = cc in
    record { last = u; is_last = refl; has = y.has ∙ ap Some same }
split_last g distinct [] (u ∷ x ∷ w) name a b e =
    let y = named g u b.0 in
    let z = named g x b.1.0 in
    let f : y.name ∷ z.name ∷ names_of g w ≡ name ∷ [] = rw (y.has, z.has) at e in
    absurd (cc)
split_last g distinct (t ∷ v) [] name a b e =
    let x = named g t a.0 in
    let f : [] ≡ x.name ∷ (names_of g v ++ name ∷ []) = rw x.has at e in
    absurd (cc)
split_last g distinct (t ∷ v) (u ∷ w) name a b e =
    let x = named g t a.0 in
    let y = named g u b.0 in
    let f : y.name ∷ names_of g w ≡ x.name ∷ (names_of g v ++ name ∷ []) = rw (x.has, y.has) at e in
    let first : y.name ≡ x.name = cc in
    let rest : names_of g w ≡ names_of g v ++ name ∷ [] = cc in
    let here : u ≡ t = distinct u t y.name y.has (x.has ∙ ap Some (sym first)) in
    let s = split_last g distinct v w name a.1 b.1 rest in
    let tail : w ≡ v ++ s.last ∷ [] = s.is_last in
    record { last = s.last; is_last = cc; has = s.has }
