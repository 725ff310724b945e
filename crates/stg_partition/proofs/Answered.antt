-- Each text names one partition of a net, or is refused by one error.
use Rattle.std.proofs.Common.{◌≡◌, ◌<◌, ◌⊎◌, ℕ, zero, suc, if◌then◌else◌, Bool, true, false, List, length, map, Option, Some, None, Result, Ok, Err, refl, sym, ap, ◌∙◌, subst, arith, inl, inr}
use Rattle.std.specs.List.{range_with_len}
use Rattle.std.proofs.lemmas.Bool.{cases_Bool, cases_lt, cases_order, false≢true}
use Rattle.std.proofs.lemmas.List.{length-map}
use Rattle.std.proofs.lemmas.List.FromFn.{length-range_with_len, get_or-map-range_with_len}
use Rattle.stg_net.specs.Net.{NetLists, IsNet}
use Rattle.stg_laws.specs.PlainGroups.{Group, AreFeasible}
use Rattle.stg_partition.specs.declared.error.GroupError.{GroupError}
use Rattle.stg_partition.specs.declared.error.GroupError.TheVariants as errors
use Rattle.stg_partition.specs.declared.splits.Split.{Split}
use Rattle.stg_partition.specs.PartitionText.{GroupRow, rows_of}
use Rattle.stg_partition.specs.Partition.{row_group, row_groups, groups_in, is_missing, AreWhole, IsLeastSplit, ArePartition, IsRefusedPartition, IsAnswer, HasOneAnswer}
use Rattle.stg_partition.specs.inner.Naming.{AreNamedGroups, AreRefusedBy}
use Rattle.stg_partition.specs.inner.Numbers.{group_number, AreNumbers}
use Rattle.stg_partition.specs.inner.Splits.{least_takers, least_split, AreLeastTakers}
use Rattle.stg_partition.proofs.GroupNumbers.{missing_there}
use Rattle.stg_partition.proofs.GoodRows.{read_good, refused_line, IsOfLine}
use Rattle.stg_partition.proofs.NamedGroups.{rows_named}
use Rattle.stg_partition.proofs.Feasible.{unsplit_feasible, feasible_whole, feasible_unsplit}
use Rattle.stg_partition.proofs.Splitting.{some_split, none_split}
use Rattle.stg_partition.proofs.Takers.{are_least_takers}

no_ok : {A : Type 0} (groups : List Group) (e : GroupError) → ◌≡◌ {A = Result (List Group) GroupError} (Ok groups) (Err e) → A
no_ok groups e f = absurd (cc)

-- what the groups of a text are
pub named_groups : (n : NetLists) (text : List ℕ) (groups : List Group) → IsNet n → groups_in n text ≡ Ok groups → AreNamedGroups n groups
named_groups n text groups net e = go (rows_of n.signals text) refl
  where
    go : (r : Result (List GroupRow) GroupError) → rows_of n.signals text ≡ r → AreNamedGroups n groups
    go (Err f) r_is = let none : Err f ≡ Ok groups = sym (ap (row_groups n) r_is) ∙ e in absurd (cc)
    go (Ok rows) r_is =
        let told : Ok (map (row_group n) rows) ≡ Ok groups = sym (ap (row_groups n) r_is) ∙ e in
        let same : map (row_group n) rows ≡ groups = cc in
        subst (AreNamedGroups n) same (rows_named n rows net (read_good n.signals text rows r_is))

of_refused : (n : NetLists) (text : List ℕ) (e : GroupError) → groups_in n text ≡ Err e → IsOfLine e
of_refused n text e f = go (rows_of n.signals text) refl
  where
    go : (r : Result (List GroupRow) GroupError) → rows_of n.signals text ≡ r → IsOfLine e
    go (Ok rows) r_is = let none : Ok (map (row_group n) rows) ≡ Err e = sym (ap (row_groups n) r_is) ∙ f in absurd (cc)
    go (Err g) r_is =
        let told : Err g ≡ Err e = sym (ap (row_groups n) r_is) ∙ f in
        let same : g ≡ e = cc in
        subst IsOfLine same (refused_line n.signals text g r_is)

-- a line's refusal is the text's
pub line_refused : (n : NetLists) (text : List ℕ) (e : GroupError) → groups_in n text ≡ Err e → IsRefusedPartition n text e
line_refused n text e f = go e (of_refused n text e f) f
  where
    go : (g : GroupError) → IsOfLine g → groups_in n text ≡ Err g → IsRefusedPartition n text g
    go (errors.BadLine line) is h = h
    go (errors.UnknownOutput line) is h = h
    go (errors.OutputTwice line) is h = h
    go (errors.OutputMissing s) is h = absurd is
    go (errors.SplitConflict x y place) is h = absurd is
    go errors.NoMemory is h = absurd is

-- and so is that of its groups
pub groups_refused : (n : NetLists) (text : List ℕ) (groups : List Group) (e : GroupError) → groups_in n text ≡ Ok groups → AreRefusedBy n groups e → IsRefusedPartition n text e
groups_refused n text groups (errors.BadLine line) named r = absurd r
groups_refused n text groups (errors.UnknownOutput line) named r = absurd r
groups_refused n text groups (errors.OutputTwice line) named r = absurd r
groups_refused n text groups (errors.OutputMissing s) named r = record { groups = groups; named = named; least = r }
groups_refused n text groups (errors.SplitConflict x y place) named r = record { groups = groups; named = named; whole = r.0; least = r.1 }
groups_refused n text groups errors.NoMemory named r = absurd r

-- the first number below the bound that passes
abbrev or_here : Option ℕ → Bool → ℕ → Option ℕ
or_here (Some k) passes n = Some k
or_here None passes n = if passes then Some n else None

abbrev pub first_of : (ℕ → Bool) → ℕ → Option ℕ
first_of test zero = None
first_of test (suc n) = or_here (first_of test n) (test n) n

-- it passes, and no lesser one does; or none does
abbrev IsFirst : (ℕ → Bool) → ℕ → Option ℕ → Type 0
IsFirst test n None = (r : ℕ) → r < n → test r ≡ false
IsFirst test n (Some k) = (k < n) × (test k ≡ true) × ((r : ℕ) → r < k → test r ≡ false)

first_is : (test : ℕ → Bool) (n : ℕ) → IsFirst test n (first_of test n)
first_is test zero = λ r below. absurd (omega arith)
first_is test (suc n) = go (first_of test n) (first_is test n)
  where
    go : (o : Option ℕ) → IsFirst test n o → IsFirst test (suc n) (or_here o (test n) n)
    go (Some k) f = (omega (arith, f.0), f.1, f.2)
    go None none = elim (cases_Bool (test n)) [
      | inl e ↦ rw e (omega arith, e, none)
      | inr e ↦ rw e (λ r below. elim (cases_lt r n) [
        | inl l ↦ none r l
        | inr past ↦ let same : n ≡ r = omega arith in ap test (sym same) ∙ e
      ])
    ]

abbrev pub numbers_of : NetLists → List Group → List (Option ℕ)
numbers_of n groups = map (group_number groups) (range_with_len 0 (length n.signals))

are_numbers : (n : NetLists) (groups : List Group) → AreNumbers n groups (numbers_of n groups)
are_numbers n groups = record {
  long = length-map (range_with_len 0 (length n.signals)) (group_number groups) ∙ length-range_with_len 0 (length n.signals);
  each = λ s there. get_or-map-range_with_len (group_number groups) 0 (length n.signals) s s None there (omega arith);
}

abbrev nothing : ℕ → Option ℕ
nothing p = None

abbrev pub takers_of : NetLists → List (Option ℕ)
takers_of n = least_takers n (map nothing (range_with_len 0 (length n.tokens))) n.arcs

are_takers : (n : NetLists) → IsNet n → AreLeastTakers n (takers_of n)
are_takers n net =
    let long = length-map (range_with_len 0 (length n.tokens)) nothing ∙ length-range_with_len 0 (length n.tokens) in
    are_least_takers n (map nothing (range_with_len 0 (length n.tokens))) (takers_of n) net long
    (λ p d inside. get_or-map-range_with_len nothing 0 (length n.tokens) p p d (omega (arith, inside, long)) (omega arith)) refl

-- the answer that a search of the text's groups finds
abbrev by_split : List Group → Option Split → Result (List Group) GroupError
by_split groups (Some c) = Err (errors.SplitConflict c.x c.y c.place)
by_split groups None = Ok groups

abbrev by_missing : NetLists → List Group → Option ℕ → Result (List Group) GroupError
by_missing n groups (Some s) = Err (errors.OutputMissing s)
by_missing n groups None = by_split groups (least_split n (numbers_of n groups) (takers_of n) n.arcs)

abbrev by_groups : NetLists → Result (List Group) GroupError → Result (List Group) GroupError
by_groups n (Err e) = Err e
by_groups n (Ok groups) = by_missing n groups (first_of (is_missing n groups) (length n.signals))

abbrev pub answer_of : NetLists → List ℕ → Result (List Group) GroupError
answer_of n text = by_groups n (groups_in n text)

split_is : (n : NetLists) (text : List ℕ) (groups : List Group) → IsNet n → groups_in n text ≡ Ok groups → AreNamedGroups n groups → AreWhole n groups → (o : Option Split) → o ≡ least_split n (numbers_of n groups) (takers_of n) n.arcs
    → IsAnswer n text (by_split groups o)
split_is n text groups net named are whole None o_is = record {
  named = named;
  feasible = unsplit_feasible n groups are whole (none_split n groups (numbers_of n groups) (takers_of n) are whole (are_numbers n groups) (are_takers n net) o_is);
}
split_is n text groups net named are whole (Some c) o_is = record {
  groups = groups;
  named = named;
  whole = whole;
  least = some_split n groups (numbers_of n groups) (takers_of n) are whole (are_numbers n groups) (are_takers n net) c o_is;
}

missing_is : (n : NetLists) (text : List ℕ) (groups : List Group) → IsNet n → groups_in n text ≡ Ok groups → (o : Option ℕ) → IsFirst (is_missing n groups) (length n.signals) o → IsAnswer n text (by_missing n groups o)
missing_is n text groups net named (Some s) f = record {
  groups = groups;
  named = named;
  least = record {
    missing = f.1;
    least = λ r missing. elim (cases_lt r s) [ inl low ↦ absurd (false≢true (sym (f.2 r low) ∙ missing)) | inr up ↦ up ];
  };
}
missing_is n text groups net named None none =
    split_is n text groups net named (named_groups n text groups net named) (λ s missing. false≢true (sym (none s (missing_there n groups s missing)) ∙ missing))
    (least_split n (numbers_of n groups) (takers_of n) n.arcs) refl

-- a text has this answer
pub answer_is : (n : NetLists) (text : List ℕ) → IsNet n → IsAnswer n text (answer_of n text)
answer_is n text net = go (groups_in n text) refl
  where
    go : (g : Result (List Group) GroupError) → groups_in n text ≡ g → IsAnswer n text (by_groups n g)
    go (Err e) named = line_refused n text e named
    go (Ok groups) named = missing_is n text groups net named (first_of (is_missing n groups) (length n.signals)) (first_is (is_missing n groups) (length n.signals))

-- why a text is refused: by a line, or by its groups
Refusal : NetLists → List ℕ → GroupError → Type 0
Refusal n text e = (groups_in n text ≡ Err e) ⊎ ((groups : List Group) × (groups_in n text ≡ Ok groups) × AreRefusedBy n groups e)

refusal : (n : NetLists) (text : List ℕ) (e : GroupError) → IsRefusedPartition n text e → Refusal n text e
unfolding Refusal
refusal n text (errors.BadLine line) r = inl r
refusal n text (errors.UnknownOutput line) r = inl r
refusal n text (errors.OutputTwice line) r = inl r
refusal n text (errors.OutputMissing s) r = inr (r.groups, r.named, r.least)
refusal n text (errors.SplitConflict x y place) r = inr (r.groups, r.named, (r.whole, r.least))
refusal n text errors.NoMemory r = absurd r

same_ok : (groups others : List Group) → ◌≡◌ {A = Result (List Group) GroupError} (Ok groups) (Ok others) → groups ≡ others
same_ok groups others e = cc

same_err : (e f : GroupError) → ◌≡◌ {A = Result (List Group) GroupError} (Err e) (Err f) → e ≡ f
same_err e f h = cc

-- feasible groups aren't refused
feasible_not_refused : (n : NetLists) (groups : List Group) (e : GroupError) → IsNet n → AreFeasible n groups → AreRefusedBy n groups e → ⊥
feasible_not_refused n groups (errors.BadLine line) net a r = r
feasible_not_refused n groups (errors.UnknownOutput line) net a r = r
feasible_not_refused n groups (errors.OutputTwice line) net a r = r
feasible_not_refused n groups (errors.OutputMissing s) net a r = feasible_whole n groups a s r.missing
feasible_not_refused n groups (errors.SplitConflict x y place) net a r = feasible_unsplit n groups net a x y place r.1.split
feasible_not_refused n groups errors.NoMemory net a r = r

-- of two least splits none is the lesser
same_split : (n : NetLists) (groups : List Group) (x y p v w q : ℕ) → IsLeastSplit n groups x y p → IsLeastSplit n groups v w q → errors.SplitConflict x y p ≡ errors.SplitConflict v w q
same_split n groups x y p v w q one other =
    let a = one.least v w q other.split in
    let b = other.least x y p one.split in
    let x_is : x ≡ v = elim (cases_order x v) [
      | inl e ↦ e
      | inr o ↦ elim o [ inl l ↦ absurd (b (inl l)) | inr l ↦ absurd (a (inl l)) ]
    ] in
    let y_is : y ≡ w = elim (cases_order y w) [
      | inl e ↦ e
      | inr o ↦ elim o [ inl l ↦ absurd (b (inr (x_is, inl l))) | inr l ↦ absurd (a (inr (sym x_is, inl l))) ]
    ] in
    let p_is : p ≡ q = elim (cases_order p q) [
      | inl e ↦ e
      | inr o ↦ elim o [ inl l ↦ absurd (b (inr (x_is, inr (y_is, l)))) | inr l ↦ absurd (a (inr (sym x_is, inr (sym y_is, l)))) ]
    ] in
    (λ i. errors.SplitConflict (x_is i) (y_is i) (p_is i))

-- groups are refused by one error
same_refused : (n : NetLists) (groups : List Group) (e f : GroupError) → AreRefusedBy n groups e → AreRefusedBy n groups f → e ≡ f
same_refused n groups (errors.BadLine line) f r s = absurd r
same_refused n groups (errors.UnknownOutput line) f r s = absurd r
same_refused n groups (errors.OutputTwice line) f r s = absurd r
same_refused n groups errors.NoMemory f r s = absurd r
same_refused n groups (errors.OutputMissing x) (errors.BadLine line) r s = absurd s
same_refused n groups (errors.OutputMissing x) (errors.UnknownOutput line) r s = absurd s
same_refused n groups (errors.OutputMissing x) (errors.OutputTwice line) r s = absurd s
same_refused n groups (errors.OutputMissing x) errors.NoMemory r s = absurd s
same_refused n groups (errors.OutputMissing x) (errors.OutputMissing y) r s = let same : x ≡ y = omega (arith, r.least y s.missing, s.least x r.missing) in ap errors.OutputMissing same
same_refused n groups (errors.OutputMissing x) (errors.SplitConflict v w q) r s = absurd (s.0 x r.missing)
same_refused n groups (errors.SplitConflict x y p) (errors.BadLine line) r s = absurd s
same_refused n groups (errors.SplitConflict x y p) (errors.UnknownOutput line) r s = absurd s
same_refused n groups (errors.SplitConflict x y p) (errors.OutputTwice line) r s = absurd s
same_refused n groups (errors.SplitConflict x y p) errors.NoMemory r s = absurd s
same_refused n groups (errors.SplitConflict x y p) (errors.OutputMissing v) r s = absurd (r.0 v s.missing)
same_refused n groups (errors.SplitConflict x y p) (errors.SplitConflict v w q) r s = same_split n groups x y p v w q r.1 s.1

-- a partition isn't refused
pub partition-not_refused : {A : Type 0} (n : NetLists) (text : List ℕ) (groups : List Group) (e : GroupError) → IsNet n → ArePartition n text groups → IsRefusedPartition n text e → A
unfolding Refusal
partition-not_refused n text groups e net a r = elim (refusal n text e r) [
  | inl f ↦ no_ok groups e (sym a.named ∙ f)
  | inr f ↦ absurd (feasible_not_refused n groups e net a.feasible (subst (λ gs. AreRefusedBy n gs e) (same_ok f.0 groups (sym f.1 ∙ a.named)) f.2))
]

one_refusal : (n : NetLists) (text : List ℕ) (e f : GroupError) → IsRefusedPartition n text e → IsRefusedPartition n text f → e ≡ f
unfolding Refusal
one_refusal n text e f r s = elim (refusal n text e r) [
  | inl a ↦ elim (refusal n text f s) [
    | inl b ↦ same_err e f (sym a ∙ b)
    | inr b ↦ no_ok b.0 e (sym b.1 ∙ a)
  ]
  | inr a ↦ elim (refusal n text f s) [
    | inl b ↦ no_ok a.0 f (sym a.1 ∙ b)
    | inr b ↦ same_refused n a.0 e f a.2 (subst (λ gs. AreRefusedBy n gs f) (same_ok b.0 a.0 (sym b.1 ∙ a.1)) b.2)
  ]
]

-- and no other
one_answer : (n : NetLists) (text : List ℕ) (r s : Result (List Group) GroupError) → IsNet n → IsAnswer n text r → IsAnswer n text s → s ≡ r
one_answer n text (Ok groups) (Ok others) net a b = sym b.named ∙ a.named
one_answer n text (Ok groups) (Err f) net a b = partition-not_refused n text groups f net a b
one_answer n text (Err e) (Ok others) net a b = partition-not_refused n text others e net b a
one_answer n text (Err e) (Err f) net a b = ap Err (one_refusal n text f e b a)

pub has_one_answer : (n : NetLists) (text : List ℕ) → IsNet n → HasOneAnswer n text
has_one_answer n text net = record {
  answer = answer_of n text;
  is = answer_is n text net;
  only = λ other b. one_answer n text (answer_of n text) other net (answer_is n text net) b;
}
