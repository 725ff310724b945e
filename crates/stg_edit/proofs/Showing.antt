-- One more signal is known: the list of known ones, and the drafts.
use Rattle.std.proofs.Common.{◌≡◌, ◌≢◌, ◌<◌, ◌==◌, ◌||◌, ◌↔◌, ◌⊎◌, ℕ, zero, suc, Bool, true, false, List, [], ◌∷◌, All, AllPairs, map, length, get_or, set, Some, refl, sym, ap, ◌∙◌, subst, eq-eqb, inl, inr, arith}
use Rattle.std.specs.List.{list_any}
use Rattle.std.specs.Str.{bytes_eq}
use Rattle.std.proofs.lemmas.Bool.{cases_Bool, cases_eq, cases_lt, eqb-true, ne_eqb, false≢true}
use Rattle.std.proofs.lemmas.List.{get_or-set_same, get_or-set_other, get_or_past, length-set}
use Rattle.std.proofs.lemmas.List.Elements.{All-nil, All-cons}
use Rattle.std.proofs.lemmas.List.Folds.{list_any-append}
use Rattle.std.proofs.lemmas.Simd.{map-map}
use Rattle.std.proofs.lemmas.Slice.Eq.{bytes_eq-Decides}
use Rattle.stg_net.specs.declared.signal.Signal.{Signal}
use Rattle.stg_net.specs.declared.trans.TransName.{TransName}
use Rattle.stg_net.specs.Net.{NetLists, IsNet, signal_at}
use Rattle.stg_net.specs.Component.{is_one_of}
use Rattle.stg_net.specs.Graph.{Graph, FullName, IsDummy, is_among, full_name_at, has_signal_of}
use Rattle.stg_net.specs.Initial.{initial}
use Rattle.stg_net.specs.Ordered.{numbers_where, only_where}
use Rattle.stg_net.proofs.Buckets.{All-listed_below}
use Rattle.stg_net.proofs.Givers.{numbers_where-agree}
use Rattle.stg_arena.specs.ArenaView.{Layout}
use Rattle.stg_edit.specs.declared.edit_start.EditStart.{EditStart}
use Rattle.stg_edit.specs.Shown.{known_and, with_shown}
use Rattle.stg_edit.specs.inner.DraftAt.{Base, draft_at, now_of, past_of}
use Rattle.stg_edit.specs.inner.Sizes.{size_of}
use Rattle.stg_edit.specs.inner.View.{base_of, IsNamed}
use Rattle.stg_edit.proofs.DraftOfLive.{among_known}

-- the numbers that pass are below the bound
pub numbers_below : (f : ℕ → Bool) (n : ℕ) → All (λ k. k < n) (numbers_where f n)
numbers_below f n = All-listed_below (λ k. k < n) (only_where f) n (λ k below. only_below k below)
  where
    only_below : (k : ℕ) → k < n → All (λ k. k < n) (only_where f k)
    only_below k below = elim (cases_Bool (f k)) [
      | inl e ↦ rw e (All-cons (λ k. k < n) k [] below (All-nil (λ k. k < n)))
      | inr e ↦ rw e (All-nil (λ k. k < n))
    ]

-- a number is listed exactly where it passes, if none passes at the bound and past it
pub numbers_any : (f : ℕ → Bool) (n k : ℕ) → ((k < n → ⊥) → f k ≡ false)
    → list_any (λ j. j == k) (numbers_where f n) ≡ f k
numbers_any f zero k past = sym (past (λ l. omega (arith, l)))
numbers_any f (suc n) k past =
    list_any-append (λ j. j == k) (numbers_where f n) (only_where f n)
    ∙ elim (cases_eq n k) [
      | inl e ↦ elim (cases_Bool (f n)) [
        | inl pass ↦ rw pass (rw (eq-eqb n k e) (or_true (list_any (λ j. j == k) (numbers_where f n)) ∙ sym pass ∙ ap f e))
        | inr fail ↦ rw fail (or_false (list_any (λ j. j == k) (numbers_where f n)) ∙ numbers_any f n k (λ l. sym (ap f e) ∙ fail))
      ]
      | inr other ↦ elim (cases_Bool (f n)) [
        | inl pass ↦ rw pass (rw (ne_eqb n k other) (or_false (list_any (λ j. j == k) (numbers_where f n)) ∙ numbers_any f n k (λ out. past (still other out))))
        | inr fail ↦ rw fail (or_false (list_any (λ j. j == k) (numbers_where f n)) ∙ numbers_any f n k (λ out. past (still other out)))
      ]
    ]
  where
    or_true : (b : Bool) → (b || true) ≡ true
    or_true true = refl
    or_true false = refl

    or_false : (b : Bool) → (b || false) ≡ b
    or_false true = refl
    or_false false = refl

    still : (n ≡ k → ⊥) → (k < n → ⊥) → k < suc n → ⊥
    still other out l = elim (cases_lt k n) [ inl low ↦ out low | inr high ↦ other (omega (arith, l, high)) ]

-- the names of these signals
abbrev pub names_of : List Signal → List ℕ → List (List ℕ)
names_of signals known = map (λ k. (signal_at signals k).name) known

-- a signal of the list is known then exactly where it was known or is the one that is shown
pub among_shown : (signals : List Signal) (s k : ℕ) (g : Graph) → AllPairs (λ (x y : Signal). x.name ≢ y.name) signals → k < length signals
    → is_among (with_shown signals s g).known (signal_at signals k).name ≡ (is_among g.known (signal_at signals k).name || (k == s))
among_shown signals s k g differ inside =
    let f : ℕ → Bool = λ k. is_among g.known (signal_at signals k).name || (k == s) in
    among_known signals (known_and signals s g.known) k differ (numbers_below f (length signals)) inside
    ∙ numbers_any f (length signals) k (λ out. absurd (out inside))

-- a number that is listed and passes another test passes both
listed_passes : (f p : ℕ → Bool) (n : ℕ) → list_any p (numbers_where f n) ≡ true → (k : ℕ) × ((f k ≡ true) × (p k ≡ true))
listed_passes f p zero e = absurd (false≢true e)
listed_passes f p (suc n) e = elim (cases_Bool (list_any p (numbers_where f n))) [
  | inl earlier ↦ listed_passes f p n earlier
  | inr none ↦ here (cases_Bool (f n)) (rw none at (sym (list_any-append p (numbers_where f n) (only_where f n)) ∙ e))
]
  where
    last : (b : Bool) → (b || false) ≡ true → b ≡ true
    last true e = refl
    last false e = e

    here : (f n ≡ true) ⊎ (f n ≡ false) → list_any p (only_where f n) ≡ true → (k : ℕ) × ((f k ≡ true) × (p k ≡ true))
    here (inl pass) e = (n, (pass, last (p n) (rw pass at e)))
    here (inr fail) e = absurd (false≢true (rw fail at e))

-- a name is among those of some signals exactly where one of them has it
named_among : (signals : List Signal) (ks : List ℕ) (x : List ℕ) → is_among (names_of signals ks) x ≡ list_any (λ k. bytes_eq (signal_at signals k).name x) ks
named_among signals [] x = refl
named_among signals (k ∷ ks) x = ap (λ b. bytes_eq (signal_at signals k).name x || b) (named_among signals ks x)

-- a name that is known then was known or is that of the signal that is shown
pub known_before : (signals : List Signal) (s : ℕ) (g : Graph) (x : List ℕ) → is_among (with_shown signals s g).known x ≡ true → (is_among g.known x ≡ true) ⊎ ((signal_at signals s).name ≡ x)
known_before signals s g x e =
    let f : ℕ → Bool = λ k. is_among g.known (signal_at signals k).name || (k == s) in
    let found = listed_passes f (λ k. bytes_eq (signal_at signals k).name x) (length signals) (sym (named_among signals (known_and signals s g.known) x) ∙ e) in
    let k = found.0 in
    let named : (signal_at signals k).name ≡ x = (bytes_eq-Decides (signal_at signals k).name x).0 found.1.1 in
    elim (cases_Bool (is_among g.known (signal_at signals k).name)) [
      | inl was ↦ inl (sym (ap (is_among g.known) named) ∙ was)
      | inr not_yet ↦ inr (sym (ap (λ j. (signal_at signals j).name) (eqb-true k s (rw not_yet at found.1.0))) ∙ named)
    ]

-- a dummy stays one exactly where its signal isn't the one that is shown
pub dummy_shown : (signals : List Signal) (s k t : ℕ) (g : Graph) (name : FullName) → AllPairs (λ (x y : Signal). x.name ≢ y.name) signals → k < length signals
    → full_name_at g t ≡ Some name → name.signal ≡ (signal_at signals k).name
    → IsDummy (with_shown signals s g) t ↔ (IsDummy g t × (k ≢ s))
dummy_shown signals s k t g name differ inside has is =
    let known : has_signal_of (with_shown signals s g).known (full_name_at g t) ≡ (has_signal_of g.known (full_name_at g t) || (k == s)) =
    ap (has_signal_of (with_shown signals s g).known) has ∙ ap (is_among (with_shown signals s g).known) is
    ∙ among_shown signals s k g differ inside
    ∙ sym (ap (λ o. has_signal_of g.known o || (k == s)) has ∙ ap (λ x. is_among g.known x || (k == s)) is) in (
      λ d. (record { live = d.live; hidden = (neither _ _ (sym known ∙ d.hidden)).0 }, λ same. false≢true (sym (neither _ _ (sym known ∙ d.hidden)).1 ∙ eq-eqb k s same)),
      λ d. record { live = d.0.live; hidden = known ∙ both _ _ d.0.hidden (ne_eqb k s d.1) },
    )
  where
    neither : (a b : Bool) → (a || b) ≡ false → (a ≡ false) × (b ≡ false)
    neither true b e = absurd (false≢true (sym e))
    neither false b e = (refl, e)

    both : (a b : Bool) → a ≡ false → b ≡ false → (a || b) ≡ false
    both a b x y = rw x y

-- the initial component with one more known signal
pub shown_initial : (n : NetLists) (known : List ℕ) (s : ℕ) → IsNet n → All (λ k. k < length n.signals) known
    → with_shown n.signals s (initial n known) ≡ initial n (numbers_where (λ k. is_one_of known k || (k == s)) (length n.signals))
shown_initial n known s net there =
    ap (λ ks. initial n ks) (numbers_where-agree (λ k. is_among (names_of n.signals known) (signal_at n.signals k).name || (k == s)) (λ k. is_one_of known k || (k == s)) (length n.signals)
    (λ k inside. ap (λ b. b || (k == s)) (among_known n.signals known k net.signal_names there inside)))

-- the fields of an editor before a signal is shown, and the flags and numbers of the known signals afterwards
module _ (signals : List Signal) (names : List TransName) (known shown : List ℕ) (flags new : List Bool) (s : ℕ) (named : IsNamed signals names known flags) (inside : s < length signals) (flagged : new ≡ set flags s true) (listed : shown ≡ numbers_where (λ k. get_or new k false) (length new)) where
  new_long : length new ≡ length signals
  new_long = ap length flagged ∙ length-set flags s true ∙ named.flags_long

  -- the new flag of a signal
  flag_is : (k : ℕ) → k < length signals → get_or new k false ≡ (is_among (names_of signals known) (signal_at signals k).name || (k == s))
  flag_is k there = ap (λ fs. get_or fs k false) flagged ∙ elim (cases_eq k s) [
    | inl e ↦ subst (λ j. get_or (set flags s true) j false ≡ (is_among (names_of signals known) (signal_at signals j).name || (j == s))) (sym e) (get_or-set_same flags s true false (omega (arith, inside, named.flags_long)) ∙ sym (ends (is_among (names_of signals known) (signal_at signals s).name) (s == s) (eq-eqb s s refl)))
    | inr other ↦ get_or-set_other flags s k true false other ∙ named.flagged k ∙ sym (among_known signals known k named.names_differ named.known_there there) ∙ sym (starts (is_among (names_of signals known) (signal_at signals k).name) (k == s) (ne_eqb k s other))
  ]
    where
      ends : (a b : Bool) → b ≡ true → (a || b) ≡ true
      ends true b e = refl
      ends false b e = e

      starts : (a b : Bool) → b ≡ false → (a || b) ≡ a
      starts true b e = refl
      starts false b e = e

  -- the known signals are those that were known, and the one that is shown
  pub shown_is : shown ≡ known_and signals s (names_of signals known)
  shown_is =
      listed ∙ ap (λ n. numbers_where (λ k. get_or new k false) n) new_long
      ∙ numbers_where-agree (λ k. get_or new k false) (λ k. is_among (names_of signals known) (signal_at signals k).name || (k == s)) (length signals) flag_is

  -- the flags tell which they are
  pub named_shown : IsNamed signals names shown new
  named_shown = record {
    in_range = named.in_range;
    known_there = subst (λ ks. All (λ k. k < length signals) ks) (sym (listed ∙ ap (λ n. numbers_where (λ k. get_or new k false) n) new_long)) (numbers_below (λ k. get_or new k false) (length signals));
    names_differ = named.names_differ;
    trans_differ = named.trans_differ;
    signals_fit = named.signals_fit;
    flagged = λ k. sym (ap (list_any (λ j. j == k)) listed ∙ numbers_any (λ k. get_or new k false) (length new) k (λ out. get_or_past new k false (elim (cases_lt k (length new)) [ inl low ↦ absurd (out low) | inr high ↦ high ])));
    flags_long = new_long;
    trans_few = named.trans_few;
  }

  -- each draft is the one before with that signal shown
  module _ (l : Layout) (first : ℕ) where
    abbrev before : Base
    before = base_of signals names known first

    abbrev after : Base
    after = base_of signals names shown first

    names_shown : names_of signals shown ≡ names_of signals (known_and signals s before.known)
    names_shown = ap (names_of signals) shown_is

    pub now_shown : now_of after l ≡ with_shown signals s (now_of before l)
    now_shown = ap (λ ks. now_of (record before { known = ks }) l) names_shown

    pub past_shown : (starts : List EditStart) → past_of after l starts ≡ map (with_shown signals s) (past_of before l starts)
    past_shown starts =
        ap (λ ks. past_of (record before { known = ks }) l starts) names_shown
        ∙ sym (map-map (with_shown signals s) (λ (m : EditStart). draft_at before l m.moment m.places) starts)

    -- and as large
    pub sizes_shown : (starts : List EditStart) → map size_of (past_of before l starts) ≡ map size_of (past_of after l starts)
    sizes_shown starts =
        map-map size_of (λ (m : EditStart). draft_at before l m.moment m.places) starts
        ∙ sym (map-map size_of (λ (m : EditStart). draft_at after l m.moment m.places) starts)
