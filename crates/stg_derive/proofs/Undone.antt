-- An attempt goes on with a step, and goes back where a signal is given back.
use Rattle.std.proofs.Common.{◌≡◌, ◌<◌, ◌≤◌, ◌+◌, ◌-◌, ◌^◌, ℕ, true, false, List, [], ◌∷◌, ◌++◌, min, length, take, drop, map, get_or, All, Option, Some, None, refl, sym, ap, ◌∙◌, subst, inl, inr, arith}
use Rattle.std.proofs.lemmas.Bool.{or_cases, false≢true}
use Rattle.std.proofs.lemmas.Slice.Eq.{bytes_eq-Decides}
use Rattle.std.specs.Str.{bytes_eq}
use Rattle.std.specs.List.{range_with_len}
use Rattle.std.proofs.lemmas.List.{length-append, take-append-drop, same_from_push}
use Rattle.std.proofs.Math.Seq.{take-length}
use Rattle.stg_net.specs.declared.limits.TheConstants.Limits.{PART}
use Rattle.stg_net.specs.Graph.{Graph, FullName, full_name_at, is_among, has_signal_of}
use Rattle.stg_net.proofs.Members.{Contains-range}
use Rattle.stg_laws.proofs.KnownSignals.{named_among}
use Rattle.stg_edit.proofs.Showing.{shown_initial}
use Rattle.stg_net.specs.Contraction.{contracted}
use Rattle.stg_net.specs.Initial.{initial, graph_of}
use Rattle.stg_net.specs.Net.{NetLists, IsNet, IsWithin, signal_at}
use Rattle.stg_laws.specs.Conflict.{HasNoAutoConflict}
use Rattle.stg_laws.specs.Groups.{names_at}
use Rattle.stg_conflict.specs.Hidden.{with_only, HasConflictFrom}
use Rattle.stg_conflict.proofs.NewClashes.{none_anew}
use Rattle.stg_edit.specs.Shown.{known_and, with_shown}
use Rattle.stg_contract.proofs.InitialCalm.{calm-initial}
use Rattle.stg_derive.specs.declared.attempt.Attempt.{Attempt}
use Rattle.stg_derive.specs.declared.part.Restore.{Restore}
use Rattle.stg_derive.specs.declared.step.Step.{Step}
use Rattle.stg_derive.specs.Steps.{IsPlainStep, IsAtRest, stepped}
use Rattle.stg_derive.specs.Attempts.{stepped_all, ArePlainSteps, IsAttempt}
use Rattle.stg_derive.specs.Derivations.{known_with, with_restored}
use Rattle.stg_derive.specs.Undoing.{AllStay, IsUndoneBy, AreUndone}
use Rattle.stg_derive.specs.inner.UnderWay.{drafts_before, IsFirstUndone, IsNotedWhere, IsGone, noted_below, kept_steps, IsAttemptSoFar, AreUndoneBy}
use Rattle.stg_derive.proofs.OneMoreKnown.{knowing, stepped_all-knowing}
use Rattle.stg_derive.proofs.Staying.{kept_are_plain}
use Rattle.stg_derive.proofs.Noting.{take-take, drafts-last, drafts-knowing, IsApartIn, apart_stay, first-knowing, first-last, first-take, kept_of, stays_unless, gone_goes}
use Rattle.stg_derive.proofs.Restoring.{steps_known, with_in_range}
use Rattle.stg_derive.proofs.UnderWay.{stepped-last, plain-last, plain-front, step_known, step_first, step_few, step_calm, steps_few, steps_calm, initial_few}
use Rattle.stg_derive.proofs.FinishedNets.{steps_first}

-- what the next draft is, and what is noted of it
pub record IsStepMade (n : NetLists) (a b : Attempt) (s : Step) (first : ℕ) : Type 0 where
  pub now : b.editor.now ≡ stepped a.editor.now s
  pub past : b.editor.past ≡ a.editor.past ++ a.editor.now ∷ []
  pub signals : b.editor.signals ≡ a.editor.signals
  pub steps : b.steps.items ≡ a.steps.items ++ s ∷ []
  pub known : b.known ≡ a.known
  pub first_is : first ≡ length a.editor.now.places
  pub long : length b.first_undone.items ≡ length a.first_undone.items
  pub noted : (k : ℕ) → k < length a.first_undone.items → IsNotedWhere (IsGone n k b.editor.now first s) (length a.steps.items) (get_or a.first_undone.items k None) (get_or b.first_undone.items k None)

-- in the specification no signal has a conflict, whatever is known
pub apart_initial : (n : NetLists) (known : List ℕ) (signal : ℕ) → IsNet n → signal < length n.signals → HasNoAutoConflict (graph_of n) → IsApartIn n signal (initial n known)
apart_initial n known signal net below none t u p c =
    let r = c.rivals in
    none t u p (record {
      rivals = record {
        differ = r.differ;
        t_known = in_all (full_name_at (initial n known) t) r.t_known;
        u_known = in_all (full_name_at (initial n known) u) r.u_known;
        t_name = r.t_name;
        u_name = r.u_name;
        t_has = r.t_has;
        u_has = r.u_has;
        same = r.same;
      };
      t_takes = c.t_takes;
      u_takes = c.u_takes;
    })
  where
    all : List (List ℕ)
    all = names_at n (range_with_len 0 (length n.signals))

    name_in : (x : List ℕ) → is_among ((signal_at n.signals signal).name ∷ []) x ≡ true → is_among all x ≡ true
    name_in x e =
        let same : (signal_at n.signals signal).name ≡ x = elim (or_cases (bytes_eq (signal_at n.signals signal).name x) false e) [
          | inl l ↦ (bytes_eq-Decides (signal_at n.signals signal).name x).0 l
          | inr e ↦ absurd (false≢true e)
        ] in
        subst (λ y. is_among all y ≡ true) same (named_among n (range_with_len 0 (length n.signals)) signal (Contains-range (length n.signals) signal below))

    in_all : (o : Option FullName) → has_signal_of ((signal_at n.signals signal).name ∷ []) o ≡ true → has_signal_of all o ≡ true
    in_all None e = e
    in_all (Some x) e = name_in x.signal e

-- the attempt b is left of a while steps are undone, and so many are kept
pub record IsUndoing (n : NetLists) (a b : Attempt) (signal kept : ℕ) : Type 0 where
  pub left : b.steps.items ≡ take (length b.steps.items) a.steps.items
  pub enough : kept ≤ length b.steps.items
  pub few : length b.steps.items ≤ length a.steps.items
  pub now : b.editor.now ≡ stepped_all (initial n a.known) b.steps.items
  pub past : b.editor.past ≡ drafts_before (initial n a.known) b.steps.items
  pub signals : b.editor.signals ≡ n.signals
  pub undone : b.editor.undone ≡ min (a.editor.undone + (length a.steps.items - length b.steps.items)) (2 ^ 64 - 1)
  pub known : b.known ≡ known_with n a.known signal
  pub noted : b.first_undone.items ≡ a.first_undone.items

-- what one undo does
pub record IsUndoneOnce (b c : Attempt) : Type 0 where
  pub editor : b.editor.past ≡ c.editor.past ++ c.editor.now ∷ []
  pub steps : length c.steps.items + 1 ≡ length b.steps.items
  pub front : c.steps.items ≡ take (length c.steps.items) b.steps.items
  pub undone : c.editor.undone ≡ min (b.editor.undone + 1) (2 ^ 64 - 1)
  pub signals : c.editor.signals ≡ b.editor.signals
  pub known : c.known ≡ b.known
  pub noted : c.first_undone.items ≡ b.first_undone.items

-- what is left of an attempt once the steps that don't stay are undone and the signal is shown
pub record IsGivenBack (n : NetLists) (a b : Attempt) (signal kept : ℕ) : Type 0 where
  pub steps : b.steps.items ≡ take kept a.steps.items
  pub now : b.editor.now ≡ with_shown n.signals signal (stepped_all (initial n a.known) b.steps.items)
  pub past : b.editor.past ≡ map (with_shown n.signals signal) (drafts_before (initial n a.known) b.steps.items)
  pub signals : b.editor.signals ≡ n.signals
  pub known : b.known ≡ known_with n a.known signal
  pub noted_long : length b.first_undone.items ≡ length a.first_undone.items
  pub noted : (k : ℕ) → get_or b.first_undone.items k None ≡ noted_below kept (get_or a.first_undone.items k None)

module _ (n : NetLists) (within : IsWithin PART n) (none : HasNoAutoConflict (graph_of n)) (net : IsNet n) where
  -- an attempt begins
  pub begun : (a : Attempt) (known : List ℕ) → All (λ s. s < length n.signals) known → a.known ≡ known → a.editor.now ≡ initial n known → a.editor.past ≡ [] → a.editor.signals ≡ n.signals → a.steps.items ≡ []
      → length a.first_undone.items ≡ length n.signals → ((k : ℕ) → get_or a.first_undone.items k None ≡ None) → IsAttemptSoFar n a
  begun a known range e now past signals steps long notes = record {
    range = subst (All (λ k. k < length n.signals)) (sym e) range;
    plain = subst (ArePlainSteps (initial n a.known)) (sym steps) tt;
    leads = now ∙ ap (initial n) (sym e) ∙ ap (stepped_all (initial n a.known)) (sym steps);
    past = past ∙ ap (drafts_before (initial n a.known)) (sym steps);
    signals = signals;
    few = rw now (initial_few n known);
    calm = rw now (calm-initial n known net within none);
    first = ap (λ (g : Graph). g.first_places) now;
    noted_long = long;
    noted = λ k there. subst (IsFirstUndone n k (initial n a.known) a.steps.items) (sym (notes k)) (subst (AllStay n k (initial n a.known)) (sym steps) tt);
  }

  -- an attempt goes on with a plain step
  pub step_made : (a b : Attempt) (s : Step) (first : ℕ) → IsAttemptSoFar n a → IsPlainStep a.editor.now s → IsStepMade n a b s first → IsAttemptSoFar n b
  step_made a b s first u p made =
      let g0 = initial n a.known in
      let steps = a.steps.items in
      let P : Graph → Type 0 = λ g. IsPlainStep g s in
      record {
        range = subst (All (λ k. k < length n.signals)) (sym made.known) u.range;
        plain = subst (λ k. ArePlainSteps (initial n k) b.steps.items) (sym made.known) (subst (ArePlainSteps g0) (sym made.steps) (plain-last g0 steps s u.plain (subst P u.leads p)));
        leads = made.now ∙ ap (λ g. stepped g s) u.leads ∙ sym (stepped-last g0 steps s) ∙ ap (stepped_all g0) (sym made.steps) ∙ ap (λ k. stepped_all (initial n k) b.steps.items) (sym made.known);
        past = made.past ∙ ap (λ ds. ds ++ a.editor.now ∷ []) u.past ∙ ap (λ g. drafts_before g0 steps ++ g ∷ []) u.leads ∙ sym (drafts-last g0 steps s) ∙ ap (drafts_before g0) (sym made.steps) ∙ ap (λ k. drafts_before (initial n k) b.steps.items) (sym made.known);
        signals = made.signals ∙ u.signals;
        few = rw made.now (step_few a.editor.now s p u.few);
        calm = rw made.now (step_calm a.editor.now s p u.calm);
        first = ap (λ (g : Graph). g.first_places) made.now ∙ step_first a.editor.now s ∙ u.first;
        noted_long = made.long ∙ u.noted_long;
        noted = λ k below.
            let old = u.noted k below in
            let there : k < length a.first_undone.items = omega (arith, below, u.noted_long) in
            let now_is : stepped a.editor.now s ≡ stepped (stepped_all g0 steps) s = ap (λ g. stepped g s) u.leads in
            let first_is : first ≡ length (stepped_all g0 steps).places = made.first_is ∙ ap (λ (g : Graph). length g.places) u.leads in
            let IsSo : Type 0 = IsGone n k b.editor.now first s in
            let last = first-last n k g0 steps s IsSo (get_or a.first_undone.items k None) (get_or b.first_undone.items k None) old (made.noted k there)
            (λ gone. gone_goes n k (stepped_all g0 steps) first s (subst (λ g. IsGone n k g first s) (made.now ∙ now_is) gone))
            (λ stay left. stays_unless n k (stepped_all g0 steps) first s (apart_stay n k g0 steps (apart_initial n a.known k net below none) stay)
            (λ t apart no_new. (none_anew (with_only n.signals k (stepped_all g0 steps)) t apart).0 (subst (λ f. ¬ HasConflictFrom (with_only n.signals k (contracted (stepped_all g0 steps) t)) f) first_is no_new))
            (λ gone. left (subst (λ g. IsGone n k g first s) (sym (made.now ∙ now_is)) gone))) in
            subst (λ kn. IsFirstUndone n k (initial n kn) b.steps.items (get_or b.first_undone.items k None)) (sym made.known)
            (subst (λ xs. IsFirstUndone n k g0 xs (get_or b.first_undone.items k None)) (sym made.steps) last);
      }

  -- the drafts are those before the steps that are left, after the undo of the last one
  pub undone_last : (g : Graph) (steps left : List Step) (past : List Graph) (now : Graph) → left ≡ take (length left) steps → length left + 1 ≡ length steps → drafts_before g steps ≡ past ++ now ∷ []
      → (past ≡ drafts_before g left) × (now ≡ stepped_all g left)
  undone_last g steps left past now front short e =
      let rest = drop (length left) steps in
      let whole : left ++ rest ≡ steps = ap (λ xs. xs ++ rest) front ∙ take-append-drop (length left) steps in
      let one : length rest ≡ 1 = omega (arith, length-append left rest, ap length whole, short) in
      let o = only_one rest one in
      let steps_are : left ++ o.0 ∷ [] ≡ steps = ap (λ xs. left ++ xs) (sym o.1) ∙ whole in
      let same = same_from_push past (drafts_before g left) now (stepped_all g left) (sym e ∙ ap (drafts_before g) (sym steps_are) ∙ drafts-last g left o.0) in
      (same.0, same.1)
    where
      only_one : (xs : List Step) → length xs ≡ 1 → (x : Step) × (xs ≡ x ∷ [])
      only_one [] e = absurd (omega (arith, e))
      only_one (x ∷ []) e = (x, refl)
      only_one (x ∷ y ∷ xs) e = absurd (omega (arith, e))

  -- a draft in which the signal is shown is one in which the next known signals are known
  shown_is : (known : List ℕ) (signal : ℕ) (g : Graph) → All (λ s. s < length n.signals) known → g.known ≡ names_at n known → with_shown n.signals signal g ≡ knowing (names_at n (known_with n known signal)) g
  shown_is known signal g range e =
      let same : map (λ k. (signal_at n.signals k).name) (known_and n.signals signal (names_at n known)) ≡ names_at n (known_with n known signal) = ap (λ (h : Graph). h.known) (shown_initial n known signal net range) in
      ap (λ names. knowing names g) (ap (λ names. map (λ k. (signal_at n.signals k).name) (known_and n.signals signal names)) e ∙ same)

  drafts_shown : (known : List ℕ) (signal : ℕ) (g : Graph) (steps : List Step) → All (λ s. s < length n.signals) known → g.known ≡ names_at n known
      → map (with_shown n.signals signal) (drafts_before g steps) ≡ map (knowing (names_at n (known_with n known signal))) (drafts_before g steps)
  drafts_shown known signal g [] range e = refl
  drafts_shown known signal g (s ∷ steps) range e =
      λ i. shown_is known signal g range e i ∷ drafts_shown known signal (stepped g s) steps range (step_known g s ∙ e) i

  pub undoing_begins : (a : Attempt) (signal : ℕ) (known : List ℕ) → IsAttemptSoFar n a → signal < length n.signals → a.editor.undone < 2 ^ 64 → known ≡ known_with n a.known signal → IsUndoing n a (record a { known = known }) signal (kept_steps a signal)
  undoing_begins a signal known u below counted e =
      let number = kept_of n signal (initial n a.known) a.steps.items (get_or a.first_undone.items signal None) (u.noted signal below) in
      record {
        left = sym (take-length a.steps.items);
        enough = number.few;
        few = omega arith;
        now = u.leads;
        past = u.past;
        signals = u.signals;
        undone = omega (arith, counted);
        known = e;
        noted = refl;
      }

  pub undoing_goes_on : (a b c : Attempt) (signal kept : ℕ) → IsUndoing n a b signal kept → kept < length b.steps.items → IsUndoneOnce b c → IsUndoing n a c signal kept
  undoing_goes_on a b c signal kept u more once =
      let last = undone_last (initial n a.known) b.steps.items c.steps.items c.editor.past c.editor.now once.front once.steps (sym u.past ∙ once.editor) in
      record {
        left = once.front ∙ ap (take (length c.steps.items)) u.left ∙ take-take (length c.steps.items) (length b.steps.items) a.steps.items (omega (arith, once.steps)) u.few;
        enough = omega (arith, more, once.steps);
        few = omega (arith, u.few, once.steps);
        now = last.1;
        past = last.0;
        signals = once.signals ∙ u.signals;
        undone = omega (arith, once.undone, u.undone, once.steps, u.few);
        known = once.known ∙ u.known;
        noted = once.noted ∙ u.noted;
      }

  -- once no more steps are undone than needed, so it is
  pub undoing_ends : (a b c : Attempt) (signal kept : ℕ) → IsUndoing n a b signal kept → length b.steps.items ≤ kept → c.steps.items ≡ b.steps.items → c.editor.now ≡ with_shown b.editor.signals signal b.editor.now → c.editor.past ≡ map (with_shown b.editor.signals signal) b.editor.past
      → c.editor.signals ≡ b.editor.signals → c.known ≡ b.known → length c.first_undone.items ≡ length b.first_undone.items → ((k : ℕ) → get_or c.first_undone.items k None ≡ noted_below kept (get_or b.first_undone.items k None)) → IsGivenBack n a c signal kept
  undoing_ends a b c signal kept u done steps now past signals known long noted =
      let all : length b.steps.items ≡ kept = omega (arith, u.enough, done) in
      record {
        steps = steps ∙ u.left ∙ ap (λ k. take k a.steps.items) all;
        now = now ∙ ap (λ xs. with_shown xs signal b.editor.now) u.signals ∙ ap (with_shown n.signals signal) u.now ∙ ap (λ xs. with_shown n.signals signal (stepped_all (initial n a.known) xs)) (sym steps);
        past = past ∙ ap (λ xs. map (with_shown xs signal) b.editor.past) u.signals ∙ ap (map (with_shown n.signals signal)) u.past ∙ ap (λ xs. map (with_shown n.signals signal) (drafts_before (initial n a.known) xs)) (sym steps);
        signals = signals ∙ u.signals;
        known = known ∙ u.known;
        noted_long = long ∙ ap length u.noted;
        noted = λ k. noted k ∙ ap (λ xs. noted_below kept (get_or xs k None)) u.noted;
      }

  -- and the attempt is under way again
  pub given_back : (a b : Attempt) (signal : ℕ) → IsAttemptSoFar n a → signal < length n.signals → IsGivenBack n a b signal (kept_steps a signal) → IsAttemptSoFar n b
  given_back a b signal u below back =
      let g0 = initial n a.known in
      let kept = kept_steps a signal in
      let steps = take kept a.steps.items in
      let more = names_at n (known_with n a.known signal) in
      let number = kept_of n signal g0 a.steps.items (get_or a.first_undone.items signal None) (u.noted signal below) in
      let front : ArePlainSteps g0 steps = plain-front g0 steps (drop kept a.steps.items) (subst (ArePlainSteps g0) (sym (take-append-drop kept a.steps.items)) u.plain) in
      let plain = kept_are_plain n a.known signal net u.range below steps front number.stay in
      let now : b.editor.now ≡ stepped_all (initial n (known_with n a.known signal)) steps =
      back.now ∙ ap (λ xs. with_shown n.signals signal (stepped_all g0 xs)) back.steps ∙ shown_is a.known signal (stepped_all g0 steps) u.range (steps_known g0 steps) ∙ sym (stepped_all-knowing more g0 steps) in
      let past : b.editor.past ≡ drafts_before (initial n (known_with n a.known signal)) steps =
      back.past ∙ ap (λ xs. map (with_shown n.signals signal) (drafts_before g0 xs)) back.steps ∙ drafts_shown a.known signal g0 steps u.range refl ∙ sym (drafts-knowing more g0 steps) in
      record {
        range = subst (All (λ k. k < length n.signals)) (sym back.known) (with_in_range n a.known signal);
        plain = subst (λ k. ArePlainSteps (initial n k) b.steps.items) (sym back.known) (subst (ArePlainSteps (initial n (known_with n a.known signal))) (sym back.steps) plain);
        leads = now ∙ ap (stepped_all (initial n (known_with n a.known signal))) (sym back.steps) ∙ ap (λ k. stepped_all (initial n k) b.steps.items) (sym back.known);
        past = past ∙ ap (drafts_before (initial n (known_with n a.known signal))) (sym back.steps) ∙ ap (λ k. drafts_before (initial n k) b.steps.items) (sym back.known);
        signals = back.signals;
        few = rw now (steps_few (initial n (known_with n a.known signal)) steps plain (initial_few n (known_with n a.known signal)));
        calm = rw now (steps_calm (initial n (known_with n a.known signal)) steps plain (calm-initial n (known_with n a.known signal) net within none));
        first = ap (λ (g : Graph). g.first_places) now ∙ steps_first (initial n (known_with n a.known signal)) steps;
        noted_long = back.noted_long ∙ u.noted_long;
        noted = λ k there.
            let taken = first-take n k g0 a.steps.items kept (get_or a.first_undone.items k None) number.few (u.noted k there) in
            let here = first-knowing n k more g0 steps (noted_below kept (get_or a.first_undone.items k None)) taken in
            subst (λ kn. IsFirstUndone n k (initial n kn) b.steps.items (get_or b.first_undone.items k None)) (sym back.known)
            (subst (λ xs. IsFirstUndone n k (initial n (known_with n a.known signal)) xs (get_or b.first_undone.items k None)) (sym back.steps)
            (subst (IsFirstUndone n k (initial n (known_with n a.known signal)) steps) (sym (back.noted k)) here));
      }

-- an attempt that rests is one of the net
pub attempt_rests : (n : NetLists) (a : Attempt) → IsAttemptSoFar n a → IsAtRest a.editor.now → IsAttempt (initial n a.known) a.steps.items
attempt_rests n a u rests = record { plain = u.plain; rests = subst IsAtRest u.leads rests }

-- nothing is undone at first
pub none_undone : (n : NetLists) (known : List ℕ) (undone : ℕ) → undone ≡ 0 → AreUndoneBy n known [] undone
none_undone n known undone e = record { number = 0; are_undone = refl; counted = omega (arith, e) }

-- the number of undone steps of one more record
undone-last : (n : NetLists) (known : List ℕ) (restored : List Restore) (r : Restore) (number more : ℕ) → AreUndone n known restored number → IsUndoneBy n (with_restored n known restored) r more → AreUndone n known (restored ++ r ∷ []) (number + more)
undone-last n known [] r number more are by = (more, 0, by, refl, omega (arith, are))
undone-last n known (x ∷ restored) r number more are by =
    let rest = undone-last n (known_with n known x.signal) restored r are.1 more are.3 by in
    (are.0, are.1 + more, are.2, rest, omega (arith, are.4))

-- and what is counted of it
pub counted-last : (n : NetLists) (begun : List ℕ) (restored : List Restore) (a : Attempt) (r : Restore) (undone : ℕ) → IsAttemptSoFar n a → IsAtRest a.editor.now → a.known ≡ with_restored n begun restored → r.signal < length n.signals
    → AreUndoneBy n begun restored a.editor.undone → undone ≡ min (a.editor.undone + (length a.steps.items - kept_steps a r.signal)) (2 ^ 64 - 1) → AreUndoneBy n begun (restored ++ r ∷ []) undone
counted-last n begun restored a r undone u rests known below are e =
    let more = length a.steps.items - kept_steps a r.signal in
    let by : IsUndoneBy n a.known r more = record {
      steps = a.steps.items;
      attempt = attempt_rests n a u rests;
      kept = kept_steps a r.signal;
      kept_number = kept_of n r.signal (initial n a.known) a.steps.items (get_or a.first_undone.items r.signal None) (u.noted r.signal below);
      number = refl;
    } in
    record {
      number = are.number + more;
      are_undone = undone-last n begun restored r are.number more are.are_undone (subst (λ k. IsUndoneBy n k r more) known by);
      counted = omega (arith, e, are.counted);
    }
