-- What is noted tells which signals clash.
use Rattle.std.proofs.Common.{◌≡◌, ◌<◌, ◌-◌, ◌||◌, ◌&&◌, ◌==◌, ℕ, Bool, true, false, List, [], ◌∷◌, AllPairs, ◌≢◌, length, Option, Some, None, is_some, refl, sym, ap, ◌∙◌, eq-eqb, inl, inr, arith}
use Rattle.std.specs.List.{list_any}
use Rattle.std.proofs.lemmas.Bool.{and_parts, cases_eq, ne_eqb, not-true, false≢true}
use Rattle.std.proofs.lemmas.List.Elements.{All-nil, All-cons}
use Rattle.std.proofs.lemmas.Option.{same_Some}
use Rattle.stg_net.specs.declared.signal.Signal.{Signal}
use Rattle.stg_net.specs.declared.trans.TransName.{TransName}
use Rattle.stg_net.specs.Net.{signal_at}
use Rattle.stg_net.specs.Graph.{Graph, place_at, full_name_at, has_signal_of, takes}
use Rattle.stg_edit.specs.Walks.{taking_trans}
use Rattle.stg_edit.specs.Editing.{full_name_in}
use Rattle.stg_edit.proofs.DraftOfLive.{among_known}
use Rattle.stg_edit.proofs.LiveEnds.{taken_is_place}
use Rattle.stg_laws.specs.Conflict.{IsAutoConflict}
use Rattle.stg_laws.proofs.Names.{live_from}
use Rattle.stg_conflict.specs.Hidden.{with_only, HasConflictFrom, IsNoted}
use Rattle.stg_conflict.specs.inner.Labels.{is_of_signal}
use Rattle.stg_conflict.specs.inner.Notes.{is_like, clashes_with, clashes_at, clashes_from, note_at, note_or}
use Rattle.stg_conflict.proofs.LeastHidden.{rivals_of_signal, rivals_alike, trans_below, place_below}
use Rattle.stg_conflict.proofs.Walks.{walk_passes, passes_walk, range_passes, passes_range}

-- a note and then another one
pub note_or-both : (a b : Bool) (step : ℕ) (o : Option ℕ) → note_or b step (note_or a step o) ≡ note_or (a || b) step o
note_or-both a b step (Some i) = refl
note_or-both true b step None = refl
note_or-both false b step None = refl

-- where the test fails nothing is noted
pub note_or-fails : (b : Bool) (step : ℕ) (o : Option ℕ) → b ≡ false → note_or b step o ≡ o
note_or-fails b step (Some i) e = refl
note_or-fails b step None e = rw e refl

-- nothing is more where a part fails
pub and_fails : (a b : Bool) → b ≡ false → (a && b) ≡ false
and_fails true b e = e
and_fails false b e = refl

-- a transition is of the signal whose number its name has
pub of_signal_is : (signals : List Signal) (s u : ℕ) (g : Graph) (x : TransName) → AllPairs (λ (a b : Signal). a.name ≢ b.name) signals → x.signal < length signals → s < length signals → full_name_at g u ≡ Some (full_name_in signals x)
    → is_of_signal signals s g u ≡ (s == x.signal)
of_signal_is signals s u g x differ inside below has =
    ap (has_signal_of ((signal_at signals s).name ∷ [])) has
    ∙ among_known signals (s ∷ []) x.signal differ (All-cons (λ k. k < length signals) s [] below (All-nil (λ k. k < length signals))) inside
    ∙ alone (s == x.signal)
  where
    alone : (b : Bool) → (b || false) ≡ b
    alone true = refl
    alone false = refl

-- what is noted of the signal of u stays, and nothing is noted of another one
pub stays_noted : (signals : List Signal) (s u p step : ℕ) (g : Graph) (x : TransName) (noted : List (Option ℕ)) → AllPairs (λ (a b : Signal). a.name ≢ b.name) signals → x.signal < length signals → s < length signals → full_name_at g u ≡ Some (full_name_in signals x)
    → is_some (note_at noted x.signal) ≡ true → note_at noted s ≡ note_or (clashes_with g signals p s u) step (note_at noted s)
stays_noted signals s u p step g x noted differ inside below has there = elim (cases_eq s x.signal) [
  | inl e ↦ go (note_at noted s) (ap (λ k. is_some (note_at noted k)) e ∙ there)
  | inr other ↦ sym (note_or-fails (clashes_with g signals p s u) step (note_at noted s) (rw (of_signal_is signals s u g x differ inside below has ∙ ne_eqb s x.signal other) refl))
]
  where
    go : (o : Option ℕ) → is_some o ≡ true → o ≡ note_or (clashes_with g signals p s u) step o
    go None e = absurd (false≢true e)
    go (Some i) e = refl

-- the tests pass exactly where there is a conflict from that place on
module _ (signals : List Signal) (s : ℕ) (g : Graph) (first : ℕ) where
  pub clash_noted : clashes_from g signals first s ≡ true → HasConflictFrom (with_only signals s g) first
  clash_noted e =
      let p = range_passes (clashes_at g signals s) (length g.places - first) first e in
      let at = and_parts _ _ p.passes in
      let u = walk_passes (λ (x : ℕ × ℕ). clashes_with g signals p.number s x.0) (λ t. takes g t p.number) (length g.trans) 0 at.1 in
      let of = and_parts _ _ u.passes in
      let v = walk_passes (is_like g u.number) (λ t. takes g t p.number) (length g.trans) 0 of.1 in
      let like = and_parts _ _ v.passes in
      let differ : u.number ≡ v.number → ⊥ = λ same. false≢true (sym (not-true (u.number == v.number) like.0) ∙ eq-eqb u.number v.number same) in
      record {
        t = u.number;
        u = v.number;
        p = p.number;
        conflict = record { rivals = rivals_of_signal signals s g u.number v.number differ of.0 like.1; t_takes = u.some; u_takes = v.some };
        late = p.low;
      }

  pub noted_clash : HasConflictFrom (with_only signals s g) first → clashes_from g signals first s ≡ true
  noted_clash h =
      let c : IsAutoConflict (with_only signals s g) h.t h.u h.p = h.conflict in
      let r = c.rivals in
      let p_below = place_below g h.t h.p c.t_takes in
      let like : is_like g h.t (h.u, takes g h.u h.p) ≡ true = rw (ne_eqb h.t h.u r.differ) (rivals_alike (with_only signals s g) h.t h.u r) in
      let others : list_any (is_like g h.t) (taking_trans g h.p) ≡ true = passes_walk (is_like g h.t) (λ t. takes g t h.p) (length g.trans) 0 (record { number = h.u; low = omega arith; high = omega (arith, trans_below g h.u (live_from g h.u r.u_name r.u_has)); some = c.u_takes; passes = like }) in
      let of_signal : is_of_signal signals s g h.t ≡ true = r.t_known in
      let with_u : clashes_with g signals h.p s h.t ≡ true = rw of_signal others in
      let among : list_any (λ (x : ℕ × ℕ). clashes_with g signals h.p s x.0) (taking_trans g h.p) ≡ true = passes_walk (λ (x : ℕ × ℕ). clashes_with g signals h.p s x.0) (λ t. takes g t h.p) (length g.trans) 0 (record { number = h.t; low = omega arith; high = omega (arith, trans_below g h.t (live_from g h.t r.t_name r.t_has)); some = c.t_takes; passes = with_u }) in
      let place : is_some (place_at g h.p) ≡ true = taken_is_place g h.t h.p c.t_takes in
      let at : clashes_at g signals s h.p ≡ true = rw place among in
      passes_range (clashes_at g signals s) (length g.places - first) first h.p h.late (omega (arith, p_below, h.late)) at

  -- so what is noted is what is to be noted
  pub is_noted : (step : ℕ) (o new : Option ℕ) → new ≡ note_or (clashes_from g signals first s) step o → IsNoted (with_only signals s g) first step o new
  is_noted step (Some i) new e = e
  is_noted step None new e = go new (clashes_from g signals first s) refl e
    where
      go : (new : Option ℕ) (b : Bool) → clashes_from g signals first s ≡ b → new ≡ note_or b step None → IsNoted (with_only signals s g) first step None new
      go (Some i) true is e = (same_Some i step e, clash_noted is)
      go None true is e = absurd (cc)
      go (Some i) false is e = absurd (cc)
      go None false is e = λ h. false≢true (sym is ∙ noted_clash h)
