-- Components that are wired and faithful are a correct decomposition of a deterministic specification.
use Rattle.std.proofs.Common.{◌≡◌, ℕ, ◌<◌, ◌≤◌, ◌⊎◌, List, [], ◌∷◌, ◌++◌, length, true, false, refl, sym, ◌∙◌, ap, inl, inr, arith}
use Rattle.std.proofs.lemmas.Bool.{cases_lt, cases_eq, cases_Bool, false≢true, false_from_ne_true}
use Rattle.stg_net.specs.Graph.{Graph, FullName, is_among, tokens_at}
use Rattle.stg_net.specs.Run.{Marking, IsEnabled, IsRun, fired, reached}
use Rattle.stg_laws.specs.Cuts.{Label, names_of, cut}
use Rattle.stg_laws.specs.Deterministic.{IsDeterministic}
use Rattle.stg_laws.specs.Stgs.{Stg, IsStg, stg_at, Knows, Drives}
use Rattle.stg_laws.specs.Joint.{JointMarking, HasLabel, Moves, Reaches, AreRelated, IsJointStep, CanStep, StepsTo, MovesTo}
use Rattle.stg_laws.specs.Correct.{AreWired, IsCorrect}
use Rattle.stg_laws.specs.Faithful.{CanFire, IsFaithful}
use Rattle.stg_laws.proofs.Cuts.{all_known, cut-seen, cut-unseen}
use Rattle.stg_laws.proofs.Names.{live_run, split_last}
use Rattle.stg_laws.proofs.Runs.{reached-append, last_enabled, enabled_last, enabled_same}

-- what is known of each component
record IsGood (spec : Graph) (x : Stg) : Type 0 where
  is : IsStg x
  faithful : IsFaithful spec x
  deterministic : IsDeterministic x.graph

-- a component's marking after one more transition of the specification
record IsNext (spec : Graph) (x : Stg) (label : Label) (run : List ℕ) (old new : Marking) : Type 0 where
  reaches : Reaches x.graph (cut spec x.graph.known run) new
  moves : Knows x label.signal → Moves x.graph label old new
  stays : ¬ Knows x label.signal → (p : ℕ) → new p ≡ old p

next_known : (spec : Graph) (x : Stg) (label : Label) (run : List ℕ) (t : ℕ) (old : Marking) → IsGood spec x → IsRun spec run → IsEnabled spec (reached spec run) t → HasLabel spec t label
    → Reaches x.graph (cut spec x.graph.known run) old → Knows x label.signal → (new : Marking) × IsNext spec x label (run ++ t ∷ []) old new
next_known spec x label run t old good runs e l r known =
    let g = x.graph in
    let f = good.faithful.follows (run ++ t ∷ []) (enabled_last spec run t runs e) in
    let seen : is_among g.known l.name.signal ≡ true = ap (λ (m : Label). is_among g.known m.signal) l.is ∙ known in
    let names : names_of g f.run ≡ names_of g r.run ++ l.name ∷ [] = f.named ∙ cut-seen spec g.known run t l.name l.has seen ∙ ap (λ names. names ++ l.name ∷ []) (sym r.named) in
    let s = split_last g good.is.distinct r.run f.run l.name (live_run g (tokens_at g) r.run r.runs) (live_run g (tokens_at g) f.run f.runs) names in
    let whole : IsRun g (r.run ++ s.last ∷ []) = rw s.is_last at f.runs in
    let here = last_enabled g (tokens_at g) r.run s.last whole in (
      fired g old s.last,
      record {
        reaches = record { run = r.run ++ s.last ∷ []; runs = whole; named = rw s.is_last at f.named; marking = λ p. rw reached-append (omega (arith, r.marking p)) };
        moves = λ _. record { trans = s.last; labelled = record { name = l.name; has = s.has; is = l.is }; enabled = enabled_same g (reached g r.run) old s.last r.marking here; marking = λ p. refl };
        stays = λ no. absurd (no known);
      },
    )

next_unknown : (spec : Graph) (x : Stg) (label : Label) (run : List ℕ) (t : ℕ) (old : Marking) → HasLabel spec t label
    → Reaches x.graph (cut spec x.graph.known run) old → is_among x.graph.known label.signal ≡ false → IsNext spec x label (run ++ t ∷ []) old old
next_unknown spec x label run t old l r hidden =
    let unseen : is_among x.graph.known l.name.signal ≡ false = ap (λ (m : Label). is_among x.graph.known m.signal) l.is ∙ hidden in
    record {
      reaches = record { run = r.run; runs = r.runs; named = r.named ∙ sym (cut-unseen spec x.graph.known run t l.name l.has unseen); marking = r.marking };
      moves = λ known. absurd (false≢true (sym hidden ∙ known));
      stays = λ _ p. refl;
    }

next : (spec : Graph) (x : Stg) (label : Label) (run : List ℕ) (t : ℕ) (old : Marking) → IsGood spec x → IsRun spec run → IsEnabled spec (reached spec run) t → HasLabel spec t label
    → Reaches x.graph (cut spec x.graph.known run) old → (new : Marking) × IsNext spec x label (run ++ t ∷ []) old new
next spec x label run t old good runs e l r = elim (cases_Bool (is_among x.graph.known label.signal)) [
  | inl known ↦ next_known spec x label run t old good runs e l r known
  | inr hidden ↦ (old, next_unknown spec x label run t old l r hidden)
]

-- one marking for each of finitely many components
pick : (n i : ℕ) → ((i : ℕ) → i < n → Marking) → (i < n) ⊎ (n ≤ i) → Marking
pick n i f (inl l) = f i l
pick n i f (inr past) = λ p. 0

pick_ok : (n i : ℕ) (Q : ℕ → Marking → Type 0) (f : (i : ℕ) → i < n → (m : Marking) × Q i m) → (c : (i < n) ⊎ (n ≤ i)) → i < n → Q i (pick n i (λ i l. (f i l).0) c)
unfolding pick
pick_ok n i Q f (inl l) h = (f i l).1
pick_ok n i Q f (inr past) h = absurd (omega arith)

choose : (n : ℕ) (Q : ℕ → Marking → Type 0) → ((i : ℕ) → i < n → (m : Marking) × Q i m) → (joint : JointMarking) × ((i : ℕ) → i < n → Q i (joint i))
choose n Q f = (λ i. pick n i (λ i l. (f i l).0) (cases_lt i n), λ i l. pick_ok n i Q f (cases_lt i n) l)

-- all components after one more transition of the specification
record AreNext (spec : Graph) (components : List Stg) (label : Label) (run : List ℕ) (old : JointMarking) : Type 0 where
  new : JointMarking
  each : (i : ℕ) → i < length components → IsNext spec (stg_at components i) label run (old i) (new i)

enabled_there : (spec : Graph) (components : List Stg) (m : Marking) (joint : JointMarking) (t : ℕ) (a : AreRelated spec components m joint) → IsEnabled spec m t → IsEnabled spec (reached spec a.run) t
enabled_there spec components m joint t a e = enabled_same spec m (reached spec a.run) t (λ p. sym (a.marking p)) e

marking_after : (spec : Graph) (components : List Stg) (m : Marking) (joint : JointMarking) (t : ℕ) (a : AreRelated spec components m joint) (p : ℕ) → fired spec m t p ≡ reached spec (a.run ++ t ∷ []) p
marking_after spec components m joint t a p = rw reached-append (omega (arith, a.marking p))

reaches_same : (g : Graph) (names : List FullName) (m n : Marking) → ((p : ℕ) → n p ≡ m p) → Reaches g names m → Reaches g names n
reaches_same g names m n same r = record { run = r.run; runs = r.runs; named = r.named; marking = λ p. same p ∙ r.marking p }

-- a deterministic component enables one transition of a label at most
same_trans : (spec : Graph) (x : Stg) (label : Label) (names : List FullName) (m v w : Marking) → IsGood spec x → Reaches x.graph names m → (a : Moves x.graph label m v) → (b : Moves x.graph label m w) → a.trans ≡ b.trans
same_trans spec x label names m v w good r a b = elim (cases_eq a.trans b.trans) [
  | inl e ↦ e
  | inr n ↦ absurd (good.deterministic.clean r.run a.trans b.trans r.runs
      (record {
        differ = n;
        t_known = all_known x.graph good.deterministic.no_dummy a.trans a.enabled.live;
        u_known = all_known x.graph good.deterministic.no_dummy b.trans b.enabled.live;
        t_name = a.labelled.name;
        u_name = b.labelled.name;
        t_has = a.labelled.has;
        u_has = b.labelled.has;
        same = a.labelled.is ∙ sym b.labelled.is;
      })
      (enabled_same x.graph m (reached x.graph r.run) a.trans (λ p. sym (r.marking p)) a.enabled)
      (enabled_same x.graph m (reached x.graph r.run) b.trans (λ p. sym (r.marking p)) b.enabled))
]

module _ (spec : Graph) (components : List Stg) (good : (i : ℕ) → i < length components → IsGood spec (stg_at components i)) where
  all_next : (label : Label) (m : Marking) (joint : JointMarking) (t : ℕ) (a : AreRelated spec components m joint) → IsEnabled spec (reached spec a.run) t → HasLabel spec t label
      → AreNext spec components label (a.run ++ t ∷ []) joint
  all_next label m joint t a e l =
      let c = choose (length components) (λ i v. IsNext spec (stg_at components i) label (a.run ++ t ∷ []) (joint i) v) (λ i h. next spec (stg_at components i) label a.run t (joint i) (good i h) a.runs e l (a.each i h)) in
      record { new = c.0; each = c.1 }

  -- what the specification fires, the components that know it follow by a joint step
  steps_to : (label : Label) (m n : Marking) (joint : JointMarking) → AreRelated spec components m joint → Moves spec label m n
      → (i : ℕ) → i < length components → Knows (stg_at components i) label.signal → StepsTo spec components label joint n
  steps_to label m n joint a mv i h known =
      let e = enabled_there spec components m joint mv.trans a mv.enabled in
      let x = all_next label m joint mv.trans a e mv.labelled in record {
        new = x.new;
        step = record { one = i; there = h; one_knows = known; moves = λ j l k. (x.each j l).moves k; stays = λ j l k. (x.each j l).stays k };
        related = record {
          run = a.run ++ mv.trans ∷ [];
          runs = enabled_last spec a.run mv.trans a.runs e;
          marking = λ p. mv.marking p ∙ marking_after spec components m joint mv.trans a p;
          each = λ j l. (x.each j l).reaches;
        };
      }

  -- where no component knows the signal, all stay
  stays_related : (label : Label) (m n : Marking) (joint : JointMarking) → AreRelated spec components m joint → Moves spec label m n
      → ((i : ℕ) → i < length components → ¬ Knows (stg_at components i) label.signal) → AreRelated spec components n joint
  stays_related label m n joint a mv none =
      let e = enabled_there spec components m joint mv.trans a mv.enabled in record {
        run = a.run ++ mv.trans ∷ [];
        runs = enabled_last spec a.run mv.trans a.runs e;
        marking = λ p. mv.marking p ∙ marking_after spec components m joint mv.trans a p;
        each = λ j l.
            let hidden = false_from_ne_true (is_among (stg_at components j).graph.known label.signal) (none j l) in
            (next_unknown spec (stg_at components j) label a.run mv.trans (joint j) mv.labelled (a.each j l) hidden).reaches;
      }

  -- the specification can do what a component does with its own output
  can_fire : (label : Label) (m : Marking) (joint : JointMarking) (n : Marking) (i : ℕ) (a : AreRelated spec components m joint) → i < length components → Drives (stg_at components i) label.signal
      → (mv : Moves (stg_at components i).graph label (joint i) n) → CanFire spec a.run mv.labelled.name
  can_fire label m joint n i a h drive mv =
      let x = stg_at components i in
      let r = a.each i h in
      let own : Drives x mv.labelled.name.signal = ap (λ (l : Label). is_among x.driven l.signal) mv.labelled.is ∙ drive in
      (good i h).faithful.own_agree a.run r.run mv.trans mv.labelled.name a.runs r.runs r.named mv.labelled.has own
      (enabled_same x.graph (joint i) (reached x.graph r.run) mv.trans (λ p. sym (r.marking p)) mv.enabled)

  -- after a joint step each component stands where it stands after the specification's transition
  same_after : (label : Label) (m : Marking) (joint new after : JointMarking) (run : List ℕ) → AreRelated spec components m joint → IsJointStep components label joint new
      → (j : ℕ) → j < length components → IsNext spec (stg_at components j) label run (joint j) (after j) → (p : ℕ) → new j p ≡ after j p
  same_after label m joint new after run a step j lj x p =
      let c = stg_at components j in
      elim (cases_Bool (is_among c.graph.known label.signal)) [
        | inl k ↦
            let b = step.moves j lj k in
            let d = x.moves k in
            b.marking p ∙ ap (λ t. fired c.graph (joint j) t p) (same_trans spec c label _ (joint j) (new j) (after j) (good j lj) (a.each j lj) b d) ∙ sym (d.marking p)
        | inr k ↦
            let no : ¬ Knows c label.signal = λ known. false≢true (sym k ∙ known) in
            step.stays j lj no p ∙ sym (x.stays no p)
      ]

  -- a joint step of an output's edge is one of the specification
  moves_to : (label : Label) (m : Marking) (joint new : JointMarking) → AreRelated spec components m joint → IsJointStep components label joint new
      → (i : ℕ) → i < length components → Drives (stg_at components i) label.signal → MovesTo spec components label m new
  moves_to label m joint new a step i h drive =
      let mv = step.moves i h ((good i h).is.driven_known label.signal drive) in
      let c = can_fire label m joint (new i) i a h drive mv in
      let l : HasLabel spec c.trans label = record { name = mv.labelled.name; has = c.has; is = mv.labelled.is } in
      let x = all_next label m joint c.trans a c.enabled l in record {
        new = fired spec m c.trans;
        moves = record { trans = c.trans; labelled = l; enabled = enabled_same spec (reached spec a.run) m c.trans a.marking c.enabled; marking = λ p. refl };
        related = record {
          run = a.run ++ c.trans ∷ [];
          runs = enabled_last spec a.run c.trans a.runs c.enabled;
          marking = marking_after spec components m joint c.trans a;
          each = λ j lj.
              reaches_same (stg_at components j).graph _ (x.new j) (new j) (same_after label m joint new x.new (a.run ++ c.trans ∷ []) a step j lj (x.each j lj)) (x.each j lj).reaches;
        };
      }

  can_step : (label : Label) (m n : Marking) (joint : JointMarking) (i : ℕ) → AreRelated spec components m joint → i < length components → Drives (stg_at components i) label.signal
      → Moves (stg_at components i).graph label (joint i) n → CanStep components label joint
  can_step label m n joint i a h drive mv =
      let c = can_fire label m joint n i a h drive mv in
      let l : HasLabel spec c.trans label = record { name = mv.labelled.name; has = c.has; is = mv.labelled.is } in
      let x = all_next label m joint c.trans a c.enabled l in record {
        new = x.new;
        step = record { one = i; there = h; one_knows = (good i h).is.driven_known label.signal drive; moves = λ j k known. (x.each j k).moves known; stays = λ j k no. (x.each j k).stays no };
      }

  starts_related : AreRelated spec components (tokens_at spec) (λ i. tokens_at (stg_at components i).graph)
  starts_related = record {
    run = [];
    runs = tt;
    marking = λ p. refl;
    each = λ i h. record { run = []; runs = tt; named = refl; marking = λ p. refl };
  }

pub faithful_parts_are_correct : (spec : Stg) (components : List Stg) → IsDeterministic spec.graph → AreWired spec components
    → ((i : ℕ) → i < length components → IsStg (stg_at components i)) → ((i : ℕ) → i < length components → IsFaithful spec.graph (stg_at components i)) → IsCorrect spec components
faithful_parts_are_correct spec components deterministic wired are faithful =
    let good : (i : ℕ) → i < length components → IsGood spec.graph (stg_at components i) =
    λ i h. record { is = are i h; faithful = faithful i h; deterministic = (faithful i h).deterministic deterministic } in
    record {
      wired = wired;
      starts = starts_related spec.graph components good;
      inputs_followed = λ m n joint label a mv input. record {
        where_known = λ i h known. steps_to spec.graph components good label m n joint a mv i h known;
        where_unknown = λ none. stays_related spec.graph components good label m n joint a mv none;
      };
      outputs_followed = λ m n joint label a mv drive.
          let d = wired.all_driven label.signal drive in
          steps_to spec.graph components good label m n joint a mv d.driver d.there ((are d.driver d.there).driven_known label.signal d.drives_it);
      joint_outputs_allowed = λ m joint new label a step drive.
          let d = wired.all_driven label.signal drive in
          moves_to spec.graph components good label m joint new a step d.driver d.there d.drives_it;
      outputs_not_refused = λ m joint label i t a h drive has enabled.
          let g = (stg_at components i).graph in
          can_step spec.graph components good label m (fired g (joint i) t) joint i a h drive (record { trans = t; labelled = has; enabled = enabled; marking = λ p. refl });
    }
