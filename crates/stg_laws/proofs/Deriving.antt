-- A graph that safe steps lead to, from the specification with a closed group's signals known, is a faithful component.
use Rattle.std.proofs.Common.{◌≡◌, ◌↔◌, ℕ, List, [], ◌∷◌, ◌++◌, Some, IsTrue, map, true, false, refl, sym, ◌∙◌, ap, inl, inr, arith}
use Rattle.std.proofs.lemmas.Bool.{cases_lt, cases_Bool}
use Rattle.stg_net.specs.Graph.{Graph, FullName, full_name_at, is_among, has_signal_of, tokens_at, takes}
use Rattle.stg_net.specs.Run.{Marking, IsEnabled, IsRun, IsRunFrom, fired, reached, reached_from}
use Rattle.stg_laws.specs.Closed.{IsClosed}
use Rattle.stg_laws.specs.Cuts.{Label, label_of, names_of, cut, IsNamedRun, IsCutOfRun, IsTraceOfRun, IsNameList, IsTrace}
use Rattle.stg_laws.specs.Deterministic.{IsClean, HasNoDummy}
use Rattle.stg_laws.specs.Faithful.{CanFire, IsFaithful}
use Rattle.stg_laws.specs.Stgs.{Stg, HasDistinctNames, Drives}
use Rattle.stg_laws.proofs.Cuts.{AllKnown, all_known, names-cut, cut-agree}
use Rattle.stg_laws.proofs.Inputs.{cut_tells_inputs}
use Rattle.stg_laws.proofs.Keeping.{Keeps}
use Rattle.stg_laws.proofs.Names.{Named, named, live_run, names_last}
use Rattle.stg_laws.proofs.Runs.{enabled_last}

-- the graph with these signals known
abbrev pub with_known : Graph → List (List ℕ) → Graph
with_known g signals = record g { known = signals }

-- runs don't read which signals are known
to_known : (g : Graph) (signals : List (List ℕ)) (m : Marking) (w : List ℕ) → IsRunFrom g m w → IsRunFrom (with_known g signals) m w
to_known g signals m [] run = run
to_known g signals m (t ∷ w) run = (record { live = run.0.live; covered = run.0.covered }, to_known g signals (fired g m t) w run.1)

from_known : (g : Graph) (signals : List (List ℕ)) (m : Marking) (w : List ℕ) → IsRunFrom (with_known g signals) m w → IsRunFrom g m w
from_known g signals m [] run = run
from_known g signals m (t ∷ w) run = (record { live = run.0.live; covered = run.0.covered }, from_known g signals (fired g m t) w run.1)

reached-with_known : (g : Graph) (signals : List (List ℕ)) (m : Marking) (w : List ℕ) → reached_from (with_known g signals) m w ≡ reached_from g m w
reached-with_known g signals m [] = refl
reached-with_known g signals m (t ∷ w) = reached-with_known g signals (fired g m t) w

clean_known : (g : Graph) (signals : List (List ℕ)) → AllKnown g → IsClean g → IsClean (with_known g signals)
clean_known g signals known clean run t u runs r et eu =
    let same = reached-with_known g signals (tokens_at g) run in
    clean run t u (from_known g signals (tokens_at g) run runs)
    (record { differ = r.differ; t_known = known t et.live; u_known = known u eu.live; t_name = r.t_name; u_name = r.u_name; t_has = r.t_has; u_has = r.u_has; same = r.same })
    (record { live = et.live; covered = λ p. omega (arith, et.covered p, ap (λ m. m p) same) })
    (record { live = eu.live; covered = λ p. omega (arith, eu.covered p, ap (λ m. m p) same) })

-- where a run's cut ends with a name, a front of the run has the cut before it, and can go on with that name
record Front (g : Graph) (signals : List (List ℕ)) (m : Marking) (names : List FullName) (name : FullName) : Type 0 where
  front : List ℕ
  runs : IsRunFrom g m front
  is_cut : cut g signals front ≡ names
  next : ℕ
  has : full_name_at g next ≡ Some name
  enabled : IsEnabled g (reached_from g m front) next

front_hidden : (g : Graph) (signals : List (List ℕ)) (m : Marking) (t : ℕ) (names : List FullName) (name : FullName) (x : Named g t) → is_among signals x.name.signal ≡ false
    → IsEnabled g m t → Front g signals (fired g m t) names name → Front g signals m names name
front_hidden g signals m t names name x k e f = record {
  front = t ∷ f.front;
  runs = (e, f.runs);
  is_cut = rw x.has (rw k f.is_cut);
  next = f.next;
  has = f.has;
  enabled = f.enabled;
}

front-names_among : (g : Graph) (signals : List (List ℕ)) (m : Marking) (t : ℕ) (rest names : List FullName) (name : FullName) (x : Named g t) → is_among signals x.name.signal ≡ true
    → IsEnabled g m t → x.name ∷ rest ≡ names ++ name ∷ [] → ((others : List FullName) → rest ≡ others ++ name ∷ [] → Front g signals (fired g m t) others name) → Front g signals m names name
front-names_among g signals m t rest [] name x k e same later =
    let here : x.name ≡ name = cc in
    record { front = []; runs = tt; is_cut = refl; next = t; has = x.has ∙ ap Some here; enabled = e }
front-names_among g signals m t rest (n ∷ names) name x k e same later =
    let here : x.name ≡ n = cc in
    let there : rest ≡ names ++ name ∷ [] = cc in
    let f = later names there in record {
      front = t ∷ f.front;
      runs = (e, f.runs);
      is_cut = rw x.has (rw k (ap (λ names. x.name ∷ names) f.is_cut ∙ ap (λ y. y ∷ names) here));
      next = f.next;
      has = f.has;
      enabled = f.enabled;
    }

no_end : (names : List FullName) (name : FullName) → [] ≡ names ++ name ∷ [] → ⊥
no_end [] name e = cc
no_end (n ∷ names) name e = cc

front_of : (g : Graph) (signals : List (List ℕ)) (m : Marking) (w : List ℕ) (names : List FullName) (name : FullName) → IsRunFrom g m w → cut g signals w ≡ names ++ name ∷ [] → Front g signals m names name
front_of g signals m [] names name run e = absurd (no_end names name e)
front_of g signals m (t ∷ w) names name run e =
    let x = named g t run.0.live in
    elim (cases_Bool (is_among signals x.name.signal)) [
      | inl k ↦ front-names_among g signals m t (cut g signals w) names name x k run.0 (rw k at (rw x.has at e)) (λ others same. front_of g signals (fired g m t) w others name run.1 same)
      | inr k ↦ front_hidden g signals m t names name x k run.0 (front_of g signals (fired g m t) w names name run.1 (rw k at (rw x.has at e)))
    ]

-- a transition of an own signal that is enabled after one run is enabled after each run with the same cut
enabled_after : (g : Graph) (own signals : List (List ℕ)) (t : ℕ) (v w : List ℕ) → HasDistinctNames g → IsClosed g own signals → IsTrue (has_signal_of own (full_name_at g t))
    → IsRun g v → IsRun g w → cut g signals v ≡ cut g signals w → IsEnabled g (reached g v) t → IsEnabled g (reached g w) t
enabled_after g own signals t v w distinct closed own_t a b same e = record {
  live = e.live;
  covered = λ p. elim (cases_lt 0 (takes g t p)) [
    | inl l ↦ omega (arith, e.covered p, cut_tells_inputs g own signals t p v w distinct closed own_t l a b same)
    | inr none ↦ omega arith
  ];
}

-- what a component comes from: from the specification, with these signals known, safe steps lead to it
pub record IsDerivation (spec : Graph) (signals : List (List ℕ)) (x : Stg) : Type 0 where
  pub distinct : HasDistinctNames spec
  pub known : AllKnown spec
  pub closed : IsClosed spec x.driven signals
  pub keeps : Keeps (with_known spec signals) x.graph
  pub no_dummy : HasNoDummy x.graph

module _ (spec : Graph) (signals : List (List ℕ)) (x : Stg) (d : IsDerivation spec signals x) where
  all_names : (v : List ℕ) → IsRun x.graph v → names_of x.graph v ≡ cut x.graph x.graph.known v
  all_names v runs = names-cut x.graph (all_known x.graph d.no_dummy) v (live_run x.graph (tokens_at x.graph) v runs)

  same_cut : (w : List ℕ) → cut spec x.graph.known w ≡ cut spec signals w
  same_cut w = cut-agree spec x.graph.known signals d.keeps.known w

  follows_cut : (run : List ℕ) → IsRun spec run → IsNamedRun x.graph (cut spec x.graph.known run)
  follows_cut run runs =
      let l = (d.keeps.names (cut spec signals run)).0 (record { run = run; runs = to_known spec signals (tokens_at spec) run runs; is_cut = refl }) in
      record { run = l.run; runs = l.runs; named = all_names l.run l.runs ∙ l.is_cut ∙ sym (same_cut run) }

  comes_from_cut : (v : List ℕ) → IsRun x.graph v → IsCutOfRun spec x.graph.known (names_of x.graph v)
  comes_from_cut v runs =
      let l = (d.keeps.names (names_of x.graph v)).1 (record { run = v; runs = runs; is_cut = sym (all_names v runs) }) in
      record { run = l.run; runs = from_known spec signals (tokens_at spec) l.run l.runs; is_cut = same_cut l.run ∙ l.is_cut }

  same_names : (names : List FullName) → IsNameList x.graph names ↔ IsCutOfRun spec x.graph.known names
  same_names names = (
    λ l. let c = comes_from_cut l.run l.runs in record { run = c.run; runs = c.runs; is_cut = c.is_cut ∙ all_names l.run l.runs ∙ l.is_cut },
    λ l. let f = follows_cut l.run l.runs in record { run = f.run; runs = f.runs; is_cut = sym (all_names f.run f.runs) ∙ f.named ∙ l.is_cut },
  )

  same_traces : (labels : List Label) → IsTrace x.graph labels ↔ IsTraceOfRun spec x.graph.known labels
  same_traces labels = (
    λ l. let c = comes_from_cut l.run l.runs in record { run = c.run; runs = c.runs; is_trace = ap (map label_of) (c.is_cut ∙ all_names l.run l.runs) ∙ l.is_trace },
    λ l. let f = follows_cut l.run l.runs in record { run = f.run; runs = f.runs; is_trace = ap (map label_of) (sym (all_names f.run f.runs) ∙ f.named) ∙ l.is_trace },
  )

  own_after : (run own : List ℕ) (t : ℕ) (name : FullName) → IsRun spec run → IsRun x.graph own → names_of x.graph own ≡ cut spec x.graph.known run
      → full_name_at x.graph t ≡ Some name → Drives x name.signal → IsEnabled x.graph (reached x.graph own) t → CanFire spec run name
  own_after run own t name runs own_runs same has own_name e =
      let c = comes_from_cut (own ++ t ∷ []) (enabled_last x.graph own t own_runs e) in
      let ends : cut spec signals c.run ≡ cut spec signals run ++ name ∷ [] =
      sym (same_cut c.run) ∙ c.is_cut ∙ names_last x.graph own t name has ∙ ap (λ names. names ++ name ∷ []) (same ∙ same_cut run) in
      let f = front_of spec signals (tokens_at spec) c.run (cut spec signals run) name c.runs ends in
      record {
        trans = f.next;
        has = f.has;
        enabled = enabled_after spec x.driven signals f.next f.front run d.distinct d.closed (rw f.has own_name) f.runs runs f.is_cut f.enabled;
      }

  pub derivation_is_faithful : IsFaithful spec x
  derivation_is_faithful = record {
    no_dummy = d.no_dummy;
    follows = follows_cut;
    comes_from = comes_from_cut;
    names = same_names;
    traces = same_traces;
    deterministic = λ deterministic. record { clean = d.keeps.clean (clean_known spec signals d.known deterministic.clean); no_dummy = d.no_dummy };
    own_agree = own_after;
  }
