-- The initial component of a net without structural auto-conflicts is calm.
use Rattle.std.proofs.Common.{◌≡◌, ◌≢◌, ℕ, zero, suc, ◌+◌, ◌<◌, ◌≤◌, Bool, true, false, List, [], ◌∷◌, filter, length, get_or, Some, is_some, refl, sym, ap, ◌∙◌, inl, inr, arith}
use Rattle.std.specs.List.{range_with_len, sum_by}
use Rattle.std.proofs.lemmas.Bool.{cases_eq, cases_lt, cases_Bool, false≢true, false_from_ne_true}
use Rattle.std.proofs.lemmas.List.{get_or_past, length-map}
use Rattle.stg_net.specs.declared.limits.TheConstants.Limits.{PART}
use Rattle.stg_net.specs.declared.arc.NetArc.{NetArc}
use Rattle.stg_net.specs.Net.{NetLists, IsNet, IsWithin}
use Rattle.stg_net.specs.Graph.{place_at, takes, gives}
use Rattle.stg_net.specs.Initial.{initial, graph_of, weight_of, connects, full_name}
use Rattle.stg_net.proofs.Weights.{connects_parts, connects_whole, weight_of-arc, weight_of-connecting, weight_of-cons, share_none, takes-initial, gives-initial, tokens_at-initial}
use Rattle.stg_laws.specs.Conflict.{HasNoAutoConflict}
use Rattle.stg_laws.proofs.Components.{net_all_known}
use Rattle.stg_laws.proofs.Names.{live_from}
use Rattle.stg_edit.specs.Counted.{count_arcs_at, count_arcs}
use Rattle.stg_arena.specs.WalkItems.{weighted}
use Rattle.stg_contract.specs.Calm.{IsCalm}
use Rattle.stg_contract.proofs.Calm.{length-weighted_suc, length-weighted_less, sum_filter_suc, cond_less}

-- and where one number alone may have more, there is at most one more
weighted_one : (n : ℕ) (w v : ℕ → ℕ) (at : ℕ) → ((k : ℕ) → k ≢ at → v k ≤ w k)
    → length (weighted n v) ≤ length (weighted n w) + 1
weighted_one zero w v at h = omega arith
weighted_one (suc n) w v at h = elim (cases_eq n at) [
  | inl e ↦ omega (arith, length-weighted_suc n w, length-weighted_suc n v, length-weighted_less n w v (λ k l. h k (λ f. absurd (omega (arith, e, f, l)))))
  | inr other ↦ omega (arith, length-weighted_suc n w, length-weighted_suc n v, weighted_one n w v at h, h n other)
]

weighted_zero : (n : ℕ) (w : ℕ → ℕ) → ((k : ℕ) → w k ≡ 0) → length (weighted n w) ≡ 0
weighted_zero zero w h = refl
weighted_zero (suc n) w h = omega (arith, length-weighted_suc n w, weighted_zero n w h, h n)

-- the sum of what the numbers below n have
abbrev total : (ℕ → ℕ) → ℕ → ℕ
total f zero = 0
total f (suc n) = total f n + f n

total_le : (f h : ℕ → ℕ) (n : ℕ) → ((k : ℕ) → k < n → h k ≤ f k) → total h n ≤ total f n
total_le f h zero b = omega arith
total_le f h (suc n) b = omega (arith, total_le f h n (λ k l. b k (omega arith)), b n (omega arith))

total_one : (f h : ℕ → ℕ) (at n : ℕ) → ((k : ℕ) → k ≢ at → h k ≤ f k) → h at ≤ f at + 1
    → total h n ≤ total f n + 1
total_one f h at zero b one = omega arith
total_one f h at (suc n) b one = elim (cases_eq n at) [
  | inl e ↦ omega (arith, total_le f h n (λ k l. b k (λ g. absurd (omega (arith, e, g, l)))), one, ap h e, ap f e)
  | inr other ↦ omega (arith, total_one f h at n b one, b n other)
]

total_zero : (f : ℕ → ℕ) (n : ℕ) → ((k : ℕ) → f k ≡ 0) → total f n ≡ 0
total_zero f zero h = refl
total_zero f (suc n) h = omega (arith, total_zero f n h, h n)

-- how many transitions have an arc of one direction at p
abbrev arcs_along : List NetArc → Bool → ℕ → ℕ → ℕ
arcs_along arcs into trans p = length (weighted trans (λ t. weight_of arcs into t p))

abbrev arcs_at : List NetArc → ℕ → ℕ → ℕ
arcs_at arcs trans p = arcs_along arcs false trans p + arcs_along arcs true trans p

-- where the arc stands elsewhere, there are as many as before
along_same : (a : NetArc) (arcs : List NetArc) (into : Bool) (trans p : ℕ)
    → ((t : ℕ) → connects into t p a ≡ false) → arcs_along (a ∷ arcs) into trans p ≤ arcs_along arcs into trans p
along_same a arcs into trans p none =
    length-weighted_less trans (λ t. weight_of arcs into t p) (λ t. weight_of (a ∷ arcs) into t p) (λ t b. omega (arith, weight_of-cons into t p a arcs, share_none into t p a (none t)))

along_one : (a : NetArc) (arcs : List NetArc) (into : Bool) (trans p : ℕ)
    → arcs_along (a ∷ arcs) into trans p ≤ arcs_along arcs into trans p + 1
along_one a arcs into trans p =
    weighted_one trans (λ t. weight_of arcs into t p) (λ t. weight_of (a ∷ arcs) into t p) a.trans
    (λ t other. omega (arith, weight_of-cons into t p a arcs, share_none into t p a (false_from_ne_true _ (λ e. other (sym (connects_parts into t p a e).trans_is)))))

other_place_none : (a : NetArc) (into : Bool) (p : ℕ) → p ≢ a.place → (t : ℕ) → connects into t p a ≡ false
other_place_none a into p other t = false_from_ne_true _ (λ e. other (sym (connects_parts into t p a e).place_is))

other_way_none : (a : NetArc) (into : Bool) (p : ℕ) → a.into ≢ into → (t : ℕ) → connects into t p a ≡ false
other_way_none a into p other t = false_from_ne_true _ (λ e. other (connects_parts into t p a e).goes_is)

both_one : (a : NetArc) (arcs : List NetArc) (trans p : ℕ) → arcs_at (a ∷ arcs) trans p ≤ arcs_at arcs trans p + 1
both_one a arcs trans p = elim (cases_Bool a.into) [
  | inl e ↦ omega (arith, along_same a arcs false trans p (other_way_none a false p (λ f. false≢true (sym f ∙ e))), along_one a arcs true trans p)
  | inr e ↦ omega (arith, along_same a arcs true trans p (other_way_none a true p (λ f. false≢true (sym e ∙ f))), along_one a arcs false trans p)
]

both_same : (a : NetArc) (arcs : List NetArc) (trans p : ℕ) → p ≢ a.place
    → arcs_at (a ∷ arcs) trans p ≤ arcs_at arcs trans p
both_same a arcs trans p other = omega (arith, along_same a arcs false trans p (other_place_none a false p other), along_same a arcs true trans p (other_place_none a true p other))

few_arcs : (arcs : List NetArc) (trans places : ℕ) → total (arcs_at arcs trans) places ≤ length arcs
few_arcs [] trans places = omega (arith, total_zero (arcs_at [] trans) places (λ p. omega (arith, weighted_zero trans (λ t. weight_of [] false t p) (λ t. refl), weighted_zero trans (λ t. weight_of [] true t p) (λ t. refl))))
few_arcs (a ∷ arcs) trans places =
    omega (arith, few_arcs arcs trans places, total_one (arcs_at arcs trans) (arcs_at (a ∷ arcs) trans) a.place places (both_same a arcs trans) (both_one a arcs trans a.place))

sum_total : (f : ℕ → ℕ) (q : ℕ → Bool) (n : ℕ) → sum_by f (filter q (range_with_len 0 n)) ≤ total f n
sum_total f q zero = omega arith
sum_total f q (suc n) = omega (arith, sum_filter_suc f q n, sum_total f q n, cond_less true (q n) (f n) (f n) (λ e. refl) (omega arith))

-- an initial component has no more arcs than its net
initial_arcs : (n : NetLists) (known : List ℕ) → IsNet n → count_arcs (initial n known) ≤ length n.arcs
initial_arcs n known net =
    let g = initial n known in
    let trans = length n.trans in
    let at : (p : ℕ) → count_arcs_at g p ≤ arcs_at n.arcs trans p = λ p.
    omega (
      arith,
      ap (λ k. length (weighted k (λ t. takes g t p))) (let e : length g.trans ≡ trans = length-map n.trans (λ t. Some (full_name n t)) in e),
      ap (λ k. length (weighted k (λ t. gives g t p))) (let e : length g.trans ≡ trans = length-map n.trans (λ t. Some (full_name n t)) in e),
      length-weighted_less trans (λ t. weight_of n.arcs false t p) (λ t. takes g t p) (λ t b. omega (arith, takes-initial n known t p net)),
      length-weighted_less trans (λ t. weight_of n.arcs true t p) (λ t. gives g t p) (λ t b. omega (arith, gives-initial n known t p net)),
    ) in
    let q : ℕ → Bool = λ p. is_some (place_at g p) in
    omega (arith, sum_total (count_arcs_at g) q (length g.places), total_le (arcs_at n.arcs trans) (count_arcs_at g) (length g.places) (λ p b. at p), few_arcs n.arcs trans (length g.places))

weight_small : (n : NetLists) (into : Bool) (t p : ℕ) → IsNet n → IsWithin PART n
    → weight_of n.arcs into t p ≤ 1000000
weight_small n into t p net within = elim (cases_lt 0 (weight_of n.arcs into t p)) [
  | inr none ↦ omega arith
  | inl some ↦
      let j = weight_of-connecting into t p n.arcs some in
      let here : connects into t p (get_or n.arcs j.at j.arc) ≡ true = ap (connects into t p) (j.arc_is j.arc) ∙ connects_whole into t p j.arc j.connects_both in
      omega (arith, weight_of-arc into t p n.arcs j.at j.arc net.ordered j.inside here, within.weights j.at j.arc j.inside)
]

-- an initial component is calm where its net has no structural auto-conflict
pub calm-initial : (n : NetLists) (known : List ℕ) → IsNet n → IsWithin PART n
    → HasNoAutoConflict (graph_of n) → IsCalm (initial n known)
calm-initial n known net within apart = record {
  no_conflict = λ t u p a. apart t u p (record {
    rivals = let r = a.rivals in record {
      differ = r.differ;
      t_known = net_all_known n net t (live_from (graph_of n) t r.t_name r.t_has);
      u_known = net_all_known n net u (live_from (graph_of n) u r.u_name r.u_has);
      t_name = r.t_name;
      u_name = r.u_name;
      t_has = r.t_has;
      u_has = r.u_has;
      same = r.same;
    };
    t_takes = a.t_takes;
    u_takes = a.u_takes;
  });
  within = record {
    taken = λ t p. omega (arith, takes-initial n known t p net, weight_small n false t p net within);
    given = λ t p. omega (arith, gives-initial n known t p net, weight_small n true t p net within);
    tokens = λ p. elim (cases_lt p (length n.tokens)) [
      | inl l ↦ omega (arith, tokens_at-initial n known p, within.tokens p 0 l)
      | inr past ↦ omega (arith, tokens_at-initial n known p, get_or_past n.tokens p 0 past)
    ];
    arcs = omega (arith, initial_arcs n known net, within.arcs);
  };
}
