-- Two arcs of a net clash exactly where the net's graph has the clash.
use Rattle.std.proofs.Common.{is_some, ◌≡◌, ℕ, ◌<◌, ◌==◌, ◌&&◌, not, true, false, List, [], length, get_or, Option, Some, None, refl, sym, ap, ◌∙◌, subst, arith, eq-eqb, inl, inr}
use Rattle.std.proofs.lemmas.Bool.{and_parts, cases_order, eqb-true, not-true, false≢true}
use Rattle.std.proofs.lemmas.Option.{same_Some}
use Rattle.stg_net.specs.declared.trans.TransName.{TransName}
use Rattle.stg_net.specs.declared.arc.NetArc.{NetArc}
use Rattle.stg_net.specs.Net.{NetLists, IsNet, signal_at, trans_at, is_edge, IsBefore as IsArcBefore}
use Rattle.stg_net.specs.Graph.{Graph, IsKnown, takes}
use Rattle.stg_net.specs.Initial.{connects, full_name, graph_of}
use Rattle.stg_net.proofs.Edges.{is_edge-true, is_edge-itself}
use Rattle.stg_net.proofs.Weights.{ConnectingArc, connects_whole, weight_of-arc, takes-graph_of, takes-connecting, connecting_there, full_name_at-graph_of}
use Rattle.stg_net.proofs.Signals.{one_signal}
use Rattle.stg_laws.proofs.Components.{net_all_known}
use Rattle.stg_laws.specs.Cuts.{Label, label_of}
use Rattle.stg_laws.specs.Deterministic.{AreRivals}
use Rattle.stg_laws.specs.Conflict.{HasNoAutoConflict, IsClash, IsLeastClash}
use Rattle.stg_conflict.specs.declared.clash.Clash.{Clash}
use Rattle.stg_conflict.specs.inner.Search.{have_label, are_clashing, least_clash}
use Rattle.stg_conflict.proofs.Found.{Found, trans_up, least_clash-sound, found-reached}

-- the signal of each transition of a net is known
known_below : (n : NetLists) (t : ℕ) → IsNet n → t < length n.trans → IsKnown (graph_of n) t
known_below n t net below = net_all_known n net t (ap is_some (full_name_at-graph_of n t below))

takes_some : (n : NetLists) (a : NetArc) (i : ℕ) → IsNet n → i < length n.arcs → get_or n.arcs i a ≡ a → a.into ≡ false → 0 < takes (graph_of n) a.trans a.place
takes_some n a i net inside a_is out =
    let e = ap (connects false a.trans a.place) a_is ∙ connects_whole false a.trans a.place a (record { trans_is = refl; place_is = refl; goes_is = out }) in
    omega (arith, takes-graph_of n a.trans a.place net, weight_of-arc false a.trans a.place n.arcs i a net.ordered inside e, (net.arcs i a inside).positive)

out_ascends : (a b : NetArc) → IsArcBefore a b → a.place ≡ b.place → a.into ≡ false → b.into ≡ false → a.trans < b.trans
out_ascends a b before same a_out b_out = elim before [
  | inl l ↦ absurd (omega (arith, l, same))
  | inr s ↦ elim s.1 [ inl l ↦ l | inr r ↦ absurd (false≢true (sym b_out ∙ r.1.1)) ]
]

-- two arcs that clash give a clash of the graph
pub found_clash : (n : NetLists) (c : Clash) → IsNet n → Found n.trans n.arcs c → IsClash (graph_of n) c.t1 c.t2 c.place
found_clash n c net f = subst (λ (x : Clash). IsClash (graph_of n) x.t1 x.t2 x.place) (sym f.c_is) (clash f.one f.other f.first f.second f.ascends f.inside (f.one_is f.one) (f.other_is f.other) (f.one_is f.other) f.same_place f.clashing)
  where
    clash : (a b : NetArc) (i j : ℕ) → i < j → j < length n.arcs → get_or n.arcs i a ≡ a → get_or n.arcs j b ≡ b → get_or n.arcs i b ≡ a → b.place ≡ a.place → are_clashing n.trans a b ≡ true → IsClash (graph_of n) a.trans b.trans a.place
    clash a b i j lt inside a_is b_is a_at same r =
        let x = trans_at n.trans a.trans in
        let y = trans_at n.trans b.trans in
        let outer = and_parts (have_label x y && not a.into) (not b.into) r in
        let inner = and_parts (have_label x y) (not a.into) outer.0 in
        let label = and_parts (x.signal == y.signal) (is_edge x.edge y.edge) inner.0 in
        let same_signal : x.signal ≡ y.signal = eqb-true x.signal y.signal label.0 in
        let same_edge : x.edge ≡ y.edge = is_edge-true x.edge y.edge label.1 in
        let a_out = not-true a.into inner.1 in
        let b_out = not-true b.into outer.1 in
        let before : IsArcBefore a b = subst (λ z. IsArcBefore z b) a_at (subst (IsArcBefore (get_or n.arcs i b)) b_is (net.ordered i j b lt inside)) in
        let up : a.trans < b.trans = out_ascends a b before (sym same) a_out b_out in
        let there : b.trans < length n.trans = subst (λ (z : NetArc). z.trans < length n.trans) b_is (net.arcs j b inside).trans_there in
        let below : a.trans < length n.trans = omega arith in
        record {
          conflict = record {
            rivals = record {
              differ = λ e. absurd (omega arith);
              t_known = known_below n a.trans net below;
              u_known = known_below n b.trans net there;
              t_name = full_name n x;
              u_name = full_name n y;
              t_has = full_name_at-graph_of n a.trans below;
              u_has = full_name_at-graph_of n b.trans there;
              same = (λ k. record { signal = (signal_at n.signals (same_signal k)).name; edge = same_edge k });
            };
            t_takes = takes_some n a i net (omega arith) a_is a_out;
            u_takes = subst (λ q. 0 < takes (graph_of n) b.trans q) same (takes_some n b j net inside b_is b_out);
          };
          ascends = up;
        }

-- the names that the graph has for two transitions of one label
labels : (n : NetLists) (t u : ℕ) → IsNet n → t < length n.trans → u < length n.trans → AreRivals (graph_of n) t u → have_label (trans_at n.trans t) (trans_at n.trans u) ≡ true
labels n t u net there also r =
    let x = trans_at n.trans t in
    let y = trans_at n.trans u in
    let x_is : r.t_name ≡ full_name n x = same_Some r.t_name (full_name n x) (sym r.t_has ∙ full_name_at-graph_of n t there) in
    let y_is : r.u_name ≡ full_name n y = same_Some r.u_name (full_name n y) (sym r.u_has ∙ full_name_at-graph_of n u also) in
    let same : label_of (full_name n x) ≡ label_of (full_name n y) = sym (ap label_of x_is) ∙ r.same ∙ ap label_of y_is in
    let signal : x.signal ≡ y.signal = one_signal n x.signal y.signal net (net.trans_signals t (trans_at [] t) there) (net.trans_signals u (trans_at [] u) also) (ap (λ (l : Label). l.signal) same) in
    let edge : x.edge ≡ y.edge = ap (λ (l : Label). l.edge) same in
    rw (eq-eqb x.signal y.signal signal) (ap (is_edge x.edge) (sym edge) ∙ is_edge-itself x.edge)

clashing_whole : (trans : List TransName) (a b : NetArc) → have_label (trans_at trans a.trans) (trans_at trans b.trans) ≡ true → a.into ≡ false → b.into ≡ false → are_clashing trans a b ≡ true
clashing_whole trans a b label a_out b_out = rw label (rw a_out (rw b_out refl))

-- of two arcs of one place, that of the lesser transition stands first
connecting_ascend : (n : NetLists) (t u p : ℕ) → IsNet n → t < u → (j : ConnectingArc n.arcs false t p) (k : ConnectingArc n.arcs false u p) → j.at < k.at
connecting_ascend n t u p net lt j k = elim (cases_order j.at k.at) [
  | inl same ↦
      let one : j.arc ≡ k.arc = sym (j.arc_is j.arc) ∙ ap (λ i. get_or n.arcs i j.arc) same ∙ k.arc_is j.arc in
      absurd (omega (arith, lt, j.connects_both.trans_is, k.connects_both.trans_is, ap (λ (a : NetArc). a.trans) one))
  | inr o ↦ elim o [
    | inl up ↦ up
    | inr down ↦
        let before : IsArcBefore k.arc j.arc = subst (λ (a : NetArc). IsArcBefore a j.arc) (k.arc_is j.arc) (subst (IsArcBefore (get_or n.arcs k.at j.arc)) (j.arc_is j.arc) (net.ordered k.at j.at j.arc down j.inside)) in
        absurd (omega (arith, lt, trans_up k.arc j.arc before (k.connects_both.place_is ∙ sym j.connects_both.place_is), j.connects_both.trans_is, k.connects_both.trans_is))
  ]
]

-- a clash of the graph is that of two arcs that clash
pub clash_found : (n : NetLists) (c : Clash) → IsNet n → IsClash (graph_of n) c.t1 c.t2 c.place → Found n.trans n.arcs c
clash_found n c net clash = found (takes-connecting n c.t1 c.place net clash.conflict.t_takes) (takes-connecting n c.t2 c.place net clash.conflict.u_takes)
  where
    found : ConnectingArc n.arcs false c.t1 c.place → ConnectingArc n.arcs false c.t2 c.place → Found n.trans n.arcs c
    found j k =
        let P : ℕ → Type 0 = λ t. have_label (trans_at n.trans t) (trans_at n.trans c.t2) ≡ true in
        let Q : ℕ → Type 0 = λ u. have_label (trans_at n.trans j.arc.trans) (trans_at n.trans u) ≡ true in
        let label = labels n c.t1 c.t2 net (connecting_there n false c.t1 c.place net j) (connecting_there n false c.t2 c.place net k) clash.conflict.rivals in
        record {
          first = j.at;
          second = k.at;
          ascends = connecting_ascend n c.t1 c.t2 c.place net clash.ascends j k;
          inside = k.inside;
          one = j.arc;
          one_is = j.arc_is;
          other = k.arc;
          other_is = k.arc_is;
          same_place = k.connects_both.place_is ∙ sym j.connects_both.place_is;
          clashing = clashing_whole n.trans j.arc k.arc (subst Q (sym k.connects_both.trans_is) (subst P (sym j.connects_both.trans_is) label)) j.connects_both.goes_is k.connects_both.goes_is;
          c_is = (λ i. record { t1 = sym j.connects_both.trans_is i; t2 = sym k.connects_both.trans_is i; place = sym j.connects_both.place_is i });
        }

turned : (g : Graph) (t u : ℕ) → AreRivals g t u → AreRivals g u t
turned g t u r = record { differ = λ e. r.differ (sym e); t_known = r.u_known; u_known = r.t_known; t_name = r.u_name; u_name = r.t_name; t_has = r.u_has; u_has = r.t_has; same = sym r.same }

-- a graph without clashes has no structural auto-conflict
pub no_clash : (g : Graph) → ((t u p : ℕ) → IsClash g t u p → ⊥) → HasNoAutoConflict g
no_clash g none t u p conflict = elim (cases_order t u) [
  | inl same ↦ absurd (conflict.rivals.differ same)
  | inr o ↦ elim o [
    | inl up ↦ none t u p (record { conflict = conflict; ascends = up })
    | inr down ↦ none u t p (record { conflict = record { rivals = turned g t u conflict.rivals; t_takes = conflict.u_takes; u_takes = conflict.t_takes }; ascends = down })
  ]
]

-- where the search finds nothing there is no structural auto-conflict
pub none_found : (n : NetLists) → IsNet n → least_clash n.trans n.arcs ≡ None → HasNoAutoConflict (graph_of n)
none_found n net e = no_clash (graph_of n) (λ t u p clash. let c : Clash = record { t1 = t; t2 = u; place = p } in absurd (rw e at (found-reached n.trans n.arcs c net.ordered (clash_found n c net clash))))

-- what the search finds is the least clash
pub least_found : (n : NetLists) (c : Clash) → IsNet n → least_clash n.trans n.arcs ≡ Some c → IsLeastClash (graph_of n) c.t1 c.t2 c.place
least_found n c net e = record {
  clash = found_clash n c net (least_clash-sound n.trans n.arcs c e);
  least = λ v w q clash. let d : Clash = record { t1 = v; t2 = w; place = q } in rw e at (found-reached n.trans n.arcs d net.ordered (clash_found n d net clash));
}

pub conflict_found : (n : NetLists) (c : Clash) → IsNet n → least_clash n.trans n.arcs ≡ Some c → HasNoAutoConflict (graph_of n) → ⊥
conflict_found n c net e none = none c.t1 c.t2 c.place (least_found n c net e).clash.conflict

-- what is found in the lists is found in the net that they are of
pub least_clash_is : (n : NetLists) (trans : List TransName) (arcs : List NetArc) (found : Option Clash) → trans ≡ n.trans → arcs ≡ n.arcs → least_clash trans arcs ≡ found → least_clash n.trans n.arcs ≡ found
least_clash_is n trans arcs found same_trans same_arcs e = sym (λ k. least_clash (same_trans k) (same_arcs k)) ∙ e
