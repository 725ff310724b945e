use Rattle.std.proofs.Common.{◌≡◌, ◌<◌, ◌^◌, ℕ, true, List, All, map, length, sym, ap, subst, ◌∙◌}
use Rattle.stg_net.specs.declared.signal.Signal.{Signal}
use Rattle.stg_net.specs.Graph.{IsPlace, IsTrans, has_signal_of, full_name_at, is_among}
use Rattle.stg_net.specs.Net.{NetLists, signal_at}
use Rattle.stg_edit.specs.Counted.{live_places}
use Rattle.stg_edit.specs.Compacted.{live_trans, known_signals, net_signal, IsNetOf}
use Rattle.stg_edit.specs.inner.Packing.{HaveNamesOf}
use Rattle.stg_edit.proofs.Compacting.{listed_from, all_of, kept_below, names_of_kept, none_hidden, trans_live, places_live, trans_below, few_trans, few_places, few_signals, listed_is_net_of, listed_count, listed_is_net}
use Rattle.stg_edit.proofs.editor.Editor.net.Goals as goal

pub net_signals-requires : goal.net_signals-requires
net_signals-requires c =
    let e = c.args.self.now in
    let same : c.as_slice-2.result.now ≡ known_signals e.signals e.now = c.as_slice-2.ensures ∙ c.in_ok-kept.ensures in
    let long : length e.signals ≡ length c.signals.result.now = sym (ap length c.signals.ensures.value) in
    subst (λ n. All (λ k. k < n) c.as_slice-2.result.now) long
    (all_of (λ k. k < length e.signals) c.as_slice-2.result.now (known_signals e.signals e.now) same (kept_below (λ s. is_among e.now.known (signal_at e.signals s).name) (length e.signals)))

pub list_names-requires-clause-live : goal.list_names-requires-clause-live
list_names-requires-clause-live c =
    let g = c.args.self.now.now in
    all_of (λ t. IsTrans g t) c.as_slice-5.result.now (live_trans g) (c.as_slice-5.ensures ∙ c.in_ok-trans.ensures) (trans_live g)

pub list_names-requires-clause-known : goal.list_names-requires-clause-known
list_names-requires-clause-known c =
    let g = c.args.self.now.now in
    all_of (λ t. has_signal_of g.known (full_name_at g t) ≡ true) c.as_slice-5.result.now (live_trans g) (c.as_slice-5.ensures ∙ c.in_ok-trans.ensures) (none_hidden g c.requires)

pub list_names-requires-clause-kept : goal.list_names-requires-clause-kept
list_names-requires-clause-kept c = c.as_slice-4.ensures ∙ c.in_ok-kept.ensures

pub list_names-requires-clause-names : goal.list_names-requires-clause-names
list_names-requires-clause-names c =
    let e = c.args.self.now in
    let kept : c.as_slice-2.result.now ≡ c.as_slice-4.result.now = c.as_slice-2.ensures ∙ sym c.as_slice-4.ensures in
    let same : map (net_signal e.signals c.args.own.now) c.as_slice-4.result.now ≡ c.as_slice-3.result.now =
    sym (c.as_slice-3.ensures ∙ c.in_ok-signals.ensures ∙ (λ i. map (net_signal (c.signals.ensures.value i) (c.as_slice.ensures i)) (kept i))) in
    subst (HaveNamesOf e.signals c.as_slice-4.result.now) same (names_of_kept e.signals c.args.own.now c.as_slice-4.result.now)

pub list_names-requires-clause-bounded : goal.list_names-requires-clause-bounded
list_names-requires-clause-bounded c =
    let e = c.args.self.now in
    let kept : c.as_slice-2.result.now ≡ known_signals e.signals e.now = c.as_slice-2.ensures ∙ c.in_ok-kept.ensures in
    let same : map (net_signal e.signals c.args.own.now) (known_signals e.signals e.now) ≡ c.as_slice-3.result.now =
    sym (c.as_slice-3.ensures ∙ c.in_ok-signals.ensures ∙ (λ i. map (net_signal (c.signals.ensures.value i) (c.as_slice.ensures i)) (kept i))) in
    subst (λ (xs : List Signal). length xs < 2 ^ 32) same (few_signals e.signals c.args.own.now e.now c.signals.ensures.draft.signals_fit)

pub list_tokens-requires : goal.list_tokens-requires
list_tokens-requires c =
    let g = c.args.self.now.now in
    all_of (λ p. IsPlace g p) c.as_slice-6.result.now (live_places g) (c.as_slice-6.ensures ∙ c.in_ok-places.ensures) (places_live g)

pub list_arcs-requires-clause-live : goal.list_arcs-requires-clause-live
list_arcs-requires-clause-live c =
    let g = c.args.self.now.now in
    all_of (λ p. IsPlace g p) c.as_slice-7.result.now (live_places g) (c.as_slice-7.ensures ∙ c.in_ok-places.ensures) (places_live g)

pub list_arcs-requires-clause-in_range : goal.list_arcs-requires-clause-in_range
list_arcs-requires-clause-in_range c =
    let g = c.args.self.now.now in
    all_of (λ t. t < length g.trans) c.as_slice-8.result.now (live_trans g) (c.as_slice-8.ensures ∙ c.in_ok-trans.ensures) (trans_below g)

pub list_arcs-requires-clause-bounded : goal.list_arcs-requires-clause-bounded
list_arcs-requires-clause-bounded c =
    let g = c.args.self.now.now in
    subst (λ (xs : List ℕ). length xs < 2 ^ 32) (sym (c.as_slice-8.ensures ∙ c.in_ok-trans.ensures)) (few_trans g c.signals.ensures.draft.trans_fit)

pub list_arcs-requires-clause-places_fit : goal.list_arcs-requires-clause-places_fit
list_arcs-requires-clause-places_fit c =
    let g = c.args.self.now.now in
    subst (λ (xs : List ℕ). length xs < 2 ^ 32) (sym (c.as_slice-7.ensures ∙ c.in_ok-places.ensures)) (few_places g c.signals.ensures.draft.places_fit)

pub of-requires : goal.of-requires
of-requires c =
    let e = c.args.self.now in
    let n : NetLists = record { signals = c.in_ok-signals.signals; trans = c.in_ok-names.names; tokens = c.in_ok-tokens.tokens; arcs = c.in_ok-arcs.arcs } in
    let listed =
    listed_from e c.args.own.now n c.as_slice-3.result.now c.as_slice-2.result.now c.as_slice-5.result.now c.as_slice-6.result.now c.as_slice-7.result.now c.as_slice-8.result.now
    (c.as_slice-2.ensures ∙ c.in_ok-kept.ensures) (c.as_slice-5.ensures ∙ c.in_ok-trans.ensures) (c.as_slice-6.ensures ∙ c.in_ok-places.ensures) (c.as_slice-7.ensures ∙ c.in_ok-places.ensures) (c.as_slice-8.ensures ∙ c.in_ok-trans.ensures)
    (c.in_ok-signals.ensures ∙ (λ i. map (net_signal (c.signals.ensures.value i) (c.as_slice.ensures i)) c.as_slice-2.result.now))
    c.as_slice-3.ensures c.in_ok-names.ensures.names c.in_ok-names.ensures.there c.in_ok-tokens.ensures c.in_ok-arcs.ensures in
    listed_is_net e c.args.own.now n c.signals.ensures.draft listed

pub returns-clause-value : goal.returns-clause-value
returns-clause-value c =
    let e = c.args.self.now in
    let n : NetLists = record { signals = c.in_ok-signals.signals; trans = c.in_ok-names.names; tokens = c.in_ok-tokens.tokens; arcs = c.in_ok-arcs.arcs } in
    let listed =
    listed_from e c.args.own.now n c.as_slice-3.result.now c.as_slice-2.result.now c.as_slice-5.result.now c.as_slice-6.result.now c.as_slice-7.result.now c.as_slice-8.result.now
    (c.as_slice-2.ensures ∙ c.in_ok-kept.ensures) (c.as_slice-5.ensures ∙ c.in_ok-trans.ensures) (c.as_slice-6.ensures ∙ c.in_ok-places.ensures) (c.as_slice-7.ensures ∙ c.in_ok-places.ensures) (c.as_slice-8.ensures ∙ c.in_ok-trans.ensures)
    (c.in_ok-signals.ensures ∙ (λ i. map (net_signal (c.signals.ensures.value i) (c.as_slice.ensures i)) c.as_slice-2.result.now))
    c.as_slice-3.ensures c.in_ok-names.ensures.names c.in_ok-names.ensures.there c.in_ok-tokens.ensures c.in_ok-arcs.ensures in
    subst (IsNetOf e.signals e.now c.args.own.now) (sym c.of.ensures) (listed_is_net_of e c.args.own.now n listed)

pub returns-clause-arcs : goal.returns-clause-arcs
returns-clause-arcs c =
    let e = c.args.self.now in
    let n : NetLists = record { signals = c.in_ok-signals.signals; trans = c.in_ok-names.names; tokens = c.in_ok-tokens.tokens; arcs = c.in_ok-arcs.arcs } in
    let listed =
    listed_from e c.args.own.now n c.as_slice-3.result.now c.as_slice-2.result.now c.as_slice-5.result.now c.as_slice-6.result.now c.as_slice-7.result.now c.as_slice-8.result.now
    (c.as_slice-2.ensures ∙ c.in_ok-kept.ensures) (c.as_slice-5.ensures ∙ c.in_ok-trans.ensures) (c.as_slice-6.ensures ∙ c.in_ok-places.ensures) (c.as_slice-7.ensures ∙ c.in_ok-places.ensures) (c.as_slice-8.ensures ∙ c.in_ok-trans.ensures)
    (c.in_ok-signals.ensures ∙ (λ i. map (net_signal (c.signals.ensures.value i) (c.as_slice.ensures i)) c.as_slice-2.result.now))
    c.as_slice-3.ensures c.in_ok-names.ensures.names c.in_ok-names.ensures.there c.in_ok-tokens.ensures c.in_ok-arcs.ensures in
    ap (λ (m : NetLists). length m.arcs) c.of.ensures ∙ listed_count e c.args.own.now n c.signals.ensures.draft listed
