use Rattle.std.proofs.Common.{◌≡◌, ◌∙◌, ◌++◌, ◌<◌, arith, length, map, ap, sym, subst, List}
use Rattle.std.proofs.lemmas.List.{length-map}
use Rattle.stg_net.specs.declared.trans.TransName.{TransName}
use Rattle.std.specs.List.Sorted.{IsPermutation}
use Rattle.stg_net.specs.declared.limits.Limits.{Limits}
use Rattle.stg_net.specs.Net.{IsWithin}
use Rattle.stg_net.specs.Building.{Building}
use Rattle.astg_read.specs.Graphs.{arcs}
use Rattle.astg_read.specs.inner.PlaceTokens.{tokens_for}
use Rattle.astg_read.specs.Reading.{place_name}
use Rattle.astg_read.specs.inner.Views.{place_tokens_views, place_view, weighed_view}
use Rattle.astg_read.proofs.ConstructionLemmas.{counts-within, counts-fit, ready-from}
use Rattle.astg_read.proofs.finish.net_of.Goals as goal

pub place_names-requires : goal.place_names-requires
place_names-requires c =
    subst (λ (xs : List TransName). length xs < 4294967296) (sym c.into_parts-trans.ensures.trans) (counts-fit c.args.limits.now c.args.signals c.args.graph c.requires.limits c.requires.faultless.counts).0

pub add_trans-requires-clause-room : goal.add_trans-requires-clause-room
add_trans-requires-clause-room c =
    let b0 = c.new-builder.ensures in let b1 = c.in_ok-add_to.ensures in
    omega (
      arith,
      ap (λ (x : Building). length x.lists.trans) b1 ∙ ap (λ (x : Building). length x.lists.trans) b0,
      ap (λ (x : Building). x.limits.trans) b1 ∙ ap (λ (x : Building). x.limits.trans) b0,
      ap length (c.as_slice-2.ensures.keys ∙ c.into_parts-trans.ensures.trans),
      (counts-within c.args.limits.now c.args.signals c.args.graph c.requires.faultless.counts).0,
    )

pub add_places-requires-clause-room : goal.add_places-requires-clause-room
add_places-requires-clause-room c =
    let b0 = c.new-builder.ensures in let b1 = c.in_ok-add_to.ensures in let b2 = c.in_ok-add_trans.ensures in
    omega (
      arith,
      ap (λ (x : Building). length x.lists.tokens) b2 ∙ ap (λ (x : Building). length x.lists.tokens) b1 ∙ ap (λ (x : Building). length x.lists.tokens) b0,
      ap (λ (x : Building). x.limits.places) b2 ∙ ap (λ (x : Building). x.limits.places) b1 ∙ ap (λ (x : Building). x.limits.places) b0,
      ap length c.as_slice-3.ensures.keys,
      sym (length-map c.into_parts-trans.result.places.keys place_view),
      ap length c.into_parts-trans.ensures.places,
      (counts-within c.args.limits.now c.args.signals c.args.graph c.requires.faultless.counts).1,
    )

pub add_arcs-requires : goal.add_arcs-requires
add_arcs-requires c =
    let ss = c.args.signals in let g = c.args.graph in
    let f = tokens_for (place_tokens_views c.args.place_tokens.now) in
    let parts = c.into_parts-trans.ensures in
    let b0 = c.new-builder.ensures in let b1 = c.in_ok-add_to.ensures in let b2 = c.in_ok-add_trans.ensures in let b3 = c.in_ok-add_places.ensures in
    let ts = c.as_slice-2.result.now in let ks = map f (map place_view c.as_slice-3.result.now) in
    ready-from c.args.limits.now ss g c.add_places.new.builder c.into_parts-trans.result.trans.keys (map place_view c.into_parts-trans.result.places.keys) (map weighed_view c.into_parts-trans.result.weights.entries)
    parts.trans parts.places parts.text_arcs
    (ap (λ (x : Building). x.limits) b3 ∙ ap (λ (x : Building). x.limits) b2 ∙ ap (λ (x : Building). x.limits) b1 ∙ ap (λ (x : Building). x.limits) b0)
    (ap (λ (x : Building). x.lists.trans) b3 ∙ ap (λ (x : Building). x.lists.trans) b2 ∙ ap (λ (x : Building). x.lists.trans ++ ts) b1 ∙ ap (λ (x : Building). x.lists.trans ++ ts) b0 ∙ c.as_slice-2.ensures.keys ∙ parts.trans)
    (ap length (ap (λ (x : Building). x.lists.tokens) b3 ∙ ap (λ (x : Building). x.lists.tokens ++ ks) b2 ∙ ap (λ (x : Building). x.lists.tokens ++ ks) b1 ∙ ap (λ (x : Building). x.lists.tokens ++ ks) b0
    ∙ ap (map f) (ap (map place_view) c.as_slice-3.ensures.keys ∙ parts.places)) ∙ length-map g.places f)
    (ap (λ (x : Building). x.lists.arcs) b3 ∙ ap (λ (x : Building). x.lists.arcs) b2 ∙ ap (λ (x : Building). x.lists.arcs) b1 ∙ ap (λ (x : Building). x.lists.arcs) b0)
    c.requires.limits c.requires.faultless.well_formed c.requires.faultless.counts

pub returns-clause-built : goal.returns-clause-built
returns-clause-built c =
    let ss = c.args.signals in let g = c.args.graph in
    let f = tokens_for (place_tokens_views c.args.place_tokens.now) in
    let parts = c.into_parts-trans.ensures in
    let b0 = c.new-builder.ensures in let b1 = c.in_ok-add_to.ensures in let b2 = c.in_ok-add_trans.ensures in let b3 = c.in_ok-add_places.ensures in let b4 = c.in_ok-add_arcs.ensures in
    let ts = c.as_slice-2.result.now in let ks = map f (map place_view c.as_slice-3.result.now) in
    let linked_arcs = arcs c.into_parts-trans.result.trans.keys (map place_view c.into_parts-trans.result.places.keys) (map weighed_view c.into_parts-trans.result.weights.entries) in
    let n = c.in_ok-net.net in
    let signals : c.add_arcs.new.builder.lists.signals ≡ ss =
    ap (λ (x : Building). x.lists.signals) b4 ∙ ap (λ (x : Building). x.lists.signals) b3 ∙ ap (λ (x : Building). x.lists.signals) b2 ∙ ap (λ (x : Building). x.lists.signals) b1 ∙ ap (λ (x : Building). x.lists.signals ++ ss) b0 in
    let trans : c.add_arcs.new.builder.lists.trans ≡ g.trans =
    ap (λ (x : Building). x.lists.trans) b4 ∙ ap (λ (x : Building). x.lists.trans) b3 ∙ ap (λ (x : Building). x.lists.trans) b2 ∙ ap (λ (x : Building). x.lists.trans ++ ts) b1 ∙ ap (λ (x : Building). x.lists.trans ++ ts) b0 ∙ c.as_slice-2.ensures.keys ∙ parts.trans in
    let tokens : c.add_arcs.new.builder.lists.tokens ≡ map f g.places =
    ap (λ (x : Building). x.lists.tokens) b4 ∙ ap (λ (x : Building). x.lists.tokens) b3 ∙ ap (λ (x : Building). x.lists.tokens ++ ks) b2 ∙ ap (λ (x : Building). x.lists.tokens ++ ks) b1 ∙ ap (λ (x : Building). x.lists.tokens ++ ks) b0
    ∙ ap (map f) (ap (map place_view) c.as_slice-3.ensures.keys ∙ parts.places) in
    let linked : c.add_arcs.new.builder.lists.arcs ≡ arcs g.trans g.places g.text_arcs =
    ap (λ (x : Building). x.lists.arcs) b4 ∙ ap (λ (x : Building). x.lists.arcs ++ linked_arcs) b3 ∙ ap (λ (x : Building). x.lists.arcs ++ linked_arcs) b2 ∙ ap (λ (x : Building). x.lists.arcs ++ linked_arcs) b1 ∙ ap (λ (x : Building). x.lists.arcs ++ linked_arcs) b0
    ∙ (λ j. arcs (parts.trans j) (parts.places j) (parts.text_arcs j)) in
    let names : c.in_ok-names.names ≡ map (place_name g.trans) g.places =
    c.in_ok-names.ensures ∙ (λ j. map (place_name (parts.trans j)) ((ap (map place_view) c.as_slice.ensures.keys ∙ parts.places) j)) in
    record {
      signals_are = c.in_ok-net.ensures.signals ∙ signals;
      trans_are = c.in_ok-net.ensures.trans ∙ trans;
      tokens_are = c.in_ok-net.ensures.tokens ∙ tokens;
      arcs_are = subst (λ xs. IsPermutation xs n.arcs) linked c.in_ok-net.ensures.arcs;
      is_net = c.in_ok-net.ensures.net;
      names_are = names;
    }

pub returns-clause-within : goal.returns-clause-within
returns-clause-within c =
    let b0 = c.new-builder.ensures in let b1 = c.in_ok-add_to.ensures in let b2 = c.in_ok-add_trans.ensures in let b3 = c.in_ok-add_places.ensures in let b4 = c.in_ok-add_arcs.ensures in
    subst (λ (l : Limits). IsWithin l c.in_ok-net.net)
    (ap (λ (x : Building). x.limits) b4 ∙ ap (λ (x : Building). x.limits) b3 ∙ ap (λ (x : Building). x.limits) b2 ∙ ap (λ (x : Building). x.limits) b1 ∙ ap (λ (x : Building). x.limits) b0) c.in_ok-net.ensures.within
