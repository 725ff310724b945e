-- A net under construction, as the reader adds to it.
use Rattle.std.specs.Prelude.{◌≡◌, ℕ, ◌+◌, ◌<◌, ◌≤◌, ◌^◌, List, ◌++◌, true, false, None, map, length}
use Rattle.std.specs.List.Sorted.{IsPermutation}
use Rattle.stg_net.specs.Net.{IsNet}
use Rattle.stg_net.specs.Spec.{SpecLists}
use Rattle.astg_read.specs.inner.NoDummies.{without_dummies}
use Rattle.astg_read.specs.Said.{Said}
use Rattle.astg_read.specs.inner.Growth.{GraphLists}
use Rattle.astg_read.specs.Reading.{place_name}
use Rattle.std.specs.List.{list_any, list_all}
use Rattle.stg_net.specs.declared.signal.Signal.{Signal}
use Rattle.stg_net.specs.declared.trans.TransName.{TransName}
use Rattle.stg_net.specs.declared.arc.NetArc.{NetArc}
use Rattle.stg_net.specs.Building.{Building}
use Rattle.astg_read.specs.Lists.{has_repeat}
use Rattle.astg_read.specs.Graphs.{TextArc, PlaceAt, arcs, arcs_of, same_text_arc}
use Rattle.astg_read.specs.inner.WellFormed.{IsTextArcIn, AreTextArcsIn, is_weighed}

-- the net under construction with these signals
abbrev pub with_all_signals : Building → List Signal → Building
with_all_signals b signals =
    record b { lists = record (b.lists) { signals = b.lists.signals ++ signals } }

-- the net under construction with these transitions
abbrev pub with_all_trans : Building → List TransName → Building
with_all_trans b trans = record b { lists = record (b.lists) { trans = b.lists.trans ++ trans } }

-- the net under construction with places of these tokens
abbrev pub with_all_tokens : Building → List ℕ → Building
with_all_tokens b tokens =
    record b { lists = record (b.lists) { tokens = b.lists.tokens ++ tokens } }

-- the net under construction with these arcs
abbrev pub with_all_arcs : Building → List NetArc → Building
with_all_arcs b arcs = record b { lists = record (b.lists) { arcs = b.lists.arcs ++ arcs } }

-- The net under construction has these transitions and places and the arcs of some text arcs, and
-- room for those of the next text arc, which is a new one whose nodes are there.
pub record IsReady (b : Building) (trans : List TransName) (all : List PlaceAt)
    (p : TextArc) : Type 0 where
  pub trans_are : length trans ≡ length b.lists.trans
  pub places_are : length all ≡ length b.lists.tokens
  pub trans_fit : length trans < 2 ^ 32
  pub places_fit : length all < 2 ^ 32
  pub least : 1 ≤ b.limits.weight
  pub done : List TextArc
  pub arcs_are : b.lists.arcs ≡ arcs trans all done
  pub done_there : AreTextArcsIn trans all done
  pub there : IsTextArcIn trans all p
  pub weighed : is_weighed b.limits.weight p ≡ true
  pub fresh : list_any (same_text_arc p) done ≡ false
  pub room : length b.lists.arcs + length (arcs_of trans all p) ≤ b.limits.arcs

-- The net under construction has these transitions and places and the arcs of some text arcs, and
-- room for those of these, which are new ones whose nodes are there.
pub record AreReady (b : Building) (trans : List TransName) (all : List PlaceAt)
    (ps : List TextArc) : Type 0 where
  pub trans_are : length trans ≡ length b.lists.trans
  pub places_are : length all ≡ length b.lists.tokens
  pub trans_fit : length trans < 2 ^ 32
  pub places_fit : length all < 2 ^ 32
  pub least : 1 ≤ b.limits.weight
  pub done : List TextArc
  pub arcs_are : b.lists.arcs ≡ arcs trans all done
  pub done_there : AreTextArcsIn trans all done
  pub there : AreTextArcsIn trans all ps
  pub weighed : list_all (is_weighed b.limits.weight) ps ≡ true
  pub fresh : has_repeat same_text_arc done ps ≡ false
  pub room : length b.lists.arcs + length (arcs trans all ps) ≤ b.limits.arcs

-- what signals and a graph say
abbrev pub said_by : List Signal → GraphLists → Said
said_by signals g =
    record {
      has_graph = true;
      declared = without_dummies signals;
      trans = g.trans;
      places = g.places;
      text_arcs = g.text_arcs;
      marking = None;
    }

-- the specification of signals, a graph and the tokens of its places
pub record IsBuilt (signals : List Signal) (g : GraphLists) (tokens : List ℕ)
    (s : SpecLists) : Type 0 where
  pub signals_are : s.net.signals ≡ signals
  pub trans_are : s.net.trans ≡ g.trans
  pub tokens_are : s.net.tokens ≡ tokens
  pub arcs_are : IsPermutation (arcs g.trans g.places g.text_arcs) s.net.arcs
  pub is_net : IsNet s.net
  pub names_are : s.place_names ≡ map (place_name g.trans) g.places
