-- What holds of the lists that lines without a fault make.
use Rattle.std.specs.Prelude.{◌≡◌, ℕ, Bool, true, false, ◌&&◌, nat_lt, List, [], ◌∷◌, length, Some}
use Rattle.std.specs.List.{list_all, list_any}
use Rattle.std.specs.Option.{option_map_or}
use Rattle.stg_net.specs.declared.signal.Signal.{Signal}
use Rattle.stg_net.specs.declared.trans.TransName.{TransName}
use Rattle.stg_net.specs.Names.{is_name}
use Rattle.astg_read.specs.Lists.{has_repeat}
use Rattle.astg_read.specs.Header.{same_name}
use Rattle.astg_read.specs.Nodes.{Node, Trans, Place, same_trans}
use Rattle.astg_read.specs.Targets.{is_weight}
use Rattle.astg_read.specs.Graphs.{TextArc, PlaceAt, Named, Between, same_text_arc, same_place}
use Rattle.astg_read.specs.Said.{Said}

-- the signal of the transition is one of so many, and its index has at most nine digits
abbrev pub is_trans_in : ℕ → TransName → Bool
is_trans_in signals t = nat_lt t.signal signals && nat_lt t.index 1000000000

-- the name of the signal has its form
abbrev pub is_named : Signal → Bool
is_named s = is_name s.name

-- the text arc has no weight, or one from 1 to the limit
abbrev pub is_weighed : ℕ → TextArc → Bool
is_weighed most p = option_map_or (λ w. is_weight most (Some w)) p.weight true

-- a node is among the transitions or the places
abbrev pub IsNodeIn : List TransName → List PlaceAt → Node → Type 0
IsNodeIn trans all (Trans t) = list_any (same_trans t) trans ≡ true
IsNodeIn trans all (Place p) = list_any (same_place (Named p)) all ≡ true

-- the place between two nodes is among the places, where both are transitions
abbrev pub IsBetweenIn : List PlaceAt → Node → Node → Type 0
IsBetweenIn all (Trans t) (Trans u) = list_any (same_place (Between t u)) all ≡ true
IsBetweenIn all m n = Unit {0}

-- both nodes of a text arc are there, and the place between them
pub record IsTextArcIn (trans : List TransName) (all : List PlaceAt) (p : TextArc) : Type 0 where
  pub source_there : IsNodeIn trans all p.source
  pub target_there : IsNodeIn trans all p.target
  pub between_there : IsBetweenIn all p.source p.target

-- that of each text arc
abbrev pub AreTextArcsIn : List TransName → List PlaceAt → List TextArc → Type 0
AreTextArcsIn trans all [] = Unit {0}
AreTextArcsIn trans all (p ∷ ps) = IsTextArcIn trans all p × AreTextArcsIn trans all ps

-- the transitions of a place between two are there
abbrev pub is_place_in : List TransName → PlaceAt → Bool
is_place_in trans (Named p) = true
is_place_in trans (Between t u) = list_any (same_trans t) trans && list_any (same_trans u) trans

-- names have their form and differ, as do transitions and text arcs; numbers
-- are there, and weights within the limit
pub record IsWellFormed (most : ℕ) (k : Said) : Type 0 where
  pub named : list_all is_named k.declared.signals ≡ true
  pub names_differ : has_repeat same_name [] k.declared.signals ≡ false
  pub trans_differ : has_repeat same_trans [] k.trans ≡ false
  pub trans_there : list_all (is_trans_in (length k.declared.signals)) k.trans ≡ true
  pub places_there : list_all (is_place_in k.trans) k.places ≡ true
  pub weighed : list_all (is_weighed most) k.text_arcs ≡ true
  pub text_arcs_there : AreTextArcsIn k.trans k.places k.text_arcs
  pub text_arcs_differ : has_repeat same_text_arc [] k.text_arcs ≡ false
