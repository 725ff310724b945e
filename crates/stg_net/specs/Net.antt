-- What a net is: its four lists, and the facts that each net has.
use Rattle.std.specs.Prelude.{◌≡◌, ◌≢◌, ℕ, ◌<◌, ◌≤◌, ◌^◌, Bool, false, true, ◌⊎◌, List, [], length, All, AllPairs, Option, position, slice_index_or}
use Rattle.std.specs.Str.{bytes_eq}
use Rattle.stg_net.specs.declared.signal.Kind.{Kind}
use Rattle.stg_net.specs.declared.signal.Kind.TheVariants.{Input, Output, Internal}
use Rattle.stg_net.specs.declared.signal.Signal.{Signal}
use Rattle.stg_net.specs.declared.trans.Edge.{Edge}
use Rattle.stg_net.specs.declared.trans.Edge.TheVariants.{Rise, Fall, Toggle}
use Rattle.stg_net.specs.declared.trans.TransName.{TransName}
use Rattle.stg_net.specs.declared.arc.NetArc.{NetArc}
use Rattle.stg_net.specs.declared.limits.Limits.{Limits}

-- the four lists of a net, with the tokens of each place
pub record NetLists : Type 0 where
  pub signals : List Signal
  pub trans : List TransName
  pub tokens : List ℕ
  pub arcs : List NetArc

-- false before true
abbrev pub IsFalseFirst : Bool → Bool → Type 0
IsFalseFirst a b = (a ≡ false) × (b ≡ true)

-- the order of arcs: by place, then by transition, then those out of the place first
abbrev pub IsBefore : NetArc → NetArc → Type 0
IsBefore a b =
    (a.place < b.place)
    ⊎ ((a.place ≡ b.place)
    × ((a.trans < b.trans) ⊎ ((a.trans ≡ b.trans) × IsFalseFirst a.into b.into)))

-- the numbers of an arc are there, and its weight is at least 1
pub record IsArcOf (places trans : ℕ) (a : NetArc) : Type 0 where
  pub place_there : a.place < places
  pub trans_there : a.trans < trans
  pub positive : 1 ≤ a.weight

-- names differ, numbers are there and fit 32 bits, and the arcs ascend
pub record IsNet (n : NetLists) : Type 0 where
  pub signal_names : AllPairs (λ (s t : Signal). s.name ≢ t.name) n.signals
  pub trans_names : AllPairs (λ (s t : TransName). s ≢ t) n.trans
  pub trans_signals : All (λ (t : TransName). t.signal < length n.signals) n.trans
  pub arcs : All (IsArcOf (length n.tokens) (length n.trans)) n.arcs
  pub ordered : AllPairs IsBefore n.arcs
  pub signals_fit : length n.signals < 2 ^ 32
  pub trans_fit : length n.trans < 2 ^ 32
  pub places_fit : length n.tokens < 2 ^ 32

-- no more of each kind than the limits say
pub record IsWithin (l : Limits) (n : NetLists) : Type 0 where
  pub signals : length n.signals ≤ l.signals
  pub trans : length n.trans ≤ l.trans
  pub places : length n.tokens ≤ l.places
  pub arcs : length n.arcs ≤ l.arcs
  pub tokens : All (λ k. k ≤ l.weight) n.tokens
  pub weights : All (λ (a : NetArc). a.weight ≤ l.weight) n.arcs

-- the number of the signal of that name
abbrev pub number_of : List ℕ → List Signal → Option ℕ
number_of name signals = position (λ (s : Signal). bytes_eq name s.name) signals

-- the signal of that number
abbrev pub signal_at : List Signal → ℕ → Signal
signal_at signals s = slice_index_or signals s (record { name = []; kind = Input })

-- the name of the transition of that number
abbrev pub trans_at : List TransName → ℕ → TransName
trans_at trans t = slice_index_or trans t (record { signal = 0; edge = Rise; index = 0 })

-- whether the two kinds are one
abbrev pub is_kind : Kind → Kind → Bool
is_kind Input Input = true
is_kind Output Output = true
is_kind Internal Internal = true
is_kind k l = false

-- whether the two edges are one
abbrev pub is_edge : Edge → Edge → Bool
is_edge Rise Rise = true
is_edge Fall Fall = true
is_edge Toggle Toggle = true
is_edge e f = false
