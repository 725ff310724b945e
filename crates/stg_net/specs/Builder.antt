-- How the fields of a builder stand for what has been added.
use Rattle.std.specs.Prelude.{◌≢◌, ℕ, ◌≤◌, ◌<◌, ◌^◌, length, map, All, AllPairs, nat_eq, Bool}
use Rattle.std.specs.Cmp.Lexicographic.{pointwise}
use Rattle.std.specs.Global.{Vec}
use Rattle.indexmap.specs.IndexMap.{IsUnique}
use Rattle.stg_net.specs.declared.signal.Signal.{Signal}
use Rattle.stg_net.specs.declared.signal.Kind.{Kind}
use Rattle.stg_net.specs.declared.trans.TransName.{TransName}
use Rattle.stg_net.specs.declared.arc.NetArc.{NetArc}
use Rattle.stg_net.specs.declared.builder.NetBuilder.TheInside.{Inside}
use Rattle.stg_net.specs.Net.{IsArcOf}
use Rattle.stg_net.specs.Building.{Building, HasEnds}

-- a signal's name, as the builder's map keeps it
abbrev pub Name : Type 0
Name = Vec ℕ

-- whether two names have the same bytes
abbrev pub name_eq : Name → Name → Bool
name_eq x y = pointwise nat_eq x.items y.items

-- the signal of an entry
abbrev pub entry_signal : Name × Kind → Signal
entry_signal e = record { name = e.0.items; kind = e.1 }

-- the signals are the entries of the map, in its order
abbrev pub building_of : Inside → Building
building_of b =
    record {
      limits = b.limits;
      lists = record {
        signals = map entry_signal b.signals.entries;
        trans = b.trans.items;
        tokens = b.tokens.items;
        arcs = b.arcs.items;
      };
    }

-- each count is within its limit, names and arcs differ, and numbers are there
pub record IsBuilder (b : Inside) : Type 0 where
  pub signals_fit : b.limits.signals < 2 ^ 32
  pub trans_fit : b.limits.trans < 2 ^ 32
  pub places_fit : b.limits.places < 2 ^ 32
  pub names : IsUnique name_eq b.signals
  pub signals : length b.signals.entries ≤ b.limits.signals
  pub trans : length b.trans.items ≤ b.limits.trans
  pub places : length b.tokens.items ≤ b.limits.places
  pub arcs : length b.arcs.items ≤ b.limits.arcs
  pub trans_names : AllPairs (λ (s t : TransName). s ≢ t) b.trans.items
  pub trans_signals : All (λ (t : TransName). t.signal < length b.signals.entries) b.trans.items
  pub tokens : All (λ k. k ≤ b.limits.weight) b.tokens.items
  pub weights : All (λ (a : NetArc). a.weight ≤ b.limits.weight) b.arcs.items
  pub arcs_there : All (IsArcOf (length b.tokens.items) (length b.trans.items)) b.arcs.items
  pub distinct : AllPairs (λ a c. HasEnds a c → ⊥) b.arcs.items
