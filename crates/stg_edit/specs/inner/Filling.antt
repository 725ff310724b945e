-- An arena that gets the places and arcs of a net, one after the other.
use Rattle.std.specs.Prelude.{◌≡◌, ◌<◌, ◌≤◌, ◌+◌, ◌-◌, ℕ, false, [], List, take, length, slice_index, slice_index_or, Bool, true}
use Rattle.stg_net.specs.declared.arc.NetArc.{NetArc}
use Rattle.stg_net.specs.Net.{NetLists}
use Rattle.stg_net.specs.Initial.{weight_of}
use Rattle.stg_arena.specs.declared.end.Way.{Way}
use Rattle.stg_arena.specs.ArenaView.{Layout, none, spot_at, removed_at, IsPastAll, IsArena}
use Rattle.stg_arena.specs.Incidence.{weight}
use Rattle.stg_arena.specs.declared.end.End.{End}
use Rattle.stg_arena.specs.declared.end.Way.TheVariants.{Take, Give}

-- the arc of that number
abbrev pub net_arc_at : List NetArc → ℕ → NetArc
net_arc_at arcs k = slice_index_or arcs k
    (record { place = 0; trans = 0; into = false; weight = 0 })

-- whether arcs of this way go into places
abbrev pub is_into : Way → Bool
is_into Take = false
is_into Give = true

-- two arcs of a net, one after the other, join the same place and transition
pub record IsTwoWay (arcs : List NetArc) (at : ℕ) : Type 0 where
  pub there : at + 1 < length arcs
  pub place : (net_arc_at arcs (at + 1)).place ≡ (net_arc_at arcs at).place
  pub trans : (net_arc_at arcs (at + 1)).trans ≡ (net_arc_at arcs at).trans

-- the first places of the net are there, and its arcs before `at`; the later arcs are of places
-- from `least` on
pub record IsFilled (n : NetLists) (count least at : ℕ) (l : Layout) : Type 0 where
  pub arena : IsArena l
  pub places : length l.places ≡ count
  pub trans : length l.trans ≡ length n.trans
  pub tokens : (p : ℕ) → p < count → (spot_at l.places p).tokens ≡ slice_index n.tokens p
  pub live : (b : End) (k : ℕ) → removed_at l b k ≡ none
  pub removals : l.removals ≡ []
  pub weights : (b : Way) (p t : ℕ)
      → weight l.cells b p t ≡ weight_of (take at n.arcs) (is_into b) t p
  pub within : at ≤ length n.arcs
  pub later : (j : ℕ) → at ≤ j → j < length n.arcs → least ≤ (net_arc_at n.arcs j).place
  pub removals_room : l.rooms.removals ≡ length n.tokens + length n.trans
  pub places_room : l.rooms.places ≡ length n.tokens
  pub room : length l.cells + (length n.tokens - count) + (length n.arcs - at) ≤ l.rooms.cells

-- while the place p, which is the last one, gets its arcs
pub record IsFillingPlace (n : NetLists) (p at : ℕ) (l : Layout) : Type 0 where
  pub filled : IsFilled n (p + 1) p at l
  pub past : at < length n.arcs → (net_arc_at n.arcs at).place ≡ p
      → IsPastAll l p (net_arc_at n.arcs at).trans
