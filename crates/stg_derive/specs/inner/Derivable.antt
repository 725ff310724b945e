-- Nets of tests from which parts can be derived, and a test that computes whether they are so.
use Rattle.std.specs.Prelude.{◌==◌, ◌&&◌, ◌||◌, ℕ, Bool, not, nat_lt, nat_le, List, [], map, length}
use Rattle.std.specs.List.{list_all}
use Rattle.stg_net.specs.declared.limits.TheConstants.Limits.{SPEC}
use Rattle.stg_net.specs.declared.spec.PlaceName.{PlaceName}
use Rattle.stg_net.specs.declared.spec.PlaceName.TheVariants.{Named}
use Rattle.stg_net.specs.declared.trans.Edge.{Edge}
use Rattle.stg_net.specs.declared.arc.NetArc.{NetArc}
use Rattle.stg_net.specs.Names.{is_name}
use Rattle.stg_net.specs.Net.{NetLists, trans_at, is_edge}
use Rattle.stg_contract.specs.inner.Worked.{arc, net}

-- a place whose name is never read
abbrev pub unnamed : ℕ → PlaceName
unnamed tokens = Named []

-- whether names and indices have the form of a specification's
abbrev pub are_well_named : List (List ℕ) → List (ℕ × Edge × ℕ) → Bool
are_well_named names trans =
    list_all is_name names && list_all (λ (t : ℕ × Edge × ℕ). nat_lt t.2 1000000000) trans

-- whether the tables are within the limits of specifications
abbrev pub are_small : List (List ℕ) → List (ℕ × Edge × ℕ) → List ℕ → List (ℕ × ℕ × Bool × ℕ) → Bool
are_small names trans tokens arcs =
    nat_le (length names) SPEC.signals
    && (nat_le (length trans) SPEC.trans
    && (nat_le (length tokens) SPEC.places
    && (nat_le (length arcs) SPEC.arcs
    && (list_all (λ k. nat_le k SPEC.weight) tokens
    && list_all (λ (a : NetArc). nat_le a.weight SPEC.weight) (map arc arcs)))))

-- whether two arcs aren't those of two transitions of one label that take from one place
abbrev pub are_apart : NetLists → NetArc → NetArc → Bool
are_apart n a b =
    a.into || (b.into || (not (a.place == b.place) || ((a.trans == b.trans)
    || (not ((trans_at n.trans a.trans).signal == (trans_at n.trans b.trans).signal)
    || not (is_edge (trans_at n.trans a.trans).edge (trans_at n.trans b.trans).edge)))))

-- whether each two arcs are so
abbrev pub are_all_apart : NetLists → Bool
are_all_apart n = list_all (λ a. list_all (are_apart n a) n.arcs) n.arcs

-- whether the net of these tables is one of a specification without structural auto-conflicts
abbrev pub is_derivable : List (List ℕ) → List (ℕ × Edge × ℕ) → List ℕ
    → List (ℕ × ℕ × Bool × ℕ) → Bool
is_derivable names trans tokens arcs =
    are_well_named names trans
    && (are_small names trans tokens arcs && are_all_apart (net names trans tokens arcs))
