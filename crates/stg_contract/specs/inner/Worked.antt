-- The nets of the tests, given by tables, and a test that computes whether they are nets.
use Rattle.std.specs.Prelude.{◌≡◌, ◌==◌, ◌+◌, ◌&&◌, ◌||◌, ℕ, Bool, true, not, nat_lt, nat_le, List, [], ◌∷◌, map, length}
use Rattle.std.specs.List.{list_all}
use Rattle.std.specs.Str.{bytes_eq}
use Rattle.std.specs.Borrow.{Bor}
use Rattle.stg_net.specs.declared.limits.TheConstants.Limits.{PART}
use Rattle.stg_net.specs.declared.signal.Signal.{Signal}
use Rattle.stg_net.specs.declared.signal.Kind.TheVariants.{Input}
use Rattle.stg_net.specs.declared.trans.Edge.{Edge}
use Rattle.stg_net.specs.declared.trans.TransName.{TransName}
use Rattle.stg_net.specs.declared.arc.NetArc.{NetArc}
use Rattle.stg_net.specs.Net.{NetLists, is_edge}
use Rattle.stg_edit.specs.Editing.{Editing}

-- the input of this name
abbrev pub input : List ℕ → Signal
input name = record { name = name; kind = Input }

-- the transition of this signal, edge and index
abbrev pub named_trans : ℕ × Edge × ℕ → TransName
named_trans (signal, edge, index) = record { signal = signal; edge = edge; index = index }

-- the arc of this place, transition, direction and weight
abbrev pub arc : ℕ × ℕ × Bool × ℕ → NetArc
arc (p, t, into, weight) = record { place = p; trans = t; into = into; weight = weight }

-- the names that are lent
abbrev pub lent_texts : List (Bor (List ℕ)) → List (List ℕ)
lent_texts names = map (λ name. name.now) names

-- the net of these tables
abbrev pub net : List (List ℕ) → List (ℕ × Edge × ℕ) → List ℕ → List (ℕ × ℕ × Bool × ℕ) → NetLists
net names trans tokens arcs = record {
  signals = map input names;
  trans = map named_trans trans;
  tokens = tokens;
  arcs = map arc arcs;
}

-- the net of these tables, where the names are lent
abbrev pub lent_net : List (Bor (List ℕ)) → List (ℕ × Edge × ℕ) → List ℕ → List (ℕ × ℕ × Bool × ℕ)
    → NetLists
lent_net names trans tokens arcs = net (lent_texts names) trans tokens arcs

-- so many edits were made
abbrev pub MadeEdits : Editing → Editing → ℕ → Type 0
MadeEdits old new edits = length new.past ≡ length old.past + edits

-- whether a test is met by each and each later one
abbrev pub all_pairs : {X : Type 0} → (X → X → Bool) → List X → Bool
all_pairs test [] = true
all_pairs test (x ∷ xs) = list_all (test x) xs && all_pairs test xs

-- whether two names differ
abbrev pub names_differ : List ℕ → List ℕ → Bool
names_differ s t = not (bytes_eq s t)

-- whether two transitions differ
abbrev pub trans_differ : ℕ × Edge × ℕ → ℕ × Edge × ℕ → Bool
trans_differ (s, e, i) (t, f, j) = not (s == t) || (not (is_edge e f) || not (i == j))

-- whether the ends of an arc are there, and its weight is within the limits
abbrev pub is_arc : ℕ → ℕ → NetArc → Bool
is_arc places trans a =
    nat_lt a.place places
    && (nat_lt a.trans trans && (nat_lt 0 a.weight && nat_le a.weight PART.weight))

-- whether an arc stands before another
abbrev pub stands_before : NetArc → NetArc → Bool
stands_before a b =
    nat_lt a.place b.place
    || ((a.place == b.place)
    && (nat_lt a.trans b.trans || ((a.trans == b.trans) && (not a.into && b.into))))

-- whether names and transitions are those of a net
abbrev pub are_labels : List (List ℕ) → List (ℕ × Edge × ℕ) → Bool
are_labels names trans =
    nat_le (length names) PART.signals
    && (nat_le (length trans) PART.trans
    && (all_pairs names_differ names
    && (all_pairs trans_differ trans
    && list_all (λ (t : ℕ × Edge × ℕ). nat_lt t.0 (length names)) trans)))

-- whether tokens and arcs are those of a net with so many transitions
abbrev pub are_arcs : ℕ → List ℕ → List (ℕ × ℕ × Bool × ℕ) → Bool
are_arcs trans tokens arcs =
    nat_le (length tokens) PART.places
    && (nat_le (length arcs) PART.arcs
    && (list_all (λ k. nat_le k PART.weight) tokens
    && (list_all (is_arc (length tokens) trans) (map arc arcs)
    && all_pairs stands_before (map arc arcs))))
