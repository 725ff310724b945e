-- What a pass over the arcs of a net does: each signal has a leader, and
-- each place a signal that takes from it.
use Rattle.std.specs.Prelude.{◌≡◌, ◌<◌, ◌≤◌, ⊤, All, IfSome, IsTrue, length, map, ℕ, ◌+◌, ◌*◌, min, max, Bool, false, not, ◌&&◌, ◌||◌, ◌==◌, List, Option, Some, None, slice_index, slice_index_or, slice_set, if◌then◌else◌}
use Rattle.std.specs.List.{list_any}
use Rattle.stg_net.specs.declared.arc.NetArc.{NetArc}
use Rattle.stg_net.specs.Net.{NetLists}
use Rattle.stg_net.specs.Ordered.{only_where, numbers_with, numbers_where}
use Rattle.stg_laws.specs.Groups.{signal_of, is_driven_at, takes_from, AreJoined}
use Rattle.stg_laws.specs.PlainGroups.{Group}

-- the signal of the arc's transition, where it is an output or internal and the arc leads to it
abbrev pub own_taker : NetLists → NetArc → Option ℕ
own_taker n a =
    if not a.into && is_driven_at n.signals (signal_of n a) then Some (signal_of n a) else None

-- the leader in place of an old one, where one number is put for another
abbrev pub relabelled_leader : ℕ → ℕ → ℕ → ℕ
relabelled_leader from to leader = if leader == from then to else leader

-- the leader in place of an old one, after two signals are joined
abbrev pub merged_leader : List ℕ → ℕ → ℕ → ℕ → ℕ
merged_leader leaders x y leader =
    relabelled_leader (max (slice_index leaders x) (slice_index leaders y))
    (min (slice_index leaders x) (slice_index leaders y)) leader

-- the taker of the place of that number
abbrev pub taker_at : List (Option ℕ) → ℕ → Option ℕ
taker_at takers p = slice_index_or takers p None

-- the takers where s is that of p, unless p has one
abbrev pub with_first : Option ℕ → ℕ → ℕ → List (Option ℕ) → List (Option ℕ)
with_first None s p takers = slice_set takers p (Some s)
with_first (Some t) s p takers = takers

-- the takers after an arc at p with this own taker
abbrev pub with_taker : Option ℕ → ℕ → List (Option ℕ) → List (Option ℕ)
with_taker None p takers = takers
with_taker (Some s) p takers = with_first (taker_at takers p) s p takers

-- the leader in place of an old one, after an arc with this own taker at a place with that taker
abbrev pub new_leader : Option ℕ → Option ℕ → List ℕ → ℕ → ℕ
new_leader (Some s) (Some t) leaders leader = merged_leader leaders t s leader
new_leader (Some s) None leaders leader = leader
new_leader None taker leaders leader = leader

-- the leader in place of an old one, after an arc
abbrev pub leader_after : NetLists → NetArc → List (Option ℕ) → List ℕ → ℕ → ℕ
leader_after n a takers leaders leader =
    new_leader (own_taker n a) (taker_at takers a.place) leaders leader

-- each leader is what the change makes of the old one
abbrev pub AreChanged : (ℕ → ℕ) → List ℕ → List ℕ → Type 0
AreChanged change old new =
    (s : ℕ) → s < length old → slice_index new s ≡ change (slice_index old s)

-- the own taker has the leader of the taker of its place
abbrev pub IsLedWith : List ℕ → Option ℕ → Option ℕ → Type 0
IsLedWith leaders None taker = ⊤
IsLedWith leaders (Some s) None = ⊥
IsLedWith leaders (Some s) (Some t) = slice_index leaders s ≡ slice_index leaders t

-- signals of one leader are joined, and a leader is the least of those that it leads
pub record IsLed (n : NetLists) (leaders : List ℕ) : Type 0 where
  pub long : length leaders ≡ length n.signals
  pub joined : (x y : ℕ) → x < length leaders → y < length leaders
      → slice_index leaders x ≡ slice_index leaders y → AreJoined n x y
  pub low : (x : ℕ) → x < length leaders → slice_index leaders x ≤ x
  pub fixed : (x : ℕ) → x < length leaders
      → slice_index leaders (slice_index leaders x) ≡ slice_index leaders x

-- each place has one of its own takers, and the first k arcs
-- are led with the takers of their places
pub record IsJoining (n : NetLists) (k : ℕ) (leaders : List ℕ)
    (takers : List (Option ℕ)) : Type 0 where
  pub led : IsLed n leaders
  pub wide : length takers ≡ length n.tokens
  pub below : All (λ taker. IfSome taker (λ s. s < length leaders)) takers
  pub own : (p s : ℕ) → taker_at takers p ≡ Some s
      → IsTrue (is_driven_at n.signals s) × IsTrue (takes_from n s p)
  pub arcs : (i : ℕ) (d : NetArc) → i < k
      → IsLedWith leaders (own_taker n (slice_index_or n.arcs i d))
      (taker_at takers (slice_index_or n.arcs i d).place)

-- whether the taker's leader is this one
abbrev pub is_led : List ℕ → ℕ → Option ℕ → Bool
is_led leaders leader None = false
is_led leaders leader (Some s) = slice_index leaders s == leader

-- whether the arc brings the signal to the group of the leader
abbrev pub brings : NetLists → List ℕ → List (Option ℕ) → ℕ → ℕ → NetArc → Bool
brings n leaders takers leader s a =
    is_led leaders leader (taker_at takers a.place) && (signal_of n a == s)

-- whether an arc of the net brings the signal to the group of the leader
abbrev pub is_brought : NetLists → List ℕ → List (Option ℕ) → ℕ → ℕ → Bool
is_brought n leaders takers leader s = list_any (brings n leaders takers leader s) n.arcs

-- the flag of a leader and a signal, where each leader has so many
abbrev pub is_flagged : ℕ → List Bool → ℕ → ℕ → Bool
is_flagged size flags leader s = slice_index_or flags (leader * size + s) false

-- the new flags are the old ones and those of what is brought
abbrev pub AreFlaggedWith : ℕ → (ℕ → ℕ → Bool) → List Bool → List Bool → Type 0
AreFlaggedWith size brought old new =
    (l s : ℕ) → s < size → is_flagged size new l s ≡ (is_flagged size old l s || brought l s)

-- the flags tell what the arcs of the net bring
abbrev pub AreFlags : NetLists → List ℕ → List (Option ℕ) → List Bool → Type 0
AreFlags n leaders takers flags =
    (l s : ℕ) → s < length leaders
    → is_flagged (length leaders) flags l s ≡ is_brought n leaders takers l s

-- whether the group of the leader knows the signal, as the flags tell
abbrev pub is_known_by : List ℕ → List Bool → ℕ → ℕ → Bool
is_known_by leaders flags leader s =
    (slice_index leaders s == leader) || is_flagged (length leaders) flags leader s

-- the group of the leader, which knows what the flags tell
abbrev pub group_of : List ℕ → List Bool → ℕ → Group
group_of leaders flags leader = record {
  own = numbers_with (slice_index leaders) (length leaders) leader;
  known = numbers_where (is_known_by leaders flags leader) (length leaders);
}

-- whether the signal is an output or internal and its own leader
abbrev pub is_leader : NetLists → List ℕ → ℕ → Bool
is_leader n leaders s = is_driven_at n.signals s && (slice_index leaders s == s)

-- the group of that signal, where it leads one
abbrev pub groups_at : NetLists → List ℕ → List Bool → ℕ → List Group
groups_at n leaders flags s = map (group_of leaders flags) (only_where (is_leader n leaders) s)

-- the groups of the leaders below a number, in ascending order
abbrev pub groups_below : NetLists → List ℕ → List Bool → ℕ → List Group
groups_below n leaders flags k =
    map (group_of leaders flags) (numbers_where (is_leader n leaders) k)
