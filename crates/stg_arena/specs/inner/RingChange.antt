-- What unlinking a ring of one side does to the links of the other, and what linking it again does.
use Rattle.std.specs.Prelude.{◌≡◌, ◌<◌, ◌≤◌, ◌⊎◌, ℕ, true, false, List, length}
use Rattle.stg_arena.specs.declared.end.End.{End}
use Rattle.stg_arena.specs.declared.links.Link.{Link}
use Rattle.stg_arena.specs.Ends.{other}
use Rattle.stg_arena.specs.Ring.{IsNext}
use Rattle.stg_arena.specs.inner.Links.{links_of, HasHeads, IsLinked, next_at, prev_at}
use Rattle.stg_arena.specs.LinkHistory.{Frame, IsOn}

-- from the head h the links of the own side lead through the cells of its ring, each in a ring of
-- its own on the other side
pub record IsRing (f : Frame) (own : List Link) (h : ℕ) : Type 0 where
  pub head : f.own.head h ≡ true
  pub on : IsOn f.other f h
  pub next : (c : ℕ) → IsOn f.other f c → f.own.key c ≡ f.own.key h
      → IsNext f.own f.size (IsOn f.other f) c (next_at own c)
  pub own_heads : HasHeads f.own f.size
  pub other_heads : HasHeads f.other f.size
  pub cross : (c d : ℕ) → c < f.size → d < f.size → f.own.key c ≡ f.own.key d
      → f.other.key c ≡ f.other.key d → c ≡ d
  pub proper : (e : ℕ) → e < f.size → f.own.key e ≡ f.own.key h → f.other.head e ≡ false

-- on the other side, the live cells that aren't in the ring of h, or that come at m or later
pub record IsFrom (f : Frame) (h m e : ℕ) : Type 0 where
  pub on : IsOn f.own f e
  pub late : f.own.key e ≡ f.own.key h → m ≤ e

-- or that come before m
pub record IsUpTo (f : Frame) (h m e : ℕ) : Type 0 where
  pub on : IsOn f.own f e
  pub early : f.own.key e ≡ f.own.key h → e < m

-- the links of the cells in the ring of h, and of those that aren't live, are the same
pub record IsFrozen (f : Frame) (h : ℕ) (old new : List Link) : Type 0 where
  pub next : (c : ℕ) → (f.own.key c ≡ f.own.key h) ⊎ (f.until c < f.now)
      → next_at new c ≡ next_at old c
  pub prev : (c : ℕ) → (f.own.key c ≡ f.own.key h) ⊎ (f.until c < f.now)
      → prev_at new c ≡ prev_at old c

-- the ring of h stands on the own side, and its cells are linked on the other
pub record CanUnlink (f : Frame) (own other : List Link) (h : ℕ) : Type 0 where
  pub ring : IsRing f own h
  pub rings : IsLinked f.other f.size (IsOn f.own f) (next_at other) (prev_at other)
  pub own_long : length own ≡ f.size
  pub other_long : length other ≡ f.size

-- the cells of the ring of h before m are out of the rings of the other side
pub record IsRingUnlinked (f : Frame) (h m : ℕ) (old new : List Link) : Type 0 where
  pub rings : IsLinked f.other f.size (IsFrom f h m) (next_at new) (prev_at new)
  pub frozen : IsFrozen f h old new

-- the ring of h stands on the own side, and its cells have kept their links on the other
pub record CanRelink (f : Frame) (own other : List Link) (h : ℕ) : Type 0 where
  pub ring : IsRing f own h
  pub rings : IsLinked f.other f.size (IsUpTo f h 0) (next_at other) (prev_at other)
  pub back : (c : ℕ) → IsOn f.own f c → f.own.key c ≡ f.own.key h
      → IsNext f.other f.size (IsOn f.own f) (prev_at other c) c
  pub forward : (c : ℕ) → IsOn f.own f c → f.own.key c ≡ f.own.key h
      → IsNext f.other f.size (IsOn f.own f) c (next_at other c)
  pub own_long : length own ≡ f.size
  pub other_long : length other ≡ f.size

-- the cells of the ring of h before m are in the rings of the other side again
pub record IsRingRelinked (f : Frame) (h m : ℕ) (old new : List Link) : Type 0 where
  pub rings : IsLinked f.other f.size (IsUpTo f h m) (next_at new) (prev_at new)
  pub frozen : IsFrozen f h old new

-- the ring of h on one end's side can be unlinked from those of the other
abbrev pub CanUnlinkRing : Frame → End → List Link → List Link → ℕ → Type 0
CanUnlinkRing f end by_place by_trans h = CanUnlink f (links_of end by_place by_trans)
    (links_of (other end) by_place by_trans) h

-- and linked with them again
abbrev pub CanRelinkRing : Frame → End → List Link → List Link → ℕ → Type 0
CanRelinkRing f end by_place by_trans h = CanRelink f (links_of end by_place by_trans)
    (links_of (other end) by_place by_trans) h
