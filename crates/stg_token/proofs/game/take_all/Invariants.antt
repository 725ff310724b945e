use Rattle.std.proofs.Common.{◌≡◌, ◌-◌, ◌≤◌, ℕ, false, drop, length, get_or}
use Rattle.stg_net.specs.Initial.{weight_of}
use Rattle.stg_token.proofs.game.take_all.Given as goal

-- what is left to take is there, and taken it leaves what is to be left
abbrev pub invariant-loop-arc : goal.invariant-loop-arc
invariant-loop-arc l = record {
  long : length l.m ≡ length l.initial.m;
  held : (p : ℕ) → weight_of (drop l.arc-index l.arcs) false l.t p ≤ get_or l.m p 0;
  tokens : (p : ℕ) → get_or l.m p 0 - weight_of (drop l.arc-index l.arcs) false l.t p ≡ get_or l.initial.m p 0 - weight_of l.arcs false l.t p;
}
