use Rattle.std.proofs.Common.{◌≡◌, ◌+◌, ℕ, true, drop, length, get_or}
use Rattle.stg_net.specs.Initial.{weight_of}
use Rattle.stg_token.proofs.game.give_all.Given as goal

-- with what is left to give, each place holds what it is to hold
abbrev pub invariant-loop-arc : goal.invariant-loop-arc
invariant-loop-arc l = record {
  long : length l.m ≡ length l.initial.m;
  tokens : (p : ℕ) → get_or l.m p 0 + weight_of (drop l.arc-index l.arcs) true l.t p ≡ get_or l.initial.m p 0 + weight_of l.arcs true l.t p;
}
