use Rattle.std.proofs.Common.{◌≡◌, length, take}
use Rattle.std.specs.List.{list_any}
use Rattle.stg_partition.specs.inner.Joining.{brings, AreFlaggedWith}
use Rattle.stg_partition.proofs.flags.flag_arcs.Given as goal

-- the flags of the arcs so far
abbrev pub invariant-loop-arc : goal.invariant-loop-arc
invariant-loop-arc l = record {
  long : length l.flags ≡ length l.initial.flags;
  flagged : AreFlaggedWith (length l.leaders) (λ k s. list_any (brings l.net l.leaders l.takers k s) (take l.arc-index l.arc-items)) l.initial.flags l.flags;
}
