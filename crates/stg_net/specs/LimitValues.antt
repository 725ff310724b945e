-- How large nets and their texts may be.
use Rattle.stg_net.specs.declared.limits.Limits.{Limits}

-- the limits of a specification: a text of 1 MiB
abbrev pub spec_limits : Limits
spec_limits = record {
  bytes = 1048576;
  signals = 250;
  trans = 1000;
  places = 2000;
  arcs = 20000;
  weight = 1000;
}

-- the limits of a component: a text of 16 MiB, and twice as many places and 64 more
abbrev pub part_limits : Limits
part_limits = record {
  bytes = 16777216;
  signals = 250;
  trans = 1000;
  places = 4064;
  arcs = 100000;
  weight = 1000000;
}
