use Rattle.std.proofs.Common.{◌≡◌, ◌<◌, ◌^◌, drop, true}
use Rattle.std.specs.List.{list_all}
use Rattle.stg_net.specs.Names.{is_digit}
use Rattle.astg_lex.specs.Numbers.{value_after}
use Rattle.astg_lex.proofs.numbers.value.Given as goal

abbrev pub invariant-loop-c : goal.invariant-loop-c
invariant-loop-c l = record {
  so_far : value_after l.n (drop l.c-index l.digits) ≡ value_after 0 l.digits;
  digits : list_all is_digit (drop l.c-index l.digits) ≡ true;
  small : l.n < 10 ^ l.c-index;
}
