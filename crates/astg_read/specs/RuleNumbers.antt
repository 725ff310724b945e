-- The numbers of the rules.
use Rattle.std.specs.Prelude.{ℕ}
use Rattle.astg_read.specs.declared.rule.Rule.{Rule}
use Rattle.astg_read.specs.declared.rule.Rule.TheVariants.{BadByte, UnknownDirective, OutOfOrder, BadName, DeclaredTwice, UnknownSignal, NoEdge, BadArc, RepeatedArc, BadWeight, BadMarking, NoGraph, NoEnd, TooMany, HasDummy, TooLong}

-- the number of a rule, in the order of docs/FORMATS.md
abbrev pub rule_number : Rule → ℕ
rule_number BadByte = 1
rule_number UnknownDirective = 2
rule_number OutOfOrder = 3
rule_number BadName = 4
rule_number DeclaredTwice = 5
rule_number UnknownSignal = 6
rule_number NoEdge = 7
rule_number BadArc = 8
rule_number RepeatedArc = 9
rule_number BadWeight = 10
rule_number BadMarking = 11
rule_number NoGraph = 12
rule_number NoEnd = 13
rule_number TooMany = 14
rule_number HasDummy = 15
rule_number TooLong = 16
