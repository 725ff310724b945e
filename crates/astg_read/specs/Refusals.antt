-- How a rule is printed.
use Rattle.std.specs.Prelude.{ℕ, List, codes}
use Rattle.astg_read.specs.declared.rule.Rule.{Rule}
use Rattle.astg_read.specs.declared.rule.Rule.TheVariants.{BadByte, UnknownDirective, OutOfOrder, BadName, DeclaredTwice, UnknownSignal, NoEdge, BadArc, RepeatedArc, BadWeight, BadMarking, NoGraph, NoEnd, TooMany, HasDummy, TooLong}

-- the word of a rule
abbrev pub rule_text : Rule → List ℕ
rule_text BadByte = codes "BadByte"
rule_text UnknownDirective = codes "UnknownDirective"
rule_text OutOfOrder = codes "OutOfOrder"
rule_text BadName = codes "BadName"
rule_text DeclaredTwice = codes "DeclaredTwice"
rule_text UnknownSignal = codes "UnknownSignal"
rule_text NoEdge = codes "NoEdge"
rule_text BadArc = codes "BadArc"
rule_text RepeatedArc = codes "RepeatedArc"
rule_text BadWeight = codes "BadWeight"
rule_text BadMarking = codes "BadMarking"
rule_text NoGraph = codes "NoGraph"
rule_text NoEnd = codes "NoEnd"
rule_text TooMany = codes "TooMany"
rule_text HasDummy = codes "HasDummy"
rule_text TooLong = codes "TooLong"
