-- Worked examples of texts that may have dummies.
use Rattle.std.specs.Prelude.{codes, refl, true}
use Rattle.astg_read.specs.declared.rule.Rule.TheVariants as rules
use Rattle.astg_read.specs.Reading.{reading}
use Rattle.astg_read.proofs.ExampleWords.{spec, is_fault, is_good}

dummy : is_good (reading true spec (codes ".inputs a\n.outputs x\n.dummy e\n.graph\na+ x+\n.marking { }\n.end\n"))
dummy = tt

dummy_twice : is_fault rules.DeclaredTwice 2 (reading true spec (codes ".dummy a\n.inputs a\n"))
dummy_twice = refl

dummy_no_lf : is_fault rules.NoGraph 1 (reading true spec (codes ".dummy e"))
dummy_no_lf = refl

dummy_clears : is_good (reading true spec (codes ".inputs a\n.outputs x\n.dummy e\n.graph\na+ e\ne x+\nx+ a-\na- x-\nx- a+\n.marking { <x-,a+> }\n.end\n"))
dummy_clears = tt

dummy_with_edge : is_fault rules.UnknownSignal 6 (reading true spec (codes ".inputs a\n.outputs x\n.dummy e\n.graph\na+ e\ne+ x+\n.end\n"))
dummy_with_edge = refl

dummy_index : is_good (reading true spec (codes ".inputs a\n.outputs x\n.dummy e\n.graph\na+ e/1\ne/1 e/0 x+\n.marking { <a+,e/1> <e/1,e>=2 }\n.end\n"))
dummy_index = tt

dummy_bad_index : is_fault rules.BadName 5 (reading true spec (codes ".inputs a\n.outputs x\n.dummy e\n.graph\na+ e/x\n.end\n"))
dummy_bad_index = refl

place_with_index : is_fault rules.BadName 5 (reading true spec (codes ".inputs a\n.outputs x\n.dummy e\n.graph\na+ p/1\n.end\n"))
place_with_index = refl

signal_with_index : is_fault rules.BadName 5 (reading true spec (codes ".inputs a\n.outputs x\n.dummy e\n.graph\na+ x/1\n.end\n"))
signal_with_index = refl

marking_dummy : is_fault rules.BadMarking 6 (reading true spec (codes ".inputs a\n.outputs x\n.dummy e\n.graph\na+ e\n.marking { e }\n.end\n"))
marking_dummy = refl

marking_bad_index : is_fault rules.BadMarking 6 (reading true spec (codes ".inputs a\n.outputs x\n.dummy e\n.graph\na+ e\n.marking { <a+,e/> }\n.end\n"))
marking_bad_index = refl

marking_no_arc : is_fault rules.BadMarking 6 (reading true spec (codes ".inputs a\n.outputs x\n.dummy e\n.graph\na+ e\n.marking { <a+,p> }\n.end\n"))
marking_no_arc = refl

dummy_named_twice : is_fault rules.DeclaredTwice 1 (reading true spec (codes ".dummy e e\n.graph\n.end\n"))
dummy_named_twice = refl

dummy_repeated_arc : is_fault rules.RepeatedArc 5 (reading true spec (codes ".inputs a\n.outputs x\n.dummy e\n.graph\na+ e e/0\n.end\n"))
dummy_repeated_arc = refl

dummy_weighed : is_fault rules.BadWeight 5 (reading true spec (codes ".inputs a\n.outputs x\n.dummy e\n.graph\na+ e(2)\n.end\n"))
dummy_weighed = refl

dummy_edge_before_no_edge : is_fault rules.UnknownSignal 5 (reading true spec (codes ".inputs a\n.outputs x\n.dummy e\n.graph\ne+ x\n.end\n"))
dummy_edge_before_no_edge = refl
