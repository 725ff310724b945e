-- Worked examples of texts that are read or refused.
use Rattle.std.specs.Prelude.{[], ◌∷◌, ◌++◌, codes, refl, false}
use Rattle.astg_read.specs.declared.rule.Rule.TheVariants as rules
use Rattle.astg_read.specs.Reading.{reading}
use Rattle.astg_read.proofs.ExampleWords.{spec, is_fault, is_good}

base : is_good (reading false spec (codes ".inputs a\n.outputs x\n.graph\na+ x+\n.marking { }\n.end\n"))
base = tt

bad_byte : is_fault rules.BadByte 4 (reading false spec (codes ".inputs a\n.outputs x\n.graph\na+ x+" ++ (1 ∷ []) ++ codes "\n.marking { }\n.end\n"))
bad_byte = refl

capacity : is_fault rules.UnknownDirective 5 (reading false spec (codes ".inputs a\n.outputs x\n.graph\na+ x+\n.capacity p=1\n.end\n"))
capacity = refl

late_inputs : is_fault rules.OutOfOrder 5 (reading false spec (codes ".inputs a\n.outputs x\n.graph\na+ x+\n.inputs b\n.end\n"))
late_inputs = refl

bad_index : is_fault rules.BadName 4 (reading false spec (codes ".inputs a\n.outputs x\n.graph\na+ x+/y\n.marking { }\n.end\n"))
bad_index = refl

twice : is_fault rules.DeclaredTwice 2 (reading false spec (codes ".inputs a\n.outputs a\n.graph\na+ x+\n.marking { }\n.end\n"))
twice = refl

unknown : is_fault rules.UnknownSignal 4 (reading false spec (codes ".inputs a\n.outputs x\n.graph\na+ y+\n.marking { }\n.end\n"))
unknown = refl

no_edge : is_fault rules.NoEdge 4 (reading false spec (codes ".inputs a\n.outputs x\n.graph\na+ x\n.marking { }\n.end\n"))
no_edge = refl

bad_arc : is_fault rules.BadArc 4 (reading false spec (codes ".inputs a\n.outputs x\n.graph\np q\n.marking { }\n.end\n"))
bad_arc = refl

repeated : is_fault rules.RepeatedArc 4 (reading false spec (codes ".inputs a\n.outputs x\n.graph\na+ x+ x+/0\n.marking { }\n.end\n"))
repeated = refl

heavy : is_fault rules.BadWeight 4 (reading false spec (codes ".inputs a\n.outputs x\n.graph\na+ p(1001)\n.marking { }\n.end\n"))
heavy = refl

heavy_between : is_fault rules.BadWeight 4 (reading false spec (codes ".inputs a\n.outputs x\n.graph\na+ x+(2)\n.marking { }\n.end\n"))
heavy_between = refl

marking_p : is_fault rules.BadMarking 5 (reading false spec (codes ".inputs a\n.outputs x\n.graph\na+ x+\n.marking { p }\n.end\n"))
marking_p = refl

marking_many : is_fault rules.BadMarking 5 (reading false spec (codes ".inputs a\n.outputs x\n.graph\na+ x+\n.marking { <a+,x+>=1001 }\n.end\n"))
marking_many = refl

marking_twice : is_fault rules.BadMarking 5 (reading false spec (codes ".inputs a\n.outputs x\n.graph\na+ x+\n.marking { <a+,x+> <a+/0,x+> }\n.end\n"))
marking_twice = refl

marking_open : is_fault rules.BadMarking 6 (reading false spec (codes ".inputs a\n.outputs x\n.graph\na+ x+\n.marking {\n.end\n"))
marking_open = refl

only_end : is_fault rules.NoGraph 2 (reading false spec (codes ".inputs a\n.end\n"))
only_end = refl

empty : is_fault rules.NoGraph 1 (reading false spec ([]))
empty = refl

no_end : is_fault rules.NoEnd 6 (reading false spec (codes ".inputs a\n.outputs x\n.graph\na+ x+\n.marking { }\n"))
no_end = refl

dummy : is_fault rules.HasDummy 3 (reading false spec (codes ".inputs a\n.outputs x\n.dummy e\n.graph\na+ x+\n.marking { }\n.end\n"))
dummy = refl

weights : is_good (reading false spec (codes ".inputs a\n.outputs x\n.graph\na+ p(1000)\np x+(1000)\n.marking { }\n.end\n"))
weights = tt

zero_index : is_good (reading false spec (codes ".inputs a\n.outputs x\n.graph\na+/0 x+\n.marking { }\n.end\n"))
zero_index = tt

marking_lines : is_good (reading false spec (codes ".inputs a\n.outputs x\n.graph\na+ x+\n.marking {\n<a+ , x+> = 2\n}\n.end\n"))
marking_lines = tt

no_marking : is_good (reading false spec (codes ".inputs a\n.outputs x\n.graph\na+ x+\n.end\n"))
no_marking = tt

end_words : is_good (reading false spec (codes ".inputs a\n.outputs x\n.graph\na+ x+\n.marking { }\n.end here\n" ++ (1 ∷ []) ++ codes "\n"))
end_words = tt

crlf : is_good (reading false spec (codes ".inputs a" ++ (13 ∷ []) ++ codes "\n.outputs x" ++ (13 ∷ []) ++ codes "\n.graph" ++ (13 ∷ []) ++ codes "\na+ x+" ++ (13 ∷ []) ++ codes "\n.marking { }" ++ (13 ∷ []) ++ codes "\n.end" ++ (13 ∷ []) ++ codes "\n"))
crlf = tt

name_repeated : is_good (reading false spec (codes ".name t\n.inputs\n.inputs a\n.outputs x\n.graph\na+ x+\n.marking { }\n.end\n"))
name_repeated = tt

end_bad_byte : is_fault rules.BadByte 6 (reading false spec (codes ".inputs a\n.outputs x\n.graph\na+ x+\n.marking { }\n.end " ++ (1 ∷ []) ++ codes "\n"))
end_bad_byte = refl

comment_bad : is_good (reading false spec (codes ".inputs a\n.outputs x\n.graph\na+ x+ #" ++ (1 ∷ []) ++ (255 ∷ []) ++ codes "\n.marking { }\n.end\n"))
comment_bad = tt

bad_no_words : is_fault rules.BadByte 5 (reading false spec (codes ".inputs a\n.outputs x\n.graph\na+ x+\n" ++ (127 ∷ []) ++ codes "\n.marking { }\n.end\n"))
bad_no_words = refl

after_close : is_fault rules.BadMarking 5 (reading false spec (codes ".inputs a\n.outputs x\n.graph\na+ x+\n.marking { } p\n.end\n"))
after_close = refl

after_close_line : is_fault rules.OutOfOrder 6 (reading false spec (codes ".inputs a\n.outputs x\n.graph\na+ x+\n.marking { }\na+ x-\n.end\n"))
after_close_line = refl

after_close_brace : is_fault rules.OutOfOrder 6 (reading false spec (codes ".inputs a\n.outputs x\n.graph\na+ x+\n.marking { }\n}\n.end\n"))
after_close_brace = refl

second_marking : is_fault rules.OutOfOrder 6 (reading false spec (codes ".inputs a\n.outputs x\n.graph\na+ x+\n.marking { }\n.marking { }\n.end\n"))
second_marking = refl

graph_twice : is_fault rules.OutOfOrder 5 (reading false spec (codes ".inputs a\n.outputs x\n.graph\na+ x+\n.graph\n.end\n"))
graph_twice = refl

graph_words : is_fault rules.BadName 3 (reading false spec (codes ".inputs a\n.outputs x\n.graph x y\na+ x+\n.marking { }\n.end\n"))
graph_words = refl

model_late : is_fault rules.OutOfOrder 5 (reading false spec (codes ".inputs a\n.outputs x\n.graph\na+ x+\n.model m\n.end\n"))
model_late = refl

marking_early : is_fault rules.OutOfOrder 1 (reading false spec (codes ".marking { }\n.inputs a\n.outputs x\n.graph\na+ x+\n.marking { }\n.end\n"))
marking_early = refl

marking_before_graph_bad : is_fault rules.OutOfOrder 1 (reading false spec (codes ".marking p\n.inputs a\n.outputs x\n.graph\na+ x+\n.marking { }\n.end\n"))
marking_before_graph_bad = refl

graph_line_early : is_fault rules.OutOfOrder 1 (reading false spec (codes "a+ x+\n.inputs a\n.outputs x\n.graph\na+ x+\n.marking { }\n.end\n"))
graph_line_early = refl

inside_directive : is_fault rules.BadMarking 6 (reading false spec (codes ".inputs a\n.outputs x\n.graph\na+ x+\n.marking {\n.inputs q\n}\n.end\n"))
inside_directive = refl

inside_end : is_fault rules.BadMarking 6 (reading false spec (codes ".inputs a\n.outputs x\n.graph\na+ x+\n.marking { <a+,\n.end\n"))
inside_end = refl

inside_bad : is_fault rules.BadByte 6 (reading false spec (codes ".inputs a\n.outputs x\n.graph\na+ x+\n.marking {\n" ++ (2 ∷ []) ++ codes "\n}\n.end\n"))
inside_bad = refl

marking_signal : is_fault rules.BadMarking 5 (reading false spec (codes ".inputs a\n.outputs x\n.graph\na+ x+\n.marking { a }\n.end\n"))
marking_signal = refl

marking_unknown : is_fault rules.BadMarking 5 (reading false spec (codes ".inputs a\n.outputs x\n.graph\na+ x+\n.marking { <zz+,x+> }\n.end\n"))
marking_unknown = refl

marking_split : is_good (reading false spec (codes ".inputs a\n.outputs x\n.graph\na+ x+\n.marking\n{\n<\na+\n,\nx+\n>\n=\n3\n}\n.end\n"))
marking_split = tt

marking_zero : is_good (reading false spec (codes ".inputs a\n.outputs x\n.graph\na+ x+\n.marking { <a+,x+>=0 }\n.end\n"))
marking_zero = tt

marking_no_number : is_fault rules.BadMarking 5 (reading false spec (codes ".inputs a\n.outputs x\n.graph\na+ x+\n.marking { <a+,x+>= }\n.end\n"))
marking_no_number = refl

marking_eq_close : is_fault rules.BadMarking 6 (reading false spec (codes ".inputs a\n.outputs x\n.graph\na+ x+\n.marking { <a+,x+>=\n}\n.end\n"))
marking_eq_close = refl

marking_rev : is_fault rules.BadMarking 5 (reading false spec (codes ".inputs a\n.outputs x\n.graph\na+ x+\n.marking { <x+,a+> }\n.end\n"))
marking_rev = refl

marking_incomplete : is_fault rules.BadMarking 5 (reading false spec (codes ".inputs a\n.outputs x\n.graph\na+ x+\n.marking { <a+,x+ }\n.end\n"))
marking_incomplete = refl

marking_no_brace : is_fault rules.BadMarking 5 (reading false spec (codes ".inputs a\n.outputs x\n.graph\na+ x+\n.marking p { }\n.end\n"))
marking_no_brace = refl

marking_empty_word : is_good (reading false spec (codes ".inputs a\n.outputs x\n.graph\na+ x+\n.marking\n\n# c\n{ }\n.end\n"))
marking_empty_word = tt

marking_lone_eq : is_fault rules.BadMarking 5 (reading false spec (codes ".inputs a\n.outputs x\n.graph\na+ x+\n.marking { = 3 }\n.end\n"))
marking_lone_eq = refl

marking_eq_twice : is_fault rules.BadMarking 5 (reading false spec (codes ".inputs a\n.outputs x\n.graph\na+ x+\n.marking { <a+,x+>=1=1 }\n.end\n"))
marking_eq_twice = refl

marking_num10 : is_fault rules.BadMarking 5 (reading false spec (codes ".inputs a\n.outputs x\n.graph\na+ x+\n.marking { <a+,x+>=0000000001 }\n.end\n"))
marking_num10 = refl

marking_num9 : is_good (reading false spec (codes ".inputs a\n.outputs x\n.graph\na+ x+\n.marking { <a+,x+>=000000001 }\n.end\n"))
marking_num9 = tt

marking_open_brace : is_fault rules.BadMarking 5 (reading false spec (codes ".inputs a\n.outputs x\n.graph\na+ x+\n.marking { { }\n.end\n"))
marking_open_brace = refl

marking_paren : is_fault rules.BadMarking 5 (reading false spec (codes ".inputs a\n.outputs x\n.graph\na+ x+\n.marking { ( }\n.end\n"))
marking_paren = refl

group_first : is_fault rules.BadName 4 (reading false spec (codes ".inputs a\n.outputs x\n.graph\n( 2 )\n.marking { }\n.end\n"))
group_first = refl

group_source : is_fault rules.BadWeight 4 (reading false spec (codes ".inputs a\n.outputs x\n.graph\na+ (2) p\n.marking { }\n.end\n"))
group_source = refl

group_twice : is_fault rules.BadWeight 4 (reading false spec (codes ".inputs a\n.outputs x\n.graph\na+ p(2)(3)\n.marking { }\n.end\n"))
group_twice = refl

group_open : is_fault rules.BadWeight 4 (reading false spec (codes ".inputs a\n.outputs x\n.graph\na+ p(\n.marking { }\n.end\n"))
group_open = refl

group_no_number : is_fault rules.BadWeight 4 (reading false spec (codes ".inputs a\n.outputs x\n.graph\na+ p()\n.marking { }\n.end\n"))
group_no_number = refl

group_swallows : is_fault rules.BadWeight 4 (reading false spec (codes ".inputs a\n.outputs x\n.graph\na+ p( x+ y+\n.marking { }\n.end\n"))
group_swallows = refl

group_zero : is_fault rules.BadWeight 4 (reading false spec (codes ".inputs a\n.outputs x\n.graph\na+ p(0)\n.marking { }\n.end\n"))
group_zero = refl

group_zeros : is_good (reading false spec (codes ".inputs a\n.outputs x\n.graph\na+ p(0001)\n.marking { }\n.end\n"))
group_zeros = tt

group_nine : is_fault rules.BadWeight 4 (reading false spec (codes ".inputs a\n.outputs x\n.graph\na+ p(0000000001)\n.marking { }\n.end\n"))
group_nine = refl

group_one_between : is_fault rules.BadWeight 4 (reading false spec (codes ".inputs a\n.outputs x\n.graph\na+ x+(1)\n.marking { }\n.end\n"))
group_one_between = refl

stray_close : is_fault rules.BadName 4 (reading false spec (codes ".inputs a\n.outputs x\n.graph\na+ p)\n.marking { }\n.end\n"))
stray_close = refl

name_first : is_fault rules.BadName 4 (reading false spec (codes ".inputs a\n.outputs x\n.graph\na+ p(2) ?\n.marking { }\n.end\n"))
name_first = refl

order_4_6 : is_fault rules.BadName 4 (reading false spec (codes ".inputs a\n.outputs x\n.graph\ny+ a+ ?\n.marking { }\n.end\n"))
order_4_6 = refl

order_6_7 : is_fault rules.UnknownSignal 4 (reading false spec (codes ".inputs a\n.outputs x\n.graph\na x y+\n.marking { }\n.end\n"))
order_6_7 = refl

order_7_8 : is_fault rules.NoEdge 4 (reading false spec (codes ".inputs a\n.outputs x\n.graph\np q x\n.marking { }\n.end\n"))
order_7_8 = refl

order_8_9 : is_fault rules.BadArc 4 (reading false spec (codes ".inputs a\n.outputs x\n.graph\np q q\n.marking { }\n.end\n"))
order_8_9 = refl

order_9_10 : is_fault rules.RepeatedArc 4 (reading false spec (codes ".inputs a\n.outputs x\n.graph\na+ p(0) p\n.marking { }\n.end\n"))
order_9_10 = refl

order_8_10 : is_fault rules.BadArc 4 (reading false spec (codes ".inputs a\n.outputs x\n.graph\np q(0)\n.marking { }\n.end\n"))
order_8_10 = refl

loop : is_good (reading false spec (codes ".inputs a\n.outputs x\n.graph\na+ a+\n.marking { }\n.end\n"))
loop = tt

loop_twice : is_fault rules.RepeatedArc 4 (reading false spec (codes ".inputs a\n.outputs x\n.graph\na+ a+ a+/00\n.marking { }\n.end\n"))
loop_twice = refl

arc_back : is_good (reading false spec (codes ".inputs a\n.outputs x\n.graph\na+ p\np a+\n.marking { }\n.end\n"))
arc_back = tt

arc_twice_lines : is_fault rules.RepeatedArc 5 (reading false spec (codes ".inputs a\n.outputs x\n.graph\na+ p\na+ p\n.marking { }\n.end\n"))
arc_twice_lines = refl

implicit_twice_lines : is_fault rules.RepeatedArc 5 (reading false spec (codes ".inputs a\n.outputs x\n.graph\na+ x+\na+/0 x+\n.marking { }\n.end\n"))
implicit_twice_lines = refl

alone_twice : is_good (reading false spec (codes ".inputs a\n.outputs x\n.graph\na+\na+\np\np\n.marking { }\n.end\n"))
alone_twice = tt

edge_only : is_fault rules.BadName 4 (reading false spec (codes ".inputs a\n.outputs x\n.graph\n+\n.marking { }\n.end\n"))
edge_only = refl

dotname : is_fault rules.BadName 4 (reading false spec (codes ".inputs a\n.outputs x\n.graph\na+ .p\n.marking { }\n.end\n"))
dotname = refl

dot_first : is_fault rules.UnknownDirective 4 (reading false spec (codes ".inputs a\n.outputs x\n.graph\n.p a+\n.marking { }\n.end\n"))
dot_first = refl

brackets : is_good (reading false spec (codes ".inputs a\n.outputs x\n.graph\na+ p[1].x\n.marking { }\n.end\n"))
brackets = tt

bad_first : is_fault rules.BadName 4 (reading false spec (codes ".inputs a\n.outputs x\n.graph\na+ [1]\n.marking { }\n.end\n"))
bad_first = refl

tilde : is_good (reading false spec (codes ".inputs a\n.outputs x\n.graph\na~ x~/12\n.marking { }\n.end\n"))
tilde = tt

index_10 : is_fault rules.BadName 4 (reading false spec (codes ".inputs a\n.outputs x\n.graph\na+ x+/0000000001\n.marking { }\n.end\n"))
index_10 = refl

index_none : is_fault rules.BadName 4 (reading false spec (codes ".inputs a\n.outputs x\n.graph\na+ x+/\n.marking { }\n.end\n"))
index_none = refl

double_edge : is_fault rules.BadName 4 (reading false spec (codes ".inputs a\n.outputs x\n.graph\na+ x+-\n.marking { }\n.end\n"))
double_edge = refl

comma : is_fault rules.BadName 4 (reading false spec (codes ".inputs a\n.outputs x\n.graph\na+,x+\n.marking { }\n.end\n"))
comma = refl

tabs : is_good (reading false spec (codes ".inputs a\n.outputs x\n.graph\n\ta+\tx+\t\n.marking { }\n.end\n"))
tabs = tt

dummy_none : is_good (reading false spec (codes ".dummy\n.inputs a\n.outputs x\n.graph\na+ x+\n.marking { }\n.end\n"))
dummy_none = tt

dummy_twice : is_fault rules.HasDummy 1 (reading false spec (codes ".dummy a\n.inputs a\n"))
dummy_twice = refl

dummy_after : is_fault rules.DeclaredTwice 2 (reading false spec (codes ".inputs a\n.dummy a\n.outputs x\n.graph\na+ x+\n.marking { }\n.end\n"))
dummy_after = refl

dummy_bad : is_fault rules.BadName 1 (reading false spec (codes ".dummy +\n.inputs a\n.outputs x\n.graph\na+ x+\n.marking { }\n.end\n"))
dummy_bad = refl

twice_here : is_fault rules.DeclaredTwice 1 (reading false spec (codes ".inputs a a\n.outputs x\n.graph\na+ x+\n.marking { }\n.end\n"))
twice_here = refl

twice_bad : is_fault rules.BadName 1 (reading false spec (codes ".inputs a a +\n.outputs x\n.graph\na+ x+\n.marking { }\n.end\n"))
twice_bad = refl

dummy_no_lf : is_fault rules.HasDummy 1 (reading false spec (codes ".dummy e"))
dummy_no_lf = refl

no_lf : is_good (reading false spec (codes ".inputs a\n.outputs x\n.graph\na+ x+\n.marking { }\n.end"))
no_lf = tt

no_end_no_lf : is_fault rules.NoEnd 4 (reading false spec (codes ".inputs a\n.graph\na+ p\n.marking { p"))
no_end_no_lf = refl

end_in_marking_eof : is_fault rules.NoEnd 5 (reading false spec (codes ".inputs a\n.graph\na+ p\n.marking {\n"))
end_in_marking_eof = refl

no_graph_lines : is_fault rules.NoGraph 4 (reading false spec (codes ".inputs a\n\n# x\n"))
no_graph_lines = refl

end_first : is_fault rules.NoGraph 1 (reading false spec (codes ".end"))
end_first = refl

end_nul : is_fault rules.BadByte 1 (reading false spec (codes ".end" ++ (0 ∷ [])))
end_nul = refl

unknown_late : is_fault rules.UnknownDirective 6 (reading false spec (codes ".inputs a\n.outputs x\n.graph\na+ x+\n.marking { }\n.foo\n.end\n"))
unknown_late = refl

header_after_marking : is_fault rules.OutOfOrder 6 (reading false spec (codes ".inputs a\n.outputs x\n.graph\na+ x+\n.marking { }\n.inputs b\n.end\n"))
header_after_marking = refl

dot : is_fault rules.UnknownDirective 1 (reading false spec (codes ".\n.inputs a\n.outputs x\n.graph\na+ x+\n.marking { }\n.end\n"))
dot = refl

end_glued : is_fault rules.UnknownDirective 6 (reading false spec (codes ".inputs a\n.outputs x\n.graph\na+ x+\n.marking { }\n.ends\n"))
end_glued = refl

name100 : is_good (reading false spec (codes ".inputs a bbbbbbbbbbbbbbbbbbbbbbbbbbbbbbbbbbbbbbbbbbbbbbbbbbbbbbbbbbbbbbbbbbbbbbbbbbbbbbbbbbbbbbbbbbbbbbbbbbbb\n.outputs x\n.graph\na+ x+\n.marking { }\n.end\n"))
name100 = tt

name101 : is_fault rules.BadName 1 (reading false spec (codes ".inputs a bbbbbbbbbbbbbbbbbbbbbbbbbbbbbbbbbbbbbbbbbbbbbbbbbbbbbbbbbbbbbbbbbbbbbbbbbbbbbbbbbbbbbbbbbbbbbbbbbbbbb\n.outputs x\n.graph\na+ x+\n.marking { }\n.end\n"))
name101 = refl

empty_text_lf : is_fault rules.NoGraph 2 (reading false spec (codes "\n"))
empty_text_lf = refl

cr_only : is_fault rules.NoGraph 2 (reading false spec ((13 ∷ []) ++ codes "\n.end\n"))
cr_only = refl

only_comment : is_fault rules.NoGraph 1 (reading false spec (codes "#"))
only_comment = refl
