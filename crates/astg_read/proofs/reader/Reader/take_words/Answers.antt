use Rattle.std.proofs.Common.{◌∷◌, sym, subst, refl}
use Rattle.std.specs.Prelude.{codes}
use Rattle.astg_read.specs.inner.Views.{texts}
use Rattle.astg_read.specs.inner.LineResult.{Takes, said_of, directive}
use Rattle.astg_read.proofs.LineResultLemmas.{says-with_count, titles-no_dummies, kinds-no_dummies, nodes-no_dummies, verdict-unknown}
use Rattle.astg_read.proofs.reader.Reader.take_words.Goals as goal

pub returns-in-Dummies : goal.returns-in-Dummies
returns-in-Dummies c =
    subst (λ w. Takes c.args.limits.now (said_of c.args.self.now) (w ∷ texts c.args.rest.now) c.take_dummies.result (said_of c.take_dummies.new.self)) (sym c.in-Dummies.ensures) c.take_dummies.ensures

pub returns-in-Title : goal.returns-in-Title
returns-in-Title c =
    let k = said_of c.args.self.now in let new = said_of c.take_title-said.new.self in
    says-with_count c.args.limits.now k new (c.args.first.now ∷ texts c.args.rest.now) c.take_title-said.result c.count.result c.requires.outside (titles-no_dummies c.args.first.now (texts c.args.rest.now) c.in-Title.ensures) c.take_title-said.ensures c.count.ensures

pub returns-in-Names : goal.returns-in-Names
returns-in-Names c =
    let k = said_of c.args.self.now in let new = said_of c.take_names-said.new.self in let rest = texts c.args.rest.now in
    subst (λ w. Takes c.args.limits.now k (w ∷ rest) c.count-in-Names.result new) (sym c.in-Names.ensures)
    (says-with_count c.args.limits.now k new (directive c.in-Names.kind ∷ rest) c.take_names-said.result c.count-in-Names.result c.requires.outside (kinds-no_dummies c.in-Names.kind (texts c.args.rest.now)) c.take_names-said.ensures c.count-in-Names.ensures)

pub returns-in-Graph : goal.returns-in-Graph
returns-in-Graph c =
    let k = said_of c.args.self.now in let new = said_of c.take_graph-said.new.self in let rest = texts c.args.rest.now in
    subst (λ w. Takes c.args.limits.now k (w ∷ rest) c.count-in-Graph.result new) (sym c.in-Graph.ensures)
    (says-with_count c.args.limits.now k new (codes ".graph" ∷ rest) c.take_graph-said.result c.count-in-Graph.result c.requires.outside refl c.take_graph-said.ensures c.count-in-Graph.ensures)

pub returns-in-Marking : goal.returns-in-Marking
returns-in-Marking c =
    let k = said_of c.args.self.now in let new = said_of c.take_marking-said.new.self in let rest = texts c.args.rest.now in
    subst (λ w. Takes c.args.limits.now k (w ∷ rest) c.count-in-Marking.result new) (sym c.in-Marking.ensures)
    (says-with_count c.args.limits.now k new (codes ".marking" ∷ rest) c.take_marking-said.result c.count-in-Marking.result c.requires.outside refl c.take_marking-said.ensures c.count-in-Marking.ensures)

pub returns-in-End : goal.returns-in-End
returns-in-End c =
    let k = said_of c.args.self.now in let new = said_of c.take_end-said.new.self in let rest = texts c.args.rest.now in
    subst (λ w. Takes c.args.limits.now k (w ∷ rest) c.count-in-End.result new) (sym c.in-End.ensures)
    (says-with_count c.args.limits.now k new (codes ".end" ∷ rest) c.take_end-said.result c.count-in-End.result c.requires.outside refl c.take_end-said.ensures c.count-in-End.ensures)

pub returns-in-Unknown : goal.returns-in-Unknown
returns-in-Unknown c = verdict-unknown c.args.limits.now (said_of c.args.self.now) (c.args.first.now ∷ texts c.args.rest.now) c.requires.outside (c.in-Unknown.ensures (texts c.args.rest.now))

pub returns-in-Nodes : goal.returns-in-Nodes
returns-in-Nodes c =
    let k = said_of c.args.self.now in let new = said_of c.take_nodes-said.new.self in
    says-with_count c.args.limits.now k new (c.args.first.now ∷ texts c.args.rest.now) c.take_nodes-said.result c.count-in-Nodes.result c.requires.outside (nodes-no_dummies c.args.first.now (texts c.args.rest.now) c.in-Nodes.ensures) c.take_nodes-said.ensures c.count-in-Nodes.ensures
