-- The equality of what the reader keeps is that of what is seen.
use Rattle.std.proofs.Common.{◌≡◌, ◌&&◌, nat_eq, refl, ap}
use Rattle.stg_net.specs.declared.trans.Edge.{Edge}
use Rattle.stg_net.specs.declared.trans.Edge.TheVariants.{Rise, Fall, Toggle}
use Rattle.stg_net.specs.declared.trans.TransName.{TransName}
use Rattle.stg_net.specs.contracts.trans.EdgePartialEq.TheImpl as edges
use Rattle.stg_net.specs.contracts.trans.TransNamePartialEq.TheImpl as transitions
use Rattle.astg_read.specs.declared.nodes.Node.{Node}
use Rattle.astg_read.specs.declared.nodes.Node.TheVariants as read
use Rattle.astg_read.specs.contracts.nodes.NodePartialEq.TheImpl as nodes
use Rattle.astg_read.specs.declared.text_graph.TextPlace.{TextPlace}
use Rattle.astg_read.specs.declared.text_graph.TextPlace.TheVariants as read_place
use Rattle.astg_read.specs.contracts.text_graph.TextPlacePartialEq.TheImpl as places
use Rattle.astg_read.specs.declared.text_graph.Ends.{Ends}
use Rattle.astg_read.specs.contracts.text_graph.EndsPartialEq.TheImpl as ends
use Rattle.stg_net.specs.Net.{is_edge}
use Rattle.astg_read.specs.Nodes.{same_trans, same_node}
use Rattle.astg_read.specs.Graphs.{same_place}
use Rattle.astg_read.specs.inner.Views.{node_view, place_view}

edges-same : (a b : Edge) → (edges.eq-value).it a b ≡ is_edge a b
edges-same Rise Rise = refl
edges-same Rise Fall = refl
edges-same Rise Toggle = refl
edges-same Fall Rise = refl
edges-same Fall Fall = refl
edges-same Fall Toggle = refl
edges-same Toggle Rise = refl
edges-same Toggle Fall = refl
edges-same Toggle Toggle = refl

pub trans-same : (a b : TransName) → (transitions.eq-value).it a b ≡ same_trans a b
trans-same a b = ap (λ e. nat_eq a.signal b.signal && (e && nat_eq a.index b.index)) (edges-same a.edge b.edge)

pub nodes-same : (a b : Node) → (nodes.eq-value).it a b ≡ same_node (node_view a) (node_view b)
nodes-same (read.Trans t) (read.Trans u) = trans-same t u
nodes-same (read.Trans t) (read.Place q) = refl
nodes-same (read.Place p) (read.Trans u) = refl
nodes-same (read.Place p) (read.Place q) = refl

pub places-same : (a b : TextPlace) → (places.eq-value).it a b ≡ same_place (place_view a) (place_view b)
places-same (read_place.Named p) (read_place.Named q) = refl
places-same (read_place.Named p) (read_place.Between t u) = refl
places-same (read_place.Between t u) (read_place.Named q) = refl
places-same (read_place.Between t u) (read_place.Between v w) = (λ j. trans-same t v j && trans-same u w j)

pub ends-same : (a b : Ends) → (ends.eq-value).it a b ≡ (same_node (node_view a.source) (node_view b.source) && same_node (node_view a.target) (node_view b.target))
ends-same a b = (λ j. nodes-same a.source b.source j && nodes-same a.target b.target j)
