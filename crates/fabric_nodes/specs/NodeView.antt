-- What a node is, read from the fields.
use Rattle.std.specs.Prelude.{◌<◌, List, []}
use Rattle.chdr_words.specs.declared.node_info.NodeKind.TheVariants as kinds
use Rattle.net_nodes.specs.declared.table.Place.{Place}
use Rattle.fabric_nodes.specs.Shapes.{NodeSeen, Shape, Switches, Ends}
use Rattle.fabric_nodes.specs.declared.node.Kind.{Kind}
use Rattle.fabric_nodes.specs.declared.node.Kind.TheVariants.{Crossbar, Adapter, End}
use Rattle.fabric_nodes.specs.declared.node.NodePart.TheInside.{Inside}

abbrev pub shape_of : Kind → Shape
shape_of (Crossbar switch) = Switches kinds.Crossbar switch.instance switch.ports switch.linked
shape_of (Adapter switch) = Switches kinds.Transport switch.instance switch.ports switch.linked
shape_of (End node) = Ends node

abbrev pub table_of : Kind → List Place
table_of (Crossbar switch) = switch.table
table_of (Adapter switch) = switch.table
table_of (End node) = []

abbrev pub view_of : Inside → NodeSeen
view_of node = record { shape = shape_of node.kind; table = table_of node.kind }

-- the number of an end node is within its bits, as a switch's is by its type
abbrev pub FitsKind : Kind → Type 0
FitsKind (Crossbar switch) = Unit {0}
FitsKind (Adapter switch) = Unit {0}
FitsKind (End node) = node.instance < 1024

abbrev pub IsSound : Inside → Type 0
IsSound node = FitsKind node.kind
