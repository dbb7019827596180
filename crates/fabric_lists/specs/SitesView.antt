-- The nodes of a network as contracts see them.
use Rattle.std.specs.Prelude.{ℕ, ◌||◌, Bool, List, length, map, slice_index_or, slice_set}
use Rattle.std.specs.List.{range_with_len}
use Rattle.net_machine.specs.Blocks.{has_packet}
use Rattle.net_machine.specs.Plans.{no_epid}
use Rattle.net_machine.specs.State.{Node, node_in}
use Rattle.net_topology.specs.declared.plan.Plan.{Plan}
use Rattle.fabric_nodes.specs.Shapes.{Shape, Ends, shape_at}
use Rattle.fabric_nodes.specs.Sites.{node_of}
use Rattle.fabric_nodes.specs.declared.node.Site.{Site}

-- how many more answers find room at a node without memory: those that are to leave it, and those that came to it
pub record Spare : Type 0 where
  pub pending : ℕ
  pub answers : ℕ

-- what each node holds, what it is, and the room at it
pub record SitesSeen : Type 0 where
  pub nodes : List Node
  pub shapes : List Shape
  pub spares : List Spare

abbrev pub shape_in : Site → Shape
shape_in site = site.node.shape

abbrev pub spare_in : Site → Spare
spare_in site = record { pending = site.pending.spare; answers = site.answers.spare }

abbrev pub sites_of : List Site → SitesSeen
sites_of sites = record { nodes = map node_of sites; shapes = map shape_in sites; spares = map spare_in sites }

-- what each node of a tree is
abbrev pub shapes_in : Plan → List Shape
shapes_in tree = map (shape_at tree) (range_with_len 0 (length tree.nodes))

-- what stands for a node that isn't there
abbrev pub no_shape : Shape
no_shape = Ends (record { instance = 0; epid = no_epid })

abbrev pub no_spare : Spare
no_spare = record { pending = 0; answers = 0 }

-- what node x is, of these, and the room at it
abbrev pub shape_seen : List Shape → ℕ → Shape
shape_seen shapes x = slice_index_or shapes x no_shape

abbrev pub spare_seen : List Spare → ℕ → Spare
spare_seen spares x = slice_index_or spares x no_spare

-- what node x holds changes
abbrev pub on_site : ℕ → (Node → Node) → List Node → List Node
on_site x next nodes = slice_set nodes x (next (node_in nodes x))

-- a request or an answer is to leave a node
abbrev pub has_work : Node → Bool
has_work n = has_packet n.requests || has_packet n.pending

-- which nodes have something to do
abbrev pub working_in : List Node → List Bool
working_in nodes = map has_work nodes
