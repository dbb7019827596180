-- What a route asks of a node that it crosses, the packet that asks it, and the entries that this leaves.
use Rattle.std.specs.Prelude.{ℕ, List, [], ◌∷◌, ◌++◌}
use Rattle.chdr_packets.specs.declared.packet.Packet.{Packet}
use Rattle.chdr_words.specs.Operation.{spelled_op}
use Rattle.chdr_words.specs.declared.epid.Epid.{Epid}
use Rattle.chdr_words.specs.declared.management.MgmtOp.{MgmtOp}
use Rattle.chdr_words.specs.declared.operation.Operation.TheVariants as op
use Rattle.net_nodes.specs.Table.{with_exit}
use Rattle.net_nodes.specs.declared.table.Place.{Place}
use Rattle.net_topology.specs.Links.{end_of}
use Rattle.net_topology.specs.declared.plan.LinkPlan.{LinkPlan}
use Rattle.net_topology.specs.declared.plan.Plan.{Plan}
use Rattle.net_machine.specs.Passing.{with_table}
use Rattle.net_machine.specs.State.{Node, node_in}
use Rattle.net_walks.specs.Walks.{collector, hops_over, walker}
use Rattle.net_walks.specs.Ways.{last_of, left_by}

-- for each end of a route the port that leads there
pub record Crossing : Type 0 where
  pub a : Epid
  pub to_a : ℕ
  pub b : Epid
  pub to_b : ℕ

-- ---- packets

-- the entry of an EPID becomes a port
abbrev pub entry_write : Epid → ℕ → MgmtOp
entry_write epid port = spelled_op (op.CfgWrite (record { value = port; addr = epid.0 }))

-- at the node: the source's entry becomes the port of arrival, then that of b is written, then that of a
abbrev pub writing : Crossing → List MgmtOp
writing it = spelled_op op.Advertise ∷ entry_write it.b it.to_b ∷ entry_write it.a it.to_a ∷ spelled_op op.Return ∷ []

-- to the node at the end of these links
abbrev pub write_packet : List LinkPlan → Epid → List ℕ → Crossing → Packet
write_packet links src ds it = walker src (hops_over links ds ++ writing it ∷ collector ∷ [])

-- ---- entries

abbrev pub crossed_table : List Place → Crossing → List Place
crossed_table table it = with_exit (with_exit table it.b it.to_b) it.a it.to_a

-- the nodes when node z has them
abbrev pub crossed_at : ℕ → Crossing → List Node → List Node
crossed_at z it nodes = with_table nodes z (crossed_table (node_in nodes z).table it)

-- and when the packet came there over these links, and left the source's entry at each node
abbrev pub crossed_by : Plan → Epid → ℕ → List ℕ → Crossing → List Node → List Node
crossed_by tree src d ds it nodes = crossed_at (end_of tree.links (last_of d ds)) it (left_by tree src d ds nodes)
