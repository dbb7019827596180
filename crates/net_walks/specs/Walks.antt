-- Management packets that walk from node to node: their hops, the entries that they leave, and what comes back.
use Rattle.std.specs.Prelude.{ℕ, List, [], ◌∷◌, ◌++◌}
use Rattle.chdr_packets.specs.declared.packet.Body.TheVariants as body
use Rattle.chdr_packets.specs.declared.packet.Packet.{Packet}
use Rattle.chdr_words.specs.Operation.{spelled_op}
use Rattle.chdr_words.specs.declared.epid.Epid.{Epid}
use Rattle.chdr_words.specs.declared.management.Management.{Management}
use Rattle.chdr_words.specs.declared.management.MgmtOp.{MgmtOp}
use Rattle.chdr_words.specs.declared.operation.Operation.TheVariants as op
use Rattle.net_nodes.specs.Perform.{info_answer}
use Rattle.net_topology.specs.Links.{end_of, end_port, start_port}
use Rattle.net_topology.specs.declared.plan.LinkPlan.{LinkPlan}
use Rattle.net_topology.specs.declared.plan.Plan.{Plan}
use Rattle.net_machine.specs.Nodes.{site_at}
use Rattle.net_machine.specs.Passing.{message}
use Rattle.net_machine.specs.Plans.{no_epid}
use Rattle.net_machine.specs.Queues.{back_vc, forward_vc}
use Rattle.net_machine.specs.State.{Node}
use Rattle.net_walks.specs.Entries.{entered}

-- ---- hops

-- at a node on the way: the source's entry becomes the port of arrival, and the packet goes on by a port
abbrev pub onward : ℕ → List MgmtOp
onward port = spelled_op op.Advertise ∷ spelled_op (op.SelectDest port) ∷ []

-- at a node that is asked what it is
abbrev pub inquiry : List MgmtOp
inquiry = spelled_op op.Advertise ∷ spelled_op op.InfoReq ∷ spelled_op op.Return ∷ []

-- the last hop, which collects the answers
abbrev pub collector : List MgmtOp
collector = spelled_op op.Nop ∷ []

-- at the nodes to which these links lead, the last one left out
abbrev pub hops_over : List LinkPlan → List ℕ → List (List MgmtOp)
hops_over links [] = []
hops_over links (d ∷ []) = []
hops_over links (d ∷ e ∷ ds) = onward (start_port links e) ∷ hops_over links (e ∷ ds)

-- ---- packets

abbrev pub walk : Epid → List (List MgmtOp) → Management
walk src hops = record { version = 0x100; width = 0; src = src; hops = hops }

-- on its way out, to no EPID
abbrev pub walker : Epid → List (List MgmtOp) → Packet
walker src hops = message forward_vc no_epid (body.Management (walk src hops))

-- on its way back
abbrev pub returner : Epid → List (List MgmtOp) → Packet
returner src hops = message back_vc src (body.Management (walk src hops))

-- ---- entries

-- the node at which a link ends has its port of arrival as the entry of an EPID
abbrev pub advertised_at : Plan → Epid → ℕ → List Node → List Node
advertised_at tree epid d nodes = entered (end_of tree.links d) epid (end_port tree.links d) nodes

-- what the node at which a link ends answers an inquiry
abbrev pub information : Plan → ℕ → List MgmtOp
information tree d = collector ++ info_answer (site_at tree (end_of tree.links d) (end_port tree.links d)) ∷ []
