-- What holds of the nodes, and of requests, answers and management packets wherever they wait or stand.
use Rattle.std.specs.Prelude.{◌≡◌, ◌<◌, ◌≤◌, ◌^◌, ℕ, false, List, Some}
use Rattle.std.specs.List.{AllByRecursion}
use Rattle.chdr_packets.specs.Fits.{FitsPacket}
use Rattle.chdr_packets.specs.declared.packet.Body.{Body}
use Rattle.chdr_packets.specs.declared.packet.Body.TheVariants as body
use Rattle.chdr_packets.specs.declared.packet.Packet.{Packet}
use Rattle.chdr_words.specs.declared.control.Control.{Control}
use Rattle.chdr_words.specs.declared.epid.Epid.{Epid}
use Rattle.chdr_words.specs.declared.management.Management.{Management}
use Rattle.net_nodes.specs.Budget.{budget}
use Rattle.net_nodes.specs.Table.{HasEntries}
use Rattle.net_topology.specs.Tree.{FitsPlan, epid_at, port_count}
use Rattle.net_topology.specs.declared.plan.Plan.{Plan}
use Rattle.net_machine.specs.State.{Entry, Node, State, Tag, node_at, queue_at}
use Rattle.net_present.specs.Fits.{Spells}

-- the nodes of a tree fit, and their EPIDs have 16 bits
pub record FitsTree (tree : Plan) : Type 0 where
  pub plan : FitsPlan tree
  pub epids : (x : ℕ) (epid : Epid) → epid_at tree.nodes x ≡ Some epid → epid.0 < 2 ^ 16

-- a control packet has a spelling, and a request has a source
pub record IsControlFit (p : Packet) (c : Control) : Type 0 where
  pub fits : FitsPacket p
  pub source : c.ack ≡ false → 0 < c.src.0

-- a management packet has a spelling and a source, and there is room for the answers that its hops ask
pub record IsManagementFit (p : Packet) (m : Management) : Type 0 where
  pub fits : FitsPacket p
  pub source : 0 < m.src.0
  pub answers : budget m ≤ 256

-- a packet with this body is fit to be operated or performed, if it is one for that
abbrev pub IsFit : Packet → Body → Type 0
IsFit p (body.Samples time payload) = Unit {0}
IsFit p (body.Status status) = Unit {0}
IsFit p (body.Command c) = Unit {0}
IsFit p (body.Control c) = IsControlFit p c
IsFit p (body.Management m) = IsManagementFit p m

-- each of these packets is
abbrev pub AreFit : List Packet → Type 0
AreFit packets = AllByRecursion (λ (p : Packet). IsFit p p.body) packets

-- an answer is fit, and goes to an EPID
pub record IsAnswerFit (p : Packet) : Type 0 where
  pub fit : IsFit p p.body
  pub goes : 0 < p.dst.0

-- the entries of a node's table are ports of it, and what waits at it is fit
pub record IsNodeFit (tree : Plan) (x : ℕ) (n : Node) : Type 0 where
  pub table : HasEntries (port_count tree.nodes x) n.table
  pub requests : AreFit n.requests
  pub pending : AllByRecursion IsAnswerFit n.pending
  pub answers : AreFit n.answers

-- each node is
abbrev pub AreNodesFit : State → Type 0
AreNodesFit w = (x : ℕ) → IsNodeFit w.tree x (node_at w x)

-- each entry of each queue has the property, which looks at its tag and its packet
abbrev pub EachEntry : (Tag → Packet → Type 0) → State → Type 0
EachEntry P w = (q : ℕ) → AllByRecursion (λ (e : Entry). P e.tag e.packet) (queue_at w.queues q)

-- the packet of each entry of a queue is fit
abbrev pub AreEntriesFit : State → Type 0
AreEntriesFit w = EachEntry (λ tag p. IsFit p p.body) w

-- and spells what its tag tells
abbrev pub AreSpelled : State → Type 0
AreSpelled w = EachEntry (λ tag p. Spells tag p.body) w
