-- What a Hop and a Lose ask of the parts of a net.
use Rattle.std.specs.Prelude.{◌≡◌, ◌<◌, ◌≤◌, ℕ, false, List, ◌∷◌, length, Some}
use Rattle.chdr_packets.specs.Length.{length_of, wire_of}
use Rattle.chdr_packets.specs.declared.packet.Body.{Body}
use Rattle.chdr_packets.specs.declared.packet.Body.TheVariants as body
use Rattle.chdr_packets.specs.declared.packet.Packet.{Packet}
use Rattle.chdr_words.specs.Control.{FitsControl}
use Rattle.chdr_words.specs.Management.{FitsManagement}
use Rattle.chdr_words.specs.declared.control.Control.{Control}
use Rattle.chdr_words.specs.declared.epid.Epid.{Epid}
use Rattle.chdr_words.specs.declared.management.Management.{Management}
use Rattle.net_nodes.specs.Budget.{budget}
use Rattle.net_topology.specs.Links.{end_of, end_port}
use Rattle.net_topology.specs.Tree.{port_count}
use Rattle.stream_endpoint.specs.Receiver.{FindsRoom}
use Rattle.net_machine.specs.Front.{Queued}
use Rattle.net_machine.specs.Nodes.{is_switch, own_epid}
use Rattle.net_machine.specs.Passing.{Arrives, Ends, Outcome, Passes, Returns, passing}
use Rattle.net_machine.specs.Plans.{plan_at, stream_from, stream_to}
use Rattle.net_machine.specs.Queues.{channel_of, link_count, link_of_queue}
use Rattle.net_present.specs.Kept.{now_at}
use Rattle.net_present.specs.Onward.{block_on_now, entries_at}
use Rattle.net_present.specs.Present.{Present}
use Rattle.net_needs.specs.Entering.{HasRoom}

-- queue q is there and has a front entry
pub record HasFront (p : Present) (q : ℕ) : Type 0 where
  pub there : q < length p.queues
  pub front : Queued
  pub rest : List Queued
  pub is : entries_at p.queues q ≡ front ∷ rest

-- where an entry goes on to a link, there is room on its channel
abbrev pub HasWayOn : Present → ℕ → Outcome → Type 0
HasWayOn p vc (Passes d packet) = HasRoom p d vc
HasWayOn p vc (Returns packet) = Unit {0}
HasWayOn p vc Arrives = Unit {0}
HasWayOn p vc Ends = Unit {0}

-- samples come to the receiver of stream s, which has room for them if it keeps them; their size can be spelled
pub record SamplesNeed (p : Present) (s : ℕ) (packet : Packet) : Type 0 where
  pub there : s < length p.streams
  pub room : FindsRoom (plan_at p.plan s).flow (now_at p.streams s).receiver packet.seq (wire_of packet)
  pub short : length_of packet ≤ 65535

-- a management packet has a spelling, and there is room for the answers that its hops ask
pub record ManagementNeeds (m : Management) : Type 0 where
  pub fits : FitsManagement m
  pub answers : budget m ≤ 256

-- a control packet has a spelling, and each block whose registers may answer it is there
pub record ControlNeeds (p : Present) (c : Control) : Type 0 where
  pub fits : FitsControl c
  pub blocks : (epid : Epid) (b : ℕ) → block_on_now p epid ≡ Some b → b < length p.blocks

-- what a packet with this body asks at node x, where it comes
abbrev pub BodyNeeds : Present → ℕ → Packet → Body → Type 0
BodyNeeds p x packet (body.Samples time payload) =
    (s : ℕ) → is_switch p.tree x ≡ false → stream_to p.plan (own_epid p.tree x) ≡ Some s → SamplesNeed p s packet
BodyNeeds p x packet (body.Command c) = (s : ℕ) → stream_to p.plan (own_epid p.tree x) ≡ Some s → s < length p.streams
BodyNeeds p x packet (body.Status status) = (s : ℕ) → stream_from p.plan (own_epid p.tree x) ≡ Some s → s < length p.streams
BodyNeeds p x packet (body.Control c) = ControlNeeds p c
BodyNeeds p x packet (body.Management m) = ManagementNeeds m

-- the link of a queue is there, and ends at a node by a port of it
pub record EndsAtPort (p : Present) (d : ℕ) : Type 0 where
  pub link : d < link_count p.tree
  pub node : end_of p.tree.links d < length p.tree.nodes
  pub port : end_port p.tree.links d < port_count p.tree.nodes (end_of p.tree.links d)

-- The front entry of queue q isn't marked. It comes to a node by a port of it, and what the node does with it can
-- be done.
pub record HopNeeds (p : Present) (q : ℕ) : Type 0 where
  pub queue : HasFront p q
  pub unmarked : queue.front.marked ≡ false
  pub comes : EndsAtPort p (link_of_queue q)
  pub goes : HasWayOn p (channel_of q) (passing p.tree p.nodes (link_of_queue q) queue.front.packet).outcome
  pub body : BodyNeeds p (end_of p.tree.links (link_of_queue q)) queue.front.packet queue.front.packet.body

-- the front entry of queue q is marked
abbrev pub LoseNeeds : Present → ℕ → Type 0
LoseNeeds p q = HasFront p q
