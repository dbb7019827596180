-- What an event by which something enters asks of the parts of a net.
use Rattle.std.specs.Prelude.{◌≡◌, ◌<◌, ◌≤◌, ℕ, IsTrue, List, ◌∷◌, length, Option, Some}
use Rattle.chdr_packets.specs.declared.packet.Packet.{Packet}
use Rattle.chdr_words.specs.declared.command.CmdOp.{CmdOp}
use Rattle.net_topology.specs.Links.{link_at}
use Rattle.stream_endpoint.specs.Receiver.{is_due}
use Rattle.stream_endpoint.specs.Sender.{state_of}
use Rattle.net_machine.specs.Conditions.{can_send}
use Rattle.net_machine.specs.Nodes.{route_from}
use Rattle.net_machine.specs.Plans.{first_link, plan_at}
use Rattle.net_machine.specs.Queues.{back_vc, forward_vc, link_count, queue_of}
use Rattle.net_machine.specs.State.{node_in}
use Rattle.net_present.specs.Kept.{now_at}
use Rattle.net_present.specs.Onward.{entries_at}
use Rattle.net_present.specs.Present.{Present, front_now_of}

-- a directed link is there, and its queue of a channel has room for one more entry
pub record HasRoom (p : Present) (d vc : ℕ) : Type 0 where
  pub link : d < link_count p.tree
  pub queue : queue_of d vc < length p.queues
  pub room : length (entries_at p.queues (queue_of d vc)) < p.tree.room

-- there is such a link
pub record HasRoomOver (p : Present) (vc : ℕ) (link : Option ℕ) : Type 0 where
  pub first : ℕ
  pub is : link ≡ Some first
  pub room : HasRoom p first vc

-- stream s is there, its first ready packet has credit, and there is room where it enters
pub record EnterNeeds (p : Present) (s : ℕ) : Type 0 where
  pub there : s < length p.streams
  pub credit : IsTrue (can_send (plan_at p.plan s).flow (front_now_of (now_at p.streams s)) (now_at p.streams s).ready)
  pub room : HasRoomOver p forward_vc (first_link p.tree (plan_at p.plan s).from)

-- stream s is there, its sender is in the state in which it sends this command, and there is room
pub record CommandNeeds (p : Present) (s : ℕ) (op : CmdOp) : Type 0 where
  pub there : s < length p.streams
  pub state : state_of op ≡ Some (now_at p.streams s).sender.state
  pub room : HasRoomOver p forward_vc (first_link p.tree (plan_at p.plan s).from)

-- stream s is there, a status is due at its receiver, and there is room
pub record ReportNeeds (p : Present) (s : ℕ) : Type 0 where
  pub there : s < length p.streams
  pub due : IsTrue (is_due (now_at p.streams s).receiver)
  pub room : HasRoomOver p back_vc (first_link p.tree (plan_at p.plan s).to)

-- stream s is there, and n is more than was taken and at most what was given
pub record SeenNeeds (p : Present) (s n : ℕ) : Type 0 where
  pub there : s < length p.streams
  pub more : (now_at p.streams s).taken < n
  pub given : n ≤ (now_at p.streams s).given

-- node x is there and has a first request, and there is room where it enters
pub record AskNeeds (p : Present) (x : ℕ) : Type 0 where
  pub there : x < length p.nodes
  pub packet : Packet
  pub rest : List Packet
  pub is : (node_in p.nodes x).requests ≡ packet ∷ rest
  pub room : HasRoomOver p forward_vc (link_at p.tree.links x 0)

-- node x is there and has a first answer that is to leave it, and there is room where it enters
pub record ReplyNeeds (p : Present) (x : ℕ) : Type 0 where
  pub there : x < length p.nodes
  pub packet : Packet
  pub rest : List Packet
  pub is : (node_in p.nodes x).pending ≡ packet ∷ rest
  pub room : HasRoomOver p back_vc (route_from p.tree p.nodes x packet.dst)
