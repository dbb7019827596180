-- What comes to the end node of its way: samples find room, requests have a spelling.
use Rattle.std.specs.Prelude.{◌≡◌, ℕ, false, List, ◌∷◌, Option, Some, slice_get}
use Rattle.block_library.specs.Blocks.{IsFeed}
use Rattle.chdr_packets.specs.Length.{wire_of}
use Rattle.chdr_packets.specs.declared.packet.Body.TheVariants as body
use Rattle.chdr_packets.specs.declared.packet.Packet.{Packet}
use Rattle.chdr_words.specs.Control.{FitsControl}
use Rattle.chdr_words.specs.declared.control.Control.{Control}
use Rattle.net_topology.specs.Links.{end_of}
use Rattle.stream_endpoint.specs.Receiver.{FindsRoom}
use Rattle.net_machine.specs.Nodes.{is_switch, own_epid}
use Rattle.net_machine.specs.Plans.{block_at, plan_at, stream_into, stream_to}
use Rattle.net_machine.specs.Queues.{link_of_queue}
use Rattle.net_machine.specs.State.{Entry, State, queue_at, stream_at}
use Rattle.net_lawful.specs.Lawful.{Lawful}

-- the front entry of queue q comes to an end node, and stream s ends there
pub record ComesTo (w : State) (q s : ℕ) (e : Entry) (rest : List Entry) : Type 0 where
  pub front : queue_at w.queues q ≡ e ∷ rest
  pub ends : is_switch w.tree (end_of w.tree.links (link_of_queue q)) ≡ false
  pub stream : stream_to w.plan (own_epid w.tree (end_of w.tree.links (link_of_queue q))) ≡ Some s

-- Samples that come to an end node and are kept find room at the receiver of the stream that ends there.
abbrev pub ArrivalsFindRoom : Type 0
ArrivalsFindRoom = (w : State) (q s : ℕ) (e : Entry) (rest : List Entry) (time : Option ℕ) (payload : List ℕ) → Lawful w
    → ComesTo w q s e rest → e.packet.body ≡ body.Samples time payload
    → FindsRoom (plan_at w.plan s).flow (stream_at w s).receiver e.packet.seq (wire_of e.packet)

-- A control packet in front of a queue has a spelling.
abbrev pub RequestsFit : Type 0
RequestsFit = (w : State) (q : ℕ) (e : Entry) (rest : List Entry) (c : Control) → Lawful w
    → queue_at w.queues q ≡ e ∷ rest → e.packet.body ≡ body.Control c → FitsControl c

-- The next packet of a stream into a block is one that the block takes.
abbrev pub FeedsFit : Type 0
FeedsFit = (w : State) (b i s : ℕ) (p : Packet) → Lawful w → stream_into w.plan (block_at w.plan b) i ≡ Some s
    → slice_get (stream_at w s).given (stream_at w s).taken ≡ Some p → IsFeed (block_at w.plan b).item p
