-- A network without messages: no request or answer is under way, and none can enter.
use Rattle.std.specs.Prelude.{◌≡◌, ℕ, List, [], ◌∷◌, None, Some}
use Rattle.chdr_packets.specs.declared.packet.Body.{Body}
use Rattle.chdr_packets.specs.declared.packet.Body.TheVariants as body
use Rattle.chdr_packets.specs.declared.packet.Packet.{Packet}
use Rattle.net_topology.specs.Links.{link_at}
use Rattle.net_machine.specs.Nodes.{route_from}
use Rattle.net_machine.specs.State.{State, node_at}
use Rattle.net_lawful.specs.Messages.{EachEntry}

-- a packet is a stream's: samples, a command or a status
abbrev pub IsOfStream : Body → Type 0
IsOfStream (body.Samples time payload) = Unit {0}
IsOfStream (body.Status status) = Unit {0}
IsOfStream (body.Command command) = Unit {0}
IsOfStream (body.Control control) = ⊥
IsOfStream (body.Management m) = ⊥

-- each entry of each queue is
abbrev pub AreOfStreams : State → Type 0
AreOfStreams w = EachEntry (λ tag p. IsOfStream p.body) w

-- a node with a link at port 0 has no request
abbrev pub NoneAsks : State → Type 0
NoneAsks w = (x d : ℕ) → link_at w.tree.links x 0 ≡ Some d → (node_at w x).requests ≡ []

-- none of these pending answers of node x leaves: the first has no route, and they leave in order
abbrev pub NoneLeaves : State → ℕ → List Packet → Type 0
NoneLeaves w x [] = Unit {0}
NoneLeaves w x (p ∷ ps) = route_from w.tree w.nodes x p.dst ≡ None

-- none of any node does
abbrev pub NoneReplies : State → Type 0
NoneReplies w = (x : ℕ) → NoneLeaves w x (node_at w x).pending

-- No request or answer is under way, and none can enter. Requests may wait at a host without a link, and answers at a
-- crossbar or an adapter whose table has no way for the first of them any more.
pub record HasNoMessages (w : State) : Type 0 where
  pub queued : AreOfStreams w
  pub asks : NoneAsks w
  pub replies : NoneReplies w
