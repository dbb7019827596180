-- Where entries stand: each in a queue of its channel, and those of a stream on its way.
use Rattle.std.specs.Prelude.{◌≡◌, ℕ, ◌<◌, Bool, IsTrue, List, ◌∷◌, ◌++◌, length, Option, Some}
use Rattle.std.specs.List.{AllByRecursion}
use Rattle.block_registers.specs.Registers.{Registers}
use Rattle.chdr_packets.specs.declared.packet.Body.{Body}
use Rattle.chdr_packets.specs.declared.packet.Body.TheVariants as body
use Rattle.chdr_packets.specs.declared.packet.Packet.{Packet}
use Rattle.chdr_words.specs.declared.epid.Epid.{Epid}
use Rattle.net_topology.specs.declared.plan.Plan.{Plan}
use Rattle.net_machine.specs.declared.event.Event.{Event}
use Rattle.net_machine.specs.declared.plan.RunPlan.{RunPlan}
use Rattle.net_machine.specs.Begin.{built}
use Rattle.net_machine.specs.Conditions.{enabled}
use Rattle.net_machine.specs.Effects.{after}
use Rattle.net_machine.specs.Moves.{IsAllowed, Move, after_move}
use Rattle.net_machine.specs.Plans.{plan_at, stream_from, stream_to}
use Rattle.net_machine.specs.Queues.{back_vc, channel_of, forward_vc}
use Rattle.net_machine.specs.State.{Entry, Node, State, node_at, queue_at, stream_at}
use Rattle.net_ways.specs.Hops.{GoesAhead}
use Rattle.net_ways.specs.Ways.{HasQueues, IsLedTo, back_way, forward_way}

-- a queue is one of a way
pub record IsOn (q : ℕ) (qs : List ℕ) : Type 0 where
  pub before : List ℕ
  pub behind : List ℕ
  pub way : qs ≡ before ++ q ∷ behind

-- on the way of the stream that ends at this EPID
pub record StandsAhead (tree : Plan) (plan : RunPlan) (q : ℕ) (dst : Epid) : Type 0 where
  pub stream : ℕ
  pub to : (plan_at plan stream).to ≡ dst
  pub mine : stream_to plan dst ≡ Some stream
  pub on : IsOn q (forward_way tree (plan_at plan stream))

-- on the way back of the stream that begins at this EPID
pub record StandsBack (tree : Plan) (plan : RunPlan) (q : ℕ) (dst : Epid) : Type 0 where
  pub stream : ℕ
  pub from : (plan_at plan stream).from ≡ dst
  pub mine : stream_from plan dst ≡ Some stream
  pub on : IsOn q (back_way tree (plan_at plan stream))

-- a packet with this body stands in queue q where it may
abbrev pub Stands : Plan → RunPlan → ℕ → Epid → Body → Type 0
Stands tree plan q dst (body.Samples time payload) = StandsAhead tree plan q dst
Stands tree plan q dst (body.Command c) = StandsAhead tree plan q dst
Stands tree plan q dst (body.Status status) = StandsBack tree plan q dst
Stands tree plan q dst (body.Control control) = Unit {0}
Stands tree plan q dst (body.Management m) = Unit {0}

-- an entry of queue q has its channel, and stands there as it may
pub record IsPlaced (tree : Plan) (plan : RunPlan) (q : ℕ) (e : Entry) : Type 0 where
  pub channel : e.packet.vc ≡ channel_of q
  pub stands : Stands tree plan q e.packet.dst e.packet.body

-- each entry of each queue does
abbrev pub ArePlaced : State → Type 0
ArePlaced w = (q : ℕ) → AllByRecursion (IsPlaced w.tree w.plan q) (queue_at w.queues q)

-- a packet is no stream's
abbrev pub IsMessage : Body → Type 0
IsMessage (body.Samples time payload) = ⊥
IsMessage (body.Command c) = ⊥
IsMessage (body.Status status) = ⊥
IsMessage (body.Control control) = Unit {0}
IsMessage (body.Management m) = Unit {0}

-- the tables lead stream s both ways, and it is found at both its ends
pub record HasWays (w : State) (s : ℕ) : Type 0 where
  pub forth : IsLedTo w (plan_at w.plan s).from (plan_at w.plan s).to
  pub back : IsLedTo w (plan_at w.plan s).to (plan_at w.plan s).from
  pub to : stream_to w.plan (plan_at w.plan s).to ≡ Some s
  pub from : stream_from w.plan (plan_at w.plan s).from ≡ Some s

-- a packet that waits at a node to enter this channel, and is no stream's
abbrev pub IsMessageOn : ℕ → Packet → Type 0
IsMessageOn vc p = (p.vc ≡ vc) × IsMessage p.body

-- the requests and the pending answers of a node are such packets
pub record HoldsMessages (n : Node) : Type 0 where
  pub requests : AllByRecursion (IsMessageOn forward_vc) n.requests
  pub pending : AllByRecursion (IsMessageOn back_vc) n.pending

-- those of all nodes are
abbrev pub AreMessages : State → Type 0
AreMessages w = (x : ℕ) → HoldsMessages (node_at w x)

-- what waits to enter may stand in its first queue
pub record AreReady (w : State) : Type 0 where
  pub samples : (s : ℕ) (p : Packet) (rest : List Packet) → (stream_at w s).ready ≡ p ∷ rest → GoesAhead p.body
  pub messages : AreMessages w

-- each stream of the plan is there, and has its ways
pub record HaveWays (w : State) : Type 0 where
  pub as_many : length w.streams ≡ length w.plan.streams
  pub each : (s : ℕ) → s < length w.plan.streams → HasWays w s

-- Entries stay where they may stand.
abbrev pub PlacesStay : Type 0
PlacesStay = (w : State) (e : Event) → HasQueues w → HaveWays w → AreReady w → IsTrue (enabled w e)
    → ArePlaced w → ArePlaced (after w e)

-- Nodes go on to hold such packets alone.
abbrev pub MessagesStay : Type 0
MessagesStay = (w : State) (move : Move) → IsAllowed w move → AreMessages w → AreMessages (after_move w move)

-- A network is built without any.
abbrev pub BuiltHoldsMessages : Type 0
BuiltHoldsMessages = (tree : Plan) (routed : Bool) (banks : List (Option Registers)) → AreMessages (built tree routed banks)
