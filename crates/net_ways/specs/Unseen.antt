-- What a stream doesn't see: other streams, nodes, and entries that aren't its own.
use Rattle.std.specs.Prelude.{◌≡◌, ◌≢◌, ℕ, false, List, ◌∷◌, Some}
use Rattle.chdr_packets.specs.declared.packet.Body.{Body}
use Rattle.chdr_packets.specs.declared.packet.Body.TheVariants as body
use Rattle.net_topology.specs.Links.{end_of}
use Rattle.net_machine.specs.declared.event.Event.TheVariants.{Hop, Lose}
use Rattle.net_machine.specs.declared.plan.StreamPlan.{StreamPlan}
use Rattle.net_machine.specs.Effects.{after, joins, leaves, on_node, on_stream}
use Rattle.net_machine.specs.Nodes.{is_switch, own_epid}
use Rattle.net_machine.specs.Plans.{plan_at, stream_from, stream_to}
use Rattle.net_machine.specs.Queues.{link_of_queue}
use Rattle.net_machine.specs.State.{Entry, Node, State, Stream, queue_at}
use Rattle.net_ways.specs.Hops.{IsUnseen}
use Rattle.net_ways.specs.Ways.{is_ahead, is_back}

-- an entry isn't of a stream
pub record IsForeign (stream : StreamPlan) (e : Entry) : Type 0 where
  pub ahead : is_ahead stream e.packet.dst e.packet.body ≡ false
  pub back : is_back stream e.packet.dst e.packet.body ≡ false

-- at the end node x a packet with this body doesn't come to stream t
abbrev pub IsElsewhere : State → ℕ → ℕ → Body → Type 0
IsElsewhere w x t (body.Samples time payload) = stream_to w.plan (own_epid w.tree x) ≢ Some t
IsElsewhere w x t (body.Command c) = stream_to w.plan (own_epid w.tree x) ≢ Some t
IsElsewhere w x t (body.Status status) = stream_from w.plan (own_epid w.tree x) ≢ Some t
IsElsewhere w x t (body.Control control) = Unit {0}
IsElsewhere w x t (body.Management m) = Unit {0}

-- What isn't seen twice isn't seen.
abbrev pub UnseenTwice : Type 0
UnseenTwice = (w v u : State) (t : ℕ) → IsUnseen w v t → IsUnseen v u t → IsUnseen w u t

-- Another stream changes.
abbrev pub StreamsUnseen : Type 0
StreamsUnseen = (w : State) (s t : ℕ) (next : Stream → Stream) → t ≢ s → IsUnseen w (on_stream s next w) t

-- A node changes.
abbrev pub NodesUnseen : Type 0
NodesUnseen = (w : State) (x t : ℕ) (next : Node → Node) → IsUnseen w (on_node x next w) t

-- An entry that isn't of stream t joins a queue.
abbrev pub JoinsUnseen : Type 0
JoinsUnseen = (w : State) (t q : ℕ) (e : Entry) → IsForeign (plan_at w.plan t) e → IsUnseen w (joins q e w) t

-- An entry that isn't of stream t leaves a queue.
abbrev pub LeavesUnseen : Type 0
LeavesUnseen = (w : State) (t q : ℕ) (e : Entry) (rest : List Entry) → queue_at w.queues q ≡ e ∷ rest
    → IsForeign (plan_at w.plan t) e → IsUnseen w (leaves q rest w) t

-- It hops: it goes on, comes to another stream, is answered, operated, performed, or gone.
abbrev pub HopsUnseen : Type 0
HopsUnseen = (w : State) (t q : ℕ) (e : Entry) (rest : List Entry) → queue_at w.queues q ≡ e ∷ rest
    → IsForeign (plan_at w.plan t) e
    → (is_switch w.tree (end_of w.tree.links (link_of_queue q)) ≡ false
    → IsElsewhere w (end_of w.tree.links (link_of_queue q)) t e.packet.body)
    → IsUnseen w (after w (Hop q)) t

-- It is lost.
abbrev pub LossesUnseen : Type 0
LossesUnseen = (w : State) (t q : ℕ) (e : Entry) (rest : List Entry) → queue_at w.queues q ≡ e ∷ rest
    → IsForeign (plan_at w.plan t) e → IsUnseen w (after w (Lose q)) t
