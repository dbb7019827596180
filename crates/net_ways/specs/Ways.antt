-- The ways of streams over the queues of a network, and what a stream has under way on them.
use Rattle.std.specs.Prelude.{◌≡◌, ℕ, ◌==◌, ◌<◌, Bool, false, List, [], ◌∷◌, ◌++◌, length, map, Some, unwrap_or, if◌then◌else◌}
use Rattle.chdr_packets.specs.declared.packet.Body.{Body}
use Rattle.chdr_packets.specs.declared.packet.Body.TheVariants as body
use Rattle.chdr_words.specs.declared.epid.Epid.{Epid}
use Rattle.net_topology.specs.Leads.{Leads}
use Rattle.net_topology.specs.Links.{NoneTwice}
use Rattle.net_topology.specs.Parts.{way_of}
use Rattle.net_topology.specs.Tree.{IsTree, node_with}
use Rattle.net_topology.specs.declared.plan.Plan.{Plan}
use Rattle.net_machine.specs.declared.plan.StreamPlan.{StreamPlan}
use Rattle.net_machine.specs.Nodes.{exits_of}
use Rattle.net_machine.specs.Plans.{first_link, plan_at}
use Rattle.net_machine.specs.Queues.{back_vc, forward_vc, queue_count, queue_of}
use Rattle.net_machine.specs.State.{Entry, State}
use Rattle.net_ways.specs.Gather.{gather}

-- the queues of directed links on a channel
abbrev pub queues_over : ℕ → List ℕ → List ℕ
queues_over vc ds = map (λ d. queue_of d vc) ds

-- the way from the node of one EPID to that of another
abbrev pub way_between : Plan → Epid → Epid → List ℕ
way_between tree a b = way_of tree.links (unwrap_or (node_with tree.nodes a) 0) (unwrap_or (node_with tree.nodes b) 0)

-- the queues of a stream's way to its consumer
abbrev pub forward_way : Plan → StreamPlan → List ℕ
forward_way tree stream = queues_over forward_vc (way_between tree stream.from stream.to)

-- the queues of the way back
abbrev pub back_way : Plan → StreamPlan → List ℕ
back_way tree stream = queues_over back_vc (way_between tree stream.to stream.from)

-- a packet for the consumer of a stream: samples or a command
abbrev pub is_ahead : StreamPlan → Epid → Body → Bool
is_ahead stream dst (body.Samples time payload) = dst.0 == stream.to.0
is_ahead stream dst (body.Command c) = dst.0 == stream.to.0
is_ahead stream dst (body.Status status) = false
is_ahead stream dst (body.Control control) = false
is_ahead stream dst (body.Management m) = false

-- a packet for its producer: a status
abbrev pub is_back : StreamPlan → Epid → Body → Bool
is_back stream dst (body.Samples time payload) = false
is_back stream dst (body.Command c) = false
is_back stream dst (body.Status status) = dst.0 == stream.from.0
is_back stream dst (body.Control control) = false
is_back stream dst (body.Management m) = false

-- an entry that passes a test, or nothing
abbrev pub picked : Bool → Entry → List Entry
picked test e = if test then e ∷ [] else []

-- what a stream picks on its way to the consumer
abbrev pub pick_ahead : StreamPlan → Entry → List Entry
pick_ahead stream e = picked (is_ahead stream e.packet.dst e.packet.body) e

-- and on the way back
abbrev pub pick_back : StreamPlan → Entry → List Entry
pick_back stream e = picked (is_back stream e.packet.dst e.packet.body) e

-- the entries of stream s under way to its consumer, the next to arrive first
abbrev pub ahead : State → ℕ → List Entry
ahead w s = let stream = plan_at w.plan s in gather (pick_ahead stream) w.queues (forward_way w.tree stream)

-- its entries under way to its producer
abbrev pub back : State → ℕ → List Entry
back w s = let stream = plan_at w.plan s in gather (pick_back stream) w.queues (back_way w.tree stream)

-- a network over a tree has its queues
pub record HasQueues (w : State) : Type 0 where
  pub tree : IsTree w.tree
  pub queues : length w.queues ≡ queue_count w.tree

-- its tables lead from one EPID to another
abbrev pub IsLedTo : State → Epid → Epid → Type 0
IsLedTo w a b = Leads w.tree (exits_of w.nodes) a b

-- these queues, of which none comes twice, are there
pub record AreQueuesOf (w : State) (qs : List ℕ) : Type 0 where
  pub once : NoneTwice qs
  pub there : (before : List ℕ) (q : ℕ) (behind : List ℕ) → qs ≡ before ++ q ∷ behind → q < length w.queues

-- Where tables lead, the queues of the way are there, and none comes twice.
abbrev pub WaysAreOverQueues : Type 0
WaysAreOverQueues = (w : State) (a b : Epid) (vc : ℕ) → vc < 2 → HasQueues w → IsLedTo w a b
    → AreQueuesOf w (queues_over vc (way_between w.tree a b))

-- a way over these queues begins with the queue of this link
pub record BeginsAt (w : State) (a b : Epid) (vc : ℕ) : Type 0 where
  pub link : ℕ
  pub behind : List ℕ
  pub first : first_link w.tree a ≡ Some link
  pub way : queues_over vc (way_between w.tree a b) ≡ queue_of link vc ∷ behind

-- Where tables lead, the way begins with the link that leaves the first node.
abbrev pub WaysBegin : Type 0
WaysBegin = (w : State) (a b : Epid) (vc : ℕ) → HasQueues w → IsLedTo w a b → BeginsAt w a b vc
