-- Where the one message of a network is.
use Rattle.std.specs.Prelude.{◌≡◌, ℕ, ◌<◌, ◌++◌, Bool, true, List, [], ◌∷◌, length, Option, None, Some, if◌then◌else◌}
use Rattle.chdr_packets.specs.declared.packet.Packet.{Packet}
use Rattle.chdr_words.specs.declared.epid.Epid.{Epid}
use Rattle.net_nodes.specs.Table.{has_place}
use Rattle.net_topology.specs.Links.{link_at}
use Rattle.net_topology.specs.Tree.{epid_at}
use Rattle.net_topology.specs.declared.plan.Plan.{Plan}
use Rattle.net_machine.specs.declared.event.Event.{Event}
use Rattle.net_machine.specs.declared.event.Event.TheVariants.{Ask, Hop, Lose, Reply}
use Rattle.net_machine.specs.Effects.{joins, on_node}
use Rattle.net_machine.specs.Laws.{HasFewInputs}
use Rattle.net_machine.specs.Moves.{IsAtRest}
use Rattle.net_machine.specs.Nodes.{is_switch, route_from}
use Rattle.net_machine.specs.State.{Message, Node, State, node_at, node_in}
use Rattle.net_ways.specs.Standing.{IsMessage}
use Rattle.net_ways.specs.Ways.{HasQueues}

pub data Stage : Type 0 where
  -- it is to leave this host as a request
  Asking : ℕ → Packet → Stage
  -- it stands in this queue; a marked one is to be lost
  UnderWay : ℕ → Bool → Packet → Stage
  -- it is an answer that is to leave this node
  Answering : ℕ → Packet → Stage
  -- it is an answer that came to this host
  Answered : ℕ → Packet → Stage
  -- it is gone
  Gone : Stage

-- a network but for its one message, and where that is
pub record Lone : Type 0 where
  pub rest : State
  pub stage : Stage

abbrev pub lone : State → Stage → Lone
lone w stage = record { rest = w; stage = stage }

-- the network with a message
abbrev pub with_message : State → Stage → State
with_message w (Asking x p) = on_node x (λ n. record n { requests = n.requests ++ p ∷ [] }) w
with_message w (UnderWay q marked p) = joins q (record { packet = p; marked = marked; tag = Message }) w
with_message w (Answering x p) = on_node x (λ n. record n { pending = n.pending ++ p ∷ [] }) w
with_message w (Answered x p) = on_node x (λ n. record n { answers = n.answers ++ p ∷ [] }) w
with_message w Gone = w

-- the network of which this is told
abbrev pub state_of : Lone → State
state_of l = with_message l.rest l.stage

-- what happens next with a message: once it came to a host or is gone, nothing does
abbrev pub next_event : Stage → Option Event
next_event (Asking x p) = Some (Ask x)
next_event (UnderWay q marked p) = Some (if marked then Lose q else Hop q)
next_event (Answering x p) = Some (Reply x)
next_event (Answered x p) = None
next_event Gone = None

-- each table has a place for each EPID of the network
abbrev pub HavePlaces : Plan → List Node → Type 0
HavePlaces tree nodes = (x z : ℕ) (epid : Epid) → is_switch tree x ≡ true → epid_at tree.nodes z ≡ Some epid
    → has_place (node_in nodes x).table epid ≡ true

-- Nothing is under way in a network, nothing happens in it, and nothing waits at its nodes but requests at hosts
-- without a link. So it is as it is built, and as a run leaves it.
pub record IsSettled (w : State) : Type 0 where
  pub queues : HasQueues w
  pub nodes : length w.nodes ≡ length w.tree.nodes
  pub places : HavePlaces w.tree w.nodes
  pub few : HasFewInputs w.plan
  pub rest : IsAtRest w
  pub clear : (x : ℕ) → (node_at w x).pending ≡ []

-- a message can go on from where it is
abbrev pub FitsStage : State → Stage → Type 0
FitsStage w (Asking x p) = IsMessage p.body × ((d : ℕ) × (link_at w.tree.links x 0 ≡ Some d))
FitsStage w (UnderWay q marked p) = IsMessage p.body × (q < length w.queues)
FitsStage w (Answering x p) = IsMessage p.body × ((d : ℕ) × (route_from w.tree w.nodes x p.dst ≡ Some d))
FitsStage w (Answered x p) = Unit {0}
FitsStage w Gone = Unit {0}

-- one message is under way in a network that is settled but for it
pub record IsLone (l : Lone) : Type 0 where
  pub settled : IsSettled l.rest
  pub fits : FitsStage l.rest l.stage
