-- What conditions read of a state: its front.
use Rattle.std.specs.Prelude.{ℕ, Bool, List, [], length, map, slice_index_or}
use Rattle.chdr_packets.specs.declared.packet.Packet.{Packet}
use Rattle.net_topology.specs.declared.plan.Plan.{Plan}
use Rattle.stream_endpoint.specs.declared.count.Count.{Count}
use Rattle.stream_endpoint.specs.declared.state.OutState.{OutState}
use Rattle.stream_endpoint.specs.Receiver.{is_due}
use Rattle.net_machine.specs.declared.plan.RunPlan.{RunPlan}
use Rattle.net_machine.specs.State.{Entry, Node, Stream, State, idle}

-- an entry without its tag
pub record Queued : Type 0 where
  pub packet : Packet
  pub marked : Bool

pub record StreamFront : Type 0 where
  pub ready : List Packet
  -- of the sender
  pub state : OutState
  pub outstanding : Count
  pub commanded : Bool
  -- a status is due at the receiver
  pub due : Bool
  -- how many packets were given and taken
  pub given : ℕ
  pub taken : ℕ

pub record Front : Type 0 where
  pub tree : Plan
  pub plan : RunPlan
  pub queues : List (List Queued)
  pub nodes : List Node
  pub streams : List StreamFront

-- what conditions read of an entry
abbrev pub queued : Entry → Queued
queued e = record { packet = e.packet; marked = e.marked }

-- what conditions read of a stream
abbrev pub stream_front : Stream → StreamFront
stream_front st = record {
  ready = st.ready;
  state = st.sender.state;
  outstanding = st.sender.outstanding;
  commanded = st.sender.commanded;
  due = is_due st.receiver;
  given = length st.given;
  taken = st.taken;
}

-- what conditions read of a state
abbrev pub front : State → Front
front w = record {
  tree = w.tree;
  plan = w.plan;
  queues = map (map queued) w.queues;
  nodes = w.nodes;
  streams = map stream_front w.streams;
}

-- stream s
abbrev pub front_at : Front → ℕ → StreamFront
front_at f s = slice_index_or f.streams s (stream_front idle)

-- the entries of queue q
abbrev pub queued_at : Front → ℕ → List Queued
queued_at f q = slice_index_or f.queues q []
